use Rattle.std.proofs.Common.{◌≡◌, true}
use Rattle.shadow.specs.declared.seen.Mark.{Mark}
use Rattle.group_traces.specs.Traces.{passes, tells, takes}
use Rattle.group_traces.specs.declared.trace.Trace.{Trace}
use Rattle.group_traces.proofs.Looking.{whole_byte}
use Rattle.group_traces.proofs.cell.TracedWord.sight.Goals as goal

pub returns-in-Whole-clause-clear : goal.returns-in-Whole-clause-clear
returns-in-Whole-clause-clear c h byte lo hi =
    whole_byte (λ (t : Trace) (m : Mark). passes c.args.uniform t c.args.x.now.interval m ≡ true) c.args.apart.now c.args.key c.args.n c.args.self.now c.in-Whole.whole c.args.x.now c.args.first c.args.count byte
    c.args.mark c.requires.one_word c.if-count-eq-WORD_BYTES.true c.in-Whole.is c.requires.mark lo hi (c.sight.ensures.clear h)

pub returns-in-Whole-clause-told : goal.returns-in-Whole-clause-told
returns-in-Whole-clause-told c h byte lo hi =
    whole_byte (λ (t : Trace) (m : Mark). tells t c.args.x.now.interval m ≡ true) c.args.apart.now c.args.key c.args.n c.args.self.now c.in-Whole.whole c.args.x.now c.args.first c.args.count byte
    c.args.mark c.requires.one_word c.if-count-eq-WORD_BYTES.true c.in-Whole.is c.requires.mark lo hi (c.sight.ensures.told h)

pub returns-in-Whole-clause-taken : goal.returns-in-Whole-clause-taken
returns-in-Whole-clause-taken c h byte lo hi =
    whole_byte (λ (t : Trace) (m : Mark). takes t m ≡ true) c.args.apart.now c.args.key c.args.n c.args.self.now c.in-Whole.whole c.args.x.now c.args.first c.args.count byte
    c.args.mark c.requires.one_word c.if-count-eq-WORD_BYTES.true c.in-Whole.is c.requires.mark lo hi (c.sight.ensures.taken h)
