use Rattle.std.proofs.Common.{◌≡◌, ◌%◌, true, subst}
use Rattle.shadow.specs.Seen.{mark_of}
use Rattle.group_traces.specs.Traces.{passes, tells, takes}
use Rattle.group_traces.specs.declared.trace.Trace.{Trace}
use Rattle.group_traces.proofs.Keeping.{read_word}
use Rattle.group_traces.proofs.traces.Traces.part.Goals as goal

pub returns-clause-clear : goal.returns-clause-clear
returns-clause-clear c h byte lo hi =
    let t = c.args.self.now in
    let x = c.args.x.now in
    subst (λ (z : Trace). passes c.args.uniform z x.interval (mark_of x byte) ≡ true)
    (read_word t.apart.items c.deref.result.now t.cells.items c.args.i c.word_of-n.result _ (byte % 4) c.index-cell.result.now c.deref.ensures.value c.requires.inside c.index-cell.ensures c.word_of-n.ensures.value)
    (c.sight.ensures.clear h byte lo hi)

pub returns-clause-told : goal.returns-clause-told
returns-clause-told c h byte lo hi =
    let t = c.args.self.now in
    let x = c.args.x.now in
    subst (λ (z : Trace). tells z x.interval (mark_of x byte) ≡ true)
    (read_word t.apart.items c.deref.result.now t.cells.items c.args.i c.word_of-n.result _ (byte % 4) c.index-cell.result.now c.deref.ensures.value c.requires.inside c.index-cell.ensures c.word_of-n.ensures.value)
    (c.sight.ensures.told h byte lo hi)

pub returns-clause-taken : goal.returns-clause-taken
returns-clause-taken c h byte lo hi =
    let t = c.args.self.now in
    let x = c.args.x.now in
    subst (λ (z : Trace). takes z (mark_of x byte) ≡ true)
    (read_word t.apart.items c.deref.result.now t.cells.items c.args.i c.word_of-n.result _ (byte % 4) c.index-cell.result.now c.deref.ensures.value c.requires.inside c.index-cell.ensures c.word_of-n.ensures.value)
    (c.sight.ensures.taken h byte lo hi)
