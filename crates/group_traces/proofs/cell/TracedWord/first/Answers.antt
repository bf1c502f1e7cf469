use Rattle.std.proofs.Common.{◌%◌, sym, ap, ◌∙◌, arith}
use Rattle.std.proofs.lemmas.Bool.{false≢true}
use Rattle.group_traces.specs.Traces.{untouched, part_with}
use Rattle.group_traces.proofs.Keeping.{whole_part}
use Rattle.group_traces.proofs.cell.TracedWord.first.Goals as goal

pub returns-then-count-eq-WORD_BYTES-clause-with : goal.returns-then-count-eq-WORD_BYTES-clause-with
returns-then-count-eq-WORD_BYTES-clause-with c apart key n k small =
    c.of.ensures k small ∙ whole_part c.args.x.now c.args.first c.args.count k c.args.mark untouched c.requires.one_word c.if-count-eq-WORD_BYTES.true small c.requires.mark

pub with-requires-clause-holds : goal.with-requires-clause-holds
with-requires-clause-holds c =
    record { interval = c.none.ensures.interval; kind = c.none.ensures.kind; bytes = λ byte lo hi t. absurd (false≢true (sym (c.none.ensures.touched (byte % 4) (omega arith)) ∙ t)) }

pub returns-clause-with : goal.returns-clause-with
returns-clause-with c apart key n k small =
    c.of_singles.ensures.bytes apart key n k ∙ c.with.ensures k small ∙ ap (part_with c.args.x.now c.args.first c.args.count k) (c.none.ensures.bytes k small)
