use Rattle.std.proofs.Common.{◌≡◌, sym, ap, ◌∙◌, subst}
use Rattle.group_traces.specs.Cells.{word_trace, FitsInPlace}
use Rattle.group_traces.specs.Traces.{part_with, word_byte}
use Rattle.group_traces.specs.declared.cell.TracedWord.{TracedWord}
use Rattle.group_traces.proofs.Keeping.{whole_part}
use Rattle.group_traces.proofs.cell.TracedWord.with.Goals as goal

pub returns-in-Untouched-clause-with : goal.returns-in-Untouched-clause-with
returns-in-Untouched-clause-with c apart key n k small =
    c.first.ensures.with apart key n k small ∙ sym (ap (λ (u : TracedWord). part_with c.args.x.now c.args.first c.args.count k (word_trace apart key n u k)) c.in-Untouched.is)

pub returns-in-Whole-clause-with : goal.returns-in-Whole-clause-with
returns-in-Whole-clause-with c apart key n k small =
    let x = c.args.x.now in
    let all : c.args.count ≡ 4 = subst (FitsInPlace x c.args.first c.args.count) c.in-Whole.is c.requires.holds in
    c.with.ensures k small ∙ whole_part x c.args.first c.args.count k c.args.mark (word_byte c.in-Whole.whole k) c.requires.one_word all small c.requires.mark
    ∙ sym (ap (λ (u : TracedWord). part_with x c.args.first c.args.count k (word_trace apart key n u k)) c.in-Whole.is)

pub returns-in-Apart-clause-with : goal.returns-in-Apart-clause-with
returns-in-Apart-clause-with c = absurd (subst (FitsInPlace c.args.x.now c.args.first c.args.count) c.in-Apart.is c.requires.holds)

pub returns-in-Apart-clause-whole : goal.returns-in-Apart-clause-whole
returns-in-Apart-clause-whole c = absurd (subst (FitsInPlace c.args.x.now c.args.first c.args.count) c.in-Apart.is c.requires.holds)
