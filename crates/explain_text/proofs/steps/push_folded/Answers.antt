use Rattle.std.proofs.Common.{◌≡◌, ◌+◌, ◌-◌, string_bytes, arith}
use Rattle.explain_text.proofs.Added.{more_added, steps_more, steps_same}
use Rattle.explain_text.proofs.steps.push_folded.Goals as goal

pub returns : goal.returns
returns c =
    let steps = c.args.steps.now in
    let from = c.args.from in
    let end = c.args.end in
    let old = string_bytes c.args.out.now in
    let one = string_bytes c.push_step.new.out in
    let two = string_bytes c.push_more.new.out in
    let new = string_bytes c.push_step-2.new.out in
    let between : (from + 1) + (end - from - 2) ≡ end - 1 = omega (arith, c.requires.long) in
    let whole : (end - 1) + 1 ≡ end = omega (arith, c.requires.long) in
    let middle =
    more_added steps (from + 1) (end - 1) (end - from - 2) one two between (λ at above below. c.requires.events at (omega (arith, above)) (omega (arith, below, between)))
    c.in_ok-push_more.ensures in
    let last = steps_same steps (end - 1) ((end - 1) + 1) end two new whole c.in_ok-push_step-2.ensures in
    steps_more steps from (end - 1) end old two new (steps_more steps from (from + 1) (end - 1) old one two c.in_ok-push_step.ensures middle) last
