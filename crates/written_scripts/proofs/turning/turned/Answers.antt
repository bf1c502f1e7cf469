use Rattle.std.proofs.Common.{rules, ◌≡◌, List, ℕ, Bor, None, Some}
use Rattle.written_scripts.proofs.LineSteps.{bad_shown, more_shown, whole_shown}
use Rattle.written_scripts.proofs.Steps.{none_of, some_of}
use Rattle.written_scripts.proofs.turning.turned.Goals as goal

pub returns-in_default : goal.returns-in_default
returns-in_default c =
    let none : c.in_ok-taken.field-0 ≡ None = search rules in
    bad_shown (λ (line : Bor (List ℕ)). line.now) c.args.files.now c.args.lines.now c.loop-at.at _ c.loop-at.plain c.loop-at-test.true c.loop-at.invariant (none_of _ _ c.in_ok-taken.field-0 none c.in_ok-taken.ensures)

pub loop-at-preserved : goal.loop-at-preserved
loop-at-preserved c =
    let some : c.in_ok-taken.field-0 ≡ Some c.in-Some.taken = search rules in
    more_shown (λ (line : Bor (List ℕ)). line.now) c.args.files.now c.args.lines.now c.loop-at.at _ c.loop-at.plain _ c.in-Some.taken c.loop-at-test.true c.loop-at.invariant (some_of _ _ c.in_ok-taken.field-0 c.in-Some.taken some c.in_ok-taken.ensures)

pub returns : goal.returns
returns c = whole_shown (λ (line : Bor (List ℕ)). line.now) c.args.files.now c.args.lines.now c.loop-at.at c.loop-at.plain c.loop-at-test.false c.loop-at.invariant
