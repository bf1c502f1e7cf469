use Rattle.std.proofs.Common.{rules, ◌≡◌, List, ℕ, Bor, map, None, Some, ap, sym, ◌∙◌}
use Rattle.std.proofs.lemmas.List.{length-map}
use Rattle.written_scripts.specs.Paths.{paths_from}
use Rattle.written_scripts.proofs.PathSteps.{stop_shown, more_shown}
use Rattle.written_scripts.proofs.paths.paths_behind.Goals as goal

pub returns-in_default : goal.returns-in_default
returns-in_default c =
    let now = λ (line : Bor (List ℕ)). line.now in
    let none : c.in_ok-path.field-0 ≡ None = search rules in
    stop_shown now c.args.lines.now c.loop-at.at _ c.loop-at.paths.items c.loop-at-test.true c.loop-at.invariant (sym c.in_ok-path.ensures.value ∙ none)
    ∙ ap (λ n. paths_from n (map now c.args.lines.now)) (length-map c.args.lines.now now)

pub loop-at-preserved : goal.loop-at-preserved
loop-at-preserved c =
    let now = λ (line : Bor (List ℕ)). line.now in
    let some : c.in_ok-path.field-0 ≡ Some (c.in-Some.path, c.in-Some.taken) = search rules in
    more_shown now c.args.lines.now c.loop-at.at _ c.loop-at.paths.items _ c.in-Some.path c.in-Some.taken c.loop-at-test.true c.loop-at.invariant (sym c.in_ok-path.ensures.value ∙ some) (search rules) c.in_ok-put_path.ensures
