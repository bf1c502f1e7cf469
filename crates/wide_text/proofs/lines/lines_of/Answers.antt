use Rattle.std.proofs.Common.{◌+◌, ◌++◌, ◌∷◌, [], List, ℕ, get_or, ap, sym, ◌∙◌, subst, refl, if◌then◌else◌}
use Rattle.std.proofs.lemmas.List.{drop_more}
use Rattle.simfile.specs.declared.script.CommandPlace.{CommandPlace}
use Rattle.wide_text.proofs.Flagged.{Gathers, line_more, lines_all}
use Rattle.wide_text.proofs.lines.lines_of.Goals as goal

pub loop-number-init : goal.loop-number-init
loop-number-init c = subst (λ (lines : List ℕ). Gathers c.args.flags.now c.args.places.now lines 0) (sym c.new-lines.ensures.items) refl

pub loop-number-preserved : goal.loop-number-preserved
loop-number-preserved c =
    let flags = c.args.flags.now in
    let places = c.args.places.now in
    let i = c.loop-number.number in
    let lines = c.loop-number.lines.items in
    let none : CommandPlace = record { at = 0; line = 0; source_line = 0 } in
    let place = get_or places i none in
    let more = c.in_ok-push_if.ensures ∙ ap (λ b. lines ++ (if b then place.line ∷ [] else [])) c.is_set.ensures in
    subst (λ (l : List ℕ). Gathers flags places l (i + 1)) (sym more)
    (line_more flags places lines i place (drop_more places i none c.loop-number-test.true) c.loop-number.invariant)

pub returns : goal.returns
returns c = lines_all c.args.flags.now c.args.places.now c.loop-number.lines.items c.loop-number.number c.loop-number-test.false c.loop-number.invariant
