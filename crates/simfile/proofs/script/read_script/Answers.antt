use Rattle.std.proofs.Common.{rules, ◌≡◌, [], ◌∷◌, ◌≤◌, ◌+◌, length, ap, refl, sym, ◌∙◌, inl, inr, arith, length-append}
use Rattle.std.proofs.lemmas.Bool.{eqb-true, eqb-false}
use Rattle.simfile.specs.Views.{command_of}
use Rattle.simfile.proofs.Places.{at_itself, none_at, one_more_at, takes_some}
use Rattle.simfile.proofs.Scripts.{starts, one_more, rest_within, whole, one_script, bad_line}
use Rattle.simfile.proofs.script.read_script.Goals as goal

pub place_of-place-requires-clause-placed : goal.place_of-place-requires-clause-placed
place_of-place-requires-clause-placed c = record { at = refl; line = refl; few = omega arith; source_line = refl }

pub place_of-place-requires-clause-onward : goal.place_of-place-requires-clause-onward
place_of-place-requires-clause-onward c = omega (arith, rest_within c.args.bytes.now c.version_at-version.result.0 [] c.version_at-version.result.1.now (starts _ _ _ _ c.version_at-version.ensures refl))

pub loop-init : goal.loop-init
loop-init c =
    let none : c.new.result.items ≡ [] = search rules in
    let empty : c.new-2.result.items ≡ [] = search rules in
    record { at = starts _ _ _ _ c.version_at-version.ensures none; count = ap length none; placed = none_at _ _ _ none empty; here = c.place_of-place.ensures }

pub place_of-place-requires-in-loop-clause-placed : goal.place_of-place-requires-in-loop-clause-placed
place_of-place-requires-in-loop-clause-placed c = at_itself _ _ _ c.loop.invariant.here

pub place_of-place-requires-in-loop-clause-onward : goal.place_of-place-requires-in-loop-clause-onward
place_of-place-requires-in-loop-clause-onward c =
    omega (arith, c.loop.invariant.here.at, takes_some _ c.loop.rest.now (command_of c.in-Some.line) c.in-Some.others.now (sym c.in-Some.ensures), rest_within c.args.bytes.now _ c.loop.script.commands.items c.loop.rest.now c.loop.invariant.at)

pub loop-preserved : goal.loop-preserved
loop-preserved c = record {
  at = rw c.in_ok-add.ensures.command (one_more _ _ c.loop.script.commands.items c.loop.rest.now (command_of c.in-Some.line) c.in-Some.others.now c.loop.invariant.at (sym c.in-Some.ensures));
  count = omega (arith, ap length c.in_ok-add.ensures.command, length-append c.loop.script.commands.items (command_of c.in-Some.line ∷ []), c.loop.invariant.count);
  placed =
      rw (c.in_ok-add.ensures.command, c.in_ok-add.ensures.place)
      (one_more_at _ _ c.loop.script.commands.items c.loop.script.places.items c.loop.rest.now (command_of c.in-Some.line) c.in-Some.others.now c.loop.place c.loop.invariant.placed c.loop.invariant.at (sym c.in-Some.ensures) c.loop.invariant.here);
  here = c.place_of-place-in-loop.ensures;
}

pub returns-then-is_empty : goal.returns-then-is_empty
returns-then-is_empty c =
    let short : length c.loop.script.commands.items ≤ 4096 = omega (arith, c.loop.invariant.count) in
    let all = whole _ _ c.loop.script.commands.items c.loop.rest.now c.loop.invariant.at short (eqb-true _ _ (sym c.is_empty.ensures ∙ c.if-is_empty.true)) in
    record { found = all; placed = c.loop.invariant.placed; only = λ commands h. one_script c.args.bytes.now c.loop.script.commands.items commands all h; bad = tt }

pub returns-in_default-clause-bad : goal.returns-in_default-clause-bad
returns-in_default-clause-bad c =
    let short : length c.loop.script.commands.items ≤ 4096 = omega (arith, c.loop.invariant.count) in
    let filled : length c.loop.rest.now ≡ 0 → ⊥ = eqb-false _ _ (sym c.is_empty.ensures ∙ c.if-is_empty.false) in
    bad_line c.args.bytes.now _ c.loop.script.commands.items c.loop.rest.now c.loop.place.line c.loop.invariant.at short (omega (arith, filled)) (inl (sym c.in_default.ensures)) c.loop.invariant.here.line

pub returns-then-is_empty-2 : goal.returns-then-is_empty-2
returns-then-is_empty-2 c =
    let short : length c.loop.script.commands.items ≤ 4096 = omega (arith, c.loop.invariant.count) in
    let all = whole _ _ c.loop.script.commands.items c.loop.rest.now c.loop.invariant.at short (eqb-true _ _ (sym c.is_empty-2.ensures ∙ c.if-is_empty-2.true)) in
    record { found = all; placed = c.loop.invariant.placed; only = λ commands h. one_script c.args.bytes.now c.loop.script.commands.items commands all h; bad = tt }

pub returns-clause-bad : goal.returns-clause-bad
returns-clause-bad c =
    let full : length c.loop.script.commands.items ≡ 4096 = omega (arith, c.loop.invariant.count) in
    let filled : length c.loop.rest.now ≡ 0 → ⊥ = eqb-false _ _ (sym c.is_empty-2.ensures ∙ c.if-is_empty-2.false) in
    bad_line c.args.bytes.now _ c.loop.script.commands.items c.loop.rest.now c.loop.place.line c.loop.invariant.at (omega (arith, full)) (omega (arith, filled)) (inr full) c.loop.invariant.here.line
