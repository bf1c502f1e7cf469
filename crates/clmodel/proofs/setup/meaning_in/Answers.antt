use Rattle.std.proofs.Common.{◌≡◌, ℕ, List, Option, None, Some, sym, ap, ◌∙◌}
use Rattle.std.specs.Prelude.{slice_get}
use Rattle.std.specs.Borrow.{Bor}
use Rattle.std.specs.Option.{option_map}
use Rattle.std.proofs.lemmas.Option.{slice_get-map, slice_get-get_or, slice_get_past}
use Rattle.clmodel.specs.BuiltIns.{meanings}
use Rattle.clmodel.specs.declared.setup.Predefined.{Predefined}
use Rattle.clmodel.proofs.setup.meaning_in.Goals as goal

looked_up : (table : List (Bor (List ℕ) × Predefined)) (place : ℕ) (entry : Option (Bor (List ℕ) × Predefined))
    → slice_get table place ≡ entry → option_map (λ e. e.1) entry ≡ slice_get (meanings table) place
looked_up table place entry found =
    sym (slice_get-map (λ (e : Bor (List ℕ) × Predefined). e.1) table place ∙ ap (option_map (λ (e : Bor (List ℕ) × Predefined). e.1)) found)

pub returns-in-Some : goal.returns-in-Some
returns-in-Some c =
    let table = c.args.table.now in
    let there = c.in-Some.ensures.lookup in
    looked_up table c.args.place (Some c.in-Some.entry.now) (slice_get-get_or table c.args.place c.in-Some.entry.now there.3.0 ∙ ap Some (sym there.1))

pub returns-in-None : goal.returns-in-None
returns-in-None c = looked_up c.args.table.now c.args.place None (slice_get_past c.args.table.now c.args.place c.in-None.ensures.lookup.3)
