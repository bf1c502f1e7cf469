use Rattle.std.proofs.Common.{◌≡◌, false, [], ◌∷◌, get_or, refl}
use Rattle.group_traces.specs.Traces.{untouched, single_byte}
use Rattle.group_traces.specs.declared.single.Singles.{Singles}
use Rattle.group_traces.proofs.Fours.{each_of_four}
use Rattle.group_traces.proofs.single.Singles.none.Goals as goal

pub returns-clause-bytes : goal.returns-clause-bytes
returns-clause-bytes c =
    let s : Singles = record { how = record { kind = c.args.kind; touched = false ∷ false ∷ false ∷ false ∷ []; left = 0 ∷ 0 ∷ 0 ∷ 0 ∷ [] }; who = record { interval = c.args.interval; items = 0 ∷ 0 ∷ 0 ∷ 0 ∷ [] } } in
    each_of_four (λ k. single_byte s k ≡ untouched) refl refl refl refl

pub returns-clause-touched : goal.returns-clause-touched
returns-clause-touched c = each_of_four (λ k. get_or (false ∷ false ∷ false ∷ false ∷ []) k false ≡ false) refl refl refl refl
