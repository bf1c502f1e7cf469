-- How deep a refusal nests in JSON.
use Rattle.std.proofs.Common.{ℕ, ◌≤◌, List, Option, None, Some, arith, option_copied}
use Rattle.serde_json.specs.Data.{depth}
use Rattle.build_hints.specs.declared.refusals.Refusal.{Refusal}
use Rattle.explain_json.specs.RefusalMembers.{hints_data, refusal_data}

hints_depth : (hint : Option (List ℕ)) → depth (hints_data hint) ≤ 1
hints_depth None = omega arith
hints_depth (Some hint) = omega arith

pub refusal_depth : (name : List ℕ) (r : Refusal) → depth (refusal_data name r) ≤ 2
refusal_depth name r =
    let hints : depth (hints_data (option_copied r.hint)) ≤ 1 = hints_depth (option_copied r.hint) in
    omega arith
