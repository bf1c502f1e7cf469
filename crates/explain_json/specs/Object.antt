-- An object in the making, which gets its members from the last name to the first.
use Rattle.std.specs.Prelude.{◌≡◌, ℕ, List, true, IfOk}
use Rattle.std.specs.Ordering.{nat_cmp, is_lt}
use Rattle.std.specs.Cmp.Lexicographic.{slice_cmp}
use Rattle.serde_json.specs.Data.{Data, Members, no_members, member}
use Rattle.serde_json.specs.View.{members_view}
use Rattle.explain_json.specs.declared.object.Object.{Object}

-- where there was memory for it, these are its members
pub record Has (o : Object) (ms : Members) : Type 0 where
  pub members : IfOk o.members (λ map. members_view map.entries ≡ ms)

-- a name is lower than those of these members, of which the first is the lowest
abbrev pub IsBelow : List ℕ → Members → Type 0
IsBelow name no_members = Unit {0}
IsBelow name (member first d ms) = is_lt (slice_cmp nat_cmp name first) ≡ true

-- an object gets a member in front of those that it has
abbrev pub Adds : Object → List ℕ → Data → Object → Type 0
Adds o name d longer = (ms : Members) → IsBelow name ms → Has o ms → Has longer (member name d ms)
