use Rattle.std.proofs.Common.{◌≡◌, ℕ, List, Ordering, Less, Equal, Greater, true, IfOk, refl, subst}
use Rattle.std.specs.Ordering.{is_lt, match_ordering}
use Rattle.serde_json.specs.Data.{Data, Members, no_members, member, put}
use Rattle.serde_json.specs.View.{members_view}
use Rattle.explain_json.specs.Object.{IsBelow}
use Rattle.explain_json.proofs.object.Object.with_value.Goals as goal

first : (o : Ordering) (a b c : Members) → is_lt o ≡ true → match_ordering o a b c ≡ a
first Less a b c lower = refl
first Equal a b c lower = cc
first Greater a b c lower = cc

in_front : (name : List ℕ) (d : Data) (ms : Members) → IsBelow name ms → put name d ms ≡ member name d ms
in_front name d no_members below = refl
in_front name d (member lowest e ms) below = first _ _ _ _ below

pub returns : goal.returns
returns c = λ d made ms below has. record {
  members =
      subst (λ ms'. IfOk c.longer.result (λ map. members_view map.entries ≡ ms')) (in_front c.args.name.now d ms below) (c.longer.ensures ms d has.members made);
}
