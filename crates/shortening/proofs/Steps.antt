-- Steps of a search, one after another.
use Rattle.std.proofs.Common.{ℕ, ◌+◌, ◌≤◌, List, arith}
use Rattle.clmodel.specs.Outcome.{events_of}
use Rattle.clmodel.specs.declared.schedule.Event.{Event}
use Rattle.shortening.specs.Searches.{Advances, LeadsAsBefore}
use Rattle.shortening.specs.declared.search.Search.{Search}

-- nothing was judged, and nothing changed
pub stays : {S : Type 0} (leads : S → List Event → Type 0) (judged : S → ℕ) (s : S) (w : Search) → leads s (events_of w.best) → Advances leads judged s s w w
stays leads judged s w h = record { leads_there = h; same = λ es. (λ a. a, λ a. a); not_longer = omega arith; counted = omega arith }

pub then : {S : Type 0} (leads : S → List Event → Type 0) (judged : S → ℕ) (a b c : S) (u v w : Search) → Advances leads judged a b u v → Advances leads judged b c v w → Advances leads judged a c u w
then leads judged a b c u v w p q = record {
  leads_there = q.leads_there;
  same = λ es. (λ h. (q.same es).0 ((p.same es).0 h), λ h. (p.same es).1 ((q.same es).1 h));
  not_longer = omega (arith, p.not_longer, q.not_longer);
  counted = omega (arith, p.counted, q.counted);
}
