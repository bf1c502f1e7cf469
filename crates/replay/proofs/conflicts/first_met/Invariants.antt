use Rattle.std.proofs.Common.{◌≡◌, ℕ, ◌<◌, Some}
use Rattle.std.specs.Prelude.{slice_get}
use Rattle.std.specs.HashMap.{get}
use Rattle.clmodel.specs.declared.access.Access.{Access}
use Rattle.replay.specs.Spots.{Meets, partner_at, same_spot}
use Rattle.replay.proofs.conflicts.first_met.Given as goal

abbrev pub invariant-loop-second : goal.invariant-loop-second
invariant-loop-second g l =
    (k : ℕ) (x : Access) → k < l.second → slice_get l.log k ≡ Some x → (j : ℕ)
    → Meets (g.D.Described.launch l.launch) l.partner.item l.partner.kind l.place.location.now l.place.byte l.rule (λ spot. partner_at l.rule.uniform (get same_spot l.firsts spot)) x j → ⊥
