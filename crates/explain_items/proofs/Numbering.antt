-- The numbers of events as they are told.
use Rattle.std.proofs.Common.{◌≡◌, ◌<◌, ◌≤◌, ◌+◌, ℕ, Option, None, Some, List, count_by, length, refl, sym, subst}
use Rattle.std.specs.Option.{IfNone, IfSome}
use Rattle.fault_play.specs.PlayedOut.{MadeAccess, is_access}
use Rattle.fault_play.specs.declared.marks.Mark.{Mark}
use Rattle.explain_items.specs.Deeds.{IsEventAt}
use Rattle.explain_items.specs.Named.{AtAccess}
use Rattle.explain_items.proofs.Counting.{some_below}

-- the event of an access, by the number from 1 of the one that was found
pub event_at :
    (marks : List Mark) (access : ℕ) (event number : Option ℕ) → IfSome event (MadeAccess marks access) → IfNone event (count_by (λ mark. is_access mark.event) marks ≤ access)
    → IfSome event (λ n. n < length marks → number ≡ Some (n + 1)) → IfNone event (number ≡ None) → IsEventAt marks (AtAccess access) number
event_at marks access None number made few some none = subst (λ (o : Option ℕ). IsEventAt marks (AtAccess access) o) (sym none) few
event_at marks access (Some n) number made few some none =
    subst (λ (o : Option ℕ). IsEventAt marks (AtAccess access) o) (sym (some (some_below marks n made.mark made.at))) (n, refl, made)
