-- Items that weren't asked yet.
use Rattle.std.proofs.Common.{◌≡◌, ℕ, zero, suc, Some, replicate, sym}
use Rattle.std.specs.Prelude.{slice_get}
use Rattle.clmodel.proofs.Steps.{none_some, some_inj}
use Rattle.launches.specs.declared.slot.Slot.{Slot}
use Rattle.launches.specs.declared.slot.Slot.TheVariants as slot

-- each of them waits
pub waiting_at : (n k : ℕ) (i : Slot) → slice_get (replicate n slot.Waiting) k ≡ Some i → i ≡ slot.Waiting
waiting_at zero k i e = absurd (none_some i e)
waiting_at (suc n) zero i e = sym (some_inj slot.Waiting i e)
waiting_at (suc n) (suc k) i e = waiting_at n k i e
