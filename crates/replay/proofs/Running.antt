-- Items that came where they are from their starts.
use Rattle.std.proofs.Common.{◌≡◌, ℕ, ◌⊎◌, Some, List, [], replicate, set, refl, sym, subst, inl, inr}
use Rattle.std.specs.Prelude.{slice_get}
use Rattle.clmodel.specs.declared.action.Answer.{Answer}
use Rattle.item_step.specs.Running.{Running}
use Rattle.launches.proofs.Items.{waiting_at}
use Rattle.launches.proofs.Lists.{get_set}
use Rattle.launches.specs.Items.{Runs}
use Rattle.launches.specs.declared.slot.Slot.{Slot}
use Rattle.launches.specs.declared.slot.Slot.TheVariants as slot
use Rattle.replay.specs.Items.{AllRun}

-- items that weren't asked yet had no answers
pub none_runs : (r : ℕ → Running) (count : ℕ) → AllRun r (λ _. []) (replicate count slot.Waiting)
none_runs r count k i e = subst (Runs (r k) []) (sym (waiting_at count k i e)) refl

-- an item is put in place of one, and has come where it is with the answers that it has then
pub run_set :
    (r : ℕ → Running) (old new : ℕ → List Answer) (items : List Slot) (k : ℕ) (x y : Slot) → slice_get items k ≡ Some x → (Runs (r k) (old k) x → Runs (r k) (new k) y)
    → ((q : ℕ) → (q ≡ k → ⊥) → new q ≡ old q) → AllRun r old items → AllRun r new (set items k y)
run_set r old new items k x y there goes others h q z e = go (get_set items k y q z e)
  where
    go : ((q ≡ k) × (y ≡ z)) ⊎ ((q ≡ k → ⊥) × (slice_get items q ≡ Some z)) → Runs (r q) (new q) z
    go (inl p) = subst (Runs (r q) (new q)) p.1 (subst (λ n. Runs (r n) (new n) y) (sym p.0) (goes (h k x there)))
    go (inr p) = subst (λ answers. Runs (r q) answers z) (sym (others q p.0)) (h q z p.1)
