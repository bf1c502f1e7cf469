-- A list of commands with their replies, as a run of the machine.
-- Numbers of sections are those of OpenCL 1.2; "own" is what this project decided.
use Rattle.std.specs.Prelude.{◌≡◌, ℕ, suc, List, length}
use mathlib.Core.Option.{some}
use lib.ListN.{get_elem?}
use Rattle.host_queue.specs.declared.view.Entry.{Entry}

-- ys begins with xs (own)
abbrev pub Begins : {A : Type 0} → List A → List A → Type 0
Begins {A} xs ys = (i : ℕ) (x : A) → get_elem? xs i ≡ some x → get_elem? ys i ≡ some x

module _ {D C R : Type 0} (step : D → C → R → D → Type 0) where
  -- the commands were done in the order in which they were enqueued, each on what the one before left: `at n` is the
  -- machine before the command n (3.2.1, 5.11)
  pub record Passes (start : D) (log : List (Entry C R)) (at : ℕ → D) : Type 0 where
    pub first : at 0 ≡ start
    pub each : (i : ℕ) (x : Entry C R) → get_elem? log i ≡ some x → step (at i) x.command x.reply (at (suc i))

  -- the list is a run of the machine from `start` (3.2.1, 5.11)
  abbrev pub Runs : D → List (Entry C R) → Type 0
  Runs start log = ∥ ((at : ℕ → D) × Passes start log at) ∥₁

  -- the same, and it leaves `end` (3.2.1, 5.11)
  abbrev pub RunsTo : D → List (Entry C R) → D → Type 0
  RunsTo start log end = ∥ ((at : ℕ → D) × Passes start log at × (at (length log) ≡ end)) ∥₁
