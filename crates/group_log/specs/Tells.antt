-- Kept accesses that tell what all accesses of a group do (own, on OpenCL 1.2, 3.3.1 and 6.12.8).
use Rattle.std.specs.Prelude.{◌≡◌, ℕ, ◌<◌, ◌⊎◌, Bool, None, List, [], ◌∷◌, ◌++◌}
use Rattle.clmodel.specs.Launch.{within_group}
use Rattle.access_list.specs.Log.{Log, hit_on, in_buffer}
use Rattle.access_list.specs.declared.log.Entry.{Entry}
use Rattle.group_log.specs.Covers.{Covers}

-- whatever access of a running interval to buffers, or to local objects, conflicts with one of the whole list conflicts
-- at that byte with the same kept one first, and one of a later interval with none (3.3.1, 6.12.8)
pub record Tells (uniform : Bool) (buffers : Bool) (interval : ℕ) (kept whole : List Entry) : Type 0 where
  pub now : (z : Entry) (byte : ℕ) → in_buffer z.access.region ≡ buffers → z.access.interval ≡ interval
      → hit_on (within_group uniform) z byte whole ≡ hit_on (within_group uniform) z byte kept
  pub later : (z : Entry) (byte : ℕ) → in_buffer z.access.region ≡ buffers → interval < z.access.interval → hit_on (within_group uniform) z byte whole ≡ None

-- the kept accesses once one more is made: it is kept, or it tells nothing that they don't (own)
abbrev pub IsTaken : Bool → List Entry → Entry → List Entry → Type 0
IsTaken uniform kept x new = (new ≡ kept ++ x ∷ []) ⊎ ((new ≡ kept) × Covers uniform kept x.access)

-- a log with one access more, at its end (own)
abbrev pub with_last : Log → Entry → Log
with_last log x = record log { accesses = log.accesses ++ x ∷ [] }
