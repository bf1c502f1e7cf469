-- What a filter keeps of a log (own).
use Rattle.std.specs.Prelude.{◌≡◌, ℕ, ◌/◌, Bool, true, false, None, Some, List, ◌∷◌}
use Rattle.std.specs.Option.{IsSomeAnd}
use Rattle.std.specs.HashMap.{get}
use Rattle.clmodel.specs.Cells.{byte_count, covers}
use Rattle.clmodel.specs.Launch.{Launch, group_of}
use Rattle.clmodel.specs.Law.{Logged}
use Rattle.clmodel.specs.declared.access.Access.{Access}
use Rattle.ordered_runs.specs.Ordered.{newest_race}
use Rattle.race_filter.specs.Sorts.{IsKept, are_of_bytes, is_let, is_of_byte, next_kept}
use Rattle.race_filter.specs.Words.{byte_in, same_part, word_in}
use Rattle.race_filter.specs.declared.filter.RaceFilter.{RaceFilter}
use Rattle.race_filter.specs.declared.filter.Noted.{Noted}
use Rattle.race_filter.specs.declared.part.Part.{Part}

-- what is kept at a part tells of an access
abbrev pub Tells : Launch → RaceFilter → Part → Access → Type 0
Tells launch filter part y = IsSomeAnd (get same_part filter.parts part) (λ k. IsKept launch k y)

-- each access of a log is one of those of which something is kept at the word of each of its bytes, and where it
-- touches one byte, at that byte too
abbrev pub AreKept : Launch → RaceFilter → List Access → Type 0
AreKept launch filter log =
    (y : Access) → Logged log y → (byte : ℕ) → covers y.first (byte_count y.width) byte ≡ true
    → Tells launch filter (word_in y.region (byte / 4)) y × (is_of_byte y.width ≡ true → Tells launch filter (byte_in y.region byte) y)

-- As long as no access touched three words, what is kept tells of each access of the log.
abbrev pub Keeps : Launch → RaceFilter → List Access → Type 0
Keeps launch filter log = filter.is_whole ≡ true → AreKept launch filter log

-- an access by an item of this group is noted at one part, and it is said whether what was kept there lets it by, and
-- whether all of that were accesses of one byte
pub record IsNotedAt (part : Part) (group : ℕ) (uniform : Bool) (x : Access) (old new : RaceFilter) (noted : Noted) : Type 0 where
  pub put : get same_part new.parts part ≡ Some (next_kept group (get same_part old.parts part) x)
  pub quiet : noted.quiet ≡ is_let group uniform (get same_part old.parts part) x
  pub bytes : noted.of_bytes ≡ are_of_bytes (get same_part old.parts part)
  pub others : (q : Part) → same_part part q ≡ false → get same_part new.parts q ≡ get same_part old.parts q
  pub whole : new.is_whole ≡ old.is_whole

-- An access by an item of this group is passed: what is kept then tells of it and of those before, and where true is
-- said it races with none of these.
abbrev pub IsPassed : (group : ℕ) → (uniform : Bool) → Access → RaceFilter → RaceFilter → Bool → Type 0
IsPassed group uniform x old new quiet =
    (launch : Launch) (log : List Access) → launch.uniform ≡ uniform → group_of launch x.item ≡ group → Keeps launch old log
    → Keeps launch new (x ∷ log) × (quiet ≡ true → newest_race launch (x ∷ log) ≡ None)
