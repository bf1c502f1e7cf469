-- Code with other registers that acts as it did (own).
use Rattle.std.specs.Prelude.{◌≡◌, ℕ, ◌^◌, ◌<◌, ◌≤◌, List, length, map}
use Rattle.clmodel.specs.Setup.{Setup}
use Rattle.clmodel.specs.declared.action.Answer.{Answer}
use Rattle.regcode.specs.Listing.{Listing}
use Rattle.regcode.specs.Machine.{acts}
use Rattle.renumbering.specs.Numbers.{Among}
use Rattle.renumbering.specs.Renamed.{renamed, all_named}

-- for each launch, each item and each list of answers new code makes the action that the old code makes (own)
abbrev pub ActsAlike : Listing → Listing → Type 0
ActsAlike old new = (setup : Setup) (item : ℕ) (answers : List Answer) → acts new setup item answers ≡ acts old setup item answers

-- New code is the old code with other registers: it acts alike, no two registers get one number of its table, and it
-- has no more registers, and all other tables. Its instructions name each of its registers, unless the old code has
-- more of them than there are numbers of 32 bits (own).
pub record IsRenumbered (old new : Listing) : Type 0 where
  pub acts : ActsAlike old new
  pub renamed : (name : ℕ → ℕ) × (new.instructions ≡ map (renamed name) old.instructions)
      × ((register other : ℕ) → name register < length new.registers → name register ≡ name other → register ≡ other)
  pub registers : length new.registers ≤ length old.registers
  pub all_used : length old.registers < 2 ^ 32 → (register : ℕ) → register < length new.registers → Among register (all_named new.instructions)
  pub arrays : new.arrays ≡ old.arrays
  pub objects : new.objects ≡ old.objects
  pub names : new.names ≡ old.names
  pub parameters : new.parameters ≡ old.parameters
  pub loops : new.loops ≡ old.loops
