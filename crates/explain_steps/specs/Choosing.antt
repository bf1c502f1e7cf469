-- The choice of the events that are told, as far as the last events go (own).
use Rattle.std.specs.Prelude.{◌≡◌, ◌≤◌, ℕ, Option, List, count_by, reverse}
use Rattle.fault_play.specs.declared.marks.Mark.{Mark}
use Rattle.fault_play.specs.declared.played.Touch.{Touch}
use Rattle.explain_steps.specs.Bytes.{Holds}
use Rattle.explain_steps.specs.Chosen.{AreChosen, IsAwaited}
use Rattle.explain_steps.specs.declared.chosen.Choice.{Choice}
use Rattle.explain_steps.specs.declared.chosen.Followed.{Followed}

-- of these last events the right ones are told, and the bytes are known that one of the two items awaits before them
pub record IsChoice (followed : Followed) (most : ℕ) (later : List (Mark × Option Touch)) (choice : Choice) : Type 0 where
  pub holds : Holds choice.awaited (IsAwaited followed later)
  pub counted : choice.count ≡ count_by (λ b. b) (reverse choice.told.items)
  pub few : choice.count ≤ most
  pub chosen : AreChosen followed most later (reverse choice.told.items)
