-- Events played one after another (own).
use Rattle.std.specs.Prelude.{◌≡◌, Bool, true, false, None, Some}
use Rattle.clmodel.specs.Launch.{Launch}
use Rattle.clmodel.specs.Run.{State, Events, after}

-- events were played one after another, and what is kept tells of the state that they lead to; or one of them isn't
-- possible in its turn
abbrev pub ArePlayed : Launch → State → Events → (State → Type 0) → Bool → Type 0
ArePlayed launch state events new true = (end : State) × (after launch state events ≡ Some end) × new end
ArePlayed launch state events new false = after launch state events ≡ None
