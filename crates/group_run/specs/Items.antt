-- The items of a group, by their places in it (own).
use Rattle.std.specs.Prelude.{ℕ, ◌+◌, List}
use Rattle.clmodel.specs.Launch.{Launch}
use Rattle.clmodel.specs.declared.action.Action.{Action}
use Rattle.clmodel.specs.declared.action.Answer.{Answer}
use Rattle.launches.specs.Items.{acts_of}
use Rattle.launches.specs.declared.slot.Slot.{Slot}

-- the action that the item at a place makes after further answers, by the number of the group's first item
abbrev pub acts_at : Launch → ℕ → ℕ → Slot → List Answer → Action
acts_at launch first k = acts_of launch (first + k)
