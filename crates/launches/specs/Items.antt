-- The items of a launch, started when they are first asked (own).
use Rattle.std.specs.Prelude.{◌≡◌, ℕ, List, []}
use Rattle.clmodel.specs.Launch.{Launch}
use Rattle.clmodel.specs.declared.action.Action.{Action}
use Rattle.clmodel.specs.declared.action.Action.TheVariants as action
use Rattle.clmodel.specs.declared.action.Answer.{Answer}
use Rattle.item_step.specs.Running.{Running, Arrives, Makes, action_of}
use Rattle.launches.specs.declared.slot.Slot.{Slot}
use Rattle.launches.specs.declared.slot.Slot.TheVariants as slot

-- the action that an item makes after further answers: before it is asked what its launch says, and at its end the end
abbrev pub acts_of : Launch → ℕ → Slot → List Answer → Action
acts_of launch item slot.Waiting answers = launch.next item answers
acts_of launch item (slot.Running running) answers = action_of running answers
acts_of launch item slot.Ended answers = action.End

-- the item was asked
abbrev pub IsAsked : Slot → Type 0
IsAsked slot.Waiting = ⊥
IsAsked (slot.Running running) = Unit {0}
IsAsked slot.Ended = Unit {0}

-- where an item is under way, the instruction where it stands makes this action, whatever follows it
abbrev pub Stands : Slot → Action → Type 0
Stands slot.Waiting action = Unit {0}
Stands (slot.Running running) action = Makes running action
Stands slot.Ended action = Unit {0}

-- Where an item is under way after these answers, its machine is the one that its code's instructions come to from its
-- start with them; one that wasn't asked yet had no answer (own).
abbrev pub Runs : Running → List Answer → Slot → Type 0
Runs start answers slot.Waiting = answers ≡ []
Runs start answers (slot.Running running) = Arrives start answers running
Runs start answers slot.Ended = Unit {0}
