-- Laws of the machine (own).
use Rattle.std.specs.Prelude.{◌≡◌, Bool}
use Rattle.clmodel.specs.Setup.{Setup}
use Rattle.host_commands.specs.declared.command.Reply.{Reply}
use Rattle.device.specs.Machine.{Machine, LaunchesBy}

-- A launch that isn't refused has one answer, and leaves one machine, with `orders` and without: however many workers
-- run it, and however often.
abbrev pub LaunchesOnce : Type 0
LaunchesOnce =
    (orders : Bool) (old : Machine) (setup : Setup) (r s : Reply) (new other : Machine) → LaunchesBy orders old setup r new → LaunchesBy orders old setup s other
    → (r ≡ s) × (new ≡ other)
