-- Why nothing was written of a script.
use Rattle.std.proofs.Common.{ℕ, List, Option, refl}
use Rattle.byte_io.specs.Sink.{Sink}
use Rattle.placed_scripts.specs.declared.placed.PlacedScript.{PlacedScript}
use Rattle.limits.specs.declared.Configuration.{Configuration}
use Rattle.simfile.specs.Faults.{NoScript}
use Rattle.simfile.specs.declared.faults.RunFault.{RunFault}
use Rattle.simfile.specs.declared.faults.RunFault.TheVariants as fault
use Rattle.wide_text.specs.Widened.{Unwidened}
use Rattle.wide_text.specs.declared.data.Format.{Format}

pub no_script : (configuration : Configuration) (script : List ℕ) (written : Option PlacedScript) (how : Format) (sink : Sink) (why : RunFault) → NoScript script why → Unwidened configuration script written how sink sink why
no_script configuration script written how sink (fault.BadLine n) none = (none, refl)
no_script configuration script written how sink fault.OutOfMemory none = refl
no_script configuration script written how sink fault.Write none = absurd none
no_script configuration script written how sink (fault.Read by) none = absurd none
no_script configuration script written how sink fault.NoSuchKernel none = absurd none
no_script configuration script written how sink fault.BadSchedule none = absurd none
no_script configuration script written how sink (fault.NotALaunch ticket) none = absurd none
no_script configuration script written how sink (fault.CommandRefused ticket) none = absurd none
