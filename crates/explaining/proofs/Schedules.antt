-- Schedule files that are explained, on a device to which commands led.
use Rattle.std.proofs.Common.{◌≡◌, ◌≤◌, ◌∙◌, ℕ, Bool, Option, None, Some, Result, Ok, Err, List, length, inl, inr, refl, sym, ap, subst}
use Rattle.std.proofs.lemmas.Option.{slice_get_past}
use Rattle.std.specs.Prelude.{take}
use Rattle.std.specs.Option.{is_some}
use Rattle.std.specs.Result.{IfErr, IfOk}
use Rattle.clmodel.specs.declared.fault.Fault.{Fault}
use Rattle.clmodel.specs.declared.schedule.EventRun.{EventRun}
use Rattle.device.specs.Machine.{Machine, opening}
use Rattle.host_commands.specs.declared.command.Command.{Command}
use Rattle.host_commands.specs.declared.command.Command.TheVariants as command
use Rattle.fault_lines.specs.ScheduleFile.{IsScheduleFile}
use Rattle.simfile.specs.Faults.{NoScript}
use Rattle.simfile.specs.Script.{IsScript}
use Rattle.telling.specs.Judged.{NoLaunch, Tells, Untold}
use Rattle.explaining.specs.Explaining.{Explained, IsTold, Unexplained, Unled}
use Rattle.explaining.specs.Leading.{Leads}
use Rattle.simfile.specs.declared.faults.RunFault.{RunFault}
use Rattle.simfile.specs.declared.faults.RunFault.TheVariants as fault
use Rattle.telling.specs.declared.told.ExplainedCase.{ExplainedCase}
use Rattle.limits.specs.declared.Configuration.{Configuration}

-- the commands that were performed are those before a ticket, on a new device
pub led_there :
    (configuration : Configuration) (commands before : List Command) (ticket : ℕ) (first new : Machine) (done : List Bool) → first ≡ opening configuration → before ≡ take ticket commands
    → Leads first before new done → Leads (opening configuration) (take ticket commands) new done
led_there configuration commands before ticket first new done start same led =
    subst (λ (m : Machine). Leads m (take ticket commands) new done) start (subst (λ (l : List Command). Leads first l new done) same led)

pub told_there :
    (configuration : Configuration) (commands : List Command) (ticket : ℕ) (f : Fault) (runs : List EventRun) (m : Machine) (done : List Bool) (r : Result (Option ExplainedCase) RunFault) → Leads (opening configuration) (take ticket commands) m done
    → IfOk r (λ found. Tells m commands ticket f runs (is_some found)) → IfOk r (λ found. IsTold configuration commands ticket f runs (is_some found))
told_there configuration commands ticket f runs m done (Ok found) led tells = record { machine = m; done = done; led = led; tells = tells }
told_there configuration commands ticket f runs m done (Err why) led tells = tt

untold : (configuration : Configuration) (commands : List Command) (ticket : ℕ) (m : Machine) (done : List Bool) → Leads (opening configuration) (take ticket commands) m done → (why : RunFault)
    → Untold m commands ticket why → Unled configuration commands ticket why
untold configuration commands ticket m done led (fault.Read by) h = absurd h
untold configuration commands ticket m done led fault.Write h = absurd h
untold configuration commands ticket m done led (fault.BadLine n) h = absurd h
untold configuration commands ticket m done led fault.OutOfMemory h = tt
untold configuration commands ticket m done led fault.NoSuchKernel h = absurd h
untold configuration commands ticket m done led fault.BadSchedule h = absurd h
untold configuration commands ticket m done led (fault.NotALaunch named) h = h
untold configuration commands ticket m done led (fault.CommandRefused named) h = (h.0, record { machine = m; done = done; led = led; refuses = h.1 })

pub untold_there :
    (configuration : Configuration) (commands : List Command) (ticket : ℕ) (m : Machine) (done : List Bool) (r : Result (Option ExplainedCase) RunFault) → Leads (opening configuration) (take ticket commands) m done
    → IfErr r (Untold m commands ticket) → IfErr r (Unled configuration commands ticket)
untold_there configuration commands ticket m done (Ok found) led h = tt
untold_there configuration commands ticket m done (Err why) led h = untold configuration commands ticket m done led why h

-- a script that wasn't read
pub no_script : (configuration : Configuration) (script schedule : List ℕ) (why : RunFault) → NoScript script why → Unexplained configuration script schedule why
no_script configuration script schedule (fault.Read by) h = h
no_script configuration script schedule fault.Write h = h
no_script configuration script schedule (fault.BadLine n) h = h
no_script configuration script schedule fault.OutOfMemory h = tt
no_script configuration script schedule fault.NoSuchKernel h = h
no_script configuration script schedule fault.BadSchedule h = absurd h
no_script configuration script schedule (fault.NotALaunch ticket) h = absurd h
no_script configuration script schedule (fault.CommandRefused ticket) h = absurd h

-- the case of a schedule file
pub explained :
    (configuration : Configuration) (script schedule : List ℕ) (commands : List Command) (ticket : ℕ) (f : Fault) (runs : List EventRun) (r : Result (Option ExplainedCase) RunFault) → IsScript script commands
    → IsScheduleFile schedule ticket f runs → IfOk r (λ found. IsTold configuration commands ticket f runs (is_some found))
    → IfOk r (λ found. Explained configuration script schedule (is_some found))
explained configuration script schedule commands ticket f runs (Ok found) is file told =
    record { commands = commands; ticket = ticket; f = f; runs = runs; is = is; file = file; told = told }
explained configuration script schedule commands ticket f runs (Err why) is file told = tt

-- no command stands at a place behind the last one
pub none_behind : (commands : List Command) (ticket : ℕ) → length commands ≤ ticket → NoLaunch commands ticket
none_behind commands ticket past kernel range orders h =
    let bad : ◌≡◌ {A = Option Command} None (Some (command.Launch kernel range orders)) = sym (slice_get_past commands ticket past) ∙ h in
    cc

pub no_launch :
    (configuration : Configuration) (script schedule : List ℕ) (commands : List Command) (ticket : ℕ) (f : Fault) (runs : List EventRun) → IsScript script commands → IsScheduleFile schedule ticket f runs
    → NoLaunch commands ticket → Unexplained configuration script schedule (fault.NotALaunch ticket)
no_launch configuration script schedule commands ticket f runs is file none =
    record { commands = commands; ticket = ticket; f = f; runs = runs; is = is; file = file; untold = inl (none, refl) }

unled : (configuration : Configuration) (script schedule : List ℕ) (commands : List Command) (ticket : ℕ) (f : Fault) (runs : List EventRun) → IsScript script commands → IsScheduleFile schedule ticket f runs
    → (why : RunFault) → Unled configuration commands ticket why → Unexplained configuration script schedule why
unled configuration script schedule commands ticket f runs is file (fault.Read by) h = h
unled configuration script schedule commands ticket f runs is file fault.Write h = h
unled configuration script schedule commands ticket f runs is file (fault.BadLine n) h = absurd h
unled configuration script schedule commands ticket f runs is file fault.OutOfMemory h = tt
unled configuration script schedule commands ticket f runs is file fault.NoSuchKernel h = absurd h
unled configuration script schedule commands ticket f runs is file fault.BadSchedule h = absurd h
unled configuration script schedule commands ticket f runs is file (fault.NotALaunch named) h =
    record { commands = commands; ticket = ticket; f = f; runs = runs; is = is; file = file; untold = inl (h.1, ap (λ n. fault.NotALaunch n) h.0) }
unled configuration script schedule commands ticket f runs is file (fault.CommandRefused named) h =
    record { commands = commands; ticket = ticket; f = f; runs = runs; is = is; file = file; untold = inr (h.1, ap (λ n. fault.CommandRefused n) h.0) }

pub unexplained :
    (configuration : Configuration) (script schedule : List ℕ) (commands : List Command) (ticket : ℕ) (f : Fault) (runs : List EventRun) (r : Result (Option ExplainedCase) RunFault) → IsScript script commands
    → IsScheduleFile schedule ticket f runs → IfErr r (Unled configuration commands ticket) → IfErr r (Unexplained configuration script schedule)
unexplained configuration script schedule commands ticket f runs (Ok found) is file h = tt
unexplained configuration script schedule commands ticket f runs (Err why) is file h = unled configuration script schedule commands ticket f runs is file why h
