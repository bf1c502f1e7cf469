-- What a walk over the commands of a script came to, explained.
use Rattle.std.proofs.Common.{◌≡◌, ◌<◌, ℕ, Bool, List, length, inl, inr, sym, subst}
use Rattle.std.proofs.lemmas.Option.{slice_get_within}
use Rattle.device.specs.Machine.{Machine, opening}
use Rattle.host_commands.specs.declared.command.Command.{Command}
use Rattle.host_commands.specs.declared.command.Refusal.TheVariants as refusal
use Rattle.host_commands.specs.declared.command.Reply.{Reply}
use Rattle.host_commands.specs.declared.command.Reply.TheVariants as reply
use Rattle.simfile.specs.Faults.{NoScript}
use Rattle.simfile.specs.Script.{IsScript}
use Rattle.explaining.proofs.Faulting.{faults, told_unless}
use Rattle.explaining.proofs.Performing.{cleanly}
use Rattle.telling.specs.Judged.{Untold}
use Rattle.explaining.specs.Explaining.{Found}
use Rattle.explaining.specs.Leading.{IsFirst, RepliesAt, StandsBehind, WalkedTo, is_end}
use Rattle.simfile.specs.declared.faults.RunFault.{RunFault}
use Rattle.explaining.specs.declared.walks.Case.{Case}
use Rattle.explaining.specs.declared.walks.RefusedCase.{RefusedCase}
use Rattle.explaining.specs.declared.walks.Walked.{Walked}
use Rattle.explaining.specs.declared.walks.Walked.TheVariants as walked
use Rattle.limits.specs.declared.Configuration.{Configuration}

-- commands that are read twice are the same
pub walked_same : (old new : Machine) (same commands : List Command) (w : Walked) → same ≡ commands → WalkedTo old same new w → WalkedTo old commands new w
walked_same old new same commands w e h = subst (λ (l : List Command). WalkedTo old l new w) e h

-- what comes first is the reply to its command
replies_at : (old : Machine) (commands : List Command) (m : Machine) (ticket : ℕ) (r : Reply) → IsFirst old commands m ticket r → RepliesAt commands m ticket r
replies_at old commands m ticket r h = record { before = h.before; command = h.command; at = h.at; replied = h.replied }

-- and so is what a walk came to
pub stands_behind : (old : Machine) (commands : List Command) (m : Machine) (w : Walked) → WalkedTo old commands m w → StandsBehind commands m w
stands_behind old commands m (walked.Passed ordered) h = tt
stands_behind old commands m (walked.Faulted case) h = replies_at old commands m case.ticket (reply.Fault case.fault case.schedule) h
stands_behind old commands m (walked.Unbuilt u) h = replies_at old commands m u.ticket (reply.Refused (refusal.BuildFailed u.fault)) h
stands_behind old commands m (walked.Refused case) h = replies_at old commands m case.ticket (reply.Refused case.refusal) h

-- a command that is refused is one of the commands
pub refused_within : (commands : List Command) (m : Machine) (w : Walked) (case : RefusedCase) → StandsBehind commands m w → w ≡ walked.Refused case → case.ticket < length commands
refused_within commands m w case h e =
    let at : RepliesAt commands m case.ticket (reply.Refused case.refusal) = subst (λ (v : Walked). StandsBehind commands m v) e h in slice_get_within commands case.ticket at.command at.at

pub faulted_at :
    (commands : List Command) (m : Machine) (w : Walked) (case : Case) → StandsBehind commands m w → w ≡ walked.Faulted case → RepliesAt commands m case.ticket (reply.Fault case.fault case.schedule)
faulted_at commands m w case h e = subst (λ (v : Walked). StandsBehind commands m v) e h

-- whether there is something to tell
found : (configuration : Configuration) (script : List ℕ) (commands : List Command) (m : Machine) (w : Walked) → IsScript script commands → WalkedTo (opening configuration) commands m w
    → Found configuration script (is_end w)
found configuration script commands m (walked.Passed ordered) is h = record { commands = commands; machine = m; is = is; led = cleanly (opening configuration) m commands ordered h }
found configuration script commands m (walked.Faulted case) is h = record { commands = commands; ticket = case.ticket; machine = m; is = is; found = inl (case.fault, case.schedule, h) }
found configuration script commands m (walked.Unbuilt u) is h = record { commands = commands; ticket = u.ticket; machine = m; is = is; found = inr (refusal.BuildFailed u.fault, h) }
found configuration script commands m (walked.Refused case) is h = record { commands = commands; ticket = case.ticket; machine = m; is = is; found = inr (case.refusal, h) }

pub found_at :
    (configuration : Configuration) (script : List ℕ) (commands : List Command) (m : Machine) (w : Walked) (answer : Bool) → IsScript script commands → WalkedTo (opening configuration) commands m w
    → answer ≡ is_end w → Found configuration script answer
found_at configuration script commands m w answer is h same = subst (Found configuration script) (sym same) (found configuration script commands m w is h)

-- only want of memory stands in the way of a fault's explanation
pub unexplained :
    (script : List ℕ) (commands : List Command) (m : Machine) (case : Case) (why : RunFault) → RepliesAt commands m case.ticket (reply.Fault case.fault case.schedule) → Untold m commands case.ticket why
    → NoScript script why
unexplained script commands m case why at untold =
    told_unless script m commands case.ticket at.command case.fault case.schedule why at.at (faults at.before m at.command case.fault case.schedule at.replied) untold
