-- A script that is read, performed and answered.
use Rattle.std.specs.Prelude.{◌≡◌, ℕ, true, false, Option, Result, Ok, Err, List, [], ◌∷◌, ◌++◌, if◌then◌else◌}
use Rattle.std.specs.List.{fold}
use Rattle.device.specs.Machine.{Machine, Step, opening}
use Rattle.host_commands.specs.declared.command.Command.{Command}
use Rattle.host_commands.specs.declared.command.Reply.{Reply}
use Rattle.host_commands.specs.declared.command.Reply.TheVariants as reply
use Rattle.simfile.specs.declared.faults.Reader.TheVariants as reader
use Rattle.cli.specs.declared.session.RunEnd.{RunEnd}
use Rattle.simfile.specs.declared.faults.RunFault.{RunFault}
use Rattle.simfile.specs.declared.faults.RunFault.TheVariants as fault
use Rattle.byte_io.specs.Sink.{Sink, Wrote, Stopped, CountsUp}
use Rattle.byte_io.specs.Source.{Are}
use Rattle.simfile.specs.Script.{IsScript, IsBadLine}
use Rattle.showing.specs.Shown.{shown_lines}
use Rattle.showing.specs.declared.lines.Shown.{Shown}
use Rattle.limits.specs.declared.Configuration.{Configuration}

-- the machine may give these replies to these commands, one step after another
abbrev pub Plays : Machine → List Command → List Reply → Machine → Type 0
Plays old [] [] new = new ≡ old
Plays old (c ∷ cs) (r ∷ rs) new = (mid : Machine) × Step old c r mid × Plays mid cs rs new
Plays old [] (r ∷ rs) new = ⊥
Plays old (c ∷ cs) [] new = ⊥

-- what the replies come to, one more reply at a time
abbrev pub one_end : Reply → RunEnd → RunEnd
one_end reply.Done end = end
one_end (reply.Data bytes) end = end
one_end reply.Clean end = end
one_end reply.Ordered end = end
one_end (reply.Fault fault schedule) end = record end { faulted = true }
one_end (reply.Refused refusal) end = record end { refused = true }

-- whether a launch faulted, and whether a command was refused
abbrev pub end_of : List Reply → RunEnd
end_of replies = fold (λ end r. one_end r end) (record { faulted = false; refused = false }) replies

-- the replies to all the commands were written, the first ones as these show them, and none of their text is held back
pub record Answered (shows : List Shown) (configuration : Configuration) (commands : List Command) (old new : Sink) (outcome : RunEnd) : Type 0 where
  pub replies : List Reply
  pub last : Machine
  pub plays : Plays (opening configuration) commands replies last
  pub wrote : Wrote old new (shown_lines shows replies)
  pub released : new.held ≡ []
  pub end : outcome ≡ end_of replies

-- a write failed at a reply to one of the commands, and a beginning of the replies' text was written
pub record Broken (shows : List Shown) (configuration : Configuration) (commands : List Command) (old new : Sink) : Type 0 where
  pub done : List Command
  pub left : List Command
  pub replies : List Reply
  pub last : Machine
  pub split : commands ≡ done ++ left
  pub plays : Plays (opening configuration) done replies last
  pub stopped : Stopped old new (shown_lines shows replies)

-- why the commands weren't answered, and what was written
abbrev pub Unanswered : List Shown → Configuration → List Command → Sink → Sink → RunFault → Type 0
Unanswered shows configuration commands old new (fault.Read by) = ⊥
Unanswered shows configuration commands old new (fault.BadLine n) = ⊥
Unanswered shows configuration commands old new fault.OutOfMemory = new ≡ old
Unanswered shows configuration commands old new fault.Write = Broken shows configuration commands old new
Unanswered shows configuration commands old new fault.NoSuchKernel = ⊥
Unanswered shows configuration commands old new fault.BadSchedule = ⊥
Unanswered shows configuration commands old new (fault.NotALaunch ticket) = ⊥
Unanswered shows configuration commands old new (fault.CommandRefused ticket) = ⊥

-- the bytes are a script, and each command was answered
pub record Ran (shows : List Shown) (rest : Option (List ℕ)) (configuration : Configuration) (old new : Sink) (end : RunEnd) : Type 0 where
  pub bytes : List ℕ
  pub commands : List Command
  pub read : Are rest bytes
  pub script : IsScript bytes commands
  pub answered : Answered shows configuration commands old new end

-- the bytes have a bad line, and nothing was written
pub record Misread (rest : Option (List ℕ)) (n : ℕ) (old new : Sink) : Type 0 where
  pub bytes : List ℕ
  pub read : Are rest bytes
  pub bad : IsBadLine bytes n
  pub same : new ≡ old

-- the bytes are a script, and a write failed
pub record Cut (shows : List Shown) (rest : Option (List ℕ)) (configuration : Configuration) (old new : Sink) : Type 0 where
  pub bytes : List ℕ
  pub commands : List Command
  pub read : Are rest bytes
  pub script : IsScript bytes commands
  pub broken : Broken shows configuration commands old new

-- why a run came to no end, and what it left
abbrev pub Failed : List Shown → Option (List ℕ) → ℕ → ℕ → Configuration → Sink → Sink → RunFault → Type 0
Failed shows rest failures failures' configuration old new (fault.Read reader.First) = CountsUp failures failures' × (new ≡ old)
Failed shows rest failures failures' configuration old new (fault.Read reader.Second) = ⊥
Failed shows rest failures failures' configuration old new (fault.BadLine n) = Misread rest n old new
Failed shows rest failures failures' configuration old new fault.OutOfMemory = new ≡ old
Failed shows rest failures failures' configuration old new fault.Write = Cut shows rest configuration old new
Failed shows rest failures failures' configuration old new fault.NoSuchKernel = ⊥
Failed shows rest failures failures' configuration old new fault.BadSchedule = ⊥
Failed shows rest failures failures' configuration old new (fault.NotALaunch ticket) = ⊥
Failed shows rest failures failures' configuration old new (fault.CommandRefused ticket) = ⊥

-- 2 where a command was refused or the run failed, else 1 where a launch faulted, else 0
abbrev pub status_of : Result RunEnd RunFault → ℕ
status_of (Ok end) = if end.refused then 2 else (if end.faulted then 1 else 0)
status_of (Err fault) = 2
