-- What was noted along a run is a run.
use Rattle.std.proofs.Common.{List, [], ◌∷◌}
use Rattle.device.specs.Machine.{Machine}
use Rattle.host_commands.specs.declared.command.Command.{Command}
use Rattle.host_commands.specs.declared.command.Reply.{Reply}
use Rattle.wide_scripts.specs.Notes.{AreNoted}
use Rattle.wide_scripts.specs.Scripts.{Runs}
use Rattle.wide_scripts.specs.declared.note.Note.{Note}

pub run_of : (old : Machine) (cs : List Command) (rs : List Reply) (ns : List Note) (new : Machine) → AreNoted old cs rs ns new → Runs old cs rs new
run_of old [] [] [] new noted = noted
run_of old [] [] (n ∷ ns) new noted = absurd noted
run_of old [] (r ∷ rs) ns new noted = absurd noted
run_of old (c ∷ cs) [] ns new noted = absurd noted
run_of old (c ∷ cs) (r ∷ rs) [] new noted = absurd noted
run_of old (c ∷ cs) (r ∷ rs) (n ∷ ns) new noted = (noted.0, noted.1, run_of noted.0 cs rs ns new noted.3)
