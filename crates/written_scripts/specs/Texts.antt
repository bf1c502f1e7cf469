-- The text of a command in a plain script of version 3, by the line of the written script that tells it (own).
use Rattle.std.specs.Prelude.{ℕ, ◌<◌, ◌≤◌, ◌^◌, IsTrue, List, length}
use Rattle.host_commands.specs.declared.command.Command.{Command}
use Rattle.host_commands.specs.declared.command.Command.TheVariants as command
use Rattle.script_lines.specs.Plain.{plain}
use Rattle.simfile.specs.Fields.{is_name}
use Rattle.simfile.specs.Script.{IsText, AreLines}
use Rattle.simfile.specs.declared.lines.Version.TheVariants as version

-- a command whose text can be written: its name is one, and its numbers and its source are in range; that of another
-- kind is the plain text of its line
abbrev pub HasText : List ℕ → Command → Type 0
HasText line (command.Write buffer offset bytes) = IsTrue (is_name buffer) × (offset < 2 ^ 64) × (0 < length bytes) × (length bytes ≤ 1048576)
HasText line (command.Fill buffer offset count pattern) =
    IsTrue (is_name buffer) × (offset < 2 ^ 64) × (count < 2 ^ 64) × (0 < length pattern) × (length pattern ≤ 1048576)
HasText line (command.Read buffer offset count) = IsTrue (is_name buffer) × (offset < 2 ^ 64) × (count < 2 ^ 64)
HasText line (command.Program name source) = IsTrue (is_name name) × ((n : ℕ) × (n ≤ 65536) × AreLines source n)
HasText line told = IsText version.Three (plain line) told
