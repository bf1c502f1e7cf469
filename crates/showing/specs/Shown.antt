-- How the replies to commands are shown: behind the line of their command, and bytes as numbers (own).
use Rattle.std.specs.Prelude.{ℕ, ◌%◌, ◌==◌, Option, None, Some, List, [], ◌∷◌, ◌++◌, length, codes, decimal, if◌then◌else◌}
use Rattle.byte_io.specs.Pieces.{joined}
use Rattle.clnum.specs.declared.int_type.IntType.{IntType}
use Rattle.host_commands.specs.declared.command.Reply.{Reply}
use Rattle.host_commands.specs.declared.command.Reply.TheVariants as reply
use Rattle.showing.specs.Numbers.{numbers_line, size_of}
use Rattle.showing.specs.declared.lines.Shown.{Shown}
use Rattle.simfile.specs.Lines.{line, lines}

-- the number of a command's line, as it stands in front of the reply
abbrev pub front_of : Option ℕ → List ℕ
front_of None = []
front_of (Some number) = joined (decimal number ∷ codes ": " ∷ [])

-- a reply's line, with numbers of a type in place of bytes that are whole numbers of it
abbrev pub line_in : Option IntType → Reply → List ℕ
line_in (Some kind) (reply.Data bytes) = if length bytes % size_of kind == 0 then numbers_line kind bytes else line (reply.Data bytes)
line_in _ reply = line reply

-- a reply's line as it is shown
abbrev pub shown_line : Shown → Reply → List ℕ
shown_line shown reply = front_of shown.line ++ line_in shown.kind reply

-- the same by the first of these, or as it is where none is left
abbrev pub next_line : List Shown → Reply → List ℕ
next_line [] reply = line reply
next_line (shown ∷ shows) reply = shown_line shown reply

-- those behind the first one
abbrev pub behind : List Shown → List Shown
behind [] = []
behind (shown ∷ shows) = shows

-- the lines of replies, the first ones as these show them, and others as they are
abbrev pub shown_lines : List Shown → List Reply → List ℕ
shown_lines [] replies = lines replies
shown_lines (shown ∷ shows) [] = []
shown_lines (shown ∷ shows) (reply ∷ replies) = shown_line shown reply ++ shown_lines shows replies
