-- What a line of a script of version 3 says that is written by hand (own). Of plain scripts `simfile` says it.
use Rattle.std.specs.Prelude.{◌≡◌, ℕ, ℤ, ◌*◌, ◌<◌, ◌≤◌, ◌^◌, ◌==◌, Bool, true, false, not, ◌&&◌, nat_lt, IsTrue, List, [], ◌∷◌, length, codes, decimal, ◌⊎◌}
use Rattle.std.specs.List.{list_all}
use Rattle.byte_io.specs.Pieces.{joined}
use Rattle.clnum.specs.Integer.{type_word}
use Rattle.clnum.specs.declared.int_type.IntType.{IntType}
use Rattle.host_commands.specs.declared.command.Command.{Command}
use Rattle.host_commands.specs.declared.command.Command.TheVariants as command
use Rattle.simfile.specs.declared.lines.Version.TheVariants as version
use Rattle.simfile.specs.Fields.{is_name}
use Rattle.simfile.specs.Script.{IsText, space, line_feed}
use Rattle.script_lines.specs.Numbers.{AreNumbers, numbers_text, size_of}
use Rattle.script_lines.specs.Plain.{plain}
use Rattle.script_lines.specs.declared.says.LineSays.{LineSays}
use Rattle.script_lines.specs.declared.says.LineSays.TheVariants as says

abbrev pub is_program : Command → Bool
is_program (command.Program name source) = true
is_program _ = false

-- the text of a `write` or a `fill` with numbers of a type
abbrev pub IsNumbersText : List ℕ → Command → Type 0
IsNumbersText text (command.Write buffer offset bytes) =
    IsTrue (is_name buffer) × (offset < 2 ^ 64)
    × ((kind : IntType) × (numbers : List ℤ) × AreNumbers kind numbers bytes
    × (text ≡ joined (codes "write " ∷ buffer ∷ space ∷ decimal offset ∷ space ∷ type_word kind ∷ space ∷ numbers_text numbers ∷ line_feed ∷ [])))
IsNumbersText text (command.Fill buffer offset count pattern) =
    IsTrue (is_name buffer) × (offset < 2 ^ 64) × (count < 2 ^ 64)
    × ((kind : IntType) × (numbers : List ℤ) × AreNumbers kind numbers pattern
    × (text ≡ joined (codes "fill " ∷ buffer ∷ space ∷ decimal offset ∷ space ∷ decimal count ∷ space ∷ type_word kind ∷ space ∷ numbers_text numbers ∷ line_feed ∷ [])))
IsNumbersText text _ = ⊥

-- a path: some bytes, and none of them a space or a line feed
abbrev pub is_path : List ℕ → Bool
is_path path = nat_lt 0 (length path) && list_all (λ b. not (b == 32) && not (b == 10)) path

-- what a plain text says
abbrev pub IsSaid : List ℕ → LineSays → Type 0
IsSaid text says.Nothing = text ≡ line_feed
IsSaid text (says.Command told) = IsTrue (not (is_program told)) × IsText version.Three text told ⊎ IsNumbersText text told
IsSaid text (says.ReadNumbers buffer offset kind count) =
    IsTrue (is_name buffer) × (offset < 2 ^ 64) × (count * size_of kind < 2 ^ 64)
    × (text ≡ joined (codes "read " ∷ buffer ∷ space ∷ decimal offset ∷ space ∷ type_word kind ∷ space ∷ decimal count ∷ line_feed ∷ []))
IsSaid text (says.SourceLines name count) =
    IsTrue (is_name name) × (0 < count) × (count ≤ 65536)
    × (text ≡ joined (codes "program " ∷ name ∷ space ∷ decimal count ∷ line_feed ∷ []))
IsSaid text (says.SourceUntil name word) =
    IsTrue (is_name name) × IsTrue (is_name word)
    × (text ≡ joined (codes "program " ∷ name ∷ codes " until " ∷ word ∷ line_feed ∷ []))
IsSaid text (says.SourceFile name path) =
    IsTrue (is_name name) × IsTrue (is_path path)
    × (text ≡ joined (codes "program " ∷ name ∷ codes " file " ∷ path ∷ line_feed ∷ []))

-- what a line says is what its plain text says
abbrev pub Says : List ℕ → LineSays → Type 0
Says line said = IsSaid (plain line) said
