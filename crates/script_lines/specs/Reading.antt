-- Reading what a plain text says, as functions: each gives what is said of all of the bytes.
use Rattle.std.specs.Prelude.{ℕ, ◌-◌, ◌/◌, suc, zero, ℤ, int_le, Bool, ◌&&◌, ◌||◌, not, nat_lt, nat_le, ◌==◌, Option, None, Some, List, [], ◌∷◌, ◌++◌, length, take, drop, codes, if◌then◌else◌}
use Rattle.clmodel.specs.Setup.{same_text}
use Rattle.clnum.specs.Integer.{least, greatest, type_word}
use Rattle.clnum.specs.declared.int_type.IntType.{IntType}
use Rattle.clnum.specs.declared.int_type.IntType.TheVariants.{Char, Uchar, Short, Ushort, Int, Uint, Long, Ulong}
use Rattle.host_commands.specs.declared.command.Command.TheVariants as command
use Rattle.simfile.specs.declared.lines.Version.TheVariants as version
use Rattle.simfile.specs.Reading.{name_at, command_at}
use Rattle.simfile.specs.Script.{line_feed}
use Rattle.text_lines.specs.Fronts.{◌>>=◌, or_else, after, before, number_at, value_at}
use Rattle.script_lines.specs.Numbers.{bytes_of, size_of}
use Rattle.script_lines.specs.Says.{is_program, is_path}
use Rattle.script_lines.specs.declared.says.LineSays.{LineSays}
use Rattle.script_lines.specs.declared.says.LineSays.TheVariants as says

-- whether a number lies in the range of a type
abbrev pub is_in : IntType → ℤ → Bool
is_in kind number = int_le (least kind) number && int_le number (greatest kind)

-- the type that a word names
abbrev pub kind_named : List ℕ → Option IntType
kind_named word =
    if same_text word (type_word Char) then Some Char
    else (if same_text word (type_word Uchar) then Some Uchar
    else (if same_text word (type_word Short) then Some Short
    else (if same_text word (type_word Ushort) then Some Ushort
    else (if same_text word (type_word Int) then Some Int
    else (if same_text word (type_word Uint) then Some Uint
    else (if same_text word (type_word Long) then Some Long
    else (if same_text word (type_word Ulong) then Some Ulong
    else None)))))))

-- the name of a type in front of a space, and the rest behind it
unfoldable pub kind_at : List ℕ → Option (IntType × List ℕ)
kind_at bytes = do
  word ← before 32 (name_at bytes)
  kind ← kind_named word.0
  Some (kind, word.1)

-- the bytes of at most n numbers of a type, which are all of a text
abbrev pub bytes_at : IntType → ℕ → List ℕ → Option (List ℕ)
bytes_at kind zero text = None
bytes_at kind (suc n) text = do
  number ← value_at text
  if is_in kind number.0 then (if same_text number.1 line_feed then Some (bytes_of kind number.0) else (do
    rest ← after (32 ∷ []) number.1
    more ← bytes_at kind n rest
    Some (bytes_of kind number.0 ++ more))) else None

-- the same, where they are no more than a line may write
unfoldable pub numbers_at : IntType → List ℕ → Option (List ℕ)
numbers_at kind text = do
  bytes ← bytes_at kind (length text) text
  if nat_le (length bytes) 1048576 then Some bytes else None

-- a field that ends the text
abbrev pub alone : {A : Type 0} → A × List ℕ → Option A
alone read = if length read.1 == 0 then Some read.0 else None

unfoldable pub last_number : List ℕ → Option ℕ
last_number bytes = before 10 (number_at bytes) >>= alone

unfoldable pub last_name : List ℕ → Option (List ℕ)
last_name bytes = before 10 (name_at bytes) >>= alone

unfoldable pub last_path : List ℕ → Option (List ℕ)
last_path bytes =
    let n = length bytes - 1 in
    if same_text (drop n bytes) line_feed && is_path (take n bytes) then Some (take n bytes) else None

unfoldable pub write_numbers_at : List ℕ → Option LineSays
write_numbers_at bytes = do
  buffer ← before 32 (name_at bytes)
  offset ← before 32 (number_at buffer.1)
  kind ← kind_at offset.1
  numbers ← numbers_at kind.0 kind.1
  Some (says.Command (command.Write buffer.0 offset.0 numbers))

unfoldable pub fill_numbers_at : List ℕ → Option LineSays
fill_numbers_at bytes = do
  buffer ← before 32 (name_at bytes)
  offset ← before 32 (number_at buffer.1)
  count ← before 32 (number_at offset.1)
  kind ← kind_at count.1
  numbers ← numbers_at kind.0 kind.1
  Some (says.Command (command.Fill buffer.0 offset.0 count.0 numbers))

unfoldable pub read_numbers_at : List ℕ → Option LineSays
read_numbers_at bytes = do
  buffer ← before 32 (name_at bytes)
  offset ← before 32 (number_at buffer.1)
  kind ← kind_at offset.1
  count ← last_number kind.1
  if nat_lt (18446744073709551615 / size_of kind.0) count then None else Some (says.ReadNumbers buffer.0 offset.0 kind.0 count)

unfoldable pub source_lines_at : List ℕ → List ℕ → Option LineSays
source_lines_at name bytes = do
  count ← last_number bytes
  if nat_lt 0 count && nat_le count 65536 then Some (says.SourceLines name count) else None

unfoldable pub source_until_at : List ℕ → List ℕ → Option LineSays
source_until_at name bytes = do
  word ← last_name bytes
  Some (says.SourceUntil name word)

unfoldable pub source_file_at : List ℕ → List ℕ → Option LineSays
source_file_at name bytes = do
  path ← last_path bytes
  Some (says.SourceFile name path)

unfoldable pub program_at : List ℕ → Option LineSays
program_at bytes = do
  name ← before 32 (name_at bytes)
  or_else (after (codes "until ") name.1) (source_until_at name.0)
      (or_else (after (codes "file ") name.1) (source_file_at name.0)
      (source_lines_at name.0 name.1))

-- a command, as a plain script of version 3 has it, that is all of the text, other than a program
unfoldable pub plain_command_at : List ℕ → Option LineSays
plain_command_at text = do
  read ← command_at version.Three text
  if not (length read.1 == 0) || is_program read.0 then None else Some (says.Command read.0)

-- a `write`, a `fill` or a `read` of numbers
unfoldable pub numbers_say_at : List ℕ → Option LineSays
numbers_say_at text =
    or_else (after (codes "write ") text) write_numbers_at
    (or_else (after (codes "fill ") text) fill_numbers_at
    (or_else (after (codes "read ") text) read_numbers_at None))

unfoldable pub says_at : List ℕ → Option LineSays
says_at text =
    if same_text text line_feed then Some says.Nothing
    else or_else (after (codes "program ") text) program_at (or_else (numbers_say_at text) (λ said. Some said) (plain_command_at text))
