-- Words of a source: letters, digits and underscores (C99 6.4.2.1).
use Rattle.std.specs.Prelude.{ℕ, Bool, true, false, List, take, drop, fold, if◌then◌else◌}
use Rattle.std.specs.Char.{is_ascii_digit}
use Rattle.std.specs.List.{prefix_len}
use Rattle.clsyntax_lex.specs.Pieces.{is_name_part}
use Rattle.opencl_words.specs.declared.spelling.SpelledWord.{SpelledWord}
use Rattle.opencl_words.specs.declared.spelling.SpelledWord.TheVariants as words

abbrev pub word_len : List ℕ → ℕ
word_len bytes = prefix_len is_name_part bytes

-- the word in front
abbrev pub front_word : List ℕ → List ℕ
front_word bytes = take (word_len bytes) bytes

-- the word that begins at a byte
abbrev pub word_at : List ℕ → ℕ → List ℕ
word_at source at = front_word (drop at source)

-- what a byte of a word begins
abbrev pub begun_by : ℕ → SpelledWord
begun_by byte = if is_ascii_digit byte then words.Number else words.Name

-- a word goes on as what it began as
abbrev pub going_on : SpelledWord → ℕ → SpelledWord
going_on words.Nothing byte = begun_by byte
going_on words.Number byte = words.Number
going_on words.Name byte = words.Name

-- what goes on behind one byte more
abbrev pub with_byte : SpelledWord → ℕ → SpelledWord
with_byte word byte = if is_name_part byte then going_on word byte else words.Nothing

-- what kind of word goes on behind bytes
abbrev pub last_word : List ℕ → SpelledWord
last_word bytes = fold with_byte words.Nothing bytes

abbrev pub is_number : SpelledWord → Bool
is_number words.Nothing = false
is_number words.Number = true
is_number words.Name = false

abbrev pub ends_in_number : List ℕ → Bool
ends_in_number bytes = is_number (last_word bytes)
