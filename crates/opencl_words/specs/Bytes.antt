-- Bytes that begin no token, or that can't follow a number, and what is said of them (own).
use Rattle.std.specs.Prelude.{ℕ, Bool, ◌&&◌, List, take, drop, map, codes, slice_index, Option, None, unwrap_or, if◌then◌else◌}
use Rattle.std.specs.Char.{is_ascii_digit}
use Rattle.clsyntax_lex.specs.Numbers.{begins_with}
use Rattle.opencl_words.specs.Spelling.{word_at, ends_in_number}
use Rattle.opencl_words.specs.Tables.{Table, row_of, row_in_front}
use Rattle.opencl_words.specs.declared.bytes.TheConstants.{BYTES, DIRECTIVES, NO_TOKEN, SUFFIXES, TAILS}
use Rattle.opencl_words.specs.declared.words.TheConstants.{NO_FLOATS}

-- The tables of the code, each row a text and what is said of it.

-- lines of the preprocessor, by the word behind their #
abbrev pub directives : Table
directives = map (λ row. (row.0.now, row.1.now)) DIRECTIVES

-- bytes that begin no token
abbrev pub fronts : Table
fronts = map (λ row. (row.0.now, row.1.now)) BYTES

-- bytes that can't follow a number
abbrev pub tails : Table
tails = map (λ row. (row.0.now, row.1.now)) TAILS

-- of the bytes behind a number
abbrev pub tail_said : List ℕ → List ℕ
tail_said bytes = unwrap_or (row_in_front tails bytes) SUFFIXES.now

-- a number without digits before its point
abbrev pub begins_fraction : List ℕ → Bool
begins_fraction bytes = begins_with (codes ".") bytes && is_ascii_digit (slice_index bytes 1)

-- of a line of the preprocessor, by the word behind its #
abbrev pub directive_said : List ℕ → Option (List ℕ)
directive_said bytes = if begins_with (codes "#") bytes then row_of directives (word_at bytes 1) else None

-- of bytes that begin no token
abbrev pub front_said : List ℕ → List ℕ
front_said bytes = if begins_fraction bytes then NO_FLOATS.now else unwrap_or (directive_said bytes) (unwrap_or (row_in_front fronts bytes) NO_TOKEN.now)

-- of the byte `at` of a source
abbrev pub byte_said : List ℕ → ℕ → List ℕ
byte_said source at = if ends_in_number (take at source) then tail_said (drop at source) else front_said (drop at source)
