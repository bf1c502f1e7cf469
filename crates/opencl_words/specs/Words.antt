-- Words of OpenCL C that the language lacks, and what is said of them (own; OpenCL 1.2, section 6).
use Rattle.std.specs.Prelude.{ℕ, Bool, not, ◌&&◌, bytes_eq, nat_eq, List, length, drop, map, Option, None, Some, unwrap_or, if◌then◌else◌}
use Rattle.std.specs.Char.{is_ascii_lowercase}
use Rattle.std.specs.List.{list_any, starts_with}
use Rattle.clmodel.specs.BuiltIns.{predefined}
use Rattle.opencl_words.specs.Tables.{Table, row_of, row_in_front}
use Rattle.opencl_words.specs.declared.words.TheConstants.{ARGUMENTS, CONSTANTS, ELEMENTS, FUNCTIONS, HELPERS, LACKING, NO_MACROS, NO_VECTORS, POINTER_AND_VALUE, PREFIXES, UNDECLARED, WIDTHS}

-- The tables of the code, each row a text and what is said of it.

-- words that stand nowhere in the language
abbrev pub lacking : Table
lacking = map (λ row. (row.0.now, row.1.now)) LACKING

-- functions that are lacking
abbrev pub functions : Table
functions = map (λ row. (row.0.now, row.1.now)) FUNCTIONS

-- how names of functions begin that are lacking
abbrev pub prefixes : Table
prefixes = map (λ row. (row.0.now, row.1.now)) PREFIXES

-- numbers whose names are lacking
abbrev pub constants : Table
constants = map (λ row. (row.0.now, row.1.now)) CONSTANTS

-- what built-in functions take, by how their names begin
abbrev pub arguments : Table
arguments = map (λ row. (row.0.now, row.1.now)) ARGUMENTS

-- a type's name with a number of components behind it, as int4 (6.1.2)
abbrev pub is_vector_of : List ℕ → List ℕ → Bool
is_vector_of word element = starts_with nat_eq word element && list_any (λ width. bytes_eq width.now (drop (length element) word)) WIDTHS

abbrev pub is_vector : List ℕ → Bool
is_vector word = list_any (λ element. is_vector_of word element.now) ELEMENTS

-- a word that names a built-in function of the language, or a fence
abbrev pub is_built_in : List ℕ → Bool
is_built_in word = list_any (λ entry. bytes_eq entry.0 word) predefined

-- what is said of a word that stands nowhere in the language
abbrev pub word_said : List ℕ → Option (List ℕ)
word_said word = if is_vector word then Some NO_VECTORS.now else row_of lacking word

-- of a function that the language lacks: by its whole name, or by how it begins
abbrev pub function_said : List ℕ → List ℕ
function_said word = unwrap_or (row_of functions word) (unwrap_or (row_in_front prefixes word) HELPERS.now)

-- of the arguments of a built-in function
abbrev pub argument_said : List ℕ → Option (List ℕ)
argument_said word = if is_built_in word then Some (unwrap_or (row_in_front arguments word) POINTER_AND_VALUE.now) else None

-- a word without a small letter, as macros are written
abbrev pub is_capital : List ℕ → Bool
is_capital word = not (list_any is_ascii_lowercase word)

abbrev pub undeclared_said : List ℕ → List ℕ
undeclared_said word = if is_capital word then NO_MACROS.now else UNDECLARED.now

-- of the name of a number that the language lacks, or of one that isn't declared
abbrev pub value_said : List ℕ → List ℕ
value_said word = unwrap_or (row_of constants word) (undeclared_said word)
