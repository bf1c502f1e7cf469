-- What is said at a fault of a source: what is wanted there, or how to write what the language lacks (own).
use Rattle.std.specs.Prelude.{ℕ, ◌==◌, Bool, true, false, ◌||◌, bytes_eq, List, length, codes, slice_get, Option, None, Some, unwrap_or, Result, Ok, Err, if◌then◌else◌}
use Rattle.std.specs.List.{list_any}
use Rattle.std.specs.Option.{option_or}
use Rattle.clmodel.specs.declared.type_fault.TypeFault.{TypeFault}
use Rattle.clmodel.specs.declared.type_fault.TypeFault.TheVariants as types
use Rattle.clsyntax_lex.specs.declared.token.SyntaxFault.{SyntaxFault}
use Rattle.clsyntax_lex.specs.declared.token.SyntaxFault.TheVariants as syntax
use Rattle.clsyntax_lex.specs.Lexing.{lexing}
use Rattle.clsyntax_lex.specs.Tokens.{Text}
use Rattle.limits.specs.Limits.{large}
use Rattle.hint_rules.specs.Callee.{callee, is_open_round}
use Rattle.hint_rules.specs.Marks.{mark_at}
use Rattle.hint_rules.specs.Near.{Near, near_in, nth_last, word_of}
use Rattle.hint_rules.specs.Rules.{token_said}
use Rattle.hint_rules.specs.declared.marks.Mark.{Mark}
use Rattle.hint_rules.specs.declared.marks.Mark.TheVariants as marks
use Rattle.opencl_words.specs.Bytes.{byte_said}
use Rattle.opencl_words.specs.Words.{word_said, function_said, argument_said, value_said, is_built_in}
use Rattle.opencl_words.specs.declared.words.TheConstants.{UNDECLARED}
use Rattle.build_hints.specs.declared.faults.Refused.{Refused}
use Rattle.build_hints.specs.declared.faults.Refused.TheVariants as refused
use Rattle.build_hints.specs.declared.hints.Hinted.{Hinted}
use Rattle.build_hints.specs.declared.hints.Hinted.TheVariants as hinted
use Rattle.build_hints.specs.declared.hints.TheConstants.{ARRAY_TARGET, CALLED, FENCES, HELPER_CALL, LOCAL_ARRAY, LOOPS, NO_VALUE, OF_ONE_TYPE, ONE_TYPE, RECURSION, RETURNS, SPACES, STARS}

-- the token at a place, and the one behind it
abbrev pub here_mark : Near → Mark
here_mark n = mark_at (slice_get n.rest 0)

abbrev pub next_mark : Near → Mark
next_mark n = mark_at (slice_get n.rest 1)

-- the word at a place, one in front of it, and the function whose arguments go on there
abbrev pub here_word : Near → List ℕ
here_word n = word_of n.source (slice_get n.rest 0)

abbrev pub last_word : Near → ℕ → List ℕ
last_word n number = word_of n.source (nth_last n.front number)

abbrev pub outer_word : Near → List ℕ
outer_word n = word_of n.source (callee n.front)

abbrev pub is_open_square : Mark → Bool
is_open_square marks.OpenSquare = true
is_open_square _ = false

-- a name with its arguments, and one with an index
abbrev pub is_called : Near → Bool
is_called n = is_open_round (next_mark n)

abbrev pub is_indexed : Near → Bool
is_indexed n = is_open_square (next_mark n)

-- of a token that no program has: by its own word, by those of the two in front of it, which may have been read as
-- names, or by what stands round it
abbrev pub unexpected_said : Near → List ℕ
unexpected_said n = unwrap_or (word_said (here_word n)) (unwrap_or (word_said (last_word n 0)) (unwrap_or (word_said (last_word n 1)) (token_said n)))

abbrev pub is_none_or_built_in : List ℕ → Bool
is_none_or_built_in word = (length word == 0) || is_built_in word

-- of a fence in the brackets of a function
abbrev pub fenced_said : List ℕ → List ℕ
fenced_said outer = if is_none_or_built_in outer then FENCES.now else function_said outer

-- of a fence outside of the brackets of a barrier: they may be those of a function that is lacking
abbrev pub fence_said : Near → List ℕ
fence_said n = fenced_said (outer_word n)

-- of a name that no table has: a function, a fence, an array, or a value
abbrev pub unknown_said : Near → List ℕ → List ℕ
unknown_said n word =
    if is_called n then function_said word
    else (if is_built_in word then fence_said n
    else (if is_indexed n then UNDECLARED.now else value_said word))

abbrev pub named_said : Near → List ℕ → List ℕ
named_said n word = unwrap_or (word_said word) (unknown_said n word)

-- of a name that isn't known
abbrev pub name_said : Near → List ℕ
name_said n = named_said n (here_word n)

-- of a call whose value can't be used
abbrev pub call_said : List ℕ → Option (List ℕ)
call_said word =
    if bytes_eq word (codes "barrier") then Some NO_VALUE.now
    else (if is_built_in word then None else Some HELPER_CALL.now)

abbrev pub star_said : Mark → Option (List ℕ)
star_said marks.Star = Some STARS.now
star_said _ = None

-- of an operand by what stands in front of it: the brackets of a function whose two arguments have one type, or a star
abbrev pub joined_said : Near → Option (List ℕ)
joined_said n =
    if list_any (λ name. bytes_eq name.now (outer_word n)) OF_ONE_TYPE then Some ONE_TYPE.now
    else star_said (mark_at (nth_last n.front 0))

-- of a word as an operand or an argument of a wrong kind
abbrev pub operand_in : Near → List ℕ → Option (List ℕ)
operand_in n word =
    if is_called n then option_or (call_said word) (joined_said n)
    else (if is_built_in word then Some CALLED.now else joined_said n)

abbrev pub operand_said : Near → Option (List ℕ)
operand_said n = operand_in n (here_word n)

abbrev pub mismatch_in : Mark → Near → Option (List ℕ)
mismatch_in marks.Leave n = Some LOOPS.now
mismatch_in marks.Return n = Some RETURNS.now
mismatch_in _ n = operand_said n

-- of an operand, an argument or a statement of a wrong kind
abbrev pub mismatch_said : Near → Option (List ℕ)
mismatch_said n = mismatch_in (here_mark n) n

abbrev pub space_in : Mark → List ℕ
space_in marks.Local = LOCAL_ARRAY.now
space_in _ = SPACES.now

-- of a pointer of another address space, or of the name of an array that is declared in local memory
abbrev pub space_said : Near → List ℕ
space_said n = space_in (mark_at (nth_last n.front 1))

abbrev pub target_in : Mark → Option (List ℕ)
target_in marks.Assign = Some ARRAY_TARGET.now
target_in _ = None

-- of what can't be stored to
abbrev pub target_said : Near → Option (List ℕ)
target_said n = target_in (next_mark n)

abbrev pub said_at : Hinted → Near → Option (List ℕ)
said_at hinted.Unexpected n = Some (unexpected_said n)
said_at hinted.Name n = Some (name_said n)
said_at hinted.Mismatch n = mismatch_said n
said_at hinted.Space n = Some (space_said n)
said_at hinted.Target n = target_said n
said_at hinted.Count n = argument_said (here_word n)
said_at hinted.Recursion n = Some RECURSION.now

-- of a source with these tokens, and of one whose tokens have a fault
abbrev pub said_in : List ℕ → Hinted → ℕ → Result Text SyntaxFault → Option (List ℕ)
said_in source h at (Ok text) = said_at h (near_in source text.tokens at)
said_in source h at (Err fault) = None

-- by the tokens of a source, which are the same within all limits that it doesn't pass
abbrev pub said_by_tokens : List ℕ → Hinted → ℕ → Option (List ℕ)
said_by_tokens source h at = said_in source h at (lexing large source)

-- what is looked at for a fault of types
abbrev pub hinted_of : TypeFault → Option Hinted
hinted_of (types.UnknownName at) = Some hinted.Name
hinted_of (types.TypeMismatch at) = Some hinted.Mismatch
hinted_of (types.WrongSpace at) = Some hinted.Space
hinted_of (types.NotAssignable at) = Some hinted.Target
hinted_of (types.WrongArgumentCount at) = Some hinted.Count
hinted_of (types.Recursion at) = Some hinted.Recursion
hinted_of _ = None

abbrev pub said_if : List ℕ → Option Hinted → ℕ → Option (List ℕ)
said_if source None at = None
said_if source (Some h) at = said_by_tokens source h at

abbrev pub type_said : List ℕ → TypeFault → ℕ → Option (List ℕ)
type_said source fault at = said_if source (hinted_of fault) at

abbrev pub syntax_said : List ℕ → SyntaxFault → ℕ → Option (List ℕ)
syntax_said source (syntax.BadByte _) at = Some (byte_said source at)
syntax_said source (syntax.Unexpected _) at = said_by_tokens source hinted.Unexpected at
syntax_said source _ at = None

-- what is said at a fault of a source, if anything is
abbrev pub fault_said : List ℕ → Refused → ℕ → Option (List ℕ)
fault_said source (refused.Syntax fault) at = syntax_said source fault at
fault_said source (refused.Type fault) at = type_said source fault at
