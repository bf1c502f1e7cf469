-- What faults of a source are called, and what each says (own).
use Rattle.std.specs.Prelude.{ℕ, List, codes}
use Rattle.clmodel.specs.Typing.Least.{number}
use Rattle.clmodel.specs.declared.type_fault.TypeFault.{TypeFault}
use Rattle.clmodel.specs.declared.type_fault.TypeFault.TheVariants as types
use Rattle.clsyntax_lex.specs.declared.token.SyntaxFault.{SyntaxFault}
use Rattle.clsyntax_lex.specs.declared.token.SyntaxFault.TheVariants as syntax
use Rattle.build_hints.specs.declared.faults.Refused.{Refused}
use Rattle.build_hints.specs.declared.faults.Refused.TheVariants as refused

abbrev pub kind_of : Refused → List ℕ
kind_of (refused.Syntax fault) = codes "syntax"
kind_of (refused.Type fault) = codes "type"

abbrev pub syntax_number : SyntaxFault → ℕ
syntax_number (syntax.BadByte at) = 1
syntax_number (syntax.NumberTooLarge at) = 2
syntax_number (syntax.Unexpected at) = 3
syntax_number (syntax.TooDeep at) = 4
syntax_number (syntax.TooLong at) = 5
syntax_number syntax.OutOfMemory = 6

abbrev pub number_of : Refused → ℕ
number_of (refused.Syntax fault) = syntax_number fault
number_of (refused.Type fault) = number fault

abbrev pub syntax_name : SyntaxFault → List ℕ
syntax_name (syntax.BadByte at) = codes "BadByte"
syntax_name (syntax.NumberTooLarge at) = codes "NumberTooLarge"
syntax_name (syntax.Unexpected at) = codes "Unexpected"
syntax_name (syntax.TooDeep at) = codes "TooDeep"
syntax_name (syntax.TooLong at) = codes "TooLong"
syntax_name syntax.OutOfMemory = codes "OutOfMemory"

abbrev pub type_name : TypeFault → List ℕ
type_name (types.UnknownName at) = codes "UnknownName"
type_name (types.Redeclared at) = codes "Redeclared"
type_name (types.TypeMismatch at) = codes "TypeMismatch"
type_name (types.NotAssignable at) = codes "NotAssignable"
type_name (types.Recursion at) = codes "Recursion"
type_name (types.WrongArgumentCount at) = codes "WrongArgumentCount"
type_name (types.WrongSpace at) = codes "WrongSpace"
type_name (types.BadBarrierFlags at) = codes "BadBarrierFlags"
type_name (types.TooManyLoops at) = codes "TooManyLoops"
type_name (types.TooLarge at) = codes "TooLarge"
type_name (types.MissingReturn at) = codes "MissingReturn"
type_name types.OutOfMemory = codes "OutOfMemory"

abbrev pub name_of : Refused → List ℕ
name_of (refused.Syntax fault) = syntax_name fault
name_of (refused.Type fault) = type_name fault

-- the kind, the number and the name, and what the fault means
abbrev pub syntax_title : SyntaxFault → List ℕ
syntax_title (syntax.BadByte at) = codes "syntax 1 BadByte: no token begins with this byte, or it can't follow a number"
syntax_title (syntax.NumberTooLarge at) = codes "syntax 2 NumberTooLarge: no integer type holds this number"
syntax_title (syntax.Unexpected at) = codes "syntax 3 Unexpected: no program goes on like this"
syntax_title (syntax.TooDeep at) = codes "syntax 4 TooDeep: more brackets, blocks and operators are open here than the limits allow (64, or 256 where they are large)"
syntax_title (syntax.TooLong at) = codes "syntax 5 TooLong: the source has more bytes than the limits allow (65,536, or 4,194,304 where they are large)"
syntax_title syntax.OutOfMemory = codes "out of memory"

abbrev pub type_title : TypeFault → List ℕ
type_title (types.UnknownName at) = codes "type 1 UnknownName: nothing of this name is in scope"
type_title (types.Redeclared at) = codes "type 2 Redeclared: the name is taken in this scope, or reserved for a built-in function"
type_title (types.TypeMismatch at) = codes "type 3 TypeMismatch: an operand, condition, argument or value of another kind is wanted"
type_title (types.NotAssignable at) = codes "type 4 NotAssignable: what is constant can't be stored to, and const can't be dropped"
type_title (types.Recursion at) = codes "type 5 Recursion: a function can't call itself"
type_title (types.WrongArgumentCount at) = codes "type 6 WrongArgumentCount: the function takes more or fewer arguments"
type_title (types.WrongSpace at) = codes "type 7 WrongSpace: a pointer to another address space is wanted"
type_title (types.BadBarrierFlags at) = codes "type 8 BadBarrierFlags: write CLK_LOCAL_MEM_FENCE, CLK_GLOBAL_MEM_FENCE, or both with | between"
type_title (types.TooManyLoops at) = codes "type 10 TooManyLoops: at most 8 loops stand in one another, with those of the functions that are called"
type_title (types.TooLarge at) = codes "type 11 TooLarge: an array without elements, or more elements of an array, private bytes or nodes of a kernel than the limits allow (32,768, 4,096 and 20,000, or 65,536, 65,536 and 1,000,000 where they are large)"
type_title (types.MissingReturn at) = codes "type 12 MissingReturn: a function with a value has to end in a return on each way"
type_title types.OutOfMemory = codes "out of memory"

abbrev pub title_of : Refused → List ℕ
title_of (refused.Syntax fault) = syntax_title fault
title_of (refused.Type fault) = type_title fault
