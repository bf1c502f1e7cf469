-- Where a fault of a source lies (own).
use Rattle.std.specs.Prelude.{ℕ}
use Rattle.clmodel.specs.Typing.Least.{offset}
use Rattle.clsyntax_lex.specs.declared.token.SyntaxFault.{SyntaxFault}
use Rattle.clsyntax_lex.specs.declared.token.SyntaxFault.TheVariants as syntax
use Rattle.build_hints.specs.declared.faults.Refused.{Refused}
use Rattle.build_hints.specs.declared.faults.Refused.TheVariants as refused

-- the byte of a source at which a fault of syntax lies; 0 where memory was refused
abbrev pub syntax_place : SyntaxFault → ℕ
syntax_place (syntax.BadByte at) = at
syntax_place (syntax.NumberTooLarge at) = at
syntax_place (syntax.Unexpected at) = at
syntax_place (syntax.TooDeep at) = at
syntax_place (syntax.TooLong at) = at
syntax_place syntax.OutOfMemory = 0

-- and of any fault
abbrev pub fault_place : Refused → ℕ
fault_place (refused.Syntax fault) = syntax_place fault
fault_place (refused.Type fault) = offset fault
