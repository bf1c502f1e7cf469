-- What tokens are, as far as hints tell them apart (own).
use Rattle.std.specs.Prelude.{Bool, true, false, Option, None, Some}
use Rattle.clmodel.specs.declared.tree.AddressSpace.TheVariants as spaces
use Rattle.clsyntax_lex.specs.declared.token.Token.{Token}
use Rattle.clsyntax_lex.specs.declared.token.TokenKind.{TokenKind}
use Rattle.clsyntax_lex.specs.declared.token.TokenKind.TheVariants as kinds
use Rattle.hint_rules.specs.declared.marks.Mark.{Mark}
use Rattle.hint_rules.specs.declared.marks.Mark.TheVariants as marks

-- a word or a number; any other token is an operator
abbrev pub word_mark : TokenKind → Mark
word_mark (kinds.Name number) = marks.Name
word_mark (kinds.Number value) = marks.Number
word_mark (kinds.Type kind) = marks.Type
word_mark kinds.SizeT = marks.SizeT
word_mark (kinds.Space spaces.Local) = marks.Local
word_mark (kinds.Space _) = marks.Space
word_mark kinds.Const = marks.Const
word_mark kinds.Void = marks.Void
word_mark kinds.Kernel = marks.Kernel
word_mark kinds.If = marks.If
word_mark kinds.Else = marks.Else
word_mark kinds.While = marks.While
word_mark kinds.Do = marks.Do
word_mark kinds.For = marks.For
word_mark kinds.Break = marks.Leave
word_mark kinds.Continue = marks.Leave
word_mark kinds.Return = marks.Return
word_mark kinds.Reserved = marks.Word
word_mark _ = marks.Operator

abbrev pub mark_of : TokenKind → Mark
mark_of kinds.Assign = marks.Assign
mark_of kinds.ShiftLeftAssign = marks.Compound
mark_of kinds.ShiftRightAssign = marks.Compound
mark_of kinds.PlusAssign = marks.Compound
mark_of kinds.MinusAssign = marks.Compound
mark_of kinds.StarAssign = marks.Compound
mark_of kinds.SlashAssign = marks.Compound
mark_of kinds.PercentAssign = marks.Compound
mark_of kinds.AndAssign = marks.Compound
mark_of kinds.OrAssign = marks.Compound
mark_of kinds.CaretAssign = marks.Compound
mark_of kinds.PlusPlus = marks.Step
mark_of kinds.MinusMinus = marks.Step
mark_of kinds.Star = marks.Star
mark_of kinds.Minus = marks.Minus
mark_of kinds.And = marks.And
mark_of kinds.Greater = marks.Greater
mark_of kinds.Colon = marks.Colon
mark_of kinds.Comma = marks.Comma
mark_of kinds.Semicolon = marks.Semicolon
mark_of kinds.OpenRound = marks.OpenRound
mark_of kinds.CloseRound = marks.CloseRound
mark_of kinds.OpenSquare = marks.OpenSquare
mark_of kinds.CloseSquare = marks.CloseSquare
mark_of kinds.OpenBrace = marks.OpenBrace
mark_of kinds.CloseBrace = marks.CloseBrace
mark_of kind = word_mark kind

abbrev pub mark_at : Option Token → Mark
mark_at None = marks.Nothing
mark_at (Some token) = mark_of token.kind

abbrev pub is_nothing : Mark → Bool
is_nothing marks.Nothing = true
is_nothing _ = false
