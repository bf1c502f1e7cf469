-- The words and symbols of OpenCL C (OpenCL 1.2, section 6.1.9; C99 6.4.1 and 6.4.6), and the names of the built-in
-- functions.
use Rattle.std.specs.Prelude.{ℕ, List, [], ◌∷◌, map, codes}
use Rattle.std.specs.Borrow.{Bor}
use Rattle.clnum.specs.declared.int_type.IntType.TheVariants as types
use Rattle.clmodel.specs.BuiltIns.{predefined}
use Rattle.clmodel.specs.declared.tree.AddressSpace.TheVariants as spaces
use Rattle.clsyntax_lex.specs.declared.token.TokenKind.{TokenKind}
use Rattle.clsyntax_lex.specs.declared.token.TokenKind.TheVariants as kinds

-- texts, and what a token with such a text is
abbrev pub Table : Type 0
Table = List (List ℕ × TokenKind)

-- the entries of a table that holds its texts by reference
abbrev pub entries : List (Bor (List ℕ) × TokenKind) → Table
entries table = map (λ entry. (entry.0.now, entry.1)) table

-- the reserved words
abbrev pub reserved_words : Table
reserved_words =
    (codes "__kernel", kinds.Kernel) ∷
    (codes "kernel", kinds.Kernel) ∷
    (codes "__global", kinds.Space spaces.Global) ∷
    (codes "global", kinds.Space spaces.Global) ∷
    (codes "__local", kinds.Space spaces.Local) ∷
    (codes "local", kinds.Space spaces.Local) ∷
    (codes "__constant", kinds.Space spaces.Constant) ∷
    (codes "constant", kinds.Space spaces.Constant) ∷
    (codes "const", kinds.Const) ∷
    (codes "void", kinds.Void) ∷
    (codes "char", kinds.Type types.Char) ∷
    (codes "uchar", kinds.Type types.Uchar) ∷
    (codes "short", kinds.Type types.Short) ∷
    (codes "ushort", kinds.Type types.Ushort) ∷
    (codes "int", kinds.Type types.Int) ∷
    (codes "uint", kinds.Type types.Uint) ∷
    (codes "long", kinds.Type types.Long) ∷
    (codes "ulong", kinds.Type types.Ulong) ∷
    (codes "size_t", kinds.SizeT) ∷
    (codes "if", kinds.If) ∷
    (codes "else", kinds.Else) ∷
    (codes "while", kinds.While) ∷
    (codes "do", kinds.Do) ∷
    (codes "for", kinds.For) ∷
    (codes "break", kinds.Break) ∷
    (codes "continue", kinds.Continue) ∷
    (codes "return", kinds.Return) ∷
    (codes "float", kinds.Reserved) ∷
    (codes "double", kinds.Reserved) ∷
    (codes "half", kinds.Reserved) ∷
    (codes "bool", kinds.Reserved) ∷
    (codes "unsigned", kinds.Reserved) ∷
    (codes "signed", kinds.Reserved) ∷
    (codes "struct", kinds.Reserved) ∷
    (codes "union", kinds.Reserved) ∷
    (codes "enum", kinds.Reserved) ∷
    (codes "typedef", kinds.Reserved) ∷
    (codes "switch", kinds.Reserved) ∷
    (codes "case", kinds.Reserved) ∷
    (codes "default", kinds.Reserved) ∷
    (codes "goto", kinds.Reserved) ∷
    (codes "sizeof", kinds.Reserved) ∷
    (codes "static", kinds.Reserved) ∷
    (codes "extern", kinds.Reserved) ∷
    (codes "inline", kinds.Reserved) ∷
    (codes "volatile", kinds.Reserved) ∷
    (codes "restrict", kinds.Reserved) ∷
    (codes "register", kinds.Reserved) ∷
    (codes "auto", kinds.Reserved) ∷
    (codes "__private", kinds.Reserved) ∷
    (codes "private", kinds.Reserved) ∷
    []

-- the symbols: one that begins with another stands before it
abbrev pub symbols : Table
symbols =
    (codes "<<=", kinds.ShiftLeftAssign) ∷
    (codes ">>=", kinds.ShiftRightAssign) ∷
    (codes "<<", kinds.ShiftLeft) ∷
    (codes ">>", kinds.ShiftRight) ∷
    (codes "<=", kinds.LessOrEqual) ∷
    (codes ">=", kinds.GreaterOrEqual) ∷
    (codes "==", kinds.Equal) ∷
    (codes "!=", kinds.NotEqual) ∷
    (codes "&&", kinds.AndAnd) ∷
    (codes "||", kinds.OrOr) ∷
    (codes "+=", kinds.PlusAssign) ∷
    (codes "-=", kinds.MinusAssign) ∷
    (codes "*=", kinds.StarAssign) ∷
    (codes "/=", kinds.SlashAssign) ∷
    (codes "%=", kinds.PercentAssign) ∷
    (codes "&=", kinds.AndAssign) ∷
    (codes "|=", kinds.OrAssign) ∷
    (codes "^=", kinds.CaretAssign) ∷
    (codes "++", kinds.PlusPlus) ∷
    (codes "--", kinds.MinusMinus) ∷
    (codes "+", kinds.Plus) ∷
    (codes "-", kinds.Minus) ∷
    (codes "*", kinds.Star) ∷
    (codes "/", kinds.Slash) ∷
    (codes "%", kinds.Percent) ∷
    (codes "<", kinds.Less) ∷
    (codes ">", kinds.Greater) ∷
    (codes "=", kinds.Assign) ∷
    (codes "&", kinds.And) ∷
    (codes "|", kinds.Or) ∷
    (codes "^", kinds.Caret) ∷
    (codes "~", kinds.Tilde) ∷
    (codes "!", kinds.Not) ∷
    (codes "?", kinds.Question) ∷
    (codes ":", kinds.Colon) ∷
    (codes ";", kinds.Semicolon) ∷
    (codes ",", kinds.Comma) ∷
    (codes "(", kinds.OpenRound) ∷
    (codes ")", kinds.CloseRound) ∷
    (codes "[", kinds.OpenSquare) ∷
    (codes "]", kinds.CloseSquare) ∷
    (codes "{", kinds.OpenBrace) ∷
    (codes "}", kinds.CloseBrace) ∷
    []

-- the names that have a meaning without a declaration (OpenCL 1.2, sections 6.12.1, 6.12.3, 6.12.8 and 6.12.11)
abbrev pub built_in_names : List (List ℕ)
built_in_names = map (λ entry. entry.0) predefined
