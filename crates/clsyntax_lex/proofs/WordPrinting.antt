-- Words and symbols are read back from their texts.
use Rattle.std.proofs.Common.{◌≡◌, ℕ, ◌<◌, List, ◌∷◌, ◌++◌, length, refl, lit<, None}
use Rattle.clnum.specs.declared.int_type.IntType.TheVariants as types
use Rattle.clmodel.specs.declared.tree.AddressSpace.TheVariants as spaces
use Rattle.clsyntax_lex.specs.declared.token.TokenKind.{TokenKind}
use Rattle.clsyntax_lex.specs.declared.token.TokenKind.TheVariants as kinds
use Rattle.clsyntax_lex.specs.declared.pieces.Piece.TheVariants.{Token}
use Rattle.clsyntax_lex.specs.Pieces.{piece_at}
use Rattle.clsyntax_lex.specs.Printed.{spelled, name_number}

-- a token that is no name is the piece that its text and a space begin with
pub record IsReadBack (names : List (List ℕ)) (kind : TokenKind) : Type 0 where
  pub unnamed : name_number kind ≡ None
  pub positive : 0 < length (spelled names kind)
  pub piece : (rest : List ℕ) → piece_at (spelled names kind ++ 32 ∷ rest) ≡ Token kind (length (spelled names kind))

abbrev IsWord : TokenKind → Type 0
IsWord (kinds.Name number) = ⊥
IsWord (kinds.Number value) = ⊥
IsWord _ = Unit {0}

pub word_read_back : (names : List (List ℕ)) (kind : TokenKind) → IsWord kind → IsReadBack names kind
unfolding piece_at
word_read_back names (kinds.Name number) w = absurd w
word_read_back names (kinds.Number value) w = absurd w
word_read_back names (kinds.Space spaces.Global) w = record { unnamed = refl; positive = lit< tt; piece = λ rest. refl }
word_read_back names (kinds.Space spaces.Local) w = record { unnamed = refl; positive = lit< tt; piece = λ rest. refl }
word_read_back names (kinds.Space spaces.Constant) w = record { unnamed = refl; positive = lit< tt; piece = λ rest. refl }
word_read_back names (kinds.Type types.Char) w = record { unnamed = refl; positive = lit< tt; piece = λ rest. refl }
word_read_back names (kinds.Type types.Uchar) w = record { unnamed = refl; positive = lit< tt; piece = λ rest. refl }
word_read_back names (kinds.Type types.Short) w = record { unnamed = refl; positive = lit< tt; piece = λ rest. refl }
word_read_back names (kinds.Type types.Ushort) w = record { unnamed = refl; positive = lit< tt; piece = λ rest. refl }
word_read_back names (kinds.Type types.Int) w = record { unnamed = refl; positive = lit< tt; piece = λ rest. refl }
word_read_back names (kinds.Type types.Uint) w = record { unnamed = refl; positive = lit< tt; piece = λ rest. refl }
word_read_back names (kinds.Type types.Long) w = record { unnamed = refl; positive = lit< tt; piece = λ rest. refl }
word_read_back names (kinds.Type types.Ulong) w = record { unnamed = refl; positive = lit< tt; piece = λ rest. refl }
word_read_back names _ w = record { unnamed = refl; positive = lit< tt; piece = λ rest. refl }
