-- Texts put together, and the text of a part of a line.
use Rattle.std.specs.Prelude.{ℕ, List, [], ◌∷◌, ◌++◌, decimal}
use Rattle.std.specs.Fmt.{signed_decimal}
use Rattle.byte_io.specs.declared.pieces.Piece.{Piece}
use Rattle.byte_io.specs.declared.pieces.Piece.TheVariants as piece

-- texts one after another
abbrev pub joined : List (List ℕ) → List ℕ
joined [] = []
joined (part ∷ parts) = part ++ joined parts

abbrev pub piece_text : Piece → List ℕ
piece_text (piece.Text text) = text.now
piece_text (piece.Bytes bytes) = bytes.now
piece_text (piece.Number number) = decimal number
piece_text (piece.Number32 number) = decimal number
piece_text (piece.Signed number) = signed_decimal number
