-- The text of the parts of a line.
use Rattle.std.specs.Prelude.{ℕ, Option, None, Some, List, [], ◌∷◌, ◌++◌, codes, decimal}
use Rattle.code_text.specs.declared.dumping.OperandText.{OperandText}
use Rattle.code_text.specs.declared.dumping.OperandText.TheVariants as part
use Rattle.clnum.specs.Integer.{type_word}
use Rattle.byte_io.specs.Pieces.{joined}
use Rattle.code_text.specs.Text.{fences_word, register, pointed, private, typed, variable_type}

abbrev pub part_text : OperandText → List ℕ
part_text (part.Register r) = register r
part_text (part.Element r) = pointed r
part_text (part.Private array r) = private array r
part_text (part.Number number) = decimal number
part_text (part.Value value) = typed value
part_text (part.Type kind) = type_word kind
part_text (part.Variable kind) = variable_type kind
part_text (part.Fences fences) = fences_word fences

-- a part behind what stands in front of it, if it is there
abbrev pub behind : List ℕ → Option OperandText → List ℕ
behind front None = []
behind front (Some p) = front ++ part_text p

-- the parts of a line behind its name
abbrev pub parts_text : (first second third fourth : Option OperandText) → List ℕ
parts_text first second third fourth =
    joined (behind (codes " ") first ∷ behind (codes ", ") second ∷ behind (codes ", ") third ∷ behind (codes ", ") fourth ∷ [])
