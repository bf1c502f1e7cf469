-- What is known of expressions, as plain data (own).
use Rattle.std.specs.Prelude.{Option, List, map}
use Rattle.clnum.specs.Integer.{Integer}
use Rattle.folding.specs.declared.known.Known.{Known}

-- the values of those that are constant
abbrev pub constants_in : List Known → List (Option Integer)
constants_in expressions = map (λ (known : Known). known.constant) expressions
