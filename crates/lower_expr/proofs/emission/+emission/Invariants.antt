use Rattle.std.proofs.Common.{◌≡◌, ◌++◌, take}
use Rattle.clmodel.specs.Next.{argument_type}
use Rattle.clmodel.specs.Tree.{terms}
use Rattle.folding.specs.Constants.{constants_of}
use Rattle.folding.specs.Known.{constants_in}
use Rattle.lower_expr.specs.Expressions.{terms_code, registers_for}
use Rattle.lower_expr.specs.Registers.{numbers}
use Rattle.lower_expr.proofs.emission.+emission.Given as goal

-- the arguments so far
abbrev pub invariant-emit_arguments-loop-i : goal.invariant-emit_arguments-loop-i
invariant-emit_arguments-loop-i l =
    (l.code.items ≡ l.fn.code.items ++ terms_code l.scope l.level.0 (terms (take l.i l.arguments)))
    × (numbers l.registers.items ≡ registers_for l.scope l.level.0 (terms (take l.i l.arguments)))
    × (l.kind ≡ argument_type l.scope.variables (terms (take l.i l.arguments)))
    × (constants_in l.known.items ≡ constants_of l.scope.variables (terms (take l.i l.arguments)))
