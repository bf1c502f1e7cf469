-- What is known of an expression before it runs, and the code of its form (own).
use Rattle.std.specs.Prelude.{ℕ, ◌+◌, None, List, [], ◌∷◌, ◌++◌}
use Rattle.clmodel.specs.BuiltIns.{built_in}
use Rattle.clmodel.specs.Tree.{Term, Number, Variable, Element, ElementAddress, Dereference, Call, Unary, Cast, Binary, Choice}
use Rattle.clmodel.specs.declared.tree.VariableType.{VariableType}
use Rattle.clmodel.specs.declared.tree.VariableType.TheVariants.{Integer}
use Rattle.folding.specs.Constants.{constant_of}
use Rattle.folding.specs.declared.known.Known.{Known}
use Rattle.regcode.specs.declared.instruction.Instruction.{Instruction}
use Rattle.regcode.specs.declared.instruction.Instruction.TheVariants as instruction
use Rattle.lower_expr.specs.Scope.{Scope, register_at}
use Rattle.lower_expr.specs.Expressions.{kind_of, register_for, registers_for, expr_code, terms_code, infix_code, branch_code, choice_code, call_code}

-- its type, and its value where it is constant
abbrev pub known_of : Scope → Term → Known
known_of scope e = record { kind = kind_of scope e; constant = constant_of scope.variables e }

-- of one of a type that isn't constant
abbrev pub varying : VariableType → Known
varying kind = record { kind = kind; constant = None }

-- the code of its form, in whose place a constant expression is its value
abbrev pub form_code : Scope → ℕ → Term → List Instruction
form_code scope level (Number at value) = []
form_code scope level (Variable at name) = expr_code scope level (Variable at name)
form_code scope level (Element at name index) = expr_code scope level (Element at name index)
form_code scope level (ElementAddress at name_at name index) = expr_code scope level (ElementAddress at name_at name index)
form_code scope level (Dereference at pointer) = expr_code scope level (Dereference at pointer)
form_code scope level (Call at name arguments) =
    terms_code scope level arguments ++ call_code (built_in name) (register_for scope level (Call at name arguments)) (registers_for scope level arguments)
form_code scope level (Unary at operator operand) =
    expr_code scope level operand ++ instruction.Unary (register_for scope level (Unary at operator operand)) operator (register_for scope level operand) ∷ []
form_code scope level (Cast at target operand) =
    expr_code scope level operand ++ instruction.Convert (register_at level (Integer target)) (register_for scope level operand) target ∷ []
form_code scope level (Binary at operator left right) =
    expr_code scope level left
    ++ infix_code operator (register_for scope level (Binary at operator left right)) (register_for scope level left) (register_for scope (level + 1) right) (expr_code scope (level + 1) right)
form_code scope level (Choice at condition chosen otherwise) =
    expr_code scope level condition
    ++ choice_code (register_for scope level condition)
    (branch_code (register_for scope level (Choice at condition chosen otherwise)) (expr_code scope level chosen) (register_for scope level chosen) (kind_of scope otherwise))
    (branch_code (register_for scope level (Choice at condition chosen otherwise)) (expr_code scope level otherwise) (register_for scope level otherwise) (kind_of scope chosen))
