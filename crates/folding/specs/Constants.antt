-- The value of a constant expression (C99 6.6): one of numbers, operators, casts, choices and functions of integers,
-- whose evaluation meets no fault. What isn't evaluated needn't be constant (own).
use Rattle.std.specs.Prelude.{pos, Bool, true, false, not, if◌then◌else◌, Option, None, Some, List, [], ◌∷◌, ◌++◌, Result, Ok, Err}
use Rattle.std.specs.Ordering.{int_eq}
use Rattle.clnum.specs.Builtins.{builtin_value}
use Rattle.clnum.specs.Conversions.{common}
use Rattle.clnum.specs.Integer.{Integer, converted}
use Rattle.clnum.specs.Operations.{unary_value, binary_value, truth}
use Rattle.clnum.specs.declared.int_type.IntType.{IntType}
use Rattle.clnum.specs.declared.operators.ArithFault.{ArithFault}
use Rattle.clnum.specs.declared.operators.Builtin.{Builtin}
use Rattle.clnum.specs.declared.operators.UnaryOperator.{UnaryOperator}
use Rattle.clmodel.specs.BuiltIns.{built_in}
use Rattle.clmodel.specs.Next.{Variables, type_of, base_type}
use Rattle.clmodel.specs.Tree.{Term, Number, Variable, Element, ElementAddress, Dereference, Call, Unary, Cast, Binary, Choice, Terms, NoTerm, ThenTerm}
use Rattle.clmodel.specs.declared.setup.BuiltIn.{BuiltIn}
use Rattle.clmodel.specs.declared.setup.BuiltIn.TheVariants as built_in_function
use Rattle.clmodel.specs.declared.tree.InfixOperator.{InfixOperator}
use Rattle.clmodel.specs.declared.tree.InfixOperator.TheVariants.{Arithmetic, LogicalAnd, LogicalOr}

-- an operator on one number (6.3)
abbrev pub unary_constant : UnaryOperator → Option Integer → Option Integer
unary_constant operator (Some v) = Some (unary_value operator v)
unary_constant operator None = None

-- a number cast to a type (6.2.3)
abbrev pub cast_constant : IntType → Option Integer → Option Integer
cast_constant target (Some v) = Some (converted v target)
cast_constant target None = None

-- a value, if it isn't a fault
abbrev pub faultless : Result Integer ArithFault → Option Integer
faultless (Ok v) = Some v
faultless (Err fault) = None

-- whether a number isn't zero, as a condition asks (6.3.g, 6.3.i)
abbrev pub holds : Integer → Bool
holds v = not (int_eq v.number (pos 0))

-- the int of a condition
abbrev pub truth_constant : Option Integer → Option Integer
truth_constant (Some v) = Some (truth (holds v))
truth_constant None = None

-- An operator on two numbers. The right one isn't asked for where the left one settles the value (6.3.g).
abbrev pub infix_constant : InfixOperator → Option Integer → Option Integer → Option Integer
infix_constant (Arithmetic operator) (Some v) (Some w) = faultless (binary_value operator v w)
infix_constant (Arithmetic operator) (Some v) None = None
infix_constant LogicalAnd (Some v) right = if holds v then truth_constant right else Some (truth false)
infix_constant LogicalOr (Some v) right = if holds v then Some (truth true) else truth_constant right
infix_constant operator None right = None

-- a number in the common type of it and of another type (6.3.i)
abbrev pub common_constant : Option Integer → IntType → Option Integer
common_constant (Some v) other = Some (converted v (common v.kind other))
common_constant None other = None

-- A choice, by the types of both branches. The branch that isn't chosen isn't asked for (6.3.i).
abbrev pub choice_constant : Option Integer → (chosen : Option Integer) → IntType → (otherwise : Option Integer) → IntType → Option Integer
choice_constant (Some v) chosen chosen_type otherwise otherwise_type =
    if holds v then common_constant chosen otherwise_type else common_constant otherwise chosen_type
choice_constant None chosen chosen_type otherwise otherwise_type = None

-- a function of one integer or of two (6.12.3)
abbrev pub integer_constant : Builtin → List (Option Integer) → Option Integer
integer_constant function (Some a ∷ []) = builtin_value function (a ∷ [])
integer_constant function (Some a ∷ Some b ∷ []) = builtin_value function (a ∷ b ∷ [])
integer_constant function _ = None

-- no other function has a value beforehand
abbrev pub call_constant : Option BuiltIn → List (Option Integer) → Option Integer
call_constant (Some (built_in_function.Integer function)) arguments = integer_constant function arguments
call_constant _ arguments = None

abbrev mutual
  -- an expression's value, if it is constant
  pub constant_of : Variables → Term → Option Integer
  constant_of variables (Number at value) = Some value
  constant_of variables (Variable at name) = None
  constant_of variables (Element at name index) = None
  constant_of variables (ElementAddress at name_at name index) = None
  constant_of variables (Dereference at pointer) = None
  constant_of variables (Call at name arguments) = call_constant (built_in name) (constants_of variables arguments)
  constant_of variables (Unary at operator operand) = unary_constant operator (constant_of variables operand)
  constant_of variables (Cast at target operand) = cast_constant target (constant_of variables operand)
  constant_of variables (Binary at operator left right) = infix_constant operator (constant_of variables left) (constant_of variables right)
  constant_of variables (Choice at condition chosen otherwise) =
      choice_constant (constant_of variables condition)
      (constant_of variables chosen) (base_type (type_of variables chosen)) (constant_of variables otherwise) (base_type (type_of variables otherwise))

  -- those of arguments, from left to right
  pub constants_of : Variables → Terms → List (Option Integer)
  constants_of variables NoTerm = []
  constants_of variables (ThenTerm terms term) = constants_of variables terms ++ constant_of variables term ∷ []
