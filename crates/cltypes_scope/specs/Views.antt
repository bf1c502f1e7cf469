-- What the values of the checking of expressions stand for.
use Rattle.clmodel.specs.Tree.{Term, Terms}
use Rattle.clmodel.specs.Typing.Context.{Context, Meaning}
use Rattle.clmodel.specs.Typing.Faults as rule
use Rattle.clmodel.specs.Typing.Faults.{start, kind_of, first_kind, wanted, arguments_faults}
use Rattle.clmodel.specs.Typing.Least.{least}
use Rattle.cltypes_scope.specs.declared.faults.Want.{Want}
use Rattle.cltypes_scope.specs.declared.faults.Want.TheVariants.{Integer, OfTypeBefore, AtomicPointer, ForParameter}
use Rattle.cltypes_scope.specs.declared.faults.CallPlace.{CallPlace}
use Rattle.cltypes_scope.specs.declared.faults.CallPlace.TheVariants.{WholeStatement, RightSide, Inside}
use Rattle.cltypes_scope.specs.declared.faults.TypedOperand.{TypedOperand}
use Rattle.cltypes_scope.specs.declared.faults.Arguments.{Arguments}

abbrev pub want_of : Want → rule.Want
want_of Integer = rule.AnInteger
want_of OfTypeBefore = rule.OfTypeBefore
want_of AtomicPointer = rule.AnAtomicPointer
want_of (ForParameter kind) = rule.ForParameter kind

abbrev pub spot_of : CallPlace → rule.Spot
spot_of WholeStatement = rule.WholeStatement
spot_of RightSide = rule.RightSide
spot_of Inside = rule.Inside

-- an expression's type and its first byte
abbrev pub operand_of : Context → Term → TypedOperand
operand_of c e = record { kind = kind_of c e; at = start e }

-- the least fault that arguments have as those of what is called, and the type of the first one
abbrev pub arguments_of : Context → Meaning → Terms → Arguments
arguments_of c m es = record { fault = least (arguments_faults c (wanted m) es); first = first_kind c es }
