-- A number of a type is held as it is by a variable of that type.
use Rattle.std.proofs.Common.{◌≡◌, ℕ, Option, Some, ap, sym, ◌∙◌}
use Rattle.clnum.specs.Integer.{IsIn, converted}
use Rattle.clnum.proofs.Ranges.{wrap-in}
use Rattle.clnum.specs.declared.int_type.IntType.{IntType}
use Rattle.clmodel.specs.Next.{Continuation, held, known}
use Rattle.clmodel.specs.declared.operand.Operand.{Operand}
use Rattle.clmodel.specs.declared.operand.Operand.TheVariants.{Integral}
use Rattle.clmodel.specs.declared.tree.VariableType.TheVariants as variable_type
use Rattle.register_values.specs.RegisterValues.{integer, number_of}
use Rattle.register_values.proofs.Outcomes.{known_value}

same_kind : (kind : IntType) (bits : ℕ) → IsIn kind (number_of kind bits) → converted (integer kind bits) kind ≡ integer kind bits
unfolding converted
same_kind kind bits h = ap (λ n. record { kind = kind; number = n }) (wrap-in kind (number_of kind bits) h)

pub held_is : (entry kept : Option Operand) (name : ℕ) (kind : IntType) (bits : ℕ) (after : Option Operand → Continuation) → kept ≡ entry → kept ≡ Some (Integral (integer kind bits)) → IsIn kind (number_of kind bits)
    → known name entry (λ v. after (Some (held (variable_type.Integer kind) v))) ≡ after kept
held_is entry kept name kind bits after e is h =
    known_value entry name (Integral (integer kind bits)) (λ v. after (Some (held (variable_type.Integer kind) v))) (sym is ∙ e)
    ∙ ap (λ v. after (Some (Integral v))) (same_kind kind bits h) ∙ ap after (sym is)
