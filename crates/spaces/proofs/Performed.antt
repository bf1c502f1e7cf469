-- Operations done on a space.
use Rattle.std.proofs.Common.{◌≡◌, ℕ, Bool, Option, Some, List, refl, sym, subst}
use Rattle.std.specs.Prelude.{Ok}
use Rattle.std.proofs.Math.Path.{fun_ext}
use Rattle.clmodel.specs.Cells.{cells_of, byte_count, number, written, updated_word, fetched}
use Rattle.clmodel.specs.declared.access.Class.{Class}
use Rattle.clmodel.specs.declared.access.FetchOp.{FetchOp}
use Rattle.clmodel.specs.declared.access.Width.{Width}
use Rattle.clmodel.specs.declared.access.Operation.{Operation}
use Rattle.clmodel.specs.declared.access.Operation.TheVariants.{Store, Update, Fetch}
use Rattle.clmodel.specs.declared.action.Answer.TheVariants.{Value, Done}
use Rattle.spaces.specs.Space.{Becomes}
use Rattle.spaces.specs.Operations.{IsPerformed}

pub stored :
    (may_want : Bool) (old new : List (Option ℕ)) (first : ℕ) (width : Width) (value : ℕ) (operation : Operation) → operation ≡ Store width value
    → Becomes old new (written (cells_of old) first (byte_count width) value) → IsPerformed may_want old first operation new (Ok Done)
stored may_want old new first width value operation e h =
    subst (λ z. IsPerformed may_want old first z new (Ok Done)) (sym e) (0, refl, refl, h.length_same, fun_ext h.cells_are)

pub updated :
    (may_want : Bool) (old new : List (Option ℕ)) (first : ℕ) (class : Class) (operand x : ℕ) (operation : Operation) → operation ≡ Update class operand
    → number (cells_of old) first 4 ≡ Some x → Becomes old new (written (cells_of old) first 4 (updated_word class x operand))
    → IsPerformed may_want old first operation new (Ok Done)
updated may_want old new first class operand x operation e f h =
    subst (λ z. IsPerformed may_want old first z new (Ok Done)) (sym e) (x, f, refl, h.length_same, fun_ext h.cells_are)

pub fetched_as :
    (may_want : Bool) (old new : List (Option ℕ)) (first : ℕ) (op : FetchOp) (operand x : ℕ) (operation : Operation) → operation ≡ Fetch op operand
    → number (cells_of old) first 4 ≡ Some x → Becomes old new (written (cells_of old) first 4 (fetched op x operand))
    → IsPerformed may_want old first operation new (Ok (Value x))
fetched_as may_want old new first op operand x operation e f h =
    subst (λ z. IsPerformed may_want old first z new (Ok (Value x))) (sym e) (x, f, refl, h.length_same, fun_ext h.cells_are)
