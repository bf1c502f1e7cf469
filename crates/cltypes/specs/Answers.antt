-- What the checker answers.
use Rattle.std.specs.Prelude.{◌≡◌, ◌↔◌, ◌⊎◌, Option, None, Some, Result, Ok, Err}
use Rattle.limits.specs.declared.Limits.{Limits}
use Rattle.clmodel.specs.Tree.{Program}
use Rattle.clmodel.specs.Typing.{IsTypedWithin, IsTypeFault}
use Rattle.clmodel.specs.declared.type_fault.TypeFault.{TypeFault}
use Rattle.clmodel.specs.declared.type_fault.TypeFault.TheVariants as fault

-- an answered fault is the program's fault within these limits; out of memory says nothing
abbrev pub IsFaultOf : Limits → Program → TypeFault → Type 0
IsFaultOf limits program fault.OutOfMemory = Unit {0}
IsFaultOf limits program f = IsTypeFault limits program f

-- a program is typed within these limits, or it has a fault, and no other
pub record IsExactlyTyped (limits : Limits) (program : Program) : Type 0 where
  pub typed : IsTypedWithin limits program ↔ ((f : TypeFault) → IsTypeFault limits program f → ⊥)
  pub one_fault : (f g : TypeFault) → IsTypeFault limits program f → IsTypeFault limits program g → f ≡ g

unfoldable pub IsTypedExactly : Type 0
IsTypedExactly = (limits : Limits) (program : Program) → IsExactlyTyped limits program

-- no fault, or the fault, or out of memory
abbrev pub Ends : {A : Type 0} → Result A TypeFault → Option TypeFault → Type 0
Ends (Ok a) o = o ≡ None
Ends (Err f) o = (f ≡ fault.OutOfMemory) ⊎ (o ≡ Some f)
