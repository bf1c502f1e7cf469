-- What the checking of an expression answers.
use Rattle.std.specs.Prelude.{◌≡◌, Option, None, Some, Result, Ok, Err}
use Rattle.clmodel.specs.declared.type_fault.TypeFault.{TypeFault}

-- the value that is wanted where there is no fault, else the fault
abbrev pub Checks : {A : Type 0} → Result A TypeFault → Option TypeFault → A → Type 0
Checks (Ok a) fault wanted = (fault ≡ None) × (a ≡ wanted)
Checks (Err f) fault wanted = fault ≡ Some f
