-- How the innermost variable of a name is found (own).
use Rattle.std.specs.Prelude.{◌≡◌, None, List, [], ◌∷◌, map, replicate}
use Rattle.clmodel.specs.Next.{Variables, Binding}
use Rattle.lower_expr.specs.Scope.{last_place}
use Rattle.lower_expr.specs.declared.scope.Entry.{Entry}
use Rattle.lower_expr.specs.declared.scope.Variable.{Variable}

-- a variable that holds nothing
abbrev pub empty : Variable → Binding
empty variable = record { name = variable.name; kind = variable.kind; content = None; elements = replicate variable.elements None }

-- the variables of entries, innermost first
abbrev pub variables_of : List Entry → Variables
variables_of entries = map (λ entry. empty entry.variable) entries

-- each knows the place of the variable of its name that it hides
abbrev pub Hides : List Entry → Type 0
Hides [] = Unit {0}
Hides (entry ∷ entries) = (entry.hidden ≡ last_place (variables_of entries) entry.variable.name) × Hides entries
