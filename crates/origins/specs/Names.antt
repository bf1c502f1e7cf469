-- The variables in scope, the outermost first, by what the length of code depends on (own).
use Rattle.std.specs.Prelude.{ℕ, zero, suc, ℤ, pos, negsuc, ◌==◌, Bool, true, false, None, List, [], ◌∷◌, ◌++◌, map}
use Rattle.clnum.specs.Integer as integers
use Rattle.clnum.specs.declared.int_type.IntType.{IntType}
use Rattle.clnum.specs.declared.int_type.IntType.TheVariants.{Int}
use Rattle.clmodel.specs.Next.{Binding, Variables, variable, has_elements}
use Rattle.clmodel.specs.Tree.{Stmt, Declare, DeclareAs, DeclareArray, Stmts, NoStmt, ThenStmt, MaybeStmt, Without, With}
use Rattle.clmodel.specs.declared.tree.Parameter.{Parameter}
use Rattle.clmodel.specs.declared.tree.VariableType.{VariableType}
use Rattle.clmodel.specs.declared.tree.VariableType.TheVariants.{Integer}
use Rattle.lower_code.specs.Variables.{local_pointer}
use Rattle.origins.specs.declared.names.Meaning.{Meaning}
use Rattle.origins.specs.declared.names.Meaning.TheVariants.{Unknown, Array, Plain}
use Rattle.origins.specs.declared.names.NamedVariable.{NamedVariable}

-- what a name stands for: the last variable of it, if there is one
abbrev pub meaning_behind : Meaning → List NamedVariable → ℕ → Meaning
meaning_behind found [] name = found
meaning_behind found (v ∷ vs) name = meaning_behind (elim (name == v.name) [ true ↦ v.meaning | false ↦ found ]) vs name

abbrev pub meaning_of : List NamedVariable → ℕ → Meaning
meaning_of names name = meaning_behind Unknown names name

-- its type: that of the last variable of it, and int if there is none
abbrev pub kind_behind : VariableType → List NamedVariable → ℕ → VariableType
kind_behind found [] name = found
kind_behind found (v ∷ vs) name = kind_behind (elim (name == v.name) [ true ↦ v.kind | false ↦ found ]) vs name

abbrev pub kind_of : List NamedVariable → ℕ → VariableType
kind_of names name = kind_behind (Integer Int) names name

-- the same variables, the innermost first, as the type of an expression depends on them
abbrev pub variables_behind : Variables → List NamedVariable → Variables
variables_behind variables [] = variables
variables_behind variables (v ∷ vs) = variables_behind (variable v.name v.kind None ∷ variables) vs

abbrev pub variables_of : List NamedVariable → Variables
variables_of names = variables_behind [] names

-- a variable that is no private array
abbrev pub plain : ℕ → VariableType → NamedVariable
plain name kind = record { name = name; kind = kind; meaning = Plain }

-- whether a variable is a private array
abbrev pub array_or_plain : Bool → Meaning
array_or_plain true = Array
array_or_plain false = Plain

-- a variable of a scope
abbrev pub named : Binding → NamedVariable
named v = record { name = v.name; kind = v.kind; meaning = array_or_plain (has_elements v.elements) }

abbrev pub positive : ℤ → Meaning
positive (pos zero) = Plain
positive (pos (suc n)) = Array
positive (negsuc n) = Plain

-- what the name of an array stands for: one of no elements is no array
abbrev pub array_meaning : Bool → integers.Integer → Meaning
array_meaning true count = Plain
array_meaning false count = positive count.number

-- the type of the variable of an array
abbrev pub array_kind : Bool → IntType → VariableType
array_kind true element = local_pointer element
array_kind false element = Integer element

-- the variables of a scope
abbrev pub names_of : Variables → List NamedVariable
names_of [] = []
names_of (v ∷ vs) = names_of vs ++ named v ∷ []

-- with the variable of a declaration
abbrev pub names_after : List NamedVariable → Stmt → List NamedVariable
names_after names (Declare at kind name_at name) = names ++ plain name kind ∷ []
names_after names (DeclareAs at kind name_at name value) = names ++ plain name kind ∷ []
names_after names (DeclareArray at is_local element name_at name length_at count) = names ++ record { name = name; kind = array_kind is_local element; meaning = array_meaning is_local count } ∷ []
names_after names _ = names

abbrev pub names_after_part : List NamedVariable → MaybeStmt → List NamedVariable
names_after_part names Without = names
names_after_part names (With s) = names_after names s

abbrev pub names_after_all : List NamedVariable → Stmts → List NamedVariable
names_after_all names NoStmt = names
names_after_all names (ThenStmt ss s) = names_after (names_after_all names ss) s

-- the parameters of a function
abbrev pub parameter_names : List Parameter → List NamedVariable
parameter_names ps = map (λ (p : Parameter). plain p.name p.kind) ps
