-- Where register code keeps the variables in scope and the values of expressions (own).
use Rattle.std.specs.Prelude.{◌≡◌, ℕ, ◌+◌, ◌*◌, ◌==◌, Bool, true, false, Option, None, Some, List, [], ◌∷◌, length, map}
use Rattle.clnum.specs.declared.int_type.IntType.{IntType}
use Rattle.clnum.specs.Integer.{type_number}
use Rattle.clmodel.specs.Next.{Variables, variable, private_array, has_elements}
use Rattle.clmodel.specs.declared.tree.VariableType.{VariableType}
use Rattle.clmodel.specs.declared.tree.VariableType.TheVariants.{Integer, Pointer}
use Rattle.regcode.specs.Machine.{Registers, reg, array_of}

-- the number of a type below 16: the integer types, and then the pointers to them
abbrev pub kind_number : VariableType → ℕ
kind_number (Integer kind) = type_number kind
kind_number (Pointer pointer) = 8 + type_number pointer.element

-- The register of a type at a level. Each level has one for each type, so that a register has values of one type alone.
abbrev pub register_at : ℕ → VariableType → ℕ
register_at level kind = 16 * level + kind_number kind

-- The variables in scope, innermost first, and the level of the outermost: each further one is a level up. What they
-- hold is of no account, but whether they are private arrays: such a one has elements.
pub record Scope : Type 0 where
  pub base : ℕ
  pub variables : Variables

-- the first level that is free
abbrev pub free_level : Scope → ℕ
free_level scope = scope.base + length scope.variables

-- the register of the innermost variable of a name
abbrev pub register_in : ℕ → Variables → ℕ → Option ℕ
register_in base [] name = None
register_in base (variable ∷ variables) name =
    elim (name == variable.name) [ true ↦ Some (register_at (base + length variables) variable.kind) | false ↦ register_in base variables name ]

abbrev pub register_of : Scope → ℕ → Option ℕ
register_of scope name = register_in scope.base scope.variables name

-- The level of the innermost variable of a name; the lowest where there is none. It is the number of its private array,
-- if it is one.
abbrev pub level_in : ℕ → Variables → ℕ → ℕ
level_in base [] name = base
level_in base (variable ∷ variables) name = elim (name == variable.name) [ true ↦ base + length variables | false ↦ level_in base variables name ]

abbrev pub level_of : Scope → ℕ → ℕ
level_of scope name = level_in scope.base scope.variables name

-- the place of the innermost variable of a name, counted from the outermost
abbrev pub last_place : Variables → ℕ → Option ℕ
last_place [] name = None
last_place (variable ∷ variables) name = elim (name == variable.name) [ true ↦ Some (length variables) | false ↦ last_place variables name ]

-- the elements of a variable: those that the private array of its level has, if it is one
abbrev pub seen_elements : (own held : List (Option ℕ)) → List (Option ℕ)
seen_elements [] held = []
seen_elements (element ∷ elements) held = held

-- the variables, each with what its register and its private array hold
abbrev pub view : ℕ → Variables → Registers → Variables
view base [] registers = []
view base (variable ∷ variables) registers =
    record variable {
      content = reg registers (register_at (base + length variables) variable.kind);
      elements = seen_elements variable.elements (array_of registers (base + length variables));
    } ∷ view base variables registers

abbrev pub seen : Scope → Registers → Variables
seen scope registers = view scope.base scope.variables registers

-- which of the variables are private arrays
abbrev pub arrays_in : Variables → List Bool
arrays_in variables = map (λ variable. has_elements variable.elements) variables

-- The registers hold what these variables do, and the private arrays among them have been declared.
pub record Shows (base : ℕ) (variables : Variables) (registers : Registers) (now : Variables) : Type 0 where
  pub same : view base variables registers ≡ now
  pub arrays : arrays_in (view base variables registers) ≡ arrays_in variables

abbrev pub Sees : Scope → Registers → Variables → Type 0
Sees scope registers now = Shows scope.base scope.variables registers now

-- with one variable more
abbrev pub declared : Scope → ℕ → VariableType → Scope
declared scope name kind = record scope { variables = variable name kind None ∷ scope.variables }

-- with one private array more, of n elements
abbrev pub declared_array : Scope → ℕ → IntType → ℕ → Scope
declared_array scope name element count = record scope { variables = private_array element count name ∷ scope.variables }
