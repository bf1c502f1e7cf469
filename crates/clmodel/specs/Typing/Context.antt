-- What a name stands for (OpenCL 1.2, 6.9; C99 6.2.1 and 6.2.3).
use Rattle.std.specs.Prelude.{ℕ, Bool, true, false, not, ◌&&◌, nat_eq, nat_lt, List, [], ◌∷◌, ◌++◌, length, Option, None, Some, is_some, if◌then◌else◌}
use Rattle.std.specs.List.{list_any}
use Rattle.std.specs.Option.{option_or}
use Rattle.std.specs.Map.{lookup}
use Rattle.clnum.specs.declared.int_type.IntType.{IntType}
use Rattle.clnum.specs.declared.int_type.IntType.TheVariants.{Uint}
use Rattle.limits.specs.declared.Limits.{Limits}
use Rattle.clmodel.specs.Barrier.{is_barrier}
use Rattle.clmodel.specs.BuiltIns.{predefined, built_in, local_fence, global_fence}
use Rattle.clmodel.specs.declared.declaration.Declaration.{Declaration}
pub use Rattle.clmodel.specs.declared.declaration.Declaration.TheVariants.{Single, LocalArray, PrivateArray}
use Rattle.clmodel.specs.declared.setup.BuiltIn.{BuiltIn}
use Rattle.clmodel.specs.declared.tree.AddressSpace.TheVariants.{Local}
use Rattle.clmodel.specs.declared.tree.VariableType.{VariableType}
use Rattle.clmodel.specs.declared.tree.VariableType.TheVariants.{Integer as Number, Pointer}
use Rattle.clmodel.specs.Tree as tree
use Rattle.clmodel.specs.Tree.{Stmt, Stmts, NoStmt, ThenStmt, MaybeStmt, Without, With}

-- The type of the value of what is declared. That of a local array is a pointer to its first element (C99 6.3.2.1,
-- paragraph 3); a private array has none, since there are no pointers to private memory (own).
abbrev pub value_type : Declaration → Option VariableType
value_type (Single k) = Some k
value_type (LocalArray t) = Some (Pointer (record { space = Local; is_const = false; element = t }))
value_type (PrivateArray t) = None

-- the type of the elements of what is declared, where it can stand in front of an index (C99 6.5.2.1)
abbrev pub element_type : Declaration → Option IntType
element_type (Single (Number t)) = None
element_type (Single (Pointer p)) = Some p.element
element_type (LocalArray t) = Some t
element_type (PrivateArray t) = Some t

-- what is declared in a scope, in the order of the text
abbrev pub Scope : Type 0
Scope = List (ℕ × Declaration)

-- what a call of a function of the text has to know of it
pub record Signature : Type 0 where
  pub is_kernel : Bool
  pub result : Option IntType  -- the type of the value that it gives, if it gives one
  pub parameters : List VariableType

pub record Context : Type 0 where
  pub limits : Limits  -- the limits of the device
  pub all : List ℕ  -- the names of the functions of the whole text
  pub before : List (ℕ × Signature)  -- the functions before this one, by their names, in the order of the text
  pub current : ℕ  -- this function's name
  pub signature : Signature
  pub in_loop : Bool
  pub inner : Scope  -- the innermost scope
  pub outer : List Scope  -- those around it, the innermost first

pub data Meaning : Type 0 where
  Bound : Declaration → Meaning
  Callable : Signature → Meaning  -- a function before this one
  Current : Signature → Meaning  -- the function itself
  BuiltInFunction : BuiltIn → Meaning
  Barrier : Meaning
  Unknown : Meaning

-- what a scope declares a name as
abbrev pub declared : Scope → ℕ → Option Declaration
declared scope x = lookup (nat_eq x) scope

-- what the first of these scopes that declares a name declares it as
abbrev pub variable : List Scope → ℕ → Option Declaration
variable [] x = None
variable (scope ∷ scopes) x = option_or (declared scope x) (variable scopes x)

abbrev pub among : ℕ → List ℕ → Bool
among x names = list_any (nat_eq x) names

-- names with one more, if it isn't among them
abbrev pub with_name : List ℕ → ℕ → List ℕ
with_name names x = if among x names then names else names ++ x ∷ []

abbrev pub called : Option Signature → Option BuiltIn → (is_barrier : Bool) → Meaning
called (Some s) f b = Callable s
called None (Some f) b = BuiltInFunction f
called None None true = Barrier
called None None false = Unknown

-- the signature of the first of these functions that has a name
abbrev pub signature_of : List (ℕ × Signature) → ℕ → Option Signature
signature_of functions x = lookup (nat_eq x) functions

abbrev pub found : Option Declaration → Meaning → Meaning
found None m = m
found (Some d) m = Bound d

-- A function of the text whose text has begun, or a built-in one. Functions that come later are unknown.
abbrev pub function_meaning : Context → ℕ → Meaning
function_meaning c x = if nat_eq x c.current then Current c.signature else called (signature_of c.before x) (built_in x) (is_barrier x)

-- a variable or an array, or a function
abbrev pub meaning : Context → ℕ → Meaning
meaning c x = found (variable (c.inner ∷ c.outer) x) (function_meaning c x)

-- A table of names begins with the predefined ones, which nothing else can have.
abbrev pub is_reserved : ℕ → Bool
is_reserved x = nat_lt x (length predefined)

-- whether a variable or an array of this name may be declared: an outer scope's is hidden by it
abbrev pub is_free : Context → ℕ → Bool
is_free c x = not (is_reserved x) && not (is_some (declared c.inner x)) && not (among x c.all)

abbrev pub bind : Context → ℕ → Declaration → Context
bind c x d = record c { inner = c.inner ++ (x, d) ∷ [] }

-- a new scope inside
abbrev pub enter : Context → Context
enter c = record c { inner = []; outer = c.inner ∷ c.outer }

-- the arguments of a barrier, in which the names of the fences stand for numbers (6.12.8)
abbrev pub fenced : Context → Context
fenced c = bind (bind (enter c) local_fence (Single (Number Uint))) global_fence (Single (Number Uint))

abbrev pub is_empty : List Scope → Bool
is_empty [] = true
is_empty (scope ∷ scopes) = false

-- whether this is the outermost block of a kernel, where local arrays are declared (6.5.2)
abbrev pub is_outermost : Context → Bool
is_outermost c = c.signature.is_kernel && is_empty c.outer

-- the body of a loop: a block (C99 6.8.5, paragraph 5), in which `break` and `continue` may stand
abbrev pub turning : Context → Context
turning c = record c { in_loop = true; inner = []; outer = c.inner ∷ c.outer }

-- what a name is as an array (6.5.2 and 6.5.4)
abbrev pub array : (is_local : Bool) → IntType → Declaration
array true t = LocalArray t
array false t = PrivateArray t

-- What follows a statement sees what it declares.
abbrev pub after : Context → Stmt → Context
after c (tree.Declare a kind b x) = bind c x (Single kind)
after c (tree.DeclareAs a kind b x e) = bind c x (Single kind)
after c (tree.DeclareArray a is_local t b x d n) = bind c x (array is_local t)
after c _ = c

abbrev pub after_all : Context → Stmts → Context
after_all c NoStmt = c
after_all c (ThenStmt ss s) = after (after_all c ss) s

-- where the condition of a `for` stands: in a block of its own, which sees what the first part declares (C99 6.8.5.3)
abbrev pub after_part : Context → MaybeStmt → Context
after_part c Without = c
after_part c (With s) = after c s

abbrev pub for_context : Context → MaybeStmt → Context
for_context c first = after_part (enter c) first
