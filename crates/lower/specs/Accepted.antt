-- What the instructions of typed trees owe to their tables, one by one (own).
use Rattle.std.specs.Prelude.{◌≡◌, ℕ, ◌+◌, ◌<◌, ◌≤◌, Bool, true, false, nat_eq, Option, None, Some, List, [], ◌∷◌, length, map, slice_get}
use Rattle.std.specs.Map.{lookup}
use Rattle.clmodel.specs.Next.{is_private_array}
use Rattle.clmodel.specs.declared.declaration.Declaration.{Declaration}
use Rattle.clmodel.specs.declared.declaration.Declaration.TheVariants.{Single, LocalArray, PrivateArray}
use Rattle.clmodel.specs.declared.tree.VariableType.{VariableType}
use Rattle.clmodel.specs.declared.tree.VariableType.TheVariants.{Integer}
use Rattle.regcode.specs.Listing.{Listing}
use Rattle.regcode.specs.Rules.{kind_at, kind_of, HasRoom, Fits, loops_at, most_loops, MayGoOn, LeadsInside, IsVerified}
use Rattle.regcode.specs.declared.instruction.Instruction.{Instruction}
use Rattle.clnum.specs.declared.int_type.IntType.{IntType}
use Rattle.clmodel.specs.Setup.{kernel_in, functions_before}
use Rattle.clmodel.specs.Tree.{Program, Term, Target, Stmts, Func, Funcs, NoFunc, ThenFunc}
use Rattle.clmodel.specs.Typing.{IsTypedProgram}
use Rattle.clmodel.specs.Typing.Sizes.{Sizes, size_in, row_size, sizes_of}
use Rattle.clmodel.specs.Typing.Context.{Context, meaning, Bound}
use Rattle.clmodel.specs.Typing.Rules.{Types, TypesTarget}
use Rattle.lower_expr.specs.Scope.{Scope, register_at, register_of}
use Rattle.lower_expr.specs.Expressions.{kind_named, expr_code, target_code}
use Rattle.regcode.specs.declared.instruction.Instruction.TheVariants as instruction
use Rattle.lower_code.specs.Code.{local_pointer, Exits, Calls, stmts_code, kernel_code}
use Rattle.code_tables.specs.Tables.{register_kind, registers_of, names_of, objects_of, depth_after, tabled}

-- these registers are in the tables, each with its kind
abbrev pub Has : Listing → List ℕ → Type 0
Has code [] = Unit {0}
Has code (r ∷ rs) = (kind_at code r ≡ Some (register_kind r)) × Has code rs

-- the private array that an instruction names is there, and long enough for its declaration
abbrev pub HasArray : List ℕ → Instruction → Type 0
HasArray lengths (instruction.UnsetArray array count) = HasRoom (slice_get lengths array) count
HasArray lengths (instruction.PrivateLoad to array index element name) = array < length lengths
HasArray lengths (instruction.PrivateStore array index value element name) = array < length lengths
HasArray lengths _ = Unit {0}

-- what an instruction names is in the tables
pub record Wide (code : Listing) (i : Instruction) : Type 0 where
  pub registers : Has code (registers_of i)
  pub arrays : HasArray code.arrays i
  pub objects : objects_of i ≤ code.objects
  pub names : names_of i ≤ code.names

-- an instruction that fits all tables with these parameters that have what it names
abbrev pub Suits : List VariableType → Instruction → Type 0
Suits parameters i = (code : Listing) → code.parameters ≡ parameters → Wide code i → Fits code i

abbrev pub Suit : List VariableType → List Instruction → Type 0
Suit parameters [] = Unit {0}
Suit parameters (i ∷ is) = Suits parameters i × Suit parameters is

-- a register is of a type
abbrev pub Is : ℕ → VariableType → Type 0
Is r kind = register_kind r ≡ kind_of kind

-- the type of the variable that a declaration adds, and whether it is a private array
abbrev pub declared_kind : Declaration → VariableType
declared_kind (Single k) = k
declared_kind (LocalArray t) = local_pointer t
declared_kind (PrivateArray t) = Integer t

abbrev pub is_private : Declaration → Bool
is_private (Single k) = false
is_private (LocalArray t) = false
is_private (PrivateArray t) = true

-- a variable's register and type, and whether it is a private array
pub record InScope (scope : Scope) (name : ℕ) (d : Declaration) : Type 0 where
  pub level : ℕ
  pub register : register_of scope name ≡ Some (register_at level (declared_kind d))
  pub declared : kind_named scope name ≡ declared_kind d
  pub array : is_private_array scope.variables name ≡ is_private d

-- a scope of code has the variables of a context
abbrev pub Matches : Context → Scope → Type 0
Matches c scope = (name : ℕ) (d : Declaration) → meaning c name ≡ Bound d → InScope scope name d

-- the code of typed expressions, and of targets
abbrev pub ExpressionsSuit : Type 0
ExpressionsSuit =
    (parameters : List VariableType) (c : Context) (scope : Scope) (level : ℕ) (e : Term) (kind : VariableType) →
    Matches c scope → Types c e kind → Suit parameters (expr_code scope level e)

abbrev pub TargetsSuit : Type 0
TargetsSuit =
    (parameters : List VariableType) (c : Context) (scope : Scope) (level : ℕ) (target : Target) (kind : VariableType) →
    Matches c scope → TypesTarget c target kind → Suit parameters (target_code scope level target)

-- an instruction with n behind it goes to one of them or past the last, and names no loop
abbrev pub Stays : Instruction → ℕ → Type 0
Stays (instruction.Jump by) n = by ≤ n
Stays (instruction.JumpIfZero register by) n = by ≤ n
Stays (instruction.Barrier site depth fences) n = ⊥
Stays (instruction.Enter depth) n = ⊥
Stays (instruction.Turn depth) n = ⊥
Stays (instruction.Back by) n = ⊥
Stays _ n = Unit {0}

abbrev pub Flat : List Instruction → Type 0
Flat [] = Unit {0}
Flat (i ∷ is) = Stays i (length is) × Flat is

-- the jumps of expressions, typed or not, end in their code or behind it
abbrev pub ExpressionsFlat : Type 0
ExpressionsFlat = (scope : Scope) (level : ℕ) (e : Term) → Flat (expr_code scope level e)

-- code whose instructions suit the parameters fits the tables that are made from it
abbrev pub SuitFits : Type 0
SuitFits =
    (parameters : List VariableType) (code : List Instruction) → Suit parameters code →
    (place : ℕ) (i : Instruction) → slice_get code place ≡ Some i → Fits (tabled code parameters) i

-- code stands at a place where n loops are entered, and the table has the loops behind each instruction
abbrev pub Standing : Listing → ℕ → ℕ → List Instruction → Type 0
Standing L at depth [] = Unit {0}
Standing L at depth (i ∷ is) = (slice_get L.instructions at ≡ Some i) × (loops_at L at ≡ depth) × Standing L (at + 1) (depth_after depth i) is

-- how many loops are entered behind code
abbrev pub ends : ℕ → List Instruction → ℕ
ends depth [] = depth
ends depth (i ∷ is) = ends (depth_after depth i) is

-- each of these instructions goes where it may, in few enough loops
abbrev pub Going : Listing → ℕ → List Instruction → Type 0
Going L at [] = Unit {0}
Going L at (i ∷ is) = LeadsInside L at i × (loops_at L at ≤ most_loops) × Going L (at + 1) is

-- code may go on behind a statement's end, and at its other exits
pub record Opens (L : Listing) (depth end : ℕ) (exits : Exits) : Type 0 where
  pub next : MayGoOn L end depth
  pub broken : MayGoOn L (end + exits.broken) depth
  pub continued : MayGoOn L (end + exits.continued) depth
  pub returned : MayGoOn L (end + exits.returned) depth

-- Code with loops of this depth in it: it leaves the loops round it as they are, and goes where it may wherever it
-- stands.
pub record Sound (loops depth : ℕ) (exits : Exits) (code : List Instruction) : Type 0 where
  pub balanced : ends depth code ≡ depth
  pub goes : (L : Listing) (at end : ℕ) → Standing L at depth code → at + length code ≡ end → Opens L depth end exits → depth + loops ≤ most_loops → Going L at code

-- the code of expressions, typed or not, goes where it may
abbrev pub ExpressionsSound : Type 0
ExpressionsSound = (loops depth : ℕ) (exits : Exits) (scope : Scope) (level : ℕ) (e : Term) → Sound loops depth exits (expr_code scope level e)

-- the code of statements, typed or not, goes where it may, if that of the calls of helpers does
abbrev pub StatementsSound : Type 0
StatementsSound =
    (sizes : Sizes) (calls : Calls) (results : ℕ → Option IntType) (inside : ℕ → ℕ) (result : Option IntType) →
    ((name : ℕ) (numbers : List ℕ) (level depth site : ℕ) (exits : Exits) → Sound (size_in sizes name).loops depth exits (calls name numbers level depth site)) →
    (scope : Scope) (body : Stmts) (depth site : ℕ) (exits : Exits) → Sound (row_size sizes body).loops depth exits (stmts_code calls results inside result scope body depth site exits)

-- no two functions have one name
abbrev pub Distinct : Funcs → Type 0
Distinct NoFunc = Unit {0}
Distinct (ThenFunc fs f) = Distinct fs × (lookup (nat_eq f.name) (sizes_of fs) ≡ None)

-- The code of a kernel without too many loops goes where it may.
abbrev pub KernelsGo : Type 0
KernelsGo =
    (parameters : List VariableType) (earlier : Funcs) (f : Func) → Distinct earlier → (row_size (sizes_of earlier) f.body).loops ≤ most_loops →
    (place : ℕ) (i : Instruction) → slice_get (kernel_code earlier f) place ≡ Some i →
    LeadsInside (tabled (kernel_code earlier f) parameters) place i × (loops_at (tabled (kernel_code earlier f) parameters) place ≤ most_loops)

-- A kernel's code is verified with the tables that are made from it, if its instructions suit the types of the
-- parameters.
abbrev pub KernelsVerified : Type 0
KernelsVerified =
    (parameters : List VariableType) (earlier : Funcs) (f : Func) → Distinct earlier → (row_size (sizes_of earlier) f.body).loops ≤ most_loops →
    Suit parameters (kernel_code earlier f) → IsVerified (tabled (kernel_code earlier f) parameters)

-- For each typed program, the code of each kernel of it is verified with the tables that are made from it and the
-- kernel's parameters.
unfoldable pub TypedKernelsVerified : Type 0
TypedKernelsVerified =
    (program : Program) (name : ℕ) (f : Func) → IsTypedProgram program → kernel_in program.functions name ≡ Some f →
    IsVerified (tabled (kernel_code (functions_before program.functions name) f) (map (λ p. p.kind) f.parameters))
