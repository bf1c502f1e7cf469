-- What a launch runs: a kernel of a program with a range, arguments and a budget (OpenCL 1.2, 3.2, 6.7 and 6.12.1).
use Rattle.std.specs.Prelude.{ℕ, ◌+◌, ◌*◌, ◌/◌, ◌%◌, ◌==◌, suc, Bool, true, false, ◌&&◌, if◌then◌else◌, Option, None, Some, List, [], ◌∷◌, ◌++◌, slice_index, slice_index_or, nat_eq, position}
use Rattle.std.specs.List.{list_any}
use Rattle.std.specs.Option.{option_map, option_and_then}
use Rattle.std.specs.Cmp.Lexicographic.{pointwise}
use Rattle.clmodel.specs.Tree.{Program, Func, Funcs, NoFunc, ThenFunc, Stmt, Declare, DeclareAs, DeclareArray, Stmts, NoStmt, ThenStmt, array_bytes}
use Rattle.clmodel.specs.declared.setup.Range.{Range}
use Rattle.clmodel.specs.declared.tree.Parameter.{Parameter}
use Rattle.clmodel.specs.declared.setup.Argument.{Argument}
use Rattle.clmodel.specs.declared.setup.Argument.TheVariants as argument
use Rattle.clmodel.specs.declared.setup.WorkItemFunction.{WorkItemFunction}
use Rattle.clmodel.specs.declared.setup.WorkItemFunction.TheVariants as work_item

-- a kernel by its name's number, with an argument for each parameter, or None where it was not given
pub record Setup : Type 0 where
  pub program : Program
  pub kernel : ℕ
  pub range : Range
  pub arguments : List (Option Argument)
  pub budget : ℕ

abbrev pub product : List ℕ → ℕ
product [] = 1
product (n ∷ ns) = n * product ns

-- how many items a launch has, and how many a group
abbrev pub item_count : Range → ℕ
item_count range = product range.global

abbrev pub group_items : Range → ℕ
group_items range = product range.local

-- a number as one digit for each size, the lowest first
abbrev pub digits : ℕ → List ℕ → List ℕ
digits n [] = []
digits n (size ∷ sizes) = n % size ∷ digits (n / size) sizes

-- an item's local id in a dimension, 0 where there is no such dimension
abbrev pub local_id : Range → ℕ → ℕ → ℕ
local_id range item dimension = slice_index (digits (item % group_items range) range.local) dimension

-- how many groups there are in each dimension
abbrev pub quotients : List ℕ → List ℕ → List ℕ
quotients [] sizes = []
quotients (n ∷ ns) [] = []
quotients (n ∷ ns) (size ∷ sizes) = n / size ∷ quotients ns sizes

abbrev pub group_counts : Range → List ℕ
group_counts range = quotients range.global range.local

-- the id of an item's group in a dimension
abbrev pub group_id : Range → ℕ → ℕ → ℕ
group_id range item dimension = slice_index (digits (item / group_items range) (group_counts range)) dimension

-- an item's global id in a dimension
abbrev pub global_id : Range → ℕ → ℕ → ℕ
global_id range item dimension =
    slice_index range.offset dimension + group_id range item dimension * slice_index_or range.local dimension 1 + local_id range item dimension

-- what a work-item function gives an item in a dimension: an id or an offset is 0 where there is no such dimension, a
-- size or a count 1
abbrev pub work_item_value : Range → ℕ → WorkItemFunction → ℕ → ℕ
work_item_value range item work_item.GlobalId dimension = global_id range item dimension
work_item_value range item work_item.LocalId dimension = local_id range item dimension
work_item_value range item work_item.GroupId dimension = group_id range item dimension
work_item_value range item work_item.GlobalOffset dimension = slice_index range.offset dimension
work_item_value range item work_item.GlobalSize dimension = slice_index_or range.global dimension 1
work_item_value range item work_item.LocalSize dimension = slice_index_or range.local dimension 1
work_item_value range item work_item.NumGroups dimension = slice_index_or (group_counts range) dimension 1

-- two names are the same text
abbrev pub same_text : List ℕ → List ℕ → Bool
same_text = pointwise nat_eq

-- names with one more at the end, if it isn't there
abbrev pub with_name : List (List ℕ) → List ℕ → List (List ℕ)
with_name names name = if list_any (same_text name) names then names else names ++ name ∷ []

-- the buffers that arguments name, each once, behind others
abbrev pub names_among : List (List ℕ) → List (Option Argument) → List (List ℕ)
names_among names [] = names
names_among names (Some (argument.Buffer name) ∷ arguments) = names_among (with_name names name) arguments
names_among names (Some (argument.Value _) ∷ arguments) = names_among names arguments
names_among names (Some (argument.Local _) ∷ arguments) = names_among names arguments
names_among names (None ∷ arguments) = names_among names arguments

-- the launch's buffers, in the order of the first arguments that name them
abbrev pub buffer_names : Setup → List (List ℕ)
buffer_names setup = names_among [] setup.arguments

-- A place for an object in the local memory of a group: the number of its name, and its size in bytes (6.5.2). There is
-- one for each parameter and for each variable and array, private ones too, of the outermost block: most are of no
-- bytes, and are there for the numbers alone: that of a local array's object is the number of variables in scope before
-- it (own).
pub record LocalObject : Type 0 where
  pub name : ℕ
  pub size : ℕ

-- the bytes of local memory that an argument is
abbrev pub local_size : Option Argument → ℕ
local_size (Some (argument.Local size)) = size
local_size _ = 0

-- a local object for each parameter, of no bytes where its argument isn't local memory
abbrev pub parameter_objects : List Parameter → List (Option Argument) → List LocalObject
parameter_objects [] arguments = []
parameter_objects (p ∷ ps) [] = record { name = p.name; size = 0 } ∷ parameter_objects ps []
parameter_objects (p ∷ ps) (argument ∷ arguments) = record { name = p.name; size = local_size argument } ∷ parameter_objects ps arguments

-- the local object of a declaration, of no bytes where what is declared isn't a local array
abbrev pub declared_object : Stmt → List LocalObject
declared_object (Declare at kind name_at name) = record { name = name; size = 0 } ∷ []
declared_object (DeclareAs at kind name_at name value) = record { name = name; size = 0 } ∷ []
declared_object (DeclareArray at true element name_at name length_at count) = record { name = name; size = array_bytes element count } ∷ []
declared_object (DeclareArray at false element name_at name length_at count) = record { name = name; size = 0 } ∷ []
declared_object _ = []

-- those of a block, in the order of the text; a block inside it, whose arrays aren't local, has none
abbrev pub body_objects : Stmts → List LocalObject
body_objects NoStmt = []
body_objects (ThenStmt ss s) = body_objects ss ++ declared_object s

-- the place of a name among others
abbrev pub place_of : List (List ℕ) → List ℕ → ℕ
place_of [] name = 0
place_of (other ∷ others) name = if same_text name other then 0 else suc (place_of others name)

-- the kernel of a name
abbrev pub kernel_in : Funcs → ℕ → Option Func
kernel_in NoFunc name = None
kernel_in (ThenFunc fs f) name = if f.is_kernel && (f.name == name) then Some f else kernel_in fs name

-- the number of the name of a program's kernel, or None where it has no such kernel
abbrev pub kernel_number : Program → List ℕ → Option ℕ
kernel_number program name =
    option_and_then (λ number. option_map (λ f. f.name) (kernel_in program.functions number)) (position (same_text name) program.names)

-- the functions before the kernel of a name
abbrev pub functions_before : Funcs → ℕ → Funcs
functions_before NoFunc name = NoFunc
functions_before (ThenFunc fs f) name = if f.is_kernel && (f.name == name) then fs else functions_before fs name

-- The local objects of a kernel with these arguments, by their numbers: a place for each parameter, and then one for
-- each declaration of its outermost block, most of no bytes (6.5.2).
abbrev pub objects_of : Option Func → List (Option Argument) → List LocalObject
objects_of None arguments = []
objects_of (Some f) arguments = parameter_objects f.parameters arguments ++ body_objects f.body

-- those of a launch
abbrev pub local_objects : Setup → List LocalObject
local_objects setup = objects_of (kernel_in setup.program.functions setup.kernel) setup.arguments
