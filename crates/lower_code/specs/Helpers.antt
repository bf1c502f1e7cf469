-- The functions that can be called, and what is known of each (own).
use Rattle.std.specs.Prelude.{◌≡◌, ℕ, ◌+◌, ◌*◌, ◌<◌, ◌≤◌, ◌^◌, List, [], ◌∷◌, ◌++◌, None, Some, length, take, get_or, map}
use Rattle.clmodel.specs.Next.{sites_in, all_sites}
use Rattle.clmodel.specs.Tree.{Func, Funcs, NoFunc, ThenFunc, then_funcs, func}
use Rattle.clmodel.specs.Typing.Functions.{size_of}
use Rattle.clmodel.specs.Typing.Sizes.{Size, Sizes, size_in, row_size, sizes_of, node_limit}
use Rattle.clmodel.specs.declared.tree.Function.{Function}
use Rattle.regcode.specs.declared.instruction.Instruction.{Instruction}
use Rattle.lower_code.specs.Trees.{all_of}
use Rattle.lower_code.specs.Code.{call_code, result_in, body_code}
use Rattle.lower_code.specs.declared.known.KnownFunction.{KnownFunction}

abbrev pub functions_of : List Function → Funcs
functions_of functions = then_funcs NoFunc (map func functions)

-- the barriers in each function
abbrev pub inside : List Function → ℕ → ℕ
inside functions = sites_in (functions_of functions)

-- the sizes of the functions, and the nodes in each
abbrev pub sizes_in : List Function → Sizes
sizes_in functions = sizes_of (functions_of functions)

abbrev pub nodes_in : List Function → ℕ → ℕ
nodes_in functions name = (size_in (sizes_in functions) name).nodes

-- each function has no more nodes than are counted for its name, among the first functions too: as where no two have
-- one name
abbrev pub NodesCounted : List Function → Type 0
NodesCounted functions =
    (count i : ℕ) (f : Function) → i < count → count ≤ length functions → f ≡ get_or functions i f
    → (size_of (functions_of (take i functions)) (func f)).nodes ≤ nodes_in (take count functions) f.name

-- The sizes of functions with their parameters among the nodes: a call takes a level and an instruction for each
-- parameter of the helper, whatever arguments it has.
abbrev pub with_parameters : Func → Size → Size
with_parameters f s = record s { nodes = length f.parameters + s.nodes }

abbrev pub widths_of : Funcs → Sizes
widths_of NoFunc = []
widths_of (ThenFunc fs f) = widths_of fs ++ (f.name, with_parameters f (row_size (widths_of fs) f.body)) ∷ []

-- a function with these before it: its parameters, and its nodes and the parameters of the helpers that it calls
abbrev pub width_of : Funcs → Func → ℕ
width_of fs f = length f.parameters + (row_size (widths_of fs) f.body).nodes

abbrev pub widths_in : List Function → Sizes
widths_in functions = widths_of (functions_of functions)

abbrev pub width_in : List Function → ℕ → ℕ
width_in functions name = (size_in (widths_in functions) name).nodes

-- each function has no more of these than are counted for its name, among the first functions too
abbrev pub WidthsCounted : List Function → Type 0
WidthsCounted functions =
    (count i : ℕ) (f : Function) → i < count → count ≤ length functions → f ≡ get_or functions i f
    → width_of (functions_of (take i functions)) (func f) ≤ width_in (take count functions) f.name

-- With the parameters of the helpers that it calls a function has at most twice as many nodes: as where each call has
-- an argument for each parameter.
abbrev pub AreNarrow : List Function → Type 0
AreNarrow functions =
    (i : ℕ) (f : Function) → i < length functions → f ≡ get_or functions i f
    → (row_size (widths_in (take i functions)) (all_of f.body.items)).nodes ≤ 2 * (row_size (sizes_in (take i functions)) (all_of f.body.items)).nodes

-- the body of a function behind these, whose parameters are at a level and above
abbrev pub body_of : List Function → Function → ℕ → ℕ → ℕ → List Instruction
body_of functions f level depth site = body_code (call_code (functions_of functions)) (result_in (functions_of functions)) (inside functions) (func f) level depth site

-- how many barriers are in each of the first functions, where it is known
abbrev pub BarriersKnown : List Function → List KnownFunction → Type 0
BarriersKnown functions known =
    (i : ℕ) (f : Function) (k : KnownFunction) (n : ℕ) → i < length functions → i < length known → f ≡ get_or functions i f → k ≡ get_or known i k
    → k.barriers ≡ Some n → n ≡ all_sites (inside (take i functions)) (all_of f.body.items)

-- and where it isn't known, there are 2^32 or more
abbrev pub BarriersCounted : List Function → List KnownFunction → Type 0
BarriersCounted functions known =
    (i : ℕ) (f : Function) (k : KnownFunction) → i < length functions → i < length known → f ≡ get_or functions i f → k ≡ get_or known i k
    → k.barriers ≡ None → 2 ^ 32 ≤ all_sites (inside (take i functions)) (all_of f.body.items)

-- each function stands before the end of its name
abbrev pub EndsKnown : List Function → List ℕ → Type 0
EndsKnown functions ends =
    (i : ℕ) (f : Function) → i < length functions → f ≡ get_or functions i f → i < get_or ends f.name 0

-- how long the code of each one's body is, wherever it is called, where it is known
abbrev pub LengthsKnown : List Function → List KnownFunction → Type 0
LengthsKnown functions known =
    (i : ℕ) (f : Function) (k : KnownFunction) (n level depth site : ℕ) → i < length functions → i < length known → f ≡ get_or functions i f → k ≡ get_or known i k
    → k.length ≡ Some n → n ≡ length (body_of (take i functions) f level depth site)

-- and where the barriers are known and the length isn't, the function has more nodes than a kernel may have, those of
-- the functions that it calls among them
abbrev pub LengthsCounted : List Function → List KnownFunction → Type 0
LengthsCounted functions known =
    (i : ℕ) (f : Function) (k : KnownFunction) (n : ℕ) → i < length functions → i < length known → f ≡ get_or functions i f → k ≡ get_or known i k
    → k.barriers ≡ Some n → k.length ≡ None → node_limit < (size_of (functions_of (take i functions)) (func f)).nodes
