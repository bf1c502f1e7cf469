-- The names that have a meaning without a declaration (OpenCL 1.2, 6.12.1, 6.12.3, 6.12.8 and 6.12.11).
use Rattle.std.specs.Prelude.{ℕ, true, false, List, [], ◌∷◌, codes, slice_get, Option, None, Some, map}
use Rattle.clnum.specs.declared.operators.Builtin.TheVariants as integer
use Rattle.clmodel.specs.declared.setup.WorkItemFunction.TheVariants as work_item
use Rattle.clmodel.specs.declared.setup.AtomicFunction.TheVariants as atomic
use Rattle.clmodel.specs.declared.setup.BuiltIn.{BuiltIn}
use Rattle.clmodel.specs.declared.setup.BuiltIn.TheVariants.{WorkDim, WorkItem, Integer, Atomic}
use Rattle.clmodel.specs.declared.setup.Predefined.{Predefined}
use Rattle.clmodel.specs.declared.setup.Predefined.TheVariants.{Function, Barrier, Fence}

-- Each predefined name with its meaning. A tree's table of names begins with these, in this order.
abbrev pub predefined : List (List ℕ × Predefined)
predefined =
    (codes "get_work_dim", Function WorkDim) ∷
    (codes "get_global_id", Function (WorkItem work_item.GlobalId)) ∷
    (codes "get_local_id", Function (WorkItem work_item.LocalId)) ∷
    (codes "get_group_id", Function (WorkItem work_item.GroupId)) ∷
    (codes "get_global_offset", Function (WorkItem work_item.GlobalOffset)) ∷
    (codes "get_global_size", Function (WorkItem work_item.GlobalSize)) ∷
    (codes "get_local_size", Function (WorkItem work_item.LocalSize)) ∷
    (codes "get_num_groups", Function (WorkItem work_item.NumGroups)) ∷
    (codes "min", Function (Integer integer.Min)) ∷
    (codes "max", Function (Integer integer.Max)) ∷
    (codes "abs", Function (Integer integer.Abs)) ∷
    (codes "clz", Function (Integer integer.Clz)) ∷
    (codes "popcount", Function (Integer integer.Popcount)) ∷
    (codes "rotate", Function (Integer integer.Rotate)) ∷
    (codes "barrier", Barrier) ∷
    (codes "atomic_add", Function (Atomic atomic.Add)) ∷
    (codes "atomic_sub", Function (Atomic atomic.Sub)) ∷
    (codes "atomic_min", Function (Atomic atomic.Min)) ∷
    (codes "atomic_max", Function (Atomic atomic.Max)) ∷
    (codes "atomic_and", Function (Atomic atomic.And)) ∷
    (codes "atomic_or", Function (Atomic atomic.Or)) ∷
    (codes "atomic_xor", Function (Atomic atomic.Xor)) ∷
    (codes "atomic_inc", Function (Atomic atomic.Inc)) ∷
    (codes "atomic_dec", Function (Atomic atomic.Dec)) ∷
    (codes "CLK_LOCAL_MEM_FENCE", Fence (record { local = true; global = false })) ∷
    (codes "CLK_GLOBAL_MEM_FENCE", Fence (record { local = false; global = true })) ∷
    (codes "atomic_xchg", Function (Atomic atomic.Exchange)) ∷
    (codes "atomic_cmpxchg", Function (Atomic atomic.CompareExchange)) ∷
    []

-- the meanings in a table of texts
abbrev pub meanings : {Text : Type 0} → List (Text × Predefined) → List Predefined
meanings = map (λ entry. entry.1)

-- what a name means by its place in a tree's table of names, if it is one of these
abbrev pub meaning_of_place : ℕ → Option Predefined
meaning_of_place name = slice_get (meanings predefined) name

abbrev pub function_in : Option Predefined → Option BuiltIn
function_in (Some (Function f)) = Some f
function_in _ = None

-- the built-in function of a name
abbrev pub built_in : ℕ → Option BuiltIn
built_in name = function_in (meaning_of_place name)

-- the places of the names of the fences (6.12.8)
abbrev pub local_fence : ℕ
local_fence = 24

abbrev pub global_fence : ℕ
global_fence = 25
