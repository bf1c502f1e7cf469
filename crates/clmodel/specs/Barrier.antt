-- The barrier and the names of its fences, by their places in a tree's table of names (OpenCL 1.2, 6.12.8).
use Rattle.std.specs.Prelude.{ℕ, ◌&&◌, ◌||◌, Bool, true, false, Option, None, Some, if◌then◌else◌}
use Rattle.clnum.specs.declared.operators.BinaryOperator.TheVariants.{BitOr}
use Rattle.clmodel.specs.Tree.{Term, Variable, Binary, Terms, NoTerm, ThenTerm}
use Rattle.clmodel.specs.BuiltIns.{meaning_of_place}
use Rattle.clmodel.specs.declared.action.Fences.{Fences}
use Rattle.clmodel.specs.declared.setup.Predefined.{Predefined}
use Rattle.clmodel.specs.declared.setup.Predefined.TheVariants.{Barrier, Fence}
use Rattle.clmodel.specs.declared.tree.InfixOperator.{InfixOperator}
use Rattle.clmodel.specs.declared.tree.InfixOperator.TheVariants.{Arithmetic}

abbrev pub barrier_in : Option Predefined → Bool
barrier_in (Some Barrier) = true
barrier_in _ = false

-- whether a name is that of the barrier
abbrev pub is_barrier : ℕ → Bool
is_barrier name = barrier_in (meaning_of_place name)

abbrev pub fence_in : Option Predefined → Option Fences
fence_in (Some (Fence f)) = Some f
fence_in _ = None

-- what a name fences
abbrev pub fence_named : ℕ → Option Fences
fence_named name = fence_in (meaning_of_place name)

abbrev pub fence : Term → Option Fences
fence (Variable at name) = fence_named name
fence _ = None

-- both fences, where one is the local and the other the global one
abbrev pub both_fences : Option Fences → Option Fences → Option Fences
both_fences (Some f) (Some g) = if (f.local && g.global) || (f.global && g.local) then Some (record { local = true; global = true }) else None
both_fences _ _ = None

abbrev pub joined_fences : InfixOperator → Option Fences → Option Fences → Option Fences
joined_fences (Arithmetic BitOr) f g = both_fences f g
joined_fences _ f g = None

-- what an argument fences: the name of a fence, or the two names joined by `|`
abbrev pub fences_of : Term → Option Fences
fences_of (Variable at name) = fence_named name
fences_of (Binary at operator left right) = joined_fences operator (fence left) (fence right)
fences_of _ = None

-- what a barrier with these arguments fences, of which it has one
abbrev pub fences : Terms → Option Fences
fences (ThenTerm NoTerm argument) = fences_of argument
fences _ = None
