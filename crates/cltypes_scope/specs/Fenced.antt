-- What is known in the arguments of a barrier, and elsewhere.
use Rattle.std.specs.Prelude.{◌≡◌, ℕ, cond}
use Rattle.clmodel.specs.Typing.Context.{Context, meaning, fenced}
use Rattle.cltypes_scope.specs.declared.names.Names.{Names}

-- at a place with these names: in the arguments of a barrier those of its fences, too
abbrev pub names_of : Names → Context
names_of n = cond n.in_barrier (fenced n.context.now) n.context.now

-- contexts in which each name stands for the same
abbrev pub AreAlike : Context → Context → Type 0
AreAlike c d = (x : ℕ) → meaning c x ≡ meaning d x
