use Rattle.std.proofs.Common.{◌≡◌, ℕ, ◌<◌, get_or, length}
use Rattle.clmodel.specs.declared.tree.Function.{Function}
use Rattle.lower_code.proofs.functions.name_end.Given as goal

abbrev pub invariant-loop-function : goal.invariant-loop-function
invariant-loop-function l = (i : ℕ) (f : Function) → i < l.function-index → i < length l.functions → f ≡ get_or l.functions i f → f.name < l.end
