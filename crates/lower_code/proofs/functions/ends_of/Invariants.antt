use Rattle.std.proofs.Common.{◌≡◌, ℕ, ◌<◌, get_or, length}
use Rattle.clmodel.specs.declared.tree.Function.{Function}
use Rattle.lower_code.proofs.functions.ends_of.Given as goal

abbrev pub invariant-loop-i : goal.invariant-loop-i
invariant-loop-i l = record {
  within : (i : ℕ) (f : Function) → i < length l.functions → f ≡ get_or l.functions i f → f.name < length l.ends.items;
  ends : (i : ℕ) (f : Function) → i < l.i → i < length l.functions → f ≡ get_or l.functions i f → i < get_or l.ends.items f.name 0;
}
