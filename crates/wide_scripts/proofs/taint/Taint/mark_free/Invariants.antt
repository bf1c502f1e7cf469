use Rattle.std.proofs.Common.{◌≡◌, ◌⊎◌, ℕ, List, true, drop}
use Rattle.wide_scripts.specs.Notes.{is_free_name, marked}
use Rattle.wide_scripts.proofs.taint.Taint.mark_free.Given as goal

abbrev pub invariant-loop-number : goal.invariant-loop-number
invariant-loop-number l = record {
  kept : (other : List ℕ) → marked l.fn.self.marks other ≡ true → marked l.self.marks other ≡ true;
  rest : (other : List ℕ) → is_free_name l.names l.free other ≡ true → (marked l.self.marks other ≡ true) ⊎ (is_free_name (drop l.number l.names) (drop l.number l.free) other ≡ true);
}
