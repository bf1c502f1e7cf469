use Rattle.std.proofs.Common.{◌≡◌, ℕ, ◌-◌, length}
use Rattle.shadow.specs.Seen.{row_of}
use Rattle.shadow.proofs.pages.grow.Given as goal

abbrev pub invariant-loop-alloc : goal.invariant-loop-alloc
invariant-loop-alloc l = (page : ℕ) → row_of l.pages.items page ≡ row_of l.fn.pages.items page

abbrev pub decreases-loop-alloc : goal.decreases-loop-alloc
decreases-loop-alloc l = l.count - length l.pages.items
