use Rattle.std.proofs.Common.{◌≡◌, ℕ, ◌-◌, ◌≤◌, length, get_or}
use Rattle.shadow.specs.declared.words.MarkedWord.TheVariants as word
use Rattle.shadow.proofs.pages.fill.Given as goal

abbrev pub invariant-loop-row : goal.invariant-loop-row
invariant-loop-row l =
    (length l.fn.row.items ≤ length l.row.items)
    × ((k : ℕ) → get_or l.row.items k word.Untouched ≡ get_or l.fn.row.items k word.Untouched)

abbrev pub decreases-loop-row : goal.decreases-loop-row
decreases-loop-row l = 64 - length l.row.items
