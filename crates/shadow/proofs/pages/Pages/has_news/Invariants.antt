use Rattle.std.proofs.Common.{◌≡◌, ℕ, ◌<◌, ◌≤◌, false}
use Rattle.shadow.specs.Seen.{is_new, mark_of, cell_in}
use Rattle.shadow.proofs.pages.Pages.has_news.Given as goal

abbrev pub invariant-loop-byte : goal.invariant-loop-byte
invariant-loop-byte l = (byte : ℕ) → l.first ≤ byte → byte < l.byte → is_new (cell_in l.self.apart.items l.self.pages.items byte) (mark_of l.x byte) ≡ false
