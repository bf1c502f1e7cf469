use Rattle.spaces.specs.Overlay.{copies}
use Rattle.spaces.proofs.Changed.{AreWritten}
use Rattle.spaces.proofs.pages.Pages.write_into.Given as goal

-- the pages of the copies so far are written
abbrev pub invariant-loop-k : goal.invariant-loop-k
invariant-loop-k l = AreWritten l.fn.buffer (copies l.self.table) l.self.numbers.items l.self.cells.items l.k l.buffer
