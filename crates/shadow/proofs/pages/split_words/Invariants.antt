use Rattle.std.proofs.Common.{◌≡◌, ℕ, ◌<◌, ◌≤◌}
use Rattle.shadow.specs.Seen.{IsApart, word_in, cell_in, IsPage}
use Rattle.shadow.proofs.pages.split_words.Given as goal

abbrev pub invariant-loop-number : goal.invariant-loop-number
invariant-loop-number l =
    ((n : ℕ) → l.start ≤ n → n < l.number → IsApart l.apart.items n (word_in l.pages.items n))
    × ((page : ℕ) → IsPage l.fn.pages.items page → IsPage l.pages.items page)
    × ((byte : ℕ) → cell_in l.apart.items l.pages.items byte ≡ cell_in l.fn.apart.items l.fn.pages.items byte)
