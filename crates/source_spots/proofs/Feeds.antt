-- How many lines a source may have.
use Rattle.std.proofs.Common.{ℕ, zero, suc, ◌+◌, ◌≤◌, ◌==◌, Bool, true, false, if◌then◌else◌, List, [], ◌∷◌, length, take, arith}
use Rattle.text_lines.specs.Lines.{line_feeds, line_of}

-- a front has at most as many line feeds as the text has bytes
pub few_feeds : (n : ℕ) (xs : List ℕ) → line_feeds (take n xs) ≤ length xs
few_feeds zero xs = omega arith
few_feeds (suc n) [] = omega arith
few_feeds (suc n) (x ∷ xs) = go (x == 10) (few_feeds n xs)
  where
    go : (b : Bool) → line_feeds (take n xs) ≤ length xs → (if b then 1 + line_feeds (take n xs) else line_feeds (take n xs)) ≤ suc (length xs)
    go true h = omega (arith, h)
    go false h = omega (arith, h)

-- a byte stands in a line whose number is at most one more than the text has bytes
pub few_lines : (xs : List ℕ) (at : ℕ) → line_of xs at ≤ length xs + 1
few_lines xs at = let few = few_feeds at xs in omega (arith, few)
