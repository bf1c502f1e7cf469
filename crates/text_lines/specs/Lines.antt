-- Lines of a text (own): a line ends with its line feed, which is byte 10. Lines and columns count from 1, columns in
-- bytes.
use Rattle.std.specs.Prelude.{◌≡◌, ◌≢◌, ℕ, ◌+◌, ◌-◌, ◌<◌, ◌≤◌, ◌==◌, List, [], ◌∷◌, take, length, slice_index, if◌then◌else◌}

-- how many line feeds bytes have
abbrev pub line_feeds : List ℕ → ℕ
line_feeds [] = 0
line_feeds (byte ∷ bytes) = if byte == 10 then 1 + line_feeds bytes else line_feeds bytes

-- the number of the line in which a byte stands
abbrev pub line_of : List ℕ → ℕ → ℕ
line_of bytes at = line_feeds (take at bytes) + 1

-- the line of the byte `at` begins at `begin`: there is no line feed from there up to `at`, and one before it, if
-- anything is
pub record BeginsLine (bytes : List ℕ) (at begin : ℕ) : Type 0 where
  pub within : begin ≤ at
  pub after_feed : 0 < begin → slice_index bytes (begin - 1) ≡ 10
  pub no_feed : (k : ℕ) → begin ≤ k → k < at → slice_index bytes k ≢ 10

-- the first line feed from `begin` on, or the end of the text, is at `end`
pub record EndsLine (bytes : List ℕ) (begin end : ℕ) : Type 0 where
  pub within : end ≤ length bytes
  pub feed : end < length bytes → slice_index bytes end ≡ 10
  pub no_feed : (k : ℕ) → begin ≤ k → k < end → slice_index bytes k ≢ 10
