-- Where the bytes of buffers differ (own).
use Rattle.std.specs.Prelude.{◌≡◌, ◌≢◌, ℕ, ◌<◌, List, [], slice_get, slice_index_or, length}
use Rattle.explore_runs.specs.declared.apart.Place.{Place}

-- two rows of bytes differ at this byte, and at no lower one
abbrev pub IsFirstByte : List ℕ → List ℕ → ℕ → Type 0
IsFirstByte one other byte = (slice_get one byte ≢ slice_get other byte) × ((lower : ℕ) → lower < byte → slice_get one lower ≡ slice_get other lower)

-- two rows have the same bytes, as far as the first one goes
abbrev pub AreAlike : List ℕ → List ℕ → Type 0
AreAlike one other = (byte : ℕ) → byte < length one → slice_get one byte ≡ slice_get other byte

-- two lists of buffers differ at this byte of this buffer, at no lower byte of it, and at no byte of a lower buffer
abbrev pub IsFirstApart : List (List ℕ) → List (List ℕ) → Place → Type 0
IsFirstApart one other place =
    IsFirstByte (slice_index_or one place.buffer []) (slice_index_or other place.buffer []) place.byte
    × ((lower : ℕ) → lower < place.buffer → AreAlike (slice_index_or one lower []) (slice_index_or other lower []))
