-- Where what is kept of each byte stands, in cells of eight words (own).
use Rattle.std.specs.Prelude.{◌≡◌, ℕ, ◌+◌, ◌*◌, ◌/◌, ◌%◌, ◌^◌, ◌<◌, ◌≤◌, ◌⊎◌, ◌==◌, ◌&&◌, nat_eq, if◌then◌else◌, Option, None, Some, List, [], length, slice_index_or}
use Rattle.std.specs.HashMap.{get}
use Rattle.clmodel.specs.Cells.{byte_count, covers}
use Rattle.clmodel.specs.declared.access.Access.{Access}
use Rattle.shadow.specs.Seen.{mark_of}
use Rattle.group_traces.specs.Traces.{untouched, trace_with, word_byte, part_with, single_byte, HoldsBytes}
use Rattle.group_traces.specs.declared.cell.Apart.{Apart}
use Rattle.group_traces.specs.declared.cell.Cell.{Cell}
use Rattle.group_traces.specs.declared.cell.TracedWord.{TracedWord}
use Rattle.group_traces.specs.declared.cell.TracedWord.TheVariants as word
use Rattle.group_traces.specs.declared.trace.Trace.{Trace}
use Rattle.group_traces.specs.declared.traces.Traces.{Traces}

-- the bytes at a place of a list of those kept apart (own)
abbrev pub apart_at : List Apart → ℕ → Apart
apart_at apart at = slice_index_or apart at (record { key = 0; word = 0; traces = [] })

-- what is kept of byte k of word n of a cell of this key, of bytes that are kept apart: nothing where they are of
-- another word (own)
abbrev pub own_trace : ℕ → ℕ → Apart → ℕ → Trace
own_trace key n a k = if (a.key == key) && (a.word == n) then slice_index_or a.traces k untouched else untouched

-- what is kept of byte k of that word (own)
abbrev pub word_trace : List Apart → ℕ → ℕ → TracedWord → ℕ → Trace
word_trace apart key n word.Untouched k = untouched
word_trace apart key n (word.Whole w) k = word_byte w k
word_trace apart key n (word.Single how who) k = single_byte (record { how = how; who = who }) k
word_trace apart key n (word.Apart at) k = own_trace key n (apart_at apart at) k

-- the bytes of a word aren't kept apart (own)
abbrev pub IsWhole : TracedWord → Type 0
IsWhole word.Untouched = Unit {0}
IsWhole (word.Whole w) = Unit {0}
IsWhole (word.Single how who) = Unit {0}
IsWhole (word.Apart at) = ⊥

-- an access at so many bytes of it, from the first on, can be added to what is kept of a word (own)
abbrev pub FitsInPlace : Access → ℕ → ℕ → TracedWord → Type 0
FitsInPlace x first count word.Untouched = Unit {0}
FitsInPlace x first count (word.Whole w) = count ≡ 4
FitsInPlace x first count (word.Single how who) = HoldsBytes (record { how = how; who = who }) x first count
FitsInPlace x first count (word.Apart at) = ⊥

-- the bytes of a word are kept apart, at this place (own)
abbrev pub IsApart : TracedWord → ℕ → Type 0
IsApart w at = w ≡ word.Apart at

-- the cell at a place, and a word of one (own)
abbrev pub cell_at : List Cell → ℕ → Cell
cell_at cells i = slice_index_or cells i (record { key = 0; words = [] })

abbrev pub word_at : Cell → ℕ → TracedWord
word_at c n = slice_index_or c.words n word.Untouched

-- what is kept of byte b of a cell of this key: nothing where it has another (own)
abbrev pub cell_trace : List Apart → ℕ → Cell → ℕ → Trace
cell_trace apart key c b = if c.key == key then word_trace apart key (b / 4) (word_at c (b / 4)) (b % 4) else untouched

abbrev pub placed_trace : List Cell → List Apart → ℕ → ℕ → Option ℕ → Trace
placed_trace cells apart key b None = untouched
placed_trace cells apart key b (Some i) = cell_trace apart key (cell_at cells i) b

-- what is kept of byte b of the cell of a key (own)
abbrev pub at_key : Traces → ℕ → ℕ → Trace
at_key t key b = placed_trace t.cells.items t.apart.items key b (get nat_eq t.places key)

-- the key of the cell of a byte of an object, of a number below 2^32 (own)
abbrev pub key_of : ℕ → ℕ → ℕ
key_of number byte = byte / 32 * 2 ^ 32 + number

-- what is kept of a byte of an object (own)
abbrev pub trace_of : Traces → ℕ → ℕ → Trace
trace_of t number byte = at_key t (key_of number byte) (byte % 32)

-- the cell of a key is at a place (own)
pub record IsOwn (t : Traces) (key i : ℕ) : Type 0 where
  pub there : get nat_eq t.places key ≡ Some i
  pub inside : i < length t.cells.items
  pub own : (cell_at t.cells.items i).key ≡ key

-- the bytes of an access are in one word, or in the two of a pair, and their places are small (own)
abbrev pub IsNear : Access → Type 0
IsNear x = (x.first + byte_count x.width < 2 ^ 37) × ((x.first % 4 + byte_count x.width ≤ 4) ⊎ ((byte_count x.width ≡ 8) × (x.first % 8 ≡ 0)))

-- word n of the cell of a key becomes what this says of each of its bytes, and each other word stays (own)
abbrev pub IsWritten : (ℕ → ℕ → Trace) → (ℕ → ℕ → Trace) → ℕ → ℕ → (ℕ → Trace → Trace) → Type 0
IsWritten old new key n become = (q b : ℕ) → new q b ≡ (if (q == key) && (b / 4 == n) then become (b % 4) (old q b) else old q b)

-- an access to an object is added at each of its bytes (own)
abbrev pub IsMarked : Traces → Traces → ℕ → Access → Type 0
IsMarked old new number x =
    (n byte : ℕ) → n < 2 ^ 32
    → trace_of new n byte ≡ (if (n == number) && covers x.first (byte_count x.width) byte then trace_with (trace_of old n byte) x.interval (mark_of x byte) else trace_of old n byte)

-- a word of a cell is put (own)
pub record IsPut (old : List Cell) (i n : ℕ) (word : TracedWord) (new : List Cell) : Type 0 where
  pub long : length new ≡ length old
  pub others : (j : ℕ) → (j ≡ i → ⊥) → cell_at new j ≡ cell_at old j
  pub key : (cell_at new i).key ≡ (cell_at old i).key
  pub here : word_at (cell_at new i) n ≡ word
  pub words : (m : ℕ) → (m ≡ n → ⊥) → word_at (cell_at new i) m ≡ word_at (cell_at old i) m

-- an access is added to so many of the bytes that are kept apart at a place, from the first on (own)
pub record IsPart (x : Access) (first count : ℕ) (old : List Apart) (at : ℕ) (new : List Apart) : Type 0 where
  pub long : length new ≡ length old
  pub others : (p : ℕ) → (p ≡ at → ⊥) → apart_at new p ≡ apart_at old p
  pub key : (apart_at new at).key ≡ (apart_at old at).key
  pub word : (apart_at new at).word ≡ (apart_at old at).word
  pub traces : (k : ℕ) → k < 4 → slice_index_or (apart_at new at).traces k untouched ≡ part_with x first count k (slice_index_or (apart_at old at).traces k untouched)

-- what is kept stays (own)
abbrev pub IsSame : Traces → Traces → Type 0
IsSame old new = (q b : ℕ) → at_key new q b ≡ at_key old q b

-- an access can be added to what is kept of word n of a cell, or its bytes are kept apart as its own (own)
abbrev pub FitsWith : List Apart → ℕ → ℕ → Access → ℕ → ℕ → TracedWord → Type 0
FitsWith apart key n x first count word.Untouched = Unit {0}
FitsWith apart key n x first count (word.Whole w) = count ≡ 4
FitsWith apart key n x first count (word.Single how who) =
    HoldsBytes (record { how = how; who = who }) x first count
FitsWith apart key n x first count (word.Apart at) = (at < length apart) × ((apart_at apart at).key ≡ key) × ((apart_at apart at).word ≡ n)

abbrev pub IsFitting : Traces → ℕ → ℕ → Access → ℕ → ℕ → Type 0
IsFitting t i n x first count = FitsWith t.apart.items (cell_at t.cells.items i).key n x first count (word_at (cell_at t.cells.items i) n)
