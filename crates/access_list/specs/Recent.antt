-- What is kept of the accesses to a byte, and to the four bytes of a word (own, on OpenCL 1.2, 3.3.1 and 6.12.8).
use Rattle.std.specs.Prelude.{◌≡◌, ℕ, ◌+◌, ◌-◌, ◌/◌, ◌%◌, ◌^◌, ◌≤◌, ◌==◌, ◌&&◌, Bool, true, false, List, length, slice_index_or}
use Rattle.clmodel.specs.Cells.{byte_of}
use Rattle.clmodel.specs.Launch.{left_at}
use Rattle.clmodel.specs.declared.access.Access.{Access}
use Rattle.access_list.specs.Kinds.{kind_number}
use Rattle.access_list.specs.declared.recent.Who.{Who}
use Rattle.access_list.specs.declared.recent.Who.TheVariants as who
use Rattle.access_list.specs.declared.recent.How.{How}
use Rattle.access_list.specs.declared.recent.How.TheVariants as how
use Rattle.access_list.specs.declared.recent.Recent.{Recent}
use Rattle.access_list.specs.declared.word.ListedWord.{ListedWord}
use Rattle.access_list.specs.declared.word.ListedWord.TheVariants as word

-- whether an item is one of these (own)
abbrev pub is_item : Who → ℕ → Bool
is_item who.Nobody item = false
is_item (who.One first) item = item == first
is_item who.Many item = true

-- whether an access at a byte is one of these: of the kind, and of the value there (own)
abbrev pub is_how : How → Access → ℕ → Bool
is_how (how.One kind left) y byte = (kind_number y.kind == kind_number kind) && (left_at y byte == left)
is_how how.Mixed y byte = true

-- an access at a byte is one of those of which this is kept, or of an earlier interval (6.12.8)
abbrev pub Describes : Recent → Access → ℕ → Type 0
Describes r y byte = (y.interval ≤ r.interval) × (y.interval ≡ r.interval → (is_item r.who y.item ≡ true) × (is_how r.how y byte ≡ true))

-- no accesses (own)
abbrev pub nothing : Recent
nothing = record { interval = 0; who = who.Nobody; how = how.Mixed }

-- the same accesses, by a part of what they left (own)
abbrev pub how_part : (ℕ → ℕ) → How → How
how_part part (how.One kind left) = how.One kind (part left)
how_part part how.Mixed = how.Mixed

-- what is kept of a part of the bytes of which this is kept (own)
abbrev pub part_of : (ℕ → ℕ) → Recent → Recent
part_of part r = record { interval = r.interval; who = r.who; how = how_part part r.how }

-- the number that a store leaves at the four bytes from one on (C99 6.2.6.1, 6.5.16.1)
abbrev pub word_left : Access → ℕ → ℕ
word_left x first = x.value / 256 ^ (first - x.first) % 2 ^ 32

-- what is kept of a byte of a word: a part of what is kept of all four, or what stands apart (own)
abbrev pub in_word : List Recent → ListedWord → ℕ → Recent
in_word apart (word.Whole all) k = part_of (byte_of k) all
in_word apart (word.Apart at) k = slice_index_or apart (at + k) nothing

-- no accesses to a word (own)
abbrev pub no_word : ListedWord
no_word = word.Whole nothing

-- what is kept of a byte of the word at a place (own)
abbrev pub at_place : List ListedWord → List Recent → ℕ → ℕ → Recent
at_place words apart place k = in_word apart (slice_index_or words place no_word) k

-- what is kept of the bytes of a word is there (own)
abbrev pub IsInside : List Recent → ListedWord → Type 0
IsInside apart w = (at : ℕ) → w ≡ word.Apart at → at + 4 ≤ length apart
