-- What is kept of the accesses to the bytes of a launch's buffers, and the conflicts that it tells (OpenCL 1.2, 3.3.1,
-- 6.12.8; own in what is kept).
use Rattle.std.specs.Prelude.{◌≡◌, ℕ, zero, suc, ◌/◌, ◌%◌, ◌<◌, ◌≤◌, ◌==◌, Bool, true, false, not, ◌&&◌, ◌||◌, Option, None, List, [], ◌∷◌, if◌then◌else◌, slice_index_or, length, map, Vec}
use Rattle.std.specs.declared.alloc.Global.{Global}
use Rattle.std.specs.Option.{option_map}
use Rattle.clmodel.specs.Cells.{byte_count, byte_of, covers}
use Rattle.clmodel.specs.Launch.{clash, both_store, left_at, across_groups, conflict_between}
use Rattle.clmodel.specs.Run.{or_else}
use Rattle.clmodel.specs.Law.{Logged, conflict_from}
use Rattle.clmodel.specs.declared.access.Access.{Access}
use Rattle.clmodel.specs.declared.access.AccessKind.{AccessKind}
use Rattle.clmodel.specs.declared.access.AccessKind.TheVariants as kind
use Rattle.clmodel.specs.declared.access.Clash.{Clash}
use Rattle.clmodel.specs.declared.access.Region.{Region}
use Rattle.clmodel.specs.declared.access.Region.TheVariants as region
use Rattle.clmodel.specs.declared.access.Conflict as conflict_type
use Rattle.joining.specs.Memory.{writes, at_byte}
use Rattle.access_list.specs.Kinds.{kind_number}
use Rattle.shadow.specs.declared.seen.Mark.{Mark}
use Rattle.shadow.specs.declared.seen.Meeting.{Meeting}
use Rattle.shadow.specs.declared.pages.Pages.{Pages}
use Rattle.shadow.specs.declared.footprint.Footprint.{Footprint}
use Rattle.shadow.specs.declared.seen.Seen.{Seen}
use Rattle.shadow.specs.declared.words.MarkedWord.{MarkedWord}
use Rattle.shadow.specs.declared.words.MarkedWord.TheVariants as word
use Rattle.shadow.specs.declared.words.WordMark.{WordMark}
use Rattle.shadow.specs.declared.words.Bytes.{Bytes}
use Rattle.shadow.specs.declared.seen.Seen.TheVariants.{Untouched, Touched, Mixed}

-- two accesses to a byte are of one sort: of one kind, and stores leave the same byte (own)
abbrev pub one_sort : Mark → Mark → Bool
one_sort a b = (kind_number a.kind == kind_number b.kind) && (a.left == b.left)

-- a byte with one access more: the first access is kept, and the first of another sort than it (own)
abbrev pub seen_with : Seen → Mark → Seen
seen_with Untouched m = Touched m
seen_with (Touched a) m = if one_sort a m then Touched a else Mixed a m
seen_with (Mixed a b) m = Mixed a b

-- whether an access more changes what is kept of a byte (own)
abbrev pub is_new : Seen → Mark → Bool
is_new Untouched m = true
is_new (Touched a) m = not (one_sort a m)
is_new (Mixed a b) m = false

-- the byte that a store leaves, 0 for each other kind (own)
abbrev pub left_by : AccessKind → ℕ → ℕ
left_by kind.Load left = 0
left_by kind.Store left = left
left_by (kind.Update class) left = 0
left_by kind.Fetch left = 0

-- who made an access, how, and what a store leaves at this byte (C99 6.5.16.1, own)
abbrev pub mark_of : Access → ℕ → Mark
mark_of x byte = record { item = x.item; kind = x.kind; left = left_by x.kind (left_at x byte) }

-- what is kept of a byte, of a log that has the newest access first (own)
abbrev pub seen : Region → ℕ → List Access → Seen
seen at byte [] = Untouched
seen at byte (x ∷ log) = if at_byte at byte x then seen_with (seen at byte log) (mark_of x byte) else seen at byte log

-- whether one of the accesses to a byte wrote (C99 6.5.16.1, 6.12.11)
abbrev pub is_written : Seen → Bool
is_written Untouched = false
is_written (Touched a) = writes a.kind
is_written (Mixed a b) = writes a.kind || writes b.kind

-- how two accesses to a byte conflict, by whether the launch is uniform (3.3.1, own)
abbrev pub mark_clash : Bool → Mark → Mark → Option Clash
mark_clash uniform a b = if both_store a.kind b.kind && uniform && (a.left == b.left) then None else clash a.kind b.kind

-- how an access with the mark `mine` conflicts with an earlier one on a byte (3.3.1)
abbrev pub met : Bool → Mark → ℕ → Mark → Option Meeting
met uniform mine byte m = option_map (λ c. record { clash = c; mark = m; byte = byte }) (mark_clash uniform m mine)

-- the earliest of what is kept of a byte that an access conflicts with (3.3.1, own in which)
abbrev pub against : Bool → Mark → ℕ → Seen → Option Meeting
against uniform mine byte Untouched = None
against uniform mine byte (Touched a) = met uniform mine byte a
against uniform mine byte (Mixed a b) = or_else (met uniform mine byte a) (met uniform mine byte b)

-- the same on the lowest of n bytes (own)
abbrev pub against_from : Bool → Access → (ℕ → Seen) → ℕ → ℕ → Option Meeting
against_from uniform x cells byte zero = None
against_from uniform x cells byte (suc count) =
    or_else (against uniform (mark_of x byte) byte (cells byte)) (against_from uniform x cells (suc byte) count)

-- a conflict as far as a report names it (own)
abbrev pub meeting_of : conflict_type.Conflict → Meeting
meeting_of c = record { clash = c.clash; mark = mark_of c.earlier c.byte; byte = c.byte }

-- what the mark of a word of four bytes says of its byte k (own)
abbrev pub byte_mark : WordMark → ℕ → Mark
byte_mark m k = record { item = m.item; kind = m.kind; left = byte_of k m.left }

-- the bytes at a place of a list of those kept apart (own)
abbrev pub bytes_at : List Bytes → ℕ → Bytes
bytes_at apart at = slice_index_or apart at (record { word = 0; bytes = [] })

-- what is kept of byte k of a word, of bytes that are kept apart: nothing where they are of another word (own)
abbrev pub own_seen : ℕ → Bytes → ℕ → Seen
own_seen number b k = if b.word == number then slice_index_or b.bytes k Untouched else Untouched

-- what is kept of byte k of a word of this number (own)
abbrev pub byte_seen : List Bytes → ℕ → MarkedWord → ℕ → Seen
byte_seen apart number word.Untouched k = Untouched
byte_seen apart number (word.Touched a) k = Touched (byte_mark a k)
byte_seen apart number (word.Mixed a b) k = seen_with (Touched (byte_mark a k)) (byte_mark b k)
byte_seen apart number (word.Apart at) k = own_seen number (bytes_at apart at) k

-- whether a word stays one when an access to all of it is added (own)
abbrev pub is_ready : MarkedWord → Bool
is_ready word.Untouched = true
is_ready (word.Touched a) = true
is_ready (word.Mixed a b) = not (kind_number a.kind == kind_number b.kind)
is_ready (word.Apart at) = false

-- each byte of a word of this number is kept apart (own)
abbrev pub IsApart : List Bytes → ℕ → MarkedWord → Type 0
IsApart apart number word.Untouched = ⊥
IsApart apart number (word.Touched a) = ⊥
IsApart apart number (word.Mixed a b) = ⊥
IsApart apart number (word.Apart at) = (at < length apart) × ((bytes_at apart at).word ≡ number)

-- where the low and the high four bytes of an access begin in it (own)
abbrev pub half_start : Bool → ℕ
half_start false = 0
half_start true = 4

-- the words of a page, none where it has none (own)
abbrev pub row_of : List (Vec MarkedWord Global) → ℕ → List MarkedWord
row_of pages page = slice_index_or (map (λ row. row.items) pages) page []

-- a word of one buffer: pages have 64 words (own)
abbrev pub word_in : List (Vec MarkedWord Global) → ℕ → MarkedWord
word_in pages number = slice_index_or (row_of pages (number / 64)) (number % 64) word.Untouched

-- what is kept of a byte of one buffer (own)
abbrev pub cell_in : List Bytes → List (Vec MarkedWord Global) → ℕ → Seen
cell_in apart pages byte = byte_seen apart (byte / 4) (word_in pages (byte / 4)) (byte % 4)

-- a page has its words (own)
abbrev pub IsPage : List (Vec MarkedWord Global) → ℕ → Type 0
IsPage pages page = (page < length pages) × (64 ≤ length (row_of pages page))

-- each of `count` bytes got its mark, and `news` says whether this changed what is kept of one of them (own)
pub record IsMarked (old new : ℕ → Seen) (mark : ℕ → Mark) (first count : ℕ) (news : Bool) : Type 0 where
  pub marked : (byte : ℕ) → new byte ≡ (if covers first count byte then seen_with (old byte) (mark byte) else old byte)
  pub quiet : news ≡ false → (byte : ℕ) → covers first count byte ≡ true → is_new (old byte) (mark byte) ≡ false
  pub told : news ≡ true → (byte : ℕ) × (covers first count byte ≡ true) × (is_new (old byte) (mark byte) ≡ true)

-- what is kept of a byte, of buffers by their numbers (own)
abbrev pub cell : List (ℕ → Seen) → ℕ → ℕ → Seen
cell buffers number = slice_index_or buffers number (λ _. Untouched)

-- buffers as what is kept of each byte (own)
abbrev pub buffer_cells : List Pages → List (ℕ → Seen)
buffer_cells buffers = map (λ b. cell_in b.apart.items b.pages.items) buffers

-- the cells keep what these accesses did to buffers, the newest first (own)
abbrev pub Remembers : List (ℕ → Seen) → List Access → Type 0
Remembers buffers log = (number byte : ℕ) → cell buffers number byte ≡ seen (region.Buffer number) byte log

-- no access is of this item (3.2)
abbrev pub OfOthers : ℕ → List Access → Type 0
OfOthers item log = (y : Access) → Logged log y → y.item ≡ item → ⊥

-- the conflict of an access of another group's item with these, on its lowest byte that has one, with the earliest
-- access there, by whether the launch is uniform (3.3.1, own)
abbrev pub meeting : Bool → Access → List Access → Option Meeting
meeting uniform x log = option_map meeting_of (conflict_from (conflict_between (across_groups uniform)) x log x.first (byte_count x.width))

-- the same by the region of the access: groups share buffers alone, and a local object is of one group (3.3, 6.5.2)
abbrev pub met_at : Bool → Region → Access → List Access → Option Meeting
met_at uniform (region.Buffer number) x log = meeting uniform x log
met_at uniform (region.Local group number) x log = None

-- a meeting of an access as a conflict with it: of the earlier access item and kind are kept, and it is told at the
-- bytes of the later (own)
abbrev pub conflict_with : Meeting → Access → conflict_type.Conflict
conflict_with m x =
    record { earlier = record x { item = m.mark.item; kind = m.mark.kind }; later = x; byte = m.byte; clash = m.clash }

-- a footprint keeps what these accesses did to buffers, the newest first (own)
abbrev pub IsFootprint : Footprint → List Access → Type 0
IsFootprint footprint log = Remembers (buffer_cells footprint.buffers.items) log
