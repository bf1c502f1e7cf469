-- The entries of a log in their order, as progressions: rounds of a loop, and the strides between them (own).
use Rattle.std.specs.Prelude.{◌≡◌, ℕ, zero, suc, ◌+◌, ◌*◌, ◌/◌, ◌%◌, ◌^◌, ◌<◌, ◌≤◌, Bool, ◌&&◌, nat_lt, List, [], ◌∷◌, ◌++◌, if◌then◌else◌, length, slice_index_or, All, Vec, vec_len, vec_capacity}
use Rattle.std.specs.declared.alloc.Global.{Global}
use Rattle.clmodel.specs.declared.access.AccessKind.TheVariants as kind
use Rattle.clmodel.specs.declared.access.Region.TheVariants as region
use Rattle.clmodel.specs.declared.access.Width.TheVariants as width
use Rattle.access_list.specs.declared.log.Entry.{Entry}
use Rattle.group_log.specs.declared.progression.Progression.{Progression}
use Rattle.group_log.specs.declared.stride.EntryStride.{EntryStride}

-- the entries as a list, and whether there is room for one more (own)
pub record Listed : Type 0 where
  pub items : List Entry
  pub has_room : Bool

-- the entry n rounds behind another; its numbers wrap around (own)
unfoldable pub ahead : EntryStride → Entry → ℕ → Entry
ahead s e n =
    record {
      access = record e.access {
        item = (e.access.item + s.item * (n % 2 ^ 32) % 2 ^ 32) % 2 ^ 32;
        first = (e.access.first + s.first * n % 2 ^ 64) % 2 ^ 64;
        value = (e.access.value + s.value * n % 2 ^ 64) % 2 ^ 64;
      };
      event = (e.event + s.event * (n % 2 ^ 32) % 2 ^ 32) % 2 ^ 32;
    }

-- an entry and a stride where a list has none (own)
abbrev pub no_entry : Entry
no_entry = record {
  access = record { item = 0; region = region.Buffer 0; first = 0; width = width.One; kind = kind.Load; value = 0; interval = 0 };
  event = 0;
}

abbrev pub no_step : EntryStride
no_step = record { item = 0; first = 0; value = 0; event = 0 }

-- entry k of a progression whose first round stands from `head` on, has `period` entries, and has its strides from
-- `step` on (own)
unfoldable pub entry_at : List Entry → List EntryStride → ℕ → ℕ → ℕ → ℕ → Entry
entry_at heads steps head period step k =
    if nat_lt k period then slice_index_or heads (head + k) no_entry
    else ahead (slice_index_or steps (step + k % period) no_step) (slice_index_or heads (head + k % period) no_entry) (k / period)

-- the first n entries of a progression (own)
abbrev pub entries_to : List Entry → List EntryStride → ℕ → ℕ → ℕ → ℕ → List Entry
entries_to heads steps head period step zero = []
entries_to heads steps head period step (suc n) = entries_to heads steps head period step n ++ entry_at heads steps head period step n ∷ []

-- all entries of a progression (own)
abbrev pub entries_of : List Entry → List EntryStride → Progression → List Entry
entries_of heads steps l = entries_to heads steps l.head l.period l.step l.count

-- the entries of progressions, one progression after another (own)
abbrev pub entries_all : List Entry → List EntryStride → List Progression → List Entry
entries_all heads steps [] = []
entries_all heads steps (l ∷ progressions) = entries_of heads steps l ++ entries_all heads steps progressions

-- a progression has its first round among so many kept entries, and its strides among so many (own)
pub record IsIn (heads steps : ℕ) (l : Progression) : Type 0 where
  pub head : l.head + l.period ≤ heads
  pub step : l.period < l.count → (0 < l.period) × (l.step + l.period ≤ steps)

-- each progression begins where the one before ends, from `at` to `end` (own)
abbrev pub AreNext : ℕ → List Progression → ℕ → Type 0
AreNext at [] end = at ≡ end
AreNext at (l ∷ progressions) end = (l.start ≡ at) × AreNext (at + l.count) progressions end

-- Closed progressions and a last one have their rounds and strides where they say, and follow one another from entry 0
-- on; the last, while it has one round, has its entries at the end of the kept ones (own)
pub record AreProgressions (heads : List Entry) (steps : List EntryStride) (closed : List Progression) (last : Progression) : Type 0 where
  pub closed_in : All (IsIn last.head (length steps)) closed
  pub last_in : IsIn (length heads) (length steps) last
  pub plain : last.count ≤ last.period → (last.count ≡ last.period) × (last.head + last.period ≡ length heads)
  pub next : AreNext 0 closed last.start
  pub short : last.start + last.count < 2 ^ 64

-- there is room for one entry more, and for a progression that it closes, and its place is a number of 64 bits (own)
abbrev pub has_room : Vec Entry Global → Vec Progression Global → Progression → Bool
has_room heads closed last = nat_lt (vec_len heads) (vec_capacity heads) && nat_lt (vec_len closed) (vec_capacity closed) && nat_lt (last.start + last.count + 1) (2 ^ 64)

-- a progression computes the newest entries of the last one from their first round on; its strides stand behind so many
-- (own)
pub record IsTail (heads : List Entry) (steps : List EntryStride) (before : ℕ) (last l : Progression) : Type 0 where
  pub ends : l.start + l.count ≡ last.start + last.count
  pub heads_end : l.head + l.count ≡ last.head + last.count
  pub later : last.start ≤ l.start
  pub some : 0 < l.period
  pub rounds : l.period < l.count
  pub steps_from : l.step ≡ before
  pub steps_to : l.step + l.period ≤ length steps
  pub told : (k : ℕ) → l.period ≤ k → k < l.count → entry_at heads steps l.head l.period l.step k ≡ slice_index_or heads (l.head + k) no_entry
