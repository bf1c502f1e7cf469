-- What accesses have in common, by which no two of them race (own, on OpenCL 1.2, 3.3.1, 6.12.8 and 6.12.11).
use Rattle.std.specs.Prelude.{◌≡◌, ◌≤◌, ℕ, Bool, true, false, ◌==◌, ◌&&◌, ◌||◌, nat_lt, if◌then◌else◌, Option, None, Some}
use Rattle.clmodel.specs.Launch.{Launch, group_of}
use Rattle.clmodel.specs.declared.access.Access.{Access}
use Rattle.clmodel.specs.declared.access.AccessKind.{AccessKind}
use Rattle.clmodel.specs.declared.access.AccessKind.TheVariants as kind
use Rattle.clmodel.specs.declared.access.Width.{Width}
use Rattle.clmodel.specs.declared.access.Width.TheVariants as width
use Rattle.race_filter.specs.declared.sort.Sort.{Sort}
use Rattle.race_filter.specs.declared.kept.Kept.{Kept}
use Rattle.race_filter.specs.declared.kept.Written.{Written}

abbrev pub is_load : AccessKind → Bool
is_load kind.Load = true
is_load kind.Store = false
is_load (kind.Update _) = false
is_load kind.Fetch = false

-- a kind is that of an atomic operation (6.12.11)
abbrev pub is_atomic : AccessKind → Bool
is_atomic kind.Load = false
is_atomic kind.Store = false
is_atomic (kind.Update _) = true
is_atomic kind.Fetch = true

-- an access is as all of these are (own)
pub record IsOf (s : Sort) (y : Access) : Type 0 where
  pub one : s.is_one ≡ true → y.item ≡ s.item
  pub loads : s.are_loads ≡ true → is_load y.kind ≡ true
  pub atomic : s.are_atomic ≡ true → is_atomic y.kind ≡ true

-- what one access has in common with itself, and what some have with one more (own)
abbrev pub sort_of : Access → Sort
sort_of x = record { item = x.item; is_one = true; are_loads = is_load x.kind; are_atomic = is_atomic x.kind }

abbrev pub sort_with : Sort → Access → Sort
sort_with s x =
    record {
      item = s.item;
      is_one = s.is_one && (s.item == x.item);
      are_loads = s.are_loads && is_load x.kind;
      are_atomic = s.are_atomic && is_atomic x.kind;
    }

-- an access races with none of these, since all are its item's, all are loads, or all are atomic (own)
abbrev pub lets : Sort → Access → Bool
lets s x = (s.is_one && (s.item == x.item)) || (s.are_loads && is_load x.kind) || (s.are_atomic && is_atomic x.kind)

-- an access is a store of this value at this byte, and so leaves the same bytes as another such one (C99 6.5.16.1, own)
pub record IsStoreOf (w : Written) (y : Access) : Type 0 where
  pub stores : y.kind ≡ kind.Store
  pub first : y.first ≡ w.first
  pub value : y.value ≡ w.value

abbrev pub is_store : AccessKind → Bool
is_store kind.Store = true
is_store kind.Load = false
is_store (kind.Update _) = false
is_store kind.Fetch = false

-- what a store writes (own)
abbrev pub written_of : Access → Option Written
written_of x = if is_store x.kind then Some (record { first = x.first; value = x.value }) else None

-- an access is such a store (own)
abbrev pub is_store_of : Option Written → Access → Bool
is_store_of None x = false
is_store_of (Some w) x = is_store x.kind && ((w.first == x.first) && (w.value == x.value))

-- an access touches one byte (6.1.1)
abbrev pub is_of_byte : Width → Bool
is_of_byte width.One = true
is_of_byte width.Two = false
is_of_byte width.Four = false
is_of_byte width.Eight = false

-- An access is one of those of which this is kept: in one group, an interval higher than the newest of them is behind a
-- barrier that orders it behind them all (6.12.8, own).
pub record IsKept (launch : Launch) (k : Kept) (y : Access) : Type 0 where
  pub all : IsOf k.all y
  pub group : k.is_one_group ≡ true → group_of launch y.item ≡ k.group
  pub before : y.interval ≤ k.interval
  pub newest : y.interval ≡ k.interval → IsOf k.newest y
  pub written : (w : Written) → k.written ≡ Some w → IsStoreOf w y
  pub bytes : k.are_of_bytes ≡ true → is_of_byte y.width ≡ true

-- what is kept of one access, whose item is of this group (own)
abbrev pub kept_of : ℕ → Access → Kept
kept_of group x =
    record {
      all = sort_of x;
      group = group;
      is_one_group = true;
      interval = x.interval;
      newest = sort_of x;
      written = written_of x;
      are_of_bytes = is_of_byte x.width;
    }

-- what those of the newest interval have in common with one access more (own)
abbrev pub newest_with : Kept → Access → Sort
newest_with k x =
    if nat_lt k.interval x.interval then sort_of x else (if k.interval == x.interval then sort_with k.newest x else k.newest)

-- what is kept of some accesses and one more, whose item is of this group (own)
abbrev pub kept_with : ℕ → Kept → Access → Kept
kept_with group k x =
    record {
      all = sort_with k.all x;
      group = k.group;
      is_one_group = k.is_one_group && (k.group == group);
      interval = if nat_lt k.interval x.interval then x.interval else k.interval;
      newest = newest_with k x;
      written = if is_store_of k.written x then k.written else None;
      are_of_bytes = k.are_of_bytes && is_of_byte x.width;
    }

-- All are of the access's group, and it is behind them, or beside those of the newest interval alone, and races with
-- none of these (6.12.8, own).
abbrev pub lets_behind : ℕ → Kept → Access → Bool
lets_behind group k x =
    (k.is_one_group && (k.group == group)) && (nat_lt k.interval x.interval || ((k.interval == x.interval) && lets k.newest x))

-- an access races with none of these: by what they have in common, by barriers, or since it stores what they store in a
-- uniform launch (own)
abbrev pub lets_by : (group : ℕ) → (uniform : Bool) → Kept → Access → Bool
lets_by group uniform k x = (lets k.all x || lets_behind group k x) || (uniform && is_store_of k.written x)

-- what is kept with one access more, by what was kept (own)
abbrev pub next_kept : ℕ → Option Kept → Access → Kept
next_kept group None x = kept_of group x
next_kept group (Some k) x = kept_with group k x

-- an access races with none of those of which this is kept (own)
abbrev pub is_let : (group : ℕ) → (uniform : Bool) → Option Kept → Access → Bool
is_let group uniform None x = true
is_let group uniform (Some k) x = lets_by group uniform k x

-- all of those of which this is kept touch one byte (own)
abbrev pub are_of_bytes : Option Kept → Bool
are_of_bytes None = true
are_of_bytes (Some k) = k.are_of_bytes
