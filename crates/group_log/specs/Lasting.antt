-- Which accesses of a group are kept for other groups (own, on OpenCL 1.2, 3.3.1 and 6.5.2).
use Rattle.std.specs.Prelude.{◌≡◌, ℕ, zero, suc, Bool, false, Some, List, [], ◌∷◌, map, if◌then◌else◌, slice_get}
use Rattle.clmodel.specs.declared.access.Access.{Access}
use Rattle.clmodel.specs.declared.access.Region.TheVariants as region
use Rattle.shadow.specs.Seen.{seen}
use Rattle.access_list.specs.declared.log.Entry.{Entry}

-- all accesses (own)
abbrev pub all_of : List (Entry × Bool) → List Entry
all_of = map (λ n. n.0)

-- those that are kept for other groups (own)
abbrev pub short_of : List (Entry × Bool) → List Entry
short_of [] = []
short_of (n ∷ items) = if n.1 then n.0 ∷ short_of items else short_of items

-- whether the last of all is one of them (own)
abbrev pub last_of : Bool → List (Entry × Bool) → Bool
last_of last [] = last
last_of last (n ∷ items) = last_of n.1 items

-- the accesses that were made, the newest first, behind some that were made earlier (own)
abbrev pub made : List Access → List (Entry × Bool) → List Access
made earlier [] = earlier
made earlier (n ∷ items) = made (n.0.access ∷ earlier) items

-- those before a place (own)
abbrev pub before : List Access → List (Entry × Bool) → ℕ → List Access
before earlier items zero = earlier
before earlier [] (suc k) = earlier
before earlier (n ∷ items) (suc k) = before (n.0.access ∷ earlier) items k

-- what is kept of each byte of a buffer stays with one access more (own)
abbrev pub Stays : List Access → Access → Type 0
Stays earlier x = (number byte : ℕ) → seen (region.Buffer number) byte (x ∷ earlier) ≡ seen (region.Buffer number) byte earlier

-- each access that isn't kept for other groups tells them nothing that those before it don't tell (own)
abbrev pub LeavesOut : List Access → List (Entry × Bool) → Type 0
LeavesOut earlier items = (k : ℕ) (x : Entry) → slice_get items k ≡ Some (x, false) → Stays (before earlier items k) x.access
