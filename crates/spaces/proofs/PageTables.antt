-- A row of the counts of copies, from a page on.
use Rattle.std.proofs.Common.{◌≡◌, ℕ, zero, suc, ◌+◌, ◌-◌, ◌<◌, ◌≤◌, ◌⊎◌, nat_lt, if◌then◌else◌, List, [], ◌∷◌, ◌++◌, length, replicate, take, drop, set, refl, sym, ap, ap₂, ◌∙◌, inl, inr, arith, lt-ltb}
use Rattle.std.specs.Prelude.{◌≢◌, slice_index}
use Rattle.std.proofs.lemmas.Bool.{cases_lt, le-ltb}
use Rattle.std.proofs.lemmas.List.{get_or-set_same, get_or-set_other, get_or-append_right, get_or_append_left, get_or-replicate, length-replicate, take_at, drop_at}
use Rattle.clmodel.proofs.Steps.{if_true, if_false}
use Rattle.spaces.specs.Overlay.{copy_at}

-- a page before those that a row tells of, and another
pub copy_before : (first : ℕ) (row : List ℕ) (page : ℕ) → page < first → copy_at first row page ≡ 0
unfolding copy_at
copy_before first row page h = if_true (nat_lt page first) 0 (slice_index row (page - first)) (lt-ltb page first h)

pub copy_from : (first : ℕ) (row : List ℕ) (page : ℕ) → first ≤ page → copy_at first row page ≡ slice_index row (page - first)
unfolding copy_at
copy_from first row page h = if_false (nat_lt page first) 0 (slice_index row (page - first)) (le-ltb page first h)

-- rows that have the same entries
pub same_row : (first : ℕ) (row other : List ℕ) (page : ℕ) → slice_index other (page - first) ≡ slice_index row (page - first) → copy_at first other page ≡ copy_at first row page
unfolding copy_at
same_row first row other page h = ap (λ z. if nat_lt page first then 0 else z) h

-- rows that tell of no copy
pub empty_row : (first page : ℕ) → copy_at first [] page ≡ 0
empty_row first page = go (cases_lt page first)
  where
    go : (page < first) ⊎ (first ≤ page) → copy_at first [] page ≡ 0
    go (inl h) = copy_before first [] page h
    go (inr h) = copy_from first [] page h

zero_entry : (k : ℕ) → slice_index (0 ∷ []) k ≡ 0
zero_entry zero = refl
zero_entry (suc k) = refl

pub zero_row : (first page : ℕ) → copy_at first (0 ∷ []) page ≡ 0
zero_row first page = same_row first [] (0 ∷ []) page (zero_entry (page - first)) ∙ empty_row first page

-- an entry that is set, and the others
pub new_entry : (first : ℕ) (row : List ℕ) (page copy : ℕ) → first ≤ page → page < first + length row → copy_at first (set row (page - first) copy) page ≡ copy
new_entry first row page copy low high =
    copy_from first (set row (page - first) copy) page low ∙ get_or-set_same row (page - first) copy 0 (omega (arith, low, high))

pub other_entry : (first : ℕ) (row : List ℕ) (page copy other : ℕ) → first ≤ page → other ≢ page → copy_at first (set row (page - first) copy) other ≡ copy_at first row other
other_entry first row page copy other low ne = go (cases_lt other first)
  where
    go : (other < first) ⊎ (first ≤ other) → copy_at first (set row (page - first) copy) other ≡ copy_at first row other
    go (inl h) = copy_before first (set row (page - first) copy) other h ∙ sym (copy_before first row other h)
    go (inr h) = same_row first row (set row (page - first) copy) other (get_or-set_other row (page - first) (other - first) copy 0 (λ e. ne (omega (arith, e, h, low))))

-- a row behind entries for lower pages
pub moved_row : (row : List ℕ) (first lowest more page : ℕ) → lowest + more ≡ first → copy_at lowest (replicate more 0 ++ row) page ≡ copy_at first row page
moved_row row first lowest more page e = go (cases_lt page lowest) (cases_lt page first)
  where
    zeros : List ℕ
    zeros = replicate more 0

    long : length zeros ≡ more
    long = length-replicate more 0

    moved : List ℕ
    moved = zeros ++ row

    go : (page < lowest) ⊎ (lowest ≤ page) → (page < first) ⊎ (first ≤ page) → copy_at lowest moved page ≡ copy_at first row page
    go (inl a) b = copy_before lowest moved page a ∙ sym (copy_before first row page (omega (arith, a, e)))
    go (inr a) (inl b) =
        copy_from lowest moved page a
        ∙ get_or_append_left zeros row 0 (page - lowest) (omega (arith, long, a, b, e))
        ∙ get_or-replicate more (page - lowest) 0 0 (omega (arith, a, b, e))
        ∙ sym (copy_before first row page b)
    go (inr a) (inr b) =
        copy_from lowest moved page a
        ∙ get_or-append_right zeros row more (page - lowest) 0 long (omega (arith, b, e))
        ∙ ap (slice_index row) {x = page - lowest - more} {y = page - first} (omega (arith, e))
        ∙ sym (copy_from first row page b)

-- what lies behind a row, put before it
pub turned : (row zeros : List ℕ) (k : ℕ) → length row ≡ k → drop k (row ++ zeros) ++ take k (row ++ zeros) ≡ zeros ++ row
turned row zeros k h = ap₂ ◌++◌ (drop_at row zeros k h) (take_at row zeros k h)
