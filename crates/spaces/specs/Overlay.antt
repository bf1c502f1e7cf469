-- A lent row of bytes under pages of its own (OpenCL 1.2, 5.2.1 for the bytes; own in the pages).
use Rattle.std.specs.Prelude.{◌≡◌, ℕ, ◌+◌, ◌-◌, ◌*◌, ◌/◌, ◌%◌, ◌<◌, ◌≤◌, ◌==◌, nat_lt, if◌then◌else◌, Option, Some, List, length, map, slice_index}
use Rattle.std.specs.List.{range_with_len}
use Rattle.clmodel.specs.Cells.{Cells}

-- a lent buffer, and what is seen of it: its bytes with the changes that were made (5.2.1)
pub record Overlaid : Type 0 where
  pub base : List ℕ
  pub bytes : List (Option ℕ)

-- the counts of the copies of pages, in a row that tells of the pages from `first` on (own)
pub record PageCounts : Type 0 where
  pub first : ℕ
  pub row : List ℕ

-- the count of a page's copy, in a row that tells of the pages from `first` on. Copies are counted from 1, and 0 stands
-- for none (own).
unfoldable pub copy_at : ℕ → List ℕ → ℕ → ℕ
copy_at first row page = if nat_lt page first then 0 else slice_index row (page - first)

-- the count of each page's copy (own)
abbrev pub copies : PageCounts → ℕ → ℕ
copies counts = copy_at counts.first counts.row

-- a row of bytes as cells, each of them set (5.2.1)
abbrev pub row_cells : List ℕ → Cells
row_cells row byte = Some (slice_index row byte)

-- a byte: that of its page's copy, if there is one, else the lent one. Each page has the count of its copy, or 0 (own).
abbrev pub overlaid_byte : List ℕ → (ℕ → ℕ) → List ℕ → ℕ → ℕ
overlaid_byte base counts cells byte =
    let copy = counts (byte / 256) in if copy == 0 then slice_index base byte else slice_index cells ((copy - 1) * 256 + byte % 256)

-- the same as cells, each of them set (5.2.1)
abbrev pub overlaid_cells : List ℕ → (ℕ → ℕ) → List ℕ → Cells
overlaid_cells base counts cells byte = Some (overlaid_byte base counts cells byte)

-- all bytes, as many as were lent (5.2.1)
unfoldable pub overlaid : List ℕ → (ℕ → ℕ) → List ℕ → List (Option ℕ)
overlaid base counts cells = map (overlaid_cells base counts cells) (range_with_len 0 (length base))

-- a page has a copy (own)
abbrev pub IsCopied : (ℕ → ℕ) → ℕ → Type 0
IsCopied counts page = 0 < counts page

-- each copy is there, and is of one page (own)
abbrev pub AreNumbered : (ℕ → ℕ) → List ℕ → Type 0
AreNumbered counts numbers =
    (page : ℕ) → IsCopied counts page → (counts page ≤ length numbers) × (slice_index numbers (counts page - 1) ≡ page)
