-- Pages of 64 bytes: which accesses touch the same one, and where they are in a list (own).
use Rattle.std.specs.Prelude.{◌≡◌, ℕ, ◌+◌, ◌-◌, ◌/◌, ◌<◌, ◌≤◌, ◌==◌, ◌&&◌, Bool, true, false, Some, List, nat_le, length, slice_get, slice_index_or, count_by}
use Rattle.std.specs.Bool.{beq}
use Rattle.std.specs.Option.{unwrap_or}
use Rattle.std.specs.HashMap.{HashMap, get}
use Rattle.clmodel.specs.Cells.{byte_count}
use Rattle.clmodel.specs.Launch.{same_region}
use Rattle.clmodel.specs.declared.access.Access.{Access}
use Rattle.clmodel.specs.declared.access.Region.{Region}
use Rattle.clmodel.specs.declared.access.Region.TheVariants as region
use Rattle.access_list.specs.declared.log.Entry.{Entry}
use Rattle.page_log.specs.declared.pages.Page.{Page}

-- the number of the page of an access's first byte, and of its last byte: it touches these and all between (own)
abbrev pub first_page : Access → ℕ
first_page x = x.first / 64

abbrev pub last_page : Access → ℕ
last_page x = (x.first + byte_count x.width - 1) / 64

-- two accesses are of the same object and touch the same page (own)
abbrev pub share_page : Access → Access → Bool
share_page x y = same_region y.region x.region && nat_le (first_page y) (last_page x) && nat_le (first_page x) (last_page y)

-- of how many accesses of a list this is so (own)
abbrev pub count_on_page : Access → List Entry → ℕ
count_on_page x log = count_by (λ y. share_page x y.access) log

-- an access touches one page (own)
abbrev pub IsOnOnePage : Access → Type 0
IsOnOnePage x = last_page x ≡ first_page x

-- a page of an object (own)
abbrev pub page_in : Region → ℕ → Page
page_in (region.Buffer number) page = record { is_local = false; group = 0; number = number; page = page }
page_in (region.Local group number) page = record { is_local = true; group = group; number = number; page = page }

-- the page that an access begins in (own)
abbrev pub page_of : Access → Page
page_of x = page_in x.region (first_page x)

-- two pages are one (own)
abbrev pub same_page : Page → Page → Bool
same_page a b = beq a.is_local b.is_local && ((a.group == b.group) && ((a.number == b.number) && (a.page == b.page)))

-- what a map has at a page, and 0 where it has nothing (own)
abbrev pub newest_of : {S : Type 0} → HashMap Page ℕ S → Page → ℕ
newest_of m page = unwrap_or (get same_page m page) 0

-- the place of the newest of the first n accesses of a list that are such; a place counts the accesses up to one and
-- with it, and 0 stands for none (own)
pub record IsNewest (is_such : Access → Bool) (log : List Entry) (n place : ℕ) : Type 0 where
  pub within : place ≤ n
  pub such : (i : ℕ) (y : Entry) → place ≡ i + 1 → slice_get log i ≡ Some y → is_such y.access ≡ true
  pub others : (i : ℕ) (y : Entry) → place ≤ i → i < n → slice_get log i ≡ Some y → is_such y.access ≡ false

-- an access begins in a page (own)
abbrev pub begins_in : Page → Access → Bool
begins_in page x = same_page (page_of x) page

-- the newest access that begins in each page, and before each access the newest that begins in its page (own)
pub record IsIndexed {S : Type 0} (log : List Entry) (newest : HashMap Page ℕ S) (older : List ℕ) : Type 0 where
  pub long : length older ≡ length log
  pub newest_are : (page : Page) → IsNewest (begins_in page) log (length log) (newest_of newest page)
  pub older_are : (i : ℕ) (y : Entry) → slice_get log i ≡ Some y → IsNewest (begins_in (page_of y.access)) log i (slice_index_or older i 0)
