-- Where the accesses of a log are (own).
use Rattle.std.specs.Prelude.{◌≡◌, ℕ, ◌<◌, Some, List, All, slice_get}
use Rattle.std.specs.Option.{unwrap_or}
use Rattle.std.specs.HashMap.{HashMap, get}
use Rattle.access_list.specs.Cells.{IsMarked}
use Rattle.access_list.specs.Keys.{access_key, same_key}
use Rattle.access_list.specs.declared.keys.AccessKey.{AccessKey}
use Rattle.access_list.specs.declared.index.Index.{Index}
use Rattle.access_list.specs.declared.log.Entry.{Entry}

-- what a map has at a key, and 0 where it has nothing (own)
abbrev pub newest_of : {S : Type 0} → HashMap AccessKey ℕ S → AccessKey → ℕ
newest_of m key = unwrap_or (get same_key m key) 0

-- each access stands below the place of its key, and is kept at its bytes (own)
pub record IsIndexed (log : List Entry) (index : Index) : Type 0 where
  pub below : (j : ℕ) (y : Entry) → slice_get log j ≡ Some y → j < newest_of index.newest (access_key y.access)
  pub marked : All (λ y. IsMarked index.cells y.access) log
