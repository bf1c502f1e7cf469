use Rattle.std.proofs.Common.{◌≡◌, ℕ, ◌<◌, ◌≤◌, false, Some}
use Rattle.std.specs.Prelude.{slice_get}
use Rattle.access_list.specs.declared.log.Entry.{Entry}
use Rattle.page_log.specs.Pages.{share_page}
use Rattle.page_log.proofs.list.PagedList.newest_below.Given as goal

abbrev pub decreases-loop-place : goal.decreases-loop-place
decreases-loop-place l = l.place

abbrev pub invariant-loop-place : goal.invariant-loop-place
invariant-loop-place l = record {
  within : l.place ≤ l.n;
  others : (i : ℕ) (y : Entry) → l.place ≤ i → i < l.n → slice_get l.self.entries.items i ≡ Some y → share_page l.x y.access ≡ false;
}
