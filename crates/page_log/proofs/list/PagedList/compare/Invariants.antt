use Rattle.std.proofs.Common.{◌≡◌, ℕ, ◌+◌, ◌≤◌, true, length, drop, Some}
use Rattle.std.specs.Prelude.{slice_get}
use Rattle.access_list.specs.declared.log.Entry.{Entry}
use Rattle.page_log.specs.Pages.{share_page}
use Rattle.page_log.specs.Tally.{IsTally}
use Rattle.page_log.proofs.list.PagedList.compare.Given as goal

abbrev pub decreases-loop-place : goal.decreases-loop-place
decreases-loop-place l = l.place

abbrev pub invariant-loop-place : goal.invariant-loop-place
invariant-loop-place l = record {
  within : l.place ≤ length l.self.entries.items;
  shared : (i : ℕ) (y : Entry) → l.place ≡ i + 1 → slice_get l.self.entries.items i ≡ Some y → share_page l.x.access y.access ≡ true;
  counted : l.tally.compared + l.place ≤ length l.self.entries.items;
  walked : IsTally l.rule l.x (drop l.place l.self.entries.items) l.tally;
}
