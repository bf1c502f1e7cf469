-- What the ticks of a budget went to (own; the barriers are those of OpenCL 1.2, section 6.12.8).
use Rattle.std.specs.Prelude.{◌≡◌, ◌+◌, ◌-◌, ◌≤◌, ℕ, List, count_by}
use Rattle.explain_items.specs.Deeds.{is_release_of}
use Rattle.explanation.specs.declared.reasons.BudgetUse.{BudgetUse}
use Rattle.fault_play.specs.PlayedOut.{is_event_of}
use Rattle.fault_play.specs.declared.marks.Mark.{Mark}

-- the ticks are the budget: the accesses that an item made, the barriers that its group passed, and else turns
pub record IsUse (marks : List Mark) (item group budget : ℕ) (used : BudgetUse) : Type 0 where
  pub ticks : used.ticks ≡ budget
  pub accesses : used.accesses ≡ count_by (λ mark. is_event_of item mark.event) marks
  pub barriers : used.barriers ≡ count_by (λ mark. is_release_of group mark.event) marks
  pub turns : used.turns ≡ budget - (used.accesses + used.barriers)
  pub unseen : used.unseen ≤ used.turns
