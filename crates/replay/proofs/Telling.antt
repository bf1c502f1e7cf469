-- What an item does next, by its kind.
use Rattle.std.proofs.Common.{◌≡◌, ℕ, Option, None, Some, sym, ap, ◌∙◌, arith}
use Rattle.std.specs.Prelude.{MatchOption}
use Rattle.clmodel.specs.Launch.{Launch}
use Rattle.clmodel.specs.Run.{State}
use Rattle.clmodel.specs.declared.action.Action.{Action}
use Rattle.clmodel.proofs.Steps.{none_some}
use Rattle.replay.specs.States.{ActsNext}
use Rattle.replay.specs.Nexts.{TellsNext}

-- what is found in the item's next action, if there is the item
pub tells :
    {A : Type 0} (part : Action → Option A) (l : Launch) (s : State) (item : ℕ) (acts : Option Action) (found : Option A)
    → MatchOption acts (found ≡ None) (λ a. found ≡ part a) → ActsNext l s item acts → TellsNext part l s item found
tells part l s item None None e past = λ below. absurd (omega (arith, past, below))
tells part l s item None (Some x) e past = absurd (none_some x (sym e))
tells part l s item (Some a) None e acts = λ below. ap part acts.1 ∙ sym e
tells part l s item (Some a) (Some x) e acts = (acts.0, ap part acts.1 ∙ sym e)
