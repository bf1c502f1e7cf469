use Rattle.std.proofs.Common.{◌≡◌, List, ℕ, ap, ap₂, sym, ◌∙◌}
use Rattle.std.proofs.lemmas.Bool.{false≢true}
use Rattle.clmodel.specs.Run.{same_numbers}
use Rattle.clmodel.specs.declared.action.Instance.{Instance}
use Rattle.clmodel.proofs.Faultless.{same_numbers-true, same_numbers_self}
use Rattle.launches.proofs.stops.is_instance.Goals as goal
use Rattle.launches.proofs.stops.is_instance.Goals.{After-same_numbers}

is : (c : After-same_numbers) → c.same_numbers.result ≡ same_numbers c.args.instance.now.turns c.args.turns.now
is c = c.same_numbers.ensures ∙ ap (λ turns. same_numbers turns c.args.turns.now) c.as_slice.ensures

pub returns-then-instance-site-clause-same : goal.returns-then-instance-site-clause-same
returns-then-instance-site-clause-same c h =
    ap₂ (λ (site : ℕ) (turns : List ℕ). record { site = site; turns = turns }) c.if-instance-site.true (same_numbers-true c.args.instance.now.turns c.args.turns.now (sym (is c) ∙ h))

pub returns-then-instance-site-clause-other : goal.returns-then-instance-site-clause-other
returns-then-instance-site-clause-other c h e =
    false≢true (sym h ∙ is c ∙ ap (λ (i : Instance). same_numbers i.turns c.args.turns.now) e ∙ same_numbers_self c.args.turns.now)
