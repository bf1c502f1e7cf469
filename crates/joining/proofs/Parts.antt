-- A group has at most one run.
use Rattle.std.proofs.Common.{◌≡◌, Option, None, Some, [], ◌∷◌, refl, sym, ap, ap₂, ◌∙◌, subst}
use Rattle.std.proofs.lemmas.Option.{same_Some}
use Rattle.clmodel.specs.Run.{State, Events, start, step}
use Rattle.clmodel.specs.Law.{Makes}
use Rattle.clmodel.specs.declared.fault.Fault.{Fault}
use Rattle.clmodel.specs.declared.schedule.Event.{Event}
use Rattle.clmodel.proofs.Turns.{reports_makes, reports_finishes, finishes_makes, finishes_reports, makes_inj, reports_inj}
use Rattle.joining.specs.Group.{Plan, plan_of, turn_of, RunsIn}
use Rattle.joining.specs.Parts.{ending, OnePart}

ends_nothing : (o : Option Fault) (e : Event) → ending o ≡ Makes e → ⊥
ends_nothing None e h = finishes_makes e h
ends_nothing (Some f) e h = reports_makes f e h

same_ending : (o p : Option Fault) → ending o ≡ ending p → o ≡ p
same_ending None None h = refl
same_ending None (Some g) h = absurd (finishes_reports g h)
same_ending (Some f) None h = absurd (reports_finishes f h)
same_ending (Some f) (Some g) h = ap Some (reports_inj f g h)

-- a run that has ended makes no event
ended_there : (p : Plan) (s e : State) (o : Option Fault) (x : Event) → s ≡ e → turn_of p e ≡ ending o → turn_of p s ≡ Makes x → ⊥
ended_there p s e o x at ends makes = ends_nothing o x (sym ends ∙ ap (turn_of p) (sym at) ∙ makes)

one_run : (p : Plan) (s e f : State) (es fs : Events) (o q : Option Fault) → RunsIn p s es e → turn_of p e ≡ ending o → RunsIn p s fs f → turn_of p f ≡ ending q
    → (es ≡ fs) × (e ≡ f) × (o ≡ q)
one_run p s e f [] [] o q r h k i =
    let same : e ≡ f = sym r ∙ k in (refl, same, same_ending o q (sym h ∙ ap (turn_of p) same ∙ i))
one_run p s e f [] (y ∷ fs) o q r h k i = absurd (ended_there p s e o y r h k.1)
one_run p s e f (x ∷ es) [] o q r h k i = absurd (ended_there p s f q x k i r.1)
one_run p s e f (x ∷ es) (y ∷ fs) o q r h k i =
    let event : x ≡ y = makes_inj x y (sym r.1 ∙ k.1) in
    let next : k.0 ≡ r.0 = same_Some k.0 r.0 (sym k.2 ∙ ap (step p.launch s) (sym event) ∙ r.2) in
    let rest = one_run p r.0 e f es fs o q r.3 h (subst (λ z. RunsIn p z fs f) next k.3) i in
    (ap₂ (λ a b. a ∷ b) event rest.0, rest.1, rest.2)

pub one_part : OnePart
one_part l group part other is k =
    one_run (plan_of l group) (start l) part.end other.end part.events other.events part.stopped other.stopped is.0 is.1 k.0 k.1
