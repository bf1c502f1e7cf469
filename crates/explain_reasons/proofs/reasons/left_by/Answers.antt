use Rattle.std.proofs.Common.{◌≡◌, ◌≤◌, ℕ, Option, None, Some, count_by, length, refl, subst}
use Rattle.std.proofs.lemmas.Option.{slice_get_past, slice_get_read}
use Rattle.std.specs.Option.{IfNone, IfSome}
use Rattle.fault_play.specs.PlayedOut.{MadeAccess, is_access}
use Rattle.explain_reasons.proofs.Passing.{leaves_not, left_is, left_never, left_some}
use Rattle.explain_reasons.proofs.reasons.left_by.Goals as goal

pub returns-in-Some-get-clause-some : goal.returns-in-Some-get-clause-some
returns-in-Some-get-clause-some c =
    let marks = c.args.marks.now in
    let made = subst (λ (o : Option ℕ). IfSome o (MadeAccess marks c.args.access)) c.in-Some.is c.event_of.ensures.made in
    let at = slice_get_read marks (length marks) c.in-Some.number c.in-Some-get.mark.now refl c.in-Some-get.ensures.lookup.3.0 c.in-Some-get.ensures.lookup.1 in left_some marks c.args.access c.in-Some.number c.in-Some-get.mark.now made at

pub returns-in-Some-get-clause-all : goal.returns-in-Some-get-clause-all
returns-in-Some-get-clause-all c =
    let marks = c.args.marks.now in
    let made = subst (λ (o : Option ℕ). IfSome o (MadeAccess marks c.args.access)) c.in-Some.is c.event_of.ensures.made in
    let at = slice_get_read marks (length marks) c.in-Some.number c.in-Some-get.mark.now refl c.in-Some-get.ensures.lookup.3.0 c.in-Some-get.ensures.lookup.1 in
    λ x h. left_is marks c.args.access c.in-Some.number x c.in-Some-get.mark.now made at h

pub returns-in-None-get-clause-all : goal.returns-in-None-get-clause-all
returns-in-None-get-clause-all c =
    let marks = c.args.marks.now in
    let made = subst (λ (o : Option ℕ). IfSome o (MadeAccess marks c.args.access)) c.in-Some.is c.event_of.ensures.made in
    let gone = slice_get_past marks c.in-Some.number c.in-None-get.ensures.lookup.3 in λ x h. absurd (left_never marks c.args.access c.in-Some.number x made gone)

pub returns-in-None-clause-all : goal.returns-in-None-clause-all
returns-in-None-clause-all c =
    let few = subst (λ (o : Option ℕ). IfNone o (count_by (λ mark. is_access mark.event) c.args.marks.now ≤ c.args.access)) c.in-None.is c.event_of.ensures.none in
    λ x h. absurd (leaves_not c.args.marks.now c.args.access x few h)
