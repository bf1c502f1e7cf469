use Rattle.std.proofs.Common.{◌≡◌, ◌≤◌, ℕ, Option, count_by, subst}
use Rattle.std.specs.Option.{IfNone, IfSome}
use Rattle.fault_play.specs.PlayedOut.{MadeAccess, is_access}
use Rattle.explain_reasons.proofs.Passing.{last_between, none_between, not_between, not_between_either}
use Rattle.explain_reasons.proofs.reasons.barrier_of.Goals as goal

pub returns-in_default-clause-none : goal.returns-in_default-clause-none
returns-in_default-clause-none c =
    not_between c.args.marks.now c.args.pair c.args.group c.earlier.result c.earlier.ensures
    (subst (λ (o : Option ℕ). IfNone o (count_by (λ mark. is_access mark.event) c.args.marks.now ≤ c.earlier.result)) c.in_default.is c.event_of.ensures.none)

pub returns-in_default-event_of-clause-none : goal.returns-in_default-event_of-clause-none
returns-in_default-event_of-clause-none c =
    not_between_either c.args.marks.now c.args.pair c.args.group c.later.result c.later.ensures
    (subst (λ (o : Option ℕ). IfNone o (count_by (λ mark. is_access mark.event) c.args.marks.now ≤ c.later.result)) c.in_default-event_of.is c.event_of-2.ensures.none)

pub returns-clause-some : goal.returns-clause-some
returns-clause-some c =
    let marks = c.args.marks.now in
    let first = subst (λ (n : ℕ). MadeAccess marks n c.in-Some.from) c.earlier.ensures
    (subst (λ (o : Option ℕ). IfSome o (MadeAccess marks c.earlier.result)) c.in-Some.is c.event_of.ensures.made) in
    let second = subst (λ (n : ℕ). MadeAccess marks n c.in-Some-event_of.to) c.later.ensures
    (subst (λ (o : Option ℕ). IfSome o (MadeAccess marks c.later.result)) c.in-Some-event_of.is c.event_of-2.ensures.made) in
    last_between marks c.args.pair c.args.group c.in-Some.from c.in-Some-event_of.to c.release_between.result first second c.release_between.ensures

pub returns-clause-none : goal.returns-clause-none
returns-clause-none c =
    let marks = c.args.marks.now in
    let first = subst (λ (n : ℕ). MadeAccess marks n c.in-Some.from) c.earlier.ensures
    (subst (λ (o : Option ℕ). IfSome o (MadeAccess marks c.earlier.result)) c.in-Some.is c.event_of.ensures.made) in
    let second = subst (λ (n : ℕ). MadeAccess marks n c.in-Some-event_of.to) c.later.ensures
    (subst (λ (o : Option ℕ). IfSome o (MadeAccess marks c.later.result)) c.in-Some-event_of.is c.event_of-2.ensures.made) in
    none_between marks c.args.pair c.args.group c.in-Some.from c.in-Some-event_of.to c.release_between.result first second c.release_between.ensures
