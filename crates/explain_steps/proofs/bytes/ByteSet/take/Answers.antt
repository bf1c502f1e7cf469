use Rattle.std.proofs.Common.{Bor, None, List, map, refl, sym, ◌∙◌, subst}
use Rattle.clmodel.specs.declared.fault.Location.{Location}
use Rattle.explain_steps.specs.Bytes.{IsFound, IsNumber}
use Rattle.explain_steps.specs.declared.bytes.ByteSet.{ByteSet}
use Rattle.explain_steps.proofs.ByteSets.{left_given, left_held, unknown_given, unknown_held, unwritten_given, unwritten_held}
use Rattle.explain_steps.proofs.bytes.ByteSet.take.Goals as goal

pub returns-then-not-writes-clause-left : goal.returns-then-not-writes-clause-left
returns-then-not-writes-clause-left c = λ followed later h. unwritten_held followed later c.args.self.now c.args.touch.now (sym c.writes.ensures ∙ c.if-not-writes.true) h

pub returns-then-not-writes-clause-taken : goal.returns-then-not-writes-clause-taken
returns-then-not-writes-clause-taken c = λ followed later h. unwritten_given followed later c.args.touch.now (sym c.writes.ensures ∙ c.if-not-writes.true)

pub returns-in-Some-clause-left : goal.returns-in-Some-clause-left
returns-in-Some-clause-left c =
    λ followed later h.
    let old = c.args.self.now in
    let touch = c.args.touch.now in
    let new : ByteSet = record { places = old.places; keys = c.take_bytes.new.keys } in
    let number = subst (λ (l : List (Bor Location)). IsNumber (map (λ place. place.now) l) touch.location c.in-Some.place) c.as_slice.ensures.value c.in-Some.ensures in
    left_held followed later old new touch c.in-Some.place (sym c.writes.ensures ∙ c.if-not-writes.false) refl number c.take_bytes.ensures.left h

pub returns-in-Some-clause-taken : goal.returns-in-Some-clause-taken
returns-in-Some-clause-taken c =
    λ followed later h.
    let old = c.args.self.now in
    let touch = c.args.touch.now in
    let number = subst (λ (l : List (Bor Location)). IsNumber (map (λ place. place.now) l) touch.location c.in-Some.place) c.as_slice.ensures.value c.in-Some.ensures in
    left_given followed later old touch c.in-Some.place c.take_bytes.result (sym c.writes.ensures ∙ c.if-not-writes.false) number c.take_bytes.ensures.taken h

pub returns-in-None-clause-left : goal.returns-in-None-clause-left
returns-in-None-clause-left c =
    λ followed later h.
    unknown_held followed later c.args.self.now c.args.touch.now
    (subst (λ (l : List (Bor Location)). IsFound (map (λ place. place.now) l) c.args.touch.now.location None) c.as_slice.ensures.value c.in-None.ensures) h

pub returns-in-None-clause-taken : goal.returns-in-None-clause-taken
returns-in-None-clause-taken c =
    λ followed later h.
    unknown_given followed later c.args.self.now c.args.touch.now
    (subst (λ (l : List (Bor Location)). IsFound (map (λ place. place.now) l) c.args.touch.now.location None) c.as_slice.ensures.value c.in-None.ensures) h
