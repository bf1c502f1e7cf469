use Rattle.std.proofs.Common.{◌≡◌, ◌+◌, ◌-◌, ◌<◌, ◌≤◌, ◌∷◌, Bool, ℕ, Option, List, cond, count_by, drop, get_or, length, slice_get, take, refl, sym, ap, ◌∙◌, subst, arith}
use Rattle.std.proofs.lemmas.List.{drop_all, take_all}
use Rattle.std.proofs.lemmas.Option.{get_or_from_slice_get}
use Rattle.fault_play.specs.PlayedOut.{is_access}
use Rattle.fault_play.specs.declared.marks.Mark.{Mark}
use Rattle.fault_play.specs.declared.played.Touch.{Touch}
use Rattle.explain_steps.specs.Chosen.{AreChosen, access_of, events_made}
use Rattle.explain_steps.specs.Choosing.{IsChoice}
use Rattle.explain_steps.proofs.Events.{count_next, events_from}
use Rattle.explain_steps.proofs.chosen.told_events.Goals as goal

pub loop-left-init : goal.loop-left-init
loop-left-init c =
    let xs = c.as_slice-marks.result.now in
    let whole : take (length xs) xs ≡ xs = take_all (length xs) xs (omega arith) in
    record {
      within = omega arith;
      counted = c.accesses_in-accesses.ensures ∙ ap (λ (l : List Mark). count_by (λ mark. is_access mark.event) l) (sym whole);
      choice =
          subst (λ (l : List Mark). IsChoice c.args.followed c.args.most (events_made c.accesses_in-accesses.result l c.as_slice-touches.result.now) c.new-choice.result) (sym (drop_all (length xs) xs (omega arith)))
          (c.new-choice.ensures c.args.followed c.args.most);
    }

pub loop-left-preserved : goal.loop-left-preserved
loop-left-preserved c =
    let xs = c.as_slice-marks.result.now in
    let ts = c.as_slice-touches.result.now in
    let f = c.args.followed in
    let most = c.args.most in
    let n = c.loop-left.left - 1 in
    let mark = c.mark_at-mark.result.now in
    let here : mark ≡ get_or xs n mark = sym (get_or_from_slice_get xs n mark mark c.mark_at-mark.ensures) in
    let old = c.loop-left.accesses in
    let new = c.before_event-accesses.result in
    let one : n + 1 ≡ c.loop-left.left = omega (arith, c.loop-left-test.true) in
    let within : n < length xs = omega (arith, c.loop-left-test.true, c.loop-left.invariant.within) in
    let next : count_by (λ mark. is_access mark.event) (take (n + 1) xs) ≡ count_by (λ mark. is_access mark.event) (take n xs) + cond (is_access mark.event) 1 0 =
    count_next xs n mark within here in
    let counted : old ≡ count_by (λ mark. is_access mark.event) (take (n + 1) xs) =
    c.loop-left.invariant.counted ∙ ap (λ (k : ℕ). count_by (λ mark. is_access mark.event) (take k xs)) (sym one) in
    let before : new ≡ old - cond (is_access mark.event) 1 0 = c.before_event-accesses.ensures in
    let back : new + cond (is_access mark.event) 1 0 ≡ old = omega (arith, next, counted, before) in
    let events = events_from xs ts n new old mark within here back in
    let told = c.in_ok-go_back.ensures mark (events_made old (drop c.loop-left.left xs) ts) refl c.loop-left.invariant.choice in
    record {
      within = omega (arith, within);
      counted = omega (arith, next, counted, before);
      choice =
          subst (λ (l : List (Mark × Option Touch)). IsChoice f most l c.go_back.new.self) (sym events)
          (subst (λ (k : ℕ). IsChoice f most ((mark, access_of mark.event (slice_get ts new)) ∷ events_made old (drop k xs) ts) c.go_back.new.self) (sym one)
          (subst (λ (o : Option Touch). IsChoice f most ((mark, o) ∷ events_made old (drop c.loop-left.left xs) ts) c.go_back.new.self) c.access_of-touch.ensures told));
    }

pub returns-clause-few : goal.returns-clause-few
returns-clause-few c =
    let choice = c.loop-left.invariant.choice in
    subst (λ (l : List Bool). count_by (λ b. b) l ≤ c.args.most) (sym c.reverse.ensures.items) (subst (λ (n : ℕ). n ≤ c.args.most) choice.counted choice.few)

pub returns-clause-chosen : goal.returns-clause-chosen
returns-clause-chosen c =
    let played = c.args.played.now in
    let xs = c.as_slice-marks.result.now in
    let ts = c.as_slice-touches.result.now in
    let f = c.args.followed in
    let most = c.args.most in
    let told = c.reverse.new.self.items in
    let none : c.loop-left.left ≡ 0 = omega (arith, c.loop-left-test.false) in
    let begin : c.loop-left.accesses ≡ 0 = c.loop-left.invariant.counted ∙ ap (λ (k : ℕ). count_by (λ mark. is_access mark.event) (take k xs)) none in
    let all = subst (λ (l : List Bool). AreChosen f most (events_made c.loop-left.accesses (drop c.loop-left.left xs) ts) l) (sym c.reverse.ensures.items) c.loop-left.invariant.choice.chosen in
    let first = subst (λ (n : ℕ). AreChosen f most (events_made n (drop c.loop-left.left xs) ts) told) begin all in
    let whole = subst (λ (k : ℕ). AreChosen f most (events_made 0 (drop k xs) ts) told) none first in
    subst (λ (l : List Touch). AreChosen f most (events_made 0 played.marks.items l) told) c.as_slice-touches.ensures.value
    (subst (λ (l : List Mark). AreChosen f most (events_made 0 l ts) told) c.as_slice-marks.ensures.value whole)
