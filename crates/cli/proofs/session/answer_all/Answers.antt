use Rattle.std.proofs.Common.{◌≡◌, [], ◌∷◌, ◌++◌, ap, sym, ◌∙◌, append_assoc, length-append, rules, arith, ◌+◌, length}
use Rattle.std.specs.Vec.Iter.{into_iter_items}
use Rattle.std.proofs.lemmas.List.{append-nil, nil_from_length}
use Rattle.std.proofs.lemmas.Result.{err_from_is_err_and}
use Rattle.cli.proofs.Sessions.{answered_none, answered_more, answered_still, broken_at, answered_all, broken_between}
use Rattle.cli.proofs.session.answer_all.Goals as goal

pub loop-command-init : goal.loop-command-init
loop-command-init g c = record { split = search rules; counts = search rules; answered = λ configuration first. answered_none c.args.shows.now configuration _ _ first }

pub ask-request-requires-clause-room : goal.ask-request-requires-clause-room
ask-request-requires-clause-room g c =
    let split = c.loop-command.invariant.split ∙ ap (λ l. c.loop-command.yielded ++ l) c.in-Some.ensures.steps.0 in
    let long : length c.args.commands.items ≡ length c.loop-command.yielded + length (c.in-Some.command ∷ into_iter_items c.next.new.self) = ap length split ∙ length-append c.loop-command.yielded (c.in-Some.command ∷ into_iter_items c.next.new.self) in
    omega (arith, long, c.loop-command.invariant.counts, c.requires.few)

pub loop-command-preserved : goal.loop-command-preserved
loop-command-preserved g c = record {
  split = c.loop-command.invariant.split ∙ (ap (λ l. c.loop-command.yielded ++ l) c.in-Some.ensures.steps.0 ∙ sym (append_assoc c.loop-command.yielded (c.in-Some.command ∷ []) (into_iter_items c.next.new.self)));
  counts = c.ask-request.ensures.counts ∙ (ap (λ n. n + 1) c.loop-command.invariant.counts ∙ sym (length-append c.loop-command.yielded (c.in-Some.command ∷ [])));
  answered = λ configuration first. answered_more c.in-Some.command c.behind-left.result.now c.behind-left.ensures (answered_still (c.loop-command.invariant.answered configuration first) c.in_ok-release.ensures)
      (let a = c.ask-request.ensures.answered in let w = c.in_ok-end.ensures.ok a.0 (c.deref.ensures ∙ a.1) in record { answer = a.0; step = a.2; wrote = w.0; counts = w.1 });
}

pub returns-in_err-release-clause-err : goal.returns-in_err-release-clause-err
returns-in_err-release-clause-err g c =
    let p = err_from_is_err_and c.from_residual.result c.from_residual.ensures.1 in
    rw p.1 (λ configuration first. broken_between c.args.commands.items (into_iter_items c.loop-command.command-iterator) c.loop-command.invariant.split (c.loop-command.invariant.answered configuration first) c.in_err-release.ensures)

pub returns-in_err-end-clause-err : goal.returns-in_err-end-clause-err
returns-in_err-end-clause-err g c =
    let p = err_from_is_err_and c.from_residual-in_err-end.result c.from_residual-in_err-end.ensures.1 in
    let split = c.loop-command.invariant.split ∙ ap (λ l. c.loop-command.yielded ++ l) c.in-Some.ensures.steps.0 in
    rw p.1 (λ configuration first. broken_at c.args.commands.items (into_iter_items c.next.new.self) c.in-Some.command split (answered_still (c.loop-command.invariant.answered configuration first) c.in_ok-release.ensures)
    (let a = c.ask-request.ensures.answered in record { answer = a.0; last = _; step = a.2; stopped = c.in_err-end.ensures.err a.0 (c.deref.ensures ∙ a.1) }))

pub returns-in_err-flush-clause-err : goal.returns-in_err-flush-clause-err
returns-in_err-flush-clause-err g c =
    let p = err_from_is_err_and c.from_residual-in_err-flush.result c.from_residual-in_err-flush.ensures.1 in
    let empty = nil_from_length (into_iter_items c.loop-command.command-iterator) (omega (arith, c.in-None.ensures.steps.0, c.loop-command.command-iterator.rest.ok)) in
    let all : c.args.commands.items ≡ c.loop-command.yielded ++ [] = c.loop-command.invariant.split ∙ ap (λ l. c.loop-command.yielded ++ l) empty in
    rw p.1 (λ configuration first. broken_between c.args.commands.items [] all (c.loop-command.invariant.answered configuration first) c.in_err-flush.ensures.bytes)

pub returns-clause-ok : goal.returns-clause-ok
returns-clause-ok g c =
    let empty = nil_from_length (into_iter_items c.loop-command.command-iterator) (omega (arith, c.in-None.ensures.steps.0, c.loop-command.command-iterator.rest.ok)) in
    let all : c.args.commands.items ≡ c.loop-command.yielded = c.loop-command.invariant.split ∙ (ap (λ l. c.loop-command.yielded ++ l) empty ∙ append-nil c.loop-command.yielded) in
    λ configuration first. answered_all c.args.commands.items all (c.loop-command.invariant.answered configuration first) c.in_ok-flush.ensures.bytes c.in_ok-flush.ensures.released
