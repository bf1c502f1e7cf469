use Rattle.std.proofs.Common.{◌≡◌, ◌+◌, [], ◌∷◌, ◌++◌, length, length-append, ap, ap₂, sym, ◌∙◌, append_assoc, refl, rules, arith}
use Rattle.std.specs.Vec.Iter.{into_iter_items}
use Rattle.std.proofs.lemmas.List.{append-nil, length_push, nil_from_length}
use Rattle.std.proofs.lemmas.Result.{err_from_is_err_and}
use Rattle.device.specs.Machine.{machine_of}
use Rattle.exploring.specs.Commands.{first_spot, next}
use Rattle.exploring.specs.declared.facts.Spot.{Spot}
use Rattle.exploring.proofs.Telling.{behind_more, number_more, told_all, told_past, untold_at, written_more, written_none}
use Rattle.exploring.proofs.walks.tell_commands.Goals as goal

pub loop-command-init : goal.loop-command-init
loop-command-init g c = record {
  split = search rules;
  spot = refl;
  ticket = refl;
  number = omega arith;
  written = written_none c.args.options.now _ _ c.new-device.ensures;
}

pub next-spot-requires-clause-ticket : goal.next-spot-requires-clause-ticket
next-spot-requires-clause-ticket g c =
    let split = c.loop-command.invariant.split ∙ ap (λ l. c.loop-command.yielded ++ l) c.in-Some.ensures.steps.0 in
    let long : length c.args.commands.items ≡ length c.loop-command.yielded + length (c.in-Some.command ∷ into_iter_items c.next.new.self) = ap length split ∙ length-append c.loop-command.yielded (c.in-Some.command ∷ into_iter_items c.next.new.self) in
    omega (arith, long, c.loop-command.invariant.ticket, c.requires)

pub next-spot-requires-clause-number : goal.next-spot-requires-clause-number
next-spot-requires-clause-number g c =
    let split = c.loop-command.invariant.split ∙ ap (λ l. c.loop-command.yielded ++ l) c.in-Some.ensures.steps.0 in
    let long : length c.args.commands.items ≡ length c.loop-command.yielded + length (c.in-Some.command ∷ into_iter_items c.next.new.self) = ap length split ∙ length-append c.loop-command.yielded (c.in-Some.command ∷ into_iter_items c.next.new.self) in
    omega (arith, long, c.loop-command.invariant.number, c.requires)

pub loop-command-preserved : goal.loop-command-preserved
loop-command-preserved g c =
    let more = length_push c.loop-command.yielded c.in-Some.command in record {
      split = c.loop-command.invariant.split ∙ (ap (λ l. c.loop-command.yielded ++ l) c.in-Some.ensures.steps.0 ∙ sym (append_assoc c.loop-command.yielded (c.in-Some.command ∷ []) (into_iter_items c.next.new.self)));
      spot = c.next-spot.ensures ∙ (ap₂ next c.loop-command.invariant.spot c.is_launch-launch.ensures ∙ sym (behind_more first_spot c.loop-command.yielded c.in-Some.command));
      ticket = ap (λ (s : Spot). s.ticket) c.next-spot.ensures ∙ (ap (λ n. n + 1) c.loop-command.invariant.ticket ∙ sym more);
      number = number_more c.loop-command.spot c.next-spot.result c.is_launch-launch.result _ _ c.next-spot.ensures more c.loop-command.invariant.number;
      written =
          written_more c.args.options.now c.loop-command.yielded (machine_of c.loop-command.device) _ c.in-Some.command c.loop-command.end _ c.loop-command.spot _ _ _ _ c.loop-command.invariant.written
          c.loop-command.invariant.spot c.in_ok-end.ensures.told.1 c.in_ok-end.ensures.told.2;
    }

pub returns-then-is_past-clause-told : goal.returns-then-is_past-clause-told
returns-then-is_past-clause-told g c =
    let split = c.loop-command.invariant.split ∙ ap (λ l. c.loop-command.yielded ++ l) c.in-Some.ensures.steps.0 in
    told_past c.args.options.now c.args.commands.items c.loop-command.yielded (c.in-Some.command ∷ into_iter_items c.next.new.self) (machine_of c.loop-command.device) c.loop-command.end c.loop-command.spot
    _ _ c.loop-command.invariant.written split c.loop-command.invariant.spot (sym c.is_past.ensures ∙ c.if-is_past.true)

pub returns-in_err-end-clause-failed : goal.returns-in_err-end-clause-failed
returns-in_err-end-clause-failed g c =
    let p = err_from_is_err_and c.from_residual.result c.from_residual.ensures.1 in
    let split = c.loop-command.invariant.split ∙ ap (λ l. c.loop-command.yielded ++ l) c.in-Some.ensures.steps.0 in
    rw (p.1, p.2)
    (untold_at c.args.options.now c.args.commands.items c.loop-command.yielded (into_iter_items c.next.new.self) (machine_of c.loop-command.device) c.in-Some.command c.loop-command.end c.loop-command.spot
    _ _ _ _ c.loop-command.invariant.written split c.loop-command.invariant.spot c.in_err-end.ensures.failed)

pub returns-clause-told : goal.returns-clause-told
returns-clause-told g c =
    let empty = nil_from_length (into_iter_items c.loop-command.command-iterator) (omega (arith, c.in-None.ensures.steps.0, c.loop-command.command-iterator.rest.ok)) in
    let all : c.args.commands.items ≡ c.loop-command.yielded = c.loop-command.invariant.split ∙ (ap (λ l. c.loop-command.yielded ++ l) empty ∙ append-nil c.loop-command.yielded) in
    told_all c.args.options.now c.args.commands.items c.loop-command.yielded (machine_of c.loop-command.device) c.loop-command.end _ _ c.loop-command.invariant.written all
