use Rattle.std.proofs.Common.{◌≡◌, ◌+◌, [], ◌∷◌, ◌++◌, length, ap, sym, ◌∙◌, append_assoc, refl, rules, arith, List, subst}
use Rattle.std.specs.Vec.Iter.{into_iter_items}
use Rattle.std.proofs.lemmas.List.{append-nil, nil_from_length, length_push}
use Rattle.device.specs.Machine.{machine_of}
use Rattle.host_commands.specs.declared.command.Command.{Command}
use Rattle.explaining.specs.Leading.{LeadsThrough}
use Rattle.explaining.proofs.Performing.{cleanly, noted_end, noted_more, through_more, walk_ends}
use Rattle.telling.proofs.Telling.{if_none}
use Rattle.explaining.proofs.walks.walk_commands.Goals as goal

pub loop-command-init : goal.loop-command-init
loop-command-init c = record { split = search rules; counted = search rules; noted = search rules; led = (refl, refl) }

pub loop-command-preserved : goal.loop-command-preserved
loop-command-preserved c = record {
  split = c.loop-command.invariant.split ∙ (ap (λ l. c.loop-command.yielded ++ l) c.in-Some.ensures.steps.0 ∙ sym (append_assoc c.loop-command.yielded (c.in-Some.command ∷ []) (into_iter_items c.next.new.self)));
  counted = c.in_ok-reply.ensures.counted ∙ ap (λ n. n + 1) c.loop-command.invariant.counted ∙ sym (length_push c.loop-command.yielded c.in-Some.command);
  noted =
      noted_more _ _ (length c.loop-command.yielded) (length (c.loop-command.yielded ++ c.in-Some.command ∷ [])) _ c.loop-command.invariant.noted c.in_ok-reply.ensures.noted
      (if_none _ c.in_default.is c.end_of.ensures.goes_on) (length_push c.loop-command.yielded c.in-Some.command);
  led =
      through_more _ _ _ c.loop-command.yielded c.in-Some.command _ _ _ c.loop-command.invariant.led c.in_ok-reply.ensures.step c.in_ok-reply.ensures.memory
      (if_none _ c.in_default.is c.end_of.ensures.goes_on) c.ordered_by-ordered.ensures;
}

pub returns-in-Some-end_of-clause-walked : goal.returns-in-Some-end_of-clause-walked
returns-in-Some-end_of-clause-walked c =
    let counted : c.len-ticket.result ≡ length c.loop-command.yielded = omega (arith, c.len-ticket.ensures, c.loop-command.done.ok.0, c.loop-command.invariant.counted) in
    walk_ends (machine_of c.args.device.now) c.args.commands.items c.loop-command.yielded (into_iter_items c.next.new.self) c.in-Some.command (machine_of c.loop-command.device)
    (machine_of c.perform.new.device) (c.loop-command.invariant.split ∙ ap (λ l. c.loop-command.yielded ++ l) c.in-Some.ensures.steps.0)
    (cleanly (machine_of c.args.device.now) (machine_of c.loop-command.device) c.loop-command.yielded c.loop-command.ordered c.loop-command.invariant.led) c.in_ok-reply.reply
    c.in_ok-reply.ensures.step c.len-ticket.result counted c.in-Some-end_of.end c.in-Some-end_of.ensures.ends

pub returns-in-Some-end_of-clause-noted : goal.returns-in-Some-end_of-clause-noted
returns-in-Some-end_of-clause-noted c =
    let counted : c.len-ticket.result ≡ length c.loop-command.yielded = omega (arith, c.len-ticket.ensures, c.loop-command.done.ok.0, c.loop-command.invariant.counted) in
    noted_end _ _ (length c.loop-command.yielded) c.len-ticket.result _ c.in-Some-end_of.end c.loop-command.invariant.noted c.in_ok-reply.ensures.noted counted c.in-Some-end_of.ensures.ends

pub returns-clause-walked : goal.returns-clause-walked
returns-clause-walked c =
    let empty = nil_from_length (into_iter_items c.loop-command.command-iterator) (omega (arith, c.in-None.ensures.steps.0, c.loop-command.command-iterator.rest.ok)) in
    let all : c.args.commands.items ≡ c.loop-command.yielded = c.loop-command.invariant.split ∙ (ap (λ l. c.loop-command.yielded ++ l) empty ∙ append-nil c.loop-command.yielded) in
    subst (λ (l : List Command). LeadsThrough (machine_of c.args.device.now) l (machine_of c.loop-command.device) c.loop-command.ordered) (sym all) c.loop-command.invariant.led
