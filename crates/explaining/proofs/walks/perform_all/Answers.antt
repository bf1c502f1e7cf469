use Rattle.std.proofs.Common.{◌≡◌, [], ◌∷◌, ◌++◌, ap, sym, ◌∙◌, append_assoc, refl, rules, arith, List, subst}
use Rattle.std.specs.Vec.Iter.{into_iter_items}
use Rattle.std.proofs.lemmas.List.{append-nil, nil_from_length}
use Rattle.device.specs.Machine.{machine_of}
use Rattle.host_commands.specs.declared.command.Command.{Command}
use Rattle.explaining.specs.Leading.{Leads}
use Rattle.explaining.proofs.Performing.{leads_more}
use Rattle.explaining.proofs.walks.perform_all.Goals as goal

pub loop-command-init : goal.loop-command-init
loop-command-init c = record { split = search rules; led = (refl, search rules) }

pub loop-command-preserved : goal.loop-command-preserved
loop-command-preserved c = record {
  split = c.loop-command.invariant.split ∙ (ap (λ l. c.loop-command.yielded ++ l) c.in-Some.ensures.steps.0 ∙ sym (append_assoc c.loop-command.yielded (c.in-Some.command ∷ []) (into_iter_items c.next.new.self)));
  led = leads_more _ _ _ c.loop-command.yielded c.in-Some.command _ _ _ c.loop-command.invariant.led c.in_ok-perform.ensures.step c.in_ok-perform.ensures.memory c.in_ok-perform.ensures.noted;
}

pub returns : goal.returns
returns c =
    let empty = nil_from_length (into_iter_items c.loop-command.command-iterator) (omega (arith, c.in-None.ensures.steps.0, c.loop-command.command-iterator.rest.ok)) in
    let all : c.args.commands.items ≡ c.loop-command.yielded = c.loop-command.invariant.split ∙ (ap (λ l. c.loop-command.yielded ++ l) empty ∙ append-nil c.loop-command.yielded) in
    subst (λ (l : List Command). Leads (machine_of c.args.device.now) l (machine_of c.loop-command.device) c.loop-command.done.items) (sym all) c.loop-command.invariant.led
