use Rattle.std.proofs.Common.{◌≡◌, ◌+◌, [], ◌∷◌, ◌++◌, length, string_bytes, ap, sym, ◌∙◌, append_assoc, refl, rules, arith, List, subst}
use Rattle.std.specs.Vec.Iter.{into_iter_items}
use Rattle.std.specs.Prelude.{slice_get}
use Rattle.std.proofs.lemmas.List.{append-nil, nil_from_length, length_push}
use Rattle.device.specs.Machine.{machine_of}
use Rattle.host_commands.specs.declared.command.Command.{Command}
use Rattle.explaining.specs.Leading.{IsMet}
use Rattle.explaining.specs.Whole.{TellsEach}
use Rattle.explaining.proofs.Each.{command_more, met_more, next_is}
use Rattle.explaining.proofs.every.tell_commands.Goals as goal

pub loop-command-init : goal.loop-command-init
loop-command-init c = record { split = search rules; counted = search rules; each = (refl, search rules, search rules); met = (refl, refl) }

pub tell_command-requires-clause-next : goal.tell_command-requires-clause-next
tell_command-requires-clause-next c =
    ap (λ (l : List Command). slice_get l (length c.loop-command.done.items)) (sym c.requires.same)
    ∙ next_is c.args.same.items c.loop-command.yielded (into_iter_items c.next.new.self) c.in-Some.command (length c.loop-command.done.items)
    (c.loop-command.invariant.split ∙ ap (λ l. c.loop-command.yielded ++ l) c.in-Some.ensures.steps.0) c.loop-command.invariant.counted

pub loop-command-preserved : goal.loop-command-preserved
loop-command-preserved c =
    let split = c.loop-command.invariant.split ∙ ap (λ l. c.loop-command.yielded ++ l) c.in-Some.ensures.steps.0 in record {
      split = split ∙ sym (append_assoc c.loop-command.yielded (c.in-Some.command ∷ []) (into_iter_items c.next.new.self));
      counted = c.in_ok-met.ensures.counted ∙ ap (λ n. n + 1) c.loop-command.invariant.counted ∙ sym (length_push c.loop-command.yielded c.in-Some.command);
      each =
          command_more c.args.script.now.options c.args.script.now.given.name.now c.args.script.now.told c.args.script.now.commands.now _ _ _ c.loop-command.yielded c.in-Some.command c.loop-command.done.items _
          (string_bytes c.loop-command.text) _ c.loop-command.met _ c.loop-command.invariant.each c.in_ok-met.ensures.told;
      met =
          met_more c.args.script.now.options c.args.script.now.given.name.now c.args.script.now.told c.args.script.now.commands.now _ _ _ c.args.same.items c.loop-command.yielded (into_iter_items c.next.new.self)
          c.in-Some.command c.loop-command.done.items _ (string_bytes c.loop-command.text) _ c.loop-command.met _ split c.loop-command.invariant.met c.in_ok-met.ensures.told;
    }

pub returns-clause-each : goal.returns-clause-each
returns-clause-each c =
    let empty = nil_from_length (into_iter_items c.loop-command.command-iterator) (omega (arith, c.in-None.ensures.steps.0, c.loop-command.command-iterator.rest.ok)) in
    let all : c.args.same.items ≡ c.loop-command.yielded = c.loop-command.invariant.split ∙ (ap (λ l. c.loop-command.yielded ++ l) empty ∙ append-nil c.loop-command.yielded) in (
      c.loop-command.done.items,
      subst
          (λ (l : List Command).
          TellsEach c.args.script.now.options c.args.script.now.given.name.now c.args.script.now.told c.args.script.now.commands.now [] (machine_of c.args.device.now) l (machine_of c.loop-command.device)
          c.loop-command.done.items (string_bytes c.loop-command.text)) (sym all) c.loop-command.invariant.each,
    )

pub returns-clause-met : goal.returns-clause-met
returns-clause-met c =
    let empty = nil_from_length (into_iter_items c.loop-command.command-iterator) (omega (arith, c.in-None.ensures.steps.0, c.loop-command.command-iterator.rest.ok)) in
    let all : c.args.same.items ≡ c.loop-command.yielded = c.loop-command.invariant.split ∙ (ap (λ l. c.loop-command.yielded ++ l) empty ∙ append-nil c.loop-command.yielded) in
    subst (λ (l : List Command). IsMet (machine_of c.args.device.now) c.args.same.items l (machine_of c.loop-command.device) c.loop-command.met.end c.loop-command.met.ordered) (sym all) c.loop-command.invariant.met
