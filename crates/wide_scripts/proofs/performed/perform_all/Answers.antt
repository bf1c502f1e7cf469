use Rattle.std.proofs.Common.{◌≡◌, [], ◌∷◌, ◌++◌, ap, sym, ◌∙◌, append_assoc, rules, arith, List, subst}
use Rattle.std.specs.Vec.Iter.{into_iter_items}
use Rattle.std.proofs.lemmas.List.{append-nil, nil_from_length}
use Rattle.device.specs.Machine.{machine_of, opening}
use Rattle.host_commands.specs.declared.command.Command.{Command}
use Rattle.host_commands.specs.declared.command.Reply.{Reply}
use Rattle.wide_scripts.specs.Notes.{AreNoted}
use Rattle.wide_scripts.specs.declared.note.Note.{Note}
use Rattle.wide_scripts.proofs.Performing.{noted_more}
use Rattle.wide_scripts.proofs.performed.perform_all.Goals as goal

pub loop-command-init : goal.loop-command-init
loop-command-init c =
    let start = opening c.args.configuration in
    record {
      split = search rules;
      led =
          subst (λ (rs : List Reply). AreNoted start [] rs c.new-notes.result.items (machine_of c.new-device.result)) (sym c.new-replies.ensures.items)
          (subst (λ (ns : List Note). AreNoted start [] [] ns (machine_of c.new-device.result)) (sym c.new-notes.ensures.items) c.new-device.ensures);
    }

pub loop-command-preserved : goal.loop-command-preserved
loop-command-preserved c =
    let start = opening c.args.configuration in
    record {
      split = c.loop-command.invariant.split ∙ (ap (λ l. c.loop-command.yielded ++ l) c.in-Some.ensures.steps.0 ∙ sym (append_assoc c.loop-command.yielded (c.in-Some.command ∷ []) (into_iter_items c.next.new.self)));
      led =
          subst (λ (rs : List Reply). AreNoted start (c.loop-command.yielded ++ c.in-Some.command ∷ []) rs c.push-in-loop-command.new.self.items (machine_of c.perform.new.device)) (sym c.in_ok-push.ensures.items)
          (subst (λ (ns : List Note). AreNoted start (c.loop-command.yielded ++ c.in-Some.command ∷ []) (c.loop-command.replies.items ++ c.in_ok-reply.reply ∷ []) ns (machine_of c.perform.new.device)) (sym c.in_ok-push-2.ensures.items)
          (noted_more start (machine_of c.loop-command.device) (machine_of c.perform.new.device) c.loop-command.yielded c.in-Some.command c.loop-command.replies.items c.in_ok-reply.reply
          c.loop-command.notes.items c.in_ok-reply.note c.loop-command.invariant.led c.in_ok-reply.ensures.answers c.in_ok-reply.ensures.noted));
    }

pub returns : goal.returns
returns c =
    let empty = nil_from_length (into_iter_items c.loop-command.command-iterator) (omega (arith, c.in-None.ensures.steps.0, c.loop-command.command-iterator.rest.ok)) in
    let all : c.args.commands.items ≡ c.loop-command.yielded = c.loop-command.invariant.split ∙ (ap (λ l. c.loop-command.yielded ++ l) empty ∙ append-nil c.loop-command.yielded) in (
      machine_of c.loop-command.device,
      subst (λ (l : List Command). AreNoted (opening c.args.configuration) l c.loop-command.replies.items c.loop-command.notes.items (machine_of c.loop-command.device)) (sym all) c.loop-command.invariant.led,
    )
