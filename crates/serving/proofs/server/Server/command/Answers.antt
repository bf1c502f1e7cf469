use Rattle.std.proofs.Common.{refl, sym, ap, ◌∙◌}
use Rattle.serving.proofs.Commands.{heard_command_by, bad_whole_by, bad_cut_by}
use Rattle.simfile.specs.Reading.{command_at}
use Rattle.serving.proofs.server.Server.command.Goals as goal

pub returns-then-not-branch-clause-failed : goal.returns-then-not-branch-clause-failed
returns-then-not-branch-clause-failed g c = rw c.bad_line.ensures (bad_cut_by _ _ c.if-not-branch.true c.in_ok-hear_rest.ensures.heard refl)

pub returns-in-Some-clause-heard : goal.returns-in-Some-clause-heard
returns-in-Some-clause-heard g c =
    let server = c.hear_rest.new.self in
    let found = c.in_ok-command.ensures in
    let read = ap (command_at server.version) (sym c.as_slice.ensures.value) ∙ sym (rw c.in-Some.is at found) in
    heard_command_by c.in-Some.command c.in-Some.field-0-1.now _ c.if-not-branch.false c.in_ok-hear_rest.ensures.heard read

pub returns-in-None-clause-failed : goal.returns-in-None-clause-failed
returns-in-None-clause-failed g c =
    let server = c.hear_rest.new.self in
    let found = c.in_ok-command.ensures in
    let read = ap (command_at server.version) (sym c.as_slice.ensures.value) ∙ sym (rw c.in-None.is at found) in
    rw c.bad_line-in-None.ensures (bad_whole_by _ _ c.if-not-branch.false c.in_ok-hear_rest.ensures.heard read refl)
