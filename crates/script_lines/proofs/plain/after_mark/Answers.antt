use Rattle.std.proofs.Common.{◌+◌, drop, ap, sym, ◌∙◌, arith, drop_of_length-le}
use Rattle.std.proofs.lemmas.List.{take_rest}
use Rattle.script_lines.specs.Plain.{begins_comment}
use Rattle.script_lines.proofs.Steps.{at_first, at_none}
use Rattle.script_lines.proofs.plain.after_mark.Goals as goal

pub returns-in-Some : goal.returns-in-Some
returns-in-Some c =
    take_rest c.args.line.now (c.in-Some.at + 1) ∙ ap (λ n. drop (n + 1) c.args.line.now) (at_first begins_comment c.args.line.now c.in-Some.at c.in-Some.ensures.value)

pub returns-in-None : goal.returns-in-None
returns-in-None c =
    let past = at_none begins_comment c.args.line.now c.in-None.ensures.value in
    sym (drop_of_length-le c.args.line.now (omega (arith, past)))
