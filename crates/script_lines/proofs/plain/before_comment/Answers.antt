use Rattle.std.proofs.Common.{take, ap, sym, take_all}
use Rattle.script_lines.specs.Plain.{begins_comment}
use Rattle.script_lines.proofs.Steps.{at_first, at_none}
use Rattle.script_lines.proofs.plain.before_comment.Goals as goal

pub returns-in-Some : goal.returns-in-Some
returns-in-Some c = ap (λ n. take n c.args.line.now) (at_first begins_comment c.args.line.now c.in-Some.at c.in-Some.ensures.value)

pub returns-in-None : goal.returns-in-None
returns-in-None c = sym (take_all _ c.args.line.now (at_none begins_comment c.args.line.now c.in-None.ensures.value))
