use Rattle.std.proofs.Common.{◌∙◌, ap}
use Rattle.std.specs.Io.BufRead.{ends_with_byte}
use Rattle.serving.proofs.Lines.{heard_nothing, heard_some, not_heard_by}
use Rattle.serving.proofs.hearing.hear_line.Goals as goal

pub returns-in-Err-clause-failed : goal.returns-in-Err-clause-failed
returns-in-Err-clause-failed g c = not_heard_by c.in-Err.fault c.read_fault.result c.in-Err.ensures c.read_fault.ensures

pub returns-then-count-eq0-clause-heard : goal.returns-then-count-eq0-clause-heard
returns-then-count-eq0-clause-heard g c = heard_nothing c.in-Ok.count c.in-Ok.ensures c.if-count-eq0.true

pub returns-clause-heard : goal.returns-clause-heard
returns-clause-heard g c = heard_some c.in-Ok.count c.in-Ok.ensures c.if-count-eq0.false c.ends_line.result (c.ends_line.ensures ∙ ap (ends_with_byte 10) c.as_slice.ensures.value)
