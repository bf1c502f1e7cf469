use Rattle.std.proofs.Common.{◌∙◌}
use Rattle.lower_code.specs.Parts.{hole_code}
use Rattle.lower_code.proofs.Rows.{begun}
use Rattle.lower.proofs.expansion.open.Goals as goal

pub returns-clause-code : goal.returns-clause-code
returns-clause-code c =
    c.into_parts.ensures.code ∙ begun (hole_code c.args.hole.now) c.new-body.result c.emit_body.new.code c.new-body.ensures c.in_ok-emit_body.ensures.code
