use Rattle.std.proofs.Common.{◌∙◌}
use Rattle.explain_steps.proofs.ByteSets.{others_held}
use Rattle.explain_steps.proofs.bytes.ByteSet.go_back.Goals as goal

pub returns-in_ok-add-clause-held : goal.returns-in_ok-add-clause-held
returns-in_ok-add-clause-held c =
    λ followed mark later e h. c.in_ok-add.ensures followed mark later (e ∙ c.if-of_them.true) (c.take-found.ensures.left followed later h)

pub returns-else-of_them-clause-held : goal.returns-else-of_them-clause-held
returns-else-of_them-clause-held c =
    λ followed mark later e h. others_held followed mark later c.take-found.new.self c.args.touch.now (e ∙ c.if-of_them.false) (c.take-found.ensures.left followed later h)
