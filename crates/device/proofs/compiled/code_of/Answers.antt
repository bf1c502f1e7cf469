use Rattle.std.proofs.lemmas.Result.{IfOk-weaker}
use Rattle.clmodel.specs.Tree.{program}
use Rattle.lower.specs.Lowers.{IsLowered}
use Rattle.renumbering.specs.Same.{IsRenumbered}
use Rattle.device.specs.Kept.{IsCodeOf}
use Rattle.device.proofs.Kept.{renumbered_is_code, renumbered_is_lowered}
use Rattle.device.proofs.compiled.code_of.Goals as goal

pub returns-clause-lowered : goal.returns-clause-lowered
returns-clause-lowered c =
    let p = program c.args.checked.now.tree in
    let number = c.args.kernel.function.now.name in
    IfOk-weaker c.renumber.result (IsRenumbered c.in_ok-code.code) (IsLowered p number)
    (λ same is. renumbered_is_lowered p number c.in_ok-code.code same c.in_ok-code.ensures.code is) c.renumber.ensures

pub returns-clause-code : goal.returns-clause-code
returns-clause-code c =
    let p = program c.args.checked.now.tree in
    let number = c.args.kernel.function.now.name in
    IfOk-weaker c.renumber.result (IsRenumbered c.in_ok-code.code) (IsCodeOf p number)
    (λ same is. renumbered_is_code p number c.in_ok-code.code same c.typed_kernels_fit.ensures c.args.checked.now.typed c.in_ok-code.ensures.listed is) c.renumber.ensures
