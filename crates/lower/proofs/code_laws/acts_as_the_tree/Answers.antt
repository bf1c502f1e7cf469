use Rattle.std.proofs.Common.{suc, ◌+◌, Some, length, refl, sym, ap, ◌∙◌, subst, arith}
use Rattle.clmodel.specs.Next.{next, walk, run_of}
use Rattle.clmodel.specs.Setup.{functions_before}
use Rattle.regcode.specs.Machine.{at_start, given_of}
use Rattle.regcode.proofs.Agreement.{Agree, acts_as}
use Rattle.lower.specs.Correct.{ActsAsTheTree}
use Rattle.lower.proofs.Calls.{kernel_runs}
use Rattle.lower.proofs.code_laws.acts_as_the_tree.Goals as goal

pub returns : goal.returns
unfolding next ActsAsTheTree
returns c setup f code is lowered item answers =
    let earlier = functions_before setup.program.functions setup.kernel in
    let start = at_start (length code.registers) (length code.arrays) in
    let run = run_of setup item earlier (Some f) in
    acts_as code setup item run
    (subst (λ instructions. Agree (given_of code setup item) instructions (suc setup.budget) start run) (sym lowered)
    (kernel_runs (given_of code setup item) (setup.budget + 1) earlier f (suc setup.budget) start (omega arith) refl)) answers
    ∙ ap (λ k. walk (run_of setup item earlier k) setup.budget answers) (sym is)
