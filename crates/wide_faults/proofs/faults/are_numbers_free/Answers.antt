use Rattle.std.proofs.Common.{◌+◌, not, ◌||◌, ◌∷◌, drop, ap, sym, ◌∙◌, refl}
use Rattle.std.proofs.lemmas.List.{drop_all, drop_more}
use Rattle.wide_faults.specs.Faults.{are_free, is_number}
use Rattle.wide_faults.proofs.InKernel.{one_let}
use Rattle.wide_faults.proofs.faults.are_numbers_free.Goals as goal

pub loop-index-init : goal.loop-index-init
loop-index-init c = refl

pub loop-index-preserved : goal.loop-index-preserved
loop-index-preserved c =
    let given = c.args.arguments.now in
    let i = c.loop-index.index in
    let argument = c.index-arguments-index.result in
    c.loop-index.invariant
    ∙ one_let is_number given c.args.free.now i argument (drop_more given i argument c.loop-index-test.true ∙ ap (λ x. x ∷ drop (i + 1) given) (sym c.index-arguments-index.is))
    (ap (λ b. not (is_number argument) || b) (sym c.is_set.ensures) ∙ sym c.lets.ensures ∙ c.if-not-lets.false)

pub returns : goal.returns
returns c = λ _. c.loop-index.invariant ∙ ap (λ xs. are_free is_number xs (drop c.loop-index.index c.args.free.now)) (drop_all c.loop-index.index c.args.arguments.now c.loop-index-test.false)
