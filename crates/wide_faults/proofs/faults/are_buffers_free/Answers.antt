use Rattle.std.proofs.Common.{[], drop, get_or, ap, sym, ◌∙◌, refl}
use Rattle.std.proofs.lemmas.List.{drop_all, drop_more}
use Rattle.wide_faults.specs.Faults.{are_free, is_any}
use Rattle.wide_faults.proofs.InKernel.{one_let}
use Rattle.wide_faults.proofs.faults.are_buffers_free.Goals as goal

pub loop-number-init : goal.loop-number-init
loop-number-init c = refl

pub loop-number-preserved : goal.loop-number-preserved
loop-number-preserved c =
    let names = c.args.names.now in
    let i = c.loop-number.number in
    c.loop-number.invariant
    ∙ one_let is_any names c.args.free.now i (get_or names i []) (drop_more names i [] c.loop-number-test.true) (sym c.is_set.ensures ∙ c.if-not-is_set.false)

pub returns : goal.returns
returns c = λ _. c.loop-number.invariant ∙ ap (λ ns. are_free is_any ns (drop c.loop-number.number c.args.free.now)) (drop_all c.loop-number.number c.args.names.now c.loop-number-test.false)
