use Rattle.std.proofs.Common.{◌≡◌, ◌+◌, ◌-◌, ◌<◌, arith, ap, sym, ◌∙◌, length, take}
use Rattle.clmodel.specs.Setup.{kernel_in, functions_before}
use Rattle.clmodel.specs.Tree.{funcs}
use Rattle.clmodel.proofs.Kernels.{kernel_more, before_more}
use Rattle.clmodel.proofs.lookup.kernel_among.Goals as goal

pub returns-then-is_kernel_of-clause-kernel : goal.returns-then-is_kernel_of-clause-kernel
returns-then-is_kernel_of-clause-kernel c =
    let gs = c.args.functions.now in
    let place = length gs - 1 - c.loop-i.i in
    let below : place < length gs = omega (arith, c.loop-i-test.true) in
    let left : length gs - c.loop-i.i ≡ place + 1 = omega (arith, c.loop-i-test.true) in
    sym (c.loop-i.invariant.0 ∙ ap (λ n. kernel_in (funcs (take n gs)) c.args.number) left
    ∙ kernel_more gs place c.args.number c.index-functions-place.result _ below c.index-functions-place.is (sym c.is_kernel_of.ensures ∙ c.if-is_kernel_of.true))

pub returns-then-is_kernel_of-clause-before : goal.returns-then-is_kernel_of-clause-before
returns-then-is_kernel_of-clause-before c =
    let gs = c.args.functions.now in
    let place = length gs - 1 - c.loop-i.i in
    let below : place < length gs = omega (arith, c.loop-i-test.true) in
    let left : length gs - c.loop-i.i ≡ place + 1 = omega (arith, c.loop-i-test.true) in
    sym (c.loop-i.invariant.1 ∙ ap (λ n. functions_before (funcs (take n gs)) c.args.number) left
    ∙ before_more gs place c.args.number c.index-functions-place.result _ below c.index-functions-place.is (sym c.is_kernel_of.ensures ∙ c.if-is_kernel_of.true))

pub loop-i-preserved : goal.loop-i-preserved
loop-i-preserved c =
    let gs = c.args.functions.now in
    let place = length gs - 1 - c.loop-i.i in
    let below : place < length gs = omega (arith, c.loop-i-test.true) in
    let left : length gs - c.loop-i.i ≡ place + 1 = omega (arith, c.loop-i-test.true) in
    let next : place ≡ length gs - (c.loop-i.i + 1) = omega (arith, c.loop-i-test.true) in (
      c.loop-i.invariant.0 ∙ ap (λ n. kernel_in (funcs (take n gs)) c.args.number) left
          ∙ kernel_more gs place c.args.number c.index-functions-place.result _ below c.index-functions-place.is (sym c.is_kernel_of.ensures ∙ c.if-is_kernel_of.false)
          ∙ ap (λ n. kernel_in (funcs (take n gs)) c.args.number) next,
      c.loop-i.invariant.1 ∙ ap (λ n. functions_before (funcs (take n gs)) c.args.number) left
          ∙ before_more gs place c.args.number c.index-functions-place.result _ below c.index-functions-place.is (sym c.is_kernel_of.ensures ∙ c.if-is_kernel_of.false)
          ∙ ap (λ n. functions_before (funcs (take n gs)) c.args.number) next,
    )
