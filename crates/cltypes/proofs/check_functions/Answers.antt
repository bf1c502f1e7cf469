use Rattle.std.proofs.Common.{take, inl, inr, ◌∙◌}
use Rattle.clmodel.specs.Typing.Functions.{names}
use Rattle.cltypes.specs.Views.{functions_of}
use Rattle.cltypes.proofs.Texts.{signatures_more, summary_more, function_inside, functions_more}
use Rattle.cltypes.proofs.Control.{handed_on}
use Rattle.cltypes.proofs.check_functions.Goals as goal

pub returns-in_err-check_function : goal.returns-in_err-check_function
returns-in_err-check_function c =
    let fs = c.args.functions.now in
    let i = c.loop-function.function-index in
    let f = c.function-item.result in
    let e = c.in_err-check_function in
    handed_on c.from_residual-in_err-check_function.result e.field-0.0 _ c.from_residual-in_err-check_function.ensures.1
    (elim (e.ensures.first (functions_of (take i fs)) c.loop-function.invariant.before c.loop-function.invariant.summed) [
      | inl h ↦ inl h
      | inr h ↦ inr (function_inside c.args.limits c.loop-function.context.limits (names (functions_of fs)) c.loop-function.context.all fs i f e.field-0.0
          c.loop-function-test.true c.function-item.is c.loop-function.invariant.limited c.loop-function.invariant.named c.loop-function.invariant.faultless h)
    ])

pub loop-function-preserved : goal.loop-function-preserved
loop-function-preserved c =
    let fs = c.args.functions.now in
    let i = c.loop-function.function-index in
    let f = c.function-item.result in
    let done = c.in_ok-check_function.ensures in
    record {
      limited = done.limits ∙ c.loop-function.invariant.limited;
      named = done.all ∙ c.loop-function.invariant.named;
      before = signatures_more fs i f c.loop-function.context.before c.check_function.new.context.before c.loop-function-test.true c.function-item.is
          c.loop-function.invariant.before done.before;
      summed = summary_more fs i f c.check_function.new.summaries c.loop-function-test.true c.function-item.is
          (done.summed (functions_of (take i fs)) c.loop-function.invariant.summed);
      faultless = functions_more c.args.limits c.loop-function.context.limits (names (functions_of fs)) c.loop-function.context.all fs i f
          c.loop-function-test.true c.function-item.is c.loop-function.invariant.limited c.loop-function.invariant.named c.loop-function.invariant.faultless
          (done.first (functions_of (take i fs)) c.loop-function.invariant.before c.loop-function.invariant.summed);
    }
