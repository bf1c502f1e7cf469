use Rattle.std.proofs.Common.{List, ℕ, inl, inr, subst}
use Rattle.std.proofs.lemmas.Result.{IfOk-weaker}
use Rattle.item_step.specs.Launches.{setup_of}
use Rattle.wide_faults.specs.Faults.{AreAllFree, IsKernelLine}
use Rattle.wide_faults.proofs.faults.found_line.Goals as goal

pub returns-then-are_all_free : goal.returns-then-are_all_free
returns-then-are_all_free c =
    let setup = setup_of c.args.launch.now in
    let buffers = c.args.wide.now.buffers.items in
    let numbers = c.args.wide.now.arguments.items in
    let all =
    subst (λ names. AreAllFree names setup.arguments buffers numbers) c.buffer_names-names.ensures
    (subst (λ given. AreAllFree c.buffer_names-names.result.now given buffers numbers) c.arguments.ensures (c.are_all_free.ensures c.if-are_all_free.true)) in
    IfOk-weaker c.kernel_line.result _ _ (λ text line. inl (all, subst (λ (names : List (List ℕ)). IsKernelLine c.args.head.now names text.items) c.buffer_names-names.ensures line)) c.kernel_line.ensures

pub returns : goal.returns
returns c = IfOk-weaker c.data_line.result _ _ (λ text line. inr line) c.data_line.ensures
