use Rattle.std.proofs.Common.{refl}
use Rattle.std.proofs.lemmas.Bool.{false≢true}
use Rattle.clmodel.specs.Tree.{program}
use Rattle.lower.proofs.Lowered.{within_limits, never_rejected, lists_lowered, lists_same}
use Rattle.lower.proofs.Named.{nodes_counted, widths_counted, are_narrow, few_parameters, few_elements}
use Rattle.lower.proofs.lowering.lower_kernel.Goals as goal

pub list_kernel-requires : goal.list_kernel-requires
list_kernel-requires c =
    let tree = c.args.checked.now.tree in
    let p = program tree in
    let functions = tree.functions.items in
    let typed = c.args.checked.now.typed in
    record {
      placed = c.requires;
      limited = within_limits tree c.args.kernel.place c.args.kernel.function.now c.typed_kernels_have_few_barriers.ensures c.typed_kernels_are_short.ensures typed c.requires;
      nodes = nodes_counted p functions refl typed;
      widths = widths_counted p functions refl typed;
      narrow = are_narrow p functions refl typed;
      parameters = few_parameters p functions refl typed;
      elements = few_elements p functions refl typed;
    }

pub unreachable-requires : goal.unreachable-requires
unreachable-requires c =
    let p = program c.args.checked.now.tree in
    never_rejected p c.args.kernel.function.now.name _ c.typed_kernels_are_verified.ensures c.args.checked.now.typed c.in_ok-listed.ensures
    (λ v. false≢true ((c.in-Err-Rejected.ensures {u = tt}).exact.1 v))

pub returns-clause-code : goal.returns-clause-code
returns-clause-code c =
    let p = program c.args.checked.now.tree in
    lists_lowered p c.args.kernel.function.now.name _ _ c.acts_as_the_tree.ensures (c.in-Ok.ensures {u = tt}).code c.in_ok-listed.ensures

pub returns-clause-listed : goal.returns-clause-listed
returns-clause-listed c =
    let p = program c.args.checked.now.tree in
    lists_same p c.args.kernel.function.now.name _ _ (c.in-Ok.ensures {u = tt}).code c.in_ok-listed.ensures
