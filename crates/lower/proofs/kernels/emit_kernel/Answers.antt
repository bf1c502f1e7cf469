use Rattle.std.proofs.Common.{◌≤◌, take, length, sym, subst, arith, ap}
use Rattle.lower_code.specs.Room.{FewParameters, FewElements}
use Rattle.lower_code.specs.Helpers.{NodesCounted, WidthsCounted, AreNarrow, BarriersKnown, BarriersCounted, LengthsKnown, LengthsCounted, EndsKnown}
use Rattle.lower_code.proofs.Tables.{nodes_before, widths_before, narrow_before, parameters_before, elements_before}
use Rattle.lower.specs.Bounds.{IsWithinLimits}
use Rattle.lower.proofs.kernels.emit_kernel.Goals as goal

pub invariant_of-helpers : goal.invariant_of-helpers
invariant_of-helpers c =
    let functions = c.as_slice-functions.result.now in
    let same = c.as_slice-functions.ensures.value in
    let place = c.args.kernel.place in
    let within : place ≤ length functions = omega (arith, c.requires.within, ap length same) in
    let before = take place functions in
    record {
      barriers = subst (λ ks. BarriersKnown before ks) (sym c.as_slice-2.ensures.value) c.in_ok-known.ensures.barriers;
      complete = omega (arith, c.in_ok-known.ensures.complete, ap length c.as_slice-2.ensures.value);
      counted = subst (λ ks. BarriersCounted before ks) (sym c.as_slice-2.ensures.value) c.in_ok-known.ensures.counted;
      nodes = nodes_before functions place within (subst NodesCounted (sym same) c.requires.nodes);
      widths = widths_before functions place within (subst WidthsCounted (sym same) c.requires.widths);
      elements = elements_before functions place within (subst FewElements (sym same) c.requires.elements);
      ends_known = subst (λ es. EndsKnown before es) (sym c.as_slice-3.ensures.value) c.in_ok-ends.ensures;
      measured = subst (λ ks. LengthsCounted before ks) (sym c.as_slice-2.ensures.value) c.in_ok-known.ensures.measured;
      lengths = subst (λ ks. LengthsKnown before ks) (sym c.as_slice-2.ensures.value) c.in_ok-known.ensures.lengths;
    }

pub known_of_all-requires-clause-nodes : goal.known_of_all-requires-clause-nodes
known_of_all-requires-clause-nodes c =
    let same = c.as_slice-functions.ensures.value in
    nodes_before c.as_slice-functions.result.now c.args.kernel.place (omega (arith, c.requires.within, ap length same)) (subst NodesCounted (sym same) c.requires.nodes)

pub known_of_all-requires-clause-widths : goal.known_of_all-requires-clause-widths
known_of_all-requires-clause-widths c =
    let same = c.as_slice-functions.ensures.value in
    widths_before c.as_slice-functions.result.now c.args.kernel.place (omega (arith, c.requires.within, ap length same)) (subst WidthsCounted (sym same) c.requires.widths)

pub known_of_all-requires-clause-narrow : goal.known_of_all-requires-clause-narrow
known_of_all-requires-clause-narrow c =
    let same = c.as_slice-functions.ensures.value in
    narrow_before c.as_slice-functions.result.now c.args.kernel.place (omega (arith, c.requires.within, ap length same)) (subst AreNarrow (sym same) c.requires.narrow)

pub known_of_all-requires-clause-parameters : goal.known_of_all-requires-clause-parameters
known_of_all-requires-clause-parameters c =
    let same = c.as_slice-functions.ensures.value in
    parameters_before c.as_slice-functions.result.now c.args.kernel.place (omega (arith, c.requires.within, ap length same)) (subst FewParameters (sym same) c.requires.parameters)

pub known_of_all-requires-clause-elements : goal.known_of_all-requires-clause-elements
known_of_all-requires-clause-elements c =
    let same = c.as_slice-functions.ensures.value in
    elements_before c.as_slice-functions.result.now c.args.kernel.place (omega (arith, c.requires.within, ap length same)) (subst FewElements (sym same) c.requires.elements)

pub emit_function-requires : goal.emit_function-requires
emit_function-requires c =
    subst (λ fs. IsWithinLimits (take c.args.kernel.place fs) c.args.kernel.function.now) (sym c.as_slice-functions.ensures.value) c.requires.limited
