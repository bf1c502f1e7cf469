use Rattle.std.proofs.Common.{◌≡◌, ◌<◌, ◌≤◌, ◌^◌, [], ◌∷◌, length, take, get_or, ap, sym, subst, ◌∙◌, arith}
use Rattle.std.proofs.lemmas.List.{length-append, length-take}
use Rattle.clmodel.specs.Next.{all_sites}
use Rattle.clmodel.specs.Tree.{func}
use Rattle.clmodel.specs.Typing.Functions.{size_of}
use Rattle.clmodel.specs.Typing.Sizes.{node_limit}
use Rattle.cltypes.specs.Limits.{IsSummary}
use Rattle.cltypes.specs.declared.size.Size.{Size}
use Rattle.lower_code.specs.Trees.{all_of}
use Rattle.lower_code.specs.Helpers.{functions_of, inside, body_of, BarriersKnown, BarriersCounted, LengthsKnown, LengthsCounted}
use Rattle.lower_code.proofs.Tables.{barriers_before, barriers_more, counted_before, counted_more, ends_before, lengths_before, lengths_more, measured_before, measured_more, nodes_before, widths_before, elements_before}
use Rattle.lower_code.proofs.Lists.{functions_more}
use Rattle.lower.proofs.known_functions.known_of_all.Goals as goal

pub known_of-requires : goal.known_of-requires
known_of-requires c = record {
  parameters = c.requires.parameters c.loop-i.i c.index-functions-i.result c.loop-i-test.true c.index-functions-i.is;
  narrow = c.requires.narrow c.loop-i.i c.index-functions-i.result c.loop-i-test.true c.index-functions-i.is;
  arrays = c.requires.elements c.loop-i.i c.index-functions-i.result c.loop-i-test.true c.index-functions-i.is;
  counted = ap (λ (z : Size). z.nodes) (c.in_ok-size.ensures.size (functions_of (take c.loop-i.i c.args.functions.now)) c.loop-i.invariant.sizes);
}

pub invariant_of-before : goal.invariant_of-before
invariant_of-before c =
    let fs = c.args.functions.now in
    let ks = c.loop-i.known.items in
    let i = c.loop-i.i in
    let same = c.as_slice.ensures.value in
    let count : length ks ≡ i = c.loop-i.invariant.count in
    let small : i ≤ length fs = omega (arith, c.loop-i-test.true) in
    let known : BarriersKnown fs ks = c.loop-i.invariant.barriers in
    let counted : BarriersCounted fs ks = c.loop-i.invariant.counted in
    let lengths : LengthsKnown fs ks = c.loop-i.invariant.lengths in
    let measured : LengthsCounted fs ks = c.loop-i.invariant.measured in
    record {
      barriers = subst (λ xs. BarriersKnown (take i fs) xs) (sym same) (barriers_before fs ks i small known);
      complete = subst (λ xs. length (take i fs) ≤ length xs) (sym same) (omega (arith, count, length-take i fs));
      counted = subst (λ xs. BarriersCounted (take i fs) xs) (sym same) (counted_before fs ks i small counted);
      lengths = subst (λ xs. LengthsKnown (take i fs) xs) (sym same) (lengths_before fs ks i small lengths);
      measured = subst (λ xs. LengthsCounted (take i fs) xs) (sym same) (measured_before fs ks i small measured);
      nodes = nodes_before fs i small c.requires.nodes;
      ends_known = ends_before fs c.args.ends.now i small c.requires.ends;
      widths = widths_before fs i small c.requires.widths;
      elements = elements_before fs i small c.requires.elements;
    }

pub loop-i-preserved : goal.loop-i-preserved
loop-i-preserved c =
    let fs = c.args.functions.now in
    let ks = c.loop-i.known.items in
    let f = c.index-functions-i.result in
    let k = c.in_ok-next.next in
    let i = c.loop-i.i in
    let items = c.in_ok-push.ensures.items in
    let count : length ks ≡ c.loop-i.i = c.loop-i.invariant.count in
    let below : length ks < length fs = omega (arith, count, c.loop-i-test.true) in
    let there : f ≡ get_or fs (length ks) f = c.index-functions-i.is ∙ ap (λ m. get_or fs m f) (sym count) in
    let before : take c.loop-i.i fs ≡ take (length ks) fs = ap (λ m. take m fs) (sym count) in
    record {
      count = omega (arith, count, ap length items, length-append ks (k ∷ []));
      barriers = subst (λ xs. BarriersKnown fs xs) (sym items)
          (barriers_more fs ks f k below there c.loop-i.invariant.barriers (λ n e. c.in_ok-next.ensures.barriers n e ∙ ap (λ gs. all_sites (inside gs) (all_of f.body.items)) before));
      counted = subst (λ xs. BarriersCounted fs xs) (sym items)
          (counted_more fs ks f k below there c.loop-i.invariant.counted (λ none. subst (λ gs. 2 ^ 32 ≤ all_sites (inside gs) (all_of f.body.items)) before (c.in_ok-next.ensures.counted none)));
      lengths = subst (λ xs. LengthsKnown fs xs) (sym items)
          (lengths_more fs ks f k below there c.loop-i.invariant.lengths (λ n level depth site e. c.in_ok-next.ensures.length n level depth site e ∙ ap (λ gs. length (body_of gs f level depth site)) before));
      measured = subst (λ xs. LengthsCounted fs xs) (sym items)
          (measured_more fs ks f k below there c.loop-i.invariant.measured
          (λ n n_is none. subst (λ gs. node_limit < (size_of (functions_of gs) (func f)).nodes) before (c.in_ok-next.ensures.measured n n_is none)));
      sizes = subst (λ gs. IsSummary c.add.new.self gs) (sym (functions_more fs i f (omega (arith, c.loop-i-test.true)) c.index-functions-i.is))
          (c.in_ok-size.ensures.added (functions_of (take i fs)) c.loop-i.invariant.sizes);
    }
