use Rattle.std.proofs.Common.{◌≡◌, ◌+◌, [], length, take, sym, ap, subst, ◌∙◌, arith}
use Rattle.std.proofs.Math.Seq.{take-length}
use Rattle.origins.specs.Helpers.{LengthsKnown}
use Rattle.origins.proofs.Counting.{known_none, known_more}
use Rattle.origins.proofs.functions.lengths_of.Goals as goal

pub loop-i-init : goal.loop-i-init
loop-i-init c = subst (λ ls. LengthsKnown [] ls) (sym c.new-lengths.ensures.items) known_none

pub length_of-requires : goal.length_of-requires
length_of-requires c = subst (λ ls. LengthsKnown (take c.loop-i.i c.args.functions.now) ls) (sym c.as_slice.ensures.value) c.loop-i.invariant

pub loop-i-preserved : goal.loop-i-preserved
loop-i-preserved c =
    let fs = c.args.functions.now in
    subst (λ ls. LengthsKnown (take (c.loop-i.i + 1) fs) ls) (sym c.in_ok-push.ensures.items)
    (known_more fs c.loop-i.lengths.items c.loop-i.i c.index-functions-i.result c.in_ok-length.length c.loop-i-test.true c.index-functions-i.is c.loop-i.invariant c.in_ok-length.ensures)

pub returns : goal.returns
returns c =
    let fs = c.args.functions.now in
    let all : c.loop-i.i ≡ length fs = omega (arith, c.loop-i-test.false, c.loop-i.auto.i-end) in
    subst (λ gs. LengthsKnown gs c.loop-i.lengths.items) (ap (λ k. take k fs) all ∙ take-length fs) c.loop-i.invariant
