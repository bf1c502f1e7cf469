use Rattle.std.proofs.Common.{inl, inr, Some, sym, ap, subst, ◌∙◌, arith}
use Rattle.std.proofs.lemmas.Result.{IfOk-weaker}
use Rattle.origins.specs.Helpers.{LengthsKnown}
use Rattle.origins.specs.Origins.{node_of, origins_at}
use Rattle.origins.proofs.Chaining.{origin_by}
use Rattle.origins.proofs.Landing.{found_at, inside_at, lost_at, found_round}
use Rattle.origins.proofs.origin.kernel_origin.Goals as goal

pub pass_function-passed-requires : goal.pass_function-passed-requires
pass_function-passed-requires c = subst (λ ls. LengthsKnown c.args.functions.now ls) (sym c.as_slice.ensures.value) c.in_ok-lengths.ensures

pub returns-in-Ok : goal.returns-in-Ok
returns-in-Ok c =
    let w = c.in-Ok.ensures (origins_at c.args.functions.now) _ _ c.pass_function-passed.ensures in
    let l = w.leads in
    inl (omega (arith, l))

pub returns-in-Err-Found : goal.returns-in-Err-Found
returns-in-Err-Found c =
    found_at _ _ _ c.in-Err-Found.field-0 c.in-Err-Found.node c.in-Err-Found.field-0-is (c.in-Err-Found.ensures (origins_at c.args.functions.now) _ _ c.pass_function-passed.ensures)
    ∙ ap (λ cs. Some (origin_by (node_of c.in-Err-Found.node) cs)) (sym c.new.ensures.items)

pub origin_inside-requires-clause-known : goal.origin_inside-requires-clause-known
origin_inside-requires-clause-known c = subst (λ ls. LengthsKnown c.args.functions.now ls) (sym c.as_slice-in-Err-Inside.ensures.value) c.in_ok-lengths.ensures

pub origin_inside-requires-clause-there : goal.origin_inside-requires-clause-there
origin_inside-requires-clause-there c =
    let l = inside_at _ _ _ c.in-Err-Inside.field-0 c.in-Err-Inside.entered c.in-Err-Inside.field-0-is (c.in-Err-Inside.ensures (origins_at c.args.functions.now) _ _ c.pass_function-passed.ensures) in
    (l.0, l.1)

pub returns-in-Err-Inside : goal.returns-in-Err-Inside
returns-in-Err-Inside c =
    let l = inside_at _ _ _ c.in-Err-Inside.field-0 c.in-Err-Inside.entered c.in-Err-Inside.field-0-is (c.in-Err-Inside.ensures (origins_at c.args.functions.now) _ _ c.pass_function-passed.ensures) in
    IfOk-weaker c.origin_inside.result _ _ (λ found h. found_round c.args.functions.now _ _ c.in-Err-Inside.entered found l h) c.origin_inside.ensures

pub returns-in-Err-Lost : goal.returns-in-Err-Lost
returns-in-Err-Lost c = inr (lost_at _ _ _ c.in-Err-Lost.field-0 c.in-Err-Lost.field-0-is (c.in-Err-Lost.ensures (origins_at c.args.functions.now) _ _ c.pass_function-passed.ensures))
