use Rattle.std.proofs.Common.{◌<◌, length, get_or, None, Some, Err, ap, sym, subst, ◌∙◌, arith}
use Rattle.std.proofs.lemmas.Option.{slice_get-get_or}
use Rattle.origins.specs.Helpers.{LengthsKnown}
use Rattle.origins.specs.Origins.{node_of}
use Rattle.origins.specs.Settings.{inside_in, calls_in}
use Rattle.origins.specs.Walks.{Walks}
use Rattle.origins.specs.declared.node.WalkEnd.TheVariants as halt
use Rattle.origins.proofs.Settling.{settle}
use Rattle.origins.proofs.Entering.{enters, is_none, loses, passes}
use Rattle.origins.proofs.helpers.pass_call.Goals as goal

pub returns-in_default : goal.returns-in_default
returns-in_default c = settle _ _ _ _ _ (sym (c.in_default.ensures.code (node_of c.args.call))) (c.pass_own.ensures _)

pub returns-then-left-length : goal.returns-then-left-length
returns-then-left-length c =
    let fs = c.args.setting.functions.now in
    let ls = c.args.setting.lengths.now in
    let place = c.in-Some.place in
    let k : LengthsKnown fs ls = c.args.setting.known in
    let below : place < length ls = omega (arith, c.in-Some.ensures.within, k.complete) in
    let whole = k.known place c.in-Some-lengths.length (slice_get-get_or ls place None below ∙ ap (λ x. Some x) c.in-Some-lengths.is) in
    let call = node_of c.args.call in
    subst (λ at. Walks (inside_in c.args.setting) (calls_in c.args.setting call c.args.name) c.args.left (Err (halt.Inside (record { call = at; place = place; left = c.args.left }))))
    (sym c.at.ensures)
    (enters fs call c.args.name place c.in-Some-lengths.length c.args.left (c.in-Some.ensures.code call) whole c.if-left-length.true)

pub returns : goal.returns
returns c =
    let fs = c.args.setting.functions.now in
    let ls = c.args.setting.lengths.now in
    let place = c.in-Some.place in
    let k : LengthsKnown fs ls = c.args.setting.known in
    let below : place < length ls = omega (arith, c.in-Some.ensures.within, k.complete) in
    let whole = k.known place c.in-Some-lengths.length (slice_get-get_or ls place None below ∙ ap (λ x. Some x) c.in-Some-lengths.is) in
    let call = node_of c.args.call in
    passes fs call c.args.name place c.in-Some-lengths.length c.args.left (c.in-Some.ensures.code call) whole c.if-left-length.false

pub returns-in_default-lengths : goal.returns-in_default-lengths
returns-in_default-lengths c =
    let fs = c.args.setting.functions.now in
    let ls = c.args.setting.lengths.now in
    let place = c.in-Some.place in
    let k : LengthsKnown fs ls = c.args.setting.known in
    let below : place < length ls = omega (arith, c.in-Some.ensures.within, k.complete) in
    let none = is_none (get_or ls place None) c.in_default-lengths.not-Some in
    let call = node_of c.args.call in
    loses fs call c.args.name place c.args.left (c.in-Some.ensures.code call) (k.long place (slice_get-get_or ls place None below ∙ ap (λ x. Some x) none))
