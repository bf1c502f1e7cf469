use Rattle.std.proofs.Common.{◌≡◌, ◌+◌, ◌-◌, ◌<◌, arith, ap, sym, ◌∙◌, length, take, map}
use Rattle.lower_code.specs.Code.{result_in}
use Rattle.lower_code.specs.Emission.{functions_of}
use Rattle.lower_code.proofs.Helpers.{result_hit, result_miss}
use Rattle.origins.specs.Origins.{entered, node_at, call_origins}
use Rattle.origins.proofs.Finding.{calls_hit, calls_miss, there_is, type_is}
use Rattle.origins.proofs.helpers.find.Goals as goal

pub returns-then-name-function-clause-code : goal.returns-then-name-function-clause-code
returns-then-name-function-clause-code c call =
    let gs = c.args.functions.now in
    let place = length gs - 1 - c.loop-i.i in
    let below : place < length gs = omega (arith, c.loop-i-test.true) in
    let left : length gs - c.loop-i.i ≡ place + 1 = omega (arith, c.loop-i-test.true) in
    let g = c.index-functions-place.result in
    c.loop-i.invariant.code call
    ∙ ap (λ n. call_origins (functions_of (take n gs)) call c.args.name) left
    ∙ calls_hit gs place c.args.name g call below c.index-functions-place.is c.if-name-function.true
    ∙ ap (λ os. map (entered (node_at call)) os) (sym (there_is gs place g below c.index-functions-place.is))

pub returns-then-name-function-clause-value : goal.returns-then-name-function-clause-value
returns-then-name-function-clause-value c =
    let gs = c.args.functions.now in
    let place = length gs - 1 - c.loop-i.i in
    let below : place < length gs = omega (arith, c.loop-i-test.true) in
    let left : length gs - c.loop-i.i ≡ place + 1 = omega (arith, c.loop-i-test.true) in
    let g = c.index-functions-place.result in
    c.loop-i.invariant.value
    ∙ ap (λ n. result_in (functions_of (take n gs)) c.args.name) left
    ∙ result_hit gs place c.args.name g below c.index-functions-place.is c.if-name-function.true
    ∙ sym (type_is gs place g below c.index-functions-place.is)

pub loop-i-preserved : goal.loop-i-preserved
loop-i-preserved c =
    let gs = c.args.functions.now in
    let place = length gs - 1 - c.loop-i.i in
    let below : place < length gs = omega (arith, c.loop-i-test.true) in
    let left : length gs - c.loop-i.i ≡ place + 1 = omega (arith, c.loop-i-test.true) in
    let next : place ≡ length gs - (c.loop-i.i + 1) = omega (arith, c.loop-i-test.true) in
    record {
      code = λ call.
          c.loop-i.invariant.code call
          ∙ ap (λ n. call_origins (functions_of (take n gs)) call c.args.name) left
          ∙ calls_miss gs place c.args.name c.index-functions-place.result call below c.index-functions-place.is c.if-name-function.false
          ∙ ap (λ n. call_origins (functions_of (take n gs)) call c.args.name) next;
      value = c.loop-i.invariant.value
          ∙ ap (λ n. result_in (functions_of (take n gs)) c.args.name) left
          ∙ result_miss gs place c.args.name c.index-functions-place.result below c.index-functions-place.is c.if-name-function.false
          ∙ ap (λ n. result_in (functions_of (take n gs)) c.args.name) next;
    }
