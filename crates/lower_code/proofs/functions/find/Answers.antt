use Rattle.std.proofs.Common.{◌≡◌, ◌+◌, ◌-◌, ◌<◌, arith, ap, ◌∙◌, length, take}
use Rattle.lower_code.specs.Code.{call_code, result_in}
use Rattle.lower_code.specs.Emission.{functions_of, inside}
use Rattle.lower_code.proofs.Helpers.{code_hit, code_miss, result_hit, result_miss, from_end}
use Rattle.lower_code.proofs.Lists.{inside_hit, inside_miss}
use Rattle.lower_code.proofs.functions.find.Goals as goal

pub returns-then-name-function-clause-code : goal.returns-then-name-function-clause-code
returns-then-name-function-clause-code c arguments level depth site =
    let gs = c.args.helpers.functions.now in
    let end = c.end_of-end.result in
    let place = end - 1 - c.loop-i.i in
    let below : place < length gs = omega (arith, c.loop-i-test.true, c.end_of-end.ensures.within) in
    let left : end - c.loop-i.i ≡ place + 1 = omega (arith, c.loop-i-test.true) in
    c.loop-i.invariant.code arguments level depth site
    ∙ ap (λ n. call_code (functions_of (take n gs)) c.args.name arguments level depth site) left
    ∙ code_hit gs place c.args.name c.index-functions-place.result arguments level depth site below c.index-functions-place.is c.if-name-function.true

pub returns-then-name-function-clause-value : goal.returns-then-name-function-clause-value
returns-then-name-function-clause-value c =
    let gs = c.args.helpers.functions.now in
    let end = c.end_of-end.result in
    let place = end - 1 - c.loop-i.i in
    let below : place < length gs = omega (arith, c.loop-i-test.true, c.end_of-end.ensures.within) in
    let left : end - c.loop-i.i ≡ place + 1 = omega (arith, c.loop-i-test.true) in
    c.loop-i.invariant.value
    ∙ ap (λ n. result_in (functions_of (take n gs)) c.args.name) left
    ∙ result_hit gs place c.args.name c.index-functions-place.result below c.index-functions-place.is c.if-name-function.true

pub returns-then-name-function-clause-sites : goal.returns-then-name-function-clause-sites
returns-then-name-function-clause-sites c =
    let gs = c.args.helpers.functions.now in
    let end = c.end_of-end.result in
    let place = end - 1 - c.loop-i.i in
    let below : place < length gs = omega (arith, c.loop-i-test.true, c.end_of-end.ensures.within) in
    let left : end - c.loop-i.i ≡ place + 1 = omega (arith, c.loop-i-test.true) in
    c.loop-i.invariant.sites
    ∙ ap (λ n. inside (take n gs) c.args.name) left
    ∙ inside_hit gs place c.args.name c.index-functions-place.result below c.index-functions-place.is c.if-name-function.true

pub loop-i-preserved : goal.loop-i-preserved
loop-i-preserved c =
    let gs = c.args.helpers.functions.now in
    let end = c.end_of-end.result in
    let place = end - 1 - c.loop-i.i in
    let below : place < length gs = omega (arith, c.loop-i-test.true, c.end_of-end.ensures.within) in
    let left : end - c.loop-i.i ≡ place + 1 = omega (arith, c.loop-i-test.true) in
    let next : place ≡ end - (c.loop-i.i + 1) = omega (arith, c.loop-i-test.true) in
    record {
      code = λ arguments level depth site.
          c.loop-i.invariant.code arguments level depth site
          ∙ ap (λ n. call_code (functions_of (take n gs)) c.args.name arguments level depth site) left
          ∙ code_miss gs place c.args.name c.index-functions-place.result arguments level depth site below c.index-functions-place.is c.if-name-function.false
          ∙ ap (λ n. call_code (functions_of (take n gs)) c.args.name arguments level depth site) next;
      value = c.loop-i.invariant.value
          ∙ ap (λ n. result_in (functions_of (take n gs)) c.args.name) left
          ∙ result_miss gs place c.args.name c.index-functions-place.result below c.index-functions-place.is c.if-name-function.false
          ∙ ap (λ n. result_in (functions_of (take n gs)) c.args.name) next;
      sites = c.loop-i.invariant.sites
          ∙ ap (λ n. inside (take n gs) c.args.name) left
          ∙ inside_miss gs place c.args.name c.index-functions-place.result below c.index-functions-place.is c.if-name-function.false
          ∙ ap (λ n. inside (take n gs) c.args.name) next;
    }

pub loop-i-init : goal.loop-i-init
loop-i-init c =
    let gs = c.args.helpers.functions.now in
    let end = c.end_of-end.result in
    let name = c.args.name in
    let within = c.end_of-end.ensures.within in
    let behind = c.end_of-end.ensures.behind in
    record {
      code = λ arguments level depth site.
          from_end (λ fs. call_code (functions_of fs) name arguments level depth site) gs end within (λ i g from below there. code_miss gs i name g arguments level depth site below there (behind i g from below there));
      value = from_end (λ fs. result_in (functions_of fs) name) gs end within (λ i g from below there. result_miss gs i name g below there (behind i g from below there));
      sites = from_end (λ fs. inside fs name) gs end within (λ i g from below there. inside_miss gs i name g below there (behind i g from below there));
    }
