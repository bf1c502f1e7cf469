use Rattle.std.proofs.Common.{◌≡◌, ◌+◌, ◌<◌, max, arith, rules}
use Rattle.lower_code.proofs.Tables.{one_further}
use Rattle.lower_code.proofs.functions.name_end.Goals as goal

pub loop-function-preserved : goal.loop-function-preserved
loop-function-preserved c =
    let g = c.function-item.result in
    let more : c.max-end.result ≡ max c.loop-function.end (g.name + 1) = search rules in
    one_further (λ i f. f.name < c.max-end.result) c.args.functions.now c.loop-function.function-index g c.loop-function-test.true c.function-item.is
    (λ i f small there f_is. omega (arith, more, c.loop-function.invariant i f small there f_is)) (omega (arith, more))

pub returns : goal.returns
returns c i f there f_is = c.loop-function.invariant i f (omega (arith, there, c.loop-function-test.false)) there f_is
