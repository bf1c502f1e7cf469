use Rattle.std.proofs.Common.{◌≡◌, ◌+◌, ◌*◌, drop, arith, rules}
use Rattle.text_lines.specs.Texts.{value_of, value_behind}
use Rattle.text_lines.proofs.FieldLemmas.{value_more, value_past, value_all}
use Rattle.text_lines.proofs.numbers.value_of.Goals as goal

pub returns-in_err-checked_mul : goal.returns-in_err-checked_mul
returns-in_err-checked_mul c =
    let past = value_past c.loop-digit.value c.loop-digit.digit-index c.from-units.result c.args.digits.now (search rules) (search rules) c.loop-digit.invariant.same in
    rw c.from_residual.ensures (λ small. c.in_err-checked_mul.ensures (omega (arith, past)))

pub returns-in_err-value : goal.returns-in_err-value
returns-in_err-value c =
    let past = value_past c.loop-digit.value c.loop-digit.digit-index c.from-units.result c.args.digits.now (search rules) (search rules) c.loop-digit.invariant.same in
    rw c.from_residual-in_err-value.ensures (λ small. c.in_err-value.ensures (omega (arith, past, c.in_ok-checked_mul.ensures)))

pub loop-digit-preserved : goal.loop-digit-preserved
loop-digit-preserved c =
    let more = value_more c.loop-digit.value c.loop-digit.digit-index c.from-units.result c.args.digits.now (search rules) (search rules) c.loop-digit.invariant.same in
    let is : c.in_ok-value.value ≡ 10 * c.loop-digit.value + c.from-units.result = omega (arith, c.in_ok-value.ensures, c.in_ok-checked_mul.ensures) in
    let same : value_behind c.in_ok-value.value (drop (c.loop-digit.digit-index + 1) c.args.digits.now) ≡ value_of c.args.digits.now = rw is more in
    record { small = omega (arith, c.in_ok-value.ensures); same = same }

pub returns : goal.returns
returns c =
    let all = value_all c.loop-digit.value c.loop-digit.digit-index c.args.digits.now (search rules) c.loop-digit.invariant.same in
    (rw (← all) c.loop-digit.invariant.small, all)
