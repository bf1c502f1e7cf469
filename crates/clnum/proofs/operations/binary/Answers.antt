use Rattle.std.proofs.Common.{refl, sym, ap, ap₂, ◌∙◌, ◌+ℤ◌, ◌-ℤ◌, ◌*ℤ◌, not}
use Rattle.std.specs.Prelude.{int_div, int_lt, int_le, bit_and, bit_or, bit_xor}
use Rattle.std.specs.Ordering.{int_eq}
use Rattle.clnum.specs.Integer.{wrap}
use Rattle.clnum.specs.Operations.{binary_value, remainder_of}
use Rattle.clnum.specs.declared.operators.BinaryOperator.TheVariants.{Add, Subtract, Multiply, ShiftLeft, ShiftRight, Less, Greater, LessOrEqual, GreaterOrEqual, Equal, NotEqual, BitAnd, BitXor, BitOr}
use Rattle.clnum.proofs.Ranges.{passed}
use Rattle.clnum.proofs.Formulas.{arithmetic_is, comparison_is, bitwise_is, division_is, ok_is, eq_test, back-add, back-sub, wrap-wrapping_mul, IsWithin-fits, IsIn-back}
use Rattle.clnum.proofs.operations.binary.Goals as goal

pub divide-requires-clause-left : goal.divide-requires-clause-left
divide-requires-clause-left c =
    IsIn-back c.in_common-both.result.kind c.in_common-both.result.left c.in_common-both.ensures.left_within c.in_common-both.ensures.left_in

pub divide-requires-clause-right : goal.divide-requires-clause-right
divide-requires-clause-right c =
    IsIn-back c.in_common-both.result.kind c.in_common-both.result.right c.in_common-both.ensures.right_within c.in_common-both.ensures.right_in

pub remainder-requires-clause-left : goal.remainder-requires-clause-left
remainder-requires-clause-left c =
    IsIn-back c.in_common-both.result.kind c.in_common-both.result.left c.in_common-both.ensures.left_within c.in_common-both.ensures.left_in

pub remainder-requires-clause-right : goal.remainder-requires-clause-right
remainder-requires-clause-right c =
    IsIn-back c.in_common-both.result.kind c.in_common-both.result.right c.in_common-both.ensures.right_within c.in_common-both.ensures.right_in

pub returns-in-Add : goal.returns-in-Add
unfolding binary_value
returns-in-Add c =
    ok_is c.args.operator Add c.args.left c.args.right _ _ c.in-Add.is
    (arithmetic_is (λ x y. x +ℤ y) c.args.left c.args.right c.in_common-both.result.kind c.in_common-both.result.left c.in_common-both.result.right _ _ c.in_common-both.ensures.kind c.in_common-both.ensures.left c.in_common-both.ensures.right
    (ap (wrap c.in_common-both.result.kind) (back-add c.in_common-both.result.left c.in_common-both.result.right c.in_common-both.ensures.left_within c.in_common-both.ensures.right_within)) c.wrapped.ensures)
    refl

pub returns-in-Subtract : goal.returns-in-Subtract
unfolding binary_value
returns-in-Subtract c =
    ok_is c.args.operator Subtract c.args.left c.args.right _ _ c.in-Subtract.is
    (arithmetic_is (λ x y. x -ℤ y) c.args.left c.args.right c.in_common-both.result.kind c.in_common-both.result.left c.in_common-both.result.right _ _ c.in_common-both.ensures.kind c.in_common-both.ensures.left c.in_common-both.ensures.right
    (ap (wrap c.in_common-both.result.kind) (back-sub c.in_common-both.result.left c.in_common-both.result.right c.in_common-both.ensures.left_within c.in_common-both.ensures.right_within)) c.wrapped-in-Subtract.ensures)
    refl

pub returns-in-Multiply : goal.returns-in-Multiply
unfolding binary_value
returns-in-Multiply c =
    ok_is c.args.operator Multiply c.args.left c.args.right _ _ c.in-Multiply.is
    (arithmetic_is (λ x y. x *ℤ y) c.args.left c.args.right c.in_common-both.result.kind c.in_common-both.result.left c.in_common-both.result.right _ _ c.in_common-both.ensures.kind c.in_common-both.ensures.left c.in_common-both.ensures.right
    (wrap-wrapping_mul c.in_common-both.result.kind c.in_common-both.result.left c.in_common-both.result.right (IsWithin-fits _ c.in_common-both.ensures.left_within) (IsWithin-fits _ c.in_common-both.ensures.right_within))
    c.wrapped-in-Multiply.ensures)
    refl

pub returns-in-Divide : goal.returns-in-Divide
unfolding binary_value
returns-in-Divide c =
    division_is int_div c.args.left c.args.right c.in_common-both.result.kind c.in_common-both.result.left c.in_common-both.result.right c.divide.result c.in_common-both.ensures.kind c.in_common-both.ensures.left c.in_common-both.ensures.right c.in_common-both.ensures.left_within c.in_common-both.ensures.right_within c.divide.ensures
    ∙ ap (λ o. binary_value o c.args.left c.args.right) (sym c.in-Divide.is)

pub returns-in-Remainder : goal.returns-in-Remainder
unfolding binary_value
returns-in-Remainder c =
    division_is remainder_of c.args.left c.args.right c.in_common-both.result.kind c.in_common-both.result.left c.in_common-both.result.right c.remainder.result c.in_common-both.ensures.kind c.in_common-both.ensures.left c.in_common-both.ensures.right c.in_common-both.ensures.left_within c.in_common-both.ensures.right_within c.remainder.ensures
    ∙ ap (λ o. binary_value o c.args.left c.args.right) (sym c.in-Remainder.is)

pub returns-in-ShiftLeft : goal.returns-in-ShiftLeft
unfolding binary_value
returns-in-ShiftLeft c =
    ok_is c.args.operator ShiftLeft c.args.left c.args.right _ _ c.in-ShiftLeft.is
    c.shift_left.ensures
    refl

pub returns-in-ShiftRight : goal.returns-in-ShiftRight
unfolding binary_value
returns-in-ShiftRight c =
    ok_is c.args.operator ShiftRight c.args.left c.args.right _ _ c.in-ShiftRight.is
    c.shift_right.ensures
    refl

pub returns-in-Less : goal.returns-in-Less
unfolding binary_value
returns-in-Less c =
    ok_is c.args.operator Less c.args.left c.args.right _ _ c.in-Less.is
    (comparison_is int_lt c.args.left c.args.right c.in_common-both.result.kind c.in_common-both.result.left c.in_common-both.result.right _ _ c.in_common-both.ensures.kind c.in_common-both.ensures.left c.in_common-both.ensures.right
    (ap₂ int_lt (passed c.in_common-both.result.left (IsWithin-fits _ c.in_common-both.ensures.left_within)) (passed c.in_common-both.result.right (IsWithin-fits _ c.in_common-both.ensures.right_within)))
    c.truth.ensures)
    refl

pub returns-in-Greater : goal.returns-in-Greater
unfolding binary_value
returns-in-Greater c =
    ok_is c.args.operator Greater c.args.left c.args.right _ _ c.in-Greater.is
    (comparison_is (λ x y. int_lt y x) c.args.left c.args.right c.in_common-both.result.kind c.in_common-both.result.left c.in_common-both.result.right _ _ c.in_common-both.ensures.kind c.in_common-both.ensures.left c.in_common-both.ensures.right
    (ap₂ int_lt (passed c.in_common-both.result.right (IsWithin-fits _ c.in_common-both.ensures.right_within)) (passed c.in_common-both.result.left (IsWithin-fits _ c.in_common-both.ensures.left_within)))
    c.truth-in-Greater.ensures)
    refl

pub returns-in-LessOrEqual : goal.returns-in-LessOrEqual
unfolding binary_value
returns-in-LessOrEqual c =
    ok_is c.args.operator LessOrEqual c.args.left c.args.right _ _ c.in-LessOrEqual.is
    (comparison_is int_le c.args.left c.args.right c.in_common-both.result.kind c.in_common-both.result.left c.in_common-both.result.right _ _ c.in_common-both.ensures.kind c.in_common-both.ensures.left c.in_common-both.ensures.right
    (ap₂ int_le (passed c.in_common-both.result.left (IsWithin-fits _ c.in_common-both.ensures.left_within)) (passed c.in_common-both.result.right (IsWithin-fits _ c.in_common-both.ensures.right_within)))
    c.truth-in-LessOrEqual.ensures)
    refl

pub returns-in-GreaterOrEqual : goal.returns-in-GreaterOrEqual
unfolding binary_value
returns-in-GreaterOrEqual c =
    ok_is c.args.operator GreaterOrEqual c.args.left c.args.right _ _ c.in-GreaterOrEqual.is
    (comparison_is (λ x y. int_le y x) c.args.left c.args.right c.in_common-both.result.kind c.in_common-both.result.left c.in_common-both.result.right _ _ c.in_common-both.ensures.kind c.in_common-both.ensures.left c.in_common-both.ensures.right
    (ap₂ int_le (passed c.in_common-both.result.right (IsWithin-fits _ c.in_common-both.ensures.right_within)) (passed c.in_common-both.result.left (IsWithin-fits _ c.in_common-both.ensures.left_within)))
    c.truth-in-GreaterOrEqual.ensures)
    refl

pub returns-in-Equal : goal.returns-in-Equal
unfolding binary_value
returns-in-Equal c =
    ok_is c.args.operator Equal c.args.left c.args.right _ _ c.in-Equal.is
    (comparison_is int_eq c.args.left c.args.right c.in_common-both.result.kind c.in_common-both.result.left c.in_common-both.result.right _ _ c.in_common-both.ensures.kind c.in_common-both.ensures.left c.in_common-both.ensures.right
    (eq_test c.in_common-both.result.left c.in_common-both.result.right (IsWithin-fits _ c.in_common-both.ensures.left_within) (IsWithin-fits _ c.in_common-both.ensures.right_within))
    c.truth-in-Equal.ensures)
    refl

pub returns-in-NotEqual : goal.returns-in-NotEqual
unfolding binary_value
returns-in-NotEqual c =
    ok_is c.args.operator NotEqual c.args.left c.args.right _ _ c.in-NotEqual.is
    (comparison_is (λ x y. not (int_eq x y)) c.args.left c.args.right c.in_common-both.result.kind c.in_common-both.result.left c.in_common-both.result.right _ _ c.in_common-both.ensures.kind c.in_common-both.ensures.left c.in_common-both.ensures.right
    (ap not (eq_test c.in_common-both.result.left c.in_common-both.result.right (IsWithin-fits _ c.in_common-both.ensures.left_within) (IsWithin-fits _ c.in_common-both.ensures.right_within)))
    c.truth-in-NotEqual.ensures)
    refl

pub returns-in-BitAnd : goal.returns-in-BitAnd
unfolding binary_value
returns-in-BitAnd c =
    ok_is c.args.operator BitAnd c.args.left c.args.right _ _ c.in-BitAnd.is
    (bitwise_is bit_and c.args.left c.args.right c.in_common-both.result.kind c.in_common-both.result.left c.in_common-both.result.right _ _ _ c.in_common-both.ensures.kind c.in_common-both.ensures.left c.in_common-both.ensures.right c.in_common-both.ensures.left_within c.in_common-both.ensures.right_within
    c.bits_of.ensures.value c.bits_of-in-BitAnd.ensures.value c.from_bits.ensures)
    refl

pub returns-in-BitXor : goal.returns-in-BitXor
unfolding binary_value
returns-in-BitXor c =
    ok_is c.args.operator BitXor c.args.left c.args.right _ _ c.in-BitXor.is
    (bitwise_is bit_xor c.args.left c.args.right c.in_common-both.result.kind c.in_common-both.result.left c.in_common-both.result.right _ _ _ c.in_common-both.ensures.kind c.in_common-both.ensures.left c.in_common-both.ensures.right c.in_common-both.ensures.left_within c.in_common-both.ensures.right_within
    c.bits_of-in-BitXor.ensures.value c.bits_of-in-BitXor-2.ensures.value c.from_bits-in-BitXor.ensures)
    refl

pub returns-in-BitOr : goal.returns-in-BitOr
unfolding binary_value
returns-in-BitOr c =
    ok_is c.args.operator BitOr c.args.left c.args.right _ _ c.in-BitOr.is
    (bitwise_is bit_or c.args.left c.args.right c.in_common-both.result.kind c.in_common-both.result.left c.in_common-both.result.right _ _ _ c.in_common-both.ensures.kind c.in_common-both.ensures.left c.in_common-both.ensures.right c.in_common-both.ensures.left_within c.in_common-both.ensures.right_within
    c.bits_of-in-BitOr.ensures.value c.bits_of-in-BitOr-2.ensures.value c.from_bits-in-BitOr.ensures)
    refl
