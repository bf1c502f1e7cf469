use Rattle.std.proofs.Common.{ap, ap₂, refl, sym, subst, ◌∙◌, ◌+ℤ◌, ◌-ℤ◌, ◌*ℤ◌, pos, ◌^◌, not, Ok}
use Rattle.std.specs.Prelude.{bit_and, bit_or, bit_xor, int_div, int_lt, int_le}
use Rattle.std.specs.Int.{int_div_euclid}
use Rattle.std.specs.Ordering.{int_eq}
use Rattle.clnum.specs.Integer.{IsIn, bits, bits_of, residue, wrap}
use Rattle.clnum.specs.Conversions.{common, promoted}
use Rattle.clnum.specs.Operations.{binary_value, truth, divided, remainder_of}
use Rattle.register_values.specs.Words.{word, word_of}
use Rattle.clnum.specs.declared.operators.BinaryOperator.TheVariants.{Add, Subtract, Multiply, ShiftLeft, ShiftRight, Less, Greater, LessOrEqual, GreaterOrEqual, Equal, NotEqual, BitAnd, BitXor, BitOr}
use Rattle.register_values.proofs.WordLemmas.{ok_word, in_common, le_is}
use Rattle.register_values.proofs.operations.binary_word.Goals as goal

pub returns-in-Add : goal.returns-in-Add
unfolding binary_value
returns-in-Add c a b h k =
    ok_word c.args.operator Add a b _ _ c.in-Add.is refl
    (c.added_words.ensures a.number b.number h.same k.same ∙ ap (λ t. word (wrap t (wrap t a.number +ℤ wrap t b.number))) (in_common c.args.left_kind c.args.right_kind a b c.common-kind.result h.typed k.typed c.common-kind.ensures))

pub returns-in-Subtract : goal.returns-in-Subtract
unfolding binary_value
returns-in-Subtract c a b h k =
    ok_word c.args.operator Subtract a b _ _ c.in-Subtract.is refl
    (c.subtracted_words.ensures a.number b.number h.same k.same ∙ ap (λ t. word (wrap t (wrap t a.number -ℤ wrap t b.number))) (in_common c.args.left_kind c.args.right_kind a b c.common-kind.result h.typed k.typed c.common-kind.ensures))

pub returns-in-Multiply : goal.returns-in-Multiply
unfolding binary_value
returns-in-Multiply c a b h k =
    ok_word c.args.operator Multiply a b _ _ c.in-Multiply.is refl
    (c.multiplied_words.ensures a.number b.number h.same k.same ∙ ap (λ t. word (wrap t (wrap t a.number *ℤ wrap t b.number))) (in_common c.args.left_kind c.args.right_kind a b c.common-kind.result h.typed k.typed c.common-kind.ensures))

pub returns-in-BitAnd : goal.returns-in-BitAnd
unfolding binary_value
returns-in-BitAnd c a b h k =
    ok_word c.args.operator BitAnd a b _ _ c.in-BitAnd.is refl
    (c.anded_words.ensures a.number b.number h.same k.same ∙ ap (λ t. word (wrap t (pos (bit_and (bits_of t a.number) (bits_of t b.number))))) (in_common c.args.left_kind c.args.right_kind a b c.common-kind.result h.typed k.typed c.common-kind.ensures))

pub returns-in-BitXor : goal.returns-in-BitXor
unfolding binary_value
returns-in-BitXor c a b h k =
    ok_word c.args.operator BitXor a b _ _ c.in-BitXor.is refl
    (c.xored_words.ensures a.number b.number h.same k.same ∙ ap (λ t. word (wrap t (pos (bit_xor (bits_of t a.number) (bits_of t b.number))))) (in_common c.args.left_kind c.args.right_kind a b c.common-kind.result h.typed k.typed c.common-kind.ensures))

pub returns-in-BitOr : goal.returns-in-BitOr
unfolding binary_value
returns-in-BitOr c a b h k =
    ok_word c.args.operator BitOr a b _ _ c.in-BitOr.is refl
    (c.ored_words.ensures a.number b.number h.same k.same ∙ ap (λ t. word (wrap t (pos (bit_or (bits_of t a.number) (bits_of t b.number))))) (in_common c.args.left_kind c.args.right_kind a b c.common-kind.result h.typed k.typed c.common-kind.ensures))

pub returns-in-ShiftLeft : goal.returns-in-ShiftLeft
unfolding binary_value
returns-in-ShiftLeft c a b h k =
    ok_word c.args.operator ShiftLeft a b _ _ c.in-ShiftLeft.is refl
    (c.shifted_left_word.ensures a.number h.same
    ∙ ap (λ n. word (wrap c.promoted-kind.result (a.number *ℤ pos (2 ^ n)))) (c.count_word.ensures.value b.number k.same)
    ∙ ap (λ t. word (wrap t (a.number *ℤ pos (2 ^ residue (bits t) b.number)))) (c.promoted-kind.ensures ∙ ap promoted h.typed))

pub returns-in-ShiftRight : goal.returns-in-ShiftRight
unfolding binary_value
returns-in-ShiftRight c a b h k =
    ok_word c.args.operator ShiftRight a b _ _ c.in-ShiftRight.is refl
    (c.shifted_right_word.ensures a.number (subst (λ t. IsIn t a.number) (sym h.typed) h.in_range) h.same
    ∙ ap (λ n. word (wrap c.promoted-kind-in-ShiftRight.result (int_div_euclid a.number (pos (2 ^ n))))) (c.count_word-in-ShiftRight.ensures.value b.number k.same)
    ∙ ap (λ t. word (wrap t (int_div_euclid a.number (pos (2 ^ residue (bits t) b.number))))) (c.promoted-kind-in-ShiftRight.ensures ∙ ap promoted h.typed))

pub returns-in-Less : goal.returns-in-Less
unfolding binary_value
returns-in-Less c a b h k =
    ok_word c.args.operator Less a b _ _ c.in-Less.is refl
    (c.truth_word.ensures ∙ ap (λ t. word (truth t).number) ((c.is_less_in.ensures a.number b.number h.same k.same))
    ∙ ap (λ t. word (truth (int_lt (wrap t a.number) (wrap t b.number))).number) (in_common c.args.left_kind c.args.right_kind a b c.common-kind.result h.typed k.typed c.common-kind.ensures))

pub returns-in-Greater : goal.returns-in-Greater
unfolding binary_value
returns-in-Greater c a b h k =
    ok_word c.args.operator Greater a b _ _ c.in-Greater.is refl
    (c.truth_word-in-Greater.ensures ∙ ap (λ t. word (truth t).number) ((c.is_less_in-in-Greater.ensures b.number a.number k.same h.same))
    ∙ ap (λ t. word (truth (int_lt (wrap t b.number) (wrap t a.number))).number) (in_common c.args.left_kind c.args.right_kind a b c.common-kind.result h.typed k.typed c.common-kind.ensures))

pub returns-in-LessOrEqual : goal.returns-in-LessOrEqual
unfolding binary_value
returns-in-LessOrEqual c a b h k =
    ok_word c.args.operator LessOrEqual a b _ _ c.in-LessOrEqual.is refl
    (c.truth_word-in-LessOrEqual.ensures ∙ ap (λ t. word (truth t).number) (ap not (c.is_less_in-in-LessOrEqual.ensures b.number a.number k.same h.same) ∙ le_is (wrap c.common-kind.result a.number) (wrap c.common-kind.result b.number))
    ∙ ap (λ t. word (truth (int_le (wrap t a.number) (wrap t b.number))).number) (in_common c.args.left_kind c.args.right_kind a b c.common-kind.result h.typed k.typed c.common-kind.ensures))

pub returns-in-GreaterOrEqual : goal.returns-in-GreaterOrEqual
unfolding binary_value
returns-in-GreaterOrEqual c a b h k =
    ok_word c.args.operator GreaterOrEqual a b _ _ c.in-GreaterOrEqual.is refl
    (c.truth_word-in-GreaterOrEqual.ensures ∙ ap (λ t. word (truth t).number) (ap not (c.is_less_in-in-GreaterOrEqual.ensures a.number b.number h.same k.same) ∙ le_is (wrap c.common-kind.result b.number) (wrap c.common-kind.result a.number))
    ∙ ap (λ t. word (truth (int_le (wrap t b.number) (wrap t a.number))).number) (in_common c.args.left_kind c.args.right_kind a b c.common-kind.result h.typed k.typed c.common-kind.ensures))

pub returns-in-Equal : goal.returns-in-Equal
unfolding binary_value
returns-in-Equal c a b h k =
    ok_word c.args.operator Equal a b _ _ c.in-Equal.is refl
    (c.truth_word-in-Equal.ensures ∙ ap (λ t. word (truth t).number) ((c.is_same_in.ensures a.number b.number h.same k.same))
    ∙ ap (λ t. word (truth (int_eq (wrap t a.number) (wrap t b.number))).number) (in_common c.args.left_kind c.args.right_kind a b c.common-kind.result h.typed k.typed c.common-kind.ensures))

pub returns-in-NotEqual : goal.returns-in-NotEqual
unfolding binary_value
returns-in-NotEqual c a b h k =
    ok_word c.args.operator NotEqual a b _ _ c.in-NotEqual.is refl
    (c.truth_word-in-NotEqual.ensures ∙ ap (λ t. word (truth t).number) (ap not (c.is_same_in-in-NotEqual.ensures a.number b.number h.same k.same))
    ∙ ap (λ t. word (truth (not (int_eq (wrap t a.number) (wrap t b.number)))).number) (in_common c.args.left_kind c.args.right_kind a b c.common-kind.result h.typed k.typed c.common-kind.ensures))

pub returns-in-Divide : goal.returns-in-Divide
unfolding binary_value
returns-in-Divide c a b h k =
    c.divided_words.ensures a.number b.number h.same k.same
    ∙ ap (λ t. word_of (divided int_div t (wrap t a.number) (wrap t b.number))) (in_common c.args.left_kind c.args.right_kind a b c.common-kind.result h.typed k.typed c.common-kind.ensures)
    ∙ ap (λ o. word_of (binary_value o a b)) (sym c.in-Divide.is)

pub returns-in-Remainder : goal.returns-in-Remainder
unfolding binary_value
returns-in-Remainder c a b h k =
    c.remainder_words.ensures a.number b.number h.same k.same
    ∙ ap (λ t. word_of (divided remainder_of t (wrap t a.number) (wrap t b.number))) (in_common c.args.left_kind c.args.right_kind a b c.common-kind.result h.typed k.typed c.common-kind.ensures)
    ∙ ap (λ o. word_of (binary_value o a b)) (sym c.in-Remainder.is)
