use Rattle.std.proofs.Common.{◌≡◌, ◌<◌, ◌^◌, ◌%◌, bit_and, bit_or, refl, sym, arith, rules}
use Rattle.std.proofs.Math.Nat.{mod-eq_of_lt}
use Rattle.std.specs.Prelude.{bit_xor}
use Rattle.std.proofs.lemmas.Nat.{and_le_l, or_of_32, xor_of_32}
use Rattle.clmodel.specs.Cells.{updated_word}
use Rattle.spaces.proofs.cells.updated_word.Goals as goal

pub returns-in-Add : goal.returns-in-Add
unfolding updated_word
returns-in-Add c = rw c.in-Add.is refl

pub returns-in-And : goal.returns-in-And
unfolding updated_word
returns-in-And c =
    let h : bit_and c.args.x c.args.operand < 2 ^ 32 = omega (arith, and_le_l c.args.x c.args.operand, c.ranges.x) in
    rw c.in-And.is (sym (mod-eq_of_lt h))

pub returns-in-Or : goal.returns-in-Or
unfolding updated_word
returns-in-Or c =
    let h : bit_or c.args.x c.args.operand < 2 ^ 32 = or_of_32 c.args.x c.args.operand (search rules) (search rules) in
    rw c.in-Or.is (sym (mod-eq_of_lt h))

pub returns-in-Xor : goal.returns-in-Xor
unfolding updated_word
returns-in-Xor c =
    let h : bit_xor c.args.x c.args.operand < 2 ^ 32 = xor_of_32 c.args.x c.args.operand (search rules) (search rules) in
    rw c.in-Xor.is (sym (mod-eq_of_lt h))

pub returns-in-SignedMin : goal.returns-in-SignedMin
unfolding updated_word
returns-in-SignedMin c =
    rw (c.in-SignedMin.is, c.signed_place-in-SignedMin-2.ensures, c.min.ensures, c.signed_place.ensures, c.signed_place-in-SignedMin.ensures) refl

pub returns-in-UnsignedMin : goal.returns-in-UnsignedMin
unfolding updated_word
returns-in-UnsignedMin c =
    let h : c.args.x % 2 ^ 32 ≡ c.args.x = mod-eq_of_lt (search rules) in
    let k : c.args.operand % 2 ^ 32 ≡ c.args.operand = mod-eq_of_lt (search rules) in
    rw (c.in-UnsignedMin.is, h, k) c.min-in-UnsignedMin.ensures

pub returns-in-SignedMax : goal.returns-in-SignedMax
unfolding updated_word
returns-in-SignedMax c =
    rw (c.in-SignedMax.is, c.signed_place-in-SignedMax-3.ensures, c.max.ensures, c.signed_place-in-SignedMax.ensures, c.signed_place-in-SignedMax-2.ensures) refl

pub returns-in-UnsignedMax : goal.returns-in-UnsignedMax
unfolding updated_word
returns-in-UnsignedMax c =
    let h : c.args.x % 2 ^ 32 ≡ c.args.x = mod-eq_of_lt (search rules) in
    let k : c.args.operand % 2 ^ 32 ≡ c.args.operand = mod-eq_of_lt (search rules) in
    rw (c.in-UnsignedMax.is, h, k) c.max-in-UnsignedMax.ensures
