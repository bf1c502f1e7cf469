-- What the operators on integers give (OpenCL 1.2, 6.3): a formula over whole numbers, followed by `wrap`, or a fault
-- of division.
use Rattle.std.specs.Prelude.{ℕ, ◌^◌, ℤ, pos, negsuc, ◌+ℤ◌, ◌-ℤ◌, ◌*ℤ◌, int_div, int_le, int_lt, Bool, not, ◌&&◌, bit_and, bit_or, bit_xor, if◌then◌else◌, Result, Ok, Err}
use Rattle.std.specs.Int.{int_div_euclid}
use Rattle.std.specs.Ordering.{int_eq}
use Rattle.clnum.specs.Integer.{Integer, bits, least, greatest, residue, bits_of, wrap}
use Rattle.clnum.specs.Conversions.{promoted, common}
use Rattle.clnum.specs.declared.int_type.IntType.{IntType}
use Rattle.clnum.specs.declared.int_type.IntType.TheVariants.{Int}
use Rattle.clnum.specs.declared.operators.ArithFault.{ArithFault}
use Rattle.clnum.specs.declared.operators.ArithFault.TheVariants.{DivideByZero, DivideOverflow}
use Rattle.clnum.specs.declared.operators.BinaryOperator.{BinaryOperator}
use Rattle.clnum.specs.declared.operators.BinaryOperator.TheVariants.{Add, Subtract, Multiply, Divide, Remainder, ShiftLeft, ShiftRight, Less, Greater, LessOrEqual, GreaterOrEqual, Equal, NotEqual, BitAnd, BitXor, BitOr}
use Rattle.clnum.specs.declared.operators.UnaryOperator.{UnaryOperator}
use Rattle.clnum.specs.declared.operators.UnaryOperator.TheVariants.{Plus, Negate, Complement, Not}

-- a whole number wrapped to a type
abbrev pub wrapped : IntType → ℤ → Integer
wrapped kind number = record { kind = kind; number = wrap kind number }

-- the int 1 where a test holds, and else the int 0
abbrev pub truth : Bool → Integer
truth holds = record { kind = Int; number = if holds then pos 1 else pos 0 }

-- `+a`, `-a`, `~a` and `!a`, of which the first three promote (6.3.b, 6.3.f, 6.3.h)
unfoldable pub unary_value : UnaryOperator → Integer → Integer
unary_value Plus a = wrapped (promoted a.kind) a.number
unary_value Negate a = wrapped (promoted a.kind) (pos 0 -ℤ a.number)
unary_value Complement a = wrapped (promoted a.kind) (negsuc 0 -ℤ a.number)
unary_value Not a = truth (int_eq a.number (pos 0))

-- a formula on the two numbers in their common type
abbrev pub arithmetic : (ℤ → ℤ → ℤ) → Integer → Integer → Integer
arithmetic formula a b = let kind = common a.kind b.kind in wrapped kind (formula (wrap kind a.number) (wrap kind b.number))

-- a test of the two numbers in their common type
abbrev pub comparison : (ℤ → ℤ → Bool) → Integer → Integer → Integer
comparison test a b = let kind = common a.kind b.kind in truth (test (wrap kind a.number) (wrap kind b.number))

-- a formula on the bits of the two numbers in their common type
abbrev pub bitwise : (ℕ → ℕ → ℕ) → Integer → Integer → Integer
bitwise formula a b = let kind = common a.kind b.kind in wrapped kind (pos (formula (bits_of kind a.number) (bits_of kind b.number)))

-- a formula on a number and a power of two, whose exponent is the count modulo the width of the promoted left operand
-- (6.3.j)
abbrev pub shift : (ℤ → ℕ → ℤ) → Integer → Integer → Integer
shift formula a count = let kind = promoted a.kind in wrapped kind (formula a.number (2 ^ residue (bits kind) count.number))

-- a number lies in a type's range
abbrev pub is_in : IntType → ℤ → Bool
is_in kind number = int_le (least kind) number && int_le number (greatest kind)

-- a formula on two numbers that can be divided in their type: the divisor is not zero, and the quotient is in range
abbrev pub divided : (ℤ → ℤ → ℤ) → IntType → ℤ → ℤ → Result Integer ArithFault
divided formula kind x y =
    if int_eq y (pos 0) then Err DivideByZero
    else (if is_in kind (int_div x y) then Ok (wrapped kind (formula x y)) else Err DivideOverflow)

-- what a quotient rounded toward zero leaves
abbrev pub remainder_of : ℤ → ℤ → ℤ
remainder_of x y = x -ℤ (int_div x y *ℤ y)

abbrev pub division : (ℤ → ℤ → ℤ) → Integer → Integer → Result Integer ArithFault
division formula a b = let kind = common a.kind b.kind in divided formula kind (wrap kind a.number) (wrap kind b.number)

-- the operators on two numbers (6.3.a, 6.3.d to 6.3.f and 6.3.j); `int_div` rounds toward zero, `int_div_euclid` by a
-- power of two rounds down
unfoldable pub binary_value : BinaryOperator → Integer → Integer → Result Integer ArithFault
binary_value Add a b = Ok (arithmetic (λ x y. x +ℤ y) a b)
binary_value Subtract a b = Ok (arithmetic (λ x y. x -ℤ y) a b)
binary_value Multiply a b = Ok (arithmetic (λ x y. x *ℤ y) a b)
binary_value Divide a b = division int_div a b
binary_value Remainder a b = division remainder_of a b
binary_value ShiftLeft a b = Ok (shift (λ x power. x *ℤ pos power) a b)
binary_value ShiftRight a b = Ok (shift (λ x power. int_div_euclid x (pos power)) a b)
binary_value Less a b = Ok (comparison int_lt a b)
binary_value Greater a b = Ok (comparison (λ x y. int_lt y x) a b)
binary_value LessOrEqual a b = Ok (comparison int_le a b)
binary_value GreaterOrEqual a b = Ok (comparison (λ x y. int_le y x) a b)
binary_value Equal a b = Ok (comparison int_eq a b)
binary_value NotEqual a b = Ok (comparison (λ x y. not (int_eq x y)) a b)
binary_value BitAnd a b = Ok (bitwise bit_and a b)
binary_value BitXor a b = Ok (bitwise bit_xor a b)
binary_value BitOr a b = Ok (bitwise bit_or a b)

-- the type of an operator's result
unfoldable pub unary_kind : UnaryOperator → IntType → IntType
unary_kind Plus kind = promoted kind
unary_kind Negate kind = promoted kind
unary_kind Complement kind = promoted kind
unary_kind Not kind = Int

unfoldable pub binary_kind : BinaryOperator → IntType → IntType → IntType
binary_kind Add a b = common a b
binary_kind Subtract a b = common a b
binary_kind Multiply a b = common a b
binary_kind Divide a b = common a b
binary_kind Remainder a b = common a b
binary_kind ShiftLeft a b = promoted a
binary_kind ShiftRight a b = promoted a
binary_kind Less a b = Int
binary_kind Greater a b = Int
binary_kind LessOrEqual a b = Int
binary_kind GreaterOrEqual a b = Int
binary_kind Equal a b = Int
binary_kind NotEqual a b = Int
binary_kind BitAnd a b = common a b
binary_kind BitXor a b = common a b
binary_kind BitOr a b = common a b
