-- Sizes of what lies behind a box, and sizes up to the limits.
use Rattle.std.proofs.Common.{◌≡◌, ℕ, ◌*◌, ◌/◌, min, Option, None, Some, refl, ap, ◌∙◌, arith}
use Rattle.std.specs.Prelude.{Box}
use Rattle.std.specs.declared.alloc.Global.{Global}
use Rattle.clnum.specs.Integer.{bits}
use Rattle.clnum.specs.declared.int_type.IntType.{IntType}
use Rattle.clnum.specs.declared.int_type.IntType.TheVariants.{Char, Uchar, Short, Ushort, Int, Uint, Long, Ulong}
use Rattle.clmodel.specs.declared.tree.Expression.{Expression}
use Rattle.clmodel.specs.declared.tree.Statement as rust
use Rattle.clmodel.specs.declared.tree.Statement.{Statement}
use Rattle.clmodel.specs.Tree.{term, stmt, maybe_term}
use Rattle.clmodel.specs.Typing.Sizes.{Sizes, term_size, condition_size, size, beside, one_loop}
use Rattle.cltypes.specs.declared.size.Size.{Size}
use Rattle.cltypes.specs.Limits.{capped, held_size}

pub of_term : {e d : Expression} {s : Size} (table : Sizes) → s ≡ capped (term_size table (term e)) → e ≡ d → s ≡ capped (term_size table (term d))
of_term table h g = h ∙ ap (λ z. capped (term_size table (term z))) g

pub of_statement : {t r : Statement} {s : Size} (table : Sizes) → s ≡ capped (size table (stmt t)) → t ≡ r → s ≡ capped (size table (stmt r))
of_statement table h g = h ∙ ap (λ z. capped (size table (stmt z))) g

-- a `for`, whose first part stands before its loop
pub for_view : (table : Sizes) (at : ℕ) (first third : Option (Box Statement Global)) (condition : Option (Box Expression Global)) (body : Box Statement Global)
    → beside (held_size table first) (one_loop (beside (beside (condition_size table (maybe_term condition)) (held_size table third)) (size table (stmt body.value))))
    ≡ size table (stmt (rust.For at first condition third body))
for_view table at None None condition body = refl
for_view table at None (Some t) condition body = refl
for_view table at (Some s) None condition body = refl
for_view table at (Some s) (Some t) condition body = refl

-- bytes up to a limit, of a number of elements up to it
pub capped_bytes : (t : IntType) (n : ℕ) → min (bits t / 8 * min n 65537) 65537 ≡ min (bits t / 8 * n) 65537
capped_bytes Char n = omega arith
capped_bytes Uchar n = omega arith
capped_bytes Short n = omega arith
capped_bytes Ushort n = omega arith
capped_bytes Int n = omega arith
capped_bytes Uint n = omega arith
capped_bytes Long n = omega arith
capped_bytes Ulong n = omega arith
