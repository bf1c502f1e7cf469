-- Numbers in the range of a type.
use Rattle.std.proofs.Common.{◌≡◌, ℤ, ◌≤ℤ◌, subst, rules}
use Rattle.std.specs.Prelude.{int_le}
use Rattle.std.specs.Bool.{Decides}
use Rattle.std.specs.Ordering.{int_eq}
use Rattle.std.proofs.lemmas.Bool.Decides.{Decides-and, Decides-int_eq, same_from_decides}
use Rattle.clnum.specs.Integer.{IsIn, wrap, least, greatest}
use Rattle.clnum.specs.declared.int_type.IntType.{IntType}
use Rattle.clnum.proofs.Ranges.{IsIn-wrap, wrap-in}
use Rattle.host_commands.specs.Kernels.{is_in_range}

at_most : (a b : ℤ) → Decides (int_le a b) (a ≤ℤ b)
at_most a b = (λ t. search rules, λ h. search rules)

in_range : (kind : IntType) (n : ℤ) → Decides (is_in_range kind n) ((least kind ≤ℤ n) × (n ≤ℤ greatest kind))
in_range kind n = Decides-and (int_le (least kind) n) (int_le n (greatest kind)) (at_most (least kind) n) (at_most n (greatest kind))

-- a number is in the range of a type exactly where wrapping leaves it as it is
pub ranged : (kind : IntType) (n : ℤ) → int_eq (wrap kind n) n ≡ is_in_range kind n
ranged kind n =
    same_from_decides (int_eq (wrap kind n) n) (is_in_range kind n) (Decides-int_eq (wrap kind n) n) (
      λ t. let h = (in_range kind n).0 t in wrap-in kind n (record { from = h.0; to = h.1 }),
      λ e. let h : IsIn kind n = subst (IsIn kind) e (IsIn-wrap kind n) in (in_range kind n).1 (h.from, h.to),
    )
