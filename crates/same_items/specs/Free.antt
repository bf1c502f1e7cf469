-- What may differ between two runs of code, and how what registers hold is alike then (own).
use Rattle.std.specs.Prelude.{◌≡◌, ℕ, pos, int_div, Bool, true, false, Option, None, Some, List, [], ◌∷◌}
use Rattle.std.specs.Ordering.{int_eq}
use Rattle.clnum.specs.Integer.{Integer, wrap}
use Rattle.clnum.specs.Conversions.{common}
use Rattle.clnum.specs.Operations.{is_in}
use Rattle.clmodel.specs.declared.operand.Operand.{Operand}
use Rattle.clmodel.specs.declared.operand.Operand.TheVariants.{Integral, Pointed}
use Rattle.clmodel.specs.declared.tree.VariableType.{VariableType}
use Rattle.same_items.specs.declared.label.Label.{Label}
use Rattle.same_items.specs.declared.label.Label.TheVariants as label
use Rattle.same_launches.specs.Alike.{Freedom, is_free}

-- What may differ between two runs of code: the bytes of a launch's objects, and of which private arrays, by their
-- numbers. A parameter has a label by its number and its type.
pub record CodeFreedom : Type 0 where
  pub bytes : Freedom
  pub arrays : ℕ → Bool
  pub parameters : ℕ → VariableType → Label

-- no division by a number fails, whatever is divided (C99 6.5.5)
abbrev pub Divides : Integer → Type 0
Divides v =
    (a : Integer)
    → (int_eq (wrap (common a.kind v.kind) v.number) (pos 0) ≡ false)
    × (is_in (common a.kind v.kind) (int_div (wrap (common a.kind v.kind) a.number) (wrap (common a.kind v.kind) v.number)) ≡ true)

-- two values by a label
abbrev pub Matches : CodeFreedom → Label → Operand → Operand → Type 0
Matches w label.Same (Integral v) (Integral u) = v ≡ u
Matches w label.Divisor (Integral v) (Integral u) = (v ≡ u) × Divides v
Matches w label.Free (Integral v) (Integral u) = v.kind ≡ u.kind
Matches w label.ToSame (Pointed p) (Pointed q) = (p ≡ q) × (is_free w.bytes p.object ≡ false)
Matches w label.ToFree (Pointed p) (Pointed q) = (p ≡ q) × (is_free w.bytes p.object ≡ true)
Matches w label.ToAny (Pointed p) (Pointed q) = p ≡ q
Matches w _ _ _ = ⊥

-- what two registers have: both are unset, or both have values that fit the label
abbrev pub AlikeValues : CodeFreedom → Label → Option Operand → Option Operand → Type 0
AlikeValues w l None None = Unit {0}
AlikeValues w l (Some v) (Some u) = Matches w l v u
AlikeValues w l _ _ = ⊥
