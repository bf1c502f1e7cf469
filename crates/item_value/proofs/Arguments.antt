-- The arguments of a kernel.
use Rattle.std.proofs.Common.{◌≡◌, ℕ, zero, suc, ◌<◌, ◌≤◌, Option, None, List, [], ◌∷◌, length, map, get_or, refl, sym, ap, ◌∙◌, arith}
use Rattle.clmodel.specs.Next.{content}
use Rattle.clmodel.specs.declared.operand.Operand.{Operand}
use Rattle.clmodel.specs.declared.setup.Argument.{Argument}
use Rattle.clmodel.specs.declared.tree.VariableType.{VariableType}
use Rattle.clmodel.specs.declared.tree.VariableType.TheVariants.{Integer, Pointer}
use Rattle.regcode.specs.Machine.{argument_at}
use Rattle.item_value.specs.Arguments.{buffer_place}

content_none : (buffers : List (List ℕ)) (place : ℕ) (kind : VariableType) → content buffers place kind None ≡ None
content_none buffers place (Integer t) = refl
content_none buffers place (Pointer p) = refl

at_place : (arguments : List (Option Argument)) (i : ℕ) (d : Option Argument) → i < length arguments → argument_at arguments i ≡ get_or arguments i d
at_place [] i d h = absurd (omega arith)
at_place (v ∷ arguments) zero d h = refl
at_place (v ∷ arguments) (suc i) d h = at_place arguments i d (omega arith)

past_all : (arguments : List (Option Argument)) (i : ℕ) → length arguments ≤ i → argument_at arguments i ≡ None
past_all [] i h = refl
past_all (v ∷ arguments) zero h = absurd (omega arith)
past_all (v ∷ arguments) (suc i) h = past_all arguments i (omega arith)

pub content_here : (buffers : List (List ℕ)) (kind : VariableType) (arguments : List (Option Argument)) (i : ℕ) (a : Option Argument) (c : Option Operand)
    → i < length arguments → a ≡ get_or arguments i a → c ≡ content buffers i kind a → c ≡ content buffers i kind (argument_at arguments i)
content_here buffers kind arguments i a c h is e = e ∙ ap (content buffers i kind) (is ∙ sym (at_place arguments i a h))

pub content_past : (buffers : List (List ℕ)) (kind : VariableType) (arguments : List (Option Argument)) (i : ℕ) → length arguments ≤ i → None ≡ content buffers i kind (argument_at arguments i)
content_past buffers kind arguments i h = sym (ap (content buffers i kind) (past_all arguments i h) ∙ content_none buffers i kind)

mapped_at : {A B : Type 0} (f : A → B) (xs : List A) (i : ℕ) (a : A) (d : B) → i < length xs → a ≡ get_or xs i a → get_or (map f xs) i d ≡ f a
mapped_at f [] i a d h is = absurd (omega (arith, h))
mapped_at f (x ∷ xs) zero a d h is = ap f (sym is)
mapped_at f (x ∷ xs) (suc i) a d h is = mapped_at f xs i a d (omega (arith, h)) is

-- the place of the buffer that the argument of a number names, in the table of all
pub place_here : (buffers : List (List ℕ)) (arguments : List (Option Argument)) (places : List ℕ) (i : ℕ) (a : Option Argument) (d : ℕ) → places ≡ map (buffer_place buffers) arguments
    → i < length arguments → a ≡ get_or arguments i a → get_or places i d ≡ buffer_place buffers a
place_here buffers arguments places i a d placed h is = ap (λ ps. get_or ps i d) placed ∙ mapped_at (buffer_place buffers) arguments i a d h is
