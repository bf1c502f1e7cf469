-- The functions before a place, as they are kept and as they are seen.
use Rattle.std.proofs.Common.{◌≡◌, ℕ, nat_eq, Bool, true, false, not, ◌&&◌, List, [], ◌∷◌, ◌++◌, map, Option, None, Some, is_some, if◌then◌else◌, refl, sym, ap, ◌∙◌, arith}
use Rattle.std.proofs.lemmas.Bool.Decides.{nat_tests}
use Rattle.std.proofs.lemmas.List.{map-append}
use Rattle.std.proofs.lemmas.Map.Made.{lookup-map_values}
use Rattle.std.specs.Map.{lookup}
use Rattle.std.specs.Option.{option_map}
use Rattle.clmodel.specs.Barrier.{is_barrier}
use Rattle.clmodel.specs.BuiltIns.{built_in}
use Rattle.clmodel.specs.Typing.Context as typing
use Rattle.clmodel.specs.Typing.Context.{Context, Current, called, function_meaning}
use Rattle.cltypes_scope.specs.declared.meaning.Signature.{Signature}
use Rattle.cltypes_scope.specs.Names.{signature_of, no_signature, ended}

abbrev pub seen : List (ℕ × Signature) → List (ℕ × typing.Signature)
seen es = map (λ e. (e.0, signature_of e.1)) es

differs : (m n : ℕ) → (m ≡ n → ⊥) → nat_eq m n ≡ false
differs m n h = grind (arith, nat_tests)

-- what a name stands for that isn't this function's
pub meaning_there : (c : Context) (x : ℕ) (es : List (ℕ × Signature)) (s : Option Signature) → (x ≡ c.current → ⊥) → c.before ≡ seen es → lookup (nat_eq x) es ≡ s
    → function_meaning c x ≡ called (option_map signature_of s) (built_in x) (is_barrier x)
meaning_there c x es s h e l =
    ap (λ b. if b then Current c.signature else called (typing.signature_of c.before x) (built_in x) (is_barrier x)) (differs x c.current h)
    ∙ ap (λ z. called (typing.signature_of z x) (built_in x) (is_barrier x)) e
    ∙ ap (λ z. called z (built_in x) (is_barrier x)) (lookup-map_values signature_of (nat_eq x) es ∙ ap (option_map signature_of) l)

is_some_seen : (o : Option Signature) → is_some (option_map signature_of o) ≡ is_some o
is_some_seen None = refl
is_some_seen (Some s) = refl

pub is_before : (c : Context) (x : ℕ) (es : List (ℕ × Signature)) → c.before ≡ seen es → is_some (typing.signature_of c.before x) ≡ is_some (lookup (nat_eq x) es)
is_before c x es e =
    ap (λ z. is_some (typing.signature_of z x)) e ∙ ap is_some (lookup-map_values signature_of (nat_eq x) es) ∙ is_some_seen (lookup (nat_eq x) es)

none_seen : (o : Option Signature) → option_map signature_of o ≡ None → o ≡ None
none_seen None h = refl
none_seen (Some s) h = absurd (cc)

pub not_before : (c : Context) (x : ℕ) (es : List (ℕ × Signature)) → c.before ≡ seen es → typing.signature_of c.before x ≡ None → lookup (nat_eq x) es ≡ None
not_before c x es e h =
    none_seen (lookup (nat_eq x) es) (sym (lookup-map_values signature_of (nat_eq x) es) ∙ ap (λ z. typing.signature_of z x) (sym e) ∙ h)

pub seen_more : (es gs : List (ℕ × Signature)) (x : ℕ) (s r : Signature) → gs ≡ es ++ (x, s) ∷ [] → s ≡ r → seen gs ≡ seen es ++ (x, signature_of r) ∷ []
seen_more es gs x s r g e =
    ap seen g ∙ map-append (λ (f : ℕ × Signature). (f.0, signature_of f.1)) es ((x, s) ∷ []) ∙ ap (λ z. seen es ++ (x, signature_of z) ∷ []) e

pub ended_as : (c : Context) (before : List (ℕ × typing.Signature)) (s : typing.Signature) → before ≡ c.before ++ (c.current, c.signature) ∷ [] → s ≡ no_signature
    → (record c { before = before; signature = s }) ≡ ended c
ended_as c before s p q = rw (p, q) refl

pub new_as : (reserved is_reserved known is_known : Bool) → reserved ≡ is_reserved → reserved ≡ false → known ≡ is_known → not known ≡ (not is_reserved && not is_known)
new_as true _ known _ p h q = absurd (cc)
new_as false _ known _ p h q = rw (← p, q) refl
