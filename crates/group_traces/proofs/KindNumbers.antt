-- Kinds of accesses are told by their numbers.
use Rattle.std.proofs.Common.{◌≡◌, ℕ, [], ◌∷◌, get_or, refl, sym, ap, ◌∙◌}
use Rattle.clmodel.specs.declared.access.AccessKind.{AccessKind}
use Rattle.clmodel.specs.declared.access.AccessKind.TheVariants as kind
use Rattle.clmodel.specs.declared.access.Class.TheVariants as class
use Rattle.access_list.specs.Kinds.{kind_number}

kind_of : ℕ → AccessKind
kind_of n =
    get_or
    (kind.Update class.Add ∷ kind.Update class.And ∷ kind.Update class.Or ∷ kind.Update class.Xor ∷ kind.Update class.SignedMin ∷ kind.Update class.UnsignedMin ∷ kind.Update class.SignedMax
    ∷ kind.Update class.UnsignedMax ∷ kind.Load ∷ kind.Store ∷ kind.Fetch ∷ []) n kind.Load

kind_back : (k : AccessKind) → kind_of (kind_number k) ≡ k
unfolding kind_of
kind_back kind.Load = refl
kind_back kind.Store = refl
kind_back (kind.Update class.Add) = refl
kind_back (kind.Update class.And) = refl
kind_back (kind.Update class.Or) = refl
kind_back (kind.Update class.Xor) = refl
kind_back (kind.Update class.SignedMin) = refl
kind_back (kind.Update class.UnsignedMin) = refl
kind_back (kind.Update class.SignedMax) = refl
kind_back (kind.Update class.UnsignedMax) = refl
kind_back kind.Fetch = refl

-- kinds of one number are one
pub same_kind : (a b : AccessKind) → kind_number a ≡ kind_number b → a ≡ b
same_kind a b e = sym (kind_back a) ∙ ap kind_of e ∙ kind_back b
