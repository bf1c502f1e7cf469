-- Names that are free, and names that scopes have.
use Rattle.std.proofs.Common.{◌≡◌, ℕ, unwrap_or, Bool, true, false, not, ◌&&◌, Option, None, Some, is_some, refl, sym, ap, ◌∙◌, true≢false, List, [], ◌∷◌, map, cond}
use Rattle.std.specs.List.{find}
use Rattle.std.specs.Option.{option_or}
use Rattle.clmodel.specs.declared.declaration.Declaration.{Declaration}
use Rattle.clmodel.specs.Typing.Context.{Context, Scope, declared, variable, is_free, is_reserved, among}

middle : (a b d : Bool) → (a && b && d) ≡ true → b ≡ true
middle true true d h = refl
middle true false d h = h
middle false true d h = refl
middle false false d h = h

none_of : {A : Type 0} (o : Option A) → not (is_some o) ≡ true → o ≡ None
none_of None h = refl
none_of (Some a) h = absurd (true≢false (sym h))

pub undeclared : (c : Context) (x : ℕ) → is_free c x ≡ true → declared c.inner x ≡ None
undeclared c x h = none_of (declared c.inner x) (middle (not (is_reserved x)) (not (is_some (declared c.inner x))) (not (among x c.all)) h)

module _ {M : Type 0} (entries : M → Scope) (x : ℕ) where
  abbrev pub holds : M → Bool
  holds m = is_some (declared (entries m) x)

  held_from : (n m : M) (ms : List M) (o : Option Declaration) → declared (entries n) x ≡ o → (find holds ms ≡ Some m → variable (map entries ms) x ≡ declared (entries m) x)
      → cond (is_some o) (Some n) (find holds ms) ≡ Some m → option_or o (variable (map entries ms) x) ≡ declared (entries m) x
  held_from n m ms None e others h = others h
  held_from n m ms (Some k) e others h = sym e ∙ ap (λ r. declared (entries (unwrap_or r n)) x) h

  pub held : (ms : List M) (m : M) → find holds ms ≡ Some m → variable (map entries ms) x ≡ declared (entries m) x
  held [] m h = absurd (true≢false (ap is_some (sym h)))
  held (n ∷ ms) m h = held_from n m ms (declared (entries n) x) refl (held ms m) h

  unheld_from : (n : M) (ms : List M) (o : Option Declaration) → (find holds ms ≡ None → variable (map entries ms) x ≡ None)
      → cond (is_some o) (Some n) (find holds ms) ≡ None → option_or o (variable (map entries ms) x) ≡ None
  unheld_from n ms None others h = others h
  unheld_from n ms (Some k) others h = absurd (true≢false (ap is_some h))

  pub unheld : (ms : List M) → find holds ms ≡ None → variable (map entries ms) x ≡ None
  unheld [] h = refl
  unheld (n ∷ ms) h = unheld_from n ms (declared (entries n) x) (unheld ms) h
