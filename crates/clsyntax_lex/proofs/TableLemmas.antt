-- The table of names has what it should, and nothing else.
use Rattle.std.proofs.Common.{◌≡◌, ℕ, suc, ◌+◌, ◌⊎◌, inl, inr, Bool, true, false, ◌||◌, ◌&&◌, not, List, [], ◌∷◌, ◌++◌, refl, arith, sym, ◌∙◌, cond, ap, subst, Some, append_assoc, append-nil}
use Rattle.std.specs.Prelude.{bytes_eq}
use Rattle.std.specs.List.{list_any, list_all, slice_get, IsDistinct, AllByRecursion}
use Rattle.std.proofs.lemmas.Bool.Decides.{Decides-eqb}
use Rattle.std.proofs.lemmas.Slice.Eq.{slice_eq-Decides}
use Rattle.clsyntax_lex.specs.Words.{built_in_names}
use Rattle.clsyntax_lex.specs.Lexing.{Lexeme, Named, Plain, Placed, place, with_name, with_names}
use Rattle.clsyntax_lex.specs.Spelling.{HasText, HasName, IsNameTable}
use Rattle.clsyntax_lex.proofs.FitLemmas.{both}
use Rattle.clsyntax_lex.proofs.NameLemmas.{found-with_text, Keeps-with_names}

-- a text that is found stands at its place
slice_get-place : (names : List (List ℕ)) (text : List ℕ) → list_any (bytes_eq text) names ≡ true → slice_get names (place names text) ≡ Some text
slice_get-place [] text found = cc
slice_get-place (name ∷ names) text found = by (bytes_eq text name) refl (slice_get-place names text) found
  where
    by : (b : Bool) → bytes_eq text name ≡ b → (list_any (bytes_eq text) names ≡ true → slice_get names (place names text) ≡ Some text)
        → b || list_any (bytes_eq text) names ≡ true → slice_get (name ∷ names) (cond (not b) (1 + place names text) 0) ≡ Some text
    by true e others h = ap Some (sym ((slice_eq-Decides Decides-eqb text name (bytes_eq text name) refl).0 e))
    by false e others h = ap (slice_get (name ∷ names)) (let s : 1 + place names text ≡ suc (place names text) = omega arith in s) ∙ others h

-- all that stands behind the table so far
grows : (names : List (List ℕ)) (ps : List Placed) → (others : List (List ℕ)) × (with_names names ps ≡ names ++ others)
unfolding with_names
grows names [] = ([], sym (append-nil names))
grows names (p ∷ ps) = by p.lexeme (λ table. grows table ps)
  where
    by_text : (text : List ℕ) → ((table : List (List ℕ)) → (others : List (List ℕ)) × (with_names table ps ≡ table ++ others))
        → (b : Bool) → (others : List (List ℕ)) × (with_names (cond b names (names ++ text ∷ [])) ps ≡ names ++ others)
    by_text text more true = more names
    by_text text more false = let r = more (names ++ text ∷ []) in (text ∷ r.0, r.1 ∙ append_assoc names (text ∷ []) r.0)

    by : (lexeme : Lexeme) → ((table : List (List ℕ)) → (others : List (List ℕ)) × (with_names table ps ≡ table ++ others))
        → (others : List (List ℕ)) × (with_names (with_name names lexeme) ps ≡ names ++ others)
    by (Named text) more = by_text text more (list_any (bytes_eq text) names)
    by (Plain kind) more = more names

HasText-push : (names : List (List ℕ)) (x text : List ℕ) → HasText (names ++ x ∷ []) text → HasText names text ⊎ (x ≡ text)
HasText-push [] x text (inl e) = inr e
HasText-push [] x text (inr h) = absurd h
HasText-push (name ∷ names) x text (inl e) = inl (inl e)
HasText-push (name ∷ names) x text (inr h) = elim (HasText-push names x text h) [ inl k ↦ inl (inr k) | inr e ↦ inr e ]

no_other : (names : List (List ℕ)) (ps : List Placed) (text : List ℕ) → HasText (with_names names ps) text → HasText names text ⊎ HasName ps text
unfolding with_names
no_other names [] text has = inl has
no_other names (p ∷ ps) text has = by p.lexeme refl (no_other (with_name names p.lexeme) ps text has)
  where
    by_text : (name : List ℕ) → p.lexeme ≡ Named name → (b : Bool) → HasText (cond b names (names ++ name ∷ [])) text ⊎ HasName ps text → HasText names text ⊎ HasName (p ∷ ps) text
    by_text name is b (inr later) = inr (inr later)
    by_text name is true (inl old) = inl old
    by_text name is false (inl pushed) = elim (HasText-push names name text pushed) [ inl old ↦ inl old | inr e ↦ inr (inl (is ∙ ap Named e)) ]

    by : (lexeme : Lexeme) → p.lexeme ≡ lexeme → HasText (with_name names lexeme) text ⊎ HasName ps text → HasText names text ⊎ HasName (p ∷ ps) text
    by (Named name) is more = by_text name is (list_any (bytes_eq name) names) more
    by (Plain kind) is (inl old) = inl old
    by (Plain kind) is (inr later) = inr (inr later)

found : (names : List (List ℕ)) (ps : List Placed) (text : List ℕ) → HasName ps text → list_any (bytes_eq text) (with_names names ps) ≡ true
unfolding with_names
found names [] text has = absurd has
found names (p ∷ ps) text (inl is) =
    let here : list_any (bytes_eq text) (with_name names p.lexeme) ≡ true = subst (λ lexeme. list_any (bytes_eq text) (with_name names lexeme) ≡ true) (sym is) (found-with_text text names) in
    (Keeps-with_names text (with_name names p.lexeme) ps here).found
found names (p ∷ ps) text (inr later) = found (with_name names p.lexeme) ps text later

-- no text stands in the table twice
is_distinct : List (List ℕ) → Bool
is_distinct [] = true
is_distinct (name ∷ names) = list_all (λ other. not (bytes_eq name other)) names && is_distinct names

differ : (name : List ℕ) (names : List (List ℕ)) → list_all (λ other. not (bytes_eq name other)) names ≡ true → AllByRecursion (λ other. bytes_eq name other ≡ false) names
differ name [] all = tt
differ name (other ∷ names) all = (not_true (bytes_eq name other) (both (not (bytes_eq name other)) (list_all (λ other. not (bytes_eq name other)) names) all).0, differ name names (both (not (bytes_eq name other)) (list_all (λ other. not (bytes_eq name other)) names) all).1)
  where
    not_true : (b : Bool) → not b ≡ true → b ≡ false
    not_true true e = cc
    not_true false e = refl

IsDistinct-test : (names : List (List ℕ)) → is_distinct names ≡ true → IsDistinct bytes_eq names
unfolding is_distinct IsDistinct
IsDistinct-test [] e = tt
IsDistinct-test (name ∷ names) e = (differ name names (both _ _ e).0, IsDistinct-test names (both _ _ e).1)

built_in_distinct : IsDistinct bytes_eq built_in_names
unfolding is_distinct
built_in_distinct = IsDistinct-test built_in_names refl

bytes_eq_comm : (a b : List ℕ) → bytes_eq a b ≡ false → bytes_eq b a ≡ false
bytes_eq_comm a b e = by (bytes_eq b a) refl
  where
    by : (c : Bool) → bytes_eq b a ≡ c → bytes_eq b a ≡ false
    by true equal =
        let same : b ≡ a = (slice_eq-Decides Decides-eqb b a (bytes_eq b a) refl).0 equal in
        let again : bytes_eq a b ≡ true = (slice_eq-Decides Decides-eqb a b (bytes_eq a b) refl).1 (sym same) in cc
    by false other = other

differ-push : (name x : List ℕ) (names : List (List ℕ)) → bytes_eq name x ≡ false → AllByRecursion (λ other. bytes_eq name other ≡ false) names → AllByRecursion (λ other. bytes_eq name other ≡ false) (names ++ x ∷ [])
differ-push name x [] e all = (e, tt)
differ-push name x (other ∷ names) e all = (all.0, differ-push name x names e all.1)

or_false : (a b : Bool) → a || b ≡ false → (a ≡ false) × (b ≡ false)
or_false true b e = cc
or_false false b e = (refl, e)

IsDistinct-push : (names : List (List ℕ)) (x : List ℕ) → list_any (bytes_eq x) names ≡ false → IsDistinct bytes_eq names → IsDistinct bytes_eq (names ++ x ∷ [])
unfolding IsDistinct
IsDistinct-push [] x new all = (tt, tt)
IsDistinct-push (name ∷ names) x new all =
    (differ-push name x names (bytes_eq_comm x name (or_false (bytes_eq x name) (list_any (bytes_eq x) names) new).0) all.0, IsDistinct-push names x (or_false (bytes_eq x name) (list_any (bytes_eq x) names) new).1 all.1)

distinct : (names : List (List ℕ)) (ps : List Placed) → IsDistinct bytes_eq names → IsDistinct bytes_eq (with_names names ps)
unfolding with_names
distinct names [] all = all
distinct names (p ∷ ps) all = distinct (with_name names p.lexeme) ps (by p.lexeme)
  where
    by_text : (text : List ℕ) (b : Bool) → list_any (bytes_eq text) names ≡ b → IsDistinct bytes_eq (cond b names (names ++ text ∷ []))
    by_text text true e = all
    by_text text false e = IsDistinct-push names text e all

    by : (lexeme : Lexeme) → IsDistinct bytes_eq (with_name names lexeme)
    by (Named text) = by_text text (list_any (bytes_eq text) names) refl
    by (Plain kind) = all

pub with_names-IsNameTable : (ps : List Placed) → IsNameTable (with_names built_in_names ps) ps
with_names-IsNameTable ps = record {
  begins = grows built_in_names ps;
  distinct = distinct built_in_names ps built_in_distinct;
  numbered = λ text has. slice_get-place (with_names built_in_names ps) text (found built_in_names ps text has);
  no_other = no_other built_in_names ps;
}
