-- The table of names: its texts, its numbers, and more names behind them.
use Rattle.std.proofs.Common.{◌≡◌, ℕ, ◌<◌, ◌≤◌, ◌+◌, Bool, true, false, ◌||◌, not, List, [], ◌∷◌, ◌++◌, map, length, take, get_or, refl, arith, sym, ◌∙◌, cond, ap, subst, Bor, length-append}
use Rattle.std.specs.Prelude.{bytes_eq, fold}
use Rattle.std.proofs.lemmas.List.Sums.{fold_more}
use Rattle.std.specs.List.{list_any, position_or_len}
use Rattle.std.proofs.lemmas.List.{map-append}
use Rattle.std.proofs.lemmas.Bool.Decides.{Decides-eqb}
use Rattle.std.proofs.lemmas.Slice.Eq.{slice_eq-Decides}
use Rattle.indexmap.specs.IndexSet.{insert_key}
use Rattle.clmodel.specs.declared.setup.Predefined.{Predefined}
use Rattle.clsyntax_lex.specs.Lexing.{Lexeme, Named, Plain, Placed, place, with_text, with_name, with_names}

-- the texts of keys that are references
abbrev pub texts : List (Bor (List ℕ)) → List (List ℕ)
texts keys = map (λ key. key.now) keys

pub list_any-texts : (t : List ℕ) (keys : List (Bor (List ℕ))) → list_any (λ key. bytes_eq t key.now) keys ≡ list_any (bytes_eq t) (texts keys)
list_any-texts t [] = refl
list_any-texts t (key ∷ keys) = ap (λ b. bytes_eq t key.now || b) (list_any-texts t keys)

pub place-texts : (t : List ℕ) (keys : List (Bor (List ℕ))) → position_or_len (λ key. bytes_eq t key.now) keys ≡ place (texts keys) t
place-texts t [] = refl
place-texts t (key ∷ keys) = ap (λ n. cond (not (bytes_eq t key.now)) (1 + n) 0) (place-texts t keys)

pub texts-insert_key : (t : Bor (List ℕ)) (keys : List (Bor (List ℕ))) → texts (insert_key (λ a b. bytes_eq a.now b.now) keys t) ≡ with_text (texts keys) t.now
texts-insert_key t keys =
    subst (λ b. texts (cond (list_any (λ key. bytes_eq t.now key.now) keys) keys (keys ++ t ∷ [])) ≡ cond b (texts keys) (texts keys ++ t.now ∷ [])) (list_any-texts t.now keys)
    (cases (list_any (λ key. bytes_eq t.now key.now) keys))
  where
    cases : (b : Bool) → texts (cond b keys (keys ++ t ∷ [])) ≡ cond b (texts keys) (texts keys ++ t.now ∷ [])
    cases true = refl
    cases false = map-append (λ key. key.now) keys (t ∷ [])

pub bytes_eq-refl : (t : List ℕ) → bytes_eq t t ≡ true
bytes_eq-refl t = (slice_eq-Decides Decides-eqb t t (bytes_eq t t) refl).1 refl

-- a text that stands in the table keeps its number when the table grows
pub place-push : (t x : List ℕ) (names : List (List ℕ)) → list_any (bytes_eq t) names ≡ true → place (names ++ x ∷ []) t ≡ place names t
place-push t x [] found = cc
place-push t x (name ∷ names) found = by (bytes_eq t name) (place-push t x names) found
  where
    by : (b : Bool) → (list_any (bytes_eq t) names ≡ true → place (names ++ x ∷ []) t ≡ place names t) → b || list_any (bytes_eq t) names ≡ true → cond (not b) (1 + place (names ++ x ∷ []) t) 0 ≡ cond (not b) (1 + place names t) 0
    by true others h = refl
    by false others h = ap (λ n. 1 + n) (others h)

-- a text's number is the same before and after it is put behind the others
place-last : (t : List ℕ) (names : List (List ℕ)) → place (names ++ t ∷ []) t ≡ place names t
place-last t [] = ap (λ b. cond (not b) (1 + 0) 0) (bytes_eq-refl t)
place-last t (name ∷ names) = ap (λ n. cond (not (bytes_eq t name)) (1 + n) 0) (place-last t names)

pub place-with_text : (t : List ℕ) (names : List (List ℕ)) → place (with_text names t) t ≡ place names t
place-with_text t names =
    elim (list_any (bytes_eq t) names) as (λ b. place (cond b names (names ++ t ∷ [])) t ≡ place names t) [
      | true ↦ refl
      | false ↦ place-last t names
    ]

found-last : (t : List ℕ) (names : List (List ℕ)) → list_any (bytes_eq t) (names ++ t ∷ []) ≡ true
found-last t [] = ap (λ b. b || false) (bytes_eq-refl t)
found-last t (name ∷ names) = ap (λ b. bytes_eq t name || b) (found-last t names) ∙ or_true (bytes_eq t name)
  where
    or_true : (b : Bool) → b || true ≡ true
    or_true true = refl
    or_true false = refl

found-push : (t x : List ℕ) (names : List (List ℕ)) → list_any (bytes_eq t) names ≡ true → list_any (bytes_eq t) (names ++ x ∷ []) ≡ true
found-push t x [] found = cc
found-push t x (name ∷ names) found = by (bytes_eq t name) (found-push t x names) found
  where
    by : (b : Bool) → (list_any (bytes_eq t) names ≡ true → list_any (bytes_eq t) (names ++ x ∷ []) ≡ true) → b || list_any (bytes_eq t) names ≡ true → b || list_any (bytes_eq t) (names ++ x ∷ []) ≡ true
    by true others h = refl
    by false others h = others h

pub found-with_text : (t : List ℕ) (names : List (List ℕ)) → list_any (bytes_eq t) (with_text names t) ≡ true
found-with_text t names = by (list_any (bytes_eq t) names) refl
  where
    by : (b : Bool) → list_any (bytes_eq t) names ≡ b → list_any (bytes_eq t) (cond b names (names ++ t ∷ [])) ≡ true
    by true e = e
    by false e = found-last t names

-- a text stays in the table, with its number
pub record Keeps (t : List ℕ) (old new : List (List ℕ)) : Type 0 where
  pub found : list_any (bytes_eq t) new ≡ true
  pub same : place new t ≡ place old t

pub Keeps-with_text : (t x : List ℕ) (names : List (List ℕ)) → list_any (bytes_eq t) names ≡ true → Keeps t names (with_text names x)
Keeps-with_text t x names found =
    elim (list_any (bytes_eq x) names) as (λ b. Keeps t names (cond b names (names ++ x ∷ []))) [
      | true ↦ record { found = found; same = refl }
      | false ↦ record { found = found-push t x names found; same = place-push t x names found }
    ]

pub Keeps-with_names : (t : List ℕ) (names : List (List ℕ)) (ps : List Placed) → list_any (bytes_eq t) names ≡ true → Keeps t names (with_names names ps)
unfolding with_names
Keeps-with_names t names [] found = record { found = found; same = refl }
Keeps-with_names t names (p ∷ ps) found =
    let first : Keeps t names (with_name names p.lexeme) = by p.lexeme in
    let others = Keeps-with_names t (with_name names p.lexeme) ps first.found in
    record { found = others.found; same = others.same ∙ first.same }
  where
    by : (lexeme : Lexeme) → Keeps t names (with_name names lexeme)
    by (Named text) = Keeps-with_text t text names found
    by (Plain kind) = record { found = found; same = refl }

pub length-with_text : (names : List (List ℕ)) (t : List ℕ) → (length names ≤ length (with_text names t)) × (length (with_text names t) ≤ length names + 1)
length-with_text names t =
    elim (list_any (bytes_eq t) names) as (λ b. (length names ≤ length (cond b names (names ++ t ∷ []))) × (length (cond b names (names ++ t ∷ [])) ≤ length names + 1)) [
      | true ↦ (omega arith, omega arith)
      | false ↦ (omega (arith, length-append names (t ∷ [])), omega (arith, length-append names (t ∷ [])))
    ]

-- one more text of those given
pub texts-fold_more : (given : List (Bor (List ℕ) × Predefined)) (i : ℕ) (d : Bor (List ℕ) × Predefined) (old new : List (Bor (List ℕ))) → i < length given
    → new ≡ insert_key (λ a b. bytes_eq a.now b.now) old (get_or given i d).0
    → texts old ≡ fold (λ names entry. with_text names entry.0.now) [] (take i given)
    → texts new ≡ fold (λ names entry. with_text names entry.0.now) [] (take (i + 1) given)
texts-fold_more given i d old new inside grown before =
    ap texts grown ∙ texts-insert_key (get_or given i d).0 old ∙ ap (λ names. with_text names (get_or given i d).0.now) before
    ∙ sym (fold_more {X = Bor (List ℕ) × Predefined} {Y = List (List ℕ)} (λ names entry. with_text names entry.0.now) [] given i d inside)
