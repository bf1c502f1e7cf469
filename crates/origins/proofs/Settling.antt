-- What is passed, part by part, is the whole.
use Rattle.std.proofs.Common.{◌≡◌, ℕ, Option, None, Some, List, [], ◌++◌, Result, refl, sym, ap, ap₂, subst, ◌∙◌}
use Rattle.std.proofs.lemmas.List.{append_assoc}
use Rattle.clmodel.specs.Tree.{Target, TargetVariable, TargetElement, TargetDereference, Term, Number, Variable, Element, ElementAddress, Dereference, Call, Unary, Cast, Binary, Choice, term, terms}
use Rattle.clmodel.specs.declared.tree.Expression.{Expression}
use Rattle.clmodel.specs.declared.tree.InfixOperator.{InfixOperator}
use Rattle.clnum.specs.Integer.{Integer}
use Rattle.folding.specs.Constants.{constant_of}
use Rattle.origins.specs.Names.{meaning_of, variables_of}
use Rattle.origins.specs.Origins.{Node, OfTerm, OfTarget, Origin, times, indexed_origins, target_origins, fetch_origins, variable_origins, address_origins, element_origins, infix_before, infix_behind, folded_origins, expr_origins, terms_origins}
use Rattle.origins.specs.Walks.{Walks}
use Rattle.origins.specs.declared.names.Meaning.{Meaning}
use Rattle.origins.specs.declared.names.Meaning.TheVariants.{Unknown, Array, Plain}
use Rattle.origins.specs.declared.names.NamedVariable.{NamedVariable}
use Rattle.origins.specs.declared.node.WalkEnd.{WalkEnd}

pub settle : (inside : ℕ → List Origin) (xs ys : List Origin) (n : ℕ) (r : Result ℕ WalkEnd) → xs ≡ ys → Walks inside xs n r → Walks inside ys n r
settle inside xs ys n r e w = subst (λ zs. Walks inside zs n r) e w

-- what isn't constant has the code of its form
unfolded : (o : Option Integer) (n : Node) (xs : List Origin) → o ≡ None → xs ≡ folded_origins o n xs
unfolded o n xs e = sym (ap (λ (p : Option Integer). folded_origins p n xs) e)

one_folded : (o : Option Integer) (v : Integer) (n : Node) (xs : List Origin) → o ≡ Some v → times 1 n ≡ folded_origins o n xs
one_folded o v n xs e = sym (ap (λ (p : Option Integer). folded_origins p n xs) e)

module _ (names : List NamedVariable) where
  abbrev O : Expression → List Origin
  O x = expr_origins names (term x)

  -- a constant expression
  pub constant_is : (e : Term) (v : Integer) → constant_of (variables_of names) e ≡ Some v → times 1 (OfTerm e) ≡ expr_origins names e
  constant_is (Number at value) v h = refl
  constant_is (Variable at name) v h = absurd (cc)
  constant_is (Element at name index) v h = absurd (cc)
  constant_is (ElementAddress at name_at name index) v h = absurd (cc)
  constant_is (Dereference at pointer) v h = absurd (cc)
  constant_is (Call at name arguments) v h = one_folded (constant_of (variables_of names) (Call at name arguments)) v (OfTerm (Call at name arguments)) _ h
  constant_is (Unary at operator operand) v h = one_folded (constant_of (variables_of names) (Unary at operator operand)) v (OfTerm (Unary at operator operand)) _ h
  constant_is (Cast at target operand) v h = one_folded (constant_of (variables_of names) (Cast at target operand)) v (OfTerm (Cast at target operand)) _ h
  constant_is (Binary at operator left right) v h = one_folded (constant_of (variables_of names) (Binary at operator left right)) v (OfTerm (Binary at operator left right)) _ h
  constant_is (Choice at condition chosen otherwise) v h = one_folded (constant_of (variables_of names) (Choice at condition chosen otherwise)) v (OfTerm (Choice at condition chosen otherwise)) _ h

  -- one that isn't
  varies : (e f : Term) → e ≡ f → constant_of (variables_of names) e ≡ None → constant_of (variables_of names) f ≡ None
  varies e f q none = sym (ap (λ (t : Term). constant_of (variables_of names) t) q) ∙ none

  pub number_is : (e : Term) (at : ℕ) (value : Integer) → e ≡ Number at value → times 1 (OfTerm e) ≡ expr_origins names e
  number_is e at value q = ap (λ (t : Term). times 1 (OfTerm t)) q ∙ sym (ap (λ (t : Term). expr_origins names t) q)

  pub variable_is : (e : Term) (at name : ℕ) (m : Meaning) → m ≡ meaning_of names name → e ≡ Variable at name → variable_origins m (OfTerm e) ≡ expr_origins names e
  variable_is e at name m p q = ap₂ (λ (k : Meaning) (t : Term). variable_origins k (OfTerm t)) p q ∙ sym (ap (λ (t : Term). expr_origins names t) q)

  pub one_is : (e : Term) (x y : Expression) (f : Term → Term) → x ≡ y → e ≡ f (term y) → ((t : Term) → expr_origins names (f t) ≡ expr_origins names t ++ times 1 (OfTerm (f t)))
      → O x ++ times 1 (OfTerm e) ≡ expr_origins names e
  one_is e x y f p q h = ap₂ (λ (z : Expression) (t : Term). O z ++ times 1 (OfTerm t)) p q ∙ sym (h (term y)) ∙ sym (ap (λ (t : Term). expr_origins names t) q)

  pub varying_is : (e : Term) (x y : Expression) (f : Term → Term) → x ≡ y → e ≡ f (term y)
      → ((t : Term) → expr_origins names (f t) ≡ folded_origins (constant_of (variables_of names) (f t)) (OfTerm (f t)) (expr_origins names t ++ times 1 (OfTerm (f t))))
      → constant_of (variables_of names) e ≡ None → O x ++ times 1 (OfTerm e) ≡ expr_origins names e
  varying_is e x y f p q h none =
      ap₂ (λ (z : Expression) (t : Term). O z ++ times 1 (OfTerm t)) p q
      ∙ unfolded (constant_of (variables_of names) (f (term y))) (OfTerm (f (term y))) _ (varies e (f (term y)) q none)
      ∙ sym (h (term y)) ∙ sym (ap (λ (t : Term). expr_origins names t) q)

  pub array_is : (e : Term) (at name : ℕ) (x y : Expression) → x ≡ y → e ≡ Element at name (term y) → Array ≡ meaning_of names name → O x ++ times 1 (OfTerm e) ≡ expr_origins names e
  array_is e at name x y p q m =
      ap₂ (λ (z : Expression) (t : Term). O z ++ times 1 (OfTerm t)) p q
      ∙ ap (λ (k : Meaning). element_origins k (OfTerm (Element at name (term y))) (O y)) m
      ∙ sym (ap (λ (t : Term). expr_origins names t) q)

  pub unknown_is : (e : Term) (at name : ℕ) (x y : Expression) → x ≡ y → e ≡ Element at name (term y) → Unknown ≡ meaning_of names name
      → address_origins Unknown (OfTerm e) (O x) ++ times 1 (OfTerm e) ≡ expr_origins names e
  unknown_is e at name x y p q m =
      ap₂ (λ (z : Expression) (t : Term). address_origins Unknown (OfTerm t) (O z) ++ times 1 (OfTerm t)) p q
      ∙ ap (λ (k : Meaning). element_origins k (OfTerm (Element at name (term y))) (O y)) m
      ∙ sym (ap (λ (t : Term). expr_origins names t) q)

  pub plain_is : (e : Term) (at name : ℕ) (x y : Expression) → x ≡ y → e ≡ Element at name (term y) → Plain ≡ meaning_of names name
      → address_origins Plain (OfTerm e) (O x) ++ times 1 (OfTerm e) ≡ expr_origins names e
  plain_is e at name x y p q m =
      ap₂ (λ (z : Expression) (t : Term). address_origins Plain (OfTerm t) (O z) ++ times 1 (OfTerm t)) p q
      ∙ ap (λ (k : Meaning). element_origins k (OfTerm (Element at name (term y))) (O y)) m
      ∙ sym (ap (λ (t : Term). expr_origins names t) q)

  pub address_is : (e : Term) (at name_at name : ℕ) (m : Meaning) (x y : Expression) → x ≡ y → e ≡ ElementAddress at name_at name (term y) → m ≡ meaning_of names name
      → address_origins m (OfTerm e) (O x) ≡ expr_origins names e
  address_is e at name_at name m x y p q r =
      ap₂ (λ (z : Expression) (t : Term). address_origins m (OfTerm t) (O z)) p q
      ∙ ap (λ (k : Meaning). address_origins k (OfTerm (ElementAddress at name_at name (term y))) (O y)) r
      ∙ sym (ap (λ (t : Term). expr_origins names t) q)

  pub call_is : (e : Term) (at name : ℕ) (xs ys : List Expression) → xs ≡ ys → e ≡ Call at name (terms ys) → constant_of (variables_of names) e ≡ None
      → terms_origins names (terms xs) ++ times 1 (OfTerm e) ≡ expr_origins names e
  call_is e at name xs ys p q none =
      let whole = Call at name (terms ys) in
      ap₂ (λ (zs : List Expression) (t : Term). terms_origins names (terms zs) ++ times 1 (OfTerm t)) p q
      ∙ unfolded (constant_of (variables_of names) whole) (OfTerm whole) _ (varies e whole q none)
      ∙ sym (ap (λ (t : Term). expr_origins names t) q)

  pub binary_is : (e : Term) (at : ℕ) (operator : InfixOperator) (x y z w : Expression) (b d : ℕ) → x ≡ y → z ≡ w → b ≡ infix_before operator → d ≡ infix_behind operator
      → e ≡ Binary at operator (term y) (term w) → constant_of (variables_of names) e ≡ None → ((O x ++ times b (OfTerm e)) ++ O z) ++ times d (OfTerm e) ≡ expr_origins names e
  binary_is e at operator x y z w b d p r s u q none =
      let whole = Binary at operator (term y) (term w) in
      append_assoc (O x ++ times b (OfTerm e)) (O z) (times d (OfTerm e))
      ∙ append_assoc (O x) (times b (OfTerm e)) (O z ++ times d (OfTerm e))
      ∙ ap₂ (λ (i j : Expression). O i ++ (times b (OfTerm e) ++ (O j ++ times d (OfTerm e)))) p r
      ∙ ap₂ (λ (i j : ℕ). O y ++ (times i (OfTerm e) ++ (O w ++ times j (OfTerm e)))) s u
      ∙ ap (λ (t : Term). O y ++ (times (infix_before operator) (OfTerm t) ++ (O w ++ times (infix_behind operator) (OfTerm t)))) q
      ∙ unfolded (constant_of (variables_of names) whole) (OfTerm whole) _ (varies e whole q none)
      ∙ sym (ap (λ (t : Term). expr_origins names t) q)

  pub choice_is : (e : Term) (at : ℕ) (x y z w u v : Expression) → x ≡ y → z ≡ w → u ≡ v → e ≡ Choice at (term y) (term w) (term v) → constant_of (variables_of names) e ≡ None
      → ((((O x ++ times 1 (OfTerm e)) ++ O z) ++ times 2 (OfTerm e)) ++ O u) ++ times 1 (OfTerm e) ≡ expr_origins names e
  choice_is e at x y z w u v p r s q none =
      let whole = Choice at (term y) (term w) (term v) in
      let one = times 1 (OfTerm e) in
      let two = times 2 (OfTerm e) in
      append_assoc (((O x ++ one) ++ O z) ++ two) (O u) one
      ∙ append_assoc ((O x ++ one) ++ O z) two (O u ++ one)
      ∙ append_assoc (O x ++ one) (O z) (two ++ (O u ++ one))
      ∙ append_assoc (O x) one (O z ++ (two ++ (O u ++ one)))
      ∙ ap₂ (λ (i j : Expression). O i ++ (one ++ (O j ++ (two ++ (O u ++ one))))) p r
      ∙ ap (λ (i : Expression). O y ++ (one ++ (O w ++ (two ++ (O i ++ one))))) s
      ∙ ap (λ (t : Term). O y ++ (times 1 (OfTerm t) ++ (O w ++ (times 2 (OfTerm t) ++ (O v ++ times 1 (OfTerm t)))))) q
      ∙ unfolded (constant_of (variables_of names) whole) (OfTerm whole) _ (varies e whole q none)
      ∙ sym (ap (λ (t : Term). expr_origins names t) q)

  -- targets
  pub no_target_is : (e : Target) (at name : ℕ) → e ≡ TargetVariable at name → [] ≡ target_origins names e
  no_target_is e at name q = sym (ap (λ (t : Target). target_origins names t) q)

  pub array_target_is : (e : Target) (at name : ℕ) (x y : Expression) → x ≡ y → e ≡ TargetElement at name (term y) → Array ≡ meaning_of names name → O x ≡ target_origins names e
  array_target_is e at name x y p q m =
      ap O p ∙ ap (λ (k : Meaning). indexed_origins k (OfTarget (TargetElement at name (term y))) (O y)) m ∙ sym (ap (λ (t : Target). target_origins names t) q)

  pub unknown_target_is : (e : Target) (at name : ℕ) (x y : Expression) → x ≡ y → e ≡ TargetElement at name (term y) → Unknown ≡ meaning_of names name → address_origins Unknown (OfTarget e) (O x) ≡ target_origins names e
  unknown_target_is e at name x y p q m =
      ap₂ (λ (z : Expression) (t : Target). address_origins Unknown (OfTarget t) (O z)) p q
      ∙ ap (λ (k : Meaning). indexed_origins k (OfTarget (TargetElement at name (term y))) (O y)) m ∙ sym (ap (λ (t : Target). target_origins names t) q)

  pub plain_target_is : (e : Target) (at name : ℕ) (x y : Expression) → x ≡ y → e ≡ TargetElement at name (term y) → Plain ≡ meaning_of names name → address_origins Plain (OfTarget e) (O x) ≡ target_origins names e
  plain_target_is e at name x y p q m =
      ap₂ (λ (z : Expression) (t : Target). address_origins Plain (OfTarget t) (O z)) p q
      ∙ ap (λ (k : Meaning). indexed_origins k (OfTarget (TargetElement at name (term y))) (O y)) m ∙ sym (ap (λ (t : Target). target_origins names t) q)

  pub pointed_is : (e : Target) (at : ℕ) (x y : Expression) → x ≡ y → e ≡ TargetDereference at (term y) → O x ++ times 1 (OfTarget e) ≡ target_origins names e
  pointed_is e at x y p q = ap₂ (λ (z : Expression) (t : Target). O z ++ times 1 (OfTarget t)) p q ∙ sym (ap (λ (t : Target). target_origins names t) q)

  pub fetched_is : (e : Target) (at name : ℕ) (m : Meaning) (n : Node) → m ≡ meaning_of names name → e ≡ TargetVariable at name → variable_origins m n ≡ fetch_origins names e n
  fetched_is e at name m n p q = ap (λ (k : Meaning). variable_origins k n) p ∙ sym (ap (λ (t : Target). fetch_origins names t n) q)

  pub fetched_element_is : (e : Target) (at name : ℕ) (index : Term) (n : Node) → e ≡ TargetElement at name index → times 1 n ≡ fetch_origins names e n
  fetched_element_is e at name index n q = sym (ap (λ (t : Target). fetch_origins names t n) q)

  pub fetched_pointed_is : (e : Target) (at : ℕ) (pointer : Term) (n : Node) → e ≡ TargetDereference at pointer → times 1 n ≡ fetch_origins names e n
  fetched_pointed_is e at pointer n q = sym (ap (λ (t : Target). fetch_origins names t n) q)
