-- What stands at the place of the innermost variable of a name.
use Rattle.std.proofs.Common.{◌≡◌, ℕ, zero, suc, ◌+◌, ◌-◌, ◌<◌, ◌==◌, Bool, true, false, Option, None, Some, List, [], ◌∷◌, length, drop, replicate, reverse, get_or, nat_lt, refl, sym, ap, ◌∙◌, subst, arith, unwrap_or, lt-ltb}
use Rattle.std.proofs.lemmas.List.{get_or-reverse, length-reverse, reverse-reverse, length-map}
use Rattle.clnum.specs.declared.int_type.IntType.TheVariants.{Int}
use Rattle.clmodel.specs.Next.{Variables, declared_type, elements_of, has_elements, is_private_array}
use Rattle.clmodel.specs.declared.tree.VariableType.{VariableType}
use Rattle.clmodel.specs.declared.tree.VariableType.TheVariants.{Integer}
use Rattle.lower_expr.specs.Scope.{register_at, register_in, level_in, last_place}
use Rattle.lower_expr.specs.Index.{empty, variables_of}
use Rattle.lower_expr.specs.declared.scope.Entry.{Entry}

none_is_not_some : {n : ℕ} → None ≡ Some n → ⊥
none_is_not_some e = subst (λ (o : Option ℕ). elim o as (λ _. Type 0) [ None ↦ Unit {0} | Some m ↦ ⊥ ]) e tt

-- the variable of a name is at a place, and so its type, its elements and its register are known
pub record IsAt (entries : List Entry) (name place : ℕ) (default : Entry) : Type 0 where
  pub below : place < length entries
  pub kind : declared_type (variables_of entries) name ≡ (get_or entries (length entries - 1 - place) default).variable.kind
  pub elements : elements_of (variables_of entries) name ≡ replicate (get_or entries (length entries - 1 - place) default).variable.elements None
  pub register : (base : ℕ) → register_in base (variables_of entries) name ≡ Some (register_at (base + place) (get_or entries (length entries - 1 - place) default).variable.kind)

-- one entry more
record Case (entry : Entry) (entries : List Entry) (b : Bool) (name place : ℕ) (default : Entry) : Type 0 where
  below : place < length (entry ∷ entries)
  kind : elim b as (λ _. VariableType) [ true ↦ entry.variable.kind | false ↦ declared_type (variables_of entries) name ] ≡ (get_or (entry ∷ entries) (length (entry ∷ entries) - 1 - place) default).variable.kind
  elements : elim b as (λ _. List (Option ℕ)) [ true ↦ replicate entry.variable.elements None | false ↦ elements_of (variables_of entries) name ]
      ≡ replicate (get_or (entry ∷ entries) (length (entry ∷ entries) - 1 - place) default).variable.elements None
  register : (base : ℕ) → elim b as (λ _. Option ℕ) [ true ↦ Some (register_at (base + length (variables_of entries)) entry.variable.kind) | false ↦ register_in base (variables_of entries) name ]
      ≡ Some (register_at (base + place) (get_or (entry ∷ entries) (length (entry ∷ entries) - 1 - place) default).variable.kind)

either : (entry : Entry) (entries : List Entry) (b : Bool) (name place : ℕ) (default : Entry)
    → elim b as (λ _. Option ℕ) [ true ↦ Some (length (variables_of entries)) | false ↦ last_place (variables_of entries) name ] ≡ Some place
    → (last_place (variables_of entries) name ≡ Some place → IsAt entries name place default) → Case entry entries b name place default
either entry entries true name place default h later =
    let p : length entries ≡ place = sym (length-map entries (λ e. empty e.variable)) ∙ ap (λ o. unwrap_or o 0) h in
    let n : zero ≡ length (entry ∷ entries) - 1 - place = omega (arith, p) in
    record {
      below = omega (arith, p);
      kind = ap (λ k. (get_or (entry ∷ entries) k default).variable.kind) n;
      elements = ap (λ k. replicate (get_or (entry ∷ entries) k default).variable.elements None) n;
      register = λ base. ap (λ k. Some (register_at (base + k) entry.variable.kind)) (ap (λ o. unwrap_or o 0) h) ∙ ap (λ k. Some (register_at (base + place) (get_or (entry ∷ entries) k default).variable.kind)) n;
    }
either entry entries false name place default h later =
    let f = later h in
    let below = f.below in
    let n : suc (length entries - 1 - place) ≡ length (entry ∷ entries) - 1 - place = omega (arith, below) in
    record {
      below = omega (arith, below);
      kind = f.kind ∙ ap (λ k. (get_or (entry ∷ entries) k default).variable.kind) n;
      elements = f.elements ∙ ap (λ k. replicate (get_or (entry ∷ entries) k default).variable.elements None) n;
      register = λ base. f.register base ∙ ap (λ k. Some (register_at (base + place) (get_or (entry ∷ entries) k default).variable.kind)) n;
    }

is_at : (entries : List Entry) (name place : ℕ) (default : Entry) → last_place (variables_of entries) name ≡ Some place → IsAt entries name place default
is_at [] name place default h = absurd (none_is_not_some h)
is_at (entry ∷ entries) name place default h =
    let c = either entry entries (name == entry.variable.name) name place default h (is_at entries name place default) in
    record { below = c.below; kind = c.kind; elements = c.elements; register = c.register }

-- the same among entries of which the last is the innermost
pub found_kind : (entries : List Entry) (name place : ℕ) (default : Entry) → last_place (variables_of (reverse entries)) name ≡ Some place
    → (get_or entries place default).variable.kind ≡ declared_type (variables_of (reverse entries)) name
found_kind entries name place default h =
    let f = is_at (reverse entries) name place default h in
    ap (λ es. (get_or es place default).variable.kind) (sym (reverse-reverse entries))
    ∙ ap (λ (e : Entry). e.variable.kind) (get_or-reverse (reverse entries) place default f.below) ∙ sym f.kind

pub found_elements : (entries : List Entry) (name place : ℕ) (default : Entry) → last_place (variables_of (reverse entries)) name ≡ Some place
    → elements_of (variables_of (reverse entries)) name ≡ replicate (get_or entries place default).variable.elements None
found_elements entries name place default h =
    let f = is_at (reverse entries) name place default h in
    f.elements ∙ sym (ap (λ es. replicate (get_or es place default).variable.elements None) (sym (reverse-reverse entries))
    ∙ ap (λ (e : Entry). replicate e.variable.elements None) (get_or-reverse (reverse entries) place default f.below))

-- n elements are some
pub has_replicated : (n : ℕ) → has_elements (replicate n None) ≡ nat_lt 0 n
has_replicated zero = refl
has_replicated (suc n) = sym (lt-ltb 0 (suc n) (omega arith))

pub found_below : (entries : List Entry) (name place : ℕ) → last_place (variables_of (reverse entries)) name ≡ Some place → place < length entries
found_below [] name place h = absurd (none_is_not_some h)
found_below (entry ∷ entries) name place h = let f = (is_at (reverse (entry ∷ entries)) name place entry h).below in let n = length-reverse (entry ∷ entries) in omega (arith, f, n)

-- each is one entry
pub variables_count : (entries : List Entry) → length (variables_of (reverse entries)) ≡ length entries
variables_count entries = length-map (reverse entries) (λ e. empty e.variable) ∙ length-reverse entries

pub found_register : (entries : List Entry) (name place : ℕ) (default : Entry) (base : ℕ) → last_place (variables_of (reverse entries)) name ≡ Some place
    → Some (register_at (base + place) (get_or entries place default).variable.kind) ≡ register_in base (variables_of (reverse entries)) name
found_register entries name place default base h =
    let f = is_at (reverse entries) name place default h in
    ap (λ es. Some (register_at (base + place) (get_or es place default).variable.kind)) (sym (reverse-reverse entries))
    ∙ ap (λ (e : Entry). Some (register_at (base + place) e.variable.kind)) (get_or-reverse (reverse entries) place default f.below) ∙ sym (f.register base)

absent_case : (b : Bool) (p : Option ℕ) (n : ℕ) → elim b as (λ _. Option ℕ) [ true ↦ Some n | false ↦ p ] ≡ None → (b ≡ false) × (p ≡ None)
absent_case true p n h = absurd (none_is_not_some (sym h))
absent_case false p n h = (refl, h)

pub is_absent : (vs : Variables) (name : ℕ) → last_place vs name ≡ None → (declared_type vs name ≡ Integer Int) × ((base : ℕ) → register_in base vs name ≡ None)
is_absent [] name h = (refl, λ base. refl)
is_absent (variable ∷ vs) name h =
    let c = absent_case (name == variable.name) (last_place vs name) (length vs) h in
    let f = is_absent vs name c.1 in (
      ap (λ b. elim b as (λ _. VariableType) [ true ↦ variable.kind | false ↦ declared_type vs name ]) c.0 ∙ f.0,
      λ base. ap (λ b. elim b as (λ _. Option ℕ) [ true ↦ Some (register_at (base + length vs) variable.kind) | false ↦ register_in base vs name ]) c.0 ∙ f.1 base,
    )

-- the level of the innermost variable of a name
pub level_found : (base : ℕ) (vs : Variables) (name place : ℕ) → last_place vs name ≡ Some place → level_in base vs name ≡ base + place
level_found base [] name place h = absurd (none_is_not_some h)
level_found base (variable ∷ vs) name place h = go (level_found base vs name place) (name == variable.name) h
  where
    go : (last_place vs name ≡ Some place → level_in base vs name ≡ base + place) → (b : Bool)
        → elim b as (λ _. Option ℕ) [ true ↦ Some (length vs) | false ↦ last_place vs name ] ≡ Some place
        → elim b as (λ _. ℕ) [ true ↦ base + length vs | false ↦ level_in base vs name ] ≡ base + place
    go later true h = ap (λ o. base + unwrap_or o 0) h
    go later false h = later h

-- there is none, and so no private array
pub level_absent : (base : ℕ) (vs : Variables) (name : ℕ) → last_place vs name ≡ None → level_in base vs name ≡ base
level_absent base [] name h = refl
level_absent base (variable ∷ vs) name h =
    let c = absent_case (name == variable.name) (last_place vs name) (length vs) h in
    ap (λ b. elim b as (λ _. ℕ) [ true ↦ base + length vs | false ↦ level_in base vs name ]) c.0 ∙ level_absent base vs name c.1

pub array_absent : (vs : Variables) (name : ℕ) → last_place vs name ≡ None → is_private_array vs name ≡ false
array_absent [] name h = refl
array_absent (variable ∷ vs) name h =
    let c = absent_case (name == variable.name) (last_place vs name) (length vs) h in
    ap (λ b. has_elements (elim b as (λ _. List (Option ℕ)) [ true ↦ variable.elements | false ↦ elements_of vs name ])) c.0 ∙ array_absent vs name c.1

pub drop_more : (n : ℕ) (vs : Variables) → drop 1 (drop n vs) ≡ drop (suc n) vs
drop_more zero vs = refl
drop_more (suc n) [] = refl
drop_more (suc n) (v ∷ vs) = drop_more n vs
