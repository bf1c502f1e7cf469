-- The code of a typed expression names registers of the kinds that its instructions want.
use Rattle.std.proofs.Common.{◌≡◌, ℕ, ◌+◌, Bool, true, false, nat_eq, if◌then◌else◌, Option, None, Some, List, [], ◌∷◌, ◌++◌, length, refl, ap, ap₂, sym, subst, ◌∙◌, arith}
use Rattle.std.proofs.lemmas.List.{length-append}
use Rattle.std.proofs.lemmas.Option.{same_Some}
use Rattle.clnum.specs.Conversions.{common, unsigned_of}
use Rattle.clnum.specs.Integer as integers
use Rattle.clnum.specs.Operations.{unary_kind, truth}
use Rattle.clnum.specs.declared.int_type.IntType.{IntType}
use Rattle.clnum.specs.declared.int_type.IntType.TheVariants.{Char, Uchar, Short, Ushort, Int, Uint, Long, Ulong}
use Rattle.clnum.specs.declared.operators.Builtin.TheVariants as integer
use Rattle.clmodel.specs.Barrier.{is_barrier}
use Rattle.clmodel.specs.BuiltIns.{built_in}
use Rattle.clmodel.specs.Next.{base_type, infix_type, call_type, argument_type}
use Rattle.clmodel.specs.Tree as tree
use Rattle.clmodel.specs.Tree.{Term, Terms, NoTerm, ThenTerm, Target}
use Rattle.clmodel.specs.Typing.Context.{Context, Signature, value_type, element_type, Meaning, meaning, Bound, Callable, Current, BuiltInFunction, Barrier, Unknown, found, called, signature_of, function_meaning}
use Rattle.clmodel.specs.Typing.Context as context
use Rattle.clmodel.specs.Typing.Rules as rule
use Rattle.clmodel.specs.Typing.Rules.{Types, TypesAll, TypesTarget, Operates, Calls}
use Rattle.clmodel.specs.declared.declaration.Declaration.{Declaration}
use Rattle.clmodel.specs.declared.declaration.Declaration.TheVariants.{Single, LocalArray, PrivateArray}
use Rattle.clmodel.specs.declared.setup.BuiltIn.{BuiltIn}
use Rattle.clmodel.specs.declared.tree.AddressSpace.TheVariants.{Local}
use Rattle.clmodel.specs.declared.tree.InfixOperator.{InfixOperator}
use Rattle.clmodel.specs.declared.tree.InfixOperator.TheVariants.{Arithmetic}
use Rattle.clmodel.specs.declared.tree.PointerType.{PointerType}
use Rattle.clmodel.specs.declared.tree.VariableType.{VariableType}
use Rattle.clmodel.specs.declared.tree.VariableType.TheVariants.{Integer, Pointer}
use Rattle.folding.proofs.Evaluation.{common_either}
use Rattle.folding.specs.Constants.{constant_of}
use Rattle.regcode.specs.Rules.{fetched_kind}
use Rattle.regcode.specs.declared.instruction.Instruction.{Instruction}
use Rattle.regcode.specs.declared.instruction.Instruction.TheVariants as instruction
use Rattle.regcode.specs.declared.tables.RegisterKind.TheVariants as register_kinds
use Rattle.lower_expr.specs.Scope.{Scope, register_at, register_of, level_of}
use Rattle.lower_expr.specs.Expressions.{kind_of, kind_named, register_for, registers_for, folded, expr_code, terms_code, target_code, variable_code, type_of_elements, private_load, element_code, address_code, infix_code, truth_code, branch_code, call_code, count}
use Rattle.lower.specs.Accepted.{declared_kind, is_private, Is, Matches, Suits, Suit, ExpressionsSuit, TargetsSuit}
use Rattle.lower.proofs.Suiting.{same_integer, is_at, is_as, suit_both, constant_suits, move_suits, convert_suits, common_suits, unary_suits, binary_suits, one_suits, two_suit, dimensions_suit, query_suits, point_suits, offset_suits, load_suits, fetch_alone_suits, fetch_number_suits, fetch_pair_suits, private_load_suits, branch_suits}

pub infix_is : {operator : InfixOperator} (j k r : VariableType) → Operates operator j k r → infix_type operator j k ≡ r
infix_is _ _ _ rule.arithmetic = refl
infix_is _ _ _ rule.logical_and = refl
infix_is _ _ _ rule.logical_or = refl
infix_is _ _ _ rule.pointer_sum = refl
infix_is _ _ _ rule.pointer_difference = refl
infix_is _ _ _ rule.sum_pointer = refl

-- a name that stands for a built-in function
called_is : (s : Option Signature) (f : Option BuiltIn) (b : Bool) (g : BuiltIn) → called s f b ≡ BuiltInFunction g → f ≡ Some g
called_is (Some s) f b g e = absurd (cc)
called_is None (Some f) b g e = ap (λ m. elim m as (λ _. Option BuiltIn) [ Bound k ↦ None | Callable s ↦ None | Current s ↦ None | BuiltInFunction h ↦ Some h | Barrier ↦ None | Unknown ↦ None ]) e
called_is None None true g e = absurd (cc)
called_is None None false g e = absurd (cc)

choice_is : (b : Bool) (s : Signature) (m : Meaning) (g : BuiltIn) → (if b then Current s else m) ≡ BuiltInFunction g → m ≡ BuiltInFunction g
choice_is true s m g e = absurd (cc)
choice_is false s m g e = e

found_is : (v : Option Declaration) (m : Meaning) (g : BuiltIn) → found v m ≡ BuiltInFunction g → m ≡ BuiltInFunction g
found_is None m g e = e
found_is (Some k) m g e = absurd (cc)

pub built_in_is : (c : Context) (name : ℕ) (g : BuiltIn) → meaning c name ≡ BuiltInFunction g → built_in name ≡ Some g
built_in_is c name g e =
    called_is (signature_of c.before name) (built_in name) _ g
    (choice_is (nat_eq name c.current) c.signature (called (signature_of c.before name) (built_in name) _) g
    (found_is (context.variable (c.inner ∷ c.outer) name) (function_meaning c name) g e))

-- a name that stands for the barrier
called_waits : (s : Option Signature) (f : Option BuiltIn) (b : Bool) → called s f b ≡ Barrier → b ≡ true
called_waits (Some s) f b e = absurd (cc)
called_waits None (Some f) b e = absurd (cc)
called_waits None None true e = refl
called_waits None None false e = absurd (cc)

choice_waits : (b : Bool) (s : Signature) (m : Meaning) → (if b then Current s else m) ≡ Barrier → m ≡ Barrier
choice_waits true s m e = absurd (cc)
choice_waits false s m e = e

found_waits : (v : Option Declaration) (m : Meaning) → found v m ≡ Barrier → m ≡ Barrier
found_waits None m e = e
found_waits (Some k) m e = absurd (cc)

pub barrier_is : (c : Context) (name : ℕ) → meaning c name ≡ Barrier → is_barrier name ≡ true
barrier_is c name e =
    called_waits (signature_of c.before name) (built_in name) (is_barrier name)
    (choice_waits (nat_eq name c.current) c.signature (called (signature_of c.before name) (built_in name) _)
    (found_waits (context.variable (c.inner ∷ c.outer) name) (function_meaning c name) e))

-- the types of arguments, and their registers
abbrev pub kinds_of : Scope → Terms → List VariableType
kinds_of scope NoTerm = []
kinds_of scope (ThenTerm terms term) = kinds_of scope terms ++ kind_of scope term ∷ []

abbrev pub numbered : ℕ → List VariableType → List ℕ
numbered level [] = []
numbered level (kind ∷ kinds) = register_at level kind ∷ numbered (level + 1) kinds

abbrev pub first_of : List VariableType → IntType
first_of [] = Int
first_of (kind ∷ kinds) = base_type kind

first_stays : (kinds : List VariableType) (kind other : VariableType) → first_of (kinds ++ kind ∷ []) ≡ first_of ((kinds ++ kind ∷ []) ++ other ∷ [])
first_stays [] kind other = refl
first_stays (first ∷ kinds) kind other = refl

pub argument_is : (scope : Scope) (terms : Terms) → argument_type scope.variables terms ≡ first_of (kinds_of scope terms)
argument_is scope NoTerm = refl
argument_is scope (ThenTerm NoTerm term) = refl
argument_is scope (ThenTerm (ThenTerm terms first) term) =
    argument_is scope (ThenTerm terms first) ∙ first_stays (kinds_of scope terms) (kind_of scope first) (kind_of scope term)

numbered_both : (level : ℕ) (kinds : List VariableType) (kind : VariableType) → numbered level (kinds ++ kind ∷ []) ≡ numbered level kinds ++ register_at (level + length kinds) kind ∷ []
numbered_both level [] kind = ap (λ n. register_at n kind ∷ []) (omega arith)
numbered_both level (first ∷ kinds) kind =
    ap (λ rs. register_at level first ∷ rs)
    (numbered_both (level + 1) kinds kind ∙ ap (λ n. numbered (level + 1) kinds ++ register_at n kind ∷ []) (omega arith))

kinds_counted : (scope : Scope) (terms : Terms) → length (kinds_of scope terms) ≡ count terms
kinds_counted scope NoTerm = refl
kinds_counted scope (ThenTerm terms term) =
    length-append (kinds_of scope terms) (kind_of scope term ∷ []) ∙ ap (λ n. n + 1) (kinds_counted scope terms)

pub registers_are : (scope : Scope) (level : ℕ) (terms : Terms) → registers_for scope level terms ≡ numbered level (kinds_of scope terms)
registers_are scope level NoTerm = refl
registers_are scope level (ThenTerm terms term) =
    ap₂ (λ rs n. rs ++ register_at (level + n) (kind_of scope term) ∷ []) (registers_are scope level terms) (sym (kinds_counted scope terms))
    ∙ sym (numbered_both level (kinds_of scope terms) (kind_of scope term))

pub call_is : (f : BuiltIn) (ks : List VariableType) (k : VariableType) → Calls f ks k → Integer (call_type (Some f) (first_of ks)) ≡ k
call_is _ _ _ rule.work_dim = refl
call_is _ _ _ rule.work_item = refl
call_is _ _ _ rule.min = refl
call_is _ _ _ rule.max = refl
call_is _ _ _ rule.rotate = refl
call_is _ _ _ rule.abs = refl
call_is _ _ _ rule.clz = refl
call_is _ _ _ rule.popcount = refl
call_is _ _ _ (rule.atomic h a w) = refl
call_is _ _ _ (rule.atomic_alone h a w) = refl
call_is _ _ _ (rule.atomic_pair h a w) = refl

-- the types that atomic functions know
fetched_known : (t : IntType) → rule.is_atomic t ≡ true → fetched_kind (Some (register_kinds.Pointer t)) ≡ Some (register_kinds.Integer t)
fetched_known Int e = refl
fetched_known Uint e = refl
fetched_known Char e = absurd (cc)
fetched_known Uchar e = absurd (cc)
fetched_known Short e = absurd (cc)
fetched_known Ushort e = absurd (cc)
fetched_known Long e = absurd (cc)
fetched_known Ulong e = absurd (cc)

same_element : (t u : IntType) → Some t ≡ Some u → t ≡ u
same_element t u e = ap (λ o. elim o as (λ _. IntType) [ None ↦ t | Some s ↦ s ]) e

pub value_is : (d : Declaration) (k : VariableType) → value_type d ≡ Some k → declared_kind d ≡ k
value_is (Single j) k e = same_Some j k e
value_is (LocalArray t) k e = same_Some (declared_kind (LocalArray t)) k e
value_is (PrivateArray t) k e = absurd (cc)

pub element_is : (d : Declaration) (t : IntType) → element_type d ≡ Some t → base_type (declared_kind d) ≡ t
element_is (Single (Integer j)) t e = absurd (cc)
element_is (Single (Pointer p)) t e = same_element p.element t e
element_is (LocalArray j) t e = same_element j t e
element_is (PrivateArray j) t e = same_element j t e

module _ (c : Context) (scope : Scope) (m : Matches c scope) where
  mutual
    pub type_is : (e : Term) (k : VariableType) → Types c e k → kind_of scope e ≡ k
    type_is _ _ rule.number = refl
    type_is _ _ (rule.variable {x = x} {d = d} {k = k} is value) = (m x d is).declared ∙ value_is d k value
    type_is _ _ (rule.element {x = x} {d = d} {t = t} is of index) = ap (λ k. Integer (base_type k)) (m x d is).declared ∙ ap Integer (element_is d t of)
    type_is _ _ (rule.address {x = x} {d = d} {p = p} is value index) = (m x d is).declared ∙ value_is d (Pointer p) value
    type_is _ _ (rule.dereference {p = p} {e = e} pointer) = ap (λ k. Integer (base_type k)) (type_is e (Pointer p) pointer)
    type_is _ _ (rule.call {x = x} {f = f} {es = es} {ks = ks} {k = k} is arguments calls) =
        ap₂ (λ g t. Integer (call_type g t)) (built_in_is c x f is) (argument_is scope es ∙ ap first_of (types_are es ks arguments)) ∙ call_is f ks k calls
    type_is _ _ (rule.unary {op = op} {t = t} {e = e} operand) = ap (λ k. Integer (unary_kind op (base_type k))) (type_is e (Integer t) operand)
    type_is _ _ (rule.cast operand) = refl
    type_is _ _ (rule.binary {op = op} {d = d} {e = e} {j = j} {k = k} {r = r} left right operates) =
        ap₂ (infix_type op) (type_is d j left) (type_is e k right) ∙ infix_is j k r operates
    type_is _ _ (rule.choice {t = t} {u = u} {d = d} {f = f} condition chosen otherwise) =
        ap₂ (λ j k. Integer (common (base_type j) (base_type k))) (type_is d (Integer t) chosen) (type_is f (Integer u) otherwise)

    pub types_are : (es : Terms) (ks : List VariableType) → TypesAll c es ks → kinds_of scope es ≡ ks
    types_are _ _ rule.no_argument = refl
    types_are _ _ (rule.argument {es = es} {e = e} {ks = ks} {k = k} arguments last) = ap₂ (λ js j. js ++ j ∷ []) (types_are es ks arguments) (type_is e k last)

  module _ (parameters : List VariableType) where
    -- a variable's value
    pub variable_suits : (level : ℕ) (kind : VariableType) (name : ℕ) (d : Declaration) (k : VariableType) → meaning c name ≡ Bound d → declared_kind d ≡ k → kind ≡ k
        → Suit parameters (variable_code (register_at level kind) (register_of scope name) name)
    variable_suits level kind name d k is held e =
        let there = m name d is in
        subst (λ o. Suit parameters (variable_code (register_at level kind) o name)) (sym there.register)
        (move_suits parameters (register_at level kind) (register_at there.level (declared_kind d)) name k (is_as level kind k e) (is_as there.level (declared_kind d) k held), tt)

    -- a pointer moved by an index
    element_suits : (level name : ℕ) (d : Declaration) (p : PointerType) (index : List Instruction) (register : ℕ) (t : IntType) → meaning c name ≡ Bound d → declared_kind d ≡ Pointer p
        → Suit parameters index → Is register (Integer t)
        → Suit parameters (element_code (register_at level (kind_named scope name)) (register_of scope name) name index register)
    element_suits level name d p index register t is held fits of =
        let to = register_at level (kind_named scope name) in
        let kind = (m name d is).declared ∙ held in
        let last : List Instruction = instruction.Offset to to register ∷ [] in
        suit_both parameters (variable_code to (register_of scope name) name) (index ++ last) (variable_suits level (kind_named scope name) name d (Pointer p) is held kind)
        (suit_both parameters index last fits
        (offset_suits parameters to to register p.element t (is_as level (kind_named scope name) (Pointer p) kind) (is_as level (kind_named scope name) (Pointer p) kind) of, tt))

    -- what a pointer that is moved points to, or an element of a private array
    pointed_suits : (level name : ℕ) (d : Declaration) (p : PointerType) (index : Term) (t : IntType) → meaning c name ≡ Bound d → declared_kind d ≡ Pointer p → Types c index (Integer t)
        → Suit parameters (expr_code scope (level + 1) index)
        → Suit parameters (address_code scope level name index ++ instruction.Load (register_at level (Integer (type_of_elements scope name))) (register_at level (kind_named scope name)) ∷ [])
    pointed_suits level name d p index t is held types fits =
        let kind = kind_named scope name in
        let same = (m name d is).declared ∙ held in
        suit_both parameters (address_code scope level name index) (instruction.Load (register_at level (Integer (type_of_elements scope name))) (register_at level kind) ∷ [])
        (element_suits level name d p (expr_code scope (level + 1) index) (register_for scope (level + 1) index) t is held fits (is_as (level + 1) (kind_of scope index) (Integer t) (type_is index (Integer t) types))) (
          load_suits parameters (register_at level (Integer (type_of_elements scope name))) (register_at level kind) p.element
              (is_as level (Integer (type_of_elements scope name)) (Integer p.element) (ap (λ k. Integer (base_type k)) same)) (is_as level kind (Pointer p) same),
          tt,
        )

    private_suits : (level name : ℕ) (index : Term) (t : IntType) → Types c index (Integer t) → Suit parameters (expr_code scope level index)
        → Suit parameters (expr_code scope level index ++ private_load scope (register_at level (Integer (type_of_elements scope name))) name (register_for scope level index) ∷ [])
    private_suits level name index t types fits =
        suit_both parameters (expr_code scope level index) (private_load scope (register_at level (Integer (type_of_elements scope name))) name (register_for scope level index) ∷ []) fits (
          private_load_suits parameters (register_at level (Integer (type_of_elements scope name))) (level_of scope name) (register_for scope level index) name (type_of_elements scope name) t
              (is_at level (Integer (type_of_elements scope name))) (is_as level (kind_of scope index) (Integer t) (type_is index (Integer t) types)),
          tt,
        )

    loaded_suits : (level name : ℕ) (d : Declaration) (index : Term) (t u : IntType) → meaning c name ≡ Bound d → element_type d ≡ Some t → Types c index (Integer u)
        → Suit parameters (expr_code scope level index) → Suit parameters (expr_code scope (level + 1) index)
        → Suit parameters (if is_private d then expr_code scope level index ++ private_load scope (register_at level (Integer (type_of_elements scope name))) name (register_for scope level index) ∷ []
        else address_code scope level name index ++ instruction.Load (register_at level (Integer (type_of_elements scope name))) (register_at level (kind_named scope name)) ∷ [])
    loaded_suits level name (Single (Integer j)) index t u is of types fits higher = absurd (cc)
    loaded_suits level name (Single (Pointer p)) index t u is of types fits higher = pointed_suits level name (Single (Pointer p)) p index u is refl types higher
    loaded_suits level name (LocalArray j) index t u is of types fits higher = pointed_suits level name (LocalArray j) (record { space = Local; is_const = false; element = j }) index u is refl types higher
    loaded_suits level name (PrivateArray j) index t u is of types fits higher = private_suits level name index u types fits

    reached_suits : (level name : ℕ) (d : Declaration) (index : Term) (t u : IntType) → meaning c name ≡ Bound d → element_type d ≡ Some t → Types c index (Integer u)
        → Suit parameters (expr_code scope level index) → Suit parameters (expr_code scope (level + 1) index)
        → Suit parameters (if is_private d then expr_code scope level index else address_code scope level name index)
    reached_suits level name (Single (Integer j)) index t u is of types fits higher = absurd (cc)
    reached_suits level name (Single (Pointer p)) index t u is of types fits higher =
        element_suits level name (Single (Pointer p)) p (expr_code scope (level + 1) index) (register_for scope (level + 1) index) u is refl higher (is_as (level + 1) (kind_of scope index) (Integer u) (type_is index (Integer u) types))
    reached_suits level name (LocalArray j) index t u is of types fits higher =
        element_suits level name (LocalArray j) (record { space = Local; is_const = false; element = j }) (expr_code scope (level + 1) index) (register_for scope (level + 1) index) u is refl higher
        (is_as (level + 1) (kind_of scope index) (Integer u) (type_is index (Integer u) types))
    reached_suits level name (PrivateArray j) index t u is of types fits higher = fits

    truth_suits : (level : ℕ) (kind : VariableType) → kind ≡ Integer Int → Suit parameters (truth_code (register_at level kind))
    truth_suits level kind e =
        let to = register_at level kind in
        let is = is_as level kind (Integer Int) e in
        (constant_suits parameters to (truth true) is, ((λ code same wide. tt), (constant_suits parameters to (truth false) is, tt)))

    infix_suits : (operator : InfixOperator) (level : ℕ) (kind : VariableType) (first second : ℕ) (right : List Instruction) (j k r : VariableType) → Operates operator j k r → kind ≡ r
        → Is first j → Is second k → Suit parameters right → Suit parameters (infix_code operator (register_at level kind) first second right)
    infix_suits (Arithmetic operator) level kind first second right j k r operates e of by fits =
        let to = register_at level kind in
        suit_both parameters right (instruction.Binary to operator first second ∷ []) fits (binary_suits parameters to first second operator j k r (is_as level kind r e) of by operates, tt)
    infix_suits _ level kind first second right _ _ _ (rule.logical_and {t = t} {u = u}) e of by fits = (
      branch_suits parameters first (length right + 3) t of,
      suit_both parameters right (instruction.JumpIfZero second 2 ∷ truth_code (register_at level kind)) fits (branch_suits parameters second 2 u by, truth_suits level kind e),
    )
    infix_suits _ level kind first second right _ _ _ (rule.logical_or {t = t} {u = u}) e of by fits = (
      branch_suits parameters first 1 t of,
      (
        (λ code same wide. tt),
        suit_both parameters right (instruction.JumpIfZero second 2 ∷ truth_code (register_at level kind)) fits (branch_suits parameters second 2 u by, truth_suits level kind e),
      ),
    )

    branch_suit : (level : ℕ) (kind : VariableType) (branch : List Instruction) (from : ℕ) (t u : IntType) (other : VariableType) → kind ≡ Integer (common t u) → other ≡ Integer u → Is from (Integer t)
        → Suit parameters branch → Suit parameters (branch_code (register_at level kind) branch from other)
    branch_suit level kind branch from t u other e o of fits =
        let to = register_at level kind in
        suit_both parameters branch (instruction.UsualConversion to from (base_type other) ∷ []) fits
        (subst (λ v. Suits parameters (instruction.UsualConversion to from (base_type v))) (sym o) (common_suits parameters to from t u (is_as level kind (Integer (common t u)) e) of), tt)

    pub call_suits : (f : BuiltIn) (ks : List VariableType) (k : VariableType) → Calls f ks k → (level to : ℕ) → Is to k → Suit parameters (call_code (Some f) to (numbered level ks))
    call_suits _ _ _ rule.work_dim level to is = (dimensions_suit parameters to is, tt)
    call_suits _ _ _ (rule.work_item {f = f} {t = t}) level to is = (query_suits parameters to (register_at level (Integer t)) f t is (is_at level (Integer t)), tt)
    call_suits _ _ _ (rule.min {t = t}) level to is =
        (two_suit parameters to (register_at level (Integer t)) (register_at (level + 1) (Integer t)) integer.Min t is (is_at level (Integer t)) (is_at (level + 1) (Integer t)) (same_integer t), tt)
    call_suits _ _ _ (rule.max {t = t}) level to is =
        (two_suit parameters to (register_at level (Integer t)) (register_at (level + 1) (Integer t)) integer.Max t is (is_at level (Integer t)) (is_at (level + 1) (Integer t)) (same_integer t), tt)
    call_suits _ _ _ (rule.rotate {t = t}) level to is =
        (two_suit parameters to (register_at level (Integer t)) (register_at (level + 1) (Integer t)) integer.Rotate t is (is_at level (Integer t)) (is_at (level + 1) (Integer t)) (same_integer t), tt)
    call_suits _ _ _ (rule.abs {t = t}) level to is = (one_suits parameters to (register_at level (Integer t)) integer.Abs t (unsigned_of t) is (is_at level (Integer t)) refl, tt)
    call_suits _ _ _ (rule.clz {t = t}) level to is = (one_suits parameters to (register_at level (Integer t)) integer.Clz t t is (is_at level (Integer t)) refl, tt)
    call_suits _ _ _ (rule.popcount {t = t}) level to is = (one_suits parameters to (register_at level (Integer t)) integer.Popcount t t is (is_at level (Integer t)) refl, tt)
    call_suits _ _ _ (rule.atomic {f = f} {p = p} {t = t} h a w) level to is = (
      fetch_number_suits parameters to f (register_at level (Pointer p)) (register_at (level + 1) (Integer t)) p.element t is (is_at level (Pointer p)) (fetched_known p.element a)
          (is_at (level + 1) (Integer t)),
      tt,
    )
    call_suits _ _ _ (rule.atomic_alone {f = f} {p = p} h a w) level to is =
        (fetch_alone_suits parameters to f (register_at level (Pointer p)) p.element is (is_at level (Pointer p)) (fetched_known p.element a), tt)
    call_suits _ _ _ (rule.atomic_pair {f = f} {p = p} {t = t} {u = u} h a w) level to is = (
      fetch_pair_suits parameters to f (register_at level (Pointer p)) (register_at (level + 1) (Integer t)) (register_at (level + 1 + 1) (Integer u)) p.element t u is (is_at level (Pointer p))
          (fetched_known p.element a) (is_at (level + 1) (Integer t)) (is_at (level + 1 + 1) (Integer u)),
      tt,
    )

    -- a constant expression is put into the register of its own type
    folded_suits : (o : Option integers.Integer) (level : ℕ) (code : List Instruction) → Suit parameters code → Suit parameters (folded o level code)
    folded_suits (Some v) level code fits = (constant_suits parameters (register_at level (Integer v.kind)) v (is_at level (Integer v.kind)), tt)
    folded_suits None level code fits = fits

    mutual
      pub expression_suits : (level : ℕ) (e : Term) (k : VariableType) → Types c e k → Suit parameters (expr_code scope level e)
      expression_suits level _ _ (rule.number {v = v}) = (constant_suits parameters (register_at level (Integer v.kind)) v (is_at level (Integer v.kind)), tt)
      expression_suits level _ _ (rule.variable {x = x} {d = d} {k = k} is value) =
          variable_suits level (kind_named scope x) x d k is (value_is d k value) ((m x d is).declared ∙ value_is d k value)
      expression_suits level _ _ (rule.element {x = x} {d = d} {t = t} {u = u} {e = e} is of index) =
          subst (λ b. Suit parameters (if b then expr_code scope level e ++ private_load scope (register_at level (Integer (type_of_elements scope x))) x (register_for scope level e) ∷ []
          else address_code scope level x e ++ instruction.Load (register_at level (Integer (type_of_elements scope x))) (register_at level (kind_named scope x)) ∷ [])) (sym (m x d is).array)
          (loaded_suits level x d e t u is of index (expression_suits level e (Integer u) index) (expression_suits (level + 1) e (Integer u) index))
      expression_suits level _ _ (rule.address {x = x} {d = d} {p = p} {u = u} {e = e} is value index) =
          element_suits level x d p (expr_code scope (level + 1) e) (register_for scope (level + 1) e) u is (value_is d (Pointer p) value) (expression_suits (level + 1) e (Integer u) index)
          (is_as (level + 1) (kind_of scope e) (Integer u) (type_is e (Integer u) index))
      expression_suits level _ _ (rule.dereference {p = p} {e = e} pointer) =
          let same = type_is e (Pointer p) pointer in
          suit_both parameters (expr_code scope level e) (instruction.Load (register_at level (Integer (base_type (kind_of scope e)))) (register_for scope level e) ∷ []) (expression_suits level e (Pointer p) pointer) (
            load_suits parameters (register_at level (Integer (base_type (kind_of scope e)))) (register_for scope level e) p.element
                (is_as level (Integer (base_type (kind_of scope e))) (Integer p.element) (ap (λ k. Integer (base_type k)) same)) (is_as level (kind_of scope e) (Pointer p) same),
            tt,
          )
      expression_suits level _ _ (rule.call {a = a} {x = x} {f = f} {es = es} {ks = ks} {k = k} is arguments calls) =
          let to = register_for scope level (tree.Call a x es) in
          folded_suits (constant_of scope.variables (tree.Call a x es)) level _
          (suit_both parameters (terms_code scope level es) (call_code (built_in x) to (registers_for scope level es)) (terms_suit level es ks arguments)
          (subst (λ g. Suit parameters (call_code g to (registers_for scope level es))) (sym (built_in_is c x f is))
          (subst (λ rs. Suit parameters (call_code (Some f) to rs)) (sym (registers_are scope level es ∙ ap (numbered level) (types_are es ks arguments)))
          (call_suits f ks k calls level to (is_as level (kind_of scope (tree.Call a x es)) k (type_is (tree.Call a x es) k (rule.call is arguments calls)))))))
      expression_suits level _ _ (rule.unary {a = a} {op = op} {t = t} {e = e} operand) =
          folded_suits (constant_of scope.variables (tree.Unary a op e)) level _
          (suit_both parameters (expr_code scope level e) (instruction.Unary (register_for scope level (tree.Unary a op e)) op (register_for scope level e) ∷ []) (expression_suits level e (Integer t) operand) (
            unary_suits parameters (register_for scope level (tree.Unary a op e)) (register_for scope level e) op t
                (is_as level (kind_of scope (tree.Unary a op e)) (Integer (unary_kind op t)) (type_is (tree.Unary a op e) (Integer (unary_kind op t)) (rule.unary operand)))
                (is_as level (kind_of scope e) (Integer t) (type_is e (Integer t) operand)),
            tt,
          ))
      expression_suits level _ _ (rule.cast {a = a} {t = t} {u = u} {e = e} operand) =
          folded_suits (constant_of scope.variables (tree.Cast a t e)) level _
          (suit_both parameters (expr_code scope level e) (instruction.Convert (register_at level (Integer t)) (register_for scope level e) t ∷ []) (expression_suits level e (Integer u) operand)
          (convert_suits parameters (register_at level (Integer t)) (register_for scope level e) t u (is_at level (Integer t)) (is_as level (kind_of scope e) (Integer u) (type_is e (Integer u) operand)), tt))
      expression_suits level _ _ (rule.binary {a = a} {op = op} {d = d} {e = e} {j = j} {k = k} {r = r} left right operates) =
          folded_suits (constant_of scope.variables (tree.Binary a op d e)) level _
          (suit_both parameters (expr_code scope level d)
          (infix_code op (register_for scope level (tree.Binary a op d e)) (register_for scope level d) (register_for scope (level + 1) e) (expr_code scope (level + 1) e))
          (expression_suits level d j left)
          (infix_suits op level (kind_of scope (tree.Binary a op d e)) (register_for scope level d) (register_for scope (level + 1) e) (expr_code scope (level + 1) e) j k r operates
          (type_is (tree.Binary a op d e) r (rule.binary left right operates))
          (is_as level (kind_of scope d) j (type_is d j left)) (is_as (level + 1) (kind_of scope e) k (type_is e k right)) (expression_suits (level + 1) e k right)))
      expression_suits level _ _ (rule.choice {a = a} {s = s} {t = t} {u = u} {e = e} {d = d} {f = f} condition chosen otherwise) =
          let kind = kind_of scope (tree.Choice a e d f) in
          let same = type_is (tree.Choice a e d f) (Integer (common t u)) (rule.choice condition chosen otherwise) in
          let first = branch_code (register_at level kind) (expr_code scope level d) (register_for scope level d) (kind_of scope f) in
          let second = branch_code (register_at level kind) (expr_code scope level f) (register_for scope level f) (kind_of scope d) in
          let chosen_is = type_is d (Integer t) chosen in
          let otherwise_is = type_is f (Integer u) otherwise in
          folded_suits (constant_of scope.variables (tree.Choice a e d f)) level _
          (suit_both parameters (expr_code scope level e) (instruction.JumpIfZero (register_for scope level e) (length first + 1) ∷ (first ++ instruction.Jump (length second) ∷ second))
          (expression_suits level e (Integer s) condition) (
            branch_suits parameters (register_for scope level e) (length first + 1) s (is_as level (kind_of scope e) (Integer s) (type_is e (Integer s) condition)),
            suit_both parameters first (instruction.Jump (length second) ∷ second)
                (branch_suit level kind (expr_code scope level d) (register_for scope level d) t u (kind_of scope f) same otherwise_is (is_as level (kind_of scope d) (Integer t) chosen_is) (expression_suits level d (Integer t) chosen)) (
                  (λ code same wide. tt),
                  branch_suit level kind (expr_code scope level f) (register_for scope level f) u t (kind_of scope d) (same ∙ ap Integer (common_either t u)) chosen_is (is_as level (kind_of scope f) (Integer u) otherwise_is) (expression_suits level f (Integer u) otherwise),
                ),
          ))

      pub terms_suit : (level : ℕ) (es : Terms) (ks : List VariableType) → TypesAll c es ks → Suit parameters (terms_code scope level es)
      terms_suit level _ _ rule.no_argument = tt
      terms_suit level _ _ (rule.argument {es = es} {e = e} {ks = ks} {k = k} arguments last) =
          suit_both parameters (terms_code scope level es) (expr_code scope (level + count es) e) (terms_suit level es ks arguments) (expression_suits (level + count es) e k last)

    pub target_suits : (level : ℕ) (place : Target) (k : VariableType) → TypesTarget c place k → Suit parameters (target_code scope level place)
    target_suits level _ _ (rule.variable_target is) = tt
    target_suits level _ _ (rule.element_target {x = x} {d = d} {t = t} {u = u} {e = e} is of stored index) =
        subst (λ b. Suit parameters (if b then expr_code scope level e else address_code scope level x e)) (sym (m x d is).array)
        (reached_suits level x d e t u is of index (expression_suits level e (Integer u) index) (expression_suits (level + 1) e (Integer u) index))
    target_suits level _ _ (rule.dereference_target {p = p} {e = e} writable pointer) =
        let is = is_as level (kind_of scope e) (Pointer p) (type_is e (Pointer p) pointer) in
        suit_both parameters (expr_code scope level e) (instruction.MovePointer (register_for scope level e) (register_for scope level e) ∷ []) (expression_suits level e (Pointer p) pointer)
        (point_suits parameters (register_for scope level e) (register_for scope level e) (Pointer p) is is refl, tt)

pub expressions_suit : ExpressionsSuit
expressions_suit parameters c scope level e kind m types = expression_suits c scope m parameters level e kind types

pub targets_suit : TargetsSuit
targets_suit parameters c scope level place kind m types = target_suits c scope m parameters level place kind types
