-- The code of what typed statements assign, and of the calls in them, names registers of the kinds that its
-- instructions want.
use Rattle.std.proofs.Common.{◌≡◌, ℕ, ◌+◌, if◌then◌else◌, Bool, true, false, IsTrue, Option, None, Some, List, [], ◌∷◌, ◌++◌, length, slice_get, refl, ap, ap₂, sym, subst, ◌∙◌, arith}
use Rattle.std.proofs.lemmas.List.{length-append}
use Rattle.std.proofs.lemmas.Option.{same_Some}
use Rattle.clnum.specs.declared.int_type.IntType.{IntType}
use Rattle.clnum.specs.declared.int_type.IntType.TheVariants.{Char, Uchar, Short, Ushort, Int, Uint, Long, Ulong}
use Rattle.clnum.specs.declared.operators.BinaryOperator.{BinaryOperator}
use Rattle.clmodel.specs.Barrier.{is_barrier, fences}
use Rattle.clmodel.specs.BuiltIns.{built_in}
use Rattle.clmodel.specs.Next.{base_type, infix_type, argument_type, call_type, is_update, step_operator, helper_or, helper_call}
use Rattle.clmodel.specs.Tree as tree
use Rattle.clmodel.specs.Tree.{Term, Terms, Target, MaybeTerm}
use Rattle.clmodel.specs.Typing.Context.{Context, Signature, element_type, Bound, meaning, BuiltInFunction, Barrier}
use Rattle.clmodel.specs.Typing.Rules as rule
use Rattle.clmodel.specs.Typing.Rules.{Types, TypesAll, TypesTarget, Passes, Operates, AreGiven, CallsHelper, Gives, IsCondition}
use Rattle.clmodel.specs.declared.action.Fences.{Fences}
use Rattle.clmodel.specs.declared.declaration.Declaration.{Declaration}
use Rattle.clmodel.specs.declared.declaration.Declaration.TheVariants.{Single, LocalArray, PrivateArray}
use Rattle.clmodel.specs.declared.setup.AtomicFunction.{AtomicFunction}
use Rattle.clmodel.specs.declared.setup.BuiltIn.{BuiltIn}
use Rattle.clmodel.specs.declared.setup.BuiltIn.TheVariants as built_in_function
use Rattle.clmodel.specs.declared.tree.AddressSpace.TheVariants.{Local}
use Rattle.clmodel.specs.declared.tree.PointerType.{PointerType}
use Rattle.clmodel.specs.declared.tree.InfixOperator.TheVariants.{Arithmetic}
use Rattle.clmodel.specs.declared.tree.VariableType.{VariableType}
use Rattle.clmodel.specs.declared.tree.VariableType.TheVariants.{Integer, Pointer}
use Rattle.regcode.specs.Rules as rules
use Rattle.regcode.specs.declared.instruction.Instruction.{Instruction}
use Rattle.regcode.specs.declared.instruction.Instruction.TheVariants as instruction
use Rattle.regcode.specs.declared.tables.RegisterKind.TheVariants as register_kinds
use Rattle.lower_expr.specs.Scope.{Scope, register_at, level_of, free_level}
use Rattle.lower_expr.specs.Expressions.{kind_of, kind_named, type_of_elements, private_load, private_store, register_for, registers_for, expr_code, terms_code, target_code, target_register, update_code, call_only_code, count}
use Rattle.lower_code.specs.Code.{Calls, result_type, needed_code, no_value_code, value_code, set_variable_code, type_of_target, fetch_code, put_code, combine_code, wait_code, condition_code, turn_code, right_code, right_type, assign_code, compound_code, step_code, call_only_statement}
use Rattle.lower.specs.Accepted.{declared_kind, is_private, Is, Matches, Suit}
use Rattle.lower.proofs.Suiting.{is_at, is_as, suit_both, suit_either, constant_suits, hold_suits, binary_suits, store_suits, load_suits, private_load_suits, private_store_suits, update_suits, update_by_one_suits, branch_suits}
use Rattle.lower.proofs.Suited.{element_is, built_in_is, barrier_is, infix_is, call_is, argument_is, first_of, types_are, type_is, numbered, registers_are, variable_suits, call_suits, expression_suits, terms_suit, target_suits}
use Rattle.lower.proofs.CallCode.{Called, AreKnown, helper_of, right_is_call, statement_is_call}

-- the registers of arguments can be given to parameters of these types, as far as there are both
abbrev pub Filled : List VariableType → List ℕ → Type 0
Filled [] numbers = Unit {0}
Filled (p ∷ ps) [] = Unit {0}
Filled (p ∷ ps) (number ∷ numbers) = ((k : VariableType) × (Is number k × Passes p k)) × Filled ps numbers

pub filled_none : (ps : List VariableType) → Filled ps []
filled_none [] = tt
filled_none (p ∷ ps) = tt

filled_more : (ps : List VariableType) (numbers : List ℕ) (p k : VariableType) (number : ℕ) → Filled ps numbers → slice_get ps (length numbers) ≡ Some p → Is number k → Passes p k
    → Filled ps (numbers ++ number ∷ [])
filled_more [] numbers p k number filled is of passes = tt
filled_more (q ∷ ps) [] p k number filled is of passes = ((k, (of, subst (λ r. Passes r k) (sym (same_Some q p is)) passes)), filled_none ps)
filled_more (q ∷ ps) (first ∷ numbers) p k number filled is of passes = (filled.0, filled_more ps numbers p k number filled.1 is of passes)

counted : (scope : Scope) (level : ℕ) (es : Terms) → length (registers_for scope level es) ≡ rule.count es
counted scope level tree.NoTerm = refl
counted scope level (tree.ThenTerm es e) =
    let all = length-append (registers_for scope level es) (register_for scope (level + count es) e ∷ []) in
    let before = counted scope level es in
    omega (arith, all, before)

pub no_helper : (c : Context) (e : Term) (k : VariableType) → Types c e k → helper_call e ≡ None
no_helper c _ _ (rule.call {x = x} {f = f} {es = es} is arguments calls) =
    ap (λ g. helper_or g (record { name = x; arguments = es })) (built_in_is c x f is)
no_helper c _ _ rule.number = refl
no_helper c _ _ (rule.variable is value) = refl
no_helper c _ _ (rule.element is of index) = refl
no_helper c _ _ (rule.address is value index) = refl
no_helper c _ _ (rule.dereference pointer) = refl
no_helper c _ _ (rule.unary operand) = refl
no_helper c _ _ (rule.cast operand) = refl
no_helper c _ _ (rule.binary left right operates) = refl
no_helper c _ _ (rule.choice condition chosen otherwise) = refl

atomic_known : (t : IntType) → rule.is_atomic t ≡ true → IsTrue (rules.is_atomic (Some (register_kinds.Pointer t)))
atomic_known Int e = refl
atomic_known Uint e = refl
atomic_known Char e = absurd (cc)
atomic_known Uchar e = absurd (cc)
atomic_known Short e = absurd (cc)
atomic_known Ushort e = absurd (cc)
atomic_known Long e = absurd (cc)
atomic_known Ulong e = absurd (cc)

step_operates : (is_increment : Bool) (k : VariableType) → (r : VariableType) × (Operates (Arithmetic (step_operator is_increment)) k (Integer Int) r × Passes k r)
step_operates true (Integer t) = (_, (rule.arithmetic, rule.integers))
step_operates false (Integer t) = (_, (rule.arithmetic, rule.integers))
step_operates true (Pointer p) = (Pointer p, (rule.pointer_sum, rule.pointers refl (λ e. e) refl))
step_operates false (Pointer p) = (Pointer p, (rule.pointer_difference, rule.pointers refl (λ e. e) refl))

-- what the code of a call owes
abbrev pub SuitCall : List VariableType → List VariableType → List ℕ → ℕ → List Instruction → Type 0
SuitCall parameters taken numbers level code = Filled taken numbers → Suit parameters code

module _ (parameters : List VariableType) where
  pub no_value_suits : (result : Option IntType) → Suit parameters (no_value_code result)
  no_value_suits None = tt
  no_value_suits (Some kind) = ((λ code same wide. tt), tt)

  pub value_suits : (result : Option IntType) (level from : ℕ) (u : IntType) → Is from (Integer u) → Suit parameters (value_code result level from)
  value_suits None level from u of = tt
  value_suits (Some kind) level from u of = (hold_suits parameters (register_at level (Integer kind)) from (Integer kind) (Integer u) (is_at level (Integer kind)) of rule.integers, tt)

  needed_suits : (result : Option IntType) → Suit parameters (needed_code result)
  needed_suits None = ((λ code same wide. tt), tt)
  needed_suits (Some kind) = tt

  wait_suits : (named : Option Fences) (site depth : ℕ) → Suit parameters (wait_code named site depth)
  wait_suits None site depth = ((λ code same wide. tt), tt)
  wait_suits (Some named) site depth = ((λ code same wide. tt), tt)

  pub turn_suits : (depth : ℕ) (body condition : List Instruction) → Suit parameters body → Suit parameters condition → Suit parameters (turn_code depth body condition)
  turn_suits depth body condition b c =
      let back : List Instruction = instruction.Back (length body + length condition + 1) ∷ [] in
      ((λ code same wide. tt), suit_both parameters body (condition ++ back) b (suit_both parameters condition back c ((λ code same wide. tt), tt)))

module _ (c : Context) (scope : Scope) (m : Matches c scope) where
  target_type_is : (place : Target) (k : VariableType) → TypesTarget c place k → type_of_target scope place ≡ k
  target_type_is _ _ (rule.variable_target {x = x} {k = k} is) = (m x (Single k) is).declared
  target_type_is _ _ (rule.element_target {x = x} {d = d} {t = t} is of stored index) = ap (λ k. Integer (base_type k)) (m x d is).declared ∙ ap Integer (element_is d t of)
  target_type_is _ _ (rule.dereference_target {p = p} {e = e} writable pointer) = ap (λ k. Integer (base_type k)) (type_is c scope m e (Pointer p) pointer)

  filled : (level : ℕ) (ps : List VariableType) (es : Terms) → AreGiven c ps es → Filled ps (registers_for scope level es)
  filled level ps _ rule.no_argument = filled_none ps
  filled level ps _ (rule.argument {es = es} {e = e} {p = p} {k = k} given types at passes) =
      filled_more ps (registers_for scope level es) p k (register_for scope (level + count es) e) (filled level ps es given)
      (ap (slice_get ps) (counted scope level es) ∙ at) (is_as (level + count es) (kind_of scope e) k (type_is c scope m e k types)) passes

  module _ (parameters : List VariableType) where
    terms_given : (level : ℕ) (ps : List VariableType) (es : Terms) → AreGiven c ps es → Suit parameters (terms_code scope level es)
    terms_given level ps _ rule.no_argument = tt
    terms_given level ps _ (rule.argument {es = es} {e = e} {k = k} given types at passes) =
        suit_both parameters (terms_code scope level es) (expr_code scope (level + count es) e) (terms_given level ps es given)
        (expression_suits c scope m parameters (level + count es) e k types)

    -- an element behind a pointer
    pointer_loaded : (level x : ℕ) (d : Declaration) (p : PointerType) → meaning c x ≡ Bound d → declared_kind d ≡ Pointer p
        → Suit parameters (instruction.Load (register_at (level + 1) (Integer (type_of_elements scope x))) (register_at level (kind_named scope x)) ∷ [])
    pointer_loaded level x d p is held =
        let kind = kind_named scope x in
        let same = (m x d is).declared ∙ held in (
          load_suits parameters (register_at (level + 1) (Integer (type_of_elements scope x))) (register_at level kind) p.element
              (is_as (level + 1) (Integer (type_of_elements scope x)) (Integer p.element) (ap (λ k. Integer (base_type k)) same)) (is_as level kind (Pointer p) same),
          tt,
        )

    pointer_stored : (level from x : ℕ) (d : Declaration) (p : PointerType) (u : IntType) → meaning c x ≡ Bound d → declared_kind d ≡ Pointer p → Is from (Integer u)
        → Suit parameters (instruction.Store (register_at level (kind_named scope x)) from ∷ [])
    pointer_stored level from x d p u is held of =
        (store_suits parameters (register_at level (kind_named scope x)) from p.element u (is_as level (kind_named scope x) (Pointer p) ((m x d is).declared ∙ held)) of, tt)

    -- an element, by the index of a private array or a pointer
    part_loaded : (level x : ℕ) (d : Declaration) (e : Term) (t u : IntType) → meaning c x ≡ Bound d → element_type d ≡ Some t → Types c e (Integer u)
        → Suit parameters (if is_private d then private_load scope (register_at (level + 1) (Integer (type_of_elements scope x))) x (if is_private d then register_for scope level e else register_at level (kind_named scope x)) ∷ []
        else instruction.Load (register_at (level + 1) (Integer (type_of_elements scope x))) (if is_private d then register_for scope level e else register_at level (kind_named scope x)) ∷ [])
    part_loaded level x (Single (Integer j)) e t u is of index = absurd (cc)
    part_loaded level x (Single (Pointer p)) e t u is of index = pointer_loaded level x (Single (Pointer p)) p is refl
    part_loaded level x (LocalArray j) e t u is of index = pointer_loaded level x (LocalArray j) (record { space = Local; is_const = false; element = j }) is refl
    part_loaded level x (PrivateArray j) e t u is of index = (
      private_load_suits parameters (register_at (level + 1) (Integer (type_of_elements scope x))) (level_of scope x) (register_for scope level e) x (type_of_elements scope x) u
          (is_at (level + 1) (Integer (type_of_elements scope x))) (is_as level (kind_of scope e) (Integer u) (type_is c scope m e (Integer u) index)),
      tt,
    )

    part_stored : (level from x : ℕ) (d : Declaration) (e : Term) (t u v : IntType) → meaning c x ≡ Bound d → element_type d ≡ Some t → Types c e (Integer u) → Is from (Integer v)
        → Suit parameters (if is_private d then private_store scope x (if is_private d then register_for scope level e else register_at level (kind_named scope x)) from ∷ []
        else instruction.Store (if is_private d then register_for scope level e else register_at level (kind_named scope x)) from ∷ [])
    part_stored level from x (Single (Integer j)) e t u v is of index by = absurd (cc)
    part_stored level from x (Single (Pointer p)) e t u v is of index by = pointer_stored level from x (Single (Pointer p)) p v is refl by
    part_stored level from x (LocalArray j) e t u v is of index by = pointer_stored level from x (LocalArray j) (record { space = Local; is_const = false; element = j }) v is refl by
    part_stored level from x (PrivateArray j) e t u v is of index by =
        (private_store_suits parameters (level_of scope x) (register_for scope level e) from x (type_of_elements scope x) u v (is_as level (kind_of scope e) (Integer u) (type_is c scope m e (Integer u) index)) by, tt)

    fetch_suits : (level : ℕ) (place : Target) (k : VariableType) → TypesTarget c place k
        → Suit parameters (fetch_code scope place (target_register scope level place) (register_at (level + 1) (type_of_target scope place)))
    fetch_suits level _ _ (rule.variable_target {x = x} {k = k} is) = variable_suits c scope m parameters (level + 1) (kind_named scope x) x (Single k) k is refl (m x (Single k) is).declared
    fetch_suits level _ _ (rule.element_target {x = x} {d = d} {t = t} {u = u} {e = e} is of stored index) =
        let target = register_at (level + 1) (Integer (type_of_elements scope x)) in
        let there = register_for scope level e in
        let pointer = register_at level (kind_named scope x) in
        subst (λ b. Suit parameters (if b then private_load scope target x (if b then there else pointer) ∷ [] else instruction.Load target (if b then there else pointer) ∷ [])) (sym (m x d is).array)
        (part_loaded level x d e t u is of index)
    fetch_suits level _ _ (rule.dereference_target {p = p} {e = e} writable pointer) =
        let kind = kind_of scope e in
        let same = type_is c scope m e (Pointer p) pointer in (
          load_suits parameters (register_at (level + 1) (Integer (base_type kind))) (register_at level kind) p.element
              (is_as (level + 1) (Integer (base_type kind)) (Integer p.element) (ap (λ k. Integer (base_type k)) same)) (is_as level kind (Pointer p) same),
          tt,
        )

    put_suits : (level from : ℕ) (place : Target) (k r : VariableType) → TypesTarget c place k → Passes k r → Is from r
        → Suit parameters (put_code scope place (target_register scope level place) from)
    put_suits level from _ _ r (rule.variable_target {x = x} {k = k} is) passes of =
        let there = m x (Single k) is in
        subst (λ o. Suit parameters (set_variable_code o from (kind_named scope x))) (sym there.register) (
          hold_suits parameters (register_at there.level k) from (kind_named scope x) r (is_as there.level k (kind_named scope x) (sym there.declared)) of
              (subst (λ q. Passes q r) (sym there.declared) passes),
          tt,
        )
    put_suits level from _ _ _ (rule.element_target {x = x} {d = d} {t = t} {u = u} {e = e} is of stored index) (rule.integers {u = v}) by =
        let there = register_for scope level e in
        let pointer = register_at level (kind_named scope x) in
        subst (λ b. Suit parameters (if b then private_store scope x (if b then there else pointer) from ∷ [] else instruction.Store (if b then there else pointer) from ∷ [])) (sym (m x d is).array)
        (part_stored level from x d e t u v is of index by)
    put_suits level from _ _ _ (rule.dereference_target {p = p} {e = e} writable pointer) (rule.integers {u = u}) of =
        (store_suits parameters (register_for scope level e) from p.element u (is_as level (kind_of scope e) (Pointer p) (type_is c scope m e (Pointer p) pointer)) of, tt)

    combine_suits : (level : ℕ) (place : Target) (operator : BinaryOperator) (kind : VariableType) (old right : ℕ) (k j r : VariableType) → TypesTarget c place k → kind ≡ j
        → Operates (Arithmetic operator) k j r → Passes k r → Is old k → Is right j → Suit parameters (combine_code scope place level operator kind old right)
    combine_suits level place operator kind old right k j r types e operates passes of by =
        let result = infix_type (Arithmetic operator) (type_of_target scope place) kind in
        let is = is_as (level + 1) result r (ap₂ (infix_type (Arithmetic operator)) (target_type_is place k types) e ∙ infix_is k j r operates) in (
          binary_suits parameters (register_at (level + 1) result) old right operator k j r is of by operates,
          put_suits level (register_at (level + 1) result) place k r types passes is,
        )

    pub step_suits : (level : ℕ) (place : Target) (is_increment : Bool) (k : VariableType) (calls : Calls) (results : ℕ → Option IntType) (inside : ℕ → ℕ) (result : Option IntType)
        → TypesTarget c place k → Suit parameters (step_code calls results inside result scope level place (step_operator is_increment))
    step_suits level place is_increment k calls results inside result types =
        let operator = step_operator is_increment in
        let old = register_at (level + 1) (type_of_target scope place) in
        let one = register_at (level + 2) (Integer Int) in
        let by = step_operates is_increment k in
        suit_both parameters (target_code scope level place) _ (target_suits c scope m parameters level place k types)
        (suit_both parameters (fetch_code scope place (target_register scope level place) old) _ (fetch_suits level place k types) (
          constant_suits parameters one _ (is_at (level + 2) (Integer Int)),
          combine_suits level place operator (Integer Int) old one k (Integer Int) by.0 types refl by.1.0 by.1.1 (is_as (level + 1) (type_of_target scope place) k (target_type_is place k types)) (is_at (level + 2) (Integer Int)),
        ))

    pub condition_suits : (test : MaybeTerm) → IsCondition c test → Suit parameters (condition_code scope test)
    condition_suits _ rule.always = tt
    condition_suits _ (rule.condition {e = e} {t = t} types) =
        let level = free_level scope in
        suit_both parameters (expr_code scope level e) (instruction.JumpIfZero (register_for scope level e) 1 ∷ []) (expression_suits c scope m parameters level e (Integer t) types)
        (branch_suits parameters (register_for scope level e) 1 t (is_as level (kind_of scope e) (Integer t) (type_is c scope m e (Integer t) types)), tt)

    -- a built-in function whose value isn't used
    atomic_suits : (f : AtomicFunction) (ks : List VariableType) (k : VariableType) → rule.Calls (built_in_function.Atomic f) ks k → (level to : ℕ) → Is to k
        → (IsTrue (is_update f) → Suit parameters (update_code f (numbered level ks)))
        → Suit parameters (call_only_code (Some (built_in_function.Atomic f)) to (numbered level ks))
    atomic_suits f ks k by level to is update =
        suit_either parameters (is_update f) (update_code f (numbered level ks)) _ update (call_suits c scope m parameters (built_in_function.Atomic f) ks k by level to is)

    only_code_suits : (f : BuiltIn) (ks : List VariableType) (k : VariableType) → rule.Calls f ks k → (level to : ℕ) → Is to k → Suit parameters (call_only_code (Some f) to (numbered level ks))
    only_code_suits _ _ _ rule.work_dim level to is = call_suits c scope m parameters _ _ _ rule.work_dim level to is
    only_code_suits _ _ _ (rule.work_item {f = f} {t = t}) level to is = call_suits c scope m parameters _ _ _ (rule.work_item {f = f} {t = t}) level to is
    only_code_suits _ _ _ (rule.min {t = t}) level to is = call_suits c scope m parameters _ _ _ (rule.min {t = t}) level to is
    only_code_suits _ _ _ (rule.max {t = t}) level to is = call_suits c scope m parameters _ _ _ (rule.max {t = t}) level to is
    only_code_suits _ _ _ (rule.rotate {t = t}) level to is = call_suits c scope m parameters _ _ _ (rule.rotate {t = t}) level to is
    only_code_suits _ _ _ (rule.abs {t = t}) level to is = call_suits c scope m parameters _ _ _ (rule.abs {t = t}) level to is
    only_code_suits _ _ _ (rule.clz {t = t}) level to is = call_suits c scope m parameters _ _ _ (rule.clz {t = t}) level to is
    only_code_suits _ _ _ (rule.popcount {t = t}) level to is = call_suits c scope m parameters _ _ _ (rule.popcount {t = t}) level to is
    only_code_suits _ ks k (rule.atomic {f = f} {p = p} {t = t} h a w) level to is =
        atomic_suits f ks k (rule.atomic {f = f} {p = p} {t = t} h a w) level to is (λ updates. (
          update_suits parameters f (register_at level (Pointer p)) (register_at (level + 1) (Integer t)) p.element t updates (is_at level (Pointer p)) (atomic_known p.element a) (is_at (level + 1) (Integer t)),
          tt,
        ))
    only_code_suits _ ks k (rule.atomic_alone {f = f} {p = p} h a w) level to is =
        atomic_suits f ks k (rule.atomic_alone {f = f} {p = p} h a w) level to is
        (λ updates. (update_by_one_suits parameters f (register_at level (Pointer p)) p.element updates (is_at level (Pointer p)) (atomic_known p.element a), tt))
    only_code_suits _ ks k (rule.atomic_pair {f = f} {p = p} {t = t} {u = u} h a w) level to is =
        atomic_suits f ks k (rule.atomic_pair {f = f} {p = p} {t = t} {u = u} h a w) level to is (λ updates. ((λ code same wide. tt), tt))

    module _ (calls : Calls) (results : ℕ → Option IntType) (inside : ℕ → ℕ) (result : Option IntType) where
      only_case : (waits : Bool) (f : BuiltIn) (x : ℕ) (es : Terms) (ks : List VariableType) (r : VariableType) → TypesAll c es ks → rule.Calls f ks r → (depth site : ℕ)
          → Suit parameters (call_only_statement calls results inside result scope waits (Some f) x es depth site)
      only_case true f x es ks r arguments by depth site = wait_suits parameters (fences es) site depth
      only_case false f x es ks r arguments by depth site =
          let level = free_level scope in
          let kind = Integer (call_type (Some f) (argument_type scope.variables es)) in
          let to = register_at level kind in
          suit_both parameters (terms_code scope level es) (call_only_code (Some f) to (registers_for scope level es)) (terms_suit c scope m parameters level es ks arguments)
          (subst (λ rs. Suit parameters (call_only_code (Some f) to rs)) (sym (registers_are scope level es ∙ ap (numbered level) (types_are c scope m es ks arguments)))
          (only_code_suits f ks r by level to (is_as level kind r (ap (λ t. Integer (call_type (Some f) t)) (argument_is scope es ∙ ap first_of (types_are c scope m es ks arguments)) ∙ call_is f ks r by))))

      pub only_suits : (f : BuiltIn) (x : ℕ) (es : Terms) (ks : List VariableType) (r : VariableType) → meaning c x ≡ BuiltInFunction f → TypesAll c es ks → rule.Calls f ks r → (depth site : ℕ)
          → Suit parameters (call_only_statement calls results inside result scope (is_barrier x) (built_in x) x es depth site)
      only_suits f x es ks r is arguments by depth site =
          subst (λ g. Suit parameters (call_only_statement calls results inside result scope (is_barrier x) g x es depth site)) (sym (built_in_is c x f is))
          (only_case (is_barrier x) f x es ks r arguments by depth site)

      pub only_barrier_suits : (x : ℕ) (es : Terms) → meaning c x ≡ Barrier → (depth site : ℕ)
          → Suit parameters (call_only_statement calls results inside result scope (is_barrier x) (built_in x) x es depth site)
      only_barrier_suits x es is depth site =
          subst (λ b. Suit parameters (call_only_statement calls results inside result scope b (built_in x) x es depth site)) (sym (barrier_is c x is))
          (wait_suits parameters (fences es) site depth)

      module _ (known : AreKnown (λ x. SuitCall parameters) calls results c) where
        helper : (x : ℕ) (es : Terms) (s : Signature) → CallsHelper c x es s → Called (SuitCall parameters) calls results x s
        helper x es s call = helper_of (λ x. SuitCall parameters) calls results c known x es s call

        pub only_helper_suits : (x : ℕ) (es : Terms) (s : Signature) → CallsHelper c x es s → (depth site : ℕ)
            → Suit parameters (call_only_statement calls results inside result scope (is_barrier x) (built_in x) x es depth site)
        only_helper_suits x es s call depth site =
            let level = free_level scope in
            subst (Suit parameters) (sym (statement_is_call (λ x. SuitCall parameters) calls results inside result c known scope x es s call depth site))
            (suit_both parameters (terms_code scope level es) (calls x (registers_for scope level es) level depth site) (terms_given level s.parameters es call.arguments)
            ((helper x es s call).code (registers_for scope level es) level depth site (filled level s.parameters es call.arguments)))

        pub right_is : (e : Term) (k : VariableType) → Gives c e k → right_type calls results inside result scope (helper_call e) e ≡ k
        right_is e k (rule.expression types) = ap (λ h. right_type calls results inside result scope h e) (no_helper c e k types) ∙ type_is c scope m e k types
        right_is _ _ (rule.helper {a = a} {x = x} {es = es} {s = s} {t = t} call gives) =
            let h = helper x es s call in
            ap (λ f. right_type calls results inside result scope (helper_or f (record { name = x; arguments = es })) (tree.Call a x es)) h.is_helper ∙ ap result_type (h.result ∙ gives)

        pub right_suits : (level : ℕ) (e : Term) (k : VariableType) → Gives c e k → (depth site : ℕ) → Suit parameters (right_code calls results inside result scope level (helper_call e) e depth site)
        right_suits level e k (rule.expression types) depth site =
            subst (λ h. Suit parameters (right_code calls results inside result scope level h e depth site)) (sym (no_helper c e k types)) (expression_suits c scope m parameters level e k types)
        right_suits level _ _ (rule.helper {a = a} {x = x} {es = es} {s = s} {t = t} call gives) depth site =
            let numbers = registers_for scope level es in
            subst (Suit parameters) (sym (right_is_call (λ x. SuitCall parameters) calls results inside result c known scope a x es s call level depth site))
            (suit_both parameters (terms_code scope level es) (calls x numbers level depth site ++ needed_code (results x)) (terms_given level s.parameters es call.arguments)
            (suit_both parameters (calls x numbers level depth site) (needed_code (results x))
            ((helper x es s call).code numbers level depth site (filled level s.parameters es call.arguments)) (needed_suits parameters (results x))))

        pub assign_suits : (level : ℕ) (place : Target) (e : Term) (k j : VariableType) → TypesTarget c place k → Gives c e j → Passes k j → (depth site : ℕ)
            → Suit parameters (assign_code calls results inside result scope level place (helper_call e) e depth site)
        assign_suits level place e k j types gives passes depth site =
            let kind = right_type calls results inside result scope (helper_call e) e in
            suit_both parameters (target_code scope level place) _ (target_suits c scope m parameters level place k types)
            (suit_both parameters (right_code calls results inside result scope (level + 1) (helper_call e) e depth site) _ (right_suits (level + 1) e j gives depth site)
            (put_suits level (register_at (level + 1) kind) place k j types passes (is_as (level + 1) kind j (right_is e j gives))))

        pub compound_suits : (level : ℕ) (place : Target) (operator : BinaryOperator) (e : Term) (k j r : VariableType) → TypesTarget c place k → Gives c e j → Operates (Arithmetic operator) k j r → Passes k r
            → (depth site : ℕ) → Suit parameters (compound_code calls results inside result scope level place operator (helper_call e) e depth site)
        compound_suits level place operator e k j r types gives operates passes depth site =
            let kind = right_type calls results inside result scope (helper_call e) e in
            let old = register_at (level + 1) (type_of_target scope place) in
            suit_both parameters (target_code scope level place) _ (target_suits c scope m parameters level place k types)
            (suit_both parameters (fetch_code scope place (target_register scope level place) old) _ (fetch_suits level place k types)
            (suit_both parameters (right_code calls results inside result scope (level + 2) (helper_call e) e depth site) _ (right_suits (level + 2) e j gives depth site)
            (combine_suits level place operator kind old (register_at (level + 2) kind) k j r types (right_is e j gives) operates passes
            (is_as (level + 1) (type_of_target scope place) k (target_type_is place k types)) (is_as (level + 2) kind j (right_is e j gives)))))
