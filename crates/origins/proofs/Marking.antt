-- Each instruction of an expression's code is one that its node makes.
use Rattle.std.proofs.Common.{◌≡◌, ℕ, ◌+◌, ◌==◌, Bool, true, false, Option, None, Some, List, [], ◌∷◌, ◌++◌, length, map, if◌then◌else◌, refl, sym, subst}
use Rattle.std.proofs.lemmas.List.{append_assoc}
use Rattle.clmodel.specs.BuiltIns.{built_in}
use Rattle.clmodel.specs.Next.{Variables, is_private_array, elements_of, has_elements, is_update}
use Rattle.clmodel.specs.Tree.{Term, Number, Variable, Element, ElementAddress, Dereference, Call, Unary, Cast, Binary, Choice, Terms, NoTerm, ThenTerm, Target, TargetVariable, TargetElement, TargetDereference}
use Rattle.clmodel.specs.declared.setup.AtomicFunction.{AtomicFunction}
use Rattle.clmodel.specs.declared.setup.BuiltIn.{BuiltIn}
use Rattle.clmodel.specs.declared.setup.BuiltIn.TheVariants as built_in_function
use Rattle.clmodel.specs.declared.tree.InfixOperator.{InfixOperator}
use Rattle.clmodel.specs.declared.tree.InfixOperator.TheVariants.{Arithmetic, LogicalAnd, LogicalOr}
use Rattle.clnum.specs.Integer.{Integer}
use Rattle.folding.specs.Constants.{constant_of}
use Rattle.regcode.specs.declared.instruction.Instruction.{Instruction}
use Rattle.regcode.specs.declared.instruction.Instruction.TheVariants as instruction
use Rattle.lower_expr.specs.Scope.{Scope, register_at, register_in}
use Rattle.lower_expr.specs.Expressions.{folded, expr_code, terms_code, target_code, variable_code, element_code, infix_code, call_code, update_code, call_only_code}
use Rattle.origins.specs.Names.{meaning_behind, meaning_of, variables_of, named, names_of, array_or_plain}
use Rattle.origins.specs.Origins.{Node, OfTerm, OfTarget, Origin, entered, times, variable_origins, address_origins, element_origins, indexed_origins, infix_before, infix_behind, folded_origins, expr_origins, terms_origins, target_origins}
use Rattle.origins.specs.Marks.{Suits, CallsAtomic, called, names, Each, Marks}
use Rattle.origins.proofs.Typed.{constant_named}
use Rattle.origins.specs.declared.names.Meaning.{Meaning}
use Rattle.origins.specs.declared.names.Meaning.TheVariants.{Unknown, Array, Plain}
use Rattle.origins.specs.declared.names.NamedVariable.{NamedVariable}

pub none : Marks [] []
none = record { each = tt }

pub more : {o : Origin} {os : List Origin} {i : Instruction} {is : List Instruction} → Suits i o.node → Marks os is → Marks (o ∷ os) (i ∷ is)
more h k = record { each = (h, k.each) }

pub single : {o : Origin} {i : Instruction} → Suits i o.node → Marks (o ∷ []) (i ∷ [])
single h = record { each = (h, tt) }

each_joined : (os ps : List Origin) (is js : List Instruction) → Each os is → Each ps js → Each (os ++ ps) (is ++ js)
each_joined [] ps [] js h k = k
each_joined [] ps (i ∷ is) js h k = absurd h
each_joined (o ∷ os) ps [] js h k = absurd h
each_joined (o ∷ os) ps (i ∷ is) js h k = (h.0, each_joined os ps is js h.1 k)

pub joined : {os ps : List Origin} {is js : List Instruction} → Marks os is → Marks ps js → Marks (os ++ ps) (is ++ js)
joined {os = os} {ps = ps} {is = is} {js = js} h k = record { each = each_joined os ps is js h.each k.each }

-- code that is joined the other way round
pub turned : {os : List Origin} (is js ks : List Instruction) → Marks os (is ++ (js ++ ks)) → Marks os ((is ++ js) ++ ks)
turned {os = os} is js ks h = subst (λ xs. Marks os xs) (sym (append_assoc is js ks)) h

each_entered : (at : ℕ) (os : List Origin) (is : List Instruction) → Each os is → Each (map (entered at) os) is
each_entered at [] [] h = h
each_entered at [] (i ∷ is) h = absurd h
each_entered at (o ∷ os) [] h = absurd h
each_entered at (o ∷ os) (i ∷ is) h = (h.0, each_entered at os is h.1)

-- in the body of a helper
pub inside : (at : ℕ) {os : List Origin} {is : List Instruction} → Marks os is → Marks (map (entered at) os) is
inside at {os = os} {is = is} h = record { each = each_entered at os is h.each }

-- a name stands for the same in the variables of a scope as in its code
abbrev pub Seen : Meaning → Bool → Option ℕ → Type 0
Seen Unknown false None = Unit {0}
Seen Unknown false (Some r) = ⊥
Seen Unknown true r = ⊥
Seen Array true (Some r) = Unit {0}
Seen Array true None = ⊥
Seen Array false r = ⊥
Seen Plain false (Some r) = Unit {0}
Seen Plain false None = ⊥
Seen Plain true r = ⊥

last_meaning : (found : Meaning) (vs : List NamedVariable) (v : NamedVariable) (name : ℕ)
    → meaning_behind found (vs ++ v ∷ []) name ≡ elim (name == v.name) as (λ _. Meaning) [ true ↦ v.meaning | false ↦ meaning_behind found vs name ]
last_meaning found [] v name = refl
last_meaning found (u ∷ vs) v name = last_meaning (elim (name == u.name) as (λ _. Meaning) [ true ↦ u.meaning | false ↦ found ]) vs v name

own_seen : (b : Bool) (r : ℕ) → Seen (array_or_plain b) b (Some r)
own_seen true r = tt
own_seen false r = tt

seen_chosen : (h : Bool) (own others : List (Option ℕ)) (m : Meaning) (r : ℕ) (o : Option ℕ) → Seen m (has_elements others) o
    → Seen (elim h as (λ _. Meaning) [ true ↦ array_or_plain (has_elements own) | false ↦ m ])
    (has_elements (elim h as (λ _. List (Option ℕ)) [ true ↦ own | false ↦ others ])) (elim h as (λ _. Option ℕ) [ true ↦ Some r | false ↦ o ])
seen_chosen true own others m r o h = own_seen (has_elements own) r
seen_chosen false own others m r o h = h

pub seen : (base : ℕ) (vs : Variables) (name : ℕ) → Seen (meaning_of (names_of vs) name) (is_private_array vs name) (register_in base vs name)
seen base [] name = tt
seen base (v ∷ vs) name =
    subst (λ m. Seen m (is_private_array (v ∷ vs) name) (register_in base (v ∷ vs) name)) (sym (last_meaning Unknown (names_of vs) (named v) name))
    (seen_chosen (name == v.name) v.elements (elements_of vs name) (meaning_of (names_of vs) name) (register_at (base + length vs) v.kind) (register_in base vs name) (seen base vs name))

-- a variable's value
pub variable_marked : (m : Meaning) (b : Bool) (o : Option ℕ) (to name : ℕ) (n : Node) → Seen m b o → names n ≡ Some name → Marks (variable_origins m n) (variable_code to o name)
variable_marked Unknown false None to name n s e = more tt (single e)
variable_marked Unknown false (Some r) to name n s e = absurd s
variable_marked Unknown true o to name n s e = absurd s
variable_marked Array true None to name n s e = absurd s
variable_marked Array true (Some r) to name n s e = single e
variable_marked Array false o to name n s e = absurd s
variable_marked Plain false None to name n s e = absurd s
variable_marked Plain false (Some r) to name n s e = single e
variable_marked Plain true o to name n s e = absurd s

pub address_marked : (m : Meaning) (b : Bool) (o : Option ℕ) (to name register : ℕ) (n : Node) {os : List Origin} {index : List Instruction}
    → Seen m b o → names n ≡ Some name → Marks os index → Marks (address_origins m n os) (element_code to o name index register)
address_marked m b o to name register n s e h = joined (variable_marked m b o to name n s e) (joined h (single tt))

element_marked : (m : Meaning) (b : Bool) (o : Option ℕ) (to name register : ℕ) (n : Node) (i j : Instruction) {os : List Origin} {near index : List Instruction}
    → Seen m b o → names n ≡ Some name → Suits i n → Suits j n → Marks os near → Marks os index
    → Marks (element_origins m n os) (if b then near ++ i ∷ [] else element_code to o name index register ++ j ∷ [])
element_marked Unknown true o to name register n i j s e p q h k = absurd s
element_marked Unknown false o to name register n i j s e p q h k = joined (address_marked Unknown false o to name register n s e k) (single q)
element_marked Array true o to name register n i j s e p q h k = joined h (single p)
element_marked Array false o to name register n i j s e p q h k = absurd s
element_marked Plain true o to name register n i j s e p q h k = absurd s
element_marked Plain false o to name register n i j s e p q h k = joined (address_marked Plain false o to name register n s e k) (single q)

indexed_marked : (m : Meaning) (b : Bool) (o : Option ℕ) (to name register : ℕ) (n : Node) {os : List Origin} {near index : List Instruction}
    → Seen m b o → names n ≡ Some name → Marks os near → Marks os index
    → Marks (indexed_origins m n os) (if b then near else element_code to o name index register)
indexed_marked Unknown true o to name register n s e h k = absurd s
indexed_marked Unknown false o to name register n s e h k = address_marked Unknown false o to name register n s e k
indexed_marked Array true o to name register n s e h k = h
indexed_marked Array false o to name register n s e h k = absurd s
indexed_marked Plain true o to name register n s e h k = absurd s
indexed_marked Plain false o to name register n s e h k = address_marked Plain false o to name register n s e k

-- a function of a built-in name
abbrev pub Named_by : Node → Option BuiltIn → Type 0
Named_by n function = elim (called n) as (λ _. Type 0) [ None ↦ ⊥ | Some name ↦ built_in name ≡ function ]

atomic_of : (c : Option ℕ) (function : AtomicFunction) → elim c as (λ _. Type 0) [ None ↦ ⊥ | Some name ↦ built_in name ≡ Some (built_in_function.Atomic function) ] → CallsAtomic c function
atomic_of None function h = absurd h
atomic_of (Some name) function h = h

pub call_marked : (function : Option BuiltIn) (to : ℕ) (numbers : List ℕ) (n : Node) → Named_by n function → Marks (times 1 n) (call_code function to numbers)
call_marked None to numbers n h = single tt
call_marked (Some built_in_function.WorkDim) to [] n h = single tt
call_marked (Some built_in_function.WorkDim) to (a ∷ numbers) n h = single tt
call_marked (Some (built_in_function.WorkItem function)) to [] n h = single tt
call_marked (Some (built_in_function.WorkItem function)) to (a ∷ []) n h = single tt
call_marked (Some (built_in_function.WorkItem function)) to (a ∷ b ∷ numbers) n h = single tt
call_marked (Some (built_in_function.Integer function)) to [] n h = single tt
call_marked (Some (built_in_function.Integer function)) to (a ∷ []) n h = single tt
call_marked (Some (built_in_function.Integer function)) to (a ∷ b ∷ []) n h = single tt
call_marked (Some (built_in_function.Integer function)) to (a ∷ b ∷ c ∷ numbers) n h = single tt
call_marked (Some (built_in_function.Atomic function)) to [] n h = single tt
call_marked (Some (built_in_function.Atomic function)) to (p ∷ []) n h = single (atomic_of (called n) function h)
call_marked (Some (built_in_function.Atomic function)) to (p ∷ v ∷ []) n h = single (atomic_of (called n) function h)
call_marked (Some (built_in_function.Atomic function)) to (p ∷ c ∷ v ∷ []) n h = single (atomic_of (called n) function h)
call_marked (Some (built_in_function.Atomic function)) to (p ∷ c ∷ v ∷ w ∷ numbers) n h = single tt

update_marked : (function : AtomicFunction) (numbers : List ℕ) (n : Node) → Named_by n (Some (built_in_function.Atomic function)) → Marks (times 1 n) (update_code function numbers)
update_marked function [] n h = single tt
update_marked function (p ∷ []) n h = single (atomic_of (called n) function h)
update_marked function (p ∷ v ∷ []) n h = single (atomic_of (called n) function h)
update_marked function (p ∷ v ∷ w ∷ numbers) n h = single tt

either_marked : (b : Bool) {os : List Origin} {is js : List Instruction} → Marks os is → Marks os js → Marks os (if b then is else js)
either_marked true h k = h
either_marked false h k = k

pub call_only_marked : (function : Option BuiltIn) (to : ℕ) (numbers : List ℕ) (n : Node) → Named_by n function → Marks (times 1 n) (call_only_code function to numbers)
call_only_marked None to numbers n h = call_marked None to numbers n h
call_only_marked (Some built_in_function.WorkDim) to numbers n h = call_marked (Some built_in_function.WorkDim) to numbers n h
call_only_marked (Some (built_in_function.WorkItem function)) to numbers n h = call_marked (Some (built_in_function.WorkItem function)) to numbers n h
call_only_marked (Some (built_in_function.Integer function)) to numbers n h = call_marked (Some (built_in_function.Integer function)) to numbers n h
call_only_marked (Some (built_in_function.Atomic function)) to numbers n h =
    either_marked (is_update function) (update_marked function numbers n h) (call_marked (Some (built_in_function.Atomic function)) to numbers n h)

infix_marked : (operator : InfixOperator) (at : ℕ) (left right : Term) (to first second : ℕ) {os : List Origin} {is : List Instruction} → Marks os is
    → Marks (times (infix_before operator) (OfTerm (Binary at operator left right)) ++ (os ++ times (infix_behind operator) (OfTerm (Binary at operator left right)))) (infix_code operator to first second is)
infix_marked (Arithmetic operator) at left right to first second h = joined h (single refl)
infix_marked LogicalAnd at left right to first second h = more tt (joined h (more tt (more tt (more tt (single tt)))))
infix_marked LogicalOr at left right to first second h = more tt (more tt (joined h (more tt (more tt (more tt (single tt))))))

choice_marked : (n : Node) (condition by over : ℕ) (i j : Instruction) {one two : List Origin} {is js : List Instruction} → Suits i n → Suits j n → Marks one is → Marks two js
    → Marks (times 1 n ++ (one ++ (times 2 n ++ (two ++ times 1 n)))) (instruction.JumpIfZero condition by ∷ ((is ++ i ∷ []) ++ instruction.Jump over ∷ (js ++ j ∷ [])))
choice_marked n condition by over i j {is = is} {js = js} p q h k =
    more tt (turned is (i ∷ []) (instruction.Jump over ∷ (js ++ j ∷ [])) (joined h (more p (more tt (joined k (single q))))))

folded_marked : (o : Option Integer) (level : ℕ) (n : Node) {os : List Origin} {is : List Instruction} → Marks os is → Marks (folded_origins o n os) (folded o level is)
folded_marked (Some v) level n h = single tt
folded_marked None level n h = h

module _ (scope : Scope) where
  -- a constant expression is one instruction for both
  constant_marked : (level : ℕ) (e : Term) {os : List Origin} {is : List Instruction} → Marks os is
      → Marks (folded_origins (constant_of (variables_of (names_of scope.variables)) e) (OfTerm e) os) (folded (constant_of scope.variables e) level is)
  constant_marked level e {os = os} {is = is} h =
      subst (λ (o : Option Integer). Marks (folded_origins o (OfTerm e) os) (folded (constant_of scope.variables e) level is)) (sym (constant_named scope.variables e))
      (folded_marked (constant_of scope.variables e) level (OfTerm e) h)

  mutual
    pub expr_marked : (level : ℕ) (e : Term) → Marks (expr_origins (names_of scope.variables) e) (expr_code scope level e)
    expr_marked level (Number at value) = single tt
    expr_marked level (Variable at name) = variable_marked _ _ _ _ name (OfTerm (Variable at name)) (seen scope.base scope.variables name) refl
    expr_marked level (Element at name index) =
        element_marked _ _ _ _ name _ (OfTerm (Element at name index)) _ _ (seen scope.base scope.variables name) refl refl refl (expr_marked level index) (expr_marked (level + 1) index)
    expr_marked level (ElementAddress at name_at name index) =
        address_marked _ _ _ _ name _ (OfTerm (ElementAddress at name_at name index)) (seen scope.base scope.variables name) refl (expr_marked (level + 1) index)
    expr_marked level (Dereference at pointer) = joined (expr_marked level pointer) (single refl)
    expr_marked level (Call at name arguments) =
        constant_marked level (Call at name arguments) (joined (terms_marked level arguments) (call_marked (built_in name) _ _ (OfTerm (Call at name arguments)) refl))
    expr_marked level (Unary at operator operand) = constant_marked level (Unary at operator operand) (joined (expr_marked level operand) (single tt))
    expr_marked level (Cast at target operand) = constant_marked level (Cast at target operand) (joined (expr_marked level operand) (single tt))
    expr_marked level (Binary at operator left right) =
        constant_marked level (Binary at operator left right) (joined (expr_marked level left) (infix_marked operator at left right _ _ _ (expr_marked (level + 1) right)))
    expr_marked level (Choice at condition chosen otherwise) =
        constant_marked level (Choice at condition chosen otherwise)
        (joined (expr_marked level condition) (choice_marked (OfTerm (Choice at condition chosen otherwise)) _ _ _ _ _ tt tt (expr_marked level chosen) (expr_marked level otherwise)))

    pub terms_marked : (level : ℕ) (es : Terms) → Marks (terms_origins (names_of scope.variables) es) (terms_code scope level es)
    terms_marked level NoTerm = none
    terms_marked level (ThenTerm es e) = joined (terms_marked level es) (expr_marked _ e)

  pub target_marked : (level : ℕ) (to : Target) → Marks (target_origins (names_of scope.variables) to) (target_code scope level to)
  target_marked level (TargetVariable at name) = none
  target_marked level (TargetElement at name index) =
      indexed_marked _ _ _ _ name _ (OfTarget (TargetElement at name index)) (seen scope.base scope.variables name) refl (expr_marked level index) (expr_marked (level + 1) index)
  target_marked level (TargetDereference at pointer) = joined (expr_marked level pointer) (single tt)
