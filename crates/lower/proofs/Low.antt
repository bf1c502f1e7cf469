-- The registers that the code of expressions and of targets names: those of levels below one that is as far above its
-- own as it has nodes.
use Rattle.std.proofs.Common.{ℕ, ◌+◌, ◌*◌, ◌<◌, ◌≤◌, ◌==◌, Bool, true, false, Option, None, Some, List, [], ◌∷◌, ◌++◌, length, if◌then◌else◌, arith}
use Rattle.std.proofs.Math.Nat.{max-le}
use Rattle.clnum.specs.Integer as integers
use Rattle.clnum.specs.declared.operators.BinaryOperator.{BinaryOperator}
use Rattle.clmodel.specs.BuiltIns.{built_in}
use Rattle.clmodel.specs.Next.{Variables, is_private_array, is_update, infix_type}
use Rattle.clmodel.specs.Tree as tree
use Rattle.clmodel.specs.Tree.{Term, Terms, NoTerm, ThenTerm, Target, TargetVariable, TargetElement, TargetDereference}
use Rattle.clmodel.specs.Typing.Sizes.{Sizes, term_size, terms_size, target_size}
use Rattle.clmodel.specs.declared.setup.AtomicFunction.{AtomicFunction}
use Rattle.clmodel.specs.declared.setup.BuiltIn.{BuiltIn}
use Rattle.clmodel.specs.declared.setup.BuiltIn.TheVariants as built_in_function
use Rattle.clmodel.specs.declared.tree.InfixOperator.{InfixOperator}
use Rattle.clmodel.specs.declared.tree.InfixOperator.TheVariants.{Arithmetic, LogicalAnd, LogicalOr}
use Rattle.clmodel.specs.declared.tree.VariableType.{VariableType}
use Rattle.clmodel.specs.declared.tree.VariableType.TheVariants.{Integer}
use Rattle.folding.specs.Constants.{constant_of}
use Rattle.regcode.specs.declared.instruction.Instruction.{Instruction}
use Rattle.regcode.specs.declared.instruction.Instruction.TheVariants as instruction
use Rattle.lower_expr.proofs.Places.{kind_below}
use Rattle.lower_expr.specs.Scope.{Scope, register_at, register_in, register_of, free_level}
use Rattle.lower_expr.specs.Expressions.{count, kind_of, kind_named, type_of_elements, register_for, registers_for, folded, expr_code, terms_code, target_code, target_register, variable_code, element_code, infix_code, branch_code, choice_code, call_code, update_code, call_only_code}
use Rattle.lower_code.specs.Code.{type_of_target, set_variable_code, fetch_code, put_code, combine_code}
use Rattle.code_tables.specs.Tables.{registers_of, room, register_count}
use Rattle.lower_expr.proofs.Short.{some_node}

-- these numbers are below n
abbrev pub Few : ℕ → List ℕ → Type 0
Few n [] = Unit {0}
Few n (r ∷ rs) = (r < n) × Few n rs

-- the registers that code names are
abbrev pub Low : ℕ → List Instruction → Type 0
Low n [] = Unit {0}
Low n (i ∷ is) = Few n (registers_of i) × Low n is

abbrev pub LowOption : ℕ → Option ℕ → Type 0
LowOption n None = Unit {0}
LowOption n (Some r) = r < n

few_room : (n : ℕ) (rs : List ℕ) → Few n rs → room rs ≤ n
few_room n [] h = omega arith
few_room n (r ∷ rs) h = max-le (let below = h.0 in omega (arith, below)) (few_room n rs h.1)

pub low_count : (n : ℕ) (code : List Instruction) → Low n code → register_count code ≤ n
low_count n [] h = omega arith
low_count n (i ∷ is) h = max-le (few_room n (registers_of i) h.0) (low_count n is h.1)

pub low_both : (n : ℕ) (xs ys : List Instruction) → Low n xs → Low n ys → Low n (xs ++ ys)
low_both n [] ys h k = k
low_both n (x ∷ xs) ys h k = (h.0, low_both n xs ys h.1 k)

few_both : (n : ℕ) (xs ys : List ℕ) → Few n xs → Few n ys → Few n (xs ++ ys)
few_both n [] ys h k = k
few_both n (x ∷ xs) ys h k = (h.0, few_both n xs ys h.1 k)

low_either : (n : ℕ) (b : Bool) (xs ys : List Instruction) → Low n xs → Low n ys → Low n (if b then xs else ys)
low_either n true xs ys h k = h
low_either n false xs ys h k = k

either_low : (n : ℕ) (b : Bool) (x y : ℕ) → x < n → y < n → (if b then x else y) < n
either_low n true x y h k = h
either_low n false x y h k = k

pub at_low : (top level : ℕ) (kind : VariableType) → level + 1 ≤ top → register_at level kind < 16 * top
at_low top level kind h = omega (arith, kind_below kind, h)

low_chosen : (n i : ℕ) (o : Option ℕ) (b : Bool) → i < n → LowOption n o → LowOption n (elim b as (λ _. Option ℕ) [ true ↦ Some i | false ↦ o ])
low_chosen n i o true h k = h
low_chosen n i o false h k = k

variables_low : (top base : ℕ) (vs : Variables) (name : ℕ) → base + length vs ≤ top → LowOption (16 * top) (register_in base vs name)
variables_low top base [] name h = tt
variables_low top base (v ∷ vs) name h =
    low_chosen (16 * top) (register_at (base + length vs) v.kind) (register_in base vs name) (name == v.name) (at_low top (base + length vs) v.kind (omega (arith, h)))
    (variables_low top base vs name (omega (arith, h)))

variable_low : (n to : ℕ) (from : Option ℕ) (name : ℕ) → to < n → LowOption n from → Low n (variable_code to from name)
variable_low n to None name h k = ((h, tt), ((h, (h, tt)), tt))
variable_low n to (Some from) name h k = ((h, (k, tt)), tt)

element_low : (n to : ℕ) (from : Option ℕ) (name : ℕ) (index : List Instruction) (register : ℕ) → to < n → LowOption n from → Low n index → register < n → Low n (element_code to from name index register)
element_low n to from name index register h k l r = low_both n (variable_code to from name) _ (variable_low n to from name h k) (low_both n index _ l ((h, (h, (r, tt))), tt))

infix_low : (n : ℕ) (operator : InfixOperator) (to first second : ℕ) (right : List Instruction) → to < n → first < n → second < n → Low n right → Low n (infix_code operator to first second right)
infix_low n (Arithmetic operator) to first second right t f s h = low_both n right _ h ((t, (f, (s, tt))), tt)
infix_low n LogicalAnd to first second right t f s h = ((f, tt), low_both n right _ h ((s, tt), ((t, tt), (tt, ((t, tt), tt)))))
infix_low n LogicalOr to first second right t f s h = ((f, tt), (tt, low_both n right _ h ((s, tt), ((t, tt), (tt, ((t, tt), tt))))))

call_low : (n : ℕ) (function : Option BuiltIn) (to : ℕ) (numbers : List ℕ) → to < n → Few n numbers → Low n (call_code function to numbers)
call_low n None to numbers h k = (tt, tt)
call_low n (Some built_in_function.WorkDim) to [] h k = ((h, tt), tt)
call_low n (Some built_in_function.WorkDim) to (a ∷ numbers) h k = (tt, tt)
call_low n (Some (built_in_function.WorkItem function)) to [] h k = (tt, tt)
call_low n (Some (built_in_function.WorkItem function)) to (a ∷ []) h k = ((h, (k.0, tt)), tt)
call_low n (Some (built_in_function.WorkItem function)) to (a ∷ b ∷ numbers) h k = (tt, tt)
call_low n (Some (built_in_function.Integer function)) to [] h k = (tt, tt)
call_low n (Some (built_in_function.Integer function)) to (a ∷ []) h k = ((h, (k.0, tt)), tt)
call_low n (Some (built_in_function.Integer function)) to (a ∷ b ∷ []) h k = ((h, (k.0, (k.1.0, tt))), tt)
call_low n (Some (built_in_function.Integer function)) to (a ∷ b ∷ c ∷ numbers) h k = (tt, tt)
call_low n (Some (built_in_function.Atomic function)) to [] h k = (tt, tt)
call_low n (Some (built_in_function.Atomic function)) to (p ∷ []) h k = ((h, (k.0, tt)), tt)
call_low n (Some (built_in_function.Atomic function)) to (p ∷ v ∷ []) h k = ((h, (k.0, (k.1.0, tt))), tt)
call_low n (Some (built_in_function.Atomic function)) to (p ∷ c ∷ v ∷ []) h k = ((h, (k.0, (k.1.0, (k.1.1.0, tt)))), tt)
call_low n (Some (built_in_function.Atomic function)) to (p ∷ c ∷ v ∷ w ∷ numbers) h k = (tt, tt)

update_low : (n : ℕ) (function : AtomicFunction) (numbers : List ℕ) → Few n numbers → Low n (update_code function numbers)
update_low n function [] k = (tt, tt)
update_low n function (p ∷ []) k = ((k.0, tt), tt)
update_low n function (p ∷ v ∷ []) k = ((k.0, (k.1.0, tt)), tt)
update_low n function (p ∷ v ∷ w ∷ numbers) k = (tt, tt)

pub call_only_low : (n : ℕ) (function : Option BuiltIn) (to : ℕ) (numbers : List ℕ) → to < n → Few n numbers → Low n (call_only_code function to numbers)
call_only_low n None to numbers h k = (tt, tt)
call_only_low n (Some built_in_function.WorkDim) to numbers h k = call_low n (Some built_in_function.WorkDim) to numbers h k
call_only_low n (Some (built_in_function.WorkItem function)) to numbers h k = call_low n (Some (built_in_function.WorkItem function)) to numbers h k
call_only_low n (Some (built_in_function.Integer function)) to numbers h k = call_low n (Some (built_in_function.Integer function)) to numbers h k
call_only_low n (Some (built_in_function.Atomic function)) to numbers h k =
    low_either n (is_update function) (update_code function numbers) _ (update_low n function numbers k) (call_low n (Some (built_in_function.Atomic function)) to numbers h k)

set_variable_low : (n : ℕ) (to : Option ℕ) (from : ℕ) (kind : VariableType) → LowOption n to → from < n → Low n (set_variable_code to from kind)
set_variable_low n None from kind h k = ((k, (k, tt)), tt)
set_variable_low n (Some to) from kind h k = ((h, (k, tt)), tt)

pub some_place : (sizes : Sizes) (to : Target) → 1 ≤ (target_size sizes to).nodes
some_place sizes (TargetVariable at name) = omega arith
some_place sizes (TargetElement at name index) = omega arith
some_place sizes (TargetDereference at pointer) = omega arith

counted : (sizes : Sizes) (es : Terms) → count es ≤ (terms_size sizes es).nodes
counted sizes NoTerm = omega arith
counted sizes (ThenTerm es e) = omega (arith, counted sizes es, some_node sizes e)

module _ (sizes : Sizes) (top : ℕ) (scope : Scope) (within : free_level scope ≤ top) where
  at : (level : ℕ) (kind : VariableType) → level + 1 ≤ top → register_at level kind < 16 * top
  at level kind h = at_low top level kind h

  named : (name : ℕ) → LowOption (16 * top) (register_of scope name)
  named name = variables_low top scope.base scope.variables name within

  -- a constant expression names one register
  folded_low : (level : ℕ) (e : Term) (plain : List Instruction) → level + (term_size sizes e).nodes ≤ top → Low (16 * top) plain
      → Low (16 * top) (folded (constant_of scope.variables e) level plain)
  folded_low level e plain h low = either_folded (constant_of scope.variables e)
    where
      either_folded : (o : Option integers.Integer) → Low (16 * top) (folded o level plain)
      either_folded (Some v) = ((at level (Integer v.kind) (let x = some_node sizes e in omega (arith, h, x)), tt), tt)
      either_folded None = low

  mutual
    pub expr_low : (level : ℕ) (e : Term) → level + (term_size sizes e).nodes ≤ top → Low (16 * top) (expr_code scope level e)
    expr_low level (tree.Number a value) h = ((at level (Integer value.kind) (omega (arith, h)), tt), tt)
    expr_low level (tree.Variable a name) h = variable_low (16 * top) _ _ name (at level _ (omega (arith, h))) (named name)
    expr_low level (tree.Element a name index) h =
        let r : level + 1 ≤ top = omega (arith, h) in
        let x = some_node sizes index in
        low_either (16 * top) (is_private_array scope.variables name) _ _
        (low_both (16 * top) (expr_code scope level index) _ (expr_low level index (omega (arith, h))) ((at level (Integer (type_of_elements scope name)) r, (at level (kind_of scope index) r, tt)), tt))
        (low_both (16 * top) (element_code (register_at level (kind_named scope name)) (register_of scope name) name (expr_code scope (level + 1) index) (register_for scope (level + 1) index)) _
        (element_low (16 * top) _ _ name _ _ (at level _ r) (named name) (expr_low (level + 1) index (omega (arith, h))) (at (level + 1) (kind_of scope index) (omega (arith, h, x))))
        ((at level (Integer (type_of_elements scope name)) r, (at level (kind_named scope name) r, tt)), tt))
    expr_low level (tree.ElementAddress a name_at name index) h =
        let x = some_node sizes index in
        element_low (16 * top) _ _ name _ _ (at level _ (omega (arith, h))) (named name) (expr_low (level + 1) index (omega (arith, h))) (at (level + 1) _ (omega (arith, h, x)))
    expr_low level (tree.Dereference a pointer) h =
        let r : level + 1 ≤ top = omega (arith, h) in
        low_both (16 * top) (expr_code scope level pointer) _ (expr_low level pointer (omega (arith, h))) ((at level (kind_of scope (tree.Dereference a pointer)) r, (at level (kind_of scope pointer) r, tt)), tt)
    expr_low level (tree.Call a name arguments) h =
        let end = call_code (built_in name) (register_for scope level (tree.Call a name arguments)) (registers_for scope level arguments) in
        folded_low level (tree.Call a name arguments) (terms_code scope level arguments ++ end) h
        (low_both (16 * top) (terms_code scope level arguments) end (terms_low level arguments (omega (arith, h)))
        (call_low (16 * top) (built_in name) _ _ (at level (kind_of scope (tree.Call a name arguments)) (omega (arith, h))) (registers_low level arguments (omega (arith, h)))))
    expr_low level (tree.Unary a operator operand) h =
        let r : level + 1 ≤ top = omega (arith, h) in
        let end : List Instruction = instruction.Unary (register_for scope level (tree.Unary a operator operand)) operator (register_for scope level operand) ∷ [] in
        folded_low level (tree.Unary a operator operand) (expr_code scope level operand ++ end) h
        (low_both (16 * top) (expr_code scope level operand) end (expr_low level operand (omega (arith, h))) ((at level (kind_of scope (tree.Unary a operator operand)) r, (at level (kind_of scope operand) r, tt)), tt))
    expr_low level (tree.Cast a target operand) h =
        let r : level + 1 ≤ top = omega (arith, h) in
        let end : List Instruction = instruction.Convert (register_at level (Integer target)) (register_for scope level operand) target ∷ [] in
        folded_low level (tree.Cast a target operand) (expr_code scope level operand ++ end) h
        (low_both (16 * top) (expr_code scope level operand) end (expr_low level operand (omega (arith, h))) ((at level (Integer target) r, (at level (kind_of scope operand) r, tt)), tt))
    expr_low level (tree.Binary a operator left right) h =
        let r : level + 1 ≤ top = omega (arith, h) in
        let x = some_node sizes left in
        let end = infix_code operator (register_for scope level (tree.Binary a operator left right)) (register_for scope level left) (register_for scope (level + 1) right) (expr_code scope (level + 1) right) in
        folded_low level (tree.Binary a operator left right) (expr_code scope level left ++ end) h
        (low_both (16 * top) (expr_code scope level left) end (expr_low level left (omega (arith, h)))
        (infix_low (16 * top) operator _ _ _ (expr_code scope (level + 1) right) (at level _ r) (at level _ r) (at (level + 1) _ (omega (arith, h, some_node sizes right))) (expr_low (level + 1) right (omega (arith, h)))))
    expr_low level (tree.Choice a condition chosen otherwise) h =
        let r : level + 1 ≤ top = omega (arith, h) in
        let to = register_for scope level (tree.Choice a condition chosen otherwise) in
        let first = branch_code to (expr_code scope level chosen) (register_for scope level chosen) (kind_of scope otherwise) in
        let second = branch_code to (expr_code scope level otherwise) (register_for scope level otherwise) (kind_of scope chosen) in
        let end = choice_code (register_for scope level condition) first second in
        folded_low level (tree.Choice a condition chosen otherwise) (expr_code scope level condition ++ end) h
        (low_both (16 * top) (expr_code scope level condition) end (expr_low level condition (omega (arith, h))) (
          (at level (kind_of scope condition) r, tt),
          low_both (16 * top) (expr_code scope level chosen ++ _) _ (low_both (16 * top) (expr_code scope level chosen) _ (expr_low level chosen (omega (arith, h))) ((at level (kind_of scope (tree.Choice a condition chosen otherwise)) r, (at level (kind_of scope chosen) r, tt)), tt))
              (tt, low_both (16 * top) (expr_code scope level otherwise) _ (expr_low level otherwise (omega (arith, h))) ((at level (kind_of scope (tree.Choice a condition chosen otherwise)) r, (at level (kind_of scope otherwise) r, tt)), tt)),
        ))

    pub terms_low : (level : ℕ) (es : Terms) → level + (terms_size sizes es).nodes ≤ top → Low (16 * top) (terms_code scope level es)
    terms_low level NoTerm h = tt
    terms_low level (ThenTerm es e) h =
        low_both (16 * top) (terms_code scope level es) _ (terms_low level es (omega (arith, h))) (expr_low (level + count es) e (let c = counted sizes es in omega (arith, h, c)))

    pub registers_low : (level : ℕ) (es : Terms) → level + (terms_size sizes es).nodes ≤ top → Few (16 * top) (registers_for scope level es)
    registers_low level NoTerm h = tt
    registers_low level (ThenTerm es e) h =
        few_both (16 * top) (registers_for scope level es) _ (registers_low level es (omega (arith, h)))
        (at (level + count es) (kind_of scope e) (let c = counted sizes es in let x = some_node sizes e in omega (arith, h, c, x)), tt)

  pub target_low : (level : ℕ) (to : Target) → level + (target_size sizes to).nodes ≤ top → Low (16 * top) (target_code scope level to)
  target_low level (TargetVariable a name) h = tt
  target_low level (TargetElement a name index) h =
      let x = some_node sizes index in
      low_either (16 * top) (is_private_array scope.variables name) _ _ (expr_low level index (omega (arith, h)))
      (element_low (16 * top) _ _ name _ _ (at level _ (omega (arith, h))) (named name) (expr_low (level + 1) index (omega (arith, h))) (at (level + 1) _ (omega (arith, h, x))))
  target_low level (TargetDereference a pointer) h =
      let r : level + 1 ≤ top = omega (arith, h) in
      low_both (16 * top) (expr_code scope level pointer) _ (expr_low level pointer (omega (arith, h))) ((at level (kind_of scope pointer) r, (at level (kind_of scope pointer) r, tt)), tt)

  pub reached_low : (level : ℕ) (to : Target) → level + 1 ≤ top → target_register scope level to < 16 * top
  reached_low level (TargetVariable a name) h = omega (arith, h)
  reached_low level (TargetElement a name index) h = either_low (16 * top) (is_private_array scope.variables name) _ _ (at level (kind_of scope index) h) (at level (kind_named scope name) h)
  reached_low level (TargetDereference a pointer) h = at level (kind_of scope pointer) h

  pub fetch_low : (place : Target) (reached to : ℕ) → reached < 16 * top → to < 16 * top → Low (16 * top) (fetch_code scope place reached to)
  fetch_low (TargetVariable a name) reached to h k = variable_low (16 * top) to _ name k (named name)
  fetch_low (TargetElement a name index) reached to h k = low_either (16 * top) (is_private_array scope.variables name) _ _ ((k, (h, tt)), tt) ((k, (h, tt)), tt)
  fetch_low (TargetDereference a pointer) reached to h k = ((k, (h, tt)), tt)

  pub put_low : (place : Target) (reached from : ℕ) → reached < 16 * top → from < 16 * top → Low (16 * top) (put_code scope place reached from)
  put_low (TargetVariable a name) reached from h k = set_variable_low (16 * top) _ from _ (named name) k
  put_low (TargetElement a name index) reached from h k = low_either (16 * top) (is_private_array scope.variables name) _ _ ((h, (k, tt)), tt) ((h, (k, tt)), tt)
  put_low (TargetDereference a pointer) reached from h k = ((h, (k, tt)), tt)

  pub combine_low : (place : Target) (level : ℕ) (operator : BinaryOperator) (kind : VariableType) (old right : ℕ) → level + 2 ≤ top → old < 16 * top → right < 16 * top
      → Low (16 * top) (combine_code scope place level operator kind old right)
  combine_low place level operator kind old right h o r =
      let t = at (level + 1) (infix_type (Arithmetic operator) (type_of_target scope place) kind) (omega (arith, h)) in
      ((t, (o, (r, tt))), put_low place _ _ (reached_low level place (omega (arith, h))) t)
