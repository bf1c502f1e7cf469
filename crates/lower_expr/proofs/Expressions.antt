-- The code of an expression acts as its evaluation.
use Rattle.std.proofs.Common.{◌≡◌, ℕ, ◌+◌, ◌≤◌, Bool, true, false, Option, None, Some, List, [], ◌∷◌, ◌++◌, length, slice_get, refl, ap, sym, subst, ◌∙◌, arith, if◌then◌else◌}
use Rattle.std.proofs.lemmas.List.{length-append}
use Rattle.clnum.specs.Integer as integers
use Rattle.clnum.specs.Integer.{converted}
use Rattle.clnum.specs.Operations.{truth, unary_value}
use Rattle.clnum.specs.declared.int_type.IntType.TheVariants.{Int}
use Rattle.clmodel.specs.BuiltIns.{built_in}
use Rattle.clmodel.specs.Next.{Continuation, Variables, known, look, moved, load, pointing, number, test, settle, join, call, binary_operation, chosen_value, base_type, infix_type, type_of, eval, eval_all, reach, declared_type, is_private_array, read_element, load_element}
use Rattle.clmodel.specs.Next.Expressions.{Destination, Named, ElementOf, Through}
use Rattle.clmodel.specs.Tree as tree
use Rattle.clmodel.specs.Tree.{Term, Terms, NoTerm, ThenTerm, Target}
use Rattle.clmodel.specs.declared.operand.Operand.{Operand}
use Rattle.clmodel.specs.declared.operand.Operand.TheVariants.{Integral, Pointed}
use Rattle.clmodel.specs.declared.operand.Pointer.{Pointer}
use Rattle.clmodel.specs.declared.setup.BuiltIn.{BuiltIn}
use Rattle.clmodel.specs.declared.setup.BuiltIn.TheVariants as built_in_function
use Rattle.clmodel.specs.declared.tree.InfixOperator.{InfixOperator}
use Rattle.clmodel.specs.declared.tree.InfixOperator.TheVariants.{Arithmetic, LogicalAnd, LogicalOr}
use Rattle.clmodel.specs.declared.tree.VariableType.{VariableType}
use Rattle.clmodel.specs.declared.tree.VariableType.TheVariants.{Integer}
use Rattle.folding.specs.Constants.{constant_of}
use Rattle.folding.proofs.Evaluation.{value_is, kind_is}
use Rattle.regcode.specs.declared.instruction.Instruction.{Instruction}
use Rattle.regcode.specs.declared.instruction.Instruction.TheVariants as instruction
use Rattle.regcode.specs.Machine.{State, ItemContext, reg, array_of, with_put, passed, onward}
use Rattle.regcode.proofs.Registers.{reg_put}
use Rattle.lower_expr.specs.Scope.{Scope, register_at, register_of, level_of, Sees, free_level}
use Rattle.lower_expr.specs.Expressions.{folded, expr_code, terms_code, target_code, target_register, register_for, registers_for, kind_of, kind_named, variable_code, type_of_elements, private_load, element_code, address_code, truth_code, infix_code, branch_code, choice_code, call_code, count}
use Rattle.lower_expr.specs.Agreement.{HasAt, Reached, Hold, HoldsPart, Follows, FollowsAll, FollowsTarget}
use Rattle.regcode.proofs.Agreement.{Agree, ends, constant_runs, unset_runs, move_runs, jump_runs, convert_runs, common_runs, unary_runs, binary_runs, one_integer_runs, two_integers_run, dimensions_run, query_runs, point_runs, offset_runs, load_runs, private_load_runs, fetch_alone_runs, fetch_number_runs, fetch_pair_runs, branch_runs}
use Rattle.lower_expr.proofs.Lengths.{call_length}
use Rattle.lower_expr.proofs.Places.{has_left, has_right, has_moved, reached_here, reached_put, reached_then, register_kept, seen_kept, reached_to, reached_passed, reached_onward, found, look_seen, type_seen, constant_seen, array_seen, elements_seen, hold_then, arguments_kept}

module _ (given : ItemContext) (code : List Instruction) (bound : ℕ) where
  -- from states where the variables hold these values the code of an expression acts as its evaluation
  abbrev Runs : Scope → ℕ → Term → Variables → Type 0
  Runs scope level e vs =
      (now : State) (next : Operand → Continuation) → Sees scope now.registers vs → HasAt code now.place (expr_code scope level e)
      → Follows given code bound level now (now.place + length (expr_code scope level e)) (register_for scope level e) next
      → Agree given code bound now (eval given.here e vs next)

  -- the last instruction leaves the value in its register
  last : (level : ℕ) (kind : VariableType) (s : State) (before : ℕ) (now : State) (place : ℕ) (after : Operand → Continuation) → Reached level s before now
      → before + 1 ≡ place → Follows given code bound level s place (register_at level kind) after
      → (v : Operand) → Agree given code bound (with_put now (register_at level kind) (Some v)) (after v)
  last level kind s before now place after r e go v =
      go v _ (reached_then level level s before now place _ (omega arith) r (reached_put level kind now (Some v) place (ap (λ n. n + 1) r.at ∙ e)))
      (reg_put now.registers (register_at level kind) (Some v))

  -- a variable's value
  variable_runs : (level : ℕ) (kind : VariableType) (from : Option ℕ) (name : ℕ) (s : State) (place : ℕ) (after : Operand → Continuation)
      → HasAt code s.place (variable_code (register_at level kind) from name) → s.place + length (variable_code (register_at level kind) from name) ≡ place
      → Follows given code bound level s place (register_at level kind) after → Agree given code bound s (known name (found s.registers from) after)
  variable_runs level kind (Some from) name s place after has e go =
      move_runs given code bound s after (register_at level kind) from name has.0 (λ v is. last level kind s s.place s place after (reached_here level s s.place refl) e go v)
  variable_runs level kind None name s place after has e go =
      let to = register_at level kind in
      let now = with_put s to None in
      let left = reached_put level kind s None (s.place + 1) refl in
      unset_runs given code bound s (known name None after) to has.0
      (subst (λ o. Agree given code bound now (known name o after)) (reg_put s.registers to None)
      (move_runs given code bound now after to to name has.1.0 (λ v is. last level kind s (s.place + 1) now place after left (omega (arith, e)) go v)))

  -- a pointer variable's value, moved by an index, whose code acts as its evaluation
  element_runs : (scope : Scope) (level name : ℕ) (index : Term) (s : State) (place : ℕ) (vs : Variables) (after : Pointer → Continuation)
      → free_level scope ≤ level → Sees scope s.registers vs
      → Runs scope (level + 1) index vs
      → HasAt code s.place (element_code (register_at level (kind_named scope name)) (register_of scope name) name (expr_code scope (level + 1) index) (register_for scope (level + 1) index))
      → s.place + length (element_code (register_at level (kind_named scope name)) (register_of scope name) name (expr_code scope (level + 1) index) (register_for scope (level + 1) index)) ≡ place
      → ((p : Pointer) (now : State) → Reached level s place now → reg now.registers (register_at level (kind_named scope name)) ≡ Some (Pointed p) → Agree given code bound now (after p))
      → Agree given code bound s (known name (look vs name) (λ p. eval given.here index vs (λ i. moved p i after)))
  element_runs scope level name index s place vs after free same index_runs has e go =
      let kind = kind_named scope name in
      let to = register_at level kind in
      let before = variable_code to (register_of scope name) name in
      let inner = expr_code scope (level + 1) index in
      let last : List Instruction = instruction.Offset to to (register_for scope (level + 1) index) ∷ [] in
      let rest = has_right code before (inner ++ last) s.place (s.place + length before) refl has in
      let whole : s.place + length before + length inner + 1 ≡ place = omega (arith, e, length-append before (inner ++ last), length-append inner last) in
      subst (λ o. Agree given code bound s (known name o (λ p. eval given.here index vs (λ i. moved p i after)))) (look_seen scope s.registers name vs same)
      (variable_runs level kind (register_of scope name) name s (s.place + length before) (λ p. eval given.here index vs (λ i. moved p i after)) (has_left code before (inner ++ last) s.place has) refl
      (λ p now r held.
      let there = has_moved code (inner ++ last) (s.place + length before) now.place (sym r.at) rest in
      index_runs now (λ i. moved p i after) (seen_kept scope level s (s.place + length before) now vs free r same) (has_left code inner last now.place there)
      (λ i later q index_held.
      let offset = has_right code inner last now.place later.place (sym q.at) there in
      let way = reached_then level (level + 1) s (s.place + length before) now (now.place + length inner) later (omega arith) r q in
      offset_runs given code bound later after to to (register_for scope (level + 1) index) p i offset.0
      (register_kept level kind (level + 1) now (now.place + length inner) later (Some p) (omega arith) q held) index_held
      (λ moved_to.
      go moved_to (with_put later to (Some (Pointed moved_to)))
      (reached_then level level s (now.place + length inner) later place (with_put later to (Some (Pointed moved_to))) (omega arith) way
      (reached_put level kind later (Some (Pointed moved_to)) place (let a = r.at in let b = q.at in omega (arith, a, b, whole))))
      (reg_put later.registers to (Some (Pointed moved_to)))))))

  -- an element of a private array, by the index that a register holds
  pub private_load_run : (scope : Scope) (name to index : ℕ) (now : State) (vs : Variables) (i : Operand) (after : Operand → Continuation)
      → is_private_array scope.variables name ≡ true → Sees scope now.registers vs → slice_get code now.place ≡ Some (private_load scope to name index) → reg now.registers index ≡ Some i
      → ((x : Operand) → Agree given code bound (with_put now to (Some x)) (after x)) → Agree given code bound now (load_element vs name i after)
  private_load_run scope name to index now vs i after is same here held go =
      subst (λ xs. Agree given code bound now (read_element name (base_type (declared_type vs name)) xs i after)) (elements_seen scope now.registers name vs is same)
      (subst (λ k. Agree given code bound now (read_element name k (array_of now.registers (level_of scope name)) i after)) (ap base_type (type_seen scope now.registers vs (tree.Variable 0 name) same))
      (private_load_runs given code bound now after to (level_of scope name) index (type_of_elements scope name) name i here held go))

  -- an element of a private array, or what a pointer that is moved points to
  array_runs : (scope : Scope) (level name : ℕ) (index : Term) (s : State) (vs : Variables) (after : Operand → Continuation)
      → free_level scope ≤ level → Sees scope s.registers vs → is_private_array scope.variables name ≡ true → Runs scope level index vs
      → HasAt code s.place (expr_code scope level index ++ private_load scope (register_at level (Integer (type_of_elements scope name))) name (register_for scope level index) ∷ [])
      → Follows given code bound level s (s.place + length (expr_code scope level index ++ private_load scope (register_at level (Integer (type_of_elements scope name))) name (register_for scope level index) ∷ []))
      (register_at level (Integer (type_of_elements scope name))) after
      → Agree given code bound s (eval given.here index vs (λ i. load_element vs name i after))
  array_runs scope level name index s vs after free same is index_runs has go =
      let kind = Integer (type_of_elements scope name) in
      let inner = expr_code scope level index in
      let end : List Instruction = private_load scope (register_at level kind) name (register_for scope level index) ∷ [] in
      index_runs s (λ i. load_element vs name i after) same (has_left code inner end s.place has)
      (λ i now r held.
      let here = has_right code inner end s.place now.place (sym r.at) has in
      private_load_run scope name (register_at level kind) (register_for scope level index) now vs i after is (seen_kept scope level s (s.place + length inner) now vs free r same) here.0 held
      (last level kind s (s.place + length inner) now _ after r (omega (arith, length-append inner end)) go))

  loaded_runs : (scope : Scope) (level name : ℕ) (index : Term) (s : State) (vs : Variables) (after : Operand → Continuation)
      → free_level scope ≤ level → Sees scope s.registers vs → Runs scope (level + 1) index vs
      → HasAt code s.place (address_code scope level name index ++ instruction.Load (register_at level (Integer (type_of_elements scope name))) (register_at level (kind_named scope name)) ∷ [])
      → Follows given code bound level s (s.place + length (address_code scope level name index ++ instruction.Load (register_at level (Integer (type_of_elements scope name))) (register_at level (kind_named scope name)) ∷ []))
      (register_at level (Integer (type_of_elements scope name))) after
      → Agree given code bound s (known name (look vs name) (λ p. eval given.here index vs (λ i. moved p i (λ q. load q after))))
  loaded_runs scope level name index s vs after free same index_runs has go =
      let kind = kind_named scope name in
      let to = register_at level kind in
      let before = address_code scope level name index in
      let end : List Instruction = instruction.Load (register_at level (Integer (type_of_elements scope name))) to ∷ [] in
      let middle = s.place + length before in
      element_runs scope level name index s middle vs (λ q. load q after) free same index_runs (has_left code before end s.place has) refl
      (λ p now r held.
      let here = has_right code before end s.place now.place (sym r.at) has in
      load_runs given code bound bound now after (register_at level (Integer (type_of_elements scope name))) to (Pointed p) (omega arith) here.0 held
      (last level (Integer (type_of_elements scope name)) s middle now _ after r (omega (arith, length-append before end)) go))

  either_runs : (scope : Scope) (level name : ℕ) (index : Term) (s : State) (vs : Variables) (after : Operand → Continuation)
      → free_level scope ≤ level → Sees scope s.registers vs → Runs scope level index vs → Runs scope (level + 1) index vs → (b : Bool) → is_private_array scope.variables name ≡ b
      → HasAt code s.place (if b then expr_code scope level index ++ private_load scope (register_at level (Integer (type_of_elements scope name))) name (register_for scope level index) ∷ []
      else address_code scope level name index ++ instruction.Load (register_at level (Integer (type_of_elements scope name))) (register_at level (kind_named scope name)) ∷ [])
      → Follows given code bound level s (s.place + length (if b then expr_code scope level index ++ private_load scope (register_at level (Integer (type_of_elements scope name))) name (register_for scope level index) ∷ []
      else address_code scope level name index ++ instruction.Load (register_at level (Integer (type_of_elements scope name))) (register_at level (kind_named scope name)) ∷ []))
      (register_at level (Integer (type_of_elements scope name))) after
      → Agree given code bound s (if b then eval given.here index vs (λ i. load_element vs name i after)
      else known name (look vs name) (λ p. eval given.here index vs (λ i. moved p i (λ q. load q after))))
  either_runs scope level name index s vs after free same index_runs higher_runs true is has go = array_runs scope level name index s vs after free same is index_runs has go
  either_runs scope level name index s vs after free same index_runs higher_runs false is has go = loaded_runs scope level name index s vs after free same higher_runs has go

  -- the index of an element of a private array, or a pointer that is moved
  part_runs : (scope : Scope) (level name : ℕ) (index : Term) (s : State) (vs : Variables) (after : Destination → Continuation)
      → free_level scope ≤ level → Sees scope s.registers vs → Runs scope level index vs → Runs scope (level + 1) index vs → (b : Bool)
      → HasAt code s.place (if b then expr_code scope level index else address_code scope level name index)
      → ((to : Destination) (now : State) → Reached level s (s.place + length (if b then expr_code scope level index else address_code scope level name index)) now
      → HoldsPart b now.registers (if b then register_for scope level index else register_at level (kind_named scope name)) name to
      → Agree given code bound now (after to))
      → Agree given code bound s (if b then eval given.here index vs (λ i. after (ElementOf name i))
      else known name (look vs name) (λ p. eval given.here index vs (λ i. moved p i (λ q. after (Through q)))))
  part_runs scope level name index s vs after free same index_runs higher_runs true has go =
      index_runs s (λ i. after (ElementOf name i)) same has (λ i now r held. go (ElementOf name i) now r (i, refl, held))
  part_runs scope level name index s vs after free same index_runs higher_runs false has go =
      element_runs scope level name index s _ vs (λ q. after (Through q)) free same higher_runs has refl (λ p now r held. go (Through p) now r (p, refl, held))

  -- the int 1, and past the other one; or the int 0
  true_runs : (level : ℕ) (s : State) (before : ℕ) (now : State) (place : ℕ) (after : Operand → Continuation) → Reached level s before now
      → HasAt code before (truth_code (register_at level (Integer Int))) → before + 3 ≡ place
      → Follows given code bound level s place (register_at level (Integer Int)) after → Agree given code bound now (after (Integral (truth true)))
  true_runs level s before now place after r has e go =
      let to = register_at level (Integer Int) in
      let there = has_moved code (truth_code to) before now.place (sym r.at) has in
      let next = with_put now to (Some (Integral (truth true))) in
      constant_runs given code bound now _ to (truth true) there.0
      (jump_runs given code bound next _ 1 there.1.0
      (go (Integral (truth true)) (onward next 1)
      (reached_to level s (before + 1 + 1 + 1) (onward next 1) place (omega (arith, e))
      (reached_onward level s (before + 1) next 1 (reached_then level level s before now (before + 1) next (omega arith) r (reached_put level (Integer Int) now _ (before + 1) (ap (λ n. n + 1) r.at)))))
      (reg_put now.registers to (Some (Integral (truth true))))))

  false_runs : (level : ℕ) (s : State) (before : ℕ) (now : State) (place : ℕ) (after : Operand → Continuation) → Reached level s before now
      → HasAt code before (instruction.Constant (register_at level (Integer Int)) (truth false) ∷ []) → before + 1 ≡ place
      → Follows given code bound level s place (register_at level (Integer Int)) after → Agree given code bound now (after (Integral (truth false)))
  false_runs level s before now place after r has e go =
      let to = register_at level (Integer Int) in
      let there = has_moved code (instruction.Constant to (truth false) ∷ []) before now.place (sym r.at) has in
      constant_runs given code bound now _ to (truth false) there.0 (last level (Integer Int) s before now place after r e go (Integral (truth false)))

  -- the int of a test, behind which its two values are joined
  truth_runs : (level : ℕ) (s : State) (before : ℕ) (now : State) (place from : ℕ) (w : Operand) (after : Operand → Continuation) → Reached level s before now
      → HasAt code before (instruction.JumpIfZero from 2 ∷ truth_code (register_at level (Integer Int))) → reg now.registers from ≡ Some w → before + 4 ≡ place
      → Follows given code bound level s place (register_at level (Integer Int)) after → Agree given code bound now (test w (λ holds. after (Integral (truth holds))))
  truth_runs level s before now place from w after r has held e go =
      let there = has_moved code (instruction.JumpIfZero from 2 ∷ truth_code (register_at level (Integer Int))) before now.place (sym r.at) has in
      branch_runs given code bound now _ from 2 w there.0 held
      (true_runs level s (before + 1) (passed now) place after (record { at = ap (λ n. n + 1) r.at; kept = r.kept; arrays = r.arrays; turns = r.turns }) has.1 (omega (arith, e)) go)
      (false_runs level s (before + 3) (onward now 2) place after (record { at = let a = r.at in omega (arith, a); kept = r.kept; arrays = r.arrays; turns = r.turns })
      (has_moved code (instruction.Constant (register_at level (Integer Int)) (truth false) ∷ []) (before + 1 + 1 + 1) (before + 3) (omega arith) has.1.1.1) (omega (arith, e)) go)

  -- a built-in function on values that registers hold
  pub call_runs : (function : Option BuiltIn) (to : ℕ) (numbers : List ℕ) (values : List Operand) (s : State) (after : Operand → Continuation)
      → HasAt code s.place (call_code function to numbers) → Hold s.registers numbers values → ((v : Operand) → Agree given code bound (with_put s to (Some v)) (after v))
      → Agree given code bound s (call given.here function values after)
  call_runs None to numbers values s after has held go = ends given code bound s has.0
  call_runs (Some built_in_function.WorkDim) to [] [] s after has held go = dimensions_run given code bound s after to has.0 go
  call_runs (Some built_in_function.WorkDim) to [] (v ∷ values) s after has held go = absurd held
  call_runs (Some built_in_function.WorkDim) to (i ∷ numbers) [] s after has held go = absurd held
  call_runs (Some built_in_function.WorkDim) to (i ∷ numbers) (v ∷ values) s after has held go = ends given code bound s has.0
  call_runs (Some (built_in_function.WorkItem function)) to [] [] s after has held go = ends given code bound s has.0
  call_runs (Some (built_in_function.WorkItem function)) to [] (v ∷ values) s after has held go = absurd held
  call_runs (Some (built_in_function.WorkItem function)) to (i ∷ numbers) [] s after has held go = absurd held
  call_runs (Some (built_in_function.WorkItem function)) to (i ∷ []) (v ∷ []) s after has held go = query_runs given code bound s after to function i v has.0 held.0 go
  call_runs (Some (built_in_function.WorkItem function)) to (i ∷ []) (v ∷ w ∷ values) s after has held go = absurd held.1
  call_runs (Some (built_in_function.WorkItem function)) to (i ∷ j ∷ numbers) (v ∷ []) s after has held go = absurd held.1
  call_runs (Some (built_in_function.WorkItem function)) to (i ∷ j ∷ numbers) (v ∷ w ∷ values) s after has held go = ends given code bound s has.0
  call_runs (Some (built_in_function.Integer function)) to [] [] s after has held go = ends given code bound s has.0
  call_runs (Some (built_in_function.Integer function)) to [] (v ∷ values) s after has held go = absurd held
  call_runs (Some (built_in_function.Integer function)) to (i ∷ numbers) [] s after has held go = absurd held
  call_runs (Some (built_in_function.Integer function)) to (i ∷ []) (v ∷ []) s after has held go = one_integer_runs given code bound s after to function i v has.0 held.0 go
  call_runs (Some (built_in_function.Integer function)) to (i ∷ []) (v ∷ w ∷ values) s after has held go = absurd held.1
  call_runs (Some (built_in_function.Integer function)) to (i ∷ j ∷ numbers) (v ∷ []) s after has held go = absurd held.1
  call_runs (Some (built_in_function.Integer function)) to (i ∷ j ∷ []) (v ∷ w ∷ []) s after has held go =
      two_integers_run given code bound s after to function i j v w has.0 held.0 held.1.0 go
  call_runs (Some (built_in_function.Integer function)) to (i ∷ j ∷ []) (v ∷ w ∷ x ∷ values) s after has held go = absurd held.1.1
  call_runs (Some (built_in_function.Integer function)) to (i ∷ j ∷ k ∷ numbers) (v ∷ w ∷ []) s after has held go = absurd held.1.1
  call_runs (Some (built_in_function.Integer function)) to (i ∷ j ∷ k ∷ numbers) (v ∷ w ∷ x ∷ values) s after has held go = ends given code bound s has.0
  call_runs (Some (built_in_function.Atomic function)) to [] [] s after has held go = ends given code bound s has.0
  call_runs (Some (built_in_function.Atomic function)) to [] (v ∷ values) s after has held go = absurd held
  call_runs (Some (built_in_function.Atomic function)) to (i ∷ numbers) [] s after has held go = absurd held
  call_runs (Some (built_in_function.Atomic function)) to (i ∷ []) (v ∷ []) s after has held go = fetch_alone_runs given code bound bound s after to function i v (omega arith) has.0 held.0 go
  call_runs (Some (built_in_function.Atomic function)) to (i ∷ []) (v ∷ w ∷ values) s after has held go = absurd held.1
  call_runs (Some (built_in_function.Atomic function)) to (i ∷ j ∷ numbers) (v ∷ []) s after has held go = absurd held.1
  call_runs (Some (built_in_function.Atomic function)) to (i ∷ j ∷ []) (v ∷ w ∷ []) s after has held go =
      fetch_number_runs given code bound bound s after to function i j v w (omega arith) has.0 held.0 held.1.0 go
  call_runs (Some (built_in_function.Atomic function)) to (i ∷ j ∷ []) (v ∷ w ∷ x ∷ values) s after has held go = absurd held.1.1
  call_runs (Some (built_in_function.Atomic function)) to (i ∷ j ∷ k ∷ numbers) (v ∷ w ∷ []) s after has held go = absurd held.1.1
  call_runs (Some (built_in_function.Atomic function)) to (i ∷ j ∷ k ∷ []) (v ∷ w ∷ x ∷ []) s after has held go =
      fetch_pair_runs given code bound bound s after to function i j k v w x (omega arith) has.0 held.0 held.1.0 held.1.1.0 go
  call_runs (Some (built_in_function.Atomic function)) to (i ∷ j ∷ k ∷ []) (v ∷ w ∷ x ∷ y ∷ values) s after has held go = absurd held.1.1.1
  call_runs (Some (built_in_function.Atomic function)) to (i ∷ j ∷ k ∷ l ∷ numbers) (v ∷ w ∷ x ∷ []) s after has held go = absurd held.1.1.1
  call_runs (Some (built_in_function.Atomic function)) to (i ∷ j ∷ k ∷ l ∷ numbers) (v ∷ w ∷ x ∷ y ∷ values) s after has held go = ends given code bound s has.0

  -- an operator behind its left operand
  infix_runs : (scope : Scope) (level : ℕ) (operator : InfixOperator) (left right : Term) (s : State) (middle : ℕ) (now : State) (place : ℕ) (vs : Variables) (v : Operand) (after : Operand → Continuation)
      → free_level scope ≤ level → Sees scope s.registers vs → Runs scope (level + 1) right vs → Reached level s middle now → reg now.registers (register_for scope level left) ≡ Some v
      → HasAt code middle (infix_code operator (register_at level (infix_type operator (kind_of scope left) (kind_of scope right))) (register_for scope level left) (register_for scope (level + 1) right) (expr_code scope (level + 1) right))
      → middle + length (infix_code operator (register_at level (infix_type operator (kind_of scope left) (kind_of scope right))) (register_for scope level left) (register_for scope (level + 1) right) (expr_code scope (level + 1) right)) ≡ place
      → Follows given code bound level s place (register_at level (infix_type operator (kind_of scope left) (kind_of scope right))) after
      → Agree given code bound now (settle operator v after (eval given.here right vs (λ w. join operator v w after)))
  infix_runs scope level (Arithmetic operator) left right s middle now place vs v after free same right_runs r held has e go =
      let kind = infix_type (Arithmetic operator) (kind_of scope left) (kind_of scope right) in
      let inner = expr_code scope (level + 1) right in
      let end : List Instruction = instruction.Binary (register_at level kind) operator (register_for scope level left) (register_for scope (level + 1) right) ∷ [] in
      let there = has_moved code (inner ++ end) middle now.place (sym r.at) has in
      right_runs now (λ w. binary_operation operator v w after) (seen_kept scope level s middle now vs free r same) (has_left code inner end now.place there)
      (λ w later q right_held.
      let here = has_right code inner end now.place later.place (sym q.at) there in
      binary_runs given code bound later after (register_at level kind) operator (register_for scope level left) (register_for scope (level + 1) right) v w here.0
      (register_kept level (kind_of scope left) (level + 1) now (now.place + length inner) later (Some v) (omega arith) q held) right_held
      (last level kind s (now.place + length inner) later place after (reached_then level (level + 1) s middle now (now.place + length inner) later (omega arith) r q)
      (let a = r.at in omega (arith, a, e, length-append inner end)) go))
  infix_runs scope level LogicalAnd left right s middle now place vs v after free same right_runs r held has e go =
      let to = register_at level (Integer Int) in
      let inner = expr_code scope (level + 1) right in
      let end : List Instruction = instruction.JumpIfZero (register_for scope (level + 1) right) 2 ∷ truth_code to in
      let by = length inner + 3 in
      let whole : middle + 1 + length inner + 4 ≡ place = omega (arith, e, length-append inner end) in
      let there = has_moved code (instruction.JumpIfZero (register_for scope level left) by ∷ (inner ++ end)) middle now.place (sym r.at) has in
      let tests = has_right code inner end (middle + 1) (middle + 1 + length inner) refl has.1 in
      branch_runs given code bound now (λ holds. if holds then eval given.here right vs (λ w. test w (λ b. after (Integral (truth b)))) else after (Integral (truth false))) (register_for scope level left) by v there.0 held
      (right_runs (passed now) (λ w. test w (λ b. after (Integral (truth b)))) (seen_kept scope level s middle now vs free r same) (has_left code inner end (now.place + 1) there.1)
      (λ w later q right_held.
      let p : now.place + 1 + length inner ≡ middle + 1 + length inner = ap (λ n. n + 1 + length inner) r.at in
      truth_runs level s (middle + 1 + length inner) later place (register_for scope (level + 1) right) w after
      (reached_then level (level + 1) s (middle + 1) (passed now) (middle + 1 + length inner) later (omega arith) (reached_passed level s middle now r) (reached_to (level + 1) (passed now) _ later _ p q))
      tests right_held whole go))
      (false_runs level s (middle + 1 + by) (onward now by) place after (reached_onward level s middle now by r)
      (has_moved code (instruction.Constant to (truth false) ∷ []) (middle + 1 + length inner + 1 + 1 + 1) (middle + 1 + by) (omega arith) tests.1.1.1) (omega (arith, whole)) go)
  infix_runs scope level LogicalOr left right s middle now place vs v after free same right_runs r held has e go =
      let to = register_at level (Integer Int) in
      let inner = expr_code scope (level + 1) right in
      let end : List Instruction = instruction.JumpIfZero (register_for scope (level + 1) right) 2 ∷ truth_code to in
      let by = length inner + 1 in
      let start = middle + 1 + 1 in
      let whole : start + length inner + 4 ≡ place = omega (arith, e, length-append inner end) in
      let there = has_moved code (instruction.JumpIfZero (register_for scope level left) 1 ∷ instruction.Jump by ∷ (inner ++ end)) middle now.place (sym r.at) has in
      let tests = has_right code inner end start (start + length inner) refl has.1.1 in
      branch_runs given code bound now (λ holds. if holds then after (Integral (truth true)) else eval given.here right vs (λ w. test w (λ b. after (Integral (truth b))))) (register_for scope level left) 1 v there.0 held
      (jump_runs given code bound (passed now) (after (Integral (truth true))) by there.1.0
      (true_runs level s (middle + 1 + 1 + by) (onward (passed now) by) place after (reached_onward level s (middle + 1) (passed now) by (reached_passed level s middle now r))
      (has_moved code (truth_code to) (start + length inner + 1) (middle + 1 + 1 + by) (omega arith) tests.1) (omega (arith, whole)) go))
      (right_runs (onward now 1) (λ w. test w (λ b. after (Integral (truth b)))) (seen_kept scope level s middle now vs free r same)
      (has_moved code inner (now.place + 1 + 1) (now.place + 1 + 1) refl (has_left code inner end (now.place + 1 + 1) there.1.1))
      (λ w later q right_held.
      let p : now.place + 1 + 1 + length inner ≡ start + length inner = ap (λ n. n + 1 + 1 + length inner) r.at in
      truth_runs level s (start + length inner) later place (register_for scope (level + 1) right) w after
      (reached_then level (level + 1) s start (onward now 1) (start + length inner) later (omega arith) (reached_onward level s middle now 1 r) (reached_to (level + 1) (onward now 1) _ later _ p q))
      tests right_held whole go))

  -- a branch of a choice
  chosen_runs : (scope : Scope) (level : ℕ) (e other : Term) (kind : VariableType) (s : State) (before : ℕ) (now : State) (vs : Variables) (after : Operand → Continuation)
      → free_level scope ≤ level → Sees scope s.registers vs → Runs scope level e vs → Reached level s before now
      → HasAt code before (branch_code (register_at level kind) (expr_code scope level e) (register_for scope level e) (kind_of scope other))
      → Follows given code bound level s (before + length (branch_code (register_at level kind) (expr_code scope level e) (register_for scope level e) (kind_of scope other))) (register_at level kind) after
      → Agree given code bound now (eval given.here e vs (λ w. chosen_value w (type_of vs other) after))
  chosen_runs scope level e other kind s before now vs after free same runs r has go =
      let inner = expr_code scope level e in
      let end : List Instruction = instruction.UsualConversion (register_at level kind) (register_for scope level e) (base_type (kind_of scope other)) ∷ [] in
      let there = has_moved code (inner ++ end) before now.place (sym r.at) has in
      runs now (λ w. chosen_value w (type_of vs other) after) (seen_kept scope level s before now vs free r same) (has_left code inner end now.place there)
      (λ w later q held.
      let here = has_right code inner end now.place later.place (sym q.at) there in
      subst (λ k. Agree given code bound later (chosen_value w k after)) (type_seen scope s.registers vs other same)
      (common_runs given code bound later after (register_at level kind) (register_for scope level e) (base_type (kind_of scope other)) w here.0 held
      (last level kind s (now.place + length inner) later _ after (reached_then level level s before now (now.place + length inner) later (omega arith) r q)
      (let a = r.at in omega (arith, a, length-append inner end)) go)))

  -- a choice behind its condition
  choice_runs : (scope : Scope) (level : ℕ) (condition chosen otherwise : Term) (kind : VariableType) (s : State) (middle : ℕ) (now : State) (place : ℕ) (vs : Variables) (v : Operand) (after : Operand → Continuation)
      → free_level scope ≤ level → Sees scope s.registers vs → Runs scope level chosen vs → Runs scope level otherwise vs
      → Reached level s middle now → reg now.registers (register_for scope level condition) ≡ Some v
      → HasAt code middle (choice_code (register_for scope level condition)
      (branch_code (register_at level kind) (expr_code scope level chosen) (register_for scope level chosen) (kind_of scope otherwise))
      (branch_code (register_at level kind) (expr_code scope level otherwise) (register_for scope level otherwise) (kind_of scope chosen)))
      → middle + length (choice_code (register_for scope level condition)
      (branch_code (register_at level kind) (expr_code scope level chosen) (register_for scope level chosen) (kind_of scope otherwise))
      (branch_code (register_at level kind) (expr_code scope level otherwise) (register_for scope level otherwise) (kind_of scope chosen))) ≡ place
      → Follows given code bound level s place (register_at level kind) after
      → Agree given code bound now (test v (λ holds.
      if holds then eval given.here chosen vs (λ w. chosen_value w (type_of vs otherwise) after)
      else eval given.here otherwise vs (λ w. chosen_value w (type_of vs chosen) after)))
  choice_runs scope level condition chosen otherwise kind s middle now place vs v after free same chosen_run otherwise_run r held has e go =
      let to = register_at level kind in
      let first = branch_code to (expr_code scope level chosen) (register_for scope level chosen) (kind_of scope otherwise) in
      let second = branch_code to (expr_code scope level otherwise) (register_for scope level otherwise) (kind_of scope chosen) in
      let by = length first + 1 in
      let jump : List Instruction = instruction.Jump (length second) ∷ second in
      let whole : middle + 1 + by + length second ≡ place = omega (arith, e, length-append first jump) in
      let there = has_moved code (instruction.JumpIfZero (register_for scope level condition) by ∷ (first ++ jump)) middle now.place (sym r.at) has in
      let behind = has_right code first jump (middle + 1) (middle + 1 + length first) refl has.1 in
      branch_runs given code bound now _ (register_for scope level condition) by v there.0 held
      (chosen_runs scope level chosen otherwise kind s (middle + 1) (passed now) vs after free same chosen_run (reached_passed level s middle now r) (has_left code first jump (middle + 1) has.1)
      (λ w later q value_held.
      let here = has_moved code jump (middle + 1 + length first) later.place (sym q.at) behind in
      jump_runs given code bound later (after w) (length second) here.0
      (go w (onward later (length second)) (reached_to level s _ (onward later (length second)) place (omega (arith, whole)) (reached_onward level s (middle + 1 + length first) later (length second) q)) value_held)))
      (chosen_runs scope level otherwise chosen kind s (middle + 1 + by) (onward now by) vs after free same otherwise_run (reached_onward level s middle now by r)
      (has_moved code second (middle + 1 + length first + 1) (middle + 1 + by) (omega arith) behind.1)
      (λ w later q value_held. go w later (reached_to level s _ later place whole q) value_held))

  -- a constant expression is one instruction, and its evaluation goes on with that number
  folded_runs : (scope : Scope) (level : ℕ) (e : Term) (plain : List Instruction) (s : State) (vs : Variables) (after : Operand → Continuation) → Sees scope s.registers vs
      → (o : Option integers.Integer) → constant_of scope.variables e ≡ o
      → (HasAt code s.place plain → Follows given code bound level s (s.place + length plain) (register_for scope level e) after → Agree given code bound s (eval given.here e vs after))
      → HasAt code s.place (folded o level plain) → Follows given code bound level s (s.place + length (folded o level plain)) (register_for scope level e) after
      → Agree given code bound s (eval given.here e vs after)
  folded_runs scope level e plain s vs after same None is run has go = run has go
  folded_runs scope level e plain s vs after same (Some v) is run has go =
      subst (λ r. Agree given code bound s r) (sym (value_is given.here vs e v (constant_seen scope s.registers vs e same ∙ is) after))
      (constant_runs given code bound s _ (register_at level (Integer v.kind)) v has.0
      (last level (Integer v.kind) s s.place s (s.place + 1) after (reached_here level s s.place refl) refl
      (subst (λ k. Follows given code bound level s (s.place + 1) (register_at level k) after) (kind_is scope.variables e v is) go) (Integral v)))

  -- The code of an expression, of arguments, and of a place acts as their evaluation.
  mutual
    pub expr_runs : (scope : Scope) (level : ℕ) (e : Term) (s : State) (vs : Variables) (after : Operand → Continuation) → free_level scope ≤ level → Sees scope s.registers vs
        → HasAt code s.place (expr_code scope level e)
        → Follows given code bound level s (s.place + length (expr_code scope level e)) (register_for scope level e) after
        → Agree given code bound s (eval given.here e vs after)
    expr_runs scope level (tree.Number at value) s vs after free same has go =
        constant_runs given code bound s _ (register_at level (Integer value.kind)) value has.0
        (last level (Integer value.kind) s s.place s (s.place + 1) after (reached_here level s s.place refl) refl go (Integral value))
    expr_runs scope level (tree.Variable at name) s vs after free same has go =
        subst (λ o. Agree given code bound s (known name o after)) (look_seen scope s.registers name vs same)
        (variable_runs level (kind_named scope name) (register_of scope name) name s _ after has refl go)
    expr_runs scope level (tree.ElementAddress at name_at name index) s vs after free same has go =
        element_runs scope level name index s _ vs (λ q. after (Pointed q)) free same
        (λ now next seen_now there follows. expr_runs scope (level + 1) index now vs next (omega (arith, free)) seen_now there follows) has refl (λ p now r held. go (Pointed p) now r held)
    expr_runs scope level (tree.Element at name index) s vs after free same has go =
        subst (λ b. Agree given code bound s (if b then eval given.here index vs (λ i. load_element vs name i after)
        else known name (look vs name) (λ p. eval given.here index vs (λ i. moved p i (λ q. load q after))))) (array_seen scope s.registers name vs same)
        (either_runs scope level name index s vs after free same
        (λ now next seen_now there follows. expr_runs scope level index now vs next free seen_now there follows)
        (λ now next seen_now there follows. expr_runs scope (level + 1) index now vs next (omega (arith, free)) seen_now there follows) (is_private_array scope.variables name) refl has go)
    expr_runs scope level (tree.Dereference at pointer) s vs after free same has go =
        let kind = kind_of scope (tree.Dereference at pointer) in
        let inner = expr_code scope level pointer in
        let from = register_for scope level pointer in
        let end : List Instruction = instruction.Load (register_at level kind) from ∷ [] in
        expr_runs scope level pointer s vs (λ p. pointing p (λ q. load q after)) free same (has_left code inner end s.place has)
        (λ p now r held.
        let here = has_right code inner end s.place now.place (sym r.at) has in
        load_runs given code bound bound now after (register_at level kind) from p (omega arith) here.0 held
        (last level kind s (s.place + length inner) now _ after r (omega (arith, length-append inner end)) go))
    expr_runs scope level (tree.Call at name arguments) s vs after free same has go =
        let kind = kind_of scope (tree.Call at name arguments) in
        let before = terms_code scope level arguments in
        let numbers = registers_for scope level arguments in
        let end = call_code (built_in name) (register_at level kind) numbers in
        folded_runs scope level (tree.Call at name arguments) (before ++ end) s vs after same (constant_of scope.variables (tree.Call at name arguments)) refl
        (λ has go.
        terms_run scope level arguments s vs (λ values. call given.here (built_in name) values after) free same (has_left code before end s.place has)
        (λ values now r held.
        let here = has_right code before end s.place now.place (sym r.at) has in
        call_runs (built_in name) (register_at level kind) numbers values now after here held
        (last level kind s (s.place + length before) now _ after r (omega (arith, length-append before end, call_length (built_in name) (register_at level kind) numbers)) go))) has go
    expr_runs scope level (tree.Unary at operator operand) s vs after free same has go =
        let kind = kind_of scope (tree.Unary at operator operand) in
        let inner = expr_code scope level operand in
        let from = register_for scope level operand in
        let end : List Instruction = instruction.Unary (register_at level kind) operator from ∷ [] in
        folded_runs scope level (tree.Unary at operator operand) (inner ++ end) s vs after same (constant_of scope.variables (tree.Unary at operator operand)) refl
        (λ has go.
        expr_runs scope level operand s vs (λ v. number v (λ n. after (Integral (unary_value operator n)))) free same (has_left code inner end s.place has)
        (λ v now r held.
        let here = has_right code inner end s.place now.place (sym r.at) has in
        unary_runs given code bound now (λ n. after (Integral (unary_value operator n))) (register_at level kind) from operator v here.0 held
        (λ n. last level kind s (s.place + length inner) now _ after r (omega (arith, length-append inner end)) go (Integral (unary_value operator n))))) has go
    expr_runs scope level (tree.Cast at target operand) s vs after free same has go =
        let inner = expr_code scope level operand in
        let from = register_for scope level operand in
        let end : List Instruction = instruction.Convert (register_at level (Integer target)) from target ∷ [] in
        folded_runs scope level (tree.Cast at target operand) (inner ++ end) s vs after same (constant_of scope.variables (tree.Cast at target operand)) refl
        (λ has go.
        expr_runs scope level operand s vs (λ v. number v (λ n. after (Integral (converted n target)))) free same (has_left code inner end s.place has)
        (λ v now r held.
        let here = has_right code inner end s.place now.place (sym r.at) has in
        convert_runs given code bound now (λ n. after (Integral (converted n target))) (register_at level (Integer target)) from target v here.0 held
        (λ n. last level (Integer target) s (s.place + length inner) now _ after r (omega (arith, length-append inner end)) go (Integral (converted n target))))) has go
    expr_runs scope level (tree.Binary at operator left right) s vs after free same has go =
        let before = expr_code scope level left in
        let end = infix_code operator (register_for scope level (tree.Binary at operator left right)) (register_for scope level left) (register_for scope (level + 1) right) (expr_code scope (level + 1) right) in
        folded_runs scope level (tree.Binary at operator left right) (before ++ end) s vs after same (constant_of scope.variables (tree.Binary at operator left right)) refl
        (λ has go.
        expr_runs scope level left s vs _ free same (has_left code before end s.place has)
        (λ v now r held.
        infix_runs scope level operator left right s (s.place + length before) now _ vs v after free same
        (λ state next seen_now there follows. expr_runs scope (level + 1) right state vs next (omega (arith, free)) seen_now there follows) r held
        (has_right code before end s.place (s.place + length before) refl has) (omega (arith, length-append before end)) go)) has go
    expr_runs scope level (tree.Choice at condition chosen otherwise) s vs after free same has go =
        let kind = kind_of scope (tree.Choice at condition chosen otherwise) in
        let to = register_at level kind in
        let before = expr_code scope level condition in
        let first = branch_code to (expr_code scope level chosen) (register_for scope level chosen) (kind_of scope otherwise) in
        let second = branch_code to (expr_code scope level otherwise) (register_for scope level otherwise) (kind_of scope chosen) in
        let end = choice_code (register_for scope level condition) first second in
        folded_runs scope level (tree.Choice at condition chosen otherwise) (before ++ end) s vs after same (constant_of scope.variables (tree.Choice at condition chosen otherwise)) refl
        (λ has go.
        expr_runs scope level condition s vs _ free same (has_left code before end s.place has)
        (λ v now r held.
        choice_runs scope level condition chosen otherwise kind s (s.place + length before) now _ vs v after free same
        (λ state next seen_now there follows. expr_runs scope level chosen state vs next free seen_now there follows)
        (λ state next seen_now there follows. expr_runs scope level otherwise state vs next free seen_now there follows) r held
        (has_right code before end s.place (s.place + length before) refl has) (omega (arith, length-append before end)) go)) has go

    pub terms_run : (scope : Scope) (level : ℕ) (es : Terms) (s : State) (vs : Variables) (after : List Operand → Continuation) → free_level scope ≤ level → Sees scope s.registers vs
        → HasAt code s.place (terms_code scope level es)
        → FollowsAll given code bound level s (s.place + length (terms_code scope level es)) (registers_for scope level es) after
        → Agree given code bound s (eval_all given.here es vs after)
    terms_run scope level NoTerm s vs after free same has go = go [] s (reached_here level s (s.place + 0) (omega arith)) tt
    terms_run scope level (ThenTerm es e) s vs after free same has go =
        let before = terms_code scope level es in
        let inner = expr_code scope (level + count es) e in
        let middle = s.place + length before in
        terms_run scope level es s vs (λ values. eval given.here e vs (λ v. after (values ++ v ∷ []))) free same (has_left code before inner s.place has)
        (λ values now r held.
        let there = has_right code before inner s.place now.place (sym r.at) has in
        expr_runs scope (level + count es) e now vs (λ v. after (values ++ v ∷ [])) (omega (arith, free)) (seen_kept scope level s middle now vs free r same) there
        (λ v later q value_held.
        go (values ++ v ∷ []) later
        (reached_to level s (now.place + length inner) later _ (let a = r.at in omega (arith, a, length-append before inner))
        (reached_then level (level + count es) s middle now (now.place + length inner) later (omega arith) r q))
        (hold_then later.registers (registers_for scope level es) values (register_for scope (level + count es) e) v
        (arguments_kept scope level es values now (now.place + length inner) later q held) value_held)))

  pub target_runs : (scope : Scope) (level : ℕ) (to : Target) (s : State) (vs : Variables) (after : Destination → Continuation) → free_level scope ≤ level → Sees scope s.registers vs
      → HasAt code s.place (target_code scope level to)
      → FollowsTarget given code bound scope level s (s.place + length (target_code scope level to)) (target_register scope level to) to after
      → Agree given code bound s (reach given.here to vs after)
  target_runs scope level (tree.TargetVariable at name) s vs after free same has go = go (Named name) s (reached_here level s (s.place + 0) (omega arith)) refl
  target_runs scope level (tree.TargetElement at name index) s vs after free same has go =
      subst (λ b. Agree given code bound s (if b then eval given.here index vs (λ i. after (ElementOf name i))
      else known name (look vs name) (λ p. eval given.here index vs (λ i. moved p i (λ q. after (Through q)))))) (array_seen scope s.registers name vs same)
      (part_runs scope level name index s vs after free same
      (λ now next seen_now there follows. expr_runs scope level index now vs next free seen_now there follows)
      (λ now next seen_now there follows. expr_runs scope (level + 1) index now vs next (omega (arith, free)) seen_now there follows) (is_private_array scope.variables name) has go)
  target_runs scope level (tree.TargetDereference at pointer) s vs after free same has go =
      let kind = kind_of scope pointer in
      let inner = expr_code scope level pointer in
      let to = register_for scope level pointer in
      let end : List Instruction = instruction.MovePointer to to ∷ [] in
      expr_runs scope level pointer s vs (λ p. pointing p (λ q. after (Through q))) free same (has_left code inner end s.place has)
      (λ p now r held.
      let here = has_right code inner end s.place now.place (sym r.at) has in
      point_runs given code bound now (λ q. after (Through q)) to to p here.0 held
      (λ q. go (Through q) (with_put now to (Some (Pointed q)))
      (reached_then level level s (s.place + length inner) now (s.place + length (inner ++ end)) _ (omega arith) r
      (reached_put level kind now (Some (Pointed q)) (s.place + length (inner ++ end)) (let a = r.at in omega (arith, a, length-append inner end))))
      (q, refl, reg_put now.registers to (Some (Pointed q)))))
