-- The parts of statements: targets, the values of calls, and built-in functions.
use Rattle.std.proofs.Common.{◌≡◌, ℕ, zero, suc, ℤ, pos, negsuc, ◌+◌, ◌*◌, ◌≤◌, ◌≢◌, Bool, true, false, if◌then◌else◌, nat_lt, slice_set, Option, None, Some, List, [], ◌∷◌, ◌++◌, length, slice_get, refl, sym, ap, ◌∙◌, subst, arith, length-append}
use Rattle.clnum.specs.Integer.{bits_of}
use Rattle.clnum.specs.Integer as numbers
use Rattle.clnum.specs.declared.int_type.IntType.{IntType}
use Rattle.clmodel.specs.Next.{Continuation, fail, ask, Variables, base_type, has_elements, is_private_array, with_elements, index_of, element_set, write_element, store_element, assign, declared_type, held, load, store, reach, fetch, atomic_call, is_update, call, call_only, wait}
use Rattle.clmodel.specs.Next.Expressions.{Destination, Through}
use Rattle.clmodel.specs.Next as next
use Rattle.clmodel.specs.Tree.{Variable, Terms, NoTerm, ThenTerm, Target, TargetVariable, TargetElement, TargetDereference}
use Rattle.clmodel.specs.declared.action.Action.TheVariants as action
use Rattle.clmodel.specs.declared.action.Cause.TheVariants as cause
use Rattle.clmodel.specs.declared.action.Fences.{Fences}
use Rattle.clmodel.specs.declared.operand.Operand.{Operand}
use Rattle.clmodel.specs.declared.operand.Operand.TheVariants.{Pointed}
use Rattle.clmodel.specs.declared.operand.Pointer.{Pointer}
use Rattle.clmodel.specs.declared.setup.AtomicFunction.{AtomicFunction}
use Rattle.clmodel.specs.declared.setup.BuiltIn.{BuiltIn}
use Rattle.clmodel.specs.declared.setup.BuiltIn.TheVariants as built_in_function
use Rattle.clmodel.specs.declared.tree.VariableType.{VariableType}
use Rattle.clmodel.specs.declared.tree.VariableType.TheVariants.{Integer}
use Rattle.regcode.specs.Machine.{State, ItemContext, reg, array_of, with_put, with_array, passed}
use Rattle.regcode.specs.declared.instruction.Instruction.{Instruction}
use Rattle.regcode.specs.declared.instruction.Instruction.TheVariants as instruction
use Rattle.regcode.proofs.Agreement.{Alike, number_alike, Agree, steps, ends, hold_runs, load_runs, store_runs, update_runs, update_by_one_runs, barrier_runs}
use Rattle.regcode.proofs.Registers.{reg_put, reg_kept}
use Rattle.lower_expr.specs.Scope.{Scope, register_at, register_of, level_of, Sees, free_level}
use Rattle.lower_expr.specs.Expressions.{kind_named, type_of_elements, private_load, private_store, count, target_code, target_register, register_for, registers_for, call_code, update_code, call_only_code}
use Rattle.lower_expr.specs.Agreement.{HasAt, Reached, Hold, HoldsPart, HoldsTarget}
use Rattle.lower_expr.proofs.Places.{has_moved, reached_put, array_seen, elements_seen, type_seen}
use Rattle.lower_code.specs.Code.{set_variable_code, type_of_target, fetch_code, put_code, wait_code}
use Rattle.lower_expr.proofs.Lengths.{call_length}
use Rattle.lower_expr.proofs.Expressions.{expr_runs, target_runs, private_load_run, call_runs}
use Rattle.lower.proofs.Scopes.{Same, same_self, same_then, put_same, sees_same, slot_between, assigned_sees, unassigned_sees, level_from, stored_sees}
use Rattle.lower.proofs.Stands.{Stands, put_stands, array_stands, passed_stands, stands_to, here_at}

-- arguments lie at a level and above, each a level above the one before
abbrev pub Placed : ℕ → List ℕ → Type 0
Placed level [] = Unit {0}
Placed level (i ∷ numbers) = (16 * level ≤ i) × Placed (level + 1) numbers

placed_then : (level : ℕ) (numbers : List ℕ) (i : ℕ) → Placed level numbers → 16 * (level + length numbers) ≤ i → Placed level (numbers ++ i ∷ [])
placed_then level [] i h below = (omega arith, tt)
placed_then level (j ∷ numbers) i h below = (h.0, placed_then (level + 1) numbers i h.1 (omega arith))

count_is : (scope : Scope) (level : ℕ) (es : Terms) → length (registers_for scope level es) ≡ count es
count_is scope level NoTerm = refl
count_is scope level (ThenTerm es e) =
    let is = count_is scope level es in
    omega (arith, length-append (registers_for scope level es) (register_for scope (level + count es) e ∷ []))

pub arguments_placed : (scope : Scope) (level : ℕ) (es : Terms) → Placed level (registers_for scope level es)
arguments_placed scope level NoTerm = tt
arguments_placed scope level (ThenTerm es e) =
    let is = count_is scope level es in
    placed_then level (registers_for scope level es) (register_for scope (level + count es) e) (arguments_placed scope level es) (omega arith)

-- what is done behind a store in a private array that has elements may be replaced by what acts alike where there are
-- elements
set_some : (elements : List (Option ℕ)) (i : ℕ) (n : Option ℕ) → has_elements (slice_set elements i n) ≡ has_elements elements
set_some [] i n = refl
set_some (element ∷ elements) zero n = refl
set_some (element ∷ elements) (suc i) n = refl

set_kept : (ticks : ℕ) (name : ℕ) (i : ℤ) (kind : IntType) (elements : List (Option ℕ)) (v : numbers.Integer) (f g : List (Option ℕ) → Continuation) → has_elements elements ≡ true
    → ((new : List (Option ℕ)) → has_elements new ≡ true → Alike ticks (f new) (g new)) → Alike ticks (element_set name i kind elements v f) (element_set name i kind elements v g)
set_kept ticks name (pos i) kind elements v f g some h = inside (nat_lt i (length elements))
  where
    new : List (Option ℕ)
    new = slice_set elements i (Some (bits_of kind v.number))

    inside : (b : Bool) → Alike ticks (if b then f new else fail (cause.PrivateBounds name (pos i))) (if b then g new else fail (cause.PrivateBounds name (pos i)))
    inside true = h new (set_some elements i _ ∙ some)
    inside false = λ answers. refl
set_kept ticks name (negsuc i) kind elements v f g some h = λ answers. refl

write_kept : (ticks : ℕ) (name : ℕ) (kind : IntType) (elements : List (Option ℕ)) (i v : Operand) (f g : List (Option ℕ) → Continuation) → has_elements elements ≡ true
    → ((new : List (Option ℕ)) → has_elements new ≡ true → Alike ticks (f new) (g new)) → Alike ticks (write_element name kind elements i v f) (write_element name kind elements i v g)
write_kept ticks name kind elements i v f g some h =
    number_alike ticks i _ _ (λ n. number_alike ticks v _ _ (λ m. set_kept ticks name (index_of n) kind elements m f g some h))

module _ (given : ItemContext) (code : List Instruction) (bound : ℕ) where
  -- a store in a private array that has elements, which it has afterwards
  kept_store_runs : (s : State) (run : List (Option ℕ) → Continuation) (array index value : ℕ) (element : IntType) (name : ℕ) (i v : Operand)
      → slice_get code s.place ≡ Some (instruction.PrivateStore array index value element name) → reg s.registers index ≡ Some i → reg s.registers value ≡ Some v
      → has_elements (array_of s.registers array) ≡ true
      → ((elements : List (Option ℕ)) → has_elements elements ≡ true → Agree given code bound (with_array s array elements) (run elements))
      → Agree given code bound s (write_element name element (array_of s.registers array) i v run)
  kept_store_runs s run array index value element name i v here is is' some agree =
      steps given code bound s _ _ here (λ ticks on after next. rw (is, is')
      (write_kept ticks name element (array_of s.registers array) i v _ run some (λ elements full. next.on_like _ (run elements) (omega arith) (agree elements full))))

  -- a variable is given a value
  pub name_runs : (scope : Scope) (s : State) (ts : List ℕ) (place : ℕ) (now : State) (vs : Variables) (name level : ℕ) (from : VariableType) (v : Operand) (run : Variables → Continuation) → free_level scope ≤ level
      → Stands scope.base s ts place now → Sees scope now.registers vs → HasAt code place (set_variable_code (register_of scope name) (register_at level from) (kind_named scope name))
      → reg now.registers (register_at level from) ≡ Some v
      → ((last : State) (after : Variables) → Stands scope.base s ts (place + length (set_variable_code (register_of scope name) (register_at level from) (kind_named scope name))) last → Sees scope last.registers after → Agree given code bound last (run after))
      → Agree given code bound now (run (assign vs name v))
  name_runs scope s ts place now vs name level from v run free stands same has is go = cases (register_of scope name) refl has go
    where
      cases : (o : Option ℕ) → register_of scope name ≡ o → HasAt code place (set_variable_code o (register_at level from) (kind_named scope name))
          → ((last : State) (after : Variables) → Stands scope.base s ts (place + length (set_variable_code o (register_at level from) (kind_named scope name))) last → Sees scope last.registers after → Agree given code bound last (run after))
          → Agree given code bound now (run (assign vs name v))
      cases None e has go =
          let kind = kind_named scope name in
          let last = with_put now (register_at level from) (Some (held kind v)) in
          hold_runs given code bound now (run (assign vs name v)) (register_at level from) (register_at level from) kind v (here_at code place _ scope.base s ts now stands has.0) is
          (go last (assign vs name v) (put_stands scope.base level from s ts place now (Some (held kind v)) (omega (arith, free)) stands)
          (sees_same scope now.registers last.registers (assign vs name v) (put_same level from (free_level scope) now.registers (Some (held kind v)) free)
          (unassigned_sees scope now.registers vs name v e same)))
      cases (Some r) e has go =
          let kind = kind_named scope name in
          let between = slot_between scope.base scope.variables name r e in
          let last = with_put now r (Some (held kind v)) in
          hold_runs given code bound now (run (assign vs name v)) r (register_at level from) kind v (here_at code place _ scope.base s ts now stands has.0) is
          (go last (assign vs name v)
          (record {
            at = ap (λ n. n + 1) stands.at;
            kept = same_then scope.base scope.base s.registers now.registers last.registers (omega arith) stands.kept
                (record {
                  registers = λ i below. let ne : r ≢ i = λ e. absurd (omega (arith, e, below, between.0)) in reg_kept now.registers r (Some (held kind v)) i ne;
                  arrays = λ a below. refl;
                });
            turns = stands.turns;
          })
          (assigned_sees scope now.registers vs name r v e same))

  -- the target is reached
  pub reach_runs : (scope : Scope) (level : ℕ) (place : Target) (s : State) (vs : Variables) (after : Destination → Continuation) → free_level scope ≤ level → Sees scope s.registers vs
      → HasAt code s.place (target_code scope level place)
      → ((now : State) (to : Destination) → Reached level s (s.place + length (target_code scope level place)) now → HoldsTarget scope now.registers (target_register scope level place) place to → Agree given code bound now (after to))
      → Agree given code bound s (reach given.here place vs after)
  reach_runs scope level place s vs after free same has go = target_runs given code bound scope level place s vs after free same has (λ to now r held. go now to r held)

  -- a load through a pointer at hand
  behind_fetched : (level : ℕ) (kind : VariableType) (pointer : ℕ) (q : Pointer) (to : Destination) (s : State) (vs : Variables) (after : Operand → Continuation)
      → to ≡ Through q → reg s.registers pointer ≡ Some (Pointed q) → slice_get code s.place ≡ Some (instruction.Load (register_at level kind) pointer)
      → ((now : State) (v : Operand) → Reached level s (s.place + 1) now → reg now.registers (register_at level kind) ≡ Some v → Agree given code bound now (after v))
      → Agree given code bound s (fetch to vs after)
  behind_fetched level kind pointer q to s vs after is held here go =
      subst (λ to. Agree given code bound s (fetch to vs after)) (sym is)
      (load_runs given code bound bound s after (register_at level kind) pointer (Pointed q) (omega arith) here held
      (λ x. go (with_put s (register_at level kind) (Some x)) x (reached_put level kind s (Some x) (s.place + 1) refl) (reg_put s.registers (register_at level kind) (Some x))))

  -- the old value is fetched
  pub fetch_runs : (scope : Scope) (level : ℕ) (place : Target) (pointer : ℕ) (to : Destination) (s : State) (vs : Variables) (after : Operand → Continuation) → free_level scope ≤ level → Sees scope s.registers vs
      → HoldsTarget scope s.registers pointer place to → HasAt code s.place (fetch_code scope place pointer (register_at level (type_of_target scope place)))
      → ((now : State) (v : Operand) → Reached level s (s.place + length (fetch_code scope place pointer (register_at level (type_of_target scope place)))) now → reg now.registers (register_at level (type_of_target scope place)) ≡ Some v → Agree given code bound now (after v))
      → Agree given code bound s (fetch to vs after)
  fetch_runs scope level (TargetVariable at name) pointer to s vs after free same is has go =
      subst (λ to. Agree given code bound s (fetch to vs after)) (sym is)
      (expr_runs given code bound scope level (Variable at name) s vs after free same has (λ v now r h. go now v r h))
  fetch_runs scope level (TargetElement at name index) pointer to s vs after free same h has go = part (is_private_array scope.variables name) refl h has go
    where
      kind : VariableType
      kind = Integer (type_of_elements scope name)

      target : ℕ
      target = register_at level kind

      part : (b : Bool) → is_private_array scope.variables name ≡ b → HoldsPart b s.registers pointer name to
          → HasAt code s.place (if b then private_load scope target name pointer ∷ [] else instruction.Load target pointer ∷ [])
          → ((now : State) (v : Operand) → Reached level s (s.place + length (if b then private_load scope target name pointer ∷ [] else instruction.Load target pointer ∷ [])) now → reg now.registers target ≡ Some v → Agree given code bound now (after v))
          → Agree given code bound s (fetch to vs after)
      part true is h has go =
          subst (λ to. Agree given code bound s (fetch to vs after)) (sym h.1)
          (private_load_run given code bound scope name target pointer s vs h.0 after is same has.0 h.2
          (λ x. go (with_put s target (Some x)) x (reached_put level kind s (Some x) (s.place + 1) refl) (reg_put s.registers target (Some x))))
      part false is h has go = behind_fetched level kind pointer h.0 to s vs after h.1 h.2 has.0 go
  fetch_runs scope level (TargetDereference at term) pointer to s vs after free same h has go =
      behind_fetched level (type_of_target scope (TargetDereference at term)) pointer h.0 to s vs after h.1 h.2 has.0 go

  -- a store through a pointer at hand
  behind_put : (level : ℕ) (s : State) (ts : List ℕ) (place : ℕ) (now : State) (pointer from : ℕ) (q : Pointer) (to : Destination) (v : Operand) (vs : Variables) (run : Variables → Continuation)
      → Stands level s ts place now → to ≡ Through q → reg now.registers pointer ≡ Some (Pointed q) → reg now.registers from ≡ Some v
      → slice_get code place ≡ Some (instruction.Store pointer from)
      → (Stands level s ts (place + 1) (passed now) → Agree given code bound (passed now) (run vs))
      → Agree given code bound now (next.put to v vs run)
  behind_put level s ts place now pointer from q to v vs run stands is held value here go =
      subst (λ to. Agree given code bound now (next.put to v vs run)) (sym is)
      (store_runs given code bound bound now (run vs) pointer from (Pointed q) v (omega arith) (here_at code place _ level s ts now stands here) held value
      (go (passed_stands level s ts place now stands)))

  -- an element of a private array is set at an index at hand
  element_put : (scope : Scope) (s : State) (ts : List ℕ) (place : ℕ) (now : State) (name index from : ℕ) (i v : Operand) (vs : Variables) (run : Variables → Continuation)
      → Stands scope.base s ts place now → Sees scope now.registers vs → is_private_array scope.variables name ≡ true → reg now.registers index ≡ Some i → reg now.registers from ≡ Some v
      → slice_get code place ≡ Some (private_store scope name index from)
      → ((last : State) (after : Variables) → Stands scope.base s ts (place + 1) last → Sees scope last.registers after → Agree given code bound last (run after))
      → Agree given code bound now (store_element vs name i v run)
  element_put scope s ts place now name index from i v vs run stands same is held value here go =
      let level = level_of scope name in
      let old = array_of now.registers level in
      let old_is = elements_seen scope now.registers name vs is same in
      let some : has_elements old ≡ true = ap has_elements old_is ∙ sym (array_seen scope now.registers name vs same) ∙ is in
      let follow : List (Option ℕ) → Continuation = λ elements. run (with_elements vs name elements) in
      subst (λ xs. Agree given code bound now (write_element name (base_type (declared_type vs name)) xs i v follow)) old_is
      (subst (λ k. Agree given code bound now (write_element name k old i v follow)) (ap base_type (type_seen scope now.registers vs (Variable 0 name) same))
      (kept_store_runs now follow level index from (type_of_elements scope name) name i v (here_at code place _ scope.base s ts now stands here) held value some
      (λ elements full.
      go (with_array now level elements) (with_elements vs name elements)
      (array_stands scope.base level s ts place now elements (level_from scope.base scope.variables name) stands)
      (stored_sees scope now.registers vs name elements is full same))))

  -- a value is put there
  pub put_runs : (scope : Scope) (place : Target) (s : State) (ts : List ℕ) (at : ℕ) (now : State) (vs : Variables) (pointer level : ℕ) (from : VariableType) (to : Destination) (v : Operand) (run : Variables → Continuation) → free_level scope ≤ level
      → Stands scope.base s ts at now → Sees scope now.registers vs → HoldsTarget scope now.registers pointer place to → reg now.registers (register_at level from) ≡ Some v
      → HasAt code at (put_code scope place pointer (register_at level from))
      → ((last : State) (after : Variables) → Stands scope.base s ts (at + length (put_code scope place pointer (register_at level from))) last → Sees scope last.registers after → Agree given code bound last (run after))
      → Agree given code bound now (next.put to v vs run)
  put_runs scope (TargetVariable at' name) s ts at now vs pointer level from to v run free stands same is value has go =
      subst (λ to. Agree given code bound now (next.put to v vs run)) (sym is) (name_runs scope s ts at now vs name level from v run free stands same has value go)
  put_runs scope (TargetElement at' name index) s ts at now vs pointer level from to v run free stands same h value has go = part (is_private_array scope.variables name) refl h has go
    where
      source : ℕ
      source = register_at level from

      part : (b : Bool) → is_private_array scope.variables name ≡ b → HoldsPart b now.registers pointer name to
          → HasAt code at (if b then private_store scope name pointer source ∷ [] else instruction.Store pointer source ∷ [])
          → ((last : State) (after : Variables) → Stands scope.base s ts (at + length (if b then private_store scope name pointer source ∷ [] else instruction.Store pointer source ∷ [])) last → Sees scope last.registers after → Agree given code bound last (run after))
          → Agree given code bound now (next.put to v vs run)
      part true is h has go =
          subst (λ to. Agree given code bound now (next.put to v vs run)) (sym h.1)
          (element_put scope s ts at now name pointer source h.0 v vs run stands same is h.2 value has.0 go)
      part false is h has go = behind_put scope.base s ts at now pointer source h.0 to v vs run stands h.1 h.2 value has.0 (λ last. go (passed now) vs last same)
  put_runs scope (TargetDereference at' term) s ts at now vs pointer level from to v run free stands same h value has go =
      behind_put scope.base s ts at now pointer (register_at level from) h.0 to v vs run stands h.1 h.2 value has.0 (λ last. go (passed now) vs last same)

  -- a barrier
  pub wait_runs : (named : Option Fences) (level : ℕ) (s : State) (ts : List ℕ) (place : ℕ) (now : State) (site : ℕ) (run : Continuation)
      → Stands level s ts place now → HasAt code place (wait_code named site (length ts))
      → ((last : State) → Stands level s ts (place + length (wait_code named site (length ts))) last → last.registers ≡ now.registers → Agree given code bound last run)
      → Agree given code bound now (wait named site ts run)
  wait_runs None level s ts place now site run stands has go = ends given code bound now (here_at code place _ level s ts now stands has.0)
  wait_runs (Some named) level s ts place now site run stands has go =
      subst (λ turns. Agree given code bound now (ask (action.Barrier (record { site = site; turns = turns }) named) (λ _. run))) stands.turns
      (barrier_runs given code bound bound now run site (length ts) named (omega arith) (here_at code place _ level s ts now stands has.0)
      (go (passed now) (passed_stands level s ts place now stands) refl))

  -- a built-in function whose value is dropped
  value_only : (function : Option BuiltIn) (level higher : ℕ) (kind : VariableType) (numbers : List ℕ) (values : List Operand) (s : State) (ts : List ℕ) (place : ℕ) (now : State) (run : Continuation) → level ≤ higher
      → Stands level s ts place now → Hold now.registers numbers values → HasAt code place (call_code function (register_at higher kind) numbers)
      → ((last : State) → Stands level s ts (place + length (call_code function (register_at higher kind) numbers)) last → Same higher now.registers last.registers → Agree given code bound last run)
      → Agree given code bound now (call given.here function values (λ _. run))
  value_only function level higher kind numbers values s ts place now run less stands held has go =
      let one = call_length function (register_at higher kind) numbers in
      call_runs given code bound function (register_at higher kind) numbers values now (λ _. run) (has_moved code _ place now.place (sym stands.at) has) held
      (λ v. go (with_put now (register_at higher kind) (Some v))
      (stands_to level s ts (place + 1) _ _ (omega (arith, one)) (put_stands level higher kind s ts place now (Some v) less stands))
      (put_same higher kind higher now.registers (Some v) (omega arith)))

  -- an atomic update
  update_only : (function : AtomicFunction) (level higher : ℕ) (numbers : List ℕ) (values : List Operand) (s : State) (ts : List ℕ) (place : ℕ) (now : State) (run : Continuation)
      → Stands level s ts place now → Hold now.registers numbers values → HasAt code place (update_code function numbers)
      → ((last : State) → Stands level s ts (place + length (update_code function numbers)) last → Same higher now.registers last.registers → Agree given code bound last run)
      → Agree given code bound now (atomic_call function values run)
  update_only function level higher [] [] s ts place now run stands held has go = ends given code bound now (here_at code place _ level s ts now stands has.0)
  update_only function level higher [] (v ∷ values) s ts place now run stands held has go = absurd held
  update_only function level higher (i ∷ numbers) [] s ts place now run stands held has go = absurd held
  update_only function level higher (i ∷ []) (v ∷ []) s ts place now run stands held has go =
      update_by_one_runs given code bound bound now run function i v (omega arith) (here_at code place _ level s ts now stands has.0) held.0
      (go (passed now) (passed_stands level s ts place now stands) (same_self higher now.registers))
  update_only function level higher (i ∷ []) (v ∷ w ∷ values) s ts place now run stands held has go = absurd held.1
  update_only function level higher (i ∷ j ∷ numbers) (v ∷ []) s ts place now run stands held has go = absurd held.1
  update_only function level higher (i ∷ j ∷ []) (v ∷ w ∷ []) s ts place now run stands held has go =
      update_runs given code bound bound now run function i j v w (omega arith) (here_at code place _ level s ts now stands has.0) held.0 held.1.0
      (go (passed now) (passed_stands level s ts place now stands) (same_self higher now.registers))
  update_only function level higher (i ∷ j ∷ []) (v ∷ w ∷ x ∷ values) s ts place now run stands held has go = absurd held.1.1
  update_only function level higher (i ∷ j ∷ k ∷ numbers) (v ∷ w ∷ []) s ts place now run stands held has go = absurd held.1.1
  update_only function level higher (i ∷ j ∷ k ∷ numbers) (v ∷ w ∷ x ∷ values) s ts place now run stands held has go = ends given code bound now (here_at code place _ level s ts now stands has.0)

  -- an atomic function is an update or gives its value
  atomic_only : (b : Bool) (function : AtomicFunction) (level higher : ℕ) (kind : VariableType) (numbers : List ℕ) (values : List Operand) (s : State) (ts : List ℕ) (place : ℕ) (now : State) (run : Continuation) → level ≤ higher
      → Stands level s ts place now → Hold now.registers numbers values
      → HasAt code place (if b then update_code function numbers else call_code (Some (built_in_function.Atomic function)) (register_at higher kind) numbers)
      → ((last : State) → Stands level s ts (place + length (if b then update_code function numbers else call_code (Some (built_in_function.Atomic function)) (register_at higher kind) numbers)) last → Same higher now.registers last.registers → Agree given code bound last run)
      → Agree given code bound now (if b then atomic_call function values run else call given.here (Some (built_in_function.Atomic function)) values (λ _. run))
  atomic_only true function level higher kind numbers values s ts place now run less stands held has go =
      update_only function level higher numbers values s ts place now run stands held has go
  atomic_only false function level higher kind numbers values s ts place now run less stands held has go =
      value_only (Some (built_in_function.Atomic function)) level higher kind numbers values s ts place now run less stands held has go

  -- a built-in function that is a whole statement
  pub only_runs : (function : BuiltIn) (level higher : ℕ) (kind : VariableType) (numbers : List ℕ) (values : List Operand) (s : State) (ts : List ℕ) (place : ℕ) (now : State) (run : Continuation) → level ≤ higher
      → Stands level s ts place now → Hold now.registers numbers values → HasAt code place (call_only_code (Some function) (register_at higher kind) numbers)
      → ((last : State) → Stands level s ts (place + length (call_only_code (Some function) (register_at higher kind) numbers)) last → Same higher now.registers last.registers → Agree given code bound last run)
      → Agree given code bound now (call_only given.here (Some function) values run)
  only_runs (built_in_function.Atomic function) level higher kind numbers values s ts place now run less stands held has go =
      atomic_only (is_update function) function level higher kind numbers values s ts place now run less stands held has go
  only_runs built_in_function.WorkDim level higher kind numbers values s ts place now run less stands held has go =
      value_only (Some built_in_function.WorkDim) level higher kind numbers values s ts place now run less stands held has go
  only_runs (built_in_function.WorkItem function) level higher kind numbers values s ts place now run less stands held has go =
      value_only (Some (built_in_function.WorkItem function)) level higher kind numbers values s ts place now run less stands held has go
  only_runs (built_in_function.Integer function) level higher kind numbers values s ts place now run less stands held has go =
      value_only (Some (built_in_function.Integer function)) level higher kind numbers values s ts place now run less stands held has go
