-- Assignments, whose right sides may be calls of helpers.
use Rattle.std.proofs.Common.{◌≡◌, ℕ, ◌+◌, ◌*◌, ◌<◌, ◌≤◌, if◌then◌else◌, Bool, true, false, Option, None, Some, List, ◌∷◌, ◌++◌, length, take, pos, refl, sym, ap, ◌∙◌, subst, arith, length-append}
use Rattle.clnum.specs.declared.int_type.IntType.{IntType}
use Rattle.clnum.specs.declared.int_type.IntType.TheVariants.{Int}
use Rattle.clnum.specs.declared.operators.BinaryOperator.{BinaryOperator}
use Rattle.clmodel.specs.Barrier.{fences}
use Rattle.clmodel.specs.Next.{Continuation, finish, Variables, Destination, is_private_array, Helpers, binary_operation, reach, fetch, one, infix_type, argument_type, call_type, HelperCall, value_of, assigned, call_only, call_statement}
use Rattle.clmodel.specs.Next as next
use Rattle.clmodel.specs.Tree.{Term, Terms, Target, TargetVariable, TargetElement, TargetDereference}
use Rattle.clmodel.specs.declared.operand.Operand.{Operand}
use Rattle.clmodel.specs.declared.setup.BuiltIn.{BuiltIn}
use Rattle.clmodel.specs.declared.tree.InfixOperator.TheVariants.{Arithmetic}
use Rattle.clmodel.specs.declared.tree.VariableType.{VariableType}
use Rattle.clmodel.specs.declared.tree.VariableType.TheVariants.{Integer}
use Rattle.regcode.specs.Machine.{State, ItemContext, Registers, reg, with_put}
use Rattle.regcode.specs.declared.instruction.Instruction.{Instruction}
use Rattle.regcode.specs.declared.instruction.Instruction.TheVariants as instruction
use Rattle.regcode.proofs.Agreement.{Agree, ends, constant_runs, binary_runs}
use Rattle.regcode.proofs.Registers.{reg_put}
use Rattle.lower_expr.specs.Scope.{Scope, register_at, Sees, free_level}
use Rattle.lower_expr.specs.Expressions.{kind_named, kind_of, terms_code, target_code, target_register, register_for, registers_for, call_only_code}
use Rattle.lower_expr.specs.Agreement.{HasAt, Hold, HoldsPart, HoldsTarget}
use Rattle.lower_expr.proofs.Places.{has_left, has_right, has_moved, register_below, seen_kept}
use Rattle.lower_expr.proofs.Expressions.{expr_runs, terms_run}
use Rattle.lower_code.specs.Code.{Calls, result_type, needed_code, type_of_target, fetch_code, put_code, combine_code, right_code, right_type, assign_code, compound_code, step_code, call_only_statement}
use Rattle.lower.proofs.Scopes.{Same, reached_same, put_same, sees_same}
use Rattle.lower.proofs.Stands.{Stands, Returned, stands_then, reached_stands, put_stands, stands_to, stands_here, here_at, seen_stands}
use Rattle.lower.proofs.Parts.{Placed, arguments_placed, reach_runs, fetch_runs, put_runs, wait_runs, only_runs}

-- what the code of calls owes: it acts as the helpers do, and leaves their values
pub record CallsRun (given : ItemContext) (code : List Instruction) (most : ℕ) (calls : Calls) (results : ℕ → Option IntType) (helpers : Helpers) : Type 0 where
  pub runs : (bound : ℕ) → bound ≤ most → (name : ℕ) (numbers : List ℕ) (values : List Operand) (level site : ℕ) (ts : List ℕ) (now : State) (after : Option Operand → Continuation)
      → take (length ts) now.counters ≡ ts → HasAt code now.place (calls name numbers level (length ts) site) → Hold now.registers numbers values → Placed level numbers
      → ((last : State) (v : Option Operand) → Stands level now ts (now.place + length (calls name numbers level (length ts) site)) last → Returned (results name) level last.registers v → Agree given code bound last (after v))
      → Agree given code bound now (helpers name values site ts after)

-- what a destination goes by is still there where lower registers are kept
held_kept : (scope : Scope) (registers now : Registers) (register : ℕ) (place : Target) (to : Destination) → reg now register ≡ reg registers register
    → HoldsTarget scope registers register place to → HoldsTarget scope now register place to
held_kept scope registers now register (TargetVariable at name) to e h = h
held_kept scope registers now register (TargetElement at name index) to e h = part (is_private_array scope.variables name) h
  where
    part : (b : Bool) → HoldsPart b registers register name to → HoldsPart b now register name to
    part true h = (h.0, h.1, e ∙ h.2)
    part false h = (h.0, h.1, e ∙ h.2)
held_kept scope registers now register (TargetDereference at term) to e h = (h.0, h.1, e ∙ h.2)

-- where that is
either_below : (b : Bool) (m n k : ℕ) → m < k → n < k → (if b then m else n) < k
either_below true m n k h g = h
either_below false m n k h g = g

target_below : (scope : Scope) (level higher : ℕ) (place : Target) → level < higher → target_register scope level place < 16 * higher
target_below scope level higher (TargetVariable at name) less = omega (arith, less)
target_below scope level higher (TargetElement at name index) less =
    either_below (is_private_array scope.variables name) (register_for scope level index) (register_at level (kind_named scope name)) (16 * higher)
    (register_below level (kind_of scope index) higher less) (register_below level (kind_named scope name) higher less)
target_below scope level higher (TargetDereference at term) less = register_below level (kind_of scope term) higher less

pub pointer_kept : (scope : Scope) (level higher : ℕ) (place : Target) (to : Destination) (registers now : Registers) → level < higher → Same higher registers now
    → HoldsTarget scope registers (target_register scope level place) place to → HoldsTarget scope now (target_register scope level place) place to
pointer_kept scope level higher place to registers now less same h =
    held_kept scope registers now (target_register scope level place) place to (same.registers _ (target_below scope level higher place less)) h

module _ (given : ItemContext) (code : List Instruction) (most : ℕ) (calls : Calls) (results : ℕ → Option IntType) (helpers : Helpers) (run_calls : CallsRun given code most calls results helpers) (inside : ℕ → ℕ) (result : Option IntType) (bound : ℕ) (below : bound ≤ most) where
  -- a call whose value is needed
  needed_runs : (o : Option IntType) (level : ℕ) (s : State) (ts : List ℕ) (place : ℕ) (now : State) (v : Option Operand) (after : Operand → Continuation)
      → Stands level s ts place now → Returned o level now.registers v → HasAt code place (needed_code o)
      → ((last : State) (w : Operand) → Stands level s ts (place + length (needed_code o)) last → reg last.registers (register_at level (result_type o)) ≡ Some w → Agree given code bound last (after w))
      → Agree given code bound now (value_of v after)
  needed_runs None level s ts place now v after stands returned has go =
      subst (λ v. Agree given code bound now (value_of v after)) (sym returned) (ends given code bound now (here_at code place _ level s ts now stands has.0))
  needed_runs (Some kind) level s ts place now v after stands returned has go =
      subst (λ v. Agree given code bound now (value_of v after)) (sym returned.1) (go now returned.0 (stands_to level s ts place now (place + 0) (omega arith) stands) returned.2)

  -- the right side
  pub right_runs : (scope : Scope) (level : ℕ) (c : Option HelperCall) (value : Term) (site : ℕ) (ts : List ℕ) (now : State) (vs : Variables) (after : Operand → Continuation) → free_level scope ≤ level
      → Sees scope now.registers vs → take (length ts) now.counters ≡ ts → HasAt code now.place (right_code calls results inside result scope level c value (length ts) site)
      → ((last : State) (v : Operand) → Stands level now ts (now.place + length (right_code calls results inside result scope level c value (length ts) site)) last
      → reg last.registers (register_at level (right_type calls results inside result scope c value)) ≡ Some v → Agree given code bound last (after v))
      → Agree given code bound now (assigned most given.here helpers inside c value site ts vs after)
  right_runs scope level None value site ts now vs after free same turns has go =
      expr_runs given code bound scope level value now vs after free same has
      (λ v last r is. go last v (reached_stands level level now ts now.place now _ last (omega arith) (stands_here level now ts turns) r) is)
  right_runs scope level (Some c) value site ts now vs after free same turns has go =
      let first = terms_code scope level c.arguments in
      let numbers = registers_for scope level c.arguments in
      let second = calls c.name numbers level (length ts) site in
      let third = needed_code (results c.name) in
      let lengths = length-append first (second ++ third) in
      let lengths' = length-append second third in
      terms_run given code bound scope level c.arguments now vs (λ values. helpers c.name values site ts (λ result. value_of result after)) free same (has_left code first (second ++ third) now.place has)
      (λ values last r held.
      let stands = reached_stands level level now ts now.place now (now.place + length first) last (omega arith) (stands_here level now ts turns) r in
      let rest = has_right code first (second ++ third) now.place last.place (sym r.at) has in
      run_calls.runs bound below c.name numbers values level site ts last (λ result. value_of result after) stands.turns (has_left code second third last.place rest) held (arguments_placed scope level c.arguments)
      (λ end v reached returned.
      let all = stands_then level level now ts (now.place + length first) last (last.place + length second) end (omega arith) stands reached in
      needed_runs (results c.name) level now ts (last.place + length second) end v after all returned (has_right code second third last.place (last.place + length second) refl rest)
      (λ final w final_stands is.
      go final w (stands_to level now ts _ final _ (let a = r.at in omega (arith, a, lengths, lengths')) final_stands) is)))

  -- the operator of a compound assignment
  pub combine_runs : (scope : Scope) (place : Target) (operator : BinaryOperator) (kind : VariableType) (s : State) (ts : List ℕ) (at : ℕ) (now : State) (vs : Variables) (to : Destination) (old v : Operand) (run : Variables → Continuation)
      → Stands scope.base s ts at now → Sees scope now.registers vs → HoldsTarget scope now.registers (target_register scope (free_level scope) place) place to
      → reg now.registers (register_at (free_level scope + 1) (type_of_target scope place)) ≡ Some old → reg now.registers (register_at (free_level scope + 2) kind) ≡ Some v
      → HasAt code at (combine_code scope place (free_level scope) operator kind (register_at (free_level scope + 1) (type_of_target scope place)) (register_at (free_level scope + 2) kind))
      → ((last : State) (after : Variables) → Stands scope.base s ts (at + length (combine_code scope place (free_level scope) operator kind (register_at (free_level scope + 1) (type_of_target scope place)) (register_at (free_level scope + 2) kind))) last → Sees scope last.registers after → Agree given code bound last (run after))
      → Agree given code bound now (binary_operation operator old v (λ new. next.put to new vs run))
  combine_runs scope place operator kind s ts at now vs to old v run stands same held is value has go =
      let level = free_level scope in
      let type = infix_type (Arithmetic operator) (type_of_target scope place) kind in
      let target = register_at (level + 1) type in
      binary_runs given code bound now (λ new. next.put to new vs run) target operator (register_at (level + 1) (type_of_target scope place)) (register_at (level + 2) kind) old v (here_at code at _ scope.base s ts now stands has.0) is value
      (λ new.
      let last = with_put now target (Some new) in
      let kept = put_same (level + 1) type (level + 1) now.registers (Some new) (omega arith) in
      put_runs given code bound scope place s ts (at + 1) last vs (target_register scope level place) (level + 1) type to new run (omega arith)
      (put_stands scope.base (level + 1) type s ts at now (Some new) (omega arith) stands)
      (sees_same scope now.registers last.registers vs (put_same (level + 1) type level now.registers (Some new) (omega arith)) same)
      (pointer_kept scope level (level + 1) place to now.registers last.registers (omega arith) kept held)
      (reg_put now.registers target (Some new)) has.1
      (λ final after at_end sees. go final after (stands_to scope.base s ts _ final _ (omega arith) at_end) sees))

  -- an assignment
  pub assign_runs : (scope : Scope) (place : Target) (c : Option HelperCall) (value : Term) (site : ℕ) (ts : List ℕ) (s : State) (at : ℕ) (now : State) (vs : Variables) (run : Variables → Continuation)
      → Stands scope.base s ts at now → Sees scope now.registers vs → HasAt code at (assign_code calls results inside result scope (free_level scope) place c value (length ts) site)
      → ((last : State) (after : Variables) → Stands scope.base s ts (at + length (assign_code calls results inside result scope (free_level scope) place c value (length ts) site)) last → Sees scope last.registers after → Agree given code bound last (run after))
      → Agree given code bound now (reach given.here place vs (λ to. assigned most given.here helpers inside c value site ts vs (λ v. next.put to v vs run)))
  assign_runs scope place c value site ts s at now vs run stands same has go =
      let level = free_level scope in
      let first = target_code scope level place in
      let second = right_code calls results inside result scope (level + 1) c value (length ts) site in
      let kind = right_type calls results inside result scope c value in
      let third = put_code scope place (target_register scope level place) (register_at (level + 1) kind) in
      let lengths = length-append first (second ++ third) in
      let lengths' = length-append second third in
      let here = has_moved code (first ++ (second ++ third)) at now.place (sym stands.at) has in
      reach_runs given code bound scope level place now vs (λ to. assigned most given.here helpers inside c value site ts vs (λ v. next.put to v vs run)) (omega arith) same (has_left code first (second ++ third) now.place here)
      (λ middle to r held.
      let rest = has_right code first (second ++ third) now.place middle.place (sym r.at) here in
      let reached = reached_stands scope.base level s ts at now (now.place + length first) middle (omega arith) stands r in
      let sees = seen_kept scope level now (now.place + length first) middle vs (omega arith) r same in
      right_runs scope (level + 1) c value site ts middle vs (λ v. next.put to v vs run) (omega arith) sees reached.turns (has_left code second third middle.place rest)
      (λ last v arrived is.
      put_runs given code bound scope place s ts (middle.place + length second) last vs (target_register scope level place) (level + 1) kind to v run (omega arith)
      (stands_then scope.base (level + 1) s ts (now.place + length first) middle (middle.place + length second) last (omega arith) reached arrived)
      (seen_stands scope (level + 1) middle ts (middle.place + length second) last vs (omega arith) arrived sees)
      (pointer_kept scope level (level + 1) place to middle.registers last.registers (omega arith) arrived.kept held)
      is (has_right code second third middle.place (middle.place + length second) refl rest)
      (λ final after at_end final_sees.
      go final after (stands_to scope.base s ts _ final _ (let a = r.at in let b = stands.at in omega (arith, a, b, lengths, lengths')) at_end) final_sees)))

  -- a compound assignment
  pub compound_runs : (scope : Scope) (place : Target) (operator : BinaryOperator) (c : Option HelperCall) (value : Term) (site : ℕ) (ts : List ℕ) (s : State) (at : ℕ) (now : State) (vs : Variables) (run : Variables → Continuation)
      → Stands scope.base s ts at now → Sees scope now.registers vs → HasAt code at (compound_code calls results inside result scope (free_level scope) place operator c value (length ts) site)
      → ((last : State) (after : Variables) → Stands scope.base s ts (at + length (compound_code calls results inside result scope (free_level scope) place operator c value (length ts) site)) last → Sees scope last.registers after → Agree given code bound last (run after))
      → Agree given code bound now (reach given.here place vs (λ to. fetch to vs (λ old. assigned most given.here helpers inside c value site ts vs (λ v. binary_operation operator old v (λ new. next.put to new vs run)))))
  compound_runs scope place operator c value site ts s at now vs run stands same has go =
      let level = free_level scope in
      let pointer = target_register scope level place in
      let target = register_at (level + 1) (type_of_target scope place) in
      let first = target_code scope level place in
      let second = fetch_code scope place pointer target in
      let third = right_code calls results inside result scope (level + 2) c value (length ts) site in
      let kind = right_type calls results inside result scope c value in
      let fourth = combine_code scope place level operator kind target (register_at (level + 2) kind) in
      let lengths = length-append first (second ++ (third ++ fourth)) in
      let lengths' = length-append second (third ++ fourth) in
      let lengths'' = length-append third fourth in
      let here = has_moved code (first ++ (second ++ (third ++ fourth))) at now.place (sym stands.at) has in
      reach_runs given code bound scope level place now vs _ (omega arith) same (has_left code first (second ++ (third ++ fourth)) now.place here)
      (λ middle to r held.
      let rest = has_right code first (second ++ (third ++ fourth)) now.place middle.place (sym r.at) here in
      let reached = reached_stands scope.base level s ts at now (now.place + length first) middle (omega arith) stands r in
      let sees = seen_kept scope level now (now.place + length first) middle vs (omega arith) r same in
      fetch_runs given code bound scope (level + 1) place pointer to middle vs _ (omega arith) sees held (has_left code second (third ++ fourth) middle.place rest)
      (λ later old q old_is.
      let rest' = has_right code second (third ++ fourth) middle.place later.place (sym q.at) rest in
      let reached' = reached_stands scope.base (level + 1) s ts (now.place + length first) middle (middle.place + length second) later (omega arith) reached q in
      let sees' = seen_kept scope (level + 1) middle (middle.place + length second) later vs (omega arith) q sees in
      right_runs scope (level + 2) c value site ts later vs _ (omega arith) sees' reached'.turns (has_left code third fourth later.place rest')
      (λ last v arrived is.
      combine_runs scope place operator kind s ts (later.place + length third) last vs to old v run
      (stands_then scope.base (level + 2) s ts (middle.place + length second) later (later.place + length third) last (omega arith) reached' arrived)
      (seen_stands scope (level + 2) later ts (later.place + length third) last vs (omega arith) arrived sees')
      (pointer_kept scope level (level + 2) place to later.registers last.registers (omega arith) arrived.kept
      (pointer_kept scope level (level + 1) place to middle.registers later.registers (omega arith) (reached_same (level + 1) middle (middle.place + length second) later q) held))
      (arrived.kept.registers target (register_below (level + 1) (type_of_target scope place) (level + 2) (omega arith)) ∙ old_is)
      is (has_right code third fourth later.place (later.place + length third) refl rest')
      (λ final after at_end final_sees.
      go final after (stands_to scope.base s ts _ final _ (let a = r.at in let b = stands.at in let d = q.at in omega (arith, a, b, d, lengths, lengths', lengths'')) at_end) final_sees))))

  -- `++` and `--`
  pub step_runs : (scope : Scope) (place : Target) (operator : BinaryOperator) (ts : List ℕ) (s : State) (at : ℕ) (now : State) (vs : Variables) (run : Variables → Continuation)
      → Stands scope.base s ts at now → Sees scope now.registers vs → HasAt code at (step_code calls results inside result scope (free_level scope) place operator)
      → ((last : State) (after : Variables) → Stands scope.base s ts (at + length (step_code calls results inside result scope (free_level scope) place operator)) last → Sees scope last.registers after → Agree given code bound last (run after))
      → Agree given code bound now (reach given.here place vs (λ to. fetch to vs (λ old. binary_operation operator old one (λ new. next.put to new vs run))))
  step_runs scope place operator ts s at now vs run stands same has go =
      let level = free_level scope in
      let pointer = target_register scope level place in
      let target = register_at (level + 1) (type_of_target scope place) in
      let first = target_code scope level place in
      let second = fetch_code scope place pointer target in
      let number = register_at (level + 2) (Integer Int) in
      let fourth = combine_code scope place level operator (Integer Int) target number in
      let third = instruction.Constant number (record { kind = Int; number = pos 1 }) ∷ fourth in
      let lengths = length-append first (second ++ third) in
      let lengths' = length-append second third in
      let here = has_moved code (first ++ (second ++ third)) at now.place (sym stands.at) has in
      reach_runs given code bound scope level place now vs _ (omega arith) same (has_left code first (second ++ third) now.place here)
      (λ middle to r held.
      let rest = has_right code first (second ++ third) now.place middle.place (sym r.at) here in
      let reached = reached_stands scope.base level s ts at now (now.place + length first) middle (omega arith) stands r in
      let sees = seen_kept scope level now (now.place + length first) middle vs (omega arith) r same in
      fetch_runs given code bound scope (level + 1) place pointer to middle vs _ (omega arith) sees held (has_left code second third middle.place rest)
      (λ later old q old_is.
      let rest' = has_right code second third middle.place later.place (sym q.at) rest in
      let reached' = reached_stands scope.base (level + 1) s ts (now.place + length first) middle (middle.place + length second) later (omega arith) reached q in
      let sees' = seen_kept scope (level + 1) middle (middle.place + length second) later vs (omega arith) q sees in
      let last = with_put later number (Some one) in
      let kept = put_same (level + 2) (Integer Int) (level + 2) later.registers (Some one) (omega arith) in
      constant_runs given code bound later _ number (record { kind = Int; number = pos 1 }) rest'.0
      (combine_runs scope place operator (Integer Int) s ts (middle.place + length second + 1) last vs to old one run
      (put_stands scope.base (level + 2) (Integer Int) s ts (middle.place + length second) later (Some one) (omega arith) reached')
      (sees_same scope later.registers last.registers vs (put_same (level + 2) (Integer Int) level later.registers (Some one) (omega arith)) sees')
      (pointer_kept scope level (level + 2) place to later.registers last.registers (omega arith) kept
      (pointer_kept scope level (level + 1) place to middle.registers later.registers (omega arith) (reached_same (level + 1) middle (middle.place + length second) later q) held))
      (kept.registers target (register_below (level + 1) (type_of_target scope place) (level + 2) (omega arith)) ∙ old_is)
      (reg_put later.registers number (Some one)) (has_moved code fourth (later.place + 1) (middle.place + length second + 1) (ap (λ n. n + 1) q.at) rest'.1)
      (λ final after at_end final_sees.
      go final after (stands_to scope.base s ts _ final _ (let a = r.at in let b = stands.at in let d = q.at in omega (arith, a, b, d, lengths, lengths')) at_end) final_sees))))

  -- a call that is a whole statement
  pub only_call_runs : (scope : Scope) (is_barrier : Bool) (function : Option BuiltIn) (name : ℕ) (arguments : Terms) (site : ℕ) (ts : List ℕ) (s : State) (at : ℕ) (now : State) (vs : Variables) (run : Continuation)
      → Stands scope.base s ts at now → Sees scope now.registers vs → HasAt code at (call_only_statement calls results inside result scope is_barrier function name arguments (length ts) site)
      → ((last : State) → Stands scope.base s ts (at + length (call_only_statement calls results inside result scope is_barrier function name arguments (length ts) site)) last → Sees scope last.registers vs → Agree given code bound last run)
      → Agree given code bound now (call_statement most given.here helpers inside is_barrier function name arguments site ts vs run)
  only_call_runs scope true function name arguments site ts s at now vs run stands same has go =
      wait_runs given code bound (fences arguments) scope.base s ts at now site run stands has
      (λ last at_end kept. go last at_end (subst (λ registers. Sees scope registers vs) (sym kept) same))
  only_call_runs scope false (Some function) name arguments site ts s at now vs run stands same has go =
      let level = free_level scope in
      let numbers = registers_for scope level arguments in
      let first = terms_code scope level arguments in
      let kind = Integer (call_type (Some function) (argument_type scope.variables arguments)) in
      let second = call_only_code (Some function) (register_at level kind) numbers in
      let lengths = length-append first second in
      let here = has_moved code (first ++ second) at now.place (sym stands.at) has in
      terms_run given code bound scope level arguments now vs (λ values. call_only given.here (Some function) values run) (omega arith) same (has_left code first second now.place here)
      (λ values middle r held.
      let reached = reached_stands scope.base level s ts at now (now.place + length first) middle (omega arith) stands r in
      only_runs given code bound function scope.base level kind numbers values s ts (now.place + length first) middle run (omega arith) reached held
      (has_right code first second now.place (now.place + length first) refl here)
      (λ last at_end kept.
      go last (stands_to scope.base s ts _ last _ (let b = stands.at in omega (arith, b, lengths)) at_end)
      (sees_same scope middle.registers last.registers vs kept (seen_kept scope level now (now.place + length first) middle vs (omega arith) r same))))
  only_call_runs scope false None name arguments site ts s at now vs run stands same has go =
      let level = free_level scope in
      let numbers = registers_for scope level arguments in
      let first = terms_code scope level arguments in
      let second = calls name numbers level (length ts) site in
      let lengths = length-append first second in
      let here = has_moved code (first ++ second) at now.place (sym stands.at) has in
      terms_run given code bound scope level arguments now vs (λ values. helpers name values site ts (λ _. run)) (omega arith) same (has_left code first second now.place here)
      (λ values middle r held.
      let reached = reached_stands scope.base level s ts at now (now.place + length first) middle (omega arith) stands r in
      run_calls.runs bound below name numbers values level site ts middle (λ _. run) reached.turns
      (has_right code first second now.place middle.place (sym r.at) here) held (arguments_placed scope level arguments)
      (λ last v arrived returned.
      go last (stands_to scope.base s ts _ last _ (let a = r.at in let b = stands.at in omega (arith, a, b, lengths))
      (stands_then scope.base level s ts (now.place + length first) middle (middle.place + length second) last (omega arith) reached arrived))
      (seen_stands scope level middle ts (middle.place + length second) last vs (omega arith) arrived (seen_kept scope level now (now.place + length first) middle vs (omega arith) r same))))
