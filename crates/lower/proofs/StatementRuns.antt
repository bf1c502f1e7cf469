-- The code of a statement acts as the statement does.
use Rattle.std.proofs.Common.{◌≡◌, ℕ, zero, suc, ◌+◌, ◌≤◌, ◌==◌, pos, replicate, Bool, true, false, Option, None, Some, List, [], ◌∷◌, ◌++◌, length, drop, slice_get, refl, sym, ap, ap₂, ◌∙◌, subst, arith, length-append, eq-eqb}
use Rattle.clnum.specs.declared.int_type.IntType.{IntType}
use Rattle.clmodel.specs.Barrier.{is_barrier}
use Rattle.clmodel.specs.BuiltIns.{built_in}
use Rattle.clmodel.specs.Next.{Continuation, finish, Variables, Helpers, Follows, leave, leaving, in_loop, assign, held, helper_call, private_array, has_elements, step_operator, sites, part_sites, all_sites, exec, exec_part, exec_all}
use Rattle.clmodel.specs.Next as bindings
use Rattle.clmodel.specs.Tree.{array_length, Stmt, Empty, Block, Declare, DeclareAs, DeclareArray, Assign, Step, CallOnly, If, IfElse, While, DoWhile, For, Break, Continue, Return, ReturnValue, Stmts, NoStmt, ThenStmt, MaybeStmt, Without, With, WithTerm}
use Rattle.clmodel.specs.declared.access.Object.TheVariants as object
use Rattle.clmodel.specs.declared.operand.Operand.{Operand}
use Rattle.clmodel.specs.declared.operand.Operand.TheVariants.{Pointed}
use Rattle.clmodel.specs.declared.tree.VariableType.{VariableType}
use Rattle.clmodel.specs.declared.tree.VariableType.TheVariants.{Integer}
use Rattle.regcode.specs.Machine.{State, ItemContext, Registers, reg, put, array_of, put_array, with_put, with_array, passed, onward}
use Rattle.regcode.specs.declared.instruction.Instruction.{Instruction}
use Rattle.regcode.specs.declared.instruction.Instruction.TheVariants as instruction
use Rattle.regcode.proofs.Agreement.{ends, Agree, with_fewer, unset_runs, local_runs, unset_array_runs, hold_runs, jump_runs, branch_runs}
use Rattle.regcode.proofs.Registers.{reg_put, array_put}
use Rattle.lower_expr.specs.Scope.{Scope, register_at, seen_elements, Sees, free_level}
use Rattle.lower_expr.specs.Expressions.{expr_code, register_for}
use Rattle.lower_expr.specs.Agreement.{HasAt}
use Rattle.lower_expr.proofs.Places.{has_left, has_right, has_moved, seen_kept}
use Rattle.lower_expr.proofs.Expressions.{expr_runs}
use Rattle.lower_code.specs.Code.{Exits, past, body_exits, variable, with_variable, array_variable, local_pointer, variables_after, variables_after_part, variables_after_all, Calls, no_value_code, value_code, condition_code, while_code, right_code, right_type, stmt_code, part_code, stmts_code}
use Rattle.lower.proofs.Scopes.{same_then, put_same, array_same, sees_same, view_length, Within, within_self, within_one, within_trans, left_seen, outer_left, self_left}
use Rattle.lower.proofs.Stands.{Stands, Places, Leads, Returned, returned_as, Ends, reached_stands, put_stands, array_stands, passed_stands, onward_stands, stands_to, stands_then, stands_out, here_at, seen_stands, ends_within, ends_before}
use Rattle.lower.proofs.Rights.{CallsRun, right_runs, assign_runs, compound_runs, step_runs, only_call_runs}
use Rattle.lower.proofs.Loops.{while_runs, do_runs}

-- a statement leaves the scope within its own
pub within_after : (variables : Variables) (s : Stmt) → Within variables (variables_after variables s)
within_after variables (Declare at kind name_at name) = within_one (variable name kind) variables
within_after variables (DeclareAs at kind name_at name value) = within_one (variable name kind) variables
within_after variables (DeclareArray at is_local element name_at name length_at count) = within_one (array_variable is_local element (array_length count) name) variables
within_after variables _ = within_self variables

within_part : (variables : Variables) (s : MaybeStmt) → Within variables (variables_after_part variables s)
within_part variables Without = within_self variables
within_part variables (With s) = within_after variables s

pub within_all : (variables : Variables) (ss : Stmts) → Within variables (variables_after_all variables ss)
within_all variables NoStmt = within_self variables
within_all variables (ThenStmt ss s) =
    within_trans variables (variables_after_all variables ss) (variables_after (variables_after_all variables ss) s) (within_all variables ss) (within_after (variables_after_all variables ss) s)

-- as many variables are seen as are in scope
count_seen : (scope : Scope) (registers : Registers) (vs : Variables) → Sees scope registers vs → length vs ≡ length scope.variables
count_seen scope registers vs e = sym (ap length e.same) ∙ view_length scope.base scope.variables registers

same_name : (name : ℕ) → (name == name) ≡ true
same_name name = eq-eqb name name refl

-- an assignment to the innermost variable
assign_innermost : (name : ℕ) (kind : VariableType) (content : Option Operand) (v : Operand) (vs : Variables)
    → assign (bindings.variable name kind content ∷ vs) name v ≡ bindings.variable name kind (Some (held kind v)) ∷ vs
assign_innermost name kind content v vs =
    ap (λ b. elim b as (λ _. Variables) [ true ↦ bindings.variable name kind (Some (held kind v)) ∷ vs | false ↦ bindings.variable name kind content ∷ assign vs name v ]) (same_name name)

-- a variable is declared, or given its first value
pub declared_seen : (scope : Scope) (name : ℕ) (kind : VariableType) (registers : Registers) (vs : Variables) (content : Option Operand) → Sees scope registers vs
    → Sees (with_variable scope name kind) (put registers (register_at (free_level scope) kind) content) (bindings.variable name kind content ∷ vs)
declared_seen scope name kind registers vs content e =
    let now = put registers (register_at (free_level scope) kind) content in
    let outer = sees_same scope registers now vs (put_same (free_level scope) kind (free_level scope) registers content (omega arith)) e in
    record {
      same = ap₂ (λ c others. bindings.variable name kind c ∷ others) (reg_put registers (register_at (free_level scope) kind) content) outer.same;
      arrays = ap (λ bs. false ∷ bs) outer.arrays;
    }

-- so is a private array, whose elements are unset
unset_elements : (n : ℕ) → seen_elements (replicate n None) (replicate n None) ≡ replicate n None
unset_elements zero = refl
unset_elements (suc n) = refl

array_declared : (scope : Scope) (name : ℕ) (element : IntType) (n : ℕ) (registers : Registers) (vs : Variables) → Sees scope registers vs
    → Sees (record scope { variables = private_array element n name ∷ scope.variables })
    (put_array (put registers (register_at (free_level scope) (Integer element)) None) (free_level scope) (replicate n None)) (private_array element n name ∷ vs)
array_declared scope name element n registers vs e =
    let level = free_level scope in
    let r = register_at level (Integer element) in
    let middle = put registers r None in
    let now = put_array middle level (replicate n None) in
    let kept = same_then level level registers middle now (omega arith) (put_same level (Integer element) level registers None (omega arith)) (array_same level level middle (replicate n None) (omega arith)) in
    let outer = sees_same scope registers now vs kept e in
    let elements = ap (seen_elements (replicate n None)) (array_put middle level (replicate n None)) ∙ unset_elements n in
    record {
      same = ap₂ (λ (c : Option Operand) (others : Variables). record (private_array element n name) { content = c; elements = seen_elements (replicate n None) (array_of now level) } ∷ others) (reg_put registers r None) outer.same
          ∙ ap (λ (xs : List (Option ℕ)). record (private_array element n name) { content = None; elements = xs } ∷ vs) elements;
      arrays = ap₂ (λ (xs : List (Option ℕ)) (bs : List Bool). has_elements xs ∷ bs) elements outer.arrays;
    }

-- at the end of a block its variables are left
ends_leaving : (given : ItemContext) (code : List Instruction) (bound : ℕ) (result : Option IntType) (s : State) (scope : Scope) (inner : Variables) (ts : List ℕ) (places : Places) (k : Follows) (count : ℕ)
    → Within scope.variables inner → count ≡ length scope.variables → Ends given code bound result s scope scope.variables ts places k
    → Ends given code bound result s scope inner ts places (record k { next = leaving count k.next })
ends_leaving given code bound result s scope inner ts places k count w e h =
    record {
      next = λ now vs stands same. h.next now (leave count vs) stands (left_seen scope inner now.registers vs count w e same);
      broken = h.broken;
      continued = h.continued;
      returned = h.returned;
      lost = h.lost;
    }

-- a function returns without a value: one that gives a value ends the item
pub no_value_runs : (given : ItemContext) (code : List Instruction) (bound : ℕ) (result : Option IntType) (s : State) (level : ℕ) (ts : List ℕ) (place : ℕ) (now : State) (run : Continuation)
    → Stands level s ts place now → HasAt code place (no_value_code result) → ((kind : IntType) → result ≡ Some kind → run ≡ finish)
    → ((last : State) → Stands level s ts (place + length (no_value_code result)) last → Returned result level last.registers (returned_as result None) → Agree given code bound last run)
    → Agree given code bound now run
no_value_runs given code bound None s level ts place now run stands has lost go = go now (stands_to level s ts place now (place + 0) (omega arith) stands) refl
no_value_runs given code bound (Some kind) s level ts place now run stands has lost go =
    subst (Agree given code bound now) (sym (lost kind refl)) (ends given code bound now (here_at code place _ level s ts now stands has.0))

-- or with one
value_runs : (given : ItemContext) (code : List Instruction) (bound : ℕ) (result : Option IntType) (s : State) (level : ℕ) (ts : List ℕ) (place from : ℕ) (v : Operand) (now : State) (run : Continuation)
    → Stands level s ts place now → reg now.registers from ≡ Some v → HasAt code place (value_code result level from)
    → ((last : State) → Stands level s ts (place + length (value_code result level from)) last → Returned result level last.registers (returned_as result (Some v)) → Agree given code bound last run)
    → Agree given code bound now run
value_runs given code bound None s level ts place from v now run stands is has go = go now (stands_to level s ts place now (place + 0) (omega arith) stands) refl
value_runs given code bound (Some kind) s level ts place from v now run stands is has go =
    let r = register_at level (Integer kind) in
    hold_runs given code bound now run r from (Integer kind) v (here_at code place _ level s ts now stands has.0) is
    (go (with_put now r (Some (held (Integer kind) v))) (put_stands level level (Integer kind) s ts place now (Some (held (Integer kind) v)) (omega arith) stands) (held (Integer kind) v, refl, reg_put now.registers r (Some (held (Integer kind) v))))

-- a variable's first value
first_value_runs : (given : ItemContext) (code : List Instruction) (bound : ℕ) (scope : Scope) (name : ℕ) (kind : VariableType) (from : ℕ) (s : State) (ts : List ℕ) (place : ℕ) (now : State) (vs : Variables) (v : Operand) (run : Variables → Continuation)
    → Stands scope.base s ts place now → Sees scope now.registers vs → reg now.registers from ≡ Some v → slice_get code place ≡ Some (instruction.AssignConversion (register_at (free_level scope) kind) from kind)
    → ((last : State) (after : Variables) → Stands scope.base s ts (place + 1) last → Sees (record scope { variables = variable name kind ∷ scope.variables }) last.registers after → Agree given code bound last (run after))
    → Agree given code bound now (run (assign (bindings.variable name kind None ∷ vs) name v))
first_value_runs given code bound scope name kind from s ts place now vs v run stands same is here go =
    let r = register_at (free_level scope) kind in
    hold_runs given code bound now _ r from kind v (here_at code place _ scope.base s ts now stands here) is
    (go (with_put now r (Some (held kind v))) (assign (bindings.variable name kind None ∷ vs) name v)
    (put_stands scope.base (free_level scope) kind s ts place now (Some (held kind v)) (omega arith) stands)
    (subst (λ l. Sees (with_variable scope name kind) (put now.registers r (Some (held kind v))) l) (sym (assign_innermost name kind None v vs)) (declared_seen scope name kind now.registers vs (Some (held kind v)) same)))

-- The ends of a part of a loop: broken, it goes on behind the loop; else with what comes next in the loop.
loop_ends : (given : ItemContext) (code : List Instruction) (bound fewer : ℕ) (result : Option IntType) (s : State) (scope : Scope) (inner after : Variables) (ts : List ℕ) (count : ℕ) (places : Places) (k : Follows) (place : ℕ) (again : Variables → Continuation) (n m : ℕ)
    → fewer ≤ bound → Within scope.variables inner → Within inner after → n ≡ length scope.variables → m ≡ length inner
    → Ends given code bound result s scope scope.variables ts places k
    → ((last : State) (vs : Variables) → Stands scope.base s (ts ++ count ∷ []) place last → Sees (record scope { variables = inner }) last.registers vs → Agree given code fewer last (again vs))
    → Ends given code fewer result s (record scope { variables = inner }) after (ts ++ count ∷ []) (record { next = place; broken = places.next; continued = place; returned = places.returned })
    (in_loop k (leaving m again) (leaving n k.next))
loop_ends given code bound fewer result s scope inner after ts count places k place again n m less w w' e e' h agree =
    record {
      next = λ now vs stands same. agree now (leave m vs) stands (left_seen (record scope { variables = inner }) after now.registers vs m w' e' same);
      broken = λ now vs stands left.
          with_fewer given code bound fewer now _ less
          (h.next now (leave n vs) (stands_out scope.base s ts count places.next now stands) (subst (λ c. Sees scope now.registers (leave c vs)) (sym e) (outer_left scope inner vs now.registers w left)));
      continued = λ now vs stands left. agree now (leave m vs) stands (subst (λ c. Sees (record scope { variables = inner }) now.registers (leave c vs)) (sym e') left);
      returned = λ now v stands is. with_fewer given code bound fewer now _ less (h.returned now v (stands_out scope.base s ts count places.returned now stands) is);
      lost = h.lost;
    }

deeper : (ts : List ℕ) (count : ℕ) → length ts + 1 ≡ length (ts ++ count ∷ [])
deeper ts count = let e = length-append ts (count ∷ []) in omega arith

module _ (given : ItemContext) (code : List Instruction) (most : ℕ) (calls : Calls) (results : ℕ → Option IntType) (helpers : Helpers) (run_calls : CallsRun given code most calls results helpers) (inside : ℕ → ℕ) (result : Option IntType) where
  -- what is asked of a list of instructions, by the code of statements at a depth
  abbrev StandsAt : ℕ → List Instruction → ℕ → Type 0
  StandsAt at instructions end = HasAt code at instructions × (at + length instructions ≡ end)

  mutual
    pub stmt_runs : (st : Stmt) (bound : ℕ) → bound ≤ most → (scope : Scope) (s : State) (ts : List ℕ) (site : ℕ) (exits : Exits) (places : Places) (k : Follows) (at : ℕ) (now : State) (vs : Variables)
        → Stands scope.base s ts at now → Sees scope now.registers vs
        → StandsAt at (stmt_code calls results inside result scope st (length ts) site exits) places.next → Leads exits places
        → Ends given code bound result s scope (variables_after scope.variables st) ts places k
        → Agree given code bound now (exec most given.here helpers inside st site ts k vs)
    stmt_runs (Empty at') bound below scope s ts site exits places k at now vs stands same (has, end) leads h =
        h.next now vs (stands_to scope.base s ts at now places.next (omega (arith, end)) stands) same
    stmt_runs (Block at' body) bound below scope s ts site exits places k at now vs stands same there leads h =
        stmts_run body bound below scope s ts site exits places (record k { next = leaving (length vs) k.next }) at now vs stands same there leads
        (ends_leaving given code bound result s scope (variables_after_all scope.variables body) ts places k (length vs) (within_all scope.variables body) (count_seen scope now.registers vs same) h)
    stmt_runs (Declare at' kind name_at name) bound below scope s ts site exits places k at now vs stands same (has, end) leads h =
        let r = register_at (free_level scope) kind in
        unset_runs given code bound now _ r (here_at code at _ scope.base s ts now stands has.0)
        (h.next (with_put now r None) (bindings.variable name kind None ∷ vs)
        (stands_to scope.base s ts (at + 1) _ places.next (omega (arith, end)) (put_stands scope.base (free_level scope) kind s ts at now None (omega arith) stands))
        (declared_seen scope name kind now.registers vs None same))
    stmt_runs (DeclareAs at' kind name_at name value) bound below scope s ts site exits places k at now vs stands same (has, end) leads h =
        let level = free_level scope in
        let r = register_at level kind in
        let inner = with_variable scope name kind in
        let c = helper_call value in
        let unset : Variables = bindings.variable name kind None ∷ vs in
        let first = right_code calls results inside result inner (level + 1) c value (length ts) site in
        let from = register_at (level + 1) (right_type calls results inside result inner c value) in
        let last : List Instruction = instruction.AssignConversion r from kind ∷ [] in
        let lengths = length-append first last in
        let next = with_put now r None in
        let stands' = put_stands scope.base level kind s ts at now None (omega arith) stands in
        let sees = declared_seen scope name kind now.registers vs None same in
        unset_runs given code bound now _ r (here_at code at _ scope.base s ts now stands has.0)
        (right_runs given code most calls results helpers run_calls inside result bound below inner (level + 1) c value site ts next unset (λ v. k.next (assign unset name v)) (omega arith) sees stands'.turns
        (has_moved code first (at + 1) next.place (sym stands'.at) (has_left code first last (at + 1) has.1))
        (λ final v arrived is.
        let old = seen_stands inner (level + 1) next ts _ final unset (omega arith) arrived sees in
        let outer : Sees scope final.registers vs = record { same = ap (drop 1) old.same; arrays = ap (λ bs. drop 1 bs) old.arrays } in
        first_value_runs given code bound scope name kind from s ts (at + 1 + length first) final vs v k.next
        (stands_to scope.base s ts _ final (at + 1 + length first) (ap (λ n. n + length first) stands'.at) (stands_then scope.base (level + 1) s ts (at + 1) next (next.place + length first) final (omega arith) stands' arrived)) outer is
        (has_right code first last (at + 1) (at + 1 + length first) refl has.1).0
        (λ very_last after at_end sees'. h.next very_last after (stands_to scope.base s ts _ very_last places.next (omega (arith, end, lengths)) at_end) sees')))
    stmt_runs (DeclareArray at' true element name_at name length_at count) bound below scope s ts site exits places k at now vs stands same (has, end) leads h =
        let level = free_level scope in
        let kind = local_pointer element in
        let r = register_at level kind in
        let start : ℕ → Option Operand = λ number. Some (Pointed (record { object = object.Local number; element = element; offset = pos 0 })) in
        let first = start (length scope.variables) in
        local_runs given code bound now _ r (length scope.variables) element (here_at code at _ scope.base s ts now stands has.0)
        (h.next (with_put now r first) (bindings.variable name kind (start (length vs)) ∷ vs)
        (stands_to scope.base s ts (at + 1) _ places.next (omega (arith, end)) (put_stands scope.base level kind s ts at now first (omega arith) stands))
        (subst (λ n. Sees (with_variable scope name kind) (put now.registers r first) (bindings.variable name kind (start n) ∷ vs)) (sym (count_seen scope now.registers vs same))
        (declared_seen scope name kind now.registers vs first same)))
    stmt_runs (DeclareArray at' false element name_at name length_at count) bound below scope s ts site exits places k at now vs stands same (has, end) leads h =
        let level = free_level scope in
        let n = array_length count in
        let r = register_at level (Integer element) in
        let middle = with_put now r None in
        let stands' = put_stands scope.base level (Integer element) s ts at now None (omega arith) stands in
        unset_runs given code bound now _ r (here_at code at _ scope.base s ts now stands has.0)
        (unset_array_runs given code bound middle _ level n (here_at code (at + 1) _ scope.base s ts middle stands' has.1.0)
        (h.next (with_array middle level (replicate n None)) (private_array element n name ∷ vs)
        (stands_to scope.base s ts (at + 1 + 1) _ places.next (omega (arith, end)) (array_stands scope.base level s ts (at + 1) middle (replicate n None) (omega arith) stands'))
        (array_declared scope name element n now.registers vs same)))
    stmt_runs (Assign at' place None value) bound below scope s ts site exits places k at now vs stands same (has, end) leads h =
        assign_runs given code most calls results helpers run_calls inside result bound below scope place (helper_call value) value site ts s at now vs k.next stands same has
        (λ last after at_end sees. h.next last after (stands_to scope.base s ts _ last places.next end at_end) sees)
    stmt_runs (Assign at' place (Some operator) value) bound below scope s ts site exits places k at now vs stands same (has, end) leads h =
        compound_runs given code most calls results helpers run_calls inside result bound below scope place operator (helper_call value) value site ts s at now vs k.next stands same has
        (λ last after at_end sees. h.next last after (stands_to scope.base s ts _ last places.next end at_end) sees)
    stmt_runs (Step at' place is_increment) bound below scope s ts site exits places k at now vs stands same (has, end) leads h =
        step_runs given code most calls results helpers run_calls inside result bound below scope place (step_operator is_increment) ts s at now vs k.next stands same has
        (λ last after at_end sees. h.next last after (stands_to scope.base s ts _ last places.next end at_end) sees)
    stmt_runs (CallOnly at' name arguments) bound below scope s ts site exits places k at now vs stands same (has, end) leads h =
        only_call_runs given code most calls results helpers run_calls inside result bound below scope (is_barrier name) (built_in name) name arguments site ts s at now vs (k.next vs) stands same has
        (λ last at_end sees. h.next last vs (stands_to scope.base s ts _ last places.next end at_end) sees)
    stmt_runs (If at' test' chosen) bound below scope s ts site exits places k at now vs stands same (has, end) leads h =
        let level = free_level scope in
        let first = expr_code scope level test' in
        let a = stmt_code calls results inside result scope chosen (length ts) site exits in
        let jump : List Instruction = instruction.JumpIfZero (register_for scope level test') (length a) ∷ a in
        let lengths = length-append first jump in
        let here = has_moved code (first ++ jump) at now.place (sym stands.at) has in
        expr_runs given code bound scope level test' now vs _ (omega arith) same (has_left code first jump now.place here)
        (λ v last r is.
        let reached = reached_stands scope.base level s ts at now (now.place + length first) last (omega arith) stands r in
        let sees = seen_kept scope level now (now.place + length first) last vs (omega arith) r same in
        let rest = has_right code first jump now.place last.place (sym r.at) here in
        branch_runs given code bound last _ (register_for scope level test') (length a) v rest.0 is
        (stmt_runs chosen bound below scope s ts site exits places (record k { next = leaving (length vs) k.next }) (last.place + 1) (passed last) vs
        (stands_to scope.base s ts _ (passed last) (last.place + 1) (ap (λ n. n + 1) (sym r.at)) (passed_stands scope.base s ts (now.place + length first) last reached)) sees
        (rest.1, (let x = r.at in let y = stands.at in omega (arith, x, y, end, lengths))) leads
        (ends_leaving given code bound result s scope (variables_after scope.variables chosen) ts places k (length vs) (within_after scope.variables chosen) (count_seen scope now.registers vs same) h))
        (h.next (onward last (length a)) vs
        (stands_to scope.base s ts _ (onward last (length a)) places.next (let y = stands.at in omega (arith, y, end, lengths)) (onward_stands scope.base s ts (now.place + length first) last (length a) reached)) sees))
    stmt_runs (IfElse at' test' chosen otherwise) bound below scope s ts site exits places k at now vs stands same (has, end) leads h =
        let level = free_level scope in
        let first = expr_code scope level test' in
        let b = stmt_code calls results inside result scope otherwise (length ts) (site + sites inside chosen) exits in
        let a = stmt_code calls results inside result scope chosen (length ts) site (past (length b + 1) exits) in
        let second : List Instruction = instruction.Jump (length b) ∷ b in
        let jump : List Instruction = instruction.JumpIfZero (register_for scope level test') (length a + 1) ∷ (a ++ second) in
        let lengths = length-append first jump in
        let lengths' = length-append a second in
        let here = has_moved code (first ++ jump) at now.place (sym stands.at) has in
        let h' = ends_leaving given code bound result s scope in
        expr_runs given code bound scope level test' now vs _ (omega arith) same (has_left code first jump now.place here)
        (λ v last r is.
        let reached = reached_stands scope.base level s ts at now (now.place + length first) last (omega arith) stands r in
        let sees = seen_kept scope level now (now.place + length first) last vs (omega arith) r same in
        let rest = has_right code first jump now.place last.place (sym r.at) here in
        let other = has_right code a second (last.place + 1) (last.place + 1 + length a) refl rest.1 in
        let chosen_ends = h' (variables_after scope.variables chosen) ts places k (length vs) (within_after scope.variables chosen) (count_seen scope now.registers vs same) h in
        branch_runs given code bound last _ (register_for scope level test') (length a + 1) v rest.0 is
        (stmt_runs chosen bound below scope s ts site (past (length b + 1) exits) (record places { next = last.place + 1 + length a }) (record k { next = leaving (length vs) k.next }) (last.place + 1) (passed last) vs
        (stands_to scope.base s ts _ (passed last) (last.place + 1) (ap (λ n. n + 1) (sym r.at)) (passed_stands scope.base s ts (now.place + length first) last reached)) sees
        (has_left code a second (last.place + 1) rest.1, refl)
        (let x = r.at in let y = stands.at in
        let whole : last.place + 1 + length a + (length b + 1) ≡ places.next = omega (arith, x, y, end, lengths, lengths') in
        let l1 = leads.broken in let l2 = leads.continued in let l3 = leads.returned in
        record { broken = omega (arith, whole, l1); continued = omega (arith, whole, l2); returned = omega (arith, whole, l3) })
        (ends_before given code bound result s scope (variables_after scope.variables chosen) (variables_after scope.variables chosen) ts places (last.place + 1 + length a) (record k { next = leaving (length vs) k.next }) (leaving (length vs) k.next) chosen_ends
        (λ final after at_jump sees'.
        jump_runs given code bound final _ (length b) (here_at code (last.place + 1 + length a) _ scope.base s ts final at_jump other.0)
        (chosen_ends.next (onward final (length b)) after
        (stands_to scope.base s ts _ (onward final (length b)) places.next (let x = r.at in let y = stands.at in omega (arith, x, y, end, lengths, lengths')) (onward_stands scope.base s ts (last.place + 1 + length a) final (length b) at_jump)) sees'))))
        (stmt_runs otherwise bound below scope s ts (site + sites inside chosen) exits places (record k { next = leaving (length vs) k.next }) (last.place + 1 + length a + 1) (onward last (length a + 1)) vs
        (stands_to scope.base s ts _ (onward last (length a + 1)) (last.place + 1 + length a + 1) (let x = r.at in omega (arith, x)) (onward_stands scope.base s ts (now.place + length first) last (length a + 1) reached)) sees
        (other.1, (let x = r.at in let y = stands.at in omega (arith, x, y, end, lengths, lengths'))) leads
        (h' (variables_after scope.variables otherwise) ts places k (length vs) (within_after scope.variables otherwise) (count_seen scope now.registers vs same) h)))
    stmt_runs (While at' test' body) bound below scope s ts site exits places k at now vs stands same (has, end) leads h =
        let c = condition_code scope (WithTerm test') in
        let exits' = body_exits (length c + 1) exits in
        let inner = stmt_code calls results inside result scope body (length ts + 1) site exits' in
        let lengths = length-append inner (c ++ instruction.Back (length inner + length c + 1) ∷ []) in
        let lengths' = length-append c (instruction.Back (length inner + length c + 1) ∷ []) in
        let turn : ℕ → Variables → (Variables → Continuation) → Continuation =
        λ count now again. exec most given.here helpers inside body site (ts ++ count ∷ []) (in_loop k (leaving (length vs) again) (leaving (length vs) k.next)) now in
        while_runs given code bound most below scope s ts at inner (WithTerm test') turn k.next has
        (λ fewer less count now' vs' again in_turn sees agree.
        let there : StandsAt (at + 3) inner (at + 3 + length inner) = (has_left code inner (c ++ instruction.Back (length inner + length c + 1) ∷ []) (at + 3) (has_moved code _ (at + 1 + 1 + 1) (at + 3) (omega arith) has.1.1.1), refl) in
        let there' = subst (λ d. StandsAt (at + 3) (stmt_code calls results inside result scope body d site exits') (at + 3 + length inner)) (deeper ts count) there in
        stmt_runs body fewer (omega (arith, less, below)) scope s (ts ++ count ∷ []) site exits'
        (record { next = at + 3 + length inner; broken = places.next; continued = at + 3 + length inner; returned = places.returned }) _ (at + 3) now' vs' in_turn sees there'
        (let l3 = leads.returned in record { broken = omega (arith, end, lengths, lengths'); continued = omega arith; returned = omega (arith, end, lengths, lengths', l3) })
        (loop_ends given code bound fewer result s scope scope.variables (variables_after scope.variables body) ts count places k (at + 3 + length inner) again (length vs) (length vs)
        less (within_self scope.variables) (within_after scope.variables body) (count_seen scope now.registers vs same) (count_seen scope now.registers vs same) h agree))
        (λ last vs' at_end sees. h.next last vs' (stands_to scope.base s ts _ last places.next end at_end) sees)
        now vs stands same
    stmt_runs (DoWhile at' body test') bound below scope s ts site exits places k at now vs stands same (has, end) leads h =
        let c = condition_code scope (WithTerm test') in
        let exits' = body_exits (length c + 1) exits in
        let inner = stmt_code calls results inside result scope body (length ts + 1) site exits' in
        let lengths = length-append inner (c ++ instruction.Back (length inner + length c + 1) ∷ []) in
        let lengths' = length-append c (instruction.Back (length inner + length c + 1) ∷ []) in
        let turn : ℕ → Variables → (Variables → Continuation) → Continuation =
        λ count now again. exec most given.here helpers inside body site (ts ++ count ∷ []) (in_loop k (leaving (length vs) again) (leaving (length vs) k.next)) now in
        do_runs given code bound most below scope s ts at inner (WithTerm test') turn k.next has
        (λ fewer less count now' vs' again in_turn sees agree.
        let there : StandsAt (at + 2) inner (at + 2 + length inner) = (has_left code inner (c ++ instruction.Back (length inner + length c + 1) ∷ []) (at + 2) (has_moved code _ (at + 1 + 1) (at + 2) (omega arith) has.1.1), refl) in
        let there' = subst (λ d. StandsAt (at + 2) (stmt_code calls results inside result scope body d site exits') (at + 2 + length inner)) (deeper ts count) there in
        stmt_runs body fewer (omega (arith, less, below)) scope s (ts ++ count ∷ []) site exits'
        (record { next = at + 2 + length inner; broken = places.next; continued = at + 2 + length inner; returned = places.returned }) _ (at + 2) now' vs' in_turn sees there'
        (let l3 = leads.returned in record { broken = omega (arith, end, lengths, lengths'); continued = omega arith; returned = omega (arith, end, lengths, lengths', l3) })
        (loop_ends given code bound fewer result s scope scope.variables (variables_after scope.variables body) ts count places k (at + 2 + length inner) again (length vs) (length vs)
        less (within_self scope.variables) (within_after scope.variables body) (count_seen scope now.registers vs same) (count_seen scope now.registers vs same) h agree))
        (λ last vs' at_end sees. h.next last vs' (stands_to scope.base s ts _ last places.next end at_end) sees)
        now vs stands same
    stmt_runs (For at' first test' third body) bound below scope s ts site exits places k at now vs stands same (has, end) leads h =
        let inner = variables_after_part scope.variables first in
        let scope' : Scope = record scope { variables = inner } in
        let site3 = site + part_sites inside first in
        let site2 = site + part_sites inside first + part_sites inside third in
        let c = condition_code scope' test' in
        let exits3 = body_exits (length c + 1) exits in
        let last = part_code calls results inside result scope' third (length ts + 1) site3 exits3 in
        let exits2 = body_exits (length last + length c + 1) exits in
        let turn = stmt_code calls results inside result scope' body (length ts + 1) site2 exits2 in
        let loop = while_code (length ts) (turn ++ last) c in
        let before = part_code calls results inside result scope first (length ts) site (past (length loop) exits) in
        let back : List Instruction = instruction.Back (length (turn ++ last) + length c + 1) ∷ [] in
        let lengths = length-append before loop in
        let lengths' = length-append (turn ++ last) (c ++ back) in
        let lengths'' = length-append c back in
        let both = length-append turn last in
        let p = at + length before in
        let there = has_right code before loop at p refl has in
        let rest = has_moved code ((turn ++ last) ++ (c ++ back)) (p + 1 + 1 + 1) (p + 3) (omega arith) there.1.1.1 in
        let parts = has_left code (turn ++ last) (c ++ back) (p + 3) rest in
        let p3 = p + 3 + length turn in
        let pc = p3 + length last in
        let count_outer = count_seen scope now.registers vs same in
        let w = within_part scope.variables first in
        part_runs first bound below scope s ts site (past (length loop) exits) (record places { next = p }) (record k { next = _ }) at now vs stands same
        (has_left code before loop at has, refl)
        (let l1 = leads.broken in let l2 = leads.continued in let l3 = leads.returned in
        record { broken = omega (arith, end, lengths, l1); continued = omega (arith, end, lengths, l2); returned = omega (arith, end, lengths, l3) })
        (ends_before given code bound result s scope scope.variables inner ts places p k _ h
        (λ middle start at_loop sees.
        let count_inner = count_seen scope' middle.registers start sees in
        let third_ends : (again : Variables → Continuation) → Follows = λ again. in_loop k (leaving (length start) again) (leaving (length vs) k.next) in
        let third_run : ℕ → (Variables → Continuation) → Variables → Continuation = λ count again. exec_part most given.here helpers inside third site3 (ts ++ count ∷ []) (third_ends again) in
        while_runs given code bound most below scope' s ts p (turn ++ last) test' _ (leaving (length vs) k.next) there
        (λ fewer less count now' vs' again in_turn sees' agree.
        let turn_there : StandsAt (p + 3) turn p3 = (has_left code turn last (p + 3) parts, refl) in
        let turn_there' = subst (λ d. StandsAt (p + 3) (stmt_code calls results inside result scope' body d site2 exits2) p3) (deeper ts count) turn_there in
        let last_there : StandsAt p3 last pc = (has_right code turn last (p + 3) p3 refl parts, refl) in
        let last_there' = subst (λ d. StandsAt p3 (part_code calls results inside result scope' third d site3 exits3) pc) (deeper ts count) last_there in
        let l3 = leads.returned in
        stmt_runs body fewer (omega (arith, less, below)) scope' s (ts ++ count ∷ []) site2 exits2
        (record { next = p3; broken = places.next; continued = p3; returned = places.returned }) _ (p + 3) now' vs' in_turn sees' turn_there'
        (record { broken = omega (arith, end, lengths, lengths', lengths'', both); continued = omega arith; returned = omega (arith, end, lengths, lengths', lengths'', both, l3) })
        (loop_ends given code bound fewer result s scope inner (variables_after inner body) ts count places k p3 (third_run count again) (length vs) (length start)
        less w (within_after inner body) count_outer count_inner h
        (λ later vs3 at_third sees3.
        part_runs third fewer (omega (arith, less, below)) scope' s (ts ++ count ∷ []) site3 exits3
        (record { next = pc; broken = places.next; continued = pc; returned = places.returned }) (third_ends again) p3 later vs3 at_third sees3 last_there'
        (record { broken = omega (arith, end, lengths, lengths', lengths'', both); continued = omega arith; returned = omega (arith, end, lengths, lengths', lengths'', both, l3) })
        (loop_ends given code bound fewer result s scope inner (variables_after_part inner third) ts count places k pc again (length vs) (length start)
        less w (within_part inner third) count_outer count_inner h
        (λ final vs4 at_condition sees4. agree final vs4 (stands_to scope.base s (ts ++ count ∷ []) pc final _ (omega (arith, both)) at_condition) sees4)))))
        (λ final vs' at_end sees'.
        h.next final (leave (length vs) vs') (stands_to scope.base s ts _ final places.next (omega (arith, end, lengths)) at_end)
        (left_seen scope inner final.registers vs' (length vs) w count_outer sees'))
        middle start at_loop sees))
    stmt_runs (Break at') bound below scope s ts site exits places k at now vs stands same (has, end) leads h =
        jump_runs given code bound now (k.broken vs) exits.broken (here_at code at _ scope.base s ts now stands has.0)
        (h.broken (onward now exits.broken) vs
        (stands_to scope.base s ts _ (onward now exits.broken) places.broken (let l = leads.broken in omega (arith, end, l)) (onward_stands scope.base s ts at now exits.broken stands))
        (self_left scope now.registers vs same))
    stmt_runs (Continue at') bound below scope s ts site exits places k at now vs stands same (has, end) leads h =
        jump_runs given code bound now (k.continued vs) exits.continued (here_at code at _ scope.base s ts now stands has.0)
        (h.continued (onward now exits.continued) vs
        (stands_to scope.base s ts _ (onward now exits.continued) places.continued (let l = leads.continued in omega (arith, end, l)) (onward_stands scope.base s ts at now exits.continued stands))
        (self_left scope now.registers vs same))
    stmt_runs (Return at') bound below scope s ts site exits places k at now vs stands same (has, end) leads h =
        let first = no_value_code result in
        let jump : List Instruction = instruction.Jump exits.returned ∷ [] in
        let lengths = length-append first jump in
        no_value_runs given code bound result s scope.base ts at now (k.returned None) stands (has_left code first jump at has) h.lost
        (λ last stands' returned.
        jump_runs given code bound last (k.returned None) exits.returned (here_at code (at + length first) _ scope.base s ts last stands' (has_right code first jump at (at + length first) refl has).0)
        (h.returned (onward last exits.returned) None
        (stands_to scope.base s ts _ (onward last exits.returned) places.returned (let l = leads.returned in omega (arith, end, l, lengths)) (onward_stands scope.base s ts (at + length first) last exits.returned stands')) returned))
    stmt_runs (ReturnValue at' value) bound below scope s ts site exits places k at now vs stands same (has, end) leads h =
        let level = free_level scope in
        let first = expr_code scope level value in
        let from = register_for scope level value in
        let second = value_code result scope.base from in
        let jump : List Instruction = instruction.Jump exits.returned ∷ [] in
        let lengths = length-append first (second ++ jump) in
        let lengths' = length-append second jump in
        let here = has_moved code (first ++ (second ++ jump)) at now.place (sym stands.at) has in
        expr_runs given code bound scope level value now vs (λ v. k.returned (Some v)) (omega arith) same (has_left code first (second ++ jump) now.place here)
        (λ v last r is.
        let reached = reached_stands scope.base level s ts at now (now.place + length first) last (omega arith) stands r in
        let rest = has_right code first (second ++ jump) now.place (now.place + length first) refl here in
        value_runs given code bound result s scope.base ts (now.place + length first) from v last (k.returned (Some v)) reached is (has_left code second jump (now.place + length first) rest)
        (λ final stands' returned.
        jump_runs given code bound final (k.returned (Some v)) exits.returned (here_at code (now.place + length first + length second) _ scope.base s ts final stands' (has_right code second jump (now.place + length first) (now.place + length first + length second) refl rest).0)
        (h.returned (onward final exits.returned) (Some v)
        (stands_to scope.base s ts _ (onward final exits.returned) places.returned (let l = leads.returned in let y = stands.at in omega (arith, end, l, y, lengths, lengths')) (onward_stands scope.base s ts (now.place + length first + length second) final exits.returned stands')) returned)))

    pub part_runs : (st : MaybeStmt) (bound : ℕ) → bound ≤ most → (scope : Scope) (s : State) (ts : List ℕ) (site : ℕ) (exits : Exits) (places : Places) (k : Follows) (at : ℕ) (now : State) (vs : Variables)
        → Stands scope.base s ts at now → Sees scope now.registers vs
        → StandsAt at (part_code calls results inside result scope st (length ts) site exits) places.next → Leads exits places
        → Ends given code bound result s scope (variables_after_part scope.variables st) ts places k
        → Agree given code bound now (exec_part most given.here helpers inside st site ts k vs)
    part_runs Without bound below scope s ts site exits places k at now vs stands same (has, end) leads h =
        h.next now vs (stands_to scope.base s ts at now places.next (omega (arith, end)) stands) same
    part_runs (With st) bound below scope s ts site exits places k at now vs stands same there leads h =
        stmt_runs st bound below scope s ts site exits places k at now vs stands same there leads h

    pub stmts_run : (ss : Stmts) (bound : ℕ) → bound ≤ most → (scope : Scope) (s : State) (ts : List ℕ) (site : ℕ) (exits : Exits) (places : Places) (k : Follows) (at : ℕ) (now : State) (vs : Variables)
        → Stands scope.base s ts at now → Sees scope now.registers vs
        → StandsAt at (stmts_code calls results inside result scope ss (length ts) site exits) places.next → Leads exits places
        → Ends given code bound result s scope (variables_after_all scope.variables ss) ts places k
        → Agree given code bound now (exec_all most given.here helpers inside ss site ts k vs)
    stmts_run NoStmt bound below scope s ts site exits places k at now vs stands same (has, end) leads h =
        h.next now vs (stands_to scope.base s ts at now places.next (omega (arith, end)) stands) same
    stmts_run (ThenStmt ss st) bound below scope s ts site exits places k at now vs stands same (has, end) leads h =
        let inner : Scope = record scope { variables = variables_after_all scope.variables ss } in
        let last = stmt_code calls results inside result inner st (length ts) (site + all_sites inside ss) exits in
        let first = stmts_code calls results inside result scope ss (length ts) site (past (length last) exits) in
        let lengths = length-append first last in
        let h' = ends_within given code bound result s scope inner.variables (variables_after_all scope.variables (ThenStmt ss st)) ts places k (within_all scope.variables ss) h in
        stmts_run ss bound below scope s ts site (past (length last) exits) (record places { next = at + length first }) (record k { next = exec most given.here helpers inside st (site + all_sites inside ss) ts k }) at now vs stands same
        (has_left code first last at has, refl)
        (let l1 = leads.broken in let l2 = leads.continued in let l3 = leads.returned in
        record { broken = omega (arith, end, lengths, l1); continued = omega (arith, end, lengths, l2); returned = omega (arith, end, lengths, l3) })
        (ends_before given code bound result s scope (variables_after_all scope.variables (ThenStmt ss st)) (variables_after_all scope.variables ss) ts places (at + length first) k _ h
        (λ middle vs' stands' sees.
        stmt_runs st bound below inner s ts (site + all_sites inside ss) exits places k (at + length first) middle vs' stands' sees
        (has_right code first last at (at + length first) refl has, (omega (arith, end, lengths))) leads h'))
