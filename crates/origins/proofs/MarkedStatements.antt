-- Each instruction of a statement's code is one that its node makes, and so of a kernel's.
use Rattle.std.proofs.Common.{◌≡◌, ℕ, zero, suc, ℤ, pos, negsuc, replicate, ◌+◌, ◌==◌, Bool, true, false, Option, None, Some, List, [], ◌∷◌, ◌++◌, length, if◌then◌else◌, refl, sym, ap, ap₂, subst, ◌∙◌}
use Rattle.std.proofs.lemmas.List.{append_assoc, append-nil}
use Rattle.clnum.specs.declared.int_type.IntType.{IntType}
use Rattle.clnum.specs.declared.operators.BinaryOperator.{BinaryOperator}
use Rattle.clmodel.specs.Barrier.{is_barrier, fences}
use Rattle.clmodel.specs.BuiltIns.{built_in}
use Rattle.clnum.specs.Integer.{Integer, natural}
use Rattle.clmodel.specs.Next.{Variables, has_elements, is_private_array, HelperCall, helper_call, step_operator, sites_in, part_sites, all_sites}
use Rattle.clmodel.specs.Tree.{Term, Terms, Target, TargetVariable, TargetElement, TargetDereference, Stmt, Empty, Block, Declare, DeclareAs, DeclareArray, Assign, Step, CallOnly, If, IfElse, While, DoWhile, For, Break, Continue, Return, ReturnValue, Stmts, NoStmt, ThenStmt, MaybeStmt, Without, With, MaybeTerm, WithoutTerm, WithTerm, Func, Funcs, NoFunc, ThenFunc, array_length}
use Rattle.clmodel.specs.declared.action.Fences.{Fences}
use Rattle.clmodel.specs.declared.setup.BuiltIn.{BuiltIn}
use Rattle.clmodel.specs.declared.tree.Parameter.{Parameter}
use Rattle.clmodel.specs.declared.tree.VariableType.{VariableType}
use Rattle.regcode.specs.declared.instruction.Instruction.{Instruction}
use Rattle.regcode.specs.declared.instruction.Instruction.TheVariants as instruction
use Rattle.lower_expr.proofs.Lengths.{from_level}
use Rattle.lower_code.specs.Code.{Exits, past, body_exits, while_code, set_variable_code, fetch_code, put_code, combine_code, array_code, pass_code, arguments_code, array_variable, variables_after, variables_after_part, variables_after_all, parameter_variables, needed_code, no_value_code, value_code, wait_code, condition_code, right_code, call_only_statement, stmt_code, part_code, stmts_code, body_code, call_code, kernel_code, result_in, variable}
use Rattle.lower_code.specs.Code as spec
use Rattle.origins.specs.declared.names.Meaning.{Meaning}
use Rattle.origins.specs.declared.names.NamedVariable.{NamedVariable}
use Rattle.origins.specs.Names.{positive, array_or_plain, array_kind, array_meaning, names_of, names_after, names_after_part, names_after_all, parameter_names}
use Rattle.origins.specs.Origins.{Node, OfTerm, OfStmt, OfFunc, Origin, node_at, times, fetch_origins, needed_count, value_count, array_count, Calls, right_origins, call_statement_origins, condition_origins, stmt_origins, part_origins, row_origins, body_origins, call_origins, kernel_origins}
use Rattle.origins.specs.Marks.{Suits, CallsBarrier, called, names, target_named, loads, stores, combines, Marks}
use Rattle.origins.proofs.Marking.{none, more, single, joined, turned, inside, seen, variable_marked, call_only_marked, expr_marked, terms_marked, target_marked}

positive_named : (n : ℤ) → positive n ≡ array_or_plain (has_elements (replicate (natural n) None))
positive_named (pos zero) = refl
positive_named (pos (suc n)) = refl
positive_named (negsuc n) = refl

array_named : (is_local : Bool) (element : IntType) (count : Integer) (name : ℕ) → array_meaning is_local count ≡ array_or_plain (has_elements (array_variable is_local element (array_length count) name).elements)
array_named true element count name = refl
array_named false element count name = positive_named count.number

array_typed : (is_local : Bool) (element : IntType) (count : Integer) (name : ℕ) → array_kind is_local element ≡ (array_variable is_local element (array_length count) name).kind
array_typed true element count name = refl
array_typed false element count name = refl

array_name : (is_local : Bool) (element : IntType) (count : Integer) (name : ℕ) (vs : Variables)
    → names_of vs ++ record { name = name; kind = (array_variable is_local element (array_length count) name).kind; meaning = array_or_plain (has_elements (array_variable is_local element (array_length count) name).elements) } ∷ []
    ≡ names_of (array_variable is_local element (array_length count) name ∷ vs)
array_name true element count name vs = refl
array_name false element count name vs = refl

-- the variables behind a declaration
after_named : (vs : Variables) (s : Stmt) → names_after (names_of vs) s ≡ names_of (variables_after vs s)
after_named vs (Declare at kind name_at name) = refl
after_named vs (DeclareAs at kind name_at name value) = refl
after_named vs (DeclareArray at is_local element name_at name length_at count) =
    ap₂ (λ (k : VariableType) (m : Meaning). names_of vs ++ record { name = name; kind = k; meaning = m } ∷ []) (array_typed is_local element count name) (array_named is_local element count name)
    ∙ array_name is_local element count name vs
after_named vs _ = refl

after_part_named : (vs : Variables) (part : MaybeStmt) → names_after_part (names_of vs) part ≡ names_of (variables_after_part vs part)
after_part_named vs Without = refl
after_part_named vs (With s) = after_named vs s

after_all_named : (vs : Variables) (ss : Stmts) → names_after_all (names_of vs) ss ≡ names_of (variables_after_all vs ss)
after_all_named vs NoStmt = refl
after_all_named vs (ThenStmt ss s) = ap (λ ns. names_after ns s) (after_all_named vs ss) ∙ after_named (variables_after_all vs ss) s

parameters_named : (ps : List Parameter) (vs : Variables) → names_of (parameter_variables ps vs) ≡ names_of vs ++ parameter_names ps
parameters_named [] vs = sym (append-nil (names_of vs))
parameters_named (p ∷ ps) vs = parameters_named ps (variable p.name p.kind ∷ vs) ∙ append_assoc (names_of vs) (_ ∷ []) (parameter_names ps)

-- code that is joined the other way round
turned_back : {os : List Origin} (is js ks : List Instruction) → Marks os ((is ++ js) ++ ks) → Marks os (is ++ (js ++ ks))
turned_back {os = os} is js ks h = subst (λ xs. Marks os xs) (append_assoc is js ks) h

set_variable_marked : (to : Option ℕ) (from : ℕ) (kind : VariableType) (n : Node) → Marks (times 1 n) (set_variable_code to from kind)
set_variable_marked None from kind n = single tt
set_variable_marked (Some to) from kind n = single tt

either_one : (b : Bool) (n : Node) (i j : Instruction) → Suits i n → Suits j n → Marks (times 1 n) (if b then i ∷ [] else j ∷ [])
either_one true n i j h k = single h
either_one false n i j h k = single k

pass_marked : (ps : List Parameter) (arguments : List ℕ) (level : ℕ) (n : Node) → Marks (times (length ps) n) (pass_code ps arguments level)
pass_marked [] arguments level n = none
pass_marked (p ∷ ps) [] level n = more tt (pass_marked ps [] (level + 1) n)
pass_marked (p ∷ ps) (a ∷ arguments) level n = more tt (pass_marked ps arguments (level + 1) n)

arguments_marked : (ps : List Parameter) (level : ℕ) (n : Node) → Marks (times (length ps) n) (arguments_code ps level)
arguments_marked [] level n = none
arguments_marked (p ∷ ps) level n = more tt (arguments_marked ps (level + 1) n)

needed_marked : (result : Option IntType) (n : Node) → Marks (times (needed_count result) n) (needed_code result)
needed_marked None n = single tt
needed_marked (Some kind) n = none

no_value_marked : (result : Option IntType) (n : Node) → Marks (times (value_count result) n) (no_value_code result)
no_value_marked None n = none
no_value_marked (Some kind) n = single tt

value_marked : (result : Option IntType) (level from : ℕ) (n : Node) → Marks (times (value_count result) n) (value_code result level from)
value_marked None level from n = none
value_marked (Some kind) level from n = single tt

wait_marked : (named : Option Fences) (site depth : ℕ) (n : Node) → CallsBarrier (called n) → Marks (times 1 n) (wait_code named site depth)
wait_marked None site depth n h = single tt
wait_marked (Some f) site depth n h = single h

array_marked : (is_local : Bool) (element : IntType) (count number level : ℕ) (n : Node) → Marks (times (array_count is_local) n) (array_code is_local element count number level)
array_marked true element count number level n = single tt
array_marked false element count number level n = more tt (single tt)

module _ (base : ℕ) where
  fetch_marked : (vs : Variables) (to : Target) (reached at : ℕ) (n : Node) → loads n ≡ true → names n ≡ target_named to
      → Marks (fetch_origins (names_of vs) to n) (fetch_code (from_level base vs) to reached at)
  fetch_marked vs (TargetVariable at name) reached to n h e = variable_marked _ _ _ _ name n (seen base vs name) e
  fetch_marked vs (TargetElement at name index) reached to n h e = either_one (is_private_array vs name) n _ _ e h
  fetch_marked vs (TargetDereference at pointer) reached to n h e = single h

  put_marked : (vs : Variables) (to : Target) (reached from : ℕ) (n : Node) → stores n ≡ true → names n ≡ target_named to
      → Marks (times 1 n) (put_code (from_level base vs) to reached from)
  put_marked vs (TargetVariable at name) reached from n h e = set_variable_marked _ from _ n
  put_marked vs (TargetElement at name index) reached from n h e = either_one (is_private_array vs name) n _ _ e h
  put_marked vs (TargetDereference at pointer) reached from n h e = single h

  combine_marked : (vs : Variables) (to : Target) (level : ℕ) (operator : BinaryOperator) (kind : VariableType) (old right : ℕ) (n : Node)
      → combines n ≡ Some operator → stores n ≡ true → names n ≡ target_named to
      → Marks (times 2 n) (combine_code (from_level base vs) to level operator kind old right)
  combine_marked vs to level operator kind old right n c h e = more c (put_marked vs to _ _ n h e)

  condition_marked : (vs : Variables) (test : MaybeTerm) (n : Node) → Marks (condition_origins (names_of vs) test n) (condition_code (from_level base vs) test)
  condition_marked vs WithoutTerm n = none
  condition_marked vs (WithTerm test) n = joined (expr_marked (from_level base vs) _ test) (single tt)

  module _ (calls : Calls) (code : spec.Calls) (results : ℕ → Option IntType) (barriers : ℕ → ℕ) (result : Option IntType)
      (all : (call : Node) (name : ℕ) (numbers : List ℕ) (level depth site : ℕ) → Marks (calls call name) (code name numbers level depth site)) where
    right_marked : (vs : Variables) (level : ℕ) (c : Option HelperCall) (value : Term) (depth site : ℕ)
        → Marks (right_origins calls results result (names_of vs) c value) (right_code code results barriers result (from_level base vs) level c value depth site)
    right_marked vs level (Some c) value depth site =
        joined (terms_marked (from_level base vs) level c.arguments) (joined (all (OfTerm value) c.name _ level depth site) (needed_marked (results c.name) (OfTerm value)))
    right_marked vs level None value depth site = expr_marked (from_level base vs) level value

    call_statement_marked : (vs : Variables) (waits : Bool) (function : Option BuiltIn) (at name : ℕ) (arguments : Terms) (depth site : ℕ) → is_barrier name ≡ waits → built_in name ≡ function
        → Marks (call_statement_origins calls results result (names_of vs) waits function name arguments (OfStmt (CallOnly at name arguments)))
        (call_only_statement code results barriers result (from_level base vs) waits function name arguments depth site)
    call_statement_marked vs true function at name arguments depth site e p = wait_marked (fences arguments) site depth (OfStmt (CallOnly at name arguments)) e
    call_statement_marked vs false (Some function) at name arguments depth site e p =
        joined (terms_marked (from_level base vs) _ arguments) (call_only_marked (Some function) _ _ (OfStmt (CallOnly at name arguments)) p)
    call_statement_marked vs false None at name arguments depth site e p =
        joined (terms_marked (from_level base vs) _ arguments) (all (OfStmt (CallOnly at name arguments)) name _ _ depth site)

    named_stmt : (ns ms : List NamedVariable) → ns ≡ ms → (s : Stmt) (is : List Instruction) → Marks (stmt_origins calls results result ms s) is → Marks (stmt_origins calls results result ns s) is
    named_stmt ns ms e s is h = subst (λ ks. Marks (stmt_origins calls results result ks s) is) (sym e) h

    named_turn : (ns ms : List NamedVariable) → ns ≡ ms → (body : Stmt) (third : MaybeStmt) (test : MaybeTerm) (n : Node) (is : List Instruction)
        → Marks (stmt_origins calls results result ms body ++ (part_origins calls results result ms third ++ (condition_origins ms test n ++ times 1 n))) is
        → Marks (stmt_origins calls results result ns body ++ (part_origins calls results result ns third ++ (condition_origins ns test n ++ times 1 n))) is
    named_turn ns ms e body third test n is h =
        subst (λ ks. Marks (stmt_origins calls results result ks body ++ (part_origins calls results result ks third ++ (condition_origins ks test n ++ times 1 n))) is) (sym e) h

    mutual
      stmt_marked : (vs : Variables) (s : Stmt) (depth site : ℕ) (exits : Exits)
          → Marks (stmt_origins calls results result (names_of vs) s) (stmt_code code results barriers result (from_level base vs) s depth site exits)
      stmt_marked vs (Empty at) depth site exits = none
      stmt_marked vs (Block at body) depth site exits = row_marked vs body depth site exits
      stmt_marked vs (Declare at kind name_at name) depth site exits = single tt
      stmt_marked vs (DeclareAs at kind name_at name value) depth site exits =
          more tt (joined (right_marked (variable name kind ∷ vs) _ (helper_call value) value depth site) (single tt))
      stmt_marked vs (DeclareArray at is_local element name_at name length_at count) depth site exits = array_marked is_local element _ _ _ _
      stmt_marked vs (Assign at to None value) depth site exits =
          joined (target_marked (from_level base vs) _ to) (joined (right_marked vs _ (helper_call value) value depth site) (put_marked vs to _ _ (OfStmt (Assign at to None value)) refl refl))
      stmt_marked vs (Assign at to (Some operator) value) depth site exits =
          joined (target_marked (from_level base vs) _ to)
          (joined (fetch_marked vs to _ _ (OfStmt (Assign at to (Some operator) value)) refl refl)
          (joined (right_marked vs _ (helper_call value) value depth site) (combine_marked vs to _ operator _ _ _ (OfStmt (Assign at to (Some operator) value)) refl refl refl)))
      stmt_marked vs (Step at to is_increment) depth site exits =
          joined (target_marked (from_level base vs) _ to)
          (joined (fetch_marked vs to _ _ (OfStmt (Step at to is_increment)) refl refl)
          (more tt (combine_marked vs to _ (step_operator is_increment) _ _ _ (OfStmt (Step at to is_increment)) refl refl refl)))
      stmt_marked vs (CallOnly at name arguments) depth site exits = call_statement_marked vs (is_barrier name) (built_in name) at name arguments depth site refl refl
      stmt_marked vs (If at test one) depth site exits = joined (expr_marked (from_level base vs) _ test) (more tt (stmt_marked vs one depth site exits))
      stmt_marked vs (IfElse at test one two) depth site exits =
          joined (expr_marked (from_level base vs) _ test) (more tt (joined (stmt_marked vs one depth site _) (more tt (stmt_marked vs two depth _ exits))))
      stmt_marked vs (While at test body) depth site exits =
          more tt (more tt (more refl (joined (stmt_marked vs body (depth + 1) site _) (joined (condition_marked vs (WithTerm test) (OfStmt (While at test body))) (single tt)))))
      stmt_marked vs (DoWhile at body test) depth site exits =
          more tt (more refl (joined (stmt_marked vs body (depth + 1) site _) (joined (condition_marked vs (WithTerm test) (OfStmt (DoWhile at body test))) (single tt))))
      stmt_marked vs (For at first test third body) depth site exits =
          let inner = variables_after_part vs first in
          let scope = from_level base inner in
          let condition = condition_code scope test in
          let last = part_code code results barriers result scope third (depth + 1) (site + part_sites barriers first) (body_exits (length condition + 1) exits) in
          let turn = stmt_code code results barriers result scope body (depth + 1) (site + part_sites barriers first + part_sites barriers third) (body_exits (length last + length condition + 1) exits) in
          let back : List Instruction = instruction.Back (length (turn ++ last) + length condition + 1) ∷ [] in
          joined (part_marked vs first depth site (past (length (while_code depth (turn ++ last) condition)) exits))
          (more tt (more tt (more refl
          (turned turn last (condition ++ back)
          (named_turn (names_after_part (names_of vs) first) (names_of inner) (after_part_named vs first) body third test (OfStmt (For at first test third body)) (turn ++ (last ++ (condition ++ back)))
          (joined (stmt_marked inner body (depth + 1) (site + part_sites barriers first + part_sites barriers third) (body_exits (length last + length condition + 1) exits))
          (joined (part_marked inner third (depth + 1) (site + part_sites barriers first) (body_exits (length condition + 1) exits))
          (joined (condition_marked inner test (OfStmt (For at first test third body))) (single tt)))))))))
      stmt_marked vs (Break at) depth site exits = single tt
      stmt_marked vs (Continue at) depth site exits = single tt
      stmt_marked vs (Return at) depth site exits = joined (no_value_marked result _) (single tt)
      stmt_marked vs (ReturnValue at value) depth site exits = joined (expr_marked (from_level base vs) _ value) (joined (value_marked result _ _ _) (single tt))

      part_marked : (vs : Variables) (part : MaybeStmt) (depth site : ℕ) (exits : Exits)
          → Marks (part_origins calls results result (names_of vs) part) (part_code code results barriers result (from_level base vs) part depth site exits)
      part_marked vs Without depth site exits = none
      part_marked vs (With s) depth site exits = stmt_marked vs s depth site exits

      row_marked : (vs : Variables) (ss : Stmts) (depth site : ℕ) (exits : Exits)
          → Marks (row_origins calls results result (names_of vs) ss) (stmts_code code results barriers result (from_level base vs) ss depth site exits)
      row_marked vs NoStmt depth site exits = none
      row_marked vs (ThenStmt ss s) depth site exits =
          let last = stmt_code code results barriers result (from_level base (variables_after_all vs ss)) s depth (site + all_sites barriers ss) exits in
          joined (row_marked vs ss depth site (past (length last) exits))
          (named_stmt (names_after_all (names_of vs) ss) (names_of (variables_after_all vs ss)) (after_all_named vs ss) s last (stmt_marked (variables_after_all vs ss) s depth (site + all_sites barriers ss) exits))

named_row : (calls : Calls) (results : ℕ → Option IntType) (f : Func) (ns ms : List NamedVariable) → ns ≡ ms → (is : List Instruction)
    → Marks (row_origins calls results f.result ns f.body) is → Marks (row_origins calls results f.result ms f.body) is
named_row calls results f ns ms e is h = subst (λ ks. Marks (row_origins calls results f.result ks f.body) is) e h

body_marked : (calls : Calls) (code : spec.Calls) (results : ℕ → Option IntType) (barriers : ℕ → ℕ)
    → ((call : Node) (name : ℕ) (numbers : List ℕ) (level depth site : ℕ) → Marks (calls call name) (code name numbers level depth site))
    → (f : Func) (level depth site : ℕ) → Marks (body_origins calls results f) (body_code code results barriers f level depth site)
body_marked calls code results barriers all f level depth site =
    joined
    (named_row calls results f (names_of (parameter_variables f.parameters [])) (parameter_names f.parameters) (parameters_named f.parameters [])
    (stmts_code code results barriers f.result (from_level level (parameter_variables f.parameters [])) f.body depth site (record { broken = 0; continued = 0; returned = length (no_value_code f.result) }))
    (row_marked level calls code results barriers f.result all (parameter_variables f.parameters []) f.body depth site (record { broken = 0; continued = 0; returned = length (no_value_code f.result) })))
    (no_value_marked f.result (OfFunc f))

one_of : (h : Bool) {os ps : List Origin} {is js : List Instruction} → Marks os is → Marks ps js
    → Marks (elim h as (λ _. List Origin) [ true ↦ os | false ↦ ps ]) (elim h as (λ _. List Instruction) [ true ↦ is | false ↦ js ])
one_of true h k = h
one_of false h k = k

pub calls_marked : (functions : Funcs) (call : Node) (name : ℕ) (numbers : List ℕ) (level depth site : ℕ) → Marks (call_origins functions call name) (call_code functions name numbers level depth site)
calls_marked NoFunc call name numbers level depth site = single tt
calls_marked (ThenFunc earlier f) call name numbers level depth site =
    one_of (name == f.name)
    (inside (node_at call)
    (joined (pass_marked f.parameters numbers level (OfFunc f)) (body_marked (call_origins earlier) (call_code earlier) (result_in earlier) (sites_in earlier) (calls_marked earlier) f level depth site)))
    (calls_marked earlier call name numbers level depth site)

pub kernel_marked : (earlier : Funcs) (f : Func) → Marks (kernel_origins earlier f) (kernel_code earlier f)
kernel_marked earlier f =
    turned_back (arguments_code f.parameters 0) (body_code (call_code earlier) (result_in earlier) (sites_in earlier) f 0 0 0) (instruction.End ∷ [])
    (joined (joined (arguments_marked f.parameters 0 (OfFunc f)) (body_marked (call_origins earlier) (call_code earlier) (result_in earlier) (sites_in earlier) (calls_marked earlier) f 0 0 0)) (single tt))
