-- Loops and the bodies of functions from their parts.
use Rattle.std.proofs.Common.{◌≡◌, ℕ, ◌+◌, ◌-◌, Option, None, Some, Box, Bor, List, [], ◌∷◌, ◌++◌, length, refl, ap, ap₂, sym, ◌∙◌, arith}
use Rattle.std.specs.Option.{option_map}
use Rattle.std.specs.declared.alloc.Global.{Global}
use Rattle.std.proofs.lemmas.List.{append_assoc, append-nil}
use Rattle.clmodel.specs.Next.{sites, part_sites, all_sites}
use Rattle.clmodel.specs.declared.tree.Function.{Function}
use Rattle.clmodel.specs.declared.tree.Statement as rust_statement
use Rattle.clmodel.specs.declared.tree.Statement.{Statement, size-Statement}
use Rattle.clmodel.specs.Tree.{Term, Stmt, stmt, term, maybe_term, If, IfElse, While, DoWhile, For, MaybeStmt, Without, With, MaybeTerm, WithTerm}
use Rattle.clmodel.specs.declared.tree.Expression.{Expression}
use Rattle.regcode.specs.declared.instruction.Instruction.{Instruction}
use Rattle.regcode.specs.declared.instruction.Instruction.TheVariants as instruction
use Rattle.lower_expr.specs.Scope.{Scope, free_level}
use Rattle.lower_expr.specs.Expressions.{expr_code, register_for}
use Rattle.lower_code.specs.Code.{Exits, past, body_exits, stmt_code, stmts_code, part_code, call_code, result_in, condition_code, while_code, no_value_code, parameter_variables, scope_after_part}
use Rattle.lower_code.specs.Emission.{functions_of, inside, body_of, exits_of, statement_code, maybe_code}
use Rattle.lower_code.specs.Trees.{all_of, part_of}
use Rattle.lower_code.specs.declared.holes.StatementContext.{StatementContext}
use Rattle.lower_code.specs.declared.positions.Exits as declared
use Rattle.lower_code.specs.declared.positions.Position.{Position}
use Rattle.lower_code.proofs.Lists.{part_depth, boxed_depth}
use Rattle.lower_code.proofs.Rows.{longer}
use Rattle.lower.specs.Statements.{once_code, round_code}

abbrev code_in : StatementContext → Scope → Stmt → ℕ → ℕ → Exits → List Instruction
code_in s scope statement depth site exits =
    stmt_code (call_code (functions_of s.helpers.functions.now)) (result_in (functions_of s.helpers.functions.now)) (inside s.helpers.functions.now) s.result scope statement depth site exits

-- a body that is put before the rest of a turn
pub once_placed : (s : StatementContext) (scope : Scope) (p : Position) (body : Stmt) (depth : ℕ) (exits : declared.Exits) (old new : List Instruction) (added : ℕ)
    → depth ≡ p.depth + 1 → added ≡ length old - 0 + 1 → exits_of exits ≡ body_exits added (exits_of p.exits)
    → new ≡ statement_code s scope body (record { depth = depth; site = p.site; exits = exits }) ++ old
    → new ≡ once_code s scope body p (length old) ++ old
once_placed s scope p body depth exits old new added depth_is added_is exits_is new_is =
    let added_at : added ≡ length old + 1 = omega (arith, added_is) in
    new_is ∙ ap₂ (λ d e. code_in s scope body d p.site e ++ old) depth_is (exits_is ∙ ap (λ n. body_exits n (exits_of p.exits)) added_at)

-- a third part, and the body before it
pub stepped_placed : (s : StatementContext) (scope middle : Scope) (p : Position) (third body : Stmt) (depth site : ℕ) (exits : declared.Exits) (old one two : List Instruction) (added : ℕ)
    → depth ≡ p.depth + 1 → site ≡ p.site + sites (inside s.helpers.functions.now) third
    → added ≡ length old - 0 + 1 → exits_of exits ≡ body_exits added (exits_of p.exits)
    → one ≡ statement_code s scope third (record { depth = depth; site = p.site; exits = exits }) ++ old
    → middle ≡ scope
    → two ≡ once_code s middle body (record { depth = p.depth; site = site; exits = p.exits }) (length one) ++ one
    → two ≡ round_code s scope (With third) body p (length old) ++ old
stepped_placed s scope middle p third body depth site exits old one two added depth_is site_is added_is exits_is one_is middle_is two_is =
    let n = length old in
    let last = code_in s scope third (p.depth + 1) p.site (body_exits (n + 1) (exits_of p.exits)) in
    let at = p.site + sites (inside s.helpers.functions.now) third in
    let turn = code_in s scope body (p.depth + 1) at (body_exits (length last + n + 1) (exits_of p.exits)) in
    let one_at : one ≡ last ++ old = once_placed s scope p third depth exits old one added depth_is added_is exits_is one_is in
    let size = longer last old one one_at in
    let more : length one + 1 ≡ length last + n + 1 = omega (arith, size) in
    let two_at : two ≡ turn ++ one =
    two_is ∙ ap₂ (λ c m. code_in s c body (p.depth + 1) m (body_exits (length one + 1) (exits_of p.exits)) ++ one) middle_is site_is
    ∙ ap (λ m. code_in s scope body (p.depth + 1) at (body_exits m (exits_of p.exits)) ++ one) more in
    two_at ∙ ap (λ xs. turn ++ xs) one_at ∙ sym (append_assoc turn last old)

-- a body without a third part
pub lone_round : (s : StatementContext) (scope : Scope) (p : Position) (body : Stmt) (n : ℕ) → once_code s scope body p n ≡ round_code s scope Without body p n
lone_round s scope p body n =
    let none : p.site ≡ p.site + 0 = omega arith in
    let same : n + 1 ≡ 0 + n + 1 = omega arith in
    ap₂ (λ m k. code_in s scope body (p.depth + 1) m (body_exits k (exits_of p.exits))) none same
    ∙ sym (append-nil (code_in s scope body (p.depth + 1) (p.site + 0) (body_exits (0 + n + 1) (exits_of p.exits))))

-- a loop, and its first part before it
pub for_placed : (s : StatementContext) (scope inner later : Scope) (p : Position) (first : MaybeStmt) (test : MaybeTerm) (third : MaybeStmt) (body : Stmt) (behind : ℕ) (exits : declared.Exits)
    (old one two : List Instruction) (added : ℕ)
    → inner ≡ scope_after_part scope first → later ≡ scope
    → p.site + part_sites (inside s.helpers.functions.now) first ≡ behind
    → one ≡ while_code p.depth (round_code s inner third body (record { depth = p.depth; site = behind; exits = p.exits }) (length (condition_code inner test))) (condition_code inner test) ++ old
    → added ≡ length one - length old → exits_of exits ≡ past added (exits_of p.exits)
    → two ≡ maybe_code s later first (record { depth = p.depth; site = p.site; exits = exits }) ++ one
    → two ≡ statement_code s scope (For 0 first test third body) p ++ old
for_placed s scope inner later p first test third body behind exits old one two added inner_is later_is behind_is one_is added_is exits_is two_is =
    let loop_in : Scope → ℕ → List Instruction =
    λ c n. while_code p.depth (round_code s c third body (record { depth = p.depth; site = n; exits = p.exits }) (length (condition_code c test))) (condition_code c test) in
    let loop = loop_in (scope_after_part scope first) (p.site + part_sites (inside s.helpers.functions.now) first) in
    let part : Scope → Exits → List Instruction =
    λ c e. part_code (call_code (functions_of s.helpers.functions.now)) (result_in (functions_of s.helpers.functions.now)) (inside s.helpers.functions.now) s.result c first p.depth p.site e in
    let front = part scope (past (length loop) (exits_of p.exits)) in
    let one_at : one ≡ loop ++ old = one_is ∙ ap₂ (λ c n. loop_in c n ++ old) inner_is (sym behind_is) in
    let size = longer loop old one one_at in
    let added_at : added ≡ length loop = omega (arith, added_is, size) in
    two_is ∙ ap₂ (λ c e. part c e ++ one) later_is (exits_is ∙ ap (λ n. past n (exits_of p.exits)) added_at)
    ∙ ap (λ xs. front ++ xs) one_at ∙ sym (append_assoc front loop old)

-- a function's body, before its end
pub body_placed : (gs : List Function) (f : Function) (level depth site first behind : ℕ) (scope : Scope) (ss : List Statement) (returned : ℕ) (old one two : List Instruction)
    → ss ≡ f.body.items
    → behind ≡ site + all_sites (inside gs) (all_of ss) → first + all_sites (inside gs) (all_of ss) ≡ behind
    → scope ≡ record { base = level; variables = parameter_variables f.parameters.items [] }
    → one ≡ no_value_code f.result ++ old → returned ≡ length one - length old
    → two ≡ stmts_code (call_code (functions_of gs)) (result_in (functions_of gs)) (inside gs) f.result scope (all_of ss) depth first (record { broken = 0; continued = 0; returned = returned }) ++ one
    → two ≡ body_of gs f level depth site ++ old
body_placed gs f level depth site first behind scope ss returned old one two ss_is behind_is first_is scope_is one_is returned_is two_is =
    let end = no_value_code f.result in
    let size = longer end old one one_is in
    let returned_at : returned ≡ length end = omega (arith, returned_is, size) in
    let first_at : first ≡ site = omega (arith, first_is, behind_is) in
    let outermost : Scope = record { base = level; variables = parameter_variables f.parameters.items [] } in
    let code : Scope → List Statement → ℕ → ℕ → List Instruction =
    λ c xs m r. stmts_code (call_code (functions_of gs)) (result_in (functions_of gs)) (inside gs) f.result c (all_of xs) depth m (record { broken = 0; continued = 0; returned = r }) in
    two_is ∙ ap₂ (λ c xs. code c xs first returned ++ one) scope_is ss_is
    ∙ ap₂ (λ m r. code outermost f.body.items m r ++ one) first_at returned_at
    ∙ ap (λ ys. code outermost f.body.items site (length end) ++ ys) one_is
    ∙ sym (append_assoc (code outermost f.body.items site (length end)) end old)

-- a part of a `for`, if there is one
abbrev pub part_named : Option Statement → MaybeStmt
part_named None = Without
part_named (Some s) = With (stmt s)

pub part_is : (o : Option (Bor Statement)) → part_of o ≡ part_named (option_map (λ s. s.now) o)
part_is None = refl
part_is (Some s) = refl

-- the barriers of a `for`, by its parts
pub for_sites : (f : ℕ → ℕ) (at : ℕ) (first : Option (Box Statement Global)) (condition : Option (Box Expression Global)) (third : Option (Box Statement Global)) (body : Box Statement Global)
    → sites f (stmt (rust_statement.For at first condition third body))
    ≡ part_sites f (part_named (option_map (λ s. s.value) first)) + part_sites f (part_named (option_map (λ s. s.value) third)) + sites f (stmt body.value)
for_sites f at None condition None body = refl
for_sites f at None condition (Some third) body = refl
for_sites f at (Some first) condition None body = refl
for_sites f at (Some first) condition (Some third) body = refl

-- a choice without a second side
pub if_placed : (s : StatementContext) (scope later : Scope) (p : Position) (test : Term) (chosen : Stmt) (old one two : List Instruction) (over : ℕ)
    → one ≡ statement_code s scope chosen p ++ old → later ≡ scope → over ≡ length one - length old
    → two ≡ expr_code later (free_level later) test ++ (instruction.JumpIfZero (register_for later (free_level later) test) over ∷ one)
    → two ≡ statement_code s scope (If 0 test chosen) p ++ old
if_placed s scope later p test chosen old one two over one_is later_is over_is two_is =
    let first = statement_code s scope chosen p in
    let size = longer first old one one_is in
    let by : over ≡ length first = omega (arith, over_is, size) in
    let code : Scope → ℕ → List Instruction → List Instruction = λ c n xs. expr_code c (free_level c) test ++ (instruction.JumpIfZero (register_for c (free_level c) test) n ∷ xs) in
    two_is ∙ ap (λ (c : Scope). code c over one) later_is ∙ ap₂ (λ n xs. code scope n xs) by one_is
    ∙ sym (append_assoc (expr_code scope (free_level scope) test) (instruction.JumpIfZero (register_for scope (free_level scope) test) (length first) ∷ first) old)

-- a loop with a condition is a `for` with no more
pub while_laid : (s : StatementContext) (scope : Scope) (at : ℕ) (test : Term) (body : Stmt) (p : Position)
    → statement_code s scope (For 0 Without (WithTerm test) Without body) p ≡ statement_code s scope (While at test body) p
while_laid s scope at test body p =
    let condition = condition_code scope (WithTerm test) in
    let n = length condition in
    let first : p.site + 0 + 0 ≡ p.site = omega arith in
    let rest : 0 + n + 1 ≡ n + 1 = omega arith in
    ap₂ (λ a b. while_code p.depth (code_in s scope body (p.depth + 1) a (body_exits b (exits_of p.exits)) ++ []) condition) first rest
    ∙ ap (λ xs. while_code p.depth xs condition) (append-nil (code_in s scope body (p.depth + 1) p.site (body_exits (n + 1) (exits_of p.exits))))

-- what statements stand for
pub while_is : (s : Statement) (at : ℕ) (condition : Box Expression Global) (body : Box Statement Global) (e : Expression) (b : Statement)
    → s ≡ rust_statement.While at condition body → e ≡ condition.value → b ≡ body.value → While at (term e) (stmt b) ≡ stmt s
while_is s at condition body e b s_is e_is b_is = ap₂ (λ x y. While at (term x) (stmt y)) e_is b_is ∙ ap stmt (sym s_is)

pub do_is : (s : Statement) (at : ℕ) (body : Box Statement Global) (condition : Box Expression Global) (b : Statement)
    → s ≡ rust_statement.DoWhile at body condition → b ≡ body.value → DoWhile at (stmt b) (term condition.value) ≡ stmt s
do_is s at body condition b s_is b_is = ap (λ y. DoWhile at (stmt y) (term condition.value)) b_is ∙ ap stmt (sym s_is)

pub if_else_is : (s : Statement) (at : ℕ) (condition : Box Expression Global) (chosen otherwise : Box Statement Global) (a b : Statement)
    → s ≡ rust_statement.IfElse at condition chosen otherwise → a ≡ chosen.value → b ≡ otherwise.value → IfElse at (term condition.value) (stmt a) (stmt b) ≡ stmt s
if_else_is s at condition chosen otherwise a b s_is a_is b_is = ap₂ (λ x y. IfElse at (term condition.value) (stmt x) (stmt y)) a_is b_is ∙ ap stmt (sym s_is)

for_stmt : (at : ℕ) (first : Option (Box Statement Global)) (condition : Option (Box Expression Global)) (third : Option (Box Statement Global)) (body : Box Statement Global)
    → For at (part_named (option_map (λ s. s.value) first)) (maybe_term condition) (part_named (option_map (λ s. s.value) third)) (stmt body.value) ≡ stmt (rust_statement.For at first condition third body)
for_stmt at None None None body = refl
for_stmt at None None (Some third) body = refl
for_stmt at (Some first) None None body = refl
for_stmt at (Some first) None (Some third) body = refl
for_stmt at None (Some e) None body = refl
for_stmt at None (Some e) (Some third) body = refl
for_stmt at (Some first) (Some e) None body = refl
for_stmt at (Some first) (Some e) (Some third) body = refl

pub for_is : (s : Statement) (at : ℕ) (first : Option (Box Statement Global)) (condition : Option (Box Expression Global)) (third : Option (Box Statement Global)) (body : Box Statement Global)
    (p q : Option (Bor Statement)) (o : MaybeTerm) (b : Statement)
    → s ≡ rust_statement.For at first condition third body → option_map (λ x. x.now) p ≡ option_map (λ x. x.value) first → o ≡ maybe_term condition
    → option_map (λ x. x.now) q ≡ option_map (λ x. x.value) third → b ≡ body.value
    → For at (part_of p) o (part_of q) (stmt b) ≡ stmt s
for_is s at first condition third body p q o b s_is p_is o_is q_is b_is =
    ap₂ (λ x y. For at x o y (stmt b)) (part_is p ∙ ap part_named p_is) (part_is q ∙ ap part_named q_is)
    ∙ ap₂ (λ x y. For at (part_named (option_map (λ s. s.value) first)) x (part_named (option_map (λ s. s.value) third)) (stmt y)) o_is b_is
    ∙ for_stmt at first condition third body ∙ ap stmt (sym s_is)

-- how deep the parts of a `for` are
abbrev depth_named : Option Statement → ℕ
depth_named None = 0
depth_named (Some s) = size-Statement s

part_named_depth : (o : Option (Bor Statement)) → part_depth o ≡ depth_named (option_map (λ s. s.now) o)
part_named_depth None = refl
part_named_depth (Some s) = refl

boxed_named_depth : (o : Option (Box Statement Global)) → boxed_depth o ≡ depth_named (option_map (λ s. s.value) o)
boxed_named_depth None = refl
boxed_named_depth (Some s) = refl

pub part_depth_is : (o : Option (Bor Statement)) (p : Option (Box Statement Global)) → option_map (λ s. s.now) o ≡ option_map (λ s. s.value) p → part_depth o ≡ boxed_depth p
part_depth_is o p e = part_named_depth o ∙ ap depth_named e ∙ sym (boxed_named_depth p)
