-- What is left of code and of a scope that were lent, where memory is refused among statements.
use Rattle.std.proofs.Common.{◌≡◌, ℕ, ◌+◌, ◌-◌, ◌<◌, ◌++◌, List, length, take, get_or, refl, ap, ◌∙◌, arith}
use Rattle.clmodel.specs.Tree.{Stmt, MaybeStmt, Without, With, MaybeTerm, NoStmt, ThenStmt, stmt}
use Rattle.clmodel.specs.declared.tree.Statement.{Statement}
use Rattle.regcode.specs.declared.instruction.Instruction.{Instruction}
use Rattle.lower_expr.specs.Scope.{Scope}
use Rattle.lower_code.specs.Code.{condition_code, while_code}
use Rattle.lower_code.specs.Growth.{GrowsBefore, KeepsOuter}
use Rattle.lower_code.specs.Trees.{all_of}
use Rattle.lower_code.specs.Variables.{scope_after, scope_after_part, scope_after_all}
use Rattle.lower_code.specs.declared.holes.StatementContext.{StatementContext}
use Rattle.lower_code.specs.declared.positions.Position.{Position}
use Rattle.lower_code.proofs.Growth.{before, after_statements}
use Rattle.lower_code.proofs.Trees.{row_more}
use Rattle.lower.specs.Statements.{round_code}

-- the variable of a part of a `for` has been declared
pub after_part : (old one : Scope) (part : MaybeStmt) → one ≡ scope_after_part old part → KeepsOuter old one
after_part old one Without e = after_statements old one one NoStmt e refl
after_part old one (With s) e = after_statements old one one (ThenStmt NoStmt s) e refl

-- the variables of all statements but the last i have been declared, and that of the last of these is left
pub left_statement : (start old left : Scope) (ss : List Statement) (i : ℕ) (x : Statement) → i < length ss → x ≡ get_or ss (length ss - 1 - i) x
    → old ≡ scope_after_all start (all_of (take (length ss - i) ss)) → ((before : Scope) → old ≡ scope_after before (stmt x) → left ≡ before)
    → KeepsOuter start left
left_statement start old left ss i x h is e leave =
    let place = length ss - 1 - i in
    let below : place < length ss = omega (arith, h) in
    let now : length ss - i ≡ place + 1 = omega (arith, h) in
    let more : all_of (take (length ss - i) ss) ≡ ThenStmt (all_of (take place ss)) (stmt x) = ap (λ m. all_of (take m ss)) now ∙ row_more ss place x below is in
    let inner : left ≡ scope_after_all start (all_of (take place ss)) = leave (scope_after_all start (all_of (take place ss))) (e ∙ ap (λ r. scope_after_all start r) more) in
    after_statements start left left (all_of (take place ss)) inner refl

-- a `for` without its first part has been put before the code
pub after_turns : (s : StatementContext) (scope : Scope) (test : MaybeTerm) (third : MaybeStmt) (body : Stmt) (p : Position) (old one new : List Instruction)
    → one ≡ while_code p.depth (round_code s scope third body p (length (condition_code scope test))) (condition_code scope test) ++ old
    → GrowsBefore one new → GrowsBefore old new
after_turns s scope test third body p old one new e h =
    before old one new (while_code p.depth (round_code s scope third body p (length (condition_code scope test))) (condition_code scope test)) e h
