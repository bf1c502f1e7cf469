-- Rows of statements and choices from their parts.
use Rattle.std.proofs.Common.{◌≡◌, ℕ, ◌+◌, ◌-◌, List, [], ◌∷◌, ◌++◌, length, Option, ap, ap₂, sym, ◌∙◌, arith}
use Rattle.std.proofs.lemmas.List.{append_assoc, append-nil, length-append}
use Rattle.clnum.specs.declared.int_type.IntType.{IntType}
use Rattle.clmodel.specs.Next.{sites, all_sites}
use Rattle.clmodel.specs.Tree.{Term, Stmt, IfElse, Stmts, ThenStmt}
use Rattle.regcode.specs.declared.instruction.Instruction.{Instruction}
use Rattle.regcode.specs.declared.instruction.Instruction.TheVariants as instruction
use Rattle.lower_expr.specs.Scope.{Scope, free_level}
use Rattle.lower_expr.specs.Expressions.{expr_code, register_for}
use Rattle.lower_code.specs.Variables.{scope_after_all}
use Rattle.lower_code.specs.Code.{Calls, Exits, past, stmt_code, stmts_code, call_code, result_in, if_else_code}
use Rattle.lower_code.specs.Emission.{functions_of, inside, exits_of, statement_code}
use Rattle.lower_code.specs.declared.positions.Exits as declared
use Rattle.lower_code.specs.declared.positions.Position.{Position}
use Rattle.lower_code.specs.declared.holes.StatementContext.{StatementContext}

past_past : (a b : ℕ) (e : Exits) → past a (past b e) ≡ past (a + b) e
past_past a b e =
    let p : a + (b + e.broken) ≡ a + b + e.broken = omega arith in
    let q : a + (b + e.continued) ≡ a + b + e.continued = omega arith in
    let r : a + (b + e.returned) ≡ a + b + e.returned = omega arith in
    ap₂ (λ (x : ℕ) (y : ℕ × ℕ). record { broken = x; continued = y.0; returned = y.1 }) p (ap₂ (λ (x y : ℕ). (x, y)) q r)

-- one statement more at the front of the code of a row
pub row_laid : (calls : Calls) (results : ℕ → Option IntType) (inside : ℕ → ℕ) (result : Option IntType) (scope : Scope) (ss : Stmts) (s : Stmt) (depth site k m : ℕ) (exits : Exits)
    (last code new whole : List Instruction)
    → last ≡ stmt_code calls results inside result (scope_after_all scope ss) s depth (site + all_sites inside ss) (past k exits)
    → whole ≡ stmts_code calls results inside result scope (ThenStmt ss s) depth site (past k exits) ++ code
    → new ≡ last ++ code → m ≡ length last + k
    → whole ≡ stmts_code calls results inside result scope ss depth site (past m exits) ++ new
row_laid calls results inside result scope ss s depth site k m exits last code new whole last_is whole_is new_is m_is =
    let row : Exits → List Instruction = λ e. stmts_code calls results inside result scope ss depth site e in
    let this = stmt_code calls results inside result (scope_after_all scope ss) s depth (site + all_sites inside ss) (past k exits) in
    whole_is
    ∙ append_assoc (row (past (length this) (past k exits))) this code
    ∙ ap (λ xs. row (past (length xs) (past k exits)) ++ (xs ++ code)) (sym last_is)
    ∙ ap₂ (λ e ys. row e ++ ys) (past_past (length last) k exits ∙ ap (λ n. past n exits) (sym m_is)) (sym new_is)

-- how much longer code becomes
pub longer : (xs old new : List Instruction) → new ≡ xs ++ old → length new ≡ length xs + length old
longer xs old new e = ap length e ∙ length-append xs old

pub choice_laid : (test first second old one two three four : List Instruction) (register by over : ℕ)
    → one ≡ second ++ old → by ≡ length one - length old → two ≡ instruction.Jump by ∷ one → three ≡ first ++ two → over ≡ length three - length one
    → four ≡ test ++ (instruction.JumpIfZero register over ∷ three) → four ≡ if_else_code test register first second ++ old
choice_laid test first second old one two three four register by over one_is by_is two_is three_is over_is four_is =
    let size = longer second old one one_is in
    let size_two = ap length two_is in
    let size_three = longer first two three three_is in
    let jump : by ≡ length second = omega (arith, by_is, size) in
    let jumped : over ≡ length first + 1 = omega (arith, over_is, size_two, size_three) in
    let rest = instruction.Jump (length second) ∷ second in
    four_is
    ∙ ap₂ (λ n xs. test ++ (instruction.JumpIfZero register n ∷ xs)) jumped
    (three_is ∙ ap (λ xs. first ++ xs) (two_is ∙ ap₂ (λ n xs. instruction.Jump n ∷ xs) jump one_is) ∙ sym (append_assoc first rest old))
    ∙ sym (append_assoc test (instruction.JumpIfZero register (length first + 1) ∷ (first ++ rest)) old)

pub choice_placed : (s : StatementContext) (scope middle later : Scope) (p : Position) (test : Term) (chosen otherwise : Stmt) (site : ℕ) (exits : declared.Exits) (old one two three four : List Instruction) (by added over : ℕ)
    → site ≡ p.site + sites (inside s.helpers.functions.now) chosen
    → one ≡ statement_code s scope otherwise (record { depth = p.depth; site = site; exits = p.exits }) ++ old
    → middle ≡ scope → later ≡ middle
    → by ≡ length one - length old → two ≡ instruction.Jump by ∷ one
    → added ≡ length two - length old → exits_of exits ≡ past added (exits_of p.exits)
    → three ≡ statement_code s middle chosen (record { depth = p.depth; site = p.site; exits = exits }) ++ two
    → over ≡ length three - length one
    → four ≡ expr_code later (free_level later) test ++ (instruction.JumpIfZero (register_for later (free_level later) test) over ∷ three)
    → four ≡ statement_code s scope (IfElse 0 test chosen otherwise) p ++ old
choice_placed s scope middle later p test chosen otherwise site exits old one two three four by added over site_is one_is middle_is later_is by_is two_is added_is exits_is three_is over_is four_is =
    let code : Scope → Stmt → ℕ → Exits → List Instruction =
    λ c d n e. stmt_code (call_code (functions_of s.helpers.functions.now)) (result_in (functions_of s.helpers.functions.now)) (inside s.helpers.functions.now) s.result c d p.depth n e in
    let second = code scope otherwise (p.site + sites (inside s.helpers.functions.now) chosen) (exits_of p.exits) in
    let first = code scope chosen p.site (past (length second + 1) (exits_of p.exits)) in
    let one_at : one ≡ second ++ old = one_is ∙ ap (λ n. code scope otherwise n (exits_of p.exits) ++ old) site_is in
    let size = longer second old one one_at in
    let size_two = ap length two_is in
    let added_at : added ≡ length second + 1 = omega (arith, added_is, size_two, size) in
    let exits_at : exits_of exits ≡ past (length second + 1) (exits_of p.exits) = exits_is ∙ ap (λ n. past n (exits_of p.exits)) added_at in
    let three_at : three ≡ first ++ two = three_is ∙ ap₂ (λ c e. code c chosen p.site e ++ two) middle_is exits_at in
    let four_at : four ≡ expr_code scope (free_level scope) test ++ (instruction.JumpIfZero (register_for scope (free_level scope) test) over ∷ three) =
    four_is ∙ ap (λ (c : Scope). expr_code c (free_level c) test ++ (instruction.JumpIfZero (register_for c (free_level c) test) over ∷ three)) (later_is ∙ middle_is) in
    choice_laid (expr_code scope (free_level scope) test) first second old one two three four (register_for scope (free_level scope) test) by over one_at by_is two_is three_at over_is four_at

-- code that is put before none
pub begun : (xs old new : List Instruction) → old ≡ [] → new ≡ xs ++ old → new ≡ xs
begun xs old new e n = n ∙ ap (λ ys. xs ++ ys) e ∙ append-nil xs
