-- The tokens of lists that are written item by item.
use Rattle.std.proofs.Common.{◌≡◌, ℕ, suc, ◌+◌, ◌-◌, ◌<◌, ◌≤◌, List, [], ◌∷◌, map, length, take, drop, get_or, Bool, true, false, Option, None, Some, refl, sym, ap, ◌∙◌, Box, Vec, arith}
use Rattle.std.proofs.lemmas.List.{take_all, get_or_default}
use Rattle.std.specs.Prelude.{nat_lt}
use Rattle.std.specs.declared.alloc.Global.{Global}
use Rattle.clmodel.specs.declared.tree.Expression as rust_expression
use Rattle.clmodel.specs.declared.tree.Statement as rust_statement
use Rattle.clmodel.specs.declared.tree.Function as rust_function
use Rattle.clmodel.specs.declared.tree.Parameter.{Parameter}
use Rattle.clmodel.specs.Tree.{Term, Terms, NoTerm, ThenTerm, then_all, term, terms, For, Stmts, NoStmt, ThenStmt, then_stmts, stmt, maybe_term, Funcs, NoFunc, ThenFunc, func, then_funcs}
use Rattle.clmodel.specs.declared.tree.InfixOperator.{InfixOperator}
use Rattle.clnum.specs.declared.int_type.IntType.TheVariants.{Char}
use Rattle.clmodel.specs.declared.tree.VariableType.{VariableType}
use Rattle.clmodel.specs.declared.tree.VariableType.TheVariants.{Integer}
use Rattle.clsyntax_lex.specs.declared.token.TokenKind.{TokenKind}
use Rattle.clsyntax_lex.specs.declared.token.TokenKind.TheVariants as kinds
use Rattle.clsyntax_terms.specs.Grammar.{level}
use Rattle.clsyntax_print.specs.Printing.{Kinds, infix_kind, bracketed, with_token, print_term, print_terms, print_simple, print_part, print_condition, print_stmt, print_stmts, print_parameter, print_parameters, print_func, print_funcs}
use Rattle.clsyntax_print.specs.Writing.{part_of}
use Rattle.clmodel.proofs.Trees.{call_view, block_view}

-- a comma and an expression, for each
abbrev pub behind_commas : List rust_expression.Expression → Kinds → Kinds
behind_commas [] rest = rest
behind_commas (e ∷ es) rest = kinds.Comma ∷ print_term 0 (term e) (behind_commas es rest)

terms_behind : (ts : Terms) (d : Term) (es : List rust_expression.Expression) (rest : Kinds) → print_terms (then_all (ThenTerm ts d) (map term es)) rest ≡ print_terms (ThenTerm ts d) (behind_commas es rest)
terms_behind ts d [] rest = refl
terms_behind ts d (e ∷ es) rest = terms_behind (ThenTerm ts d) (term e) es rest

terms_commas : (e : rust_expression.Expression) (es : List rust_expression.Expression) (rest : Kinds) → print_terms (terms (e ∷ es)) rest ≡ print_term 0 (term e) (behind_commas es rest)
terms_commas e es rest = terms_behind NoTerm (term e) es rest

-- a list is its first item and the rest
first_rest : {A : Type 0} (xs : List A) (x : A) → x ≡ get_or xs 0 x → 1 ≤ length xs → xs ≡ x ∷ take (length xs - 1) (drop 1 xs)
first_rest [] x is h = absurd (omega arith)
first_rest (y ∷ ys) x is h = ap (λ z. z ∷ ys) (sym is) ∙ ap (λ zs. x ∷ zs) (sym (take_all (length (y ∷ ys) - 1) ys (omega arith)))

pub terms_first : (es : List rust_expression.Expression) (e : rust_expression.Expression) → e ≡ get_or es 0 e → 1 ≤ length es → (rest : Kinds)
    → print_terms (terms es) rest ≡ print_term 0 (term e) (behind_commas (take (length es - 1) (drop 1 es)) rest)
terms_first es e is h rest = ap (λ ds. print_terms (terms ds) rest) (first_rest es e is h) ∙ terms_commas e (take (length es - 1) (drop 1 es)) rest

-- a call is of its arguments
pub term_call : (wanted at name : ℕ) (e : rust_expression.Expression) (es : Vec rust_expression.Expression Global) (ds : List rust_expression.Expression) (rest : Kinds) → e ≡ rust_expression.Call at name es → ds ≡ es.items
    → print_term wanted (term e) rest ≡ kinds.Name name ∷ kinds.OpenRound ∷ print_terms (terms ds) (kinds.CloseRound ∷ rest)
term_call wanted at name e es ds rest is same =
    ap (λ d. print_term wanted (term d) rest) is ∙ ap (λ d. print_term wanted d rest) (call_view at name es) ∙ ap (λ xs. kinds.Name name ∷ kinds.OpenRound ∷ print_terms (terms xs) (kinds.CloseRound ∷ rest)) (sym same)

pub simple_call : (at name : ℕ) (s : rust_statement.Statement) (es : Vec rust_expression.Expression Global) (ds : List rust_expression.Expression) (rest : Kinds) → s ≡ rust_statement.Call at name es → ds ≡ es.items
    → print_simple (stmt s) rest ≡ kinds.Name name ∷ kinds.OpenRound ∷ print_terms (terms ds) (kinds.CloseRound ∷ rest)
simple_call at name s es ds rest is same = rw (is, same) refl

-- round brackets, where they are needed
pub in_brackets : (needed : Bool) (print : Kinds → Kinds) (rest : Kinds) → bracketed needed print rest ≡ with_token needed kinds.OpenRound (print (with_token needed kinds.CloseRound rest))
in_brackets true print rest = refl
in_brackets false print rest = refl

pub term_binary : (wanted own at : ℕ) (op : InfixOperator) (k : TokenKind) (e d f : rust_expression.Expression) (left right : Box rust_expression.Expression Global) (rest : Kinds)
    → e ≡ rust_expression.Binary at op left right → own ≡ level op → d ≡ left.value → f ≡ right.value → k ≡ infix_kind op
    → print_term wanted (term e) rest ≡ with_token (nat_lt own wanted) kinds.OpenRound (print_term own (term d) (k ∷ print_term (own + 1) (term f) (with_token (nat_lt own wanted) kinds.CloseRound rest)))
term_binary wanted own at op k e d f left right rest is own_is d_is f_is k_is =
    let next : own + 1 ≡ suc own = omega arith in
    rw (is, d_is, f_is, k_is, next, own_is) (in_brackets (nat_lt (level op) wanted) (λ more. print_term (level op) (term left.value) (infix_kind op ∷ print_term (suc (level op)) (term right.value) more)) rest)

pub term_choice : (wanted at : ℕ) (e d f g : rust_expression.Expression) (condition chosen otherwise : Box rust_expression.Expression Global) (rest : Kinds)
    → e ≡ rust_expression.Choice at condition chosen otherwise → d ≡ condition.value → f ≡ chosen.value → g ≡ otherwise.value
    → print_term wanted (term e) rest ≡ with_token (nat_lt 0 wanted) kinds.OpenRound (print_term 1 (term d) (kinds.Question ∷ print_term 0 (term f) (kinds.Colon ∷ print_term 0 (term g) (with_token (nat_lt 0 wanted) kinds.CloseRound rest))))
term_choice wanted at e d f g condition chosen otherwise rest is d_is f_is g_is =
    rw (is, d_is, f_is, g_is) (in_brackets (nat_lt 0 wanted) (λ more. print_term 1 (term condition.value) (kinds.Question ∷ print_term 0 (term chosen.value) (kinds.Colon ∷ print_term 0 (term otherwise.value) more))) rest)

-- statements, one after another
abbrev pub print_each : List rust_statement.Statement → Kinds → Kinds
print_each [] rest = rest
print_each (s ∷ ss) rest = print_stmt (stmt s) (print_each ss rest)

stmts_behind : (before : Stmts) (ss : List rust_statement.Statement) (rest : Kinds) → print_stmts (then_stmts before (map stmt ss)) rest ≡ print_stmts before (print_each ss rest)
stmts_behind before [] rest = refl
stmts_behind before (s ∷ ss) rest = stmts_behind (ThenStmt before (stmt s)) ss rest

pub stmts_each : (ss : List rust_statement.Statement) (rest : Kinds) → print_stmts (then_stmts NoStmt (map stmt ss)) rest ≡ print_each ss rest
stmts_each ss rest = stmts_behind NoStmt ss rest

-- a block is of its statements
pub stmt_block : (at : ℕ) (s : rust_statement.Statement) (ss : Vec rust_statement.Statement Global) (ts : List rust_statement.Statement) (rest : Kinds) → s ≡ rust_statement.Block at ss → ts ≡ ss.items
    → print_stmt (stmt s) rest ≡ kinds.OpenBrace ∷ print_stmts (then_stmts NoStmt (map stmt ts)) (kinds.CloseBrace ∷ rest)
stmt_block at s ss ts rest is same =
    ap (λ t. print_stmt (stmt t) rest) is ∙ ap (λ t. print_stmt t rest) (block_view at ss) ∙ ap (λ xs. kinds.OpenBrace ∷ print_stmts (then_stmts NoStmt (map stmt xs)) (kinds.CloseBrace ∷ rest)) (sym same)

-- a `for` is of its parts
for_parts : (at : ℕ) (first third : Option (Box rust_statement.Statement Global)) (condition : Option (Box rust_expression.Expression Global)) (body : Box rust_statement.Statement Global)
    → stmt (rust_statement.For at first condition third body) ≡ For at (part_of first) (maybe_term condition) (part_of third) (stmt body.value)
for_parts at None None condition body = refl
for_parts at None (Some third) condition body = refl
for_parts at (Some first) None condition body = refl
for_parts at (Some first) (Some third) condition body = refl

pub stmt_for : (at : ℕ) (first third : Option (Box rust_statement.Statement Global)) (condition : Option (Box rust_expression.Expression Global)) (body : Box rust_statement.Statement Global) (s t : rust_statement.Statement) (rest : Kinds)
    → s ≡ rust_statement.For at first condition third body → t ≡ body.value
    → print_stmt (stmt s) rest
    ≡ kinds.For ∷ kinds.OpenRound ∷ print_part (part_of first) (kinds.Semicolon ∷ print_condition (maybe_term condition) (kinds.Semicolon ∷ print_part (part_of third) (kinds.CloseRound ∷ print_stmt (stmt t) rest)))
stmt_for at first third condition body s t rest is same =
    ap (λ u. print_stmt (stmt u) rest) is
    ∙ ap (λ u. print_stmt u rest) (for_parts at first third condition body)
    ∙ ap (λ u. kinds.For ∷ kinds.OpenRound ∷ print_part (part_of first) (kinds.Semicolon ∷ print_condition (maybe_term condition) (kinds.Semicolon ∷ print_part (part_of third) (kinds.CloseRound ∷ print_stmt (stmt u) rest)))) (sym same)

-- a declaration, an assignment, a step or a call ends with a semicolon
pub declares : (at name_at name : ℕ) (kind : VariableType) (value : Option (Box rust_expression.Expression Global)) (s : rust_statement.Statement) (rest : Kinds) → s ≡ rust_statement.Declare at kind name_at name value
    → print_stmt (stmt s) rest ≡ print_simple (stmt s) (kinds.Semicolon ∷ rest)
declares at name_at name kind None s rest is = rw is refl
declares at name_at name kind (Some value) s rest is = rw is refl

-- a comma and a parameter, for each
abbrev pub parameters_behind : List Parameter → Kinds → Kinds
parameters_behind [] rest = rest
parameters_behind (p ∷ ps) rest = kinds.Comma ∷ print_parameter p (parameters_behind ps rest)

parameters_commas : (p : Parameter) (ps : List Parameter) (rest : Kinds) → print_parameters (p ∷ ps) rest ≡ print_parameter p (parameters_behind ps rest)
parameters_commas p [] rest = refl
parameters_commas p (q ∷ qs) rest = ap (λ more. print_parameter p (kinds.Comma ∷ more)) (parameters_commas q qs rest)

-- what is read past the end
abbrev pub no_parameter : Parameter
no_parameter = record { name_at = 0; name = 0; kind = Integer Char }

pub item_of : (ps : List Parameter) (i : ℕ) → i < length ps → get_or ps i no_parameter ≡ get_or ps i (get_or ps i no_parameter)
item_of ps i h = get_or_default ps i no_parameter (get_or ps i no_parameter) h

pub parameters_first : (ps : List Parameter) → 1 ≤ length ps → (rest : Kinds)
    → print_parameters ps rest ≡ print_parameter (get_or ps 0 no_parameter) (parameters_behind (take (length ps - 1) (drop 1 ps)) rest)
parameters_first ps h rest =
    let first = get_or ps 0 no_parameter in
    ap (λ qs. print_parameters qs rest) (first_rest ps first (item_of ps 0 (omega arith)) h) ∙ parameters_commas first (take (length ps - 1) (drop 1 ps)) rest

-- functions, one after another
abbrev pub functions_each : List rust_function.Function → Kinds → Kinds
functions_each [] rest = rest
functions_each (f ∷ fs) rest = print_func (func f) (functions_each fs rest)

funcs_behind : (before : Funcs) (fs : List rust_function.Function) (rest : Kinds) → print_funcs (then_funcs before (map func fs)) rest ≡ print_funcs before (functions_each fs rest)
funcs_behind before [] rest = refl
funcs_behind before (f ∷ fs) rest = funcs_behind (ThenFunc before (func f)) fs rest

pub funcs_each : (fs : List rust_function.Function) (rest : Kinds) → print_funcs (then_funcs NoFunc (map func fs)) rest ≡ functions_each fs rest
funcs_each fs rest = funcs_behind NoFunc fs rest
