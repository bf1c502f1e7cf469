-- Offsets are not printed.
use Rattle.std.proofs.Common.{◌≡◌, ℕ, suc, List, [], ◌∷◌, map, Bool, refl, sym, ◌∙◌, ap}
use Rattle.std.specs.Prelude.{nat_lt}
use Rattle.clmodel.specs.declared.tree.Parameter.{Parameter}
use Rattle.clmodel.specs.Tree.{Term, Number, Variable, Element, ElementAddress, Dereference, Call, Unary, Cast, Binary, Choice, Terms, NoTerm, ThenTerm, Target, TargetVariable, TargetElement, TargetDereference, Stmt, Empty, Block, Declare, DeclareAs, DeclareArray, Assign, Step, CallOnly, If, IfElse, While, DoWhile, For, Break, Continue, Return, ReturnValue, MaybeStmt, Without, With, MaybeTerm, WithoutTerm, WithTerm, Stmts, NoStmt, ThenStmt, Func, Funcs, NoFunc, ThenFunc}
use Rattle.clsyntax_lex.specs.declared.token.TokenKind.TheVariants as kinds
use Rattle.clsyntax_terms.specs.Grammar.{level, tight}
use Rattle.clsyntax_print.specs.Printing.{plain_term, plain_terms, plain_target, plain_maybe_term, plain_stmt, plain_stmts, plain_maybe_stmt, plain_parameter, plain_func, plain_funcs, Kinds, infix_kind, unary_kind, assign_kind, step_kind, bracketed, print_term, print_terms, print_target, print_type, print_simple, print_part, print_condition, with_token, print_stmt, print_stmts, print_parameter, print_parameters, result_kind, print_func, print_funcs, printed}

mutual
  term_plain : (l : ℕ) (e : Term) (rest : Kinds) → print_term l e rest ≡ print_term l (plain_term e) rest
  term_plain l (Number at v) rest = refl
  term_plain l (Variable at x) rest = refl
  term_plain l (Element at x e) rest = ap (λ ks. kinds.Name x ∷ kinds.OpenSquare ∷ ks) (term_plain 0 e (kinds.CloseSquare ∷ rest))
  term_plain l (ElementAddress at b x e) rest = ap (λ ks. kinds.And ∷ kinds.Name x ∷ kinds.OpenSquare ∷ ks) (term_plain 0 e (kinds.CloseSquare ∷ rest))
  term_plain l (Dereference at e) rest = ap (λ ks. kinds.Star ∷ ks) (term_plain tight e rest)
  term_plain l (Call at x es) rest = ap (λ ks. kinds.Name x ∷ kinds.OpenRound ∷ ks) (terms_plain es (kinds.CloseRound ∷ rest))
  term_plain l (Unary at op e) rest = ap (λ ks. unary_kind op ∷ ks) (term_plain tight e rest)
  term_plain l (Cast at type e) rest = ap (λ ks. kinds.OpenRound ∷ kinds.Type type ∷ kinds.CloseRound ∷ ks) (term_plain tight e rest)
  term_plain l (Binary at op d e) rest = λ i. bracketed (nat_lt (level op) l) (λ more. (term_plain (level op) d (infix_kind op ∷ print_term (suc (level op)) e more)
      ∙ ap (λ ks. print_term (level op) (plain_term d) (infix_kind op ∷ ks)) (term_plain (suc (level op)) e more)) i) rest
  term_plain l (Choice at c d e) rest = λ i. bracketed (nat_lt 0 l) (λ more. (term_plain 1 c (kinds.Question ∷ print_term 0 d (kinds.Colon ∷ print_term 0 e more))
      ∙ ap (λ ks. print_term 1 (plain_term c) (kinds.Question ∷ ks)) (term_plain 0 d (kinds.Colon ∷ print_term 0 e more)
      ∙ ap (λ ks. print_term 0 (plain_term d) (kinds.Colon ∷ ks)) (term_plain 0 e more))) i) rest

  terms_plain : (es : Terms) (rest : Kinds) → print_terms es rest ≡ print_terms (plain_terms es) rest
  terms_plain NoTerm rest = refl
  terms_plain (ThenTerm NoTerm e) rest = term_plain 0 e rest
  terms_plain (ThenTerm (ThenTerm es d) e) rest =
      terms_plain (ThenTerm es d) (kinds.Comma ∷ print_term 0 e rest) ∙ ap (λ ks. print_terms (plain_terms (ThenTerm es d)) (kinds.Comma ∷ ks)) (term_plain 0 e rest)

target_plain : (p : Target) (rest : Kinds) → print_target p rest ≡ print_target (plain_target p) rest
target_plain (TargetVariable at x) rest = refl
target_plain (TargetElement at x e) rest = ap (λ ks. kinds.Name x ∷ kinds.OpenSquare ∷ ks) (term_plain 0 e (kinds.CloseSquare ∷ rest))
target_plain (TargetDereference at e) rest = ap (λ ks. kinds.Star ∷ ks) (term_plain tight e rest)

simple_plain : (s : Stmt) (rest : Kinds) → print_simple s rest ≡ print_simple (plain_stmt s) rest
simple_plain (DeclareAs at kind b x e) rest = ap (λ ks. print_type kind (kinds.Name x ∷ kinds.Assign ∷ ks)) (term_plain 0 e rest)
simple_plain (Assign at p op e) rest = target_plain p (assign_kind op ∷ print_term 0 e rest) ∙ ap (λ ks. print_target (plain_target p) (assign_kind op ∷ ks)) (term_plain 0 e rest)
simple_plain (Step at p is_increment) rest = ap (λ ks. step_kind is_increment ∷ ks) (target_plain p rest)
simple_plain (CallOnly at x es) rest = ap (λ ks. kinds.Name x ∷ kinds.OpenRound ∷ ks) (terms_plain es (kinds.CloseRound ∷ rest))
simple_plain _ rest = refl

part_plain : (s : MaybeStmt) (rest : Kinds) → print_part s rest ≡ print_part (plain_maybe_stmt s) rest
part_plain Without rest = refl
part_plain (With s) rest = simple_plain s rest

condition_plain : (e : MaybeTerm) (rest : Kinds) → print_condition e rest ≡ print_condition (plain_maybe_term e) rest
condition_plain WithoutTerm rest = refl
condition_plain (WithTerm e) rest = term_plain 0 e rest

mutual
  stmt_plain : (s : Stmt) (rest : Kinds) → print_stmt s rest ≡ print_stmt (plain_stmt s) rest
  stmt_plain (Empty at) rest = refl
  stmt_plain (Block at ss) rest = ap (λ ks. kinds.OpenBrace ∷ ks) (stmts_plain ss (kinds.CloseBrace ∷ rest))
  stmt_plain (If at e s) rest = ap (λ ks. kinds.If ∷ kinds.OpenRound ∷ ks) (term_plain 0 e (kinds.CloseRound ∷ print_stmt s rest)
      ∙ ap (λ ks. print_term 0 (plain_term e) (kinds.CloseRound ∷ ks)) (stmt_plain s rest))
  stmt_plain (IfElse at e s t) rest = ap (λ ks. kinds.If ∷ kinds.OpenRound ∷ ks) (term_plain 0 e (kinds.CloseRound ∷ print_stmt s (kinds.Else ∷ print_stmt t rest))
      ∙ ap (λ ks. print_term 0 (plain_term e) (kinds.CloseRound ∷ ks)) (stmt_plain s (kinds.Else ∷ print_stmt t rest)
      ∙ ap (λ ks. print_stmt (plain_stmt s) (kinds.Else ∷ ks)) (stmt_plain t rest)))
  stmt_plain (While at e s) rest = ap (λ ks. kinds.While ∷ kinds.OpenRound ∷ ks) (term_plain 0 e (kinds.CloseRound ∷ print_stmt s rest)
      ∙ ap (λ ks. print_term 0 (plain_term e) (kinds.CloseRound ∷ ks)) (stmt_plain s rest))
  stmt_plain (DoWhile at s e) rest = ap (λ ks. kinds.Do ∷ ks) (stmt_plain s (kinds.While ∷ kinds.OpenRound ∷ print_term 0 e (kinds.CloseRound ∷ kinds.Semicolon ∷ rest))
      ∙ ap (λ ks. print_stmt (plain_stmt s) (kinds.While ∷ kinds.OpenRound ∷ ks)) (term_plain 0 e (kinds.CloseRound ∷ kinds.Semicolon ∷ rest)))
  stmt_plain (For at first e third s) rest =
      ap (λ ks. kinds.For ∷ kinds.OpenRound ∷ ks) (part_plain first (kinds.Semicolon ∷ print_condition e (kinds.Semicolon ∷ print_part third (kinds.CloseRound ∷ print_stmt s rest)))
      ∙ ap (λ ks. print_part (plain_maybe_stmt first) (kinds.Semicolon ∷ ks)) (condition_plain e (kinds.Semicolon ∷ print_part third (kinds.CloseRound ∷ print_stmt s rest))
      ∙ ap (λ ks. print_condition (plain_maybe_term e) (kinds.Semicolon ∷ ks)) (part_plain third (kinds.CloseRound ∷ print_stmt s rest)
      ∙ ap (λ ks. print_part (plain_maybe_stmt third) (kinds.CloseRound ∷ ks)) (stmt_plain s rest))))
  stmt_plain (Break at) rest = refl
  stmt_plain (Continue at) rest = refl
  stmt_plain (Return at) rest = refl
  stmt_plain (ReturnValue at e) rest = ap (λ ks. kinds.Return ∷ ks) (term_plain 0 e (kinds.Semicolon ∷ rest))
  stmt_plain (Declare at kind b x) rest = refl
  stmt_plain (DeclareAs at kind b x e) rest = simple_plain (DeclareAs at kind b x e) (kinds.Semicolon ∷ rest)
  stmt_plain (DeclareArray at is_local type b x c v) rest = refl
  stmt_plain (Assign at p op e) rest = simple_plain (Assign at p op e) (kinds.Semicolon ∷ rest)
  stmt_plain (Step at p is_increment) rest = simple_plain (Step at p is_increment) (kinds.Semicolon ∷ rest)
  stmt_plain (CallOnly at x es) rest = simple_plain (CallOnly at x es) (kinds.Semicolon ∷ rest)

  stmts_plain : (ss : Stmts) (rest : Kinds) → print_stmts ss rest ≡ print_stmts (plain_stmts ss) rest
  stmts_plain NoStmt rest = refl
  stmts_plain (ThenStmt ss s) rest = stmts_plain ss (print_stmt s rest) ∙ ap (print_stmts (plain_stmts ss)) (stmt_plain s rest)

parameters_plain : (ps : List Parameter) (rest : Kinds) → print_parameters ps rest ≡ print_parameters (map plain_parameter ps) rest
parameters_plain [] rest = refl
parameters_plain (p ∷ []) rest = refl
parameters_plain (p ∷ q ∷ ps) rest = ap (λ ks. print_parameter p (kinds.Comma ∷ ks)) (parameters_plain (q ∷ ps) rest)

func_plain : (f : Func) (rest : Kinds) → print_func f rest ≡ print_func (plain_func f) rest
func_plain f rest =
    ap (λ ks. with_token f.is_kernel kinds.Kernel (result_kind f.result ∷ kinds.Name f.name ∷ kinds.OpenRound ∷ ks))
    (parameters_plain f.parameters (kinds.CloseRound ∷ kinds.OpenBrace ∷ print_stmts f.body (kinds.CloseBrace ∷ rest))
    ∙ ap (λ ks. print_parameters (map plain_parameter f.parameters) (kinds.CloseRound ∷ kinds.OpenBrace ∷ ks)) (stmts_plain f.body (kinds.CloseBrace ∷ rest)))

funcs_plain : (fs : Funcs) (rest : Kinds) → print_funcs fs rest ≡ print_funcs (plain_funcs fs) rest
funcs_plain NoFunc rest = refl
funcs_plain (ThenFunc fs f) rest = funcs_plain fs (print_func f rest) ∙ ap (print_funcs (plain_funcs fs)) (func_plain f rest)

-- functions that are the same but for offsets are printed alike
pub printed_alike : (fs gs : Funcs) → plain_funcs fs ≡ plain_funcs gs → printed fs ≡ printed gs
printed_alike fs gs same = funcs_plain fs [] ∙ ap printed same ∙ sym (funcs_plain gs [])
