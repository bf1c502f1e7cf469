-- The tokens that a program is printed as have the program's names and numbers.
use Rattle.std.proofs.Common.{◌≡◌, ℕ, suc, List, [], ◌∷◌, Bool, true, false, Option, Some, None, refl, sym, ◌∙◌, ap}
use Rattle.std.specs.Prelude.{nat_lt}
use Rattle.clnum.specs.declared.int_type.IntType.{IntType}
use Rattle.clnum.specs.declared.operators.UnaryOperator.{UnaryOperator}
use Rattle.clnum.specs.declared.operators.UnaryOperator.TheVariants as unary_operators
use Rattle.clnum.specs.declared.operators.BinaryOperator.{BinaryOperator}
use Rattle.clmodel.specs.declared.tree.InfixOperator.{InfixOperator}
use Rattle.clmodel.specs.Tree.{Term, Terms, NoTerm, ThenTerm}
use Rattle.clsyntax_lex.specs.declared.token.TokenKind.{TokenKind}
use Rattle.clsyntax_lex.specs.declared.token.TokenKind.TheVariants as kinds
use Rattle.clsyntax_terms.specs.Grammar as grammar
use Rattle.clsyntax_terms.specs.Grammar.{Placed, start, level, tight, Prefix, Operator, Fetch, Convert, prefixed_by, prefix_of, infix_of, type_of, assign_of, step_of, with_body, Goal, Expr, Arguments, Assignee, Simple, Statement, Typing, Declaration, Items, OneParameter, Parameters, Heading, Program, Reads, number, variable, element, address, bare_call, call, round, operator, cast, prefixed, binary, choice, one_argument, next_argument, variable_target, element_target, dereference_target, assign, step_before, step_behind, bare_call_only, call_only, simple, empty, block, if_only, if_else, while_loop, do_loop, for_loop, no_initial, simple_initial, declared_initial, no_condition, condition, no_final, simple_final, break_only, continue_only, return_only, return_value, integer, pointer, const_pointer, declare, declare_as, array, local_array, no_items, statement, declaration, parameter, first_parameter, next_parameter, kernel, void, typed, bare_heading, heading, no_functions, function}
use Rattle.clsyntax.specs.Correct.{tokens}
use Rattle.clsyntax_lex.specs.Printed.{kinds_of}
use Rattle.clsyntax_print.specs.Printing.{Kinds, infix_kind, unary_kind, assign_kind, step_kind, bracketed, print_term, print_terms, print_target, print_type, with_token, print_simple, print_part, print_condition, print_stmt, print_stmts, print_parameter, print_parameters, result_kind, print_func, print_funcs, with_word, words_in, HasWords}
use Rattle.clsyntax_print.proofs.PrintedTerms.{IsSome, infix_infix}
use Rattle.clsyntax_print.proofs.PrintedStatements.{assign_assign, simple_ended}
use Rattle.clsyntax_print.proofs.PrintedPrograms.{some_parameter, print_next, print_head}

-- the words of placed tokens
abbrev words : List Placed → Kinds
words ps = words_in (kinds_of (tokens ps))

-- ---- operators and types are no words

infix_is_none : (k : TokenKind) (op : InfixOperator) (ws : Kinds) → infix_of k ≡ Some op → with_word k ws ≡ ws
infix_is_none (kinds.Name x) op ws e = let clash : None ≡ Some op = e in absurd cc
infix_is_none (kinds.Number v) op ws e = let clash : None ≡ Some op = e in absurd cc
infix_is_none _ op ws e = refl

prefix_is_none : (k : TokenKind) (p : Prefix) (ws : Kinds) → prefix_of k ≡ Some p → with_word k ws ≡ ws
prefix_is_none (kinds.Name x) p ws e = let clash : None ≡ Some p = e in absurd cc
prefix_is_none (kinds.Number v) p ws e = let clash : None ≡ Some p = e in absurd cc
prefix_is_none _ p ws e = refl

type_is_none : (u : Bool) (k : TokenKind) (type : IntType) (ws : Kinds) → type_of u k ≡ Some type → with_word k ws ≡ ws
type_is_none true (kinds.Name x) type ws e = let clash : None ≡ Some type = e in absurd cc
type_is_none false (kinds.Name x) type ws e = let clash : None ≡ Some type = e in absurd cc
type_is_none true (kinds.Number v) type ws e = let clash : None ≡ Some type = e in absurd cc
type_is_none false (kinds.Number v) type ws e = let clash : None ≡ Some type = e in absurd cc
type_is_none u _ type ws e = refl

assign_is_none : (k : TokenKind) (op : Option BinaryOperator) (ws : Kinds) → assign_of k ≡ Some op → with_word k ws ≡ ws
assign_is_none (kinds.Name x) op ws e = let clash : None ≡ Some op = e in absurd cc
assign_is_none (kinds.Number v) op ws e = let clash : None ≡ Some op = e in absurd cc
assign_is_none _ op ws e = refl

step_is_none : (k : TokenKind) (up : Bool) (ws : Kinds) → step_of k ≡ Some up → with_word k ws ≡ ws
step_is_none (kinds.Name x) up ws e = let clash : None ≡ Some up = e in absurd cc
step_is_none (kinds.Number v) up ws e = let clash : None ≡ Some up = e in absurd cc
step_is_none _ up ws e = refl

step_kind_is_none : (up : Bool) (ws : Kinds) → ws ≡ with_word (step_kind up) ws
step_kind_is_none true ws = refl
step_kind_is_none false ws = refl

unary_kind_is_none : (op : UnaryOperator) (ws : Kinds) → ws ≡ with_word (unary_kind op) ws
unary_kind_is_none unary_operators.Plus ws = refl
unary_kind_is_none unary_operators.Negate ws = refl
unary_kind_is_none unary_operators.Complement ws = refl
unary_kind_is_none unary_operators.Not ws = refl

-- ---- the rules

in_brackets : (b : Bool) (print : Kinds → Kinds) (rest ws : Kinds) → ((more : Kinds) → words_in more ≡ words_in rest → ws ≡ words_in (print more)) → ws ≡ words_in (bracketed b print rest)
in_brackets true print rest ws h = h (kinds.CloseRound ∷ rest) refl
in_brackets false print rest ws h = h rest refl

behind_prefix : (p : Prefix) (at j : ℕ) (e : Term) (rest ws : Kinds) → ws ≡ words_in (print_term tight e rest) → ws ≡ words_in (print_term j (prefixed_by p at e) rest)
behind_prefix (Operator op) at j e rest ws h = h ∙ unary_kind_is_none op (words_in (print_term tight e rest))
behind_prefix Fetch at j e rest ws h = h
behind_prefix (Convert type) at j e rest ws h = h

some_argument : {n : ℕ} {es : Terms} {ps qs : List Placed} → Reads (Arguments n es) ps qs → IsSome es
some_argument (one_argument r) = tt
some_argument (next_argument r q) = tt

terms_then : (es : Terms) (e : Term) (rest : Kinds) → IsSome es → print_terms es (kinds.Comma ∷ print_term 0 e rest) ≡ print_terms (ThenTerm es e) rest
terms_then NoTerm e rest h = absurd h
terms_then (ThenTerm es d) e rest h = refl

-- the printed words of a goal's tree are those of its tokens, whatever words follow
abbrev Claim : Goal → List Placed → List Placed → Type 0
Claim (grammar.Before n p) ps qs = words ps ≡ words qs
Claim (Expr l n e m) ps qs = (j : ℕ) (rest : Kinds) → words qs ≡ words_in rest → words ps ≡ words_in (print_term j e rest)
Claim (Arguments n es) ps qs = (rest : Kinds) → words qs ≡ words_in rest → words ps ≡ words_in (print_terms es rest)
Claim (Assignee n t) ps qs = (rest : Kinds) → words qs ≡ words_in rest → words ps ≡ words_in (print_target t rest)
Claim (Simple n s) ps qs = (rest : Kinds) → words qs ≡ words_in rest → words ps ≡ words_in (print_simple s rest)
Claim (Statement n s) ps qs = (rest : Kinds) → words qs ≡ words_in rest → words ps ≡ words_in (print_stmt s rest)
Claim (Typing u n kind) ps qs = (rest : Kinds) → words qs ≡ words_in rest → words ps ≡ words_in (print_type kind rest)
Claim (Declaration n s) ps qs = (rest : Kinds) → words qs ≡ words_in rest → words ps ≡ words_in (print_stmt s rest)
Claim (Items n ss) ps qs = (rest : Kinds) → words qs ≡ words_in rest → words ps ≡ words_in (print_stmts ss rest)
Claim (grammar.Initial n i) ps qs = (rest : Kinds) → words qs ≡ words_in rest → words ps ≡ words_in (print_part i (kinds.Semicolon ∷ rest))
Claim (grammar.Condition n c) ps qs = (rest : Kinds) → words qs ≡ words_in rest → words ps ≡ words_in (print_condition c (kinds.Semicolon ∷ rest))
Claim (grammar.Final n f) ps qs = (rest : Kinds) → words qs ≡ words_in rest → words ps ≡ words_in (print_part f (kinds.CloseRound ∷ rest))
Claim (OneParameter u p) ps qs = (rest : Kinds) → words qs ≡ words_in rest → words ps ≡ words_in (print_parameter p rest)
Claim (Parameters u xs) ps qs = (rest : Kinds) → words qs ≡ words_in rest → words ps ≡ words_in (print_parameters xs rest)
Claim (grammar.Returning b r) ps qs = (rest : Kinds) → words qs ≡ words_in rest → words ps ≡ words_in (with_token b kinds.Kernel (result_kind r ∷ rest))
Claim (Heading h) ps qs = (rest : Kinds) → words qs ≡ words_in rest → words ps ≡ words_in (print_head h rest)
Claim (Program fs) ps qs = (rest : Kinds) → words qs ≡ words_in rest → words ps ≡ words_in (print_funcs fs rest)

name_then : (x : ℕ) {vs ws : Kinds} → vs ≡ ws → kinds.Name x ∷ vs ≡ kinds.Name x ∷ ws
name_then x e = ap (λ z. kinds.Name x ∷ z) e

same_words : {g : Goal} {ps qs : List Placed} → Reads g ps qs → Claim g ps qs
same_words (number {v = v}) = λ j rest h. ap (λ z. kinds.Number v ∷ z) h
same_words (variable {x = x}) = λ j rest h. name_then x h
same_words (element {x = x} r) = λ j rest h. name_then x (same_words r 0 (kinds.CloseSquare ∷ rest) h)
same_words (address {x = x} r) = λ j rest h. name_then x (same_words r 0 (kinds.CloseSquare ∷ rest) h)
same_words (bare_call {x = x}) = λ j rest h. name_then x h
same_words (call {x = x} r) = λ j rest h. name_then x (same_words r (kinds.CloseRound ∷ rest) h)
same_words (round r) = λ j rest h. same_words r j rest h
same_words (operator {k = k} {p = p} {qs = qs} i) = prefix_is_none k p (words qs) i
same_words (cast {k = k} {type = type} {qs = qs} i) = type_is_none true k type (words qs) i
same_words (prefixed {p = p} {e = e} {ps = ps} r q) = λ j rest h. behind_prefix p (start ps) j e rest (words ps) (same_words r ∙ same_words q tight rest h)
same_words (binary {k = k} {op = op} {d = d} {e = e} {ps = ps} {qs = qs} i g r q) = λ j rest h.
    in_brackets (nat_lt (level op) j) (λ more. print_term (level op) d (infix_kind op ∷ print_term (suc (level op)) e more)) rest (words ps)
    (λ more f. let right = same_words q (suc (level op)) more (h ∙ sym f) in
    same_words r (level op) (infix_kind op ∷ print_term (suc (level op)) e more)
    (infix_is_none k op (words qs) i ∙ (right ∙ sym (infix_is_none (infix_kind op) op (words_in (print_term (suc (level op)) e more)) (infix_infix op)))))
same_words (choice {d = d} {e = e} {f = z} {ps = ps} r q t) = λ j rest h.
    in_brackets (nat_lt 0 j) (λ more. print_term 1 d (kinds.Question ∷ print_term 0 e (kinds.Colon ∷ print_term 0 z more))) rest (words ps)
    (λ more f. same_words r 1 (kinds.Question ∷ print_term 0 e (kinds.Colon ∷ print_term 0 z more))
    (same_words q 0 (kinds.Colon ∷ print_term 0 z more) (same_words t 0 more (h ∙ sym f))))
same_words (one_argument r) = λ rest h. same_words r 0 rest h
same_words (next_argument {es = es} {e = e} r q) = λ rest h.
    same_words r (kinds.Comma ∷ print_term 0 e rest) (same_words q 0 rest h) ∙ ap words_in (terms_then es e rest (some_argument r))
same_words (variable_target {x = x}) = λ rest h. name_then x h
same_words (element_target {x = x} r) = λ rest h. name_then x (same_words r 0 (kinds.CloseSquare ∷ rest) h)
same_words (dereference_target r) = λ rest h. same_words r tight rest h
same_words (assign {k = k} {op = op} {e = e} {qs = qs} i r q) = λ rest h.
    let value = same_words q 0 rest h in
    let sign = assign_is_none (assign_kind op) op (words_in (print_term 0 e rest)) (assign_assign k op i) in
    same_words r (assign_kind op ∷ print_term 0 e rest) (assign_is_none k op (words qs) i ∙ (value ∙ sym sign))
same_words (step_before {k = k} {is_increment = up} {t = t} {ps = ps} i r) = λ rest h. step_is_none k up (words ps) i ∙ (same_words r rest h ∙ step_kind_is_none up (words_in (print_target t rest)))
same_words (step_behind {k = k} {is_increment = up} {t = t} {qs = qs} i g r) = λ rest h. same_words r rest (step_is_none k up (words qs) i ∙ h) ∙ step_kind_is_none up (words_in (print_target t rest))
same_words (bare_call_only {x = x}) = λ rest h. name_then x h
same_words (call_only {x = x} r) = λ rest h. name_then x (same_words r (kinds.CloseRound ∷ rest) h)
same_words (simple r) = λ rest h. same_words r (kinds.Semicolon ∷ rest) h ∙ ap words_in (sym (simple_ended r rest))
same_words empty = λ rest h. h
same_words (block r) = λ rest h. same_words r (kinds.CloseBrace ∷ rest) h
same_words (if_only {e = e} {s = s} r q g) = λ rest h. same_words r 0 (kinds.CloseRound ∷ print_stmt s rest) (same_words q rest h)
same_words (if_else {e = e} {s = s} {t = t} r q i) = λ rest h.
    same_words r 0 (kinds.CloseRound ∷ print_stmt s (kinds.Else ∷ print_stmt t rest)) (same_words q (kinds.Else ∷ print_stmt t rest) (same_words i rest h))
same_words (while_loop {e = e} {s = s} r q) = λ rest h. same_words r 0 (kinds.CloseRound ∷ print_stmt s rest) (same_words q rest h)
same_words (do_loop {e = e} {s = s} r q) = λ rest h.
    same_words r (kinds.While ∷ kinds.OpenRound ∷ print_term 0 e (kinds.CloseRound ∷ kinds.Semicolon ∷ rest)) (same_words q 0 (kinds.CloseRound ∷ kinds.Semicolon ∷ rest) h)
same_words (for_loop {f = f} {c = c} {s = s} r q t u) = λ rest h.
    let body = same_words u rest h in
    let third = same_words t (print_stmt s rest) body in
    let test = same_words q (print_part f (kinds.CloseRound ∷ print_stmt s rest)) third in
    same_words r (print_condition c (kinds.Semicolon ∷ print_part f (kinds.CloseRound ∷ print_stmt s rest))) test
same_words no_initial = λ rest h. h
same_words (simple_initial r) = λ rest h. same_words r (kinds.Semicolon ∷ rest) h
same_words (declared_initial {x = x} {k = k} {type = type} {ps = ps} i r) = λ rest h. type_is_none true k type (kinds.Name x ∷ words ps) i ∙ name_then x (same_words r 0 (kinds.Semicolon ∷ rest) h)
same_words no_condition = λ rest h. h
same_words (condition r) = λ rest h. same_words r 0 (kinds.Semicolon ∷ rest) h
same_words no_final = λ rest h. h
same_words (simple_final r) = λ rest h. same_words r (kinds.CloseRound ∷ rest) h
same_words break_only = λ rest h. h
same_words continue_only = λ rest h. h
same_words return_only = λ rest h. h
same_words (return_value r) = λ rest h. same_words r 0 (kinds.Semicolon ∷ rest) h
same_words (integer {u = u} {k = k} {type = type} {qs = qs} i) = λ rest h. type_is_none u k type (words qs) i ∙ h
same_words (pointer {u = u} {k = k} {type = type} {qs = qs} i) = λ rest h. type_is_none u k type (words qs) i ∙ h
same_words (const_pointer {u = u} {k = k} {type = type} {qs = qs} i) = λ rest h. type_is_none u k type (words qs) i ∙ h
same_words (declare {x = x} r) = λ rest h. same_words r (kinds.Name x ∷ kinds.Semicolon ∷ rest) (name_then x h)
same_words (declare_as {x = x} {e = e} r q) = λ rest h.
    same_words r (kinds.Name x ∷ kinds.Assign ∷ print_term 0 e (kinds.Semicolon ∷ rest)) (name_then x (same_words q 0 (kinds.Semicolon ∷ rest) h))
same_words (array {x = x} {k = k} {type = type} {v = v} {qs = qs} i) = λ rest h. type_is_none true k type (kinds.Name x ∷ kinds.Number v ∷ words qs) i ∙ name_then x (ap (λ z. kinds.Number v ∷ z) h)
same_words (local_array {x = x} {k = k} {type = type} {v = v} {qs = qs} i) = λ rest h. type_is_none true k type (kinds.Name x ∷ kinds.Number v ∷ words qs) i ∙ name_then x (ap (λ z. kinds.Number v ∷ z) h)
same_words no_items = λ rest h. h
same_words (statement {s = s} r q) = λ rest h. same_words r (print_stmt s rest) (same_words q rest h)
same_words (declaration {s = s} r q) = λ rest h. same_words r (print_stmt s rest) (same_words q rest h)
same_words (parameter {x = x} r) = λ rest h. same_words r (kinds.Name x ∷ rest) (name_then x h)
same_words (first_parameter r) = λ rest h. same_words r rest h
same_words (next_parameter {xs = xs} {p = p} r q) = λ rest h.
    same_words r (kinds.Comma ∷ print_parameter p rest) (same_words q rest h) ∙ ap words_in (sym (print_next xs p rest (some_parameter r)))
same_words kernel = λ rest h. h
same_words void = λ rest h. h
same_words (typed {k = k} {type = type} {qs = qs} i) = λ rest h. type_is_none true k type (words qs) i ∙ h
same_words (bare_heading {x = x} r) = λ rest h. same_words r (kinds.Name x ∷ kinds.OpenRound ∷ kinds.CloseRound ∷ rest) (name_then x h)
same_words (heading {x = x} {xs = xs} r q) = λ rest h.
    same_words r (kinds.Name x ∷ kinds.OpenRound ∷ print_parameters xs (kinds.CloseRound ∷ rest)) (name_then x (same_words q (kinds.CloseRound ∷ rest) h))
same_words no_functions = λ rest h. h
same_words (function {a = a} {h = head} {ss = ss} r q i) = λ rest h.
    same_words r (print_func (with_body head a ss) rest) (same_words q (kinds.OpenBrace ∷ print_stmts ss (kinds.CloseBrace ∷ rest)) (same_words i (kinds.CloseBrace ∷ rest) h))

pub has_words : HasWords
has_words ps fs h = same_words h.reads [] refl
