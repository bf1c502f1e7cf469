-- The tokens that a program is printed as stand for the same program, offsets aside.
use Rattle.std.proofs.Common.{◌≡◌, ℕ, suc, List, [], ◌∷◌, ◌++◌, map, Bool, refl, sym, ◌∙◌, ap, subst}
use Rattle.clmodel.specs.declared.tree.VariableType.TheVariants.{Integer}
use Rattle.clmodel.specs.declared.tree.Parameter.{Parameter}
use Rattle.clmodel.specs.Tree.{Stmt, Empty, Block, Declare, DeclareAs, If, IfElse, While, DoWhile, For, Break, Continue, Return, ReturnValue, MaybeStmt, Without, With, MaybeTerm, WithoutTerm, WithTerm, Stmts, NoStmt, ThenStmt, Func, Funcs, NoFunc, ThenFunc}
use Rattle.clsyntax_lex.specs.declared.token.Token.{Token}
use Rattle.clsyntax_lex.specs.declared.token.TokenKind.TheVariants as kinds
use Rattle.clsyntax_terms.specs.Grammar.{Placed, put, parameter_of, IsNoElse, Head, head, with_body, Goal, Statement, Declaration, Items, Initial, Condition, Final, OneParameter, Parameters, Returning, Heading, Program, Reads, simple, empty, block, if_only, if_else, while_loop, do_loop, for_loop, no_initial, simple_initial, declared_initial, no_condition, condition, no_final, simple_final, break_only, continue_only, return_only, return_value, declare, declare_as, array, local_array, no_items, statement, declaration, parameter, first_parameter, next_parameter, kernel, void, typed, bare_heading, heading, no_functions, function}
use Rattle.clsyntax.specs.Correct.{IsNonEmpty}
use Rattle.clsyntax_lex.specs.Printed.{kinds_of}
use Rattle.clsyntax_print.specs.Printing.{plain_term, plain_maybe_term, plain_stmt, plain_maybe_stmt, plain_stmts, plain_parameter, plain_func, plain_funcs, Kinds, with_token, print_term, print_part, print_condition, print_stmt, print_stmts, print_parameter, print_parameters, result_kind, print_func, print_funcs, IsPrinted}
use Rattle.clsyntax_print.proofs.PrintedTerms.{first_of_kinds, begin, begins, behind_one, Again, term_again}
use Rattle.clsyntax_print.proofs.PrintedStatements.{simple_again, simple_ended, NoElse, no_else, statement_no_else, declaration_no_else, type_again, array_again, local_array_again, AgainDeclaration}

-- ---- programs

abbrev pub IsSomeParameter : List Parameter → Type 0
IsSomeParameter [] = ⊥
IsSomeParameter (p ∷ ps) = Unit {0}

then_some : (xs : List Parameter) (p : Parameter) → IsSomeParameter (xs ++ p ∷ [])
then_some [] p = tt
then_some (x ∷ xs) p = tt

pub some_parameter : {u : Bool} {xs : List Parameter} {ps qs : List Placed} → Reads (Parameters u xs) ps qs → IsSomeParameter xs
some_parameter (first_parameter r) = tt
some_parameter (next_parameter {xs = xs} {p = p} r q) = then_some xs p

print_then : (x : Parameter) (xs : List Parameter) (p : Parameter) (rest : Kinds) → print_parameters (x ∷ (xs ++ p ∷ [])) rest ≡ print_parameters (x ∷ xs) (kinds.Comma ∷ print_parameter p rest)
print_then x [] p rest = refl
print_then x (y ∷ ys) p rest = ap (λ z. print_parameter x (kinds.Comma ∷ z)) (print_then y ys p rest)

pub print_next : (xs : List Parameter) (p : Parameter) (rest : Kinds) → IsSomeParameter xs → print_parameters (xs ++ p ∷ []) rest ≡ print_parameters xs (kinds.Comma ∷ print_parameter p rest)
print_next [] p rest h = absurd h
print_next (x ∷ xs) p rest h = print_then x xs p rest

plain_next : (xs : List Parameter) (p : Parameter) → map plain_parameter (xs ++ p ∷ []) ≡ map plain_parameter xs ++ plain_parameter p ∷ []
plain_next [] p = refl
plain_next (x ∷ xs) p = ap (λ z. plain_parameter x ∷ z) (plain_next xs p)

-- the words of a function's head
abbrev pub print_head : Head → Kinds → Kinds
print_head h rest = with_token h.is_kernel kinds.Kernel (result_kind h.result ∷ kinds.Name h.name ∷ kinds.OpenRound ∷ print_parameters h.parameters (kinds.CloseRound ∷ rest))

abbrev plain_head : Head → Head
plain_head h = head h.is_kernel h.result 0 h.name (map plain_parameter h.parameters)

abbrev AgainStmt : (n : ℕ) → Stmt → Kinds → List Token → Type 0
AgainStmt n s rest ts = Again Stmt (λ x. Statement n x) (λ x. plain_stmt x ≡ plain_stmt s) rest ts

-- Where no `else` follows a statement in its program, none is to follow it where it is printed.
abbrev Claim : Goal → List Placed → Type 0
Claim (Statement n s) qs = (rest : Kinds) (ts : List Token) → (IsNoElse qs → NoElse rest) → kinds_of ts ≡ print_stmt s rest → AgainStmt n s rest ts
Claim (Declaration n s) qs = (rest : Kinds) (ts : List Token) → kinds_of ts ≡ print_stmt s rest → AgainDeclaration n s rest ts
Claim (Items n ss) qs = (rest : Kinds) (ts : List Token) → NoElse rest → kinds_of ts ≡ print_stmts ss rest → Again Stmts (λ x. Items n x) (λ x. plain_stmts x ≡ plain_stmts ss) rest ts
Claim (Initial n i) qs = (rest : Kinds) (ts : List Token) → kinds_of ts ≡ print_part i (kinds.Semicolon ∷ rest) → Again MaybeStmt (λ x. Initial n x) (λ x. plain_maybe_stmt x ≡ plain_maybe_stmt i) rest ts
Claim (Condition n c) qs = (rest : Kinds) (ts : List Token) → kinds_of ts ≡ print_condition c (kinds.Semicolon ∷ rest) → Again MaybeTerm (λ x. Condition n x) (λ x. plain_maybe_term x ≡ plain_maybe_term c) rest ts
Claim (Final n f) qs = (rest : Kinds) (ts : List Token) → kinds_of ts ≡ print_part f (kinds.CloseRound ∷ rest) → Again MaybeStmt (λ x. Final n x) (λ x. plain_maybe_stmt x ≡ plain_maybe_stmt f) rest ts
Claim (OneParameter u p) qs = (rest : Kinds) (ts : List Token) → kinds_of ts ≡ print_parameter p rest → Again Parameter (OneParameter u) (λ x. plain_parameter x ≡ plain_parameter p) rest ts
Claim (Parameters u xs) qs = (rest : Kinds) (ts : List Token) → kinds_of ts ≡ print_parameters xs rest → Again (List Parameter) (Parameters u) (λ x. map plain_parameter x ≡ map plain_parameter xs) rest ts
Claim (Returning b r) qs = (rest : Kinds) (ts : List Token) → kinds_of ts ≡ with_token b kinds.Kernel (result_kind r ∷ rest) → Again (Unit {0}) (λ x. Returning b r) (λ x. Unit {0}) rest ts
Claim (Heading h) qs = (rest : Kinds) (ts : List Token) → kinds_of ts ≡ print_head h rest → Again Head Heading (λ x. plain_head x ≡ plain_head h) rest ts
Claim (Program fs) qs = (rest : Kinds) (ts : List Token) → kinds_of ts ≡ print_funcs fs rest → Again Funcs Program (λ x. plain_funcs x ≡ plain_funcs fs) rest ts
Claim _ qs = Unit {0}

again : {g : Goal} {ps qs : List Placed} → Reads g ps qs → Claim g qs
again (simple {n = n} r) = λ rest ts h s.
    let one = simple_again r (kinds.Semicolon ∷ rest) ts (s ∙ simple_ended r rest) in
    let end_ = first_of_kinds kinds.Semicolon rest one.after one.kinds in
    record {
      tree = one.tree;
      after = end_.rest;
      kinds = end_.kinds;
      same = one.same;
      place = λ qs q. let f = one.place (put n kinds.Semicolon end_.at ∷ qs) (behind_one n end_ qs q) in record { placed = f.placed; same = f.same; reads = simple f.reads };
    }
again (empty {n = n}) = λ rest ts h s.
    let f = first_of_kinds kinds.Semicolon rest ts s in
    record { tree = Empty f.at; after = f.rest; kinds = f.kinds; same = refl; place = λ qs q. record { placed = put n kinds.Semicolon f.at ∷ qs; same = behind_one n f qs q; reads = empty } }
again (block {n = n} {ss = ss} r) = λ rest ts h s.
    let open_ = first_of_kinds kinds.OpenBrace _ ts s in
    let inside = again r (kinds.CloseBrace ∷ rest) open_.rest (λ e. cc) open_.kinds in
    let close_ = first_of_kinds kinds.CloseBrace rest inside.after inside.kinds in
    record {
      tree = Block open_.at inside.tree;
      after = close_.rest;
      kinds = close_.kinds;
      same = ap (Block 0) inside.same;
      place = λ qs q. let f = inside.place (put (suc n) kinds.CloseBrace close_.at ∷ qs) (behind_one (suc n) close_ qs q) in
          record { placed = put n kinds.OpenBrace open_.at ∷ f.placed; same = behind_one n open_ f.placed f.same; reads = block f.reads };
    }
again (if_only {n = n} {e = e} {s = one} r q alone) = λ rest ts h s.
    let word = first_of_kinds kinds.If _ ts s in
    let open_ = first_of_kinds kinds.OpenRound _ word.rest word.kinds in
    let test = term_again e 0 (suc n) (kinds.CloseRound ∷ print_stmt one rest) open_.rest open_.kinds in
    let close_ = first_of_kinds kinds.CloseRound _ test.after test.kinds in
    let body = again q rest close_.rest h close_.kinds in
    record {
      tree = If word.at test.tree.0 body.tree;
      after = body.after;
      kinds = body.kinds;
      same = ap (λ z. If 0 z (plain_stmt body.tree)) test.same ∙ ap (If 0 (plain_term e)) body.same;
      place = λ qs p.
          let g = body.place qs p in
          let f = test.place (put (suc n) kinds.CloseRound close_.at ∷ g.placed) (behind_one (suc n) close_ g.placed g.same) in
          let opened : List Placed = put n kinds.OpenRound open_.at ∷ f.placed in
          record { placed = put n kinds.If word.at ∷ opened; same = behind_one n word opened (behind_one n open_ f.placed f.same); reads = if_only f.reads g.reads (no_else qs body.after rest p body.kinds (h alone)) };
    }
again (if_else {n = n} {e = e} {s = one} {t = other} r q t) = λ rest ts h s.
    let word = first_of_kinds kinds.If _ ts s in
    let open_ = first_of_kinds kinds.OpenRound _ word.rest word.kinds in
    let test = term_again e 0 (suc n) (kinds.CloseRound ∷ print_stmt one (kinds.Else ∷ print_stmt other rest)) open_.rest open_.kinds in
    let close_ = first_of_kinds kinds.CloseRound _ test.after test.kinds in
    let chosen = again q (kinds.Else ∷ print_stmt other rest) close_.rest (λ no. absurd (no refl)) close_.kinds in
    let else_ = first_of_kinds kinds.Else _ chosen.after chosen.kinds in
    let otherwise = again t rest else_.rest h else_.kinds in
    record {
      tree = IfElse word.at test.tree.0 chosen.tree otherwise.tree;
      after = otherwise.after;
      kinds = otherwise.kinds;
      same = ap (λ z. IfElse 0 z (plain_stmt chosen.tree) (plain_stmt otherwise.tree)) test.same ∙ (ap (λ z. IfElse 0 (plain_term e) z (plain_stmt otherwise.tree)) chosen.same ∙ ap (IfElse 0 (plain_term e) (plain_stmt one)) otherwise.same);
      place = λ qs p.
          let k = otherwise.place qs p in
          let g = chosen.place (put n kinds.Else else_.at ∷ k.placed) (behind_one n else_ k.placed k.same) in
          let f = test.place (put (suc n) kinds.CloseRound close_.at ∷ g.placed) (behind_one (suc n) close_ g.placed g.same) in
          let opened : List Placed = put n kinds.OpenRound open_.at ∷ f.placed in
          record { placed = put n kinds.If word.at ∷ opened; same = behind_one n word opened (behind_one n open_ f.placed f.same); reads = if_else f.reads g.reads k.reads };
    }
again (while_loop {n = n} {e = e} {s = one} r q) = λ rest ts h s.
    let word = first_of_kinds kinds.While _ ts s in
    let open_ = first_of_kinds kinds.OpenRound _ word.rest word.kinds in
    let test = term_again e 0 (suc n) (kinds.CloseRound ∷ print_stmt one rest) open_.rest open_.kinds in
    let close_ = first_of_kinds kinds.CloseRound _ test.after test.kinds in
    let body = again q rest close_.rest h close_.kinds in
    record {
      tree = While word.at test.tree.0 body.tree;
      after = body.after;
      kinds = body.kinds;
      same = ap (λ z. While 0 z (plain_stmt body.tree)) test.same ∙ ap (While 0 (plain_term e)) body.same;
      place = λ qs p.
          let g = body.place qs p in
          let f = test.place (put (suc n) kinds.CloseRound close_.at ∷ g.placed) (behind_one (suc n) close_ g.placed g.same) in
          let opened : List Placed = put n kinds.OpenRound open_.at ∷ f.placed in
          record { placed = put n kinds.While word.at ∷ opened; same = behind_one n word opened (behind_one n open_ f.placed f.same); reads = while_loop f.reads g.reads };
    }
again (do_loop {n = n} {e = e} {s = one} r q) = λ rest ts h s.
    let word = first_of_kinds kinds.Do _ ts s in
    let body = again r (kinds.While ∷ kinds.OpenRound ∷ print_term 0 e (kinds.CloseRound ∷ kinds.Semicolon ∷ rest)) word.rest (λ no. λ clash. cc) word.kinds in
    let loop_ = first_of_kinds kinds.While _ body.after body.kinds in
    let open_ = first_of_kinds kinds.OpenRound _ loop_.rest loop_.kinds in
    let test = term_again e 0 (suc n) (kinds.CloseRound ∷ kinds.Semicolon ∷ rest) open_.rest open_.kinds in
    let close_ = first_of_kinds kinds.CloseRound _ test.after test.kinds in
    let end_ = first_of_kinds kinds.Semicolon rest close_.rest close_.kinds in
    record {
      tree = DoWhile word.at body.tree test.tree.0;
      after = end_.rest;
      kinds = end_.kinds;
      same = ap (λ z. DoWhile 0 z (plain_term test.tree.0)) body.same ∙ ap (DoWhile 0 (plain_stmt one)) test.same;
      place = λ qs p.
          let ended : List Placed = put n kinds.Semicolon end_.at ∷ qs in
          let g = test.place (put (suc n) kinds.CloseRound close_.at ∷ ended) (behind_one (suc n) close_ ended (behind_one n end_ qs p)) in
          let opened : List Placed = put n kinds.OpenRound open_.at ∷ g.placed in
          let f = body.place (put n kinds.While loop_.at ∷ opened) (behind_one n loop_ opened (behind_one n open_ g.placed g.same)) in
          record { placed = put n kinds.Do word.at ∷ f.placed; same = behind_one n word f.placed f.same; reads = do_loop f.reads g.reads };
    }
again (for_loop {n = n} {i = i} {f = f} {c = c} {s = one} r q t u) = λ rest ts h s.
    let word = first_of_kinds kinds.For _ ts s in
    let open_ = first_of_kinds kinds.OpenRound _ word.rest word.kinds in
    let first = again r (print_condition c (kinds.Semicolon ∷ print_part f (kinds.CloseRound ∷ print_stmt one rest))) open_.rest open_.kinds in
    let test = again q (print_part f (kinds.CloseRound ∷ print_stmt one rest)) first.after first.kinds in
    let third = again t (print_stmt one rest) test.after test.kinds in
    let body = again u rest third.after h third.kinds in
    record {
      tree = For word.at first.tree test.tree third.tree body.tree;
      after = body.after;
      kinds = body.kinds;
      same = ap (λ z. For 0 z (plain_maybe_term test.tree) (plain_maybe_stmt third.tree) (plain_stmt body.tree)) first.same
          ∙ (ap (λ z. For 0 (plain_maybe_stmt i) z (plain_maybe_stmt third.tree) (plain_stmt body.tree)) test.same
          ∙ (ap (λ z. For 0 (plain_maybe_stmt i) (plain_maybe_term c) z (plain_stmt body.tree)) third.same ∙ ap (For 0 (plain_maybe_stmt i) (plain_maybe_term c) (plain_maybe_stmt f)) body.same));
      place = λ qs p.
          let w = body.place qs p in
          let k = third.place w.placed w.same in
          let g = test.place k.placed k.same in
          let v = first.place g.placed g.same in
          let opened : List Placed = put n kinds.OpenRound open_.at ∷ v.placed in
          record { placed = put n kinds.For word.at ∷ opened; same = behind_one n word opened (behind_one n open_ v.placed v.same); reads = for_loop v.reads g.reads k.reads w.reads };
    }
again (no_initial {n = n}) = λ rest ts s.
    let f = first_of_kinds kinds.Semicolon rest ts s in
    record { tree = Without; after = f.rest; kinds = f.kinds; same = refl; place = λ qs q. record { placed = put n kinds.Semicolon f.at ∷ qs; same = behind_one n f qs q; reads = no_initial } }
again (simple_initial {n = n} r) = λ rest ts s.
    let one = simple_again r (kinds.Semicolon ∷ rest) ts s in
    let end_ = first_of_kinds kinds.Semicolon rest one.after one.kinds in
    record {
      tree = With one.tree;
      after = end_.rest;
      kinds = end_.kinds;
      same = ap With one.same;
      place = λ qs q. let f = one.place (put n kinds.Semicolon end_.at ∷ qs) (behind_one n end_ qs q) in record { placed = f.placed; same = f.same; reads = simple_initial f.reads };
    }
again (declared_initial {n = n} {x = x} {type = type} {e = e} i r) = λ rest ts s.
    let word = first_of_kinds (kinds.Type type) _ ts s in
    let name = first_of_kinds (kinds.Name x) _ word.rest word.kinds in
    let sign = first_of_kinds kinds.Assign _ name.rest name.kinds in
    let value = term_again e 0 n (kinds.Semicolon ∷ rest) sign.rest sign.kinds in
    let end_ = first_of_kinds kinds.Semicolon rest value.after value.kinds in
    record {
      tree = With (DeclareAs word.at (Integer type) name.at x value.tree.0);
      after = end_.rest;
      kinds = end_.kinds;
      same = ap (λ z. With (DeclareAs 0 (Integer type) 0 x z)) value.same;
      place = λ qs q.
          let g = value.place (put n kinds.Semicolon end_.at ∷ qs) (behind_one n end_ qs q) in
          let signed : List Placed = put n kinds.Assign sign.at ∷ g.placed in
          let named : List Placed = put n (kinds.Name x) name.at ∷ signed in
          record { placed = put n (kinds.Type type) word.at ∷ named; same = behind_one n word named (behind_one n name signed (behind_one n sign g.placed g.same)); reads = declared_initial refl g.reads };
    }
again (no_condition {n = n}) = λ rest ts s.
    let f = first_of_kinds kinds.Semicolon rest ts s in
    record { tree = WithoutTerm; after = f.rest; kinds = f.kinds; same = refl; place = λ qs q. record { placed = put n kinds.Semicolon f.at ∷ qs; same = behind_one n f qs q; reads = no_condition } }
again (condition {n = n} {e = e} r) = λ rest ts s.
    let value = term_again e 0 n (kinds.Semicolon ∷ rest) ts s in
    let end_ = first_of_kinds kinds.Semicolon rest value.after value.kinds in
    record {
      tree = WithTerm value.tree.0;
      after = end_.rest;
      kinds = end_.kinds;
      same = ap WithTerm value.same;
      place = λ qs q. let f = value.place (put n kinds.Semicolon end_.at ∷ qs) (behind_one n end_ qs q) in record { placed = f.placed; same = f.same; reads = condition f.reads };
    }
again (no_final {n = n}) = λ rest ts s.
    let f = first_of_kinds kinds.CloseRound rest ts s in
    record { tree = Without; after = f.rest; kinds = f.kinds; same = refl; place = λ qs q. record { placed = put n kinds.CloseRound f.at ∷ qs; same = behind_one n f qs q; reads = no_final } }
again (simple_final {n = n} r) = λ rest ts s.
    let one = simple_again r (kinds.CloseRound ∷ rest) ts s in
    let end_ = first_of_kinds kinds.CloseRound rest one.after one.kinds in
    record {
      tree = With one.tree;
      after = end_.rest;
      kinds = end_.kinds;
      same = ap With one.same;
      place = λ qs q. let f = one.place (put n kinds.CloseRound end_.at ∷ qs) (behind_one n end_ qs q) in record { placed = f.placed; same = f.same; reads = simple_final f.reads };
    }
again (break_only {n = n}) = λ rest ts h s.
    let word = first_of_kinds kinds.Break _ ts s in
    let end_ = first_of_kinds kinds.Semicolon rest word.rest word.kinds in
    record {
      tree = Break word.at;
      after = end_.rest;
      kinds = end_.kinds;
      same = refl;
      place = λ qs q. let ended : List Placed = put n kinds.Semicolon end_.at ∷ qs in record { placed = put n kinds.Break word.at ∷ ended; same = behind_one n word ended (behind_one n end_ qs q); reads = break_only };
    }
again (continue_only {n = n}) = λ rest ts h s.
    let word = first_of_kinds kinds.Continue _ ts s in
    let end_ = first_of_kinds kinds.Semicolon rest word.rest word.kinds in
    record {
      tree = Continue word.at;
      after = end_.rest;
      kinds = end_.kinds;
      same = refl;
      place = λ qs q. let ended : List Placed = put n kinds.Semicolon end_.at ∷ qs in record { placed = put n kinds.Continue word.at ∷ ended; same = behind_one n word ended (behind_one n end_ qs q); reads = continue_only };
    }
again (return_only {n = n}) = λ rest ts h s.
    let word = first_of_kinds kinds.Return _ ts s in
    let end_ = first_of_kinds kinds.Semicolon rest word.rest word.kinds in
    record {
      tree = Return word.at;
      after = end_.rest;
      kinds = end_.kinds;
      same = refl;
      place = λ qs q. let ended : List Placed = put n kinds.Semicolon end_.at ∷ qs in record { placed = put n kinds.Return word.at ∷ ended; same = behind_one n word ended (behind_one n end_ qs q); reads = return_only };
    }
again (return_value {n = n} {e = e} r) = λ rest ts h s.
    let word = first_of_kinds kinds.Return _ ts s in
    let value = term_again e 0 n (kinds.Semicolon ∷ rest) word.rest word.kinds in
    let end_ = first_of_kinds kinds.Semicolon rest value.after value.kinds in
    record {
      tree = ReturnValue word.at value.tree.0;
      after = end_.rest;
      kinds = end_.kinds;
      same = ap (ReturnValue 0) value.same;
      place = λ qs q. let f = value.place (put n kinds.Semicolon end_.at ∷ qs) (behind_one n end_ qs q) in record { placed = put n kinds.Return word.at ∷ f.placed; same = behind_one n word f.placed f.same; reads = return_value f.reads };
    }
again (declare {n = n} {x = x} {kind = kind} r) = λ rest ts s.
    let type = type_again r (kinds.Name x ∷ kinds.Semicolon ∷ rest) ts s in
    let name = first_of_kinds (kinds.Name x) _ type.after type.kinds in
    let end_ = first_of_kinds kinds.Semicolon rest name.rest name.kinds in
    record {
      tree = Declare (begin ts) kind name.at x;
      after = end_.rest;
      kinds = end_.kinds;
      same = refl;
      place = λ qs q.
          let ended : List Placed = put n kinds.Semicolon end_.at ∷ qs in
          let f = type.place (put n (kinds.Name x) name.at ∷ ended) (behind_one n name ended (behind_one n end_ qs q)) in
          let R : ℕ → Type 0 = λ a. Reads (Declaration n (Declare a kind name.at x)) f.placed qs in
          record { placed = f.placed; same = f.same; reads = subst R (begins f.placed ts f.same) (declare f.reads) };
    }
again (declare_as {n = n} {x = x} {kind = kind} {e = e} r v) = λ rest ts s.
    let type = type_again r (kinds.Name x ∷ kinds.Assign ∷ print_term 0 e (kinds.Semicolon ∷ rest)) ts s in
    let name = first_of_kinds (kinds.Name x) _ type.after type.kinds in
    let sign = first_of_kinds kinds.Assign _ name.rest name.kinds in
    let value = term_again e 0 n (kinds.Semicolon ∷ rest) sign.rest sign.kinds in
    let end_ = first_of_kinds kinds.Semicolon rest value.after value.kinds in
    record {
      tree = DeclareAs (begin ts) kind name.at x value.tree.0;
      after = end_.rest;
      kinds = end_.kinds;
      same = ap (DeclareAs 0 kind 0 x) value.same;
      place = λ qs q.
          let g = value.place (put n kinds.Semicolon end_.at ∷ qs) (behind_one n end_ qs q) in
          let signed : List Placed = put n kinds.Assign sign.at ∷ g.placed in
          let f = type.place (put n (kinds.Name x) name.at ∷ signed) (behind_one n name signed (behind_one n sign g.placed g.same)) in
          let R : ℕ → Type 0 = λ a. Reads (Declaration n (DeclareAs a kind name.at x value.tree.0)) f.placed qs in
          record { placed = f.placed; same = f.same; reads = subst R (begins f.placed ts f.same) (declare_as f.reads g.reads) };
    }
again (array {n = n} {a = a} {b = b} {d = d} {x = x} {type = type} {v = v} i) = λ rest ts s. array_again n a b x d type v rest ts s
again (local_array {n = n} {a = a} {b = b} {d = d} {x = x} {type = type} {v = v} i) = λ rest ts s. local_array_again n a b x d type v rest ts s
again no_items = λ rest ts h s. record { tree = NoStmt; after = ts; kinds = s; same = refl; place = λ qs q. record { placed = qs; same = q; reads = no_items } }
again (statement {ss = ss} {s = one} r q) = λ rest ts h s.
    let before = again r (print_stmt one rest) ts (statement_no_else q rest) s in
    let last = again q rest before.after (λ e. h) before.kinds in
    record {
      tree = ThenStmt before.tree last.tree;
      after = last.after;
      kinds = last.kinds;
      same = ap (λ z. ThenStmt z (plain_stmt last.tree)) before.same ∙ ap (ThenStmt (plain_stmts ss)) last.same;
      place = λ qs p. let g = last.place qs p in let f = before.place g.placed g.same in record { placed = f.placed; same = f.same; reads = statement f.reads g.reads };
    }
again (declaration {ss = ss} {s = one} r q) = λ rest ts h s.
    let before = again r (print_stmt one rest) ts (declaration_no_else q rest) s in
    let last = again q rest before.after before.kinds in
    record {
      tree = ThenStmt before.tree last.tree;
      after = last.after;
      kinds = last.kinds;
      same = ap (λ z. ThenStmt z (plain_stmt last.tree)) before.same ∙ ap (ThenStmt (plain_stmts ss)) last.same;
      place = λ qs p. let g = last.place qs p in let f = before.place g.placed g.same in record { placed = f.placed; same = f.same; reads = declaration f.reads g.reads };
    }
again (parameter {x = x} {kind = kind} r) = λ rest ts s.
    let type = type_again r (kinds.Name x ∷ rest) ts s in
    let name = first_of_kinds (kinds.Name x) rest type.after type.kinds in
    record {
      tree = parameter_of kind name.at x;
      after = name.rest;
      kinds = name.kinds;
      same = refl;
      place = λ qs q. let f = type.place (put 1 (kinds.Name x) name.at ∷ qs) (behind_one 1 name qs q) in record { placed = f.placed; same = f.same; reads = parameter f.reads };
    }
again (first_parameter r) = λ rest ts s.
    let one = again r rest ts s in
    record { tree = one.tree ∷ []; after = one.after; kinds = one.kinds; same = ap (λ z. z ∷ []) one.same; place = λ qs q. let f = one.place qs q in record { placed = f.placed; same = f.same; reads = first_parameter f.reads } }
again (next_parameter {xs = xs} {p = p} r q) = λ rest ts s.
    let before = again r (kinds.Comma ∷ print_parameter p rest) ts (s ∙ print_next xs p rest (some_parameter r)) in
    let comma = first_of_kinds kinds.Comma (print_parameter p rest) before.after before.kinds in
    let last = again q rest comma.rest comma.kinds in
    record {
      tree = before.tree ++ last.tree ∷ [];
      after = last.after;
      kinds = last.kinds;
      same = plain_next before.tree last.tree ∙ (ap (λ z. z ++ plain_parameter last.tree ∷ []) before.same ∙ (ap (λ z. map plain_parameter xs ++ z ∷ []) last.same ∙ sym (plain_next xs p)));
      place = λ qs h. let g = last.place qs h in
          let f = before.place (put 1 kinds.Comma comma.at ∷ g.placed) (behind_one 1 comma g.placed g.same) in
          record { placed = f.placed; same = f.same; reads = next_parameter f.reads g.reads };
    }
again kernel = λ rest ts s.
    let word = first_of_kinds kinds.Kernel _ ts s in
    let none = first_of_kinds kinds.Void rest word.rest word.kinds in
    record {
      tree = tt;
      after = none.rest;
      kinds = none.kinds;
      same = tt;
      place = λ qs q. let voided : List Placed = put 0 kinds.Void none.at ∷ qs in record { placed = put 0 kinds.Kernel word.at ∷ voided; same = behind_one 0 word voided (behind_one 0 none qs q); reads = kernel };
    }
again void = λ rest ts s.
    let none = first_of_kinds kinds.Void rest ts s in
    record { tree = tt; after = none.rest; kinds = none.kinds; same = tt; place = λ qs q. record { placed = put 0 kinds.Void none.at ∷ qs; same = behind_one 0 none qs q; reads = void } }
again (typed {type = type} i) = λ rest ts s.
    let word = first_of_kinds (kinds.Type type) rest ts s in
    record { tree = tt; after = word.rest; kinds = word.kinds; same = tt; place = λ qs q. record { placed = put 0 (kinds.Type type) word.at ∷ qs; same = behind_one 0 word qs q; reads = typed refl } }
again (bare_heading {x = x} {is_kernel = b} {result = type} r) = λ rest ts s.
    let front = again r (kinds.Name x ∷ kinds.OpenRound ∷ kinds.CloseRound ∷ rest) ts s in
    let name = first_of_kinds (kinds.Name x) _ front.after front.kinds in
    let open_ = first_of_kinds kinds.OpenRound _ name.rest name.kinds in
    let close_ = first_of_kinds kinds.CloseRound rest open_.rest open_.kinds in
    record {
      tree = head b type name.at x [];
      after = close_.rest;
      kinds = close_.kinds;
      same = refl;
      place = λ qs q.
          let closed : List Placed = put 1 kinds.CloseRound close_.at ∷ qs in
          let opened : List Placed = put 0 kinds.OpenRound open_.at ∷ closed in
          let f = front.place (put 0 (kinds.Name x) name.at ∷ opened) (behind_one 0 name opened (behind_one 0 open_ closed (behind_one 1 close_ qs q))) in
          record { placed = f.placed; same = f.same; reads = bare_heading f.reads };
    }
again (heading {x = x} {is_kernel = b} {result = type} {xs = xs} r q) = λ rest ts s.
    let front = again r (kinds.Name x ∷ kinds.OpenRound ∷ print_parameters xs (kinds.CloseRound ∷ rest)) ts s in
    let name = first_of_kinds (kinds.Name x) _ front.after front.kinds in
    let open_ = first_of_kinds kinds.OpenRound _ name.rest name.kinds in
    let inside = again q (kinds.CloseRound ∷ rest) open_.rest open_.kinds in
    let close_ = first_of_kinds kinds.CloseRound rest inside.after inside.kinds in
    record {
      tree = head b type name.at x inside.tree;
      after = close_.rest;
      kinds = close_.kinds;
      same = ap (λ z. head b type 0 x z) inside.same;
      place = λ qs p.
          let g = inside.place (put 1 kinds.CloseRound close_.at ∷ qs) (behind_one 1 close_ qs p) in
          let opened : List Placed = put 0 kinds.OpenRound open_.at ∷ g.placed in
          let f = front.place (put 0 (kinds.Name x) name.at ∷ opened) (behind_one 0 name opened (behind_one 0 open_ g.placed g.same)) in
          record { placed = f.placed; same = f.same; reads = heading f.reads g.reads };
    }
again no_functions = λ rest ts s. record { tree = NoFunc; after = ts; kinds = s; same = refl; place = λ qs q. record { placed = qs; same = q; reads = no_functions } }
again (function {a = a} {fs = fs} {h = h} {ss = ss} r q i) = λ rest ts s.
    let before = again r (print_func (with_body h a ss) rest) ts s in
    let head = again q (kinds.OpenBrace ∷ print_stmts ss (kinds.CloseBrace ∷ rest)) before.after before.kinds in
    let open_ = first_of_kinds kinds.OpenBrace _ head.after head.kinds in
    let body = again i (kinds.CloseBrace ∷ rest) open_.rest (λ e. cc) open_.kinds in
    let close_ = first_of_kinds kinds.CloseBrace rest body.after body.kinds in
    let whole : Func = with_body head.tree open_.at body.tree in
    let one : plain_func whole ≡ plain_func (with_body h a ss) = ap (λ z. with_body z 0 (plain_stmts body.tree)) head.same ∙ ap (with_body (plain_head h) 0) body.same in
    record {
      tree = ThenFunc before.tree whole;
      after = close_.rest;
      kinds = close_.kinds;
      same = ap (λ z. ThenFunc z (plain_func whole)) before.same ∙ ap (ThenFunc (plain_funcs fs)) one;
      place = λ qs p.
          let k = body.place (put 1 kinds.CloseBrace close_.at ∷ qs) (behind_one 1 close_ qs p) in
          let g = head.place (put 0 kinds.OpenBrace open_.at ∷ k.placed) (behind_one 0 open_ k.placed k.same) in
          let f = before.place g.placed g.same in
          record { placed = f.placed; same = f.same; reads = function f.reads g.reads k.reads };
    }
again _ = tt

none_left : (ts : List Token) → kinds_of ts ≡ [] → [] ≡ ts
none_left [] e = refl
none_left (t ∷ ts) e = let clash : t.kind ∷ kinds_of ts ≡ [] = e in absurd cc

still_some : (fs gs : Funcs) → plain_funcs gs ≡ plain_funcs fs → IsNonEmpty fs → IsNonEmpty gs
still_some NoFunc gs e h = absurd h
still_some (ThenFunc fs f) NoFunc e h = let clash : NoFunc ≡ ThenFunc (plain_funcs fs) (plain_func f) = e in absurd cc
still_some (ThenFunc fs f) (ThenFunc gs g) e h = tt

pub is_printed : IsPrinted
is_printed ps fs ts h e =
    let all = again h.reads [] ts e in
    let f = all.place [] (none_left all.after all.kinds) in
    record { placed = f.placed; functions = all.tree; same = f.same; program = record { reads = f.reads; non_empty = still_some fs all.tree all.same h.non_empty }; plain = all.same }
