-- What the grammar reads, the machine reads.
use Rattle.clnum.specs.declared.int_type.IntType.{IntType}
use Rattle.clmodel.specs.declared.tree.VariableType.TheVariants.{Integer}
use Rattle.std.proofs.Common.{◌≡◌, ℕ, suc, ◌≤◌, List, [], ◌∷◌, Bool, true, false, Option, refl, sym, ap, arith}
use Rattle.clmodel.specs.Tree.{Term, Call, Terms, NoTerm, ThenTerm, TargetDereference, CallOnly, Stmts, NoStmt, ThenStmt, MaybeStmt, MaybeTerm}
use Rattle.clsyntax_lex.specs.declared.token.TokenKind.TheVariants as kinds
use Rattle.clsyntax_terms.specs.Grammar as grammar
use Rattle.clsyntax_terms.specs.Grammar.{Placed, put, start, level, tight, prefixed_by, head, Goal, Expr, Arguments, Assignee, Simple, Statement, Initial, Condition, Final, Typing, Declaration, Items, OneParameter, Parameters, Returning, Heading, Program, Reads, number, variable, element, address, bare_call, call, round, operator, cast, prefixed, binary, choice, one_argument, next_argument, variable_target, element_target, dereference_target, assign, step_before, step_behind, bare_call_only, call_only, simple, empty, block, if_only, if_else, while_loop, do_loop, for_loop, no_initial, simple_initial, declared_initial, no_condition, condition, no_final, simple_final, break_only, continue_only, return_only, return_value, integer, pointer, const_pointer, declare, declare_as, array, local_array, no_items, statement, declaration, parameter, first_parameter, next_parameter, kernel, void, typed, bare_heading, heading, no_functions, function}
use Rattle.clsyntax_terms.specs.Machine.{Frame, After, Before, Conditional, Chosen, InRound, InElement, InAddress, InCall, InPart, InBehind, InStep, InAssign, InDeclare, InReturn, InIf, InWhile, InDo, InInitial, InCondition, InFinal, Then, Otherwise, Turns, DoTurns, ForTurns, InItems, InBlock, InBody, InHead, InProgram, Purpose, ForParameter, ForDeclaration, Mode, Operand, ExpressionRead, Named, CallOpen, Optional, Item, Begin, Aim, BeginName, TargetRead, Ended, StatementRead, AfterTyping, Top, AfterReturning, HeadOpen, WantParameter, AfterParameter, HeadDone, State, in_mode, go, add_parameter, begun}
use Rattle.clsyntax.proofs.Moves.{Runs, stop, onward, joined, Alike, Meets, meets, meets_then, further, alike_then}
use Rattle.clsyntax.proofs.Levels.{reach, Follows, infix_follows, question_follows, looser_follows, looser_tight, ends, no_less, operator_step, question_step}
use Rattle.clsyntax_terms.specs.Machine as machine
use Rattle.clsyntax.proofs.Takes.{TakesOperand, at_operand, at_call, at_opened, at_optional, prefix_step, cast_step, named_alike, prefixed_alike, taken_alike, chosen_alike, TakesStatement, TakesSimple, at_begin, at_item, simply, at_initial, at_final, TargetFrom, from_simple, from_aim, AfterTarget, assigns, steps, AtEnd, at_semicolon, at_bracket, end_stops, end_follows, begin_alike, target_ends, behind_alike, name_begins, part_begins, star_begins, assign_step, assign_alike, step_begins, step_ends, step_alike, did_then, if_alike, else_alike, while_alike, for_alike, TypingFrom, of_declaration, initial_begins, top_word, word_begins, pointer_begins, const_begins, local_begins, WantsParameter, as_first, as_next, parameter_from}

-- the arguments but the last are in the frame
pub record ArgumentsRead (u : Bool) (a x n : ℕ) (fs : List Frame) (es : Terms) (ps qs : List Placed) : Type 0 where
  pub before : Terms
  pub last : Term
  pub m : ℕ
  pub from : ℕ
  pub same : es ≡ ThenTerm before last
  pub meets_ : Meets (in_mode (CallOpen (suc n)) (InCall u a x n NoTerm ∷ fs)) ps (in_mode (ExpressionRead m from last) (InCall u a x n before ∷ fs)) qs

abbrev pub Claim : Goal → List Placed → List Placed → Type 0
Claim (grammar.Before n p) ps qs = (s : State) (fs : List Frame) → TakesOperand s n fs → Runs s ps (in_mode (Operand (suc n)) (Before (start ps) p ∷ fs)) qs
Claim (Expr l n e m) ps qs = (s : State) (fs : List Frame) → TakesOperand s n fs → reach fs ≤ l → Follows l qs → Meets s ps (in_mode (ExpressionRead m (start ps) e) fs) qs
Claim (Arguments n es) ps qs = (u : Bool) (a x : ℕ) (fs : List Frame) → Follows 0 qs → ArgumentsRead u a x n fs es ps qs
Claim (Assignee n t) ps qs = (u : Bool) (s : State) (fs : List Frame) → TargetFrom u s n fs → AfterTarget u t qs → Meets s ps (in_mode (TargetRead u n (start ps) t) fs) qs
Claim (Simple n x) ps qs = (s : State) (fs : List Frame) → TakesSimple s n fs → AtEnd qs → Meets s ps (in_mode (Ended n x) fs) qs
Claim (Statement n x) ps qs = (s : State) (fs : List Frame) → TakesStatement s n fs → Meets s ps (in_mode (StatementRead x) fs) qs
Claim (Initial n i) ps qs = (a : ℕ) (fs : List Frame) → Runs (in_mode (machine.Initial n) (InInitial a ∷ fs)) ps (in_mode (Optional n) (InCondition a n i ∷ fs)) qs
Claim (Condition n c) ps qs = (a : ℕ) (i : MaybeStmt) (fs : List Frame) → Runs (in_mode (Optional n) (InCondition a n i ∷ fs)) ps (in_mode (machine.Final n) (InFinal a i c ∷ fs)) qs
Claim (Final n f) ps qs = (a : ℕ) (i : MaybeStmt) (c : MaybeTerm) (fs : List Frame) → Runs (in_mode (machine.Final n) (InFinal a i c ∷ fs)) ps (in_mode (Begin n) (ForTurns a i c f ∷ fs)) qs
Claim (Typing u n kind) ps qs = (p : Purpose) (m : Mode) (fs : List Frame) → TypingFrom p m u n (start ps) → Runs (in_mode m fs) ps (in_mode (AfterTyping p kind) fs) qs
Claim (Declaration n s) ps qs = (ss : Stmts) (fs : List Frame) → Runs (in_mode (Item n) (InItems n ss ∷ fs)) ps (in_mode (Item n) (InItems n (ThenStmt ss s) ∷ fs)) qs
Claim (Items n ss) ps qs = (fs : List Frame) → Meets (in_mode (Item n) (InItems n NoStmt ∷ fs)) ps (in_mode (Item n) (InItems n ss ∷ fs)) qs
Claim (OneParameter u p) ps qs = (m : Mode) (h : grammar.Head) (fs : List Frame) → WantsParameter u m → Runs (in_mode m (InHead h ∷ fs)) ps (in_mode (AfterParameter u) (InHead (add_parameter p h) ∷ fs)) qs
Claim (Parameters u xs) ps qs = (k : Bool) (r : Option IntType) (a x : ℕ) (fs : List Frame) → Runs (in_mode (HeadOpen u) (InHead (head k r a x []) ∷ fs)) ps (in_mode (AfterParameter u) (InHead (head k r a x xs) ∷ fs)) qs
Claim (Returning k r) ps qs = (fs : List Frame) → Runs (in_mode Top fs) ps (in_mode (AfterReturning k r) fs) qs
Claim (Heading h) ps qs = (fs : List Frame) → Runs (in_mode Top fs) ps (in_mode HeadDone (InHead h ∷ fs)) qs
Claim (Program fs) ps qs = Runs begun ps (in_mode Top (InProgram fs ∷ [])) qs

-- a state that moves like another
likewise : {s r u : State} {ps qs : List Placed} → Meets s ps r qs → Alike r u qs → Meets s ps u qs
likewise {s = s} {r = r} {u = u} {qs = qs} m h = record { reached = m.reached; run = m.run; alike = alike_then m.reached r u qs m.alike h }

pub complete : {g : Goal} {ps qs : List Placed} → Reads g ps qs → Claim g ps qs
complete (number {n = n} {a = a} {v = v}) = λ s fs h r f. meets (onward (h.takes (record { kind = kinds.Number v; at = a }) _ refl) stop)
complete (variable {l = l} {n = n} {x = x} {a = a} {qs = qs}) = λ s fs h r f.
    record { reached = in_mode (Named n a x) fs; run = onward (h.takes (record { kind = kinds.Name x; at = a }) _ refl) stop; alike = named_alike l n a x fs qs f }
complete (element {n = n} {x = x} {a = a} r) = λ s fs h g f.
    meets (onward (h.takes (record { kind = kinds.Name x; at = a }) _ refl) (onward refl
    (further (complete r _ (InElement a x n ∷ fs) (at_operand (suc n) (InElement a x n ∷ fs)) (no_less 0) (ends kinds.CloseSquare refl tt)) refl)))
complete (address {n = n} {x = x} {a = a} {b = b} r) = λ s fs h g f.
    meets (onward (h.takes (record { kind = kinds.And; at = a }) _ refl) (onward refl (onward refl
    (further (complete r _ (InAddress a b x (suc n) ∷ fs) (at_operand (suc (suc n)) (InAddress a b x (suc n) ∷ fs)) (no_less 0) (ends kinds.CloseSquare refl tt)) refl))))
complete (bare_call {x = x} {a = a}) = λ s fs h g f. meets (onward (h.takes (record { kind = kinds.Name x; at = a }) _ refl) (onward refl (onward refl stop)))
complete (call {n = n} {x = x} {a = a} r) = λ s fs h g f.
    let read = complete r false a x fs (ends kinds.CloseRound refl tt) in
    meets (onward (h.takes (record { kind = kinds.Name x; at = a }) _ refl) (onward refl
    (further read.meets_ (ap (λ z. go (suc n) (ExpressionRead n a (Call a x z)) fs) (sym read.same)))))
complete (round {n = n} {a = a} r) = λ s fs h g f.
    meets (onward (h.takes (record { kind = kinds.OpenRound; at = a }) _ refl)
    (further (complete r _ (InRound a n ∷ fs) (at_opened n a fs) (no_less 0) (ends kinds.CloseRound refl tt)) refl))
complete (operator {n = n} {a = a} {k = k} {p = p} i) = λ s fs h. onward (h.takes (record { kind = k; at = a }) _ (prefix_step n fs k p a i)) stop
complete (cast {n = n} {a = a} {b = b} {k = k} {type = type} i) = λ s fs h.
    onward (h.takes (record { kind = kinds.OpenRound; at = a }) _ refl) (onward (cast_step n a fs k type b i) (onward refl stop))
complete (prefixed {l = l} {n = n} {m = m} {p = p} {e = e} {ps = ps} {qs = qs} {rs = rs} r q) = λ s fs h g f.
    let gs : List Frame = Before (start ps) p ∷ fs in
    let inner = complete q (in_mode (Operand (suc n)) gs) gs (at_operand (suc n) gs) (no_less tight) (looser_tight l rs f) in
    meets_then (meets (complete r s fs h)) (likewise inner (prefixed_alike m (start ps) (start qs) p e fs rs))
complete (binary {l = l} {n = n} {m = m} {o = o} {k = k} {op = op} {d = d} {e = e} {ps = ps} {qs = qs} {rs = rs} i h r q) = λ s fs t g f.
    let reached : reach fs ≤ level op = omega arith in
    let left = complete r s fs t reached (infix_follows k op i) in
    let gs : List Frame = After (start ps) op d ∷ fs in
    let right = complete q (in_mode (Operand (suc m)) gs) gs (at_operand (suc m) gs) (no_less (suc (level op))) (looser_follows l (suc (level op)) rs (omega arith) f) in
    meets_then (meets (further left (operator_step k op m (start ps) d fs i reached))) (likewise right (taken_alike l o (start ps) (start qs) op d e fs rs f h))
complete (choice {n = n} {m = m} {o = o} {z = z} {d = d} {e = e} {f = other} {ps = ps} {qs = qs} {rs = rs} {us = us} r q t) = λ s fs h g f.
    let reached : reach fs ≤ 1 = omega arith in
    let asked : List Frame = Conditional (start ps) d ∷ fs in
    let chosen : List Frame = Chosen (start ps) d e ∷ fs in
    let condition = further (complete r s fs h reached question_follows) (question_step m (start ps) d fs reached) in
    let middle = further (complete q (in_mode (Operand (suc m)) asked) asked (at_operand (suc m) asked) (no_less 0) (ends kinds.Colon refl tt)) refl in
    let last = complete t (in_mode (Operand o) chosen) chosen (at_operand o chosen) (no_less 0) f in
    meets_then (meets (joined condition middle)) (likewise last (chosen_alike z (start ps) (start rs) d e other fs us f))
complete (one_argument {n = n} {m = m} {e = e} {ps = ps} r) = λ u a x fs f.
    record { before = NoTerm; last = e; m = m; from = start ps; same = refl; meets_ = complete r _ (InCall u a x n NoTerm ∷ fs) (at_call (suc n) (InCall u a x n NoTerm ∷ fs)) (no_less 0) f }
complete (next_argument {n = n} {m = m} {es = es} {e = e} {qs = qs} r q) = λ u a x fs f.
    let read = complete r u a x fs (ends kinds.Comma refl tt) in
    let gs : List Frame = InCall u a x n es ∷ fs in
    let comma = further read.meets_ (ap (λ z. go (suc n) (Operand (suc n)) (InCall u a x n z ∷ fs)) (sym read.same)) in
    record { before = es; last = e; m = m; from = start qs; same = refl; meets_ = meets_then (meets comma) (complete q _ gs (at_operand (suc n) gs) (no_less 0) f) }
complete (variable_target {n = n} {x = x} {a = a} {qs = qs}) = λ u s fs w f.
    record { reached = in_mode (BeginName u n a x) fs; run = name_begins a x qs w; alike = begin_alike u n a x fs qs f }
complete (element_target {n = n} {x = x} {a = a} {b = b} {ps = ps} r) = λ u s fs w f.
    let gs : List Frame = InPart u a x n ∷ fs in
    meets (joined (part_begins a x b ps w) (further (complete r _ gs (at_operand (suc n) gs) (no_less 0) (ends kinds.CloseSquare refl tt)) refl))
complete (dereference_target {n = n} {a = a} {m = o} {e = e} {ps = ps} {qs = qs} r) = λ u s fs w f.
    let gs : List Frame = InBehind u a n ∷ fs in
    let inner = complete r (in_mode (Operand (suc n)) gs) gs (at_operand (suc n) gs) (no_less tight) (target_ends (TargetDereference a e) u qs f (λ h. h)) in
    meets_then (meets (star_begins a ps w)) (likewise inner (behind_alike u n o a (start ps) e fs qs f))
complete (assign {n = n} {m = m} {k = k} {op = op} {t = t} {e = e} {ps = ps} {qs = qs} {rs = rs} i r q) = λ s fs w f.
    let gs : List Frame = InAssign (start ps) n t op ∷ fs in
    let left = further (complete r false s fs (from_simple w) (assigns i)) (assign_step n (start ps) t fs k op i) in
    let right = complete q (in_mode (Operand n) gs) gs (at_operand n gs) (no_less 0) (end_follows 0 rs f) in
    meets_then (meets left) (likewise right (assign_alike n m (start qs) (start ps) t op e fs rs f))
complete (step_before {n = n} {a = a} {k = k} {is_increment = up} {t = t} {ps = ps} {qs = qs} i r) = λ s fs w f.
    let gs : List Frame = InStep a n up ∷ fs in
    let inner = complete r true (in_mode (Aim (suc n)) gs) gs from_aim (end_stops f) in
    meets_then (meets (onward (w.takes (record { kind = k; at = a }) _ (step_begins n a fs k up i)) stop)) (likewise inner (step_alike n (suc n) a (start ps) t up fs qs f))
complete (step_behind {n = n} {k = k} {is_increment = up} {t = t} {ps = ps} i h r) = λ s fs w f.
    meets (further (complete r false s fs (from_simple w) (steps i h)) (step_ends n (start ps) t fs k up i))
complete (bare_call_only {n = n} {x = x} {a = a}) = λ s fs w f. meets (onward (w.takes (record { kind = kinds.Name x; at = a }) _ refl) (onward refl (onward refl stop)))
complete (call_only {n = n} {x = x} {a = a} r) = λ s fs w f.
    let read = complete r true a x fs (ends kinds.CloseRound refl tt) in
    meets (onward (w.takes (record { kind = kinds.Name x; at = a }) _ refl) (onward refl (further read.meets_ (ap (λ z. go (suc n) (Ended n (CallOnly a x z)) fs) (sym read.same)))))
complete (simple {n = n} {s = x} r) = λ s fs w. meets (further (complete r s fs (simply w) at_semicolon) (w.plain n x))
complete (empty {a = a}) = λ s fs w. meets (onward (w.takes (record { kind = kinds.Semicolon; at = a }) _ refl) stop)
complete (block {n = n} {a = a} r) = λ s fs w. meets (onward (w.takes (record { kind = kinds.OpenBrace; at = a }) _ refl) (further (complete r (InBlock a n ∷ fs)) refl))
complete (if_only {n = n} {a = a} {e = e} {s = s} {rs = rs} r q h) = λ s0 fs w.
    let asked : List Frame = InIf a n ∷ fs in
    let gs : List Frame = Then a n e ∷ fs in
    let condition_read = further (complete r (in_mode (Operand (suc n)) asked) asked (at_operand (suc n) asked) (no_less 0) (ends kinds.CloseRound refl tt)) refl in
    let body = complete q (in_mode (Begin (suc n)) gs) gs (at_begin (suc n) gs (λ m x. refl)) in
    meets_then (meets (onward (w.takes (record { kind = kinds.If; at = a }) _ refl) (onward refl condition_read))) (likewise body (if_alike a n e s fs rs h))
complete (if_else {n = n} {a = a} {e = e} {s = s} {t = t} {us = us} r q z) = λ s0 fs w.
    let asked : List Frame = InIf a n ∷ fs in
    let gs : List Frame = Then a n e ∷ fs in
    let hs : List Frame = Otherwise a e s ∷ fs in
    let condition_read = further (complete r (in_mode (Operand (suc n)) asked) asked (at_operand (suc n) asked) (no_less 0) (ends kinds.CloseRound refl tt)) refl in
    let chosen = further (complete q (in_mode (Begin (suc n)) gs) gs (at_begin (suc n) gs (λ m x. refl))) refl in
    let other = complete z (in_mode (Begin (suc n)) hs) hs (at_begin (suc n) hs (λ m x. refl)) in
    meets_then (meets (onward (w.takes (record { kind = kinds.If; at = a }) _ refl) (onward refl (joined condition_read chosen)))) (likewise other (else_alike a e s t fs us))
complete (while_loop {n = n} {a = a} {e = e} {s = s} {rs = rs} r q) = λ s0 fs w.
    let asked : List Frame = InWhile a n ∷ fs in
    let gs : List Frame = Turns a e ∷ fs in
    let condition_read = further (complete r (in_mode (Operand (suc n)) asked) asked (at_operand (suc n) asked) (no_less 0) (ends kinds.CloseRound refl tt)) refl in
    let body = complete q (in_mode (Begin (suc n)) gs) gs (at_begin (suc n) gs (λ m x. refl)) in
    meets_then (meets (onward (w.takes (record { kind = kinds.While; at = a }) _ refl) (onward refl condition_read))) (likewise body (while_alike a e s fs rs))
complete (do_loop {n = n} {a = a} {s = s} r q) = λ s0 fs w.
    let gs : List Frame = DoTurns a n ∷ fs in
    let asked : List Frame = InDo a n s ∷ fs in
    let body = further (complete r (in_mode (Begin (suc n)) gs) gs (at_begin (suc n) gs (λ m x. refl))) refl in
    let condition_read = further (complete q (in_mode (Operand (suc n)) asked) asked (at_operand (suc n) asked) (no_less 0) (ends kinds.CloseRound refl tt)) refl in
    meets (onward (w.takes (record { kind = kinds.Do; at = a }) _ refl) (joined body (onward refl (joined condition_read (onward refl stop)))))
complete (for_loop {n = n} {a = a} {i = i} {f = f} {c = c} {s = s} {vs = vs} r q t z) = λ s0 fs w.
    let gs : List Frame = ForTurns a i c f ∷ fs in
    let parts = joined (complete r a fs) (joined (complete q a i fs) (complete t a i c fs)) in
    let body = complete z (in_mode (Begin (suc n)) gs) gs (at_begin (suc n) gs (λ m x. refl)) in
    meets_then (meets (onward (w.takes (record { kind = kinds.For; at = a }) _ refl) (onward refl parts))) (likewise body (for_alike a i f c s fs vs))
complete no_initial = λ a fs. onward refl stop
complete (simple_initial {n = n} r) = λ a fs. further (complete r (in_mode (machine.Initial n) (InInitial a ∷ fs)) (InInitial a ∷ fs) (at_initial n (InInitial a ∷ fs)) at_semicolon) refl
complete (declared_initial {n = n} {a = a} {b = b} {c = c} {x = x} {k = k} {type = type} {ps = ps} i r) = λ at fs.
    let gs : List Frame = InDeclare a n (Integer type) b x ∷ InInitial at ∷ fs in
    joined (initial_begins n a k type (InInitial at ∷ fs) (put n (kinds.Name x) b ∷ put n kinds.Assign c ∷ ps) i)
    (onward refl (onward refl (further (complete r (in_mode (Operand n) gs) gs (at_operand n gs) (no_less 0) (ends kinds.Semicolon refl tt)) refl)))
complete no_condition = λ a i fs. onward refl stop
complete (condition {n = n} r) = λ a i fs.
    let gs : List Frame = InCondition a n i ∷ fs in
    further (complete r (in_mode (Optional n) gs) gs (at_optional n gs) (no_less 0) (ends kinds.Semicolon refl tt)) refl
complete no_final = λ a i c fs. onward refl stop
complete (simple_final {n = n} r) = λ a i c fs.
    let gs : List Frame = InFinal a i c ∷ fs in
    further (complete r (in_mode (machine.Final n) gs) gs (at_final n gs) at_bracket) refl
complete (break_only {a = a}) = λ s fs w. meets (onward (w.takes (record { kind = kinds.Break; at = a }) _ refl) (onward refl stop))
complete (continue_only {a = a}) = λ s fs w. meets (onward (w.takes (record { kind = kinds.Continue; at = a }) _ refl) (onward refl stop))
complete (return_only {a = a}) = λ s fs w. meets (onward (w.takes (record { kind = kinds.Return; at = a }) _ refl) (onward refl stop))
complete (return_value {n = n} {a = a} r) = λ s fs w.
    let gs : List Frame = InReturn a n ∷ fs in
    meets (onward (w.takes (record { kind = kinds.Return; at = a }) _ refl) (further (complete r (in_mode (Optional n) gs) gs (at_optional n gs) (no_less 0) (ends kinds.Semicolon refl tt)) refl))
complete (integer {k = k} {type = type} {qs = qs} i) = λ p m fs w. word_begins k type fs qs w i
complete (pointer {b = b} {c = c} {space = space} {k = k} {type = type} {qs = qs} i) = λ p m fs w. pointer_begins space b c k type fs qs w i
complete (const_pointer {b = b} {c = c} {d = d} {space = space} {k = k} {type = type} {qs = qs} i) = λ p m fs w. const_begins space b c d k type fs qs w i
complete (declare {n = n} {ps = ps} r) = λ ss fs.
    joined (complete r (ForDeclaration (start ps) n) (Item n) (InItems n ss ∷ fs) of_declaration) (onward refl (onward refl stop))
complete (declare_as {n = n} {b = b} {x = x} {kind = kind} {ps = ps} r q) = λ ss fs.
    let gs : List Frame = InDeclare (start ps) n kind b x ∷ InItems n ss ∷ fs in
    joined (complete r (ForDeclaration (start ps) n) (Item n) (InItems n ss ∷ fs) of_declaration)
    (onward refl (onward refl (further (complete q (in_mode (Operand n) gs) gs (at_operand n gs) (no_less 0) (ends kinds.Semicolon refl tt)) refl)))
complete (array {n = n} {k = k} {type = type} i) = λ ss fs.
    joined (word_begins k type (InItems n ss ∷ fs) _ of_declaration i) (onward refl (onward refl (onward refl (onward refl (onward refl stop)))))
complete (local_array {n = n} {o = o} {k = k} {type = type} i) = λ ss fs.
    joined (local_begins o k type (InItems n ss ∷ fs) _ i) (onward refl (onward refl (onward refl (onward refl (onward refl stop)))))
complete no_items = λ fs. meets stop
complete (statement {n = n} {ss = ss} {s = s} {rs = rs} r q) = λ fs.
    meets_then (complete r fs) (likewise (complete q (in_mode (Item n) (InItems n ss ∷ fs)) (InItems n ss ∷ fs) (at_item n (InItems n ss ∷ fs) (λ m x. refl))) (did_then n ss s fs rs))
complete (declaration {ss = ss} r q) = λ fs. meets_then (complete r fs) (meets (complete q ss fs))
complete (parameter {u = u} {ps = ps} r) = λ m h fs w. joined (complete r (ForParameter u) m (InHead h ∷ fs) (parameter_from (start ps) w)) (onward refl stop)
complete (first_parameter {u = u} r) = λ k t a x fs. complete r (HeadOpen u) (head k t a x []) fs as_first
complete (next_parameter {u = u} {xs = xs} r q) = λ k t a x fs.
    joined (complete r k t a x fs) (onward refl (complete q (WantParameter u) (head k t a x xs) fs as_next))
complete kernel = λ fs. onward refl (onward refl stop)
complete void = λ fs. onward refl stop
complete (typed {a = a} {k = k} {type = type} i) = λ fs. onward (top_word fs k a type i) stop
complete (bare_heading r) = λ fs. joined (complete r fs) (onward refl (onward refl (onward refl stop)))
complete (heading {x = x} {c = c} {is_kernel = k} {result = t} r q) = λ fs.
    joined (complete r fs) (onward refl (onward refl (joined (complete q k t c x fs) (onward refl stop))))
complete no_functions = stop
complete (function {a = a} {fs = fs} {h = h} r q i) =
    joined (complete r) (joined (complete q (InProgram fs ∷ [])) (onward refl (further (complete i (InBody h a ∷ InProgram fs ∷ [])) refl)))
