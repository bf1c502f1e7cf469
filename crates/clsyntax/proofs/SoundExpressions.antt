-- In expressions, what the machine reads is in the grammar.
use Rattle.std.proofs.Common.{◌≡◌, ℕ, zero, suc, ◌+◌, ◌≤◌, List, ◌∷◌, Bool, true, false, Option, Some, None, cond, refl, subst, arith}
use Rattle.std.specs.Prelude.{nat_lt}
use Rattle.std.proofs.lemmas.Bool.{ltb-true, ltb-false}
use Rattle.clnum.specs.declared.int_type.IntType.{IntType}
use Rattle.clnum.specs.declared.operators.BinaryOperator.{BinaryOperator}
use Rattle.clmodel.specs.declared.tree.InfixOperator.{InfixOperator}
use Rattle.clmodel.specs.declared.tree.VariableType.{VariableType}
use Rattle.clmodel.specs.Tree.{Term, Variable, Element, ElementAddress, Call, Binary, Choice, Terms, ThenTerm, Target, TargetElement, TargetDereference, Stmt, DeclareAs, Assign, Step, CallOnly, DoWhile, ReturnValue, Return, Stmts, ThenStmt, MaybeStmt, With, MaybeTerm, WithTerm, WithoutTerm}
use Rattle.clsyntax_lex.specs.declared.token.TokenKind.{TokenKind}
use Rattle.clsyntax_lex.specs.declared.token.TokenKind.TheVariants as kinds
use Rattle.clsyntax_terms.specs.Grammar.{Placed, put, start, prefixed_by, infix_of, level, tight, assign_of, Expr, Simple, Declaration, Reads, number, variable, element, address, bare_call, call, round, operator, cast, prefixed, binary, choice, element_target, dereference_target, assign, step_before, bare_call_only, call_only, simple, do_loop, simple_initial, declared_initial, no_condition, condition, simple_final, return_only, return_value, declare_as, declaration}
use Rattle.clsyntax_terms.specs.Machine.{Frame, After, Before, Conditional, Chosen, InRound, InElement, InAddress, InCall, InPart, InBehind, InStep, InAssign, InDeclare, InReturn, InIf, InWhile, InDo, InInitial, InCondition, InFinal, Then, Turns, ForTurns, InItems, Operand, ExpressionRead, Named, Opened, CastType, AfterAnd, AndName, CallOpen, Optional, Moved, go, Folded, folded, close, on_operand, on_close_round, on_comma, on_close_square, on_colon, end_simple, end_final, ends_simple, end_step, end_declaration, without, on_semicolon, on_assignment, unless_behind, end_expression, asked_level, after_folded, close_call}
use Rattle.clsyntax.proofs.Levels.{reach, level_low}
use Rattle.clsyntax.proofs.Stands.{AnExpr, SomeArguments, AnItem, AStatement, ASimple, none_yet, some_yet, arguments_then, Stands, in_items, as_item, as_statement, as_initial, in_then, in_turns, in_for_turns, in_initial, in_condition, in_final, in_if, in_while, in_do, in_return, declared_initially, in_step, in_part, in_behind, in_assign, in_declare, in_after, in_before, in_asked, in_chosen, in_round, in_element, in_address, call_open, in_call, HasExpr, has_expr, HasTarget, has_target, HasStatement, HasEnded, HasClosing, HasAnd, has_and, HasAndName, has_and_name, KeepsFrom, Keeps, Safe, kept}

pub safe_operand : (n : ℕ) (fs : List Frame) (kind : TokenKind) → Safe (Operand n) fs kind
safe_operand n fs (kinds.Number v) = λ w qs a h. has_expr h (λ l. number)
safe_operand n fs (kinds.Name x) = λ w qs a h. h
safe_operand n fs kinds.And = λ w qs a h. has_and h
safe_operand n fs kinds.OpenRound = λ w qs a h. h
safe_operand n fs kinds.Plus = λ w qs a h. in_before h (operator refl)
safe_operand n fs kinds.Minus = λ w qs a h. in_before h (operator refl)
safe_operand n fs kinds.Tilde = λ w qs a h. in_before h (operator refl)
safe_operand n fs kinds.Not = λ w qs a h. in_before h (operator refl)
safe_operand n fs kinds.Star = λ w qs a h. in_before h (operator refl)
safe_operand n fs _ = λ w qs a. tt

pub safe_opened : (n a : ℕ) (fs : List Frame) (kind : TokenKind) → Safe (Opened n a) fs kind
safe_opened n a fs (kinds.Type type) = λ w qs b h. record { at = b; word = kinds.Type type; names = refl; stands = h }
safe_opened n a fs kinds.SizeT = λ w qs b h. record { at = b; word = kinds.SizeT; names = refl; stands = h }
safe_opened n a fs kind = λ w qs b.
    let gs : List Frame = InRound a n ∷ fs in
    kept w qs (λ k. Stands w (AnExpr (suc n)) gs (put k kind b ∷ qs)) (λ k. Stands w (AnExpr n) fs (put n kinds.OpenRound a ∷ put k kind b ∷ qs)) (on_operand (suc n) gs (record { kind = kind; at = b }))
    (λ k s. in_round s) (safe_operand (suc n) gs kind w qs b)

pub safe_cast_type : (n a : ℕ) (type : IntType) (fs : List Frame) (kind : TokenKind) → Safe (CastType n a type) fs kind
safe_cast_type n a type fs kinds.CloseRound = λ w qs c h. in_before h.stands (cast h.names)
safe_cast_type n a type fs _ = λ w qs c. tt

-- ---- the operators before an expression

-- what the frame in front demands, but `*` at a statement's begin
abbrev front : List Frame → ℕ
front (InBehind u a n ∷ fs) = 0
front fs = reach fs

-- an expression that may stand behind an operator of this level
pub data HasFolded (w : List Placed) (k m : ℕ) : (from : ℕ) → Term → List Frame → List Placed → Type 0 where
  has_folded : {ps qs : List Placed} {fs : List Frame} {n j : ℕ} {e : Term}
      → Stands w (AnExpr n) fs ps → front fs ≤ k → reach fs ≤ j → k ≤ j → ((l : ℕ) → l ≤ j → Reads (Expr l n e m) ps qs) → HasFolded w k m (start ps) e fs qs

abbrev IsFolded : List Placed → (k m : ℕ) → Folded → List Placed → Type 0
IsFolded w k m x qs = HasFolded w k m x.from x.term x.rest qs

-- what holds of 0 holds of every number that is no more
pub at_zero : (P : ℕ → Type 0) → P 0 → (l : ℕ) → l ≤ 0 → P l
at_zero P h zero f = h
at_zero P h (suc l) f = absurd (let g : suc l ≤ 0 = f in omega arith)

-- one operator: it stays, or is taken
after_good : (k j from m n b : ℕ) (o : ℕ) {kind : TokenKind} (op : InfixOperator) (d e : Term) (fs : List Frame) (w ps rs qs : List Placed) (t : Bool) → nat_lt (level op) k ≡ t
    → Stands w (AnExpr n) fs ps → reach fs ≤ level op → infix_of kind ≡ Some op → Reads (Expr (level op) n d o) ps (put o kind b ∷ rs)
    → ((l : ℕ) → l ≤ j → Reads (Expr l (suc o) e m) rs qs) → suc (level op) ≤ j → k ≤ j
    → (k ≤ level op → IsFolded w k m (close k (start ps) (Binary (start ps) op d e) fs) qs)
    → IsFolded w k m (cond t (folded (start rs) e (After (start ps) op d ∷ fs)) (close k (start ps) (Binary (start ps) op d e) fs)) qs
after_good k j from m n b o op d e fs w ps rs qs true h s g i r reads reached below on =
    has_folded (in_after s g i r) (ltb-true (level op) k h) reached below reads
after_good k j from m n b o op d e fs w ps rs qs false h s g i r reads reached below on = on (ltb-false (level op) k h)

-- a choice: it waits, or is taken
chosen_good : (k j m n c b p o : ℕ) (d e f : Term) (fs : List Frame) (w ps rs us qs : List Placed) (t : Bool) → nat_lt 0 k ≡ t
    → Stands w (AnExpr n) fs ps → reach fs ≤ 0 → Reads (Expr 1 n d p) ps (put p kinds.Question b ∷ rs) → Reads (Expr 0 (suc p) e o) rs (put o kinds.Colon c ∷ us)
    → ((l : ℕ) → l ≤ j → Reads (Expr l o f m) us qs) → k ≤ j
    → (k ≤ 0 → IsFolded w k m (close k (start ps) (Choice (start ps) d e f) fs) qs)
    → IsFolded w k m (cond t (folded (start us) f (Chosen (start ps) d e ∷ fs)) (close k (start ps) (Choice (start ps) d e f) fs)) qs
chosen_good k j m n c b p o d e f fs w ps rs us qs true h s g r q reads below on = has_folded (in_chosen s g r q) (omega arith) (omega arith) below reads
chosen_good k j m n c b p o d e f fs w ps rs us qs false h s g r q reads below on = on (ltb-false 0 k h)

close_good : (k j m : ℕ) (fs : List Frame) {n : ℕ} {w ps qs : List Placed} (e : Term) → Stands w (AnExpr n) fs ps → ((l : ℕ) → l ≤ j → Reads (Expr l n e m) ps qs) → reach fs ≤ j → k ≤ j
    → IsFolded w k m (close k (start ps) e fs) qs
close_good k j m (After c op d ∷ fs) {w = w} {ps = rs} {qs = qs} e (in_after {ps = ps} {n = n} {m = o} {b = b} s g i r) reads reached below =
    after_good k j 0 m n b o op d e fs w ps rs qs (nat_lt (level op) k) refl s g i r reads reached below
    (λ h. close_good k (level op) m fs (Binary (start ps) op d e) s (λ l f. binary i f r (reads (suc (level op)) reached)) g h)
close_good k j m (Before c p ∷ fs) {w = w} {ps = rs} {qs = qs} e (in_before {ps = ps} s r) reads reached below =
    close_good k (k + reach fs) m fs (prefixed_by p (start ps) e) s (λ l f. prefixed r (reads tight reached)) (omega arith) (omega arith)
close_good k j m (Chosen c d e ∷ fs) {w = w} {ps = us} {qs = qs} f (in_chosen {ps = ps} {qs = rs} {n = n} {m = p} {o = o} {b = b} {c = a} s g r q) reads reached below =
    chosen_good k j m n a b p o d e f fs w ps rs us qs (nat_lt 0 k) refl s g r q reads below
    (λ h. close_good k 0 m fs (Choice (start ps) d e f) s (at_zero (λ l. Reads (Expr l n (Choice (start ps) d e f) m) ps qs) (choice r q (reads 0 (omega arith)))) g h)
close_good k j m fs e s reads reached below = has_folded s (omega arith) reached below reads

have_folded : {w qs : List Placed} {fs : List Frame} {m from : ℕ} {e : Term} → HasExpr w m from e fs qs → (k : ℕ) → IsFolded w k m (close k from e fs) qs
have_folded {m = m} (has_expr {fs = fs} {e = e} s r) k = close_good k (k + reach fs) m fs e s (λ l h. r l) (omega arith) (omega arith)

waits : {w qs : List Placed} {fs : List Frame} {m from b : ℕ} {k : TokenKind} {op : InfixOperator} {e : Term} → HasFolded w (level op) m from e fs (put m k b ∷ qs) → infix_of k ≡ Some op
    → (front fs ≤ level op → reach fs ≤ level op) → Stands w (AnExpr (suc m)) (After from op e ∷ fs) qs
waits {op = op} (has_folded s g h f r) i on = in_after s (on g) i (r (level op) f)

safe_wait : (m from b : ℕ) (k : TokenKind) (op : InfixOperator) (e : Term) (fs : List Frame) (w qs : List Placed) → infix_of k ≡ Some op
    → KeepsFrom w qs (λ n. HasFolded w (level op) m from e fs (put n k b ∷ qs)) (unless_behind fs (go m (Operand (suc m)) (After from op e ∷ fs)))
safe_wait m from b k op e (InBehind u a n ∷ fs) w qs i = tt
safe_wait m from b k op e _ w qs i = λ g. waits g i (λ h. h)

asks_for : {w qs : List Placed} {fs : List Frame} {m from b : ℕ} {e : Term} → HasFolded w 1 m from e fs (put m kinds.Question b ∷ qs) → (front fs ≤ 1 → reach fs ≤ 0) → Stands w (AnExpr (suc m)) (Conditional from e ∷ fs) qs
asks_for (has_folded s g h f r) on = in_asked s (on g) (r 1 f)

safe_ask : (m from b : ℕ) (e : Term) (fs : List Frame) (w qs : List Placed)
    → KeepsFrom w qs (λ n. HasFolded w 1 m from e fs (put n kinds.Question b ∷ qs)) (unless_behind fs (go m (Operand (suc m)) (Conditional from e ∷ fs)))
safe_ask m from b e (InBehind u a n ∷ fs) w qs = tt
safe_ask m from b e (After c op d ∷ fs) w qs = λ g. asks_for g (λ h. absurd (let low = level_low op in let above : suc (level op) ≤ 1 = h in omega arith))
safe_ask m from b e (Before c p ∷ fs) w qs = λ g. asks_for g (λ h. absurd (let above : tight ≤ 1 = h in omega arith))
safe_ask m from b e _ w qs = λ g. asks_for g (λ h. omega arith)

-- ---- where an expression ends

round_end : {w qs : List Placed} {fs : List Frame} {m from a n c : ℕ} {e : Term} → HasFolded w 0 m from e (InRound a n ∷ fs) (put (suc n) kinds.CloseRound c ∷ qs) → HasExpr w n a e fs qs
round_end (has_folded (in_round s) g h f r) = has_expr s (λ l. round (r 0 f))

call_end : {w qs : List Placed} {fs : List Frame} {m from a x n c : ℕ} {es : Terms} {e : Term} → HasFolded w 0 m from e (InCall false a x n es ∷ fs) (put (suc n) kinds.CloseRound c ∷ qs) → HasExpr w n a (Call a x (ThenTerm es e)) fs qs
call_end (has_folded (in_call s y) g h f r) = has_expr s (λ l. call (arguments_then y (r 0 f)))

call_only_end : {w qs : List Placed} {fs : List Frame} {m from a x n c : ℕ} {es : Terms} {e : Term} → HasFolded w 0 m from e (InCall true a x n es ∷ fs) (put (suc n) kinds.CloseRound c ∷ qs) → HasEnded w n (CallOnly a x (ThenTerm es e)) fs qs
call_only_end (has_folded (in_call s y) g h f r) = record { from = _; stands = s; reads = call_only (arguments_then y (r 0 f)) }

comma_end : {w qs : List Placed} {fs : List Frame} {u : Bool} {m from a x n c : ℕ} {es : Terms} {e : Term} → HasFolded w 0 m from e (InCall u a x n es ∷ fs) (put (suc n) kinds.Comma c ∷ qs) → Stands w (AnExpr (suc n)) (InCall u a x n (ThenTerm es e) ∷ fs) qs
comma_end (has_folded (in_call s y) g h f r) = in_call s (some_yet (arguments_then y (r 0 f)))

element_end : {w qs : List Placed} {fs : List Frame} {m from a x n c : ℕ} {e : Term} → HasFolded w 0 m from e (InElement a x n ∷ fs) (put (suc n) kinds.CloseSquare c ∷ qs) → HasExpr w n a (Element a x e) fs qs
element_end (has_folded (in_element s) g h f r) = has_expr s (λ l. element (r 0 f))

address_end : {w qs : List Placed} {fs : List Frame} {m from a b x n c : ℕ} {e : Term} → HasFolded w 0 m from e (InAddress a b x n ∷ fs) (put (suc n) kinds.CloseSquare c ∷ qs) → HasExpr w n a (ElementAddress a b x e) fs qs
address_end (has_folded (in_address s) g h f r) = has_expr s (λ l. address (r 0 f))

part_end : {w qs : List Placed} {fs : List Frame} {u : Bool} {m from a x n c : ℕ} {e : Term} → HasFolded w 0 m from e (InPart u a x n ∷ fs) (put (suc n) kinds.CloseSquare c ∷ qs) → HasTarget w u n a (TargetElement a x e) fs qs
part_end (has_folded (in_part s) g h f r) = has_target s tt (element_target (r 0 f))

colon_end : {w qs : List Placed} {fs : List Frame} {m from b c : ℕ} {d e : Term} → HasFolded w 0 m from e (Conditional b d ∷ fs) (put m kinds.Colon c ∷ qs) → Stands w (AnExpr m) (Chosen b d e ∷ fs) qs
colon_end (has_folded (in_asked s y q) g h f r) = in_chosen s y q (r 0 f)

assigned : {w qs : List Placed} {fs : List Frame} {a n m from : ℕ} {p : Target} {op : Option BinaryOperator} {e : Term} → HasFolded w 0 m from e (InAssign a n p op ∷ fs) qs → HasEnded w n (Assign a p op e) fs qs
assigned (has_folded (in_assign {ps = ps} s i r) g h f q) = record { from = ps; stands = s; reads = assign i r (q 0 f) }

stepped : {w qs : List Placed} {fs : List Frame} {a n b k m from : ℕ} {up : Bool} {e : Term} → HasFolded w 0 m from e (InBehind true a n ∷ InStep b k up ∷ fs) qs → HasEnded w k (Step b (TargetDereference a e) up) fs qs
stepped (has_folded (in_behind (in_step s i)) g h f r) = record { from = _; stands = s; reads = step_before i (dereference_target (r tight h)) }

-- ---- where a simple statement ends

-- frames in which a simple statement is a whole one
abbrev pub IsOpenToAll : List Frame → Type 0
IsOpenToAll (InInitial a ∷ fs) = ⊥
IsOpenToAll (InFinal a i c ∷ fs) = ⊥
IsOpenToAll _ = Unit {0}

plainly : {w qs : List Placed} {fs : List Frame} {n : ℕ} → Stands w (ASimple n) fs qs → IsOpenToAll fs → Stands w (AStatement n) fs qs
plainly (as_statement s) h = s
plainly (as_initial (in_initial s)) h = absurd h
plainly (in_final s r q) h = absurd h

initial_end : {w from qs : List Placed} {fs : List Frame} {n b c : ℕ} {s : Stmt} → Stands w (ASimple n) (InInitial b ∷ fs) from → Reads (Simple n s) from (put n kinds.Semicolon c ∷ qs) → Stands w (AnExpr n) (InCondition b n (With s) ∷ fs) qs
initial_end (as_initial (in_initial s)) r = in_condition s (simple_initial r)
initial_end (as_statement (as_item h)) r = elim h [ ]

final_end : {w from qs : List Placed} {fs : List Frame} {n b d : ℕ} {i : MaybeStmt} {c : MaybeTerm} {s : Stmt} → Stands w (ASimple n) (InFinal b i c ∷ fs) from → Reads (Simple n s) from (put n kinds.CloseRound d ∷ qs)
    → Stands w (AStatement n) (ForTurns b i c (With s) ∷ fs) qs
final_end (in_final s r q) z = in_for_turns s r q (simple_final z)
final_end (as_statement (as_item h)) z = elim h [ ]
final_end (as_initial h) z = elim h [ ]

abbrev pub end_kind : Bool → TokenKind
end_kind false = kinds.Semicolon
end_kind true = kinds.CloseRound

safe_end_simple : (n : ℕ) (s : Stmt) (fs : List Frame) (w qs : List Placed) (a : ℕ) → KeepsFrom w qs (λ k. HasEnded w n s fs (put k kinds.Semicolon a ∷ qs)) (end_simple n s fs)
safe_end_simple n s (InInitial b ∷ fs) w qs a = λ h. initial_end h.stands h.reads
safe_end_simple n s (InFinal b i c ∷ fs) w qs a = tt
safe_end_simple n s fs w qs a = λ h. record { n = n; from = h.from; stands = plainly h.stands tt; reads = simple h.reads }

safe_end_final : (n : ℕ) (s : Stmt) (fs : List Frame) (w qs : List Placed) (a : ℕ) → KeepsFrom w qs (λ k. HasEnded w n s fs (put k kinds.CloseRound a ∷ qs)) (end_final n s fs)
safe_end_final n s (InFinal b i c ∷ fs) w qs a = λ h. final_end h.stands h.reads
safe_end_final n s _ w qs a = tt

pub safe_ends_simple : (u : Bool) (n : ℕ) (s : Stmt) (fs : List Frame) (w qs : List Placed) (a : ℕ) → KeepsFrom w qs (λ k. HasEnded w n s fs (put k (end_kind u) a ∷ qs)) (ends_simple u n s fs)
safe_ends_simple false n s fs w qs a = safe_end_simple n s fs w qs a
safe_ends_simple true n s fs w qs a = safe_end_final n s fs w qs a

-- a declaration behind the items before it
pub declared_added : {w qs : List Placed} {fs : List Frame} {n m : ℕ} {s : Stmt} {ss : Stmts} {from : List Placed} → Stands w (AnItem n) (InItems m ss ∷ fs) from → Reads (Declaration n s) from qs → Stands w (AnItem n) (InItems m (ThenStmt ss s) ∷ fs) qs
declared_added (in_items h i) r = in_items h (declaration i r)

declared_end : {w qs : List Placed} {fs : List Frame} {a n b x k m from c : ℕ} {kind : VariableType} {ss : Stmts} {e : Term} → HasFolded w 0 m from e (InDeclare a n kind b x ∷ InItems k ss ∷ fs) (put n kinds.Semicolon c ∷ qs)
    → Stands w (AnItem n) (InItems k (ThenStmt ss (DeclareAs a kind b x e)) ∷ fs) qs
declared_end (has_folded (in_declare s r) g h f q) = declared_added s (declare_as r (q 0 f))
declared_end (has_folded (declared_initially s i) g h f q) = elim s [ ]

initially_end : {w qs : List Placed} {fs : List Frame} {a n b x d m from c : ℕ} {kind : VariableType} {e : Term} → HasFolded w 0 m from e (InDeclare a n kind b x ∷ InInitial d ∷ fs) (put n kinds.Semicolon c ∷ qs)
    → Stands w (AnExpr n) (InCondition d n (With (DeclareAs a kind b x e)) ∷ fs) qs
initially_end (has_folded (declared_initially (in_initial s) i) g h f q) = in_condition s (declared_initial i (q 0 f))
initially_end (has_folded (in_declare s r) g h f q) = elim s [ ]

return_end : {w qs : List Placed} {fs : List Frame} {a n m from c : ℕ} {e : Term} → HasFolded w 0 m from e (InReturn a n ∷ fs) (put n kinds.Semicolon c ∷ qs) → HasStatement w (ReturnValue a e) fs qs
return_end (has_folded (in_return {n = n} s) g h f r) = record { n = n; from = _; stands = s; reads = return_value (r 0 f) }

condition_end : {w qs : List Placed} {fs : List Frame} {a n m from d : ℕ} {i : MaybeStmt} {e : Term} → HasFolded w 0 m from e (InCondition a n i ∷ fs) (put n kinds.Semicolon d ∷ qs) → Stands w (ASimple n) (InFinal a i (WithTerm e) ∷ fs) qs
condition_end (has_folded (in_condition s q) g h f r) = in_final s q (condition (r 0 f))

if_end : {w qs : List Placed} {fs : List Frame} {a n m from c : ℕ} {e : Term} → HasFolded w 0 m from e (InIf a n ∷ fs) (put (suc n) kinds.CloseRound c ∷ qs) → Stands w (AStatement (suc n)) (Then a n e ∷ fs) qs
if_end (has_folded (in_if s) g h f r) = in_then s (r 0 f)

while_end : {w qs : List Placed} {fs : List Frame} {a n m from c : ℕ} {e : Term} → HasFolded w 0 m from e (InWhile a n ∷ fs) (put (suc n) kinds.CloseRound c ∷ qs) → Stands w (AStatement (suc n)) (Turns a e ∷ fs) qs
while_end (has_folded (in_while s) g h f r) = in_turns s (r 0 f)

do_end : {w qs : List Placed} {fs : List Frame} {a n m from c : ℕ} {s : Stmt} {e : Term} → HasFolded w 0 m from e (InDo a n s ∷ fs) (put (suc n) kinds.CloseRound c ∷ qs) → HasClosing w n (DoWhile a s e) fs qs
do_end {n = n} {m = m} {c = d} {e = e} (has_folded {ps = ps} (in_do s q) g h f r) =
    let R : List Placed → Type 0 = λ z. Reads (Expr 0 (suc n) e m) ps (put (suc n) kinds.CloseRound d ∷ z) in
    record { from = _; stands = s; reads = λ b rs same. do_loop q (subst R same (r 0 f)) }

behind_end : {w qs : List Placed} {fs : List Frame} {a n m from c : ℕ} {k : TokenKind} {op : Option BinaryOperator} {e : Term} → HasFolded w 0 m from e (InBehind false a n ∷ fs) (put n k c ∷ qs) → assign_of k ≡ Some op
    → Stands w (AnExpr n) (InAssign a n (TargetDereference a e) op ∷ fs) qs
behind_end (has_folded (in_behind s) g h f r) i = in_assign s i (dereference_target (r tight h))

abbrev Ending : (m from : ℕ) → Term → List Frame → TokenKind → (w qs : List Placed) → ℕ → Moved → Type 0
Ending m from e fs kind w qs a x = KeepsFrom w qs (λ k. HasFolded w 0 m from e fs (put k kind a ∷ qs)) x

safe_assigned : (u : Bool) (m from b n : ℕ) (p : Target) (op : Option BinaryOperator) (e : Term) (fs : List Frame) (w qs : List Placed) (a : ℕ) → Ending m from e (InAssign b n p op ∷ fs) (end_kind u) w qs a (ends_simple u n (Assign b p op e) fs)
safe_assigned u m from b n p op e fs w qs a =
    kept w qs (λ k. HasEnded w n (Assign b p op e) fs (put k (end_kind u) a ∷ qs)) (λ k. HasFolded w 0 m from e (InAssign b n p op ∷ fs) (put k (end_kind u) a ∷ qs)) (ends_simple u n (Assign b p op e) fs)
    (λ k g. assigned g) (safe_ends_simple u n (Assign b p op e) fs w qs a)

safe_end_step : (u : Bool) (m from b n : ℕ) (e : Term) (fs : List Frame) (w qs : List Placed) (a : ℕ) → Ending m from e (InBehind true b n ∷ fs) (end_kind u) w qs a (end_step u (TargetDereference b e) fs)
safe_end_step u m from b n e (InStep c j up ∷ fs) w qs a =
    kept w qs (λ k. HasEnded w j (Step c (TargetDereference b e) up) fs (put k (end_kind u) a ∷ qs)) (λ k. HasFolded w 0 m from e (InBehind true b n ∷ InStep c j up ∷ fs) (put k (end_kind u) a ∷ qs)) (ends_simple u j (Step c (TargetDereference b e) up) fs)
    (λ k g. stepped g) (safe_ends_simple u j (Step c (TargetDereference b e) up) fs w qs a)
safe_end_step u m from b n e _ w qs a = tt

safe_round : (m from : ℕ) (e : Term) (fs : List Frame) (w qs : List Placed) (a : ℕ) → Ending m from e fs kinds.CloseRound w qs a (on_close_round e fs)
safe_round m from e (InRound b n ∷ fs) w qs a = round_end
safe_round m from e (InCall false b x n es ∷ fs) w qs a = call_end
safe_round m from e (InCall true b x n es ∷ fs) w qs a = call_only_end
safe_round m from e (InIf b n ∷ fs) w qs a = if_end
safe_round m from e (InWhile b n ∷ fs) w qs a = while_end
safe_round m from e (InDo b n s ∷ fs) w qs a = do_end
safe_round m from e (InAssign b n p op ∷ fs) w qs a = safe_assigned true m from b n p op e fs w qs a
safe_round m from e (InBehind true b n ∷ fs) w qs a = safe_end_step true m from b n e fs w qs a
safe_round m from e _ w qs a = tt

safe_comma : (m from : ℕ) (e : Term) (fs : List Frame) (w qs : List Placed) (a : ℕ) → Ending m from e fs kinds.Comma w qs a (on_comma e fs)
safe_comma m from e (InCall u b x n es ∷ fs) w qs a = comma_end
safe_comma m from e _ w qs a = tt

safe_square : (m from : ℕ) (e : Term) (fs : List Frame) (w qs : List Placed) (a : ℕ) → Ending m from e fs kinds.CloseSquare w qs a (on_close_square e fs)
safe_square m from e (InElement b x n ∷ fs) w qs a = element_end
safe_square m from e (InAddress b c x n ∷ fs) w qs a = address_end
safe_square m from e (InPart u b x n ∷ fs) w qs a = part_end
safe_square m from e _ w qs a = tt

safe_colon : (m from : ℕ) (e : Term) (fs : List Frame) (w qs : List Placed) (a : ℕ) → Ending m from e fs kinds.Colon w qs a (on_colon m e fs)
safe_colon m from e (Conditional b d ∷ fs) w qs a = colon_end
safe_colon m from e _ w qs a = tt

safe_end_declaration : (m from b n c x : ℕ) (kind : VariableType) (e : Term) (fs : List Frame) (w qs : List Placed) (a : ℕ)
    → Ending m from e (InDeclare b n kind c x ∷ fs) kinds.Semicolon w qs a (end_declaration n (DeclareAs b kind c x e) fs)
safe_end_declaration m from b n c x kind e (InItems k ss ∷ fs) w qs a = declared_end
safe_end_declaration m from b n c x kind e (InInitial d ∷ fs) w qs a = initially_end
safe_end_declaration m from b n c x kind e _ w qs a = tt

safe_semicolon : (m from : ℕ) (e : Term) (fs : List Frame) (w qs : List Placed) (a : ℕ) → Ending m from e fs kinds.Semicolon w qs a (on_semicolon e fs)
safe_semicolon m from e (InAssign b n p op ∷ fs) w qs a = safe_assigned false m from b n p op e fs w qs a
safe_semicolon m from e (InBehind true b n ∷ fs) w qs a = safe_end_step false m from b n e fs w qs a
safe_semicolon m from e (InDeclare b n kind c x ∷ fs) w qs a = safe_end_declaration m from b n c x kind e fs w qs a
safe_semicolon m from e (InReturn b n ∷ fs) w qs a = return_end
safe_semicolon m from e (InCondition b n i ∷ fs) w qs a = condition_end
safe_semicolon m from e _ w qs a = tt

safe_assignment : (m from : ℕ) (e : Term) (fs : List Frame) (kind : TokenKind) (o : Option (Option BinaryOperator)) → assign_of kind ≡ o → (w qs : List Placed) (a : ℕ) → Ending m from e fs kind w qs a (on_assignment o e fs)
safe_assignment m from e (InBehind false b n ∷ fs) kind (Some op) i w qs a = λ g. behind_end g i
safe_assignment m from e _ kind (Some op) i w qs a = tt
safe_assignment m from e _ kind None i w qs a = tt

safe_end : (m from : ℕ) (e : Term) (fs : List Frame) (kind : TokenKind) (w qs : List Placed) (a : ℕ) → asked_level None kind ≡ 0 → Ending m from e fs kind w qs a (end_expression kind m (folded from e fs))
safe_end m from e fs kinds.Question w qs a h = absurd (let g : 1 ≡ 0 = h in omega arith)
safe_end m from e fs kinds.CloseRound w qs a h = safe_round m from e fs w qs a
safe_end m from e fs kinds.Comma w qs a h = safe_comma m from e fs w qs a
safe_end m from e fs kinds.CloseSquare w qs a h = safe_square m from e fs w qs a
safe_end m from e fs kinds.Colon w qs a h = safe_colon m from e fs w qs a
safe_end m from e fs kinds.Semicolon w qs a h = safe_semicolon m from e fs w qs a
safe_end m from e fs kind w qs a h = safe_assignment m from e fs kind (assign_of kind) refl w qs a

-- at a token that is no operator between two: `?`, or one that asks nothing
safe_whole : (m from : ℕ) (e : Term) (fs : List Frame) (kind : TokenKind) (w qs : List Placed) (a : ℕ)
    → KeepsFrom w qs (λ k. HasFolded w (asked_level None kind) m from e fs (put k kind a ∷ qs)) (end_expression kind m (folded from e fs))
safe_whole m from e fs kinds.Question w qs a = safe_ask m from a e fs w qs
safe_whole m from e fs kind w qs a = safe_end m from e fs kind w qs a refl

safe_after : (m from : ℕ) (e : Term) (fs : List Frame) (kind : TokenKind) (o : Option InfixOperator) → infix_of kind ≡ o → (w qs : List Placed) (a : ℕ)
    → Keeps w (ExpressionRead m from e) fs (record { kind = kind; at = a }) qs (after_folded o kind m (close (asked_level o kind) from e fs))
safe_after m from e fs kind (Some op) i w qs a =
    let x : Folded = close (level op) from e fs in
    kept w qs (λ k. HasFolded w (level op) m x.from x.term x.rest (put k kind a ∷ qs)) (λ k. HasExpr w m from e fs (put k kind a ∷ qs)) (after_folded (Some op) kind m x)
    (λ k g. have_folded g (level op)) (safe_wait m x.from a kind op x.term x.rest w qs i)
safe_after m from e fs kind None i w qs a =
    let x : Folded = close (asked_level None kind) from e fs in
    kept w qs (λ k. HasFolded w (asked_level None kind) m x.from x.term x.rest (put k kind a ∷ qs)) (λ k. HasExpr w m from e fs (put k kind a ∷ qs)) (end_expression kind m x)
    (λ k g. have_folded g (asked_level None kind)) (safe_whole m x.from x.term x.rest kind w qs a)

pub safe_have : (n from : ℕ) (e : Term) (fs : List Frame) (kind : TokenKind) → Safe (ExpressionRead n from e) fs kind
safe_have n from e fs kind = λ w qs a. safe_after n from e fs kind (infix_of kind) refl w qs a

pub safe_named : (n a x : ℕ) (fs : List Frame) (kind : TokenKind) → Safe (Named n a x) fs kind
safe_named n a x fs kinds.OpenSquare = λ w qs b h. in_element h
safe_named n a x fs kinds.OpenRound = λ w qs b h. call_open {u = false} h
safe_named n a x fs kind = λ w qs b.
    kept w qs (λ k. HasExpr w n a (Variable a x) fs (put k kind b ∷ qs)) (λ k. Stands w (AnExpr n) fs (put n (kinds.Name x) a ∷ put k kind b ∷ qs))
    (after_folded (infix_of kind) kind n (close (asked_level (infix_of kind) kind) a (Variable a x) fs))
    (λ k s. has_expr s (λ l. variable)) (safe_have n a (Variable a x) fs kind w qs b)

and_name : {w qs : List Placed} {fs : List Frame} {k a b x : ℕ} → HasAnd w k a fs (put k (kinds.Name x) b ∷ qs) → HasAndName w k a b x fs qs
and_name (has_and s) = has_and_name s

pub safe_after_and : (k a : ℕ) (fs : List Frame) (kind : TokenKind) → Safe (AfterAnd k a) fs kind
safe_after_and k a fs (kinds.Name x) = λ w qs b. and_name
safe_after_and k a fs _ = λ w qs b. tt

address_open : {w qs : List Placed} {fs : List Frame} {k a b c x : ℕ} → HasAndName w k a b x fs (put k kinds.OpenSquare c ∷ qs) → Stands w (AnExpr (suc k)) (InAddress a b x k ∷ fs) qs
address_open (has_and_name s) = in_address s

pub safe_and_name : (k a b x : ℕ) (fs : List Frame) (kind : TokenKind) → Safe (AndName k a b x) fs kind
safe_and_name k a b x fs kinds.OpenSquare = λ w qs c. address_open
safe_and_name k a b x fs _ = λ w qs c. tt

bare_call_end : {w qs : List Placed} {fs : List Frame} {k a x n c : ℕ} {es : Terms} → Stands w (SomeArguments k) (InCall false a x n es ∷ fs) (put (suc n) kinds.CloseRound c ∷ qs) → HasExpr w n a (Call a x es) fs qs
bare_call_end (call_open s) = has_expr s (λ l. bare_call)

bare_call_only_end : {w qs : List Placed} {fs : List Frame} {k a x n c : ℕ} {es : Terms} → Stands w (SomeArguments k) (InCall true a x n es ∷ fs) (put (suc n) kinds.CloseRound c ∷ qs) → HasEnded w n (CallOnly a x es) fs qs
bare_call_only_end (call_open s) = record { from = _; stands = s; reads = bare_call_only }

safe_close_call : (k : ℕ) (fs : List Frame) (w qs : List Placed) (a : ℕ) → Keeps w (CallOpen k) fs (record { kind = kinds.CloseRound; at = a }) qs (close_call fs)
safe_close_call k (InCall false b x n es ∷ fs) w qs a = bare_call_end
safe_close_call k (InCall true b x n es ∷ fs) w qs a = bare_call_only_end
safe_close_call k _ w qs a = tt

as_argument : {w qs : List Placed} {fs : List Frame} {k : ℕ} → Stands w (SomeArguments k) fs qs → Stands w (AnExpr k) fs qs
as_argument (call_open {u = u} s) = in_call {u = u} s none_yet

pub safe_call_open : (k : ℕ) (fs : List Frame) (kind : TokenKind) → Safe (CallOpen k) fs kind
safe_call_open k fs kinds.CloseRound = safe_close_call k fs
safe_call_open k fs kind = λ w qs a.
    kept w qs (λ n. Stands w (AnExpr k) fs (put n kind a ∷ qs)) (λ n. Stands w (SomeArguments k) fs (put n kind a ∷ qs)) (on_operand k fs (record { kind = kind; at = a }))
    (λ n s. as_argument s) (safe_operand k fs kind w qs a)

-- ---- an expression, or a semicolon in its place

no_value : {w qs : List Placed} {fs : List Frame} {k a n c : ℕ} → Stands w (AnExpr k) (InReturn a n ∷ fs) (put n kinds.Semicolon c ∷ qs) → HasStatement w (Return a) fs qs
no_value (in_return {n = n} s) = record { n = n; from = _; stands = s; reads = return_only }

always : {w qs : List Placed} {fs : List Frame} {k a n d : ℕ} {i : MaybeStmt} → Stands w (AnExpr k) (InCondition a n i ∷ fs) (put n kinds.Semicolon d ∷ qs) → Stands w (ASimple n) (InFinal a i WithoutTerm ∷ fs) qs
always (in_condition s q) = in_final s q no_condition

safe_without : (k : ℕ) (fs : List Frame) (w qs : List Placed) (a : ℕ) → Keeps w (Optional k) fs (record { kind = kinds.Semicolon; at = a }) qs (without fs)
safe_without k (InReturn b n ∷ fs) w qs a = no_value
safe_without k (InCondition b n i ∷ fs) w qs a = always
safe_without k _ w qs a = tt

pub safe_optional : (k : ℕ) (fs : List Frame) (kind : TokenKind) → Safe (Optional k) fs kind
safe_optional k fs kinds.Semicolon = safe_without k fs
safe_optional k fs kind = λ w qs a. safe_operand k fs kind w qs a
