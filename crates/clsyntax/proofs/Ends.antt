-- From each good state some program's rest can be read.
use Rattle.std.proofs.Common.{◌≡◌, ℕ, suc, pos, List, [], ◌∷◌, Bool, true, false, Option, Some, None, refl, sym, ◌∙◌, ap, subst, arith}
use Rattle.clnum.specs.Integer as whole
use Rattle.clnum.specs.declared.int_type.IntType.{IntType}
use Rattle.clnum.specs.declared.int_type.IntType.TheVariants.{Int}
use Rattle.clnum.specs.declared.operators.BinaryOperator.{BinaryOperator}
use Rattle.clmodel.specs.declared.tree.AddressSpace.{AddressSpace}
use Rattle.clmodel.specs.declared.tree.VariableType.{VariableType}
use Rattle.clmodel.specs.declared.tree.VariableType.TheVariants.{Integer}
use Rattle.clmodel.specs.Tree.{Term, Binary, Choice, Target, TargetDereference, Stmt, Empty, Block, Declare, Assign, Step, If, IfElse, While, For, DoWhile, Stmts, ThenStmt, MaybeStmt, MaybeTerm, Func, Funcs, ThenFunc}
use Rattle.clsyntax_lex.specs.declared.token.TokenKind.{TokenKind}
use Rattle.clsyntax_lex.specs.declared.token.TokenKind.TheVariants as kinds
use Rattle.clsyntax_terms.specs.Grammar.{Placed, put, Head, Prefix, Convert, prefixed_by, infix_of}
use Rattle.clsyntax_terms.specs.Machine as machine
use Rattle.clsyntax_terms.specs.Machine.{Frame, Before, Chosen, InAssign, InBehind, InStep, InCondition, InFinal, Then, Otherwise, Turns, ForTurns, InHead, InProgram, Purpose, ForParameter, ForDeclaration, nesting_of, Mode, Operand, ExpressionRead, Named, Opened, CastType, AfterAnd, AndName, CallOpen, Optional, Item, Begin, Aim, BeginName, TargetRead, Ended, Closing, StatementRead, AfterIf, AfterWhile, AfterFor, AfterDo, AfterSpace, AfterConst, AfterElement, AfterTyping, Declared, ArrayNamed, ArrayOpened, ArraySized, ArrayClosed, Top, AfterKernel, AfterReturning, AfterName, HeadOpen, WantParameter, AfterParameter, HeadDone, State, in_mode, Folded, close, asked_level, after_folded, end_expression, end_simple, ends_simple, end_step, end_items, go, Settled, settle, is_else, on_settled, step}
use Rattle.clsyntax.proofs.Moves.{Runs, stop, onward}
use Rattle.clsyntax.proofs.Levels.{close_takes, close_chooses}
use Rattle.clsyntax.proofs.Takes.{IsPlain}
use Rattle.clsyntax.proofs.Stands.{Need, AnExpr, SomeArguments, AnItem, AStatement, AnInitial, ASimple, AStepTarget, SomeItems, ABody, AHead, AfterOne, AFunction, target_need, purpose_need, Stands, in_program, in_head, first, next, after_one, head_read, in_body, in_block, in_items, as_item, as_statement, as_initial, in_then, in_otherwise, in_turns, in_do_turns, in_for_turns, in_initial, in_condition, in_final, in_if, in_while, in_do, in_return, declared_initially, in_step, in_part, in_behind, in_assign, in_declare, in_after, in_before, in_asked, in_chosen, in_round, in_element, in_address, call_open, in_call, HasExpr, has_expr, HasTarget, has_target, HasAnd, has_and, HasAndName, has_and_name, HasTyping, parameter_typing, declaration_typing, initial_typing, HasDeclared, has_declared, has_initial, GoodIn, Good}

-- a state from which tokens lead to the end of a program
pub record Done (s : State) : Type 0 where
  pub more : List Placed
  pub before : Funcs
  pub last : Func
  pub run : Runs s more (in_mode Top (InProgram (ThenFunc before last) ∷ [])) []

-- one token earlier
earlier : {s r : State} (p : Placed) → step s p.token ≡ Some (p.nesting, r) → Done r → Done s
earlier p e d = record { more = p ∷ d.more; before = d.before; last = d.last; run = onward e d.run }

-- ---- functions

done_top : (done : Funcs) → Done (in_mode Top (InProgram done ∷ []))
done_top done = record {
  more = put 0 kinds.Kernel 0 ∷ put 0 kinds.Void 0 ∷ put 0 (kinds.Name 0) 0 ∷ put 0 kinds.OpenRound 0 ∷ put 1 kinds.CloseRound 0 ∷ put 0 kinds.OpenBrace 0 ∷ put 1 kinds.CloseBrace 0 ∷ [];
  before = done;
  last = _;
  run = onward refl (onward refl (onward refl (onward refl (onward refl (onward refl (onward refl stop))))));
}

done_function : {w qs : List Placed} {fs : List Frame} → Stands w AFunction fs qs → Done (in_mode Top fs)
done_function (in_program {done = done} r) = done_top done

done_head : {w qs : List Placed} {fs : List Frame} (h : Head) → Stands w AFunction fs qs → Done (in_mode HeadDone (InHead h ∷ fs))
done_head h (in_program {done = done} r) = earlier (put 0 kinds.OpenBrace 0) refl (earlier (put 1 kinds.CloseBrace 0) refl (done_top _))

done_body : {w qs : List Placed} {fs : List Frame} → Stands w ABody fs qs → Done (in_mode HeadDone fs)
done_body (head_read {h = h} s r) = done_head h s

done_after : {w qs : List Placed} {fs : List Frame} (u : Bool) (h : Head) → Stands w AFunction fs qs → Done (in_mode (AfterParameter u) (InHead h ∷ fs))
done_after u h s = earlier (put 1 kinds.CloseRound 0) refl (done_head h s)

done_after_one : {w qs : List Placed} {fs : List Frame} {u : Bool} → Stands w (AfterOne u) fs qs → Done (in_mode (AfterParameter u) fs)
done_after_one {u = u} (after_one s o r) = done_after u _ s

done_head_open : {w qs : List Placed} {fs : List Frame} {u : Bool} → Stands w (AHead u) fs qs → Done (in_mode (HeadOpen u) fs)
done_head_open (in_head s o) = earlier (put 1 kinds.CloseRound 0) refl (done_head _ s)

done_after_name : {w qs : List Placed} {fs : List Frame} (k : Bool) (r : Option IntType) (c x : ℕ) → Stands w AFunction fs qs → Done (in_mode (AfterName k r c x) fs)
done_after_name k r c x s = earlier (put 0 kinds.OpenRound 0) refl (earlier (put 1 kinds.CloseRound 0) refl (done_head _ s))

done_after_returning : {w qs : List Placed} {fs : List Frame} (k : Bool) (r : Option IntType) → Stands w AFunction fs qs → Done (in_mode (AfterReturning k r) fs)
done_after_returning k r s = earlier (put 0 (kinds.Name 0) 0) refl (done_after_name k r 0 0 s)

a_number : whole.Integer
a_number = record { kind = Int; number = pos 0 }

-- ---- expressions

-- the end of a whole expression, at a token
record Closes (kind : TokenKind) (m : ℕ) (x : Folded) : Type 0 where
  pub nesting : ℕ
  pub state : State
  pub moves : end_expression kind m x ≡ Some (nesting, state)
  pub done : Done state

-- a token that ends each expression behind these frames
record EndsWith (fs : List Frame) : Type 0 where
  pub kind : TokenKind
  pub no_infix : infix_of kind ≡ None
  pub no_level : asked_level None kind ≡ 0
  pub closes : (m from : ℕ) (e : Term) → Closes kind m (close 0 from e fs)

done_have : {fs : List Frame} (m from : ℕ) (e : Term) → EndsWith fs → Done (in_mode (ExpressionRead m from e) fs)
done_have {fs = fs} m from e h =
    let c = h.closes m from e in
    let by_kind = ap (λ o. after_folded o h.kind m (close (asked_level o h.kind) from e fs)) h.no_infix in
    let by_level = ap (λ l. end_expression h.kind m (close l from e fs)) h.no_level in
    earlier (put c.nesting h.kind 0) (by_kind ∙ (by_level ∙ c.moves)) c.done

done_operand : {fs : List Frame} (n : ℕ) → EndsWith fs → Done (in_mode (Operand n) fs)
done_operand n h = earlier (put n (kinds.Number a_number) 0) refl (done_have n 0 _ h)

before_ends : {fs : List Frame} (b : ℕ) (p : Prefix) → EndsWith fs → EndsWith (Before b p ∷ fs)
before_ends b p below = record { kind = below.kind; no_infix = below.no_infix; no_level = below.no_level; closes = λ m from e. below.closes m b (prefixed_by p b e) }

chosen_ends : {fs : List Frame} (b : ℕ) (c d : Term) → EndsWith fs → EndsWith (Chosen b c d ∷ fs)
chosen_ends {fs = fs} b c d below = record {
  kind = below.kind;
  no_infix = below.no_infix;
  no_level = below.no_level;
  closes = λ m from e. let C : Folded → Type 0 = λ x. Closes below.kind m x in subst C (sym (close_chooses 0 b from c d e fs (omega arith))) (below.closes m b (Choice b c d e));
}

-- ---- blocks and statements

-- the brace that ends a block
record ClosesItems (n : ℕ) (ss : Stmts) (fs : List Frame) : Type 0 where
  pub state : State
  pub moves : end_items n ss fs ≡ Some (n, state)
  pub done : Done state

-- the end of a settled statement, at a token
record Follows (kind : TokenKind) (n : ℕ) (x : Settled) : Type 0 where
  pub state : State
  pub moves : on_settled x.statement x.rest (record { kind = kind; at = 0 }) ≡ Some (n, state)
  pub done : Done state

-- a token that follows each statement behind these frames
record EndsStatement (fs : List Frame) : Type 0 where
  pub kind : TokenKind
  pub nesting : ℕ
  pub no_else : is_else kind ≡ false
  pub closes : (s : Stmt) → Follows kind nesting (settle false s fs)

done_did : {fs : List Frame} (s : Stmt) → EndsStatement fs → Done (in_mode (StatementRead s) fs)
done_did {fs = fs} s h =
    let c = h.closes s in
    let to : Settled → machine.Moved = λ x. on_settled x.statement x.rest (record { kind = h.kind; at = 0 }) in
    earlier (put h.nesting h.kind 0) (ap (λ b. to (settle b s fs)) h.no_else ∙ c.moves) c.done

done_begin : {fs : List Frame} (n : ℕ) → EndsStatement fs → Done (in_mode (Begin n) fs)
done_begin n h = earlier (put n kinds.Semicolon 0) refl (done_did (Empty 0) h)

done_closing : {fs : List Frame} (n : ℕ) (s : Stmt) → EndsStatement fs → Done (in_mode (Closing n s) fs)
done_closing n s h = earlier (put n kinds.Semicolon 0) refl (done_did s h)

then_ends : {fs : List Frame} (a n : ℕ) (e : Term) → EndsStatement fs → EndsStatement (Then a n e ∷ fs)
then_ends a n e below = record { kind = below.kind; nesting = below.nesting; no_else = below.no_else; closes = λ s. below.closes (If a e s) }

otherwise_ends : {fs : List Frame} (a : ℕ) (e : Term) (s : Stmt) → EndsStatement fs → EndsStatement (Otherwise a e s ∷ fs)
otherwise_ends a e s below = record { kind = below.kind; nesting = below.nesting; no_else = below.no_else; closes = λ t. below.closes (IfElse a e s t) }

while_ends : {fs : List Frame} (a : ℕ) (e : Term) → EndsStatement fs → EndsStatement (Turns a e ∷ fs)
while_ends a e below = record { kind = below.kind; nesting = below.nesting; no_else = below.no_else; closes = λ s. below.closes (While a e s) }

for_ends : {fs : List Frame} (a : ℕ) (i : MaybeStmt) (c : MaybeTerm) (f : MaybeStmt) → EndsStatement fs → EndsStatement (ForTurns a i c f ∷ fs)
for_ends a i c f below = record { kind = below.kind; nesting = below.nesting; no_else = below.no_else; closes = λ s. below.closes (For a i c f s) }

-- ---- expressions in statements

do_ends : {fs : List Frame} (a n : ℕ) (s : Stmt) → EndsStatement fs → EndsWith (machine.InDo a n s ∷ fs)
do_ends a n s below =
    record { kind = kinds.CloseRound; no_infix = refl; no_level = refl; closes = λ m from e. record { nesting = suc n; state = _; moves = refl; done = done_closing n (DoWhile a s e) below } }

if_ends : {fs : List Frame} (n a : ℕ) → EndsStatement fs → EndsWith (machine.InIf a n ∷ fs)
if_ends n a below =
    record { kind = kinds.CloseRound; no_infix = refl; no_level = refl; closes = λ m from e. record { nesting = suc n; state = _; moves = refl; done = done_begin (suc n) (then_ends a n e below) } }

asked_ends : {fs : List Frame} (n a : ℕ) → EndsStatement fs → EndsWith (machine.InWhile a n ∷ fs)
asked_ends n a below =
    record { kind = kinds.CloseRound; no_infix = refl; no_level = refl; closes = λ m from e. record { nesting = suc n; state = _; moves = refl; done = done_begin (suc n) (while_ends a e below) } }

done_after_do : {fs : List Frame} (n a : ℕ) (s : Stmt) → EndsStatement fs → Done (in_mode (AfterDo n a s) fs)
done_after_do n a s below = earlier (put n kinds.OpenRound 0) refl (done_operand (suc n) (do_ends a n s below))

-- what ends a block, and what a statement
abbrev Ending : Need → List Frame → Type 0
Ending (SomeItems n) fs = (ss : Stmts) → ClosesItems n ss fs
Ending (AnItem n) fs = EndsStatement fs
Ending (AStatement n) fs = EndsStatement fs
Ending _ fs = Unit {0}

ending : {w qs : List Placed} {fs : List Frame} {need : Need} → Stands w need fs qs → Ending need fs
ending (in_body (in_program p) h) = λ ss. record { state = _; moves = refl; done = done_top _ }
ending (in_block {a = a} s) = λ ss. record { state = _; moves = refl; done = done_did (Block a ss) (ending s) }
ending (in_items {n = n} {ss = ss} b r) =
    let block = ending b in record { kind = kinds.CloseBrace; nesting = n; no_else = refl; closes = λ s. let c = block (ThenStmt ss s) in record { state = c.state; moves = c.moves; done = c.done } }
ending (as_item s) = ending s
ending (in_then {n = n} {a = a} {e = e} s r) = then_ends a n e (ending s)
ending (in_otherwise {a = a} {e = e} {s = s} h r q) = otherwise_ends a e s (ending h)
ending (in_turns {a = a} {e = e} s r) = while_ends a e (ending s)
ending (in_do_turns {n = n} {a = a} h) =
    let below = ending h in record { kind = kinds.While; nesting = n; no_else = refl; closes = λ s. record { state = _; moves = refl; done = done_after_do n a s below } }
ending (in_for_turns {a = a} {i = i} {f = f} {c = c} s r q z) = for_ends a i c f (ending s)
ending _ = tt

done_item : {w qs : List Placed} {fs : List Frame} {n : ℕ} → Stands w (AnItem n) fs qs → Done (in_mode (Item n) fs)
done_item {n = n} (in_items {ss = ss} b r) = let c = ending b ss in earlier (put n kinds.CloseBrace 0) c.moves c.done

-- ---- simple statements

-- the parts of a `for`
done_final : {fs : List Frame} (n a : ℕ) (i : MaybeStmt) (c : MaybeTerm) → EndsStatement fs → Done (in_mode (machine.Final n) (InFinal a i c ∷ fs))
done_final n a i c h = earlier (put n kinds.CloseRound 0) refl (done_begin n (for_ends a i c _ h))

done_condition : {fs : List Frame} (n a : ℕ) (i : MaybeStmt) → EndsStatement fs → Done (in_mode (Optional n) (InCondition a n i ∷ fs))
done_condition n a i h = earlier (put n kinds.Semicolon 0) refl (done_final n a i _ h)

-- the token that ends each simple statement behind these frames: a semicolon or a bracket
record Ends (is_bracket : Bool) (n : ℕ) (s : Stmt) (fs : List Frame) : Type 0 where
  pub state : State
  pub moves : ends_simple is_bracket n s fs ≡ Some (n, state)
  pub done : Done state

record EndsSimple (n : ℕ) (fs : List Frame) : Type 0 where
  pub is_bracket : Bool
  pub closes : (s : Stmt) → Ends is_bracket n s fs

plain : {w qs : List Placed} {fs : List Frame} {n : ℕ} → Stands w (AStatement n) fs qs → IsPlain fs
plain (as_item (in_items b r)) = λ m s. refl
plain (in_then s r) = λ m s. refl
plain (in_otherwise h r q) = λ m s. refl
plain (in_turns s r) = λ m s. refl
plain (in_do_turns h) = λ m s. refl
plain (in_for_turns s r q z) = λ m s. refl

ends_simply : {w qs : List Placed} {fs : List Frame} {n : ℕ} → Stands w (ASimple n) fs qs → EndsSimple n fs
ends_simply {n = n} (as_statement h) = record { is_bracket = false; closes = λ s. record { state = _; moves = plain h n s; done = done_did s (ending h) } }
ends_simply {n = n} (as_initial (in_initial {a = a} h)) = record { is_bracket = false; closes = λ s. record { state = _; moves = refl; done = done_condition n a _ (ending h) } }
ends_simply {n = n} (in_final {a = a} {i = i} {c = c} h r q) = record { is_bracket = true; closes = λ s. record { state = _; moves = refl; done = done_begin n (for_ends a i c _ (ending h)) } }

done_ended_by : {fs : List Frame} (n : ℕ) (s : Stmt) (u : Bool) → Ends u n s fs → Done (in_mode (Ended n s) fs)
done_ended_by n s false c = earlier (put n kinds.Semicolon 0) c.moves c.done
done_ended_by n s true c = earlier (put n kinds.CloseRound 0) c.moves c.done

done_ended : {w qs : List Placed} {fs : List Frame} {n : ℕ} (s : Stmt) → Stands w (ASimple n) fs qs → Done (in_mode (Ended n s) fs)
done_ended {n = n} s h = let x = ends_simply h in done_ended_by n s x.is_bracket (x.closes s)

assign_ends_by : {fs : List Frame} (n a : ℕ) (p : Target) (op : Option BinaryOperator) (u : Bool) → ((s : Stmt) → Ends u n s fs) → EndsWith (InAssign a n p op ∷ fs)
assign_ends_by n a p op false c =
    record { kind = kinds.Semicolon; no_infix = refl; no_level = refl; closes = λ m from e. let x = c (Assign a p op e) in record { nesting = n; state = x.state; moves = x.moves; done = x.done } }
assign_ends_by n a p op true c =
    record { kind = kinds.CloseRound; no_infix = refl; no_level = refl; closes = λ m from e. let x = c (Assign a p op e) in record { nesting = n; state = x.state; moves = x.moves; done = x.done } }

assign_ends : {w qs : List Placed} {fs : List Frame} {n : ℕ} (a : ℕ) (p : Target) (op : Option BinaryOperator) → Stands w (ASimple n) fs qs → EndsWith (InAssign a n p op ∷ fs)
assign_ends {n = n} a p op h = let x = ends_simply h in assign_ends_by n a p op x.is_bracket x.closes

step_ends_by : {fs : List Frame} (n a b k : ℕ) (up : Bool) (u : Bool) → ((s : Stmt) → Ends u n s fs) → EndsWith (InBehind true b k ∷ InStep a n up ∷ fs)
step_ends_by n a b k up false c =
    record { kind = kinds.Semicolon; no_infix = refl; no_level = refl; closes = λ m from e. let x = c (Step a (TargetDereference b e) up) in record { nesting = n; state = x.state; moves = x.moves; done = x.done } }
step_ends_by n a b k up true c =
    record { kind = kinds.CloseRound; no_infix = refl; no_level = refl; closes = λ m from e. let x = c (Step a (TargetDereference b e) up) in record { nesting = n; state = x.state; moves = x.moves; done = x.done } }

done_stepped_by : {fs : List Frame} (n a b k : ℕ) (p : Target) (up : Bool) (u : Bool) → Ends u n (Step a p up) fs → Done (in_mode (TargetRead true k b p) (InStep a n up ∷ fs))
done_stepped_by n a b k p up false c = earlier (put n kinds.Semicolon 0) c.moves c.done
done_stepped_by n a b k p up true c = earlier (put n kinds.CloseRound 0) c.moves c.done

done_aimed : {w qs : List Placed} {fs : List Frame} {n : ℕ} (u : Bool) (a : ℕ) (p : Target) → Stands w (target_need u n) fs qs → Done (in_mode (TargetRead u n a p) fs)
done_aimed {n = n} false a p s = earlier (put n kinds.Assign 0) refl (done_operand n (assign_ends a p None s))
done_aimed {n = k} true b p (in_step {n = n} {a = a} {up = up} s i) = let x = ends_simply s in done_stepped_by n a b k p up x.is_bracket (x.closes (Step a p up))

-- behind a name a target may go on with an index
done_begin_name : {w qs : List Placed} {fs : List Frame} {n : ℕ} (u : Bool) (a x : ℕ) → Stands w (target_need u n) fs qs → Done (in_mode (BeginName u n a x) fs)
done_begin_name {n = n} u a x s = earlier (put n kinds.OpenSquare 0) refl (earlier (put (suc n) (kinds.Number a_number) 0) refl (earlier (put (suc n) kinds.CloseSquare 0) refl (done_aimed u a _ s)))

done_aim : {w qs : List Placed} {fs : List Frame} {n : ℕ} → Stands w (AStepTarget n) fs qs → Done (in_mode (Aim n) fs)
done_aim {n = n} s = earlier (put n (kinds.Name 0) 0) refl (done_begin_name true 0 0 s)

-- ---- types and declarations

done_declared : {w qs : List Placed} {fs : List Frame} {n : ℕ} (a : ℕ) (kind : VariableType) (b x : ℕ) → Stands w (AnItem n) fs qs → Done (in_mode (Declared n a kind b x) fs)
done_declared {n = n} a kind b x (in_items {ss = ss} i r) =
    let c = ending i (ThenStmt ss (Declare a kind b x)) in earlier (put n kinds.Semicolon 0) refl (earlier (put n kinds.CloseBrace 0) c.moves c.done)

-- the parts of an array's declaration
done_closed : {w qs : List Placed} {fs : List Frame} {n : ℕ} (s : Stmt) → Stands w (AnItem n) fs qs → Done (in_mode (ArrayClosed n s) fs)
done_closed {n = n} s (in_items {ss = ss} i r) =
    let c = ending i (ThenStmt ss s) in earlier (put n kinds.Semicolon 0) refl (earlier (put n kinds.CloseBrace 0) c.moves c.done)

done_sized : {w qs : List Placed} {fs : List Frame} {n : ℕ} (s : Stmt) → Stands w (AnItem n) fs qs → Done (in_mode (ArraySized n s) fs)
done_sized {n = n} s h = earlier (put (suc n) kinds.CloseSquare 0) refl (done_closed s h)

done_opened_array : {w qs : List Placed} {fs : List Frame} {n : ℕ} (a : ℕ) (u : Bool) (type : IntType) (b x : ℕ) → Stands w (AnItem n) fs qs → Done (in_mode (ArrayOpened n a u type b x) fs)
done_opened_array {n = n} a u type b x h = earlier (put (suc n) (kinds.Number a_number) 0) refl (done_sized _ h)

initially_ends : {fs : List Frame} (n a d : ℕ) (kind : VariableType) (b x : ℕ) → EndsStatement fs → EndsWith (machine.InDeclare a n kind b x ∷ machine.InInitial d ∷ fs)
initially_ends n a d kind b x below = record { kind = kinds.Semicolon; no_infix = refl; no_level = refl; closes = λ m from e. record { nesting = n; state = _; moves = refl; done = done_condition n d _ below } }

done_declared_initially : {w qs : List Placed} {fs : List Frame} {n : ℕ} (a : ℕ) (kind : VariableType) (b x : ℕ) → Stands w (AnInitial n) fs qs → Done (in_mode (Declared n a kind b x) fs)
done_declared_initially {n = n} a kind b x (in_initial {a = d} s) = earlier (put n kinds.Assign 0) refl (done_operand n (initially_ends n a d kind b x (ending s)))

done_typing : {w qs : List Placed} {fs : List Frame} (p : Purpose) (kind : VariableType) → Stands w (purpose_need p) fs qs → Done (in_mode (AfterTyping p kind) fs)
done_typing (ForParameter u) kind (first s o) = earlier (put 1 (kinds.Name 0) 0) refl (done_after u _ s)
done_typing (ForParameter u) kind (next s o r) = earlier (put 1 (kinds.Name 0) 0) refl (done_after u _ s)
done_typing (ForDeclaration a n) kind s = earlier (put n (kinds.Name 0) 0) refl (done_declared a kind 0 0 s)

done_element : {w qs : List Placed} {fs : List Frame} (p : Purpose) (space : AddressSpace) (c : Bool) (type : IntType) → Stands w (purpose_need p) fs qs → Done (in_mode (AfterElement p space c type) fs)
done_element p space c type s = earlier (put (nesting_of p) kinds.Star 0) refl (done_typing p _ s)

done_space : {w qs : List Placed} {fs : List Frame} (p : Purpose) (space : AddressSpace) → Stands w (purpose_need p) fs qs → Done (in_mode (AfterSpace p space) fs)
done_space p space s = earlier (put (nesting_of p) (kinds.Type Int) 0) refl (done_element p space false Int s)

done_const : {w qs : List Placed} {fs : List Frame} (p : Purpose) (space : AddressSpace) → Stands w (purpose_need p) fs qs → Done (in_mode (AfterConst p space) fs)
done_const p space s = earlier (put (nesting_of p) (kinds.Type Int) 0) refl (done_element p space true Int s)

done_has_typing : {w qs : List Placed} {fs : List Frame} {p : Purpose} {kind : VariableType} → HasTyping w p kind fs qs → Done (in_mode (AfterTyping p kind) fs)
done_has_typing (parameter_typing {u = u} s r) = done_typing (ForParameter u) _ s
done_has_typing (declaration_typing {n = n} s r) = done_typing (ForDeclaration _ n) _ s
done_has_typing (initial_typing {n = n} s i) = earlier (put n (kinds.Name 0) 0) refl (done_declared_initially _ _ 0 0 s)

done_has_declared : {w qs : List Placed} {fs : List Frame} {n a b x : ℕ} {kind : VariableType} → HasDeclared w n a kind b x fs qs → Done (in_mode (Declared n a kind b x) fs)
done_has_declared (has_declared s r) = done_declared _ _ _ _ s
done_has_declared (has_initial s i) = done_declared_initially _ _ _ _ s

-- ---- what an expression is read for

ends_with : {w qs : List Placed} {fs : List Frame} {n : ℕ} → Stands w (AnExpr n) fs qs → EndsWith fs
ends_with (in_after {ps = ps} {fs = fs} {op = op} {d = d} s h i r) =
    let below = ends_with s in
    record {
      kind = below.kind;
      no_infix = below.no_infix;
      no_level = below.no_level;
      closes = λ m from e. let C : Folded → Type 0 = λ x. Closes below.kind m x in subst C (sym (close_takes 0 _ from op d e fs (omega arith))) (below.closes m _ (Binary _ op d e));
    }
ends_with (in_before s r) = before_ends _ _ (ends_with s)
ends_with (in_chosen s h r q) = chosen_ends _ _ _ (ends_with s)
ends_with (in_asked s h r) =
    let below = ends_with s in record { kind = kinds.Colon; no_infix = refl; no_level = refl; closes = λ m from e. record { nesting = m; state = _; moves = refl; done = done_operand m (chosen_ends _ _ e below) } }
ends_with (in_round {n = n} s) =
    let below = ends_with s in record { kind = kinds.CloseRound; no_infix = refl; no_level = refl; closes = λ m from e. record { nesting = suc n; state = _; moves = refl; done = done_have n _ _ below } }
ends_with (in_element {n = n} s) =
    let below = ends_with s in record { kind = kinds.CloseSquare; no_infix = refl; no_level = refl; closes = λ m from e. record { nesting = suc n; state = _; moves = refl; done = done_have n _ _ below } }
ends_with (in_address {n = n} s) =
    let below = ends_with s in record { kind = kinds.CloseSquare; no_infix = refl; no_level = refl; closes = λ m from e. record { nesting = suc (suc n); state = _; moves = refl; done = done_have (suc n) _ _ below } }
ends_with (in_call {u = false} {n = n} s g) =
    let below = ends_with s in record { kind = kinds.CloseRound; no_infix = refl; no_level = refl; closes = λ m from e. record { nesting = suc n; state = _; moves = refl; done = done_have n _ _ below } }
ends_with (in_call {u = true} {n = n} s g) =
    record { kind = kinds.CloseRound; no_infix = refl; no_level = refl; closes = λ m from e. record { nesting = suc n; state = _; moves = refl; done = done_ended _ s } }
ends_with (in_part {u = u} {n = n} s) =
    record { kind = kinds.CloseSquare; no_infix = refl; no_level = refl; closes = λ m from e. record { nesting = suc n; state = _; moves = refl; done = done_aimed u _ _ s } }
ends_with (in_behind {u = false} {n = n} {a = a} s) =
    record { kind = kinds.Assign; no_infix = refl; no_level = refl; closes = λ m from e. record { nesting = n; state = _; moves = refl; done = done_operand n (assign_ends a _ None s) } }
ends_with (in_behind {u = true} (in_step {n = n} s i)) = let x = ends_simply s in step_ends_by n _ _ _ _ x.is_bracket x.closes
ends_with (in_assign s i r) = assign_ends _ _ _ s
ends_with (in_declare {n = n} (in_items b i) r) =
    record {
      kind = kinds.Semicolon;
      no_infix = refl;
      no_level = refl;
      closes = λ m from e. let c = ending b _ in record { nesting = n; state = _; moves = refl; done = earlier (put n kinds.CloseBrace 0) c.moves c.done };
    }
ends_with (declared_initially {n = n} {a = a} {b = b} {x = x} (in_initial {a = d} s) i) = initially_ends n a d _ b x (ending s)
ends_with (in_return {n = n} s) =
    record { kind = kinds.Semicolon; no_infix = refl; no_level = refl; closes = λ m from e. record { nesting = n; state = _; moves = refl; done = done_did _ (ending s) } }
ends_with (in_condition {n = n} {a = a} {i = i} s q) =
    record { kind = kinds.Semicolon; no_infix = refl; no_level = refl; closes = λ m from e. record { nesting = suc n; state = _; moves = refl; done = done_final (suc n) a i _ (ending s) } }
ends_with (in_if {n = n} {a = a} s) = if_ends n a (ending s)
ends_with (in_while {n = n} {a = a} s) = asked_ends n a (ending s)
ends_with (in_do {n = n} {a = a} {s = body} s r) = do_ends a n body (ending s)

-- behind a name the same token ends the expression: with an index in front
done_named : {fs : List Frame} (n a x : ℕ) → EndsWith fs → Done (in_mode (Named n a x) fs)
done_named n a x h = earlier (put n kinds.OpenSquare 0) refl (earlier (put (suc n) (kinds.Number a_number) 0) refl (earlier (put (suc n) kinds.CloseSquare 0) refl (done_have n a _ h)))

done_opened : {fs : List Frame} (n a : ℕ) → EndsWith fs → Done (in_mode (Opened n a) fs)
done_opened n a h = earlier (put (suc n) (kinds.Number a_number) 0) refl (earlier (put (suc n) kinds.CloseRound 0) refl (done_have n a _ h))

done_cast_type : {fs : List Frame} (n a : ℕ) (type : IntType) → EndsWith fs → Done (in_mode (CastType n a type) fs)
done_cast_type n a type h = earlier (put (suc n) kinds.CloseRound 0) refl (done_operand (suc n) (before_ends a (Convert type) h))

done_and_name : {fs : List Frame} (k a b x : ℕ) → EndsWith fs → Done (in_mode (AndName k a b x) fs)
done_and_name k a b x h = earlier (put k kinds.OpenSquare 0) refl (earlier (put (suc k) (kinds.Number a_number) 0) refl (earlier (put (suc k) kinds.CloseSquare 0) refl (done_have k a _ h)))

done_after_and : {w qs : List Placed} {fs : List Frame} {k a : ℕ} → HasAnd w k a fs qs → Done (in_mode (AfterAnd k a) fs)
done_after_and {k = k} {a = a} (has_and s) = earlier (put k (kinds.Name 0) 0) refl (done_and_name k a 0 0 (ends_with s))

done_has_and_name : {w qs : List Placed} {fs : List Frame} {k a b x : ℕ} → HasAndName w k a b x fs qs → Done (in_mode (AndName k a b x) fs)
done_has_and_name {k = k} {a = a} {b = b} {x = x} (has_and_name s) = done_and_name k a b x (ends_with s)

done_call_open : {w qs : List Placed} {fs : List Frame} {k : ℕ} → Stands w (SomeArguments k) fs qs → Done (in_mode (CallOpen k) fs)
done_call_open (call_open {u = false} {n = n} s) = earlier (put (suc n) kinds.CloseRound 0) refl (done_have n _ _ (ends_with s))
done_call_open (call_open {u = true} {n = n} s) = earlier (put (suc n) kinds.CloseRound 0) refl (done_ended _ s)

done_has_expr : {w qs : List Placed} {fs : List Frame} {m from : ℕ} {e : Term} → HasExpr w m from e fs qs → Done (in_mode (ExpressionRead m from e) fs)
done_has_expr {m = m} {from = from} {e = e} (has_expr s r) = done_have m from e (ends_with s)

done_has_target : {w qs : List Placed} {fs : List Frame} {u : Bool} {n from : ℕ} {p : Target} → HasTarget w u n from p fs qs → Done (in_mode (TargetRead u n from p) fs)
done_has_target {u = u} {from = from} {p = p} (has_target s g r) = done_aimed u from p s

done_optional : {fs : List Frame} (n : ℕ) → EndsWith fs → Done (in_mode (Optional n) fs)
done_optional n h = earlier (put n (kinds.Number a_number) 0) refl (done_have n 0 _ h)

done_initial : {w qs : List Placed} {fs : List Frame} {n : ℕ} → Stands w (AnInitial n) fs qs → Done (in_mode (machine.Initial n) fs)
done_initial {n = n} (in_initial {a = a} s) = earlier (put n kinds.Semicolon 0) refl (done_condition n a _ (ending s))

finishes_in : (w qs : List Placed) (m : Mode) (fs : List Frame) → GoodIn w m fs qs → Done (in_mode m fs)
finishes_in w qs (Operand n) fs = λ g. done_operand n (ends_with g)
finishes_in w qs (Named n a x) fs = λ g. done_named n a x (ends_with g)
finishes_in w qs (Opened n a) fs = λ g. done_opened n a (ends_with g)
finishes_in w qs (CastType n a type) fs = λ g. done_cast_type n a type (ends_with g.stands)
finishes_in w qs (AfterAnd k a) fs = done_after_and
finishes_in w qs (AndName k a b x) fs = done_has_and_name
finishes_in w qs (CallOpen k) fs = done_call_open
finishes_in w qs (Ended n s) fs = λ g. done_ended s g.stands
finishes_in w qs (Optional n) fs = λ g. done_optional n (ends_with g)
finishes_in w qs (Closing n s) fs = λ g. done_closing n s (ending g.stands)
finishes_in w qs (Begin n) fs = λ g. done_begin n (ending g)
finishes_in w qs (machine.Initial n) fs = done_initial
finishes_in w qs (machine.Final n) fs = λ g. earlier (put n (kinds.Name 0) 0) refl (done_begin_name false 0 0 g)
finishes_in w qs (AfterIf n a) fs = λ g. earlier (put n kinds.OpenRound 0) refl (done_operand (suc n) (if_ends n a (ending g)))
finishes_in w qs (AfterWhile n a) fs = λ g. earlier (put n kinds.OpenRound 0) refl (done_operand (suc n) (asked_ends n a (ending g)))
finishes_in w qs (AfterFor n a) fs = λ g. earlier (put n kinds.OpenRound 0) refl (earlier (put (suc n) kinds.Semicolon 0) refl (done_condition (suc n) a _ (ending g)))
finishes_in w qs (AfterDo n a s) fs = λ g. done_after_do n a s (ending g.stands)
finishes_in w qs (ExpressionRead n from e) fs = done_has_expr
finishes_in w qs (Item n) fs = done_item
finishes_in w qs (Aim n) fs = done_aim
finishes_in w qs (BeginName u n a x) fs = done_begin_name u a x
finishes_in w qs (TargetRead u n a p) fs = done_has_target
finishes_in w qs (StatementRead s) fs = λ g. done_did s (ending g.stands)
finishes_in w qs (AfterSpace p space) fs = λ g. done_space p space g.stands
finishes_in w qs (AfterConst p space) fs = λ g. done_const p space g.stands
finishes_in w qs (AfterElement p space c type) fs = λ g. done_element p space c type g.before.stands
finishes_in w qs (AfterTyping p kind) fs = done_has_typing
finishes_in w qs (Declared n a kind b x) fs = done_has_declared
finishes_in w qs (ArrayNamed n a u type b x) fs = λ g. earlier (put n kinds.OpenSquare 0) refl (done_opened_array a u type b x g.stands)
finishes_in w qs (ArrayOpened n a u type b x) fs = λ g. done_opened_array a u type b x g.stands
finishes_in w qs (ArraySized n s) fs = λ g. done_sized s g.stands
finishes_in w qs (ArrayClosed n s) fs = λ g. done_closed s g.stands
finishes_in w qs Top fs = done_function
finishes_in w qs AfterKernel fs = λ g. earlier (put 0 kinds.Void 0) refl (done_after_returning true None g.1)
finishes_in w qs (AfterReturning k r) fs = λ g. done_after_returning k r g.stands
finishes_in w qs (AfterName k r c x) fs = λ g. done_after_name k r c x g.stands
finishes_in w qs (HeadOpen u) fs = done_head_open
finishes_in w qs (WantParameter u) fs = λ g. earlier (put 1 (kinds.Type Int) 0) refl (done_typing (ForParameter u) (Integer Int) g)
finishes_in w qs (AfterParameter u) fs = done_after_one
finishes_in w qs HeadDone fs = done_body

pub finishes : (w qs : List Placed) (s : State) → Good w s qs → Done s
finishes w qs s g = finishes_in w qs s.mode s.frames g
