-- How the machine's states move at the tokens of the grammar's rules.
use Rattle.std.proofs.Common.{◌≡◌, ℕ, suc, ◌≤◌, List, [], ◌∷◌, Bool, true, false, Option, Some, None, refl, sym, ◌∙◌, ap, arith}
use Rattle.clnum.specs.declared.int_type.IntType.{IntType}
use Rattle.clnum.specs.declared.int_type.IntType.TheVariants.{Ulong}
use Rattle.clnum.specs.declared.operators.BinaryOperator.{BinaryOperator}
use Rattle.clmodel.specs.declared.tree.InfixOperator.{InfixOperator}
use Rattle.clmodel.specs.declared.tree.AddressSpace.{AddressSpace}
use Rattle.clmodel.specs.declared.tree.AddressSpace.TheVariants.{Local}
use Rattle.clmodel.specs.declared.tree.VariableType.TheVariants.{Integer}
use Rattle.clmodel.specs.Tree.{Term, Variable, Binary, Choice, Target, TargetVariable, TargetDereference, Stmt, If, IfElse, While, For, Assign, Step, Stmts, ThenStmt, MaybeStmt, MaybeTerm}
use Rattle.clsyntax_lex.specs.declared.token.Token.{Token}
use Rattle.clsyntax_lex.specs.declared.token.TokenKind.{TokenKind}
use Rattle.clsyntax_lex.specs.declared.token.TokenKind.TheVariants as kinds
use Rattle.clsyntax_terms.specs.Grammar.{Placed, put, level, tight, Prefix, prefix_of, prefixed_by, type_of, assign_of, step_of, IsNamed, IsNoElse, pointer_to}
use Rattle.clsyntax_terms.specs.Machine.{Frame, After, Before, Chosen, InRound, InPart, InBehind, InStep, InAssign, InItems, Then, Otherwise, Turns, ForTurns, Purpose, ForParameter, ForDeclaration, takes_size, nesting_of, Mode, Operand, ExpressionRead, Named, Opened, CastType, CallOpen, Optional, Item, Begin, Initial, Final, Aim, BeginName, TargetRead, Ended, StatementRead, AfterElement, AfterTyping, AfterReturning, HeadOpen, WantParameter, State, in_mode, Moved, go, when, on_operand, on_prefix, on_opened, on_expression_read, on_named, on_call_open, end_simple, on_optional, on_typing, on_after_const, on_after_space, on_head_open, on_top, on_simple, on_begin, on_item, on_initial, on_final, is_else, Settled, settle, on_settled, on_placed, on_target_read, on_begin_name, step}
use Rattle.clsyntax.proofs.Moves.{Runs, stop, onward, Alike}
use Rattle.clsyntax.proofs.Levels.{asks, IsNoOpening, Follows, taken, chosen_taken}

abbrev token_of : TokenKind → ℕ → Token
token_of kind at = record { kind = kind; at = at }

-- ---- operands

-- a state takes what an operand's state takes
pub record TakesOperand (s : State) (n : ℕ) (fs : List Frame) : Type 0 where
  pub takes : (t : Token) (x : ℕ × State) → on_operand n fs t ≡ Some x → step s t ≡ Some x

pub at_operand : (n : ℕ) (fs : List Frame) → TakesOperand (in_mode (Operand n) fs) n fs
at_operand n fs = record { takes = λ t x e. e }

call_takes : (n : ℕ) (fs : List Frame) (kind : TokenKind) (at : ℕ) (x : ℕ × State) → on_operand n fs (token_of kind at) ≡ Some x → on_call_open n fs (token_of kind at) ≡ Some x
call_takes n fs kinds.CloseRound at x e = let clash : None ≡ Some x = e in cc
call_takes n fs _ at x e = e

pub at_call : (n : ℕ) (fs : List Frame) → TakesOperand (in_mode (CallOpen n) fs) n fs
at_call n fs = record { takes = λ t x e. call_takes n fs t.kind t.at x e }

opened_takes : (n a : ℕ) (fs : List Frame) (kind : TokenKind) (at : ℕ) (x : ℕ × State) → on_operand (suc n) (InRound a n ∷ fs) (token_of kind at) ≡ Some x → on_opened n a fs (token_of kind at) ≡ Some x
opened_takes n a fs (kinds.Type type) at x e = let clash : None ≡ Some x = e in cc
opened_takes n a fs kinds.SizeT at x e = let clash : None ≡ Some x = e in cc
opened_takes n a fs _ at x e = e

pub at_opened : (n a : ℕ) (fs : List Frame) → TakesOperand (in_mode (Opened n a) fs) (suc n) (InRound a n ∷ fs)
at_opened n a fs = record { takes = λ t x e. opened_takes n a fs t.kind t.at x e }

optional_takes : (n : ℕ) (fs : List Frame) (kind : TokenKind) (at : ℕ) (x : ℕ × State) → on_operand n fs (token_of kind at) ≡ Some x → on_optional n fs (token_of kind at) ≡ Some x
optional_takes n fs kinds.Semicolon at x e = let clash : None ≡ Some x = e in cc
optional_takes n fs _ at x e = e

pub at_optional : (n : ℕ) (fs : List Frame) → TakesOperand (in_mode (Optional n) fs) n fs
at_optional n fs = record { takes = λ t x e. optional_takes n fs t.kind t.at x e }

pub prefix_step : (n : ℕ) (fs : List Frame) (k : TokenKind) (p : Prefix) (at : ℕ) → prefix_of k ≡ Some p → on_operand n fs (token_of k at) ≡ go n (Operand (suc n)) (Before at p ∷ fs)
prefix_step n fs (kinds.Number v) p at e = let clash : None ≡ Some p = e in cc
prefix_step n fs (kinds.Name x) p at e = let clash : None ≡ Some p = e in cc
prefix_step n fs kinds.And p at e = let clash : None ≡ Some p = e in cc
prefix_step n fs kinds.OpenRound p at e = let clash : None ≡ Some p = e in cc
prefix_step n fs _ p at e = ap (λ o. on_prefix o n at fs) e

pub cast_step : (n a : ℕ) (fs : List Frame) (k : TokenKind) (type : IntType) (at : ℕ) → type_of true k ≡ Some type → on_opened n a fs (token_of k at) ≡ go (suc n) (CastType n a type) fs
cast_step n a fs (kinds.Type word) type at e = let same : word ≡ type = cc in ap (λ z. go (suc n) (CastType n a z) fs) same
cast_step n a fs kinds.SizeT type at e = let f : Some _ ≡ Some type = e in let same : _ ≡ type = cc in ap (λ z. go (suc n) (CastType n a z) fs) same
cast_step n a fs _ type at e = let clash : None ≡ Some type = e in cc

-- a name moves as an expression does, but at an opening bracket
named_same : (n a x : ℕ) (fs : List Frame) (kind : TokenKind) (at : ℕ) → IsNoOpening kind → on_named n a x fs (token_of kind at) ≡ on_expression_read n a (Variable a x) fs (token_of kind at)
named_same n a x fs kinds.OpenRound at h = absurd h
named_same n a x fs kinds.OpenSquare at h = absurd h
named_same n a x fs _ at h = refl

pub named_alike : (l n a x : ℕ) (fs : List Frame) (qs : List Placed) → Follows l qs → Alike (in_mode (Named n a x) fs) (in_mode (ExpressionRead n a (Variable a x)) fs) qs
named_alike l n a x fs [] f = tt
named_alike l n a x fs (q ∷ qs) f = named_same n a x fs q.token.kind q.token.at f.no_opening

-- ---- what an expression is read for takes it at the next token

pub prefixed_alike : (m b from : ℕ) (p : Prefix) (e : Term) (fs : List Frame) (qs : List Placed) → Alike (in_mode (ExpressionRead m from e) (Before b p ∷ fs)) (in_mode (ExpressionRead m b (prefixed_by p b e)) fs) qs
prefixed_alike m b from p e fs [] = tt
prefixed_alike m b from p e fs (q ∷ qs) = refl

pub taken_alike : (l m b from : ℕ) (op : InfixOperator) (d e : Term) (fs : List Frame) (qs : List Placed) → Follows l qs → l ≤ level op
    → Alike (in_mode (ExpressionRead m from e) (After b op d ∷ fs)) (in_mode (ExpressionRead m b (Binary b op d e)) fs) qs
taken_alike l m b from op d e fs [] f h = tt
taken_alike l m b from op d e fs (q ∷ qs) f h = taken m b from op d e fs q.token (let g = f.level_ in omega arith)

pub chosen_alike : (m b from : ℕ) (c d e : Term) (fs : List Frame) (qs : List Placed) → Follows 0 qs → Alike (in_mode (ExpressionRead m from e) (Chosen b c d ∷ fs)) (in_mode (ExpressionRead m b (Choice b c d e)) fs) qs
chosen_alike m b from c d e fs [] f = tt
chosen_alike m b from c d e fs (q ∷ qs) f = chosen_taken m b from c d e fs q.token f.level_

-- ---- statements begin

-- a simple statement in front of these frames is a whole one at its semicolon
abbrev pub IsPlain : List Frame → Type 0
IsPlain fs = (n : ℕ) (s : Stmt) → end_simple n s fs ≡ go n (StatementRead s) fs

-- a state takes what a statement's state takes; so for a simple one
pub record TakesStatement (s : State) (n : ℕ) (fs : List Frame) : Type 0 where
  pub plain : IsPlain fs
  pub takes : (t : Token) (x : ℕ × State) → on_begin n fs t ≡ Some x → step s t ≡ Some x

pub record TakesSimple (s : State) (n : ℕ) (fs : List Frame) : Type 0 where
  pub takes : (t : Token) (x : ℕ × State) → on_simple n fs t ≡ Some x → step s t ≡ Some x

pub at_begin : (n : ℕ) (fs : List Frame) → IsPlain fs → TakesStatement (in_mode (Begin n) fs) n fs
at_begin n fs h = record { plain = h; takes = λ t x e. e }

item_takes : (n : ℕ) (fs : List Frame) (kind : TokenKind) (at : ℕ) (x : ℕ × State) → on_begin n fs (token_of kind at) ≡ Some x → on_item n fs (token_of kind at) ≡ Some x
item_takes n fs kinds.CloseBrace at x e = let clash : None ≡ Some x = e in cc
item_takes n fs (kinds.Type type) at x e = let clash : None ≡ Some x = e in cc
item_takes n fs kinds.SizeT at x e = let clash : None ≡ Some x = e in cc
item_takes n fs (kinds.Space space) at x e = let clash : None ≡ Some x = e in cc
item_takes n fs _ at x e = e

pub at_item : (n : ℕ) (fs : List Frame) → IsPlain fs → TakesStatement (in_mode (Item n) fs) n fs
at_item n fs h = record { plain = h; takes = λ t x e. item_takes n fs t.kind t.at x e }

begin_takes : (n : ℕ) (fs : List Frame) (kind : TokenKind) (at : ℕ) (x : ℕ × State) → on_simple n fs (token_of kind at) ≡ Some x → on_begin n fs (token_of kind at) ≡ Some x
begin_takes n fs (kinds.Name y) at x e = e
begin_takes n fs kinds.Star at x e = e
begin_takes n fs kinds.PlusPlus at x e = e
begin_takes n fs kinds.MinusMinus at x e = e
begin_takes n fs _ at x e = let clash : None ≡ Some x = e in absurd cc

pub simply : {s : State} {n : ℕ} {fs : List Frame} → TakesStatement s n fs → TakesSimple s n fs
simply {n = n} {fs = fs} h = record { takes = λ t x e. h.takes t x (begin_takes n fs t.kind t.at x e) }

initial_takes : (n : ℕ) (fs : List Frame) (kind : TokenKind) (at : ℕ) (x : ℕ × State) → on_simple n fs (token_of kind at) ≡ Some x → on_initial n fs (token_of kind at) ≡ Some x
initial_takes n fs (kinds.Type type) at x e = let clash : None ≡ Some x = e in cc
initial_takes n fs kinds.SizeT at x e = let clash : None ≡ Some x = e in cc
initial_takes n fs kinds.Semicolon at x e = let clash : None ≡ Some x = e in cc
initial_takes n fs _ at x e = e

pub at_initial : (n : ℕ) (fs : List Frame) → TakesSimple (in_mode (Initial n) fs) n fs
at_initial n fs = record { takes = λ t x e. initial_takes n fs t.kind t.at x e }

final_takes : (n : ℕ) (fs : List Frame) (kind : TokenKind) (at : ℕ) (x : ℕ × State) → on_simple n fs (token_of kind at) ≡ Some x → on_final n fs (token_of kind at) ≡ Some x
final_takes n fs kinds.CloseRound at x e = let clash : None ≡ Some x = e in cc
final_takes n fs _ at x e = e

pub at_final : (n : ℕ) (fs : List Frame) → TakesSimple (in_mode (Final n) fs) n fs
at_final n fs = record { takes = λ t x e. final_takes n fs t.kind t.at x e }

-- ---- targets

-- where a target is read: at a statement's begin, or behind the step before it
pub data TargetFrom : Bool → State → ℕ → List Frame → Type 0 where
  from_simple : {s : State} {n : ℕ} {fs : List Frame} → TakesSimple s n fs → TargetFrom false s n fs
  from_aim : {n : ℕ} {fs : List Frame} → TargetFrom true (in_mode (Aim n) fs) n fs

-- where a simple statement ends: at a semicolon, or the bracket of a `for`
pub data AtEnd : List Placed → Type 0 where
  at_semicolon : {n d : ℕ} {rest : List Placed} → AtEnd (put n kinds.Semicolon d ∷ rest)
  at_bracket : {n d : ℕ} {rest : List Placed} → AtEnd (put n kinds.CloseRound d ∷ rest)

-- what follows a target: an assignment or a step; behind a step before it, the end of a simple statement
pub data AfterTarget : Bool → Target → List Placed → Type 0 where
  assigns : {n d : ℕ} {k : TokenKind} {op : Option BinaryOperator} {t : Target} {rest : List Placed} → assign_of k ≡ Some op → AfterTarget false t (put n k d ∷ rest)
  steps : {n d : ℕ} {k : TokenKind} {up : Bool} {t : Target} {rest : List Placed} → step_of k ≡ Some up → IsNamed t → AfterTarget false t (put n k d ∷ rest)
  stops : {t : Target} {qs : List Placed} → AtEnd qs → AfterTarget true t qs

pub end_stops : {t : Target} {qs : List Placed} → AtEnd qs → AfterTarget true t qs
end_stops h = stops h

pub end_follows : (l : ℕ) (qs : List Placed) → AtEnd qs → Follows l qs
end_follows l _ at_semicolon = record { level_ = omega arith; no_opening = tt }
end_follows l _ at_bracket = record { level_ = omega arith; no_opening = tt }

assign_no_opening : (k : TokenKind) (op : Option BinaryOperator) → assign_of k ≡ Some op → IsNoOpening k
assign_no_opening kinds.OpenRound op e = let clash : None ≡ Some op = e in cc
assign_no_opening kinds.OpenSquare op e = let clash : None ≡ Some op = e in cc
assign_no_opening _ op e = tt

step_no_opening : (k : TokenKind) (up : Bool) → step_of k ≡ Some up → IsNoOpening k
step_no_opening kinds.OpenRound up e = let clash : None ≡ Some up = e in cc
step_no_opening kinds.OpenSquare up e = let clash : None ≡ Some up = e in cc
step_no_opening _ up e = tt

begin_same : (u : Bool) (n a x : ℕ) (fs : List Frame) (k : TokenKind) (at : ℕ) → IsNoOpening k → on_begin_name u n a x fs (token_of k at) ≡ on_target_read u n a (TargetVariable a x) fs k
begin_same u n a x fs kinds.OpenRound at h = absurd h
begin_same u n a x fs kinds.OpenSquare at h = absurd h
begin_same u n a x fs _ at h = refl

pub begin_alike : (u : Bool) (n a x : ℕ) (fs : List Frame) {t : Target} (qs : List Placed) → AfterTarget u t qs → Alike (in_mode (BeginName u n a x) fs) (in_mode (TargetRead u n a (TargetVariable a x)) fs) qs
begin_alike u n a x fs _ (assigns {d = d} {k = k} {op = op} e) = begin_same false n a x fs k d (assign_no_opening k op e)
begin_alike u n a x fs _ (steps {d = d} {k = k} {up = up} e g) = begin_same false n a x fs k d (step_no_opening k up e)
begin_alike u n a x fs _ (stops at_semicolon) = refl
begin_alike u n a x fs _ (stops at_bracket) = refl

-- an assignment asks nothing of the operators before it
assign_asks : (k : TokenKind) (op : Option BinaryOperator) → assign_of k ≡ Some op → asks k ≡ 0
assign_asks kinds.Assign op e = refl
assign_asks kinds.PlusAssign op e = refl
assign_asks kinds.MinusAssign op e = refl
assign_asks kinds.StarAssign op e = refl
assign_asks kinds.SlashAssign op e = refl
assign_asks kinds.PercentAssign op e = refl
assign_asks kinds.ShiftLeftAssign op e = refl
assign_asks kinds.ShiftRightAssign op e = refl
assign_asks kinds.AndAssign op e = refl
assign_asks kinds.CaretAssign op e = refl
assign_asks kinds.OrAssign op e = refl
assign_asks _ op e = let clash : None ≡ Some op = e in absurd cc

pub target_ends : (t : Target) (u : Bool) (qs : List Placed) → AfterTarget u t qs → (IsNamed t → ⊥) → Follows tight qs
target_ends t u _ (assigns {k = k} {op = op} e) h = record { level_ = (let g = assign_asks k op e in omega arith); no_opening = assign_no_opening k op e }
target_ends t u _ (steps e g) h = absurd (h g)
target_ends t u qs (stops f) h = end_follows tight qs f

behind_assign : (n m a from d : ℕ) (e : Term) (fs : List Frame) (k : TokenKind) (op : Option BinaryOperator) → assign_of k ≡ Some op
    → on_expression_read m from e (InBehind false a n ∷ fs) (token_of k d) ≡ on_target_read false n a (TargetDereference a e) fs k
behind_assign n m a from d e fs kinds.Assign op h = refl
behind_assign n m a from d e fs kinds.PlusAssign op h = refl
behind_assign n m a from d e fs kinds.MinusAssign op h = refl
behind_assign n m a from d e fs kinds.StarAssign op h = refl
behind_assign n m a from d e fs kinds.SlashAssign op h = refl
behind_assign n m a from d e fs kinds.PercentAssign op h = refl
behind_assign n m a from d e fs kinds.ShiftLeftAssign op h = refl
behind_assign n m a from d e fs kinds.ShiftRightAssign op h = refl
behind_assign n m a from d e fs kinds.AndAssign op h = refl
behind_assign n m a from d e fs kinds.CaretAssign op h = refl
behind_assign n m a from d e fs kinds.OrAssign op h = refl
behind_assign n m a from d e fs _ op h = let clash : None ≡ Some op = h in absurd cc

pub behind_alike : (u : Bool) (n m a from : ℕ) (e : Term) (fs : List Frame) (qs : List Placed) → AfterTarget u (TargetDereference a e) qs
    → Alike (in_mode (ExpressionRead m from e) (InBehind u a n ∷ fs)) (in_mode (TargetRead u n a (TargetDereference a e)) fs) qs
behind_alike u n m a from e fs _ (assigns {d = d} {k = k} {op = op} h) = behind_assign n m a from d e fs k op h
behind_alike u n m a from e fs _ (steps h g) = absurd g
behind_alike u n m a from e fs _ (stops at_semicolon) = refl
behind_alike u n m a from e fs _ (stops at_bracket) = refl

pub name_begins : {u : Bool} {s : State} {n : ℕ} {fs : List Frame} (a x : ℕ) (ps : List Placed) → TargetFrom u s n fs → Runs s (put n (kinds.Name x) a ∷ ps) (in_mode (BeginName u n a x) fs) ps
name_begins a x ps (from_simple h) = onward (h.takes (token_of (kinds.Name x) a) _ refl) stop
name_begins a x ps from_aim = onward refl stop

pub part_begins : {u : Bool} {s : State} {n : ℕ} {fs : List Frame} (a x b : ℕ) (ps : List Placed) → TargetFrom u s n fs
    → Runs s (put n (kinds.Name x) a ∷ put n kinds.OpenSquare b ∷ ps) (in_mode (Operand (suc n)) (InPart u a x n ∷ fs)) ps
part_begins a x b ps (from_simple h) = onward (h.takes (token_of (kinds.Name x) a) _ refl) (onward refl stop)
part_begins a x b ps from_aim = onward refl (onward refl stop)

pub star_begins : {u : Bool} {s : State} {n : ℕ} {fs : List Frame} (a : ℕ) (ps : List Placed) → TargetFrom u s n fs → Runs s (put n kinds.Star a ∷ ps) (in_mode (Operand (suc n)) (InBehind u a n ∷ fs)) ps
star_begins a ps (from_simple h) = onward (h.takes (token_of kinds.Star a) _ refl) stop
star_begins a ps from_aim = onward refl stop

-- ---- simple statements

pub assign_step : (n a : ℕ) (p : Target) (fs : List Frame) (k : TokenKind) (op : Option BinaryOperator) → assign_of k ≡ Some op → on_target_read false n a p fs k ≡ go n (Operand n) (InAssign a n p op ∷ fs)
assign_step n a p fs k op e = ap (λ o. on_placed o (step_of k) n a p fs) e

pub assign_alike : (n m from a : ℕ) (p : Target) (op : Option BinaryOperator) (e : Term) (fs : List Frame) (qs : List Placed) → AtEnd qs
    → Alike (in_mode (ExpressionRead m from e) (InAssign a n p op ∷ fs)) (in_mode (Ended n (Assign a p op e)) fs) qs
assign_alike n m from a p op e fs _ at_semicolon = refl
assign_alike n m from a p op e fs _ at_bracket = refl

pub step_begins : (n a : ℕ) (fs : List Frame) (k : TokenKind) (up : Bool) → step_of k ≡ Some up → on_simple n fs (token_of k a) ≡ go n (Aim (suc n)) (InStep a n up ∷ fs)
step_begins n a fs kinds.PlusPlus up e = let same : true ≡ up = cc in ap (λ z. go n (Aim (suc n)) (InStep a n z ∷ fs)) same
step_begins n a fs kinds.MinusMinus up e = let same : false ≡ up = cc in ap (λ z. go n (Aim (suc n)) (InStep a n z ∷ fs)) same
step_begins n a fs _ up e = let clash : None ≡ Some up = e in absurd cc

pub step_ends : (n a : ℕ) (p : Target) (fs : List Frame) (k : TokenKind) (up : Bool) → step_of k ≡ Some up → on_target_read false n a p fs k ≡ go n (Ended n (Step a p up)) fs
step_ends n a p fs kinds.PlusPlus up e = let same : true ≡ up = cc in ap (λ z. go n (Ended n (Step a p z)) fs) same
step_ends n a p fs kinds.MinusMinus up e = let same : false ≡ up = cc in ap (λ z. go n (Ended n (Step a p z)) fs) same
step_ends n a p fs _ up e = let clash : None ≡ Some up = e in absurd cc

pub step_alike : (n k a b : ℕ) (p : Target) (up : Bool) (fs : List Frame) (qs : List Placed) → AtEnd qs → Alike (in_mode (TargetRead true k b p) (InStep a n up ∷ fs)) (in_mode (Ended n (Step a p up)) fs) qs
step_alike n k a b p up fs _ at_semicolon = refl
step_alike n k a b p up fs _ at_bracket = refl

-- ---- what a statement stands in takes it at the next token

-- a statement is added to those before it
pub did_then : (n : ℕ) (ss : Stmts) (s : Stmt) (fs : List Frame) (ps : List Placed) → Alike (in_mode (StatementRead s) (InItems n ss ∷ fs)) (in_mode (Item n) (InItems n (ThenStmt ss s) ∷ fs)) ps
did_then n ss s fs [] = tt
did_then n ss s fs (p ∷ ps) = refl

pub not_else : (k : TokenKind) → (k ≡ kinds.Else → ⊥) → is_else k ≡ false
not_else kinds.Else h = absurd (h refl)
not_else _ h = refl

pub if_alike : (a n : ℕ) (e : Term) (s : Stmt) (fs : List Frame) (ps : List Placed) → IsNoElse ps → Alike (in_mode (StatementRead s) (Then a n e ∷ fs)) (in_mode (StatementRead (If a e s)) fs) ps
if_alike a n e s fs [] h = tt
if_alike a n e s fs (p ∷ ps) h =
    let k = not_else p.token.kind h in
    let on : Settled → Moved = λ x. on_settled x.statement x.rest p.token in
    ap (λ b. on (settle b s (Then a n e ∷ fs))) k ∙ ap (λ b. on (settle b (If a e s) fs)) (sym k)

pub else_alike : (a : ℕ) (e : Term) (s t : Stmt) (fs : List Frame) (ps : List Placed) → Alike (in_mode (StatementRead t) (Otherwise a e s ∷ fs)) (in_mode (StatementRead (IfElse a e s t)) fs) ps
else_alike a e s t fs [] = tt
else_alike a e s t fs (p ∷ ps) = refl

pub while_alike : (a : ℕ) (e : Term) (s : Stmt) (fs : List Frame) (ps : List Placed) → Alike (in_mode (StatementRead s) (Turns a e ∷ fs)) (in_mode (StatementRead (While a e s)) fs) ps
while_alike a e s fs [] = tt
while_alike a e s fs (p ∷ ps) = refl

pub for_alike : (a : ℕ) (i f : MaybeStmt) (c : MaybeTerm) (s : Stmt) (fs : List Frame) (ps : List Placed) → Alike (in_mode (StatementRead s) (ForTurns a i c f ∷ fs)) (in_mode (StatementRead (For a i c f s)) fs) ps
for_alike a i f c s fs [] = tt
for_alike a i f c s fs (p ∷ ps) = refl

-- ---- types

-- where a type is read, which begins at an offset
pub data TypingFrom : Purpose → Mode → Bool → ℕ → ℕ → Type 0 where
  of_first : {u : Bool} {a : ℕ} → TypingFrom (ForParameter u) (HeadOpen u) u 1 a
  of_next : {u : Bool} {a : ℕ} → TypingFrom (ForParameter u) (WantParameter u) u 1 a
  of_declaration : {n a : ℕ} → TypingFrom (ForDeclaration a n) (Item n) true n a

typing_word : (p : Purpose) (fs : List Frame) (k : TokenKind) (type : IntType) (u : Bool) → takes_size p ≡ u → type_of u k ≡ Some type → on_typing p fs k ≡ go (nesting_of p) (AfterTyping p (Integer type)) fs
typing_word p fs (kinds.Type word) type u h e = let same : word ≡ type = cc in ap (λ z. go (nesting_of p) (AfterTyping p (Integer z)) fs) same
typing_word p fs kinds.SizeT type true h e = let f : Some Ulong ≡ Some type = e in let same : Ulong ≡ type = cc in ap (λ b. when b (go (nesting_of p) (AfterTyping p (Integer Ulong)) fs)) h ∙ ap (λ z. go (nesting_of p) (AfterTyping p (Integer z)) fs) same
typing_word p fs kinds.SizeT type false h e = let clash : None ≡ Some type = e in absurd cc
typing_word p fs _ type u h e = let clash : None ≡ Some type = e in absurd cc

element_word : (p : Purpose) (space : AddressSpace) (c : Bool) (fs : List Frame) (k : TokenKind) (type : IntType) (u : Bool) → takes_size p ≡ u → type_of u k ≡ Some type → on_after_const p space c fs k ≡ go (nesting_of p) (AfterElement p space c type) fs
element_word p space c fs (kinds.Type word) type u h e = let same : word ≡ type = cc in ap (λ z. go (nesting_of p) (AfterElement p space c z) fs) same
element_word p space c fs kinds.SizeT type true h e = let f : Some Ulong ≡ Some type = e in let same : Ulong ≡ type = cc in ap (λ b. when b (go (nesting_of p) (AfterElement p space c Ulong) fs)) h ∙ ap (λ z. go (nesting_of p) (AfterElement p space c z) fs) same
element_word p space c fs kinds.SizeT type false h e = let clash : None ≡ Some type = e in absurd cc
element_word p space c fs _ type u h e = let clash : None ≡ Some type = e in absurd cc

space_word : (p : Purpose) (space : AddressSpace) (fs : List Frame) (k : TokenKind) (type : IntType) (u : Bool) → takes_size p ≡ u → type_of u k ≡ Some type → on_after_space p space fs k ≡ go (nesting_of p) (AfterElement p space false type) fs
space_word p space fs kinds.Const type u h e = let clash : None ≡ Some type = e in absurd cc
space_word p space fs k type u h e = element_word p space false fs k type u h e

head_same : (u : Bool) (fs : List Frame) (k : TokenKind) (a : ℕ) (type : IntType) → type_of u k ≡ Some type → on_head_open u fs (token_of k a) ≡ on_typing (ForParameter u) fs k
head_same u fs kinds.CloseRound a type e = let clash : None ≡ Some type = e in absurd cc
head_same u fs _ a type e = refl

item_same : (n : ℕ) (fs : List Frame) (k : TokenKind) (a : ℕ) (type : IntType) → type_of true k ≡ Some type → on_item n fs (token_of k a) ≡ on_typing (ForDeclaration a n) fs k
item_same n fs (kinds.Type word) a type e = refl
item_same n fs kinds.SizeT a type e = refl
item_same n fs _ a type e = let clash : None ≡ Some type = e in absurd cc

initial_same : (n : ℕ) (fs : List Frame) (k : TokenKind) (a : ℕ) (type : IntType) → type_of true k ≡ Some type → on_initial n fs (token_of k a) ≡ on_typing (ForDeclaration a n) fs k
initial_same n fs (kinds.Type word) a type e = refl
initial_same n fs kinds.SizeT a type e = refl
initial_same n fs _ a type e = let clash : None ≡ Some type = e in absurd cc

-- the type of what a `for` declares
pub initial_begins : (n a : ℕ) (k : TokenKind) (type : IntType) (fs : List Frame) (ps : List Placed) → type_of true k ≡ Some type → Runs (in_mode (Initial n) fs) (put n k a ∷ ps) (in_mode (AfterTyping (ForDeclaration a n) (Integer type)) fs) ps
initial_begins n a k type fs ps e = onward (initial_same n fs k a type e ∙ typing_word (ForDeclaration a n) fs k type true refl e) stop

-- the type of what a function gives back
pub top_word : (fs : List Frame) (k : TokenKind) (a : ℕ) (type : IntType) → type_of true k ≡ Some type → on_top fs (token_of k a) ≡ go 0 (AfterReturning false (Some type)) fs
top_word fs (kinds.Type word) a type e = let same : word ≡ type = cc in ap (λ z. go 0 (AfterReturning false (Some z)) fs) same
top_word fs kinds.SizeT a type e = let f : Some Ulong ≡ Some type = e in let same : Ulong ≡ type = cc in ap (λ z. go 0 (AfterReturning false (Some z)) fs) same
top_word fs _ a type e = let clash : None ≡ Some type = e in absurd cc

pub word_begins : {p : Purpose} {m : Mode} {u : Bool} {n a : ℕ} (k : TokenKind) (type : IntType) (fs : List Frame) (ps : List Placed) → TypingFrom p m u n a → type_of u k ≡ Some type
    → Runs (in_mode m fs) (put n k a ∷ ps) (in_mode (AfterTyping p (Integer type)) fs) ps
word_begins {a = a} k type fs ps (of_first {u = u}) e = onward (head_same u fs k a type e ∙ typing_word (ForParameter u) fs k type u refl e) stop
word_begins {a = a} k type fs ps (of_next {u = u}) e = onward (typing_word (ForParameter u) fs k type u refl e) stop
word_begins {n = n} {a = a} k type fs ps of_declaration e = onward (item_same n fs k a type e ∙ typing_word (ForDeclaration a n) fs k type true refl e) stop

pub pointer_begins : {p : Purpose} {m : Mode} {u : Bool} {n a : ℕ} (space : AddressSpace) (b c : ℕ) (k : TokenKind) (type : IntType) (fs : List Frame) (ps : List Placed) → TypingFrom p m u n a → type_of u k ≡ Some type
    → Runs (in_mode m fs) (put n (kinds.Space space) a ∷ put n k b ∷ put n kinds.Star c ∷ ps) (in_mode (AfterTyping p (pointer_to space false type)) fs) ps
pointer_begins space b c k type fs ps (of_first {u = u}) e = onward refl (onward (space_word (ForParameter u) space fs k type u refl e) (onward refl stop))
pointer_begins space b c k type fs ps (of_next {u = u}) e = onward refl (onward (space_word (ForParameter u) space fs k type u refl e) (onward refl stop))
pointer_begins {n = n} {a = a} space b c k type fs ps of_declaration e = onward refl (onward (space_word (ForDeclaration a n) space fs k type true refl e) (onward refl stop))

pub const_begins : {p : Purpose} {m : Mode} {u : Bool} {n a : ℕ} (space : AddressSpace) (b c d : ℕ) (k : TokenKind) (type : IntType) (fs : List Frame) (ps : List Placed) → TypingFrom p m u n a → type_of u k ≡ Some type
    → Runs (in_mode m fs) (put n (kinds.Space space) a ∷ put n kinds.Const b ∷ put n k c ∷ put n kinds.Star d ∷ ps) (in_mode (AfterTyping p (pointer_to space true type)) fs) ps
const_begins space b c d k type fs ps (of_first {u = u}) e = onward refl (onward refl (onward (element_word (ForParameter u) space true fs k type u refl e) (onward refl stop)))
const_begins space b c d k type fs ps (of_next {u = u}) e = onward refl (onward refl (onward (element_word (ForParameter u) space true fs k type u refl e) (onward refl stop)))
const_begins {n = n} {a = a} space b c d k type fs ps of_declaration e = onward refl (onward refl (onward (element_word (ForDeclaration a n) space true fs k type true refl e) (onward refl stop)))

-- the space and the type of a local array
pub local_begins : {n a : ℕ} (o : ℕ) (k : TokenKind) (type : IntType) (fs : List Frame) (ps : List Placed) → type_of true k ≡ Some type
    → Runs (in_mode (Item n) fs) (put n (kinds.Space Local) a ∷ put n k o ∷ ps) (in_mode (AfterElement (ForDeclaration a n) Local false type) fs) ps
local_begins {n = n} {a = a} o k type fs ps e = onward refl (onward (space_word (ForDeclaration a n) Local fs k type true refl e) stop)

pub data WantsParameter : Bool → Mode → Type 0 where
  as_first : {u : Bool} → WantsParameter u (HeadOpen u)
  as_next : {u : Bool} → WantsParameter u (WantParameter u)

pub parameter_from : {u : Bool} {m : Mode} (a : ℕ) → WantsParameter u m → TypingFrom (ForParameter u) m u 1 a
parameter_from a as_first = of_first
parameter_from a as_next = of_next
