-- What the machine holds stands for the tokens that were read.
use Rattle.std.proofs.Common.{◌≡◌, ℕ, suc, ◌≤◌, List, [], ◌∷◌, Bool, true, false, not, Option, Some, None}
use Rattle.clnum.specs.Integer as whole
use Rattle.clnum.specs.declared.int_type.IntType.{IntType}
use Rattle.clnum.specs.declared.operators.BinaryOperator.{BinaryOperator}
use Rattle.clmodel.specs.declared.tree.InfixOperator.{InfixOperator}
use Rattle.clmodel.specs.declared.tree.AddressSpace.{AddressSpace}
use Rattle.clmodel.specs.declared.tree.VariableType.{VariableType}
use Rattle.clmodel.specs.declared.tree.VariableType.TheVariants.{Integer}
use Rattle.clmodel.specs.declared.tree.Parameter.{Parameter}
use Rattle.clmodel.specs.Tree.{Term, Terms, NoTerm, ThenTerm, Target, Stmt, DeclareArray, Stmts, MaybeStmt, MaybeTerm, Funcs}
use Rattle.clsyntax_lex.specs.declared.token.Token.{Token}
use Rattle.clsyntax_lex.specs.declared.token.TokenKind.{TokenKind}
use Rattle.clsyntax_lex.specs.declared.token.TokenKind.TheVariants as kinds
use Rattle.clsyntax_terms.specs.Grammar as grammar
use Rattle.clsyntax_terms.specs.Machine as machine
use Rattle.clsyntax_terms.specs.Grammar.{Placed, put, start, Head, Prefix, infix_of, level, head, type_of, assign_of, step_of, IsNamed, Expr, Arguments, Assignee, Simple, Statement, Initial, Condition, Typing, Declaration, Items, Parameters, Returning, Heading, Program, Reads, one_argument, next_argument}
use Rattle.clsyntax_terms.specs.Machine.{Frame, After, Before, Conditional, Chosen, InRound, InElement, InAddress, InCall, InPart, InBehind, InStep, InAssign, InDeclare, InReturn, InIf, InWhile, InDo, InInitial, InCondition, InFinal, Then, Otherwise, Turns, DoTurns, ForTurns, InItems, InBlock, InBody, InHead, InProgram, Purpose, ForParameter, ForDeclaration, takes_size, nesting_of, Mode, Operand, ExpressionRead, Named, Opened, CastType, AfterAnd, AndName, CallOpen, Optional, Item, Begin, Aim, BeginName, TargetRead, Ended, Closing, StatementRead, AfterIf, AfterWhile, AfterFor, AfterDo, AfterSpace, AfterConst, AfterElement, AfterTyping, Declared, ArrayNamed, ArrayOpened, ArraySized, ArrayClosed, Top, AfterKernel, AfterReturning, AfterName, HeadOpen, WantParameter, AfterParameter, HeadDone, State, in_mode, Moved, step}
use Rattle.clsyntax.proofs.Levels.{reach}

-- What the innermost frame waits for, and its nesting. An item is a statement or a declaration; a simple statement may
-- be a statement, or a part of a `for`. A bool: whether size_t is a parameter's type.
pub data Need : Type 0 where
  AnExpr : (n : ℕ) → Need
  SomeArguments : (n : ℕ) → Need
  AnItem : (n : ℕ) → Need
  AStatement : (n : ℕ) → Need
  AnInitial : (n : ℕ) → Need
  ASimple : (n : ℕ) → Need
  AStepTarget : (n : ℕ) → Need
  SomeItems : (n : ℕ) → Need
  ABody : Need
  AHead : Bool → Need
  AParameter : Bool → Need
  AfterOne : Bool → Need
  AFunction : Need

-- a call is an operand or a statement
abbrev pub call_need : Bool → ℕ → Need
call_need false n = AnExpr n
call_need true n = ASimple n

-- a target begins a statement, or stands behind a step
abbrev pub target_need : Bool → ℕ → Need
target_need false n = ASimple n
target_need true n = AStepTarget n

abbrev pub purpose_need : Purpose → Need
purpose_need (ForParameter u) = AParameter u
purpose_need (ForDeclaration at n) = AnItem n

-- the offset at which a type begins: a declaration's is kept
abbrev pub at_of : Purpose → ℕ → ℕ
at_of (ForParameter u) a = a
at_of (ForDeclaration at n) a = at

-- `const` or nothing
abbrev pub const_word : Bool → (n a : ℕ) → List Placed → List Placed
const_word false n a ps = ps
const_word true n a ps = put n kinds.Const a ∷ ps

-- the arguments before the next
pub data ArgumentsSoFar : ℕ → Terms → List Placed → List Placed → Type 0 where
  none_yet : {n : ℕ} {ps : List Placed} → ArgumentsSoFar n NoTerm ps ps
  some_yet : {n b : ℕ} {es : Terms} {ps qs : List Placed} → Reads (Arguments n es) ps (put (suc n) kinds.Comma b ∷ qs) → ArgumentsSoFar n es ps qs

pub arguments_then : {n m : ℕ} {es : Terms} {e : Term} {ps qs rs : List Placed} → ArgumentsSoFar n es ps qs → Reads (Expr 0 (suc n) e m) qs rs → Reads (Arguments n (ThenTerm es e)) ps rs
arguments_then none_yet r = one_argument r
arguments_then (some_yet q) r = next_argument q r

-- Stands w need fs qs: the frames stand for the tokens of w before qs, where what they need may begin.
pub data Stands : List Placed → Need → List Frame → List Placed → Type 0 where
  in_program : {w qs : List Placed} {done : Funcs} → Reads (Program done) w qs → Stands w AFunction (InProgram done ∷ []) qs
  in_head : {w from qs : List Placed} {fs : List Frame} {k : Bool} {r : Option IntType} {c d x : ℕ}
      → Stands w AFunction fs from → Reads (Returning k r) from (put 0 (kinds.Name x) c ∷ put 0 kinds.OpenRound d ∷ qs) → Stands w (AHead (not k)) (InHead (head k r c x []) ∷ fs) qs
  first : {w from qs : List Placed} {fs : List Frame} {k : Bool} {r : Option IntType} {c d x : ℕ}
      → Stands w AFunction fs from → Reads (Returning k r) from (put 0 (kinds.Name x) c ∷ put 0 kinds.OpenRound d ∷ qs) → Stands w (AParameter (not k)) (InHead (head k r c x []) ∷ fs) qs
  next : {w from ps qs : List Placed} {fs : List Frame} {k : Bool} {r : Option IntType} {xs : List Parameter} {c d g x : ℕ}
      → Stands w AFunction fs from → Reads (Returning k r) from (put 0 (kinds.Name x) c ∷ put 0 kinds.OpenRound d ∷ ps) → Reads (Parameters (not k) xs) ps (put 1 kinds.Comma g ∷ qs)
      → Stands w (AParameter (not k)) (InHead (head k r c x xs) ∷ fs) qs
  after_one : {w from ps qs : List Placed} {fs : List Frame} {k : Bool} {r : Option IntType} {xs : List Parameter} {c d x : ℕ}
      → Stands w AFunction fs from → Reads (Returning k r) from (put 0 (kinds.Name x) c ∷ put 0 kinds.OpenRound d ∷ ps) → Reads (Parameters (not k) xs) ps qs
      → Stands w (AfterOne (not k)) (InHead (head k r c x xs) ∷ fs) qs
  head_read : {w ps qs : List Placed} {fs : List Frame} {h : Head} → Stands w AFunction fs ps → Reads (Heading h) ps qs → Stands w ABody (InHead h ∷ fs) qs
  in_body : {w ps qs : List Placed} {fs : List Frame} {h : Head} {a : ℕ} → Stands w AFunction fs ps → Reads (Heading h) ps (put 0 kinds.OpenBrace a ∷ qs) → Stands w (SomeItems 1) (InBody h a ∷ fs) qs
  in_block : {w qs : List Placed} {fs : List Frame} {n a : ℕ} → Stands w (AStatement n) fs (put n kinds.OpenBrace a ∷ qs) → Stands w (SomeItems (suc n)) (InBlock a n ∷ fs) qs
  in_items : {w ps qs : List Placed} {fs : List Frame} {n : ℕ} {ss : Stmts} → Stands w (SomeItems n) fs ps → Reads (Items n ss) ps qs → Stands w (AnItem n) (InItems n ss ∷ fs) qs
  as_item : {w qs : List Placed} {fs : List Frame} {n : ℕ} → Stands w (AnItem n) fs qs → Stands w (AStatement n) fs qs
  as_statement : {w qs : List Placed} {fs : List Frame} {n : ℕ} → Stands w (AStatement n) fs qs → Stands w (ASimple n) fs qs
  as_initial : {w qs : List Placed} {fs : List Frame} {n : ℕ} → Stands w (AnInitial n) fs qs → Stands w (ASimple n) fs qs
  in_then : {w ps qs : List Placed} {fs : List Frame} {n m a b c : ℕ} {e : Term}
      → Stands w (AStatement n) fs (put n kinds.If a ∷ put n kinds.OpenRound b ∷ ps) → Reads (Expr 0 (suc n) e m) ps (put (suc n) kinds.CloseRound c ∷ qs) → Stands w (AStatement (suc n)) (Then a n e ∷ fs) qs
  in_otherwise : {w ps qs rs : List Placed} {fs : List Frame} {n m a b c d : ℕ} {e : Term} {s : Stmt}
      → Stands w (AStatement n) fs (put n kinds.If a ∷ put n kinds.OpenRound b ∷ ps) → Reads (Expr 0 (suc n) e m) ps (put (suc n) kinds.CloseRound c ∷ qs) → Reads (Statement (suc n) s) qs (put n kinds.Else d ∷ rs)
      → Stands w (AStatement (suc n)) (Otherwise a e s ∷ fs) rs
  in_turns : {w ps qs : List Placed} {fs : List Frame} {n m a b c : ℕ} {e : Term}
      → Stands w (AStatement n) fs (put n kinds.While a ∷ put n kinds.OpenRound b ∷ ps) → Reads (Expr 0 (suc n) e m) ps (put (suc n) kinds.CloseRound c ∷ qs) → Stands w (AStatement (suc n)) (Turns a e ∷ fs) qs
  in_do_turns : {w qs : List Placed} {fs : List Frame} {n a : ℕ} → Stands w (AStatement n) fs (put n kinds.Do a ∷ qs) → Stands w (AStatement (suc n)) (DoTurns a n ∷ fs) qs
  in_for_turns : {w ps qs rs us : List Placed} {fs : List Frame} {n a b : ℕ} {i f : MaybeStmt} {c : MaybeTerm}
      → Stands w (AStatement n) fs (put n kinds.For a ∷ put n kinds.OpenRound b ∷ ps) → Reads (Initial (suc n) i) ps qs → Reads (Condition (suc n) c) qs rs → Reads (grammar.Final (suc n) f) rs us
      → Stands w (AStatement (suc n)) (ForTurns a i c f ∷ fs) us
  in_initial : {w qs : List Placed} {fs : List Frame} {n a b : ℕ} → Stands w (AStatement n) fs (put n kinds.For a ∷ put n kinds.OpenRound b ∷ qs) → Stands w (AnInitial (suc n)) (InInitial a ∷ fs) qs
  in_condition : {w ps qs : List Placed} {fs : List Frame} {n a b : ℕ} {i : MaybeStmt}
      → Stands w (AStatement n) fs (put n kinds.For a ∷ put n kinds.OpenRound b ∷ ps) → Reads (Initial (suc n) i) ps qs → Stands w (AnExpr (suc n)) (InCondition a (suc n) i ∷ fs) qs
  in_final : {w ps qs rs : List Placed} {fs : List Frame} {n a b : ℕ} {i : MaybeStmt} {c : MaybeTerm}
      → Stands w (AStatement n) fs (put n kinds.For a ∷ put n kinds.OpenRound b ∷ ps) → Reads (Initial (suc n) i) ps qs → Reads (Condition (suc n) c) qs rs → Stands w (ASimple (suc n)) (InFinal a i c ∷ fs) rs
  in_if : {w qs : List Placed} {fs : List Frame} {n a b : ℕ} → Stands w (AStatement n) fs (put n kinds.If a ∷ put n kinds.OpenRound b ∷ qs) → Stands w (AnExpr (suc n)) (InIf a n ∷ fs) qs
  in_while : {w qs : List Placed} {fs : List Frame} {n a b : ℕ} → Stands w (AStatement n) fs (put n kinds.While a ∷ put n kinds.OpenRound b ∷ qs) → Stands w (AnExpr (suc n)) (InWhile a n ∷ fs) qs
  in_do : {w ps qs : List Placed} {fs : List Frame} {n a b c : ℕ} {s : Stmt}
      → Stands w (AStatement n) fs (put n kinds.Do a ∷ ps) → Reads (Statement (suc n) s) ps (put n kinds.While b ∷ put n kinds.OpenRound c ∷ qs) → Stands w (AnExpr (suc n)) (InDo a n s ∷ fs) qs
  in_return : {w qs : List Placed} {fs : List Frame} {n a : ℕ} → Stands w (AStatement n) fs (put n kinds.Return a ∷ qs) → Stands w (AnExpr n) (InReturn a n ∷ fs) qs
  in_step : {w qs : List Placed} {fs : List Frame} {n a : ℕ} {k : TokenKind} {up : Bool}
      → Stands w (ASimple n) fs (put n k a ∷ qs) → step_of k ≡ Some up → Stands w (AStepTarget (suc n)) (InStep a n up ∷ fs) qs
  in_part : {w qs : List Placed} {fs : List Frame} {u : Bool} {n a b x : ℕ} → Stands w (target_need u n) fs (put n (kinds.Name x) a ∷ put n kinds.OpenSquare b ∷ qs) → Stands w (AnExpr (suc n)) (InPart u a x n ∷ fs) qs
  in_behind : {w qs : List Placed} {fs : List Frame} {u : Bool} {n a : ℕ} → Stands w (target_need u n) fs (put n kinds.Star a ∷ qs) → Stands w (AnExpr (suc n)) (InBehind u a n ∷ fs) qs
  in_assign : {w ps qs : List Placed} {fs : List Frame} {n b : ℕ} {k : TokenKind} {op : Option BinaryOperator} {t : Target}
      → Stands w (ASimple n) fs ps → assign_of k ≡ Some op → Reads (Assignee n t) ps (put n k b ∷ qs) → Stands w (AnExpr n) (InAssign (start ps) n t op ∷ fs) qs
  in_declare : {w ps qs : List Placed} {fs : List Frame} {n b c x : ℕ} {kind : VariableType}
      → Stands w (AnItem n) fs ps → Reads (Typing true n kind) ps (put n (kinds.Name x) b ∷ put n kinds.Assign c ∷ qs) → Stands w (AnExpr n) (InDeclare (start ps) n kind b x ∷ fs) qs
  declared_initially : {w qs : List Placed} {fs : List Frame} {n a b c x : ℕ} {k : TokenKind} {type : IntType}
      → Stands w (AnInitial n) fs (put n k a ∷ put n (kinds.Name x) b ∷ put n kinds.Assign c ∷ qs) → type_of true k ≡ Some type → Stands w (AnExpr n) (InDeclare a n (Integer type) b x ∷ fs) qs
  in_after : {w ps qs : List Placed} {fs : List Frame} {n m b : ℕ} {k : TokenKind} {op : InfixOperator} {d : Term}
      → Stands w (AnExpr n) fs ps → reach fs ≤ level op → infix_of k ≡ Some op → Reads (Expr (level op) n d m) ps (put m k b ∷ qs) → Stands w (AnExpr (suc m)) (After (start ps) op d ∷ fs) qs
  in_before : {w ps qs : List Placed} {fs : List Frame} {n : ℕ} {p : Prefix} → Stands w (AnExpr n) fs ps → Reads (grammar.Before n p) ps qs → Stands w (AnExpr (suc n)) (Before (start ps) p ∷ fs) qs
  in_asked : {w ps qs : List Placed} {fs : List Frame} {n m b : ℕ} {d : Term}
      → Stands w (AnExpr n) fs ps → reach fs ≤ 0 → Reads (Expr 1 n d m) ps (put m kinds.Question b ∷ qs) → Stands w (AnExpr (suc m)) (Conditional (start ps) d ∷ fs) qs
  in_chosen : {w ps qs rs : List Placed} {fs : List Frame} {n m o b c : ℕ} {d e : Term}
      → Stands w (AnExpr n) fs ps → reach fs ≤ 0 → Reads (Expr 1 n d m) ps (put m kinds.Question b ∷ qs) → Reads (Expr 0 (suc m) e o) qs (put o kinds.Colon c ∷ rs) → Stands w (AnExpr o) (Chosen (start ps) d e ∷ fs) rs
  in_round : {w qs : List Placed} {fs : List Frame} {n a : ℕ} → Stands w (AnExpr n) fs (put n kinds.OpenRound a ∷ qs) → Stands w (AnExpr (suc n)) (InRound a n ∷ fs) qs
  in_element : {w qs : List Placed} {fs : List Frame} {n a b x : ℕ} → Stands w (AnExpr n) fs (put n (kinds.Name x) a ∷ put n kinds.OpenSquare b ∷ qs) → Stands w (AnExpr (suc n)) (InElement a x n ∷ fs) qs
  in_address : {w qs : List Placed} {fs : List Frame} {n a b c x : ℕ}
      → Stands w (AnExpr n) fs (put n kinds.And a ∷ put (suc n) (kinds.Name x) b ∷ put (suc n) kinds.OpenSquare c ∷ qs) → Stands w (AnExpr (suc (suc n))) (InAddress a b x (suc n) ∷ fs) qs
  call_open : {w qs : List Placed} {fs : List Frame} {u : Bool} {n a b x : ℕ} → Stands w (call_need u n) fs (put n (kinds.Name x) a ∷ put n kinds.OpenRound b ∷ qs) → Stands w (SomeArguments (suc n)) (InCall u a x n NoTerm ∷ fs) qs
  in_call : {w ps qs : List Placed} {fs : List Frame} {u : Bool} {n a b x : ℕ} {es : Terms}
      → Stands w (call_need u n) fs (put n (kinds.Name x) a ∷ put n kinds.OpenRound b ∷ ps) → ArgumentsSoFar n es ps qs → Stands w (AnExpr (suc n)) (InCall u a x n es ∷ fs) qs

-- an expression was read
pub data HasExpr (w : List Placed) (m : ℕ) : (from : ℕ) → Term → List Frame → List Placed → Type 0 where
  has_expr : {ps qs : List Placed} {fs : List Frame} {n : ℕ} {e : Term} → Stands w (AnExpr n) fs ps → ((l : ℕ) → Reads (Expr l n e m) ps qs) → HasExpr w m (start ps) e fs qs

-- a name or an element that is a target was read
pub data HasTarget (w : List Placed) (u : Bool) (n : ℕ) : (from : ℕ) → Target → List Frame → List Placed → Type 0 where
  has_target : {ps qs : List Placed} {fs : List Frame} {t : Target} → Stands w (target_need u n) fs ps → IsNamed t → Reads (Assignee n t) ps qs → HasTarget w u n (start ps) t fs qs

pub record HasStatement (w : List Placed) (s : Stmt) (fs : List Frame) (qs : List Placed) : Type 0 where
  pub n : ℕ
  pub from : List Placed
  pub stands : Stands w (AStatement n) fs from
  pub reads : Reads (Statement n s) from qs

-- a simple statement was read but its end
pub record HasEnded (w : List Placed) (n : ℕ) (s : Stmt) (fs : List Frame) (qs : List Placed) : Type 0 where
  pub from : List Placed
  pub stands : Stands w (ASimple n) fs from
  pub reads : Reads (Simple n s) from qs

-- another statement was read but its semicolon
pub record HasClosing (w : List Placed) (n : ℕ) (s : Stmt) (fs : List Frame) (qs : List Placed) : Type 0 where
  pub from : List Placed
  pub stands : Stands w (AStatement n) fs from
  pub reads : (c : ℕ) (rs : List Placed) → qs ≡ put n kinds.Semicolon c ∷ rs → Reads (Statement n s) from rs

-- the body of a `do` and its `while` were read
pub record HasBody (w : List Placed) (n a : ℕ) (s : Stmt) (fs : List Frame) (qs : List Placed) : Type 0 where
  pub from : List Placed
  pub at : ℕ
  pub stands : Stands w (AStatement n) fs (put n kinds.Do a ∷ from)
  pub reads : Reads (Statement (suc n) s) from (put n kinds.While at ∷ qs)

pub data HasAnd (w : List Placed) : (k a : ℕ) → List Frame → List Placed → Type 0 where
  has_and : {qs : List Placed} {fs : List Frame} {n a : ℕ} → Stands w (AnExpr n) fs (put n kinds.And a ∷ qs) → HasAnd w (suc n) a fs qs

pub data HasAndName (w : List Placed) : (k a b x : ℕ) → List Frame → List Placed → Type 0 where
  has_and_name : {qs : List Placed} {fs : List Frame} {n a b x : ℕ} → Stands w (AnExpr n) fs (put n kinds.And a ∷ put (suc n) (kinds.Name x) b ∷ qs) → HasAndName w (suc n) a b x fs qs

-- `(` and a type were read
pub record HasCast (w : List Placed) (n a : ℕ) (type : IntType) (fs : List Frame) (qs : List Placed) : Type 0 where
  pub at : ℕ
  pub word : TokenKind
  pub names : type_of true word ≡ Some type
  pub stands : Stands w (AnExpr n) fs (put n kinds.OpenRound a ∷ put (suc n) word at ∷ qs)

-- an address space was read, and perhaps `const`
pub record HasSpace (w : List Placed) (p : Purpose) (space : AddressSpace) (c : Bool) (fs : List Frame) (qs : List Placed) : Type 0 where
  pub at : ℕ
  pub const_at : ℕ
  pub stands : Stands w (purpose_need p) fs (put (nesting_of p) (kinds.Space space) (at_of p at) ∷ const_word c (nesting_of p) const_at qs)

-- so, and the elements' type
pub record HasElement (w : List Placed) (p : Purpose) (space : AddressSpace) (c : Bool) (type : IntType) (fs : List Frame) (qs : List Placed) : Type 0 where
  pub at : ℕ
  pub word : TokenKind
  pub names : type_of (takes_size p) word ≡ Some type
  pub before : HasSpace w p space c fs (put (nesting_of p) word at ∷ qs)

-- a type was read
pub data HasTyping (w : List Placed) : Purpose → VariableType → List Frame → List Placed → Type 0 where
  parameter_typing : {ps qs : List Placed} {fs : List Frame} {u : Bool} {kind : VariableType} → Stands w (AParameter u) fs ps → Reads (Typing u 1 kind) ps qs → HasTyping w (ForParameter u) kind fs qs
  declaration_typing : {ps qs : List Placed} {fs : List Frame} {n : ℕ} {kind : VariableType} → Stands w (AnItem n) fs ps → Reads (Typing true n kind) ps qs → HasTyping w (ForDeclaration (start ps) n) kind fs qs
  initial_typing : {qs : List Placed} {fs : List Frame} {n a : ℕ} {k : TokenKind} {type : IntType} → Stands w (AnInitial n) fs (put n k a ∷ qs) → type_of true k ≡ Some type → HasTyping w (ForDeclaration a n) (Integer type) fs qs

pub data HasDeclared (w : List Placed) (n : ℕ) : (a : ℕ) → VariableType → (b x : ℕ) → List Frame → List Placed → Type 0 where
  has_declared : {ps qs : List Placed} {fs : List Frame} {b x : ℕ} {kind : VariableType} → Stands w (AnItem n) fs ps → Reads (Typing true n kind) ps (put n (kinds.Name x) b ∷ qs) → HasDeclared w n (start ps) kind b x fs qs
  has_initial : {qs : List Placed} {fs : List Frame} {a b x : ℕ} {k : TokenKind} {type : IntType} → Stands w (AnInitial n) fs (put n k a ∷ put n (kinds.Name x) b ∷ qs) → type_of true k ≡ Some type → HasDeclared w n a (Integer type) b x fs qs

-- what is missing of an array's declaration: its length, and what stands behind that
abbrev pub closed_array : (n g h : ℕ) → List Placed → List Placed
closed_array n g h qs = put (suc n) kinds.CloseSquare g ∷ put n kinds.Semicolon h ∷ qs

-- a local array's name was read, the bracket behind a name, a length, and the bracket behind that
pub record HasArrayName (w : List Placed) (n a : ℕ) (u : Bool) (type : IntType) (b x : ℕ) (fs : List Frame) (qs : List Placed) : Type 0 where
  pub from : List Placed
  pub stands : Stands w (AnItem n) fs from
  pub reads : (c d g h : ℕ) (v : whole.Integer) (rs : List Placed) → qs ≡ put n kinds.OpenSquare c ∷ put (suc n) (kinds.Number v) d ∷ closed_array n g h rs → Reads (Declaration n (DeclareArray a u type b x d v)) from rs

pub record HasArray (w : List Placed) (n a : ℕ) (u : Bool) (type : IntType) (b x : ℕ) (fs : List Frame) (qs : List Placed) : Type 0 where
  pub from : List Placed
  pub stands : Stands w (AnItem n) fs from
  pub reads : (d g h : ℕ) (v : whole.Integer) (rs : List Placed) → qs ≡ put (suc n) (kinds.Number v) d ∷ closed_array n g h rs → Reads (Declaration n (DeclareArray a u type b x d v)) from rs

pub record HasLength (w : List Placed) (n : ℕ) (s : Stmt) (fs : List Frame) (qs : List Placed) : Type 0 where
  pub from : List Placed
  pub stands : Stands w (AnItem n) fs from
  pub reads : (g h : ℕ) (rs : List Placed) → qs ≡ closed_array n g h rs → Reads (Declaration n s) from rs

pub record HasClosed (w : List Placed) (n : ℕ) (s : Stmt) (fs : List Frame) (qs : List Placed) : Type 0 where
  pub from : List Placed
  pub stands : Stands w (AnItem n) fs from
  pub reads : (h : ℕ) (rs : List Placed) → qs ≡ put n kinds.Semicolon h ∷ rs → Reads (Declaration n s) from rs

-- what stands before a function's name was read
pub record HasReturning (w : List Placed) (k : Bool) (r : Option IntType) (fs : List Frame) (qs : List Placed) : Type 0 where
  pub from : List Placed
  pub stands : Stands w AFunction fs from
  pub reads : Reads (Returning k r) from qs

abbrev pub GoodIn : List Placed → Mode → List Frame → List Placed → Type 0
GoodIn w (Operand n) fs qs = Stands w (AnExpr n) fs qs
GoodIn w (ExpressionRead n from e) fs qs = HasExpr w n from e fs qs
GoodIn w (Named n a x) fs qs = Stands w (AnExpr n) fs (put n (kinds.Name x) a ∷ qs)
GoodIn w (Opened n a) fs qs = Stands w (AnExpr n) fs (put n kinds.OpenRound a ∷ qs)
GoodIn w (CastType n a type) fs qs = HasCast w n a type fs qs
GoodIn w (AfterAnd k a) fs qs = HasAnd w k a fs qs
GoodIn w (AndName k a b x) fs qs = HasAndName w k a b x fs qs
GoodIn w (CallOpen k) fs qs = Stands w (SomeArguments k) fs qs
GoodIn w (Optional n) fs qs = Stands w (AnExpr n) fs qs
GoodIn w (Item n) fs qs = Stands w (AnItem n) fs qs
GoodIn w (Begin n) fs qs = Stands w (AStatement n) fs qs
GoodIn w (machine.Initial n) fs qs = Stands w (AnInitial n) fs qs
GoodIn w (machine.Final n) fs qs = Stands w (ASimple n) fs qs
GoodIn w (Aim n) fs qs = Stands w (AStepTarget n) fs qs
GoodIn w (BeginName u n a x) fs qs = Stands w (target_need u n) fs (put n (kinds.Name x) a ∷ qs)
GoodIn w (TargetRead u n a t) fs qs = HasTarget w u n a t fs qs
GoodIn w (Ended n s) fs qs = HasEnded w n s fs qs
GoodIn w (Closing n s) fs qs = HasClosing w n s fs qs
GoodIn w (StatementRead s) fs qs = HasStatement w s fs qs
GoodIn w (AfterIf n a) fs qs = Stands w (AStatement n) fs (put n kinds.If a ∷ qs)
GoodIn w (AfterWhile n a) fs qs = Stands w (AStatement n) fs (put n kinds.While a ∷ qs)
GoodIn w (AfterFor n a) fs qs = Stands w (AStatement n) fs (put n kinds.For a ∷ qs)
GoodIn w (AfterDo n a s) fs qs = HasBody w n a s fs qs
GoodIn w (AfterSpace p space) fs qs = HasSpace w p space false fs qs
GoodIn w (AfterConst p space) fs qs = HasSpace w p space true fs qs
GoodIn w (AfterElement p space c type) fs qs = HasElement w p space c type fs qs
GoodIn w (AfterTyping p kind) fs qs = HasTyping w p kind fs qs
GoodIn w (Declared n a kind b x) fs qs = HasDeclared w n a kind b x fs qs
GoodIn w (ArrayNamed n a u type b x) fs qs = HasArrayName w n a u type b x fs qs
GoodIn w (ArrayOpened n a u type b x) fs qs = HasArray w n a u type b x fs qs
GoodIn w (ArraySized n s) fs qs = HasLength w n s fs qs
GoodIn w (ArrayClosed n s) fs qs = HasClosed w n s fs qs
GoodIn w Top fs qs = Stands w AFunction fs qs
GoodIn w AfterKernel fs qs = (a : ℕ) × Stands w AFunction fs (put 0 kinds.Kernel a ∷ qs)
GoodIn w (AfterReturning k r) fs qs = HasReturning w k r fs qs
GoodIn w (AfterName k r c x) fs qs = HasReturning w k r fs (put 0 (kinds.Name x) c ∷ qs)
GoodIn w (HeadOpen u) fs qs = Stands w (AHead u) fs qs
GoodIn w (WantParameter u) fs qs = Stands w (AParameter u) fs qs
GoodIn w (AfterParameter u) fs qs = Stands w (AfterOne u) fs qs
GoodIn w HeadDone fs qs = Stands w ABody fs qs

abbrev pub Good : List Placed → State → List Placed → Type 0
Good w s qs = GoodIn w s.mode s.frames qs

-- A move from what P says of its nesting leads to a good state.
abbrev pub KeepsFrom : List Placed → List Placed → (ℕ → Type 0) → Moved → Type 0
KeepsFrom w qs P None = Unit {0}
KeepsFrom w qs P (Some x) = P x.0 → Good w x.1 qs

abbrev pub Keeps : List Placed → Mode → List Frame → Token → List Placed → Moved → Type 0
Keeps w m fs t qs x = KeepsFrom w qs (λ k. GoodIn w m fs (record { nesting = k; token = t } ∷ qs)) x

abbrev pub Safe : Mode → List Frame → TokenKind → Type 0
Safe m fs kind = (w qs : List Placed) (a : ℕ) → let t : Token = record { kind = kind; at = a } in Keeps w m fs t qs (step (in_mode m fs) t)

pub kept : (w qs : List Placed) (P Q : ℕ → Type 0) (x : Moved) → ((k : ℕ) → Q k → P k) → KeepsFrom w qs P x → KeepsFrom w qs Q x
kept w qs P Q None f h = tt
kept w qs P Q (Some x) f h = λ g. h (f x.0 g)
