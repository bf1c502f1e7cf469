-- The grammar of programs, as a relation between tokens and what they stand for (OpenCL 1.2, 6.1 to 6.9; C99 6.5 to
-- 6.9).
use Rattle.std.specs.Prelude.{◌≡◌, ◌≢◌, ℕ, suc, ◌≤◌, List, [], ◌∷◌, ◌++◌, Bool, true, false, not, Option, None, Some}
use Rattle.clnum.specs.Integer as whole
use Rattle.clnum.specs.declared.int_type.IntType.{IntType}
use Rattle.clnum.specs.declared.int_type.IntType.TheVariants.{Ulong}
use Rattle.clnum.specs.declared.operators.UnaryOperator.{UnaryOperator}
use Rattle.clnum.specs.declared.operators.UnaryOperator.TheVariants as unary_operators
use Rattle.clnum.specs.declared.operators.BinaryOperator.{BinaryOperator}
use Rattle.clnum.specs.declared.operators.BinaryOperator.TheVariants.{Add, Subtract, Multiply, Divide, Remainder, ShiftLeft, ShiftRight, Less, Greater, LessOrEqual, GreaterOrEqual, Equal, NotEqual, BitAnd, BitXor, BitOr}
use Rattle.clmodel.specs.declared.tree.InfixOperator.{InfixOperator}
use Rattle.clmodel.specs.declared.tree.InfixOperator.TheVariants.{Arithmetic, LogicalAnd, LogicalOr}
use Rattle.clmodel.specs.declared.tree.AddressSpace.{AddressSpace}
use Rattle.clmodel.specs.declared.tree.AddressSpace.TheVariants.{Local}
use Rattle.clmodel.specs.declared.tree.VariableType.{VariableType}
use Rattle.clmodel.specs.declared.tree.VariableType.TheVariants.{Integer, Pointer}
use Rattle.clmodel.specs.declared.tree.Parameter.{Parameter}
use Rattle.clmodel.specs.Tree.{Term, Number, Variable, Element, ElementAddress, Dereference, Call, Unary, Cast, Binary, Choice, Terms, NoTerm, ThenTerm, Target, TargetVariable, TargetElement, TargetDereference, Stmt, Empty, Block, Declare, DeclareAs, DeclareArray, Assign, Step, CallOnly, If, IfElse, While, DoWhile, For, Break, Continue, Return, ReturnValue, Stmts, NoStmt, ThenStmt, MaybeStmt, Without, With, MaybeTerm, WithoutTerm, WithTerm, Func, Funcs, NoFunc, ThenFunc}
pub use Rattle.clmodel.specs.Tree.{level}
use Rattle.clsyntax_lex.specs.declared.token.Token.{Token}
use Rattle.clsyntax_lex.specs.declared.token.TokenKind.{TokenKind}
use Rattle.clsyntax_lex.specs.declared.token.TokenKind.TheVariants as kinds

-- how deep tokens may be nested on the device that allows most (own)
abbrev pub greatest_limit : ℕ
greatest_limit = 256

-- A token in its place in a program, with its nesting there: how many brackets, blocks and controlled statements are
-- open at it, and operators already read in the open expressions outside their inner brackets.
pub record Placed : Type 0 where
  pub nesting : ℕ
  pub token : Token

abbrev pub put : ℕ → TokenKind → ℕ → Placed
put n kind at = record { nesting = n; token = record { kind = kind; at = at } }

-- where the first token begins
abbrev pub start : List Placed → ℕ
start [] = 0
start (p ∷ ps) = p.token.at

-- the operator that a token between two expressions is (C99 6.5.5 to 6.5.14)
abbrev pub infix_of : TokenKind → Option InfixOperator
infix_of kinds.OrOr = Some LogicalOr
infix_of kinds.AndAnd = Some LogicalAnd
infix_of kinds.Or = Some (Arithmetic BitOr)
infix_of kinds.Caret = Some (Arithmetic BitXor)
infix_of kinds.And = Some (Arithmetic BitAnd)
infix_of kinds.Equal = Some (Arithmetic Equal)
infix_of kinds.NotEqual = Some (Arithmetic NotEqual)
infix_of kinds.Less = Some (Arithmetic Less)
infix_of kinds.Greater = Some (Arithmetic Greater)
infix_of kinds.LessOrEqual = Some (Arithmetic LessOrEqual)
infix_of kinds.GreaterOrEqual = Some (Arithmetic GreaterOrEqual)
infix_of kinds.ShiftLeft = Some (Arithmetic ShiftLeft)
infix_of kinds.ShiftRight = Some (Arithmetic ShiftRight)
infix_of kinds.Plus = Some (Arithmetic Add)
infix_of kinds.Minus = Some (Arithmetic Subtract)
infix_of kinds.Star = Some (Arithmetic Multiply)
infix_of kinds.Slash = Some (Arithmetic Divide)
infix_of kinds.Percent = Some (Arithmetic Remainder)
infix_of _ = None

-- the level of an operand, above that of every operator between two
abbrev pub tight : ℕ
tight = 12

-- what stands before an operand (C99 6.5.3.2, 6.5.3.3 and 6.5.4)
pub data Prefix : Type 0 where
  Operator : UnaryOperator → Prefix
  Fetch : Prefix
  Convert : IntType → Prefix

-- the prefix that a token is
abbrev pub prefix_of : TokenKind → Option Prefix
prefix_of kinds.Plus = Some (Operator unary_operators.Plus)
prefix_of kinds.Minus = Some (Operator unary_operators.Negate)
prefix_of kinds.Tilde = Some (Operator unary_operators.Complement)
prefix_of kinds.Not = Some (Operator unary_operators.Not)
prefix_of kinds.Star = Some Fetch
prefix_of _ = None

-- an operand behind a prefix that begins at the offset
abbrev pub prefixed_by : Prefix → ℕ → Term → Term
prefixed_by (Operator op) at e = Unary at op e
prefixed_by Fetch at e = Dereference at e
prefixed_by (Convert type) at e = Cast at type e

-- the type that a word names; whether size_t is one is told (OpenCL 1.2, 6.1.1 and 6.9 k)
abbrev pub type_of : (takes_size : Bool) → TokenKind → Option IntType
type_of takes_size (kinds.Type type) = Some type
type_of true kinds.SizeT = Some Ulong
type_of _ _ = None

-- the operator of an assignment, if it has one (C99 6.5.16)
abbrev pub assign_of : TokenKind → Option (Option BinaryOperator)
assign_of kinds.Assign = Some None
assign_of kinds.PlusAssign = Some (Some Add)
assign_of kinds.MinusAssign = Some (Some Subtract)
assign_of kinds.StarAssign = Some (Some Multiply)
assign_of kinds.SlashAssign = Some (Some Divide)
assign_of kinds.PercentAssign = Some (Some Remainder)
assign_of kinds.ShiftLeftAssign = Some (Some ShiftLeft)
assign_of kinds.ShiftRightAssign = Some (Some ShiftRight)
assign_of kinds.AndAssign = Some (Some BitAnd)
assign_of kinds.CaretAssign = Some (Some BitXor)
assign_of kinds.OrAssign = Some (Some BitOr)
assign_of _ = None

-- whether a step goes up (C99 6.5.2.4 and 6.5.3.1)
abbrev pub step_of : TokenKind → Option Bool
step_of kinds.PlusPlus = Some true
step_of kinds.MinusMinus = Some false
step_of _ = None

-- a name or an element: `*p++;` is no statement
abbrev pub IsNamed : Target → Type 0
IsNamed (TargetDereference at e) = ⊥
IsNamed _ = Unit {0}

-- a pointer into a memory (OpenCL 1.2, 6.5)
abbrev pub pointer_to : AddressSpace → (is_const : Bool) → IntType → VariableType
pointer_to space is_const type = Pointer (record { space = space; is_const = is_const; element = type })

abbrev pub parameter_of : VariableType → (name_at name : ℕ) → Parameter
parameter_of kind name_at name = record { name_at = name_at; name = name; kind = kind }

-- what stands before a function's body
pub record Head : Type 0 where
  pub is_kernel : Bool
  pub result : Option IntType
  pub name_at : ℕ
  pub name : ℕ
  pub parameters : List Parameter

abbrev pub head : (is_kernel : Bool) → (result : Option IntType) → (name_at name : ℕ) → List Parameter → Head
head is_kernel result name_at name xs = record { is_kernel = is_kernel; result = result; name_at = name_at; name = name; parameters = xs }

-- the function with this body, whose brace stands at the offset
abbrev pub with_body : Head → ℕ → Stmts → Func
with_body h at ss = record { is_kernel = h.is_kernel; result = h.result; name_at = h.name_at; name = h.name; parameters = h.parameters; body_at = at; body = ss }

-- no `else` comes next
abbrev pub IsNoElse : List Placed → Type 0
IsNoElse [] = Unit {0}
IsNoElse (p ∷ ps) = p.token.kind ≢ kinds.Else

-- What tokens stand for. n is the nesting where it begins. An expression is of a level: its outermost operator binds at
-- least so tightly (0: any expression; 1: one without `?`; tight: an operand); m is n and the operators in it outside
-- its brackets. n of arguments is that outside of their brackets. A type may be size_t or not. Simple: a statement but
-- its semicolon. Initial, Condition, Final: the parts of a `for` between its brackets, each with the token that ends
-- it. Returning: what stands before a function's name.
pub data Goal : Type 0 where
  Before : (n : ℕ) → Prefix → Goal
  Expr : (l n : ℕ) → Term → (m : ℕ) → Goal
  Arguments : (n : ℕ) → Terms → Goal
  Assignee : (n : ℕ) → Target → Goal
  Simple : (n : ℕ) → Stmt → Goal
  Statement : (n : ℕ) → Stmt → Goal
  Typing : (takes_size : Bool) → (n : ℕ) → VariableType → Goal
  Declaration : (n : ℕ) → Stmt → Goal
  Items : (n : ℕ) → Stmts → Goal
  Initial : (n : ℕ) → MaybeStmt → Goal
  Condition : (n : ℕ) → MaybeTerm → Goal
  Final : (n : ℕ) → MaybeStmt → Goal
  OneParameter : (takes_size : Bool) → Parameter → Goal
  Parameters : (takes_size : Bool) → List Parameter → Goal
  Returning : (is_kernel : Bool) → Option IntType → Goal
  Heading : Head → Goal
  Program : Funcs → Goal

-- Reads g ps qs: the tokens of ps that stand before qs are a g.
pub data Reads : Goal → List Placed → List Placed → Type 0 where
  number : {l n a : ℕ} {v : whole.Integer} {qs : List Placed} → Reads (Expr l n (Number a v) n) (put n (kinds.Number v) a ∷ qs) qs
  variable : {l n x a : ℕ} {qs : List Placed} → Reads (Expr l n (Variable a x) n) (put n (kinds.Name x) a ∷ qs) qs
  element : {l n x a b c m : ℕ} {e : Term} {ps qs : List Placed}
      → Reads (Expr 0 (suc n) e m) ps (put (suc n) kinds.CloseSquare c ∷ qs)
      → Reads (Expr l n (Element a x e) n) (put n (kinds.Name x) a ∷ put n kinds.OpenSquare b ∷ ps) qs
  address : {l n x a b c d m : ℕ} {e : Term} {ps qs : List Placed}
      → Reads (Expr 0 (suc (suc n)) e m) ps (put (suc (suc n)) kinds.CloseSquare d ∷ qs)
      → Reads (Expr l n (ElementAddress a b x e) (suc n)) (put n kinds.And a ∷ put (suc n) (kinds.Name x) b ∷ put (suc n) kinds.OpenSquare c ∷ ps) qs
  bare_call : {l n x a b c : ℕ} {qs : List Placed}
      → Reads (Expr l n (Call a x NoTerm) n) (put n (kinds.Name x) a ∷ put n kinds.OpenRound b ∷ put (suc n) kinds.CloseRound c ∷ qs) qs
  call : {l n x a b c : ℕ} {es : Terms} {ps qs : List Placed}
      → Reads (Arguments n es) ps (put (suc n) kinds.CloseRound c ∷ qs)
      → Reads (Expr l n (Call a x es) n) (put n (kinds.Name x) a ∷ put n kinds.OpenRound b ∷ ps) qs
  round : {l n a c m : ℕ} {e : Term} {ps qs : List Placed}
      → Reads (Expr 0 (suc n) e m) ps (put (suc n) kinds.CloseRound c ∷ qs)
      → Reads (Expr l n e n) (put n kinds.OpenRound a ∷ ps) qs
  operator : {n a : ℕ} {k : TokenKind} {p : Prefix} {qs : List Placed}
      → prefix_of k ≡ Some p
      → Reads (Before n p) (put n k a ∷ qs) qs
  cast : {n a b c : ℕ} {k : TokenKind} {type : IntType} {qs : List Placed}
      → type_of true k ≡ Some type
      → Reads (Before n (Convert type)) (put n kinds.OpenRound a ∷ put (suc n) k b ∷ put (suc n) kinds.CloseRound c ∷ qs) qs
  prefixed : {l n m : ℕ} {p : Prefix} {e : Term} {ps qs rs : List Placed}
      → Reads (Before n p) ps qs
      → Reads (Expr tight (suc n) e m) qs rs
      → Reads (Expr l n (prefixed_by p (start ps) e) m) ps rs
  -- the left operand may be of the operator's level, so that operators are taken from left to right
  binary : {l n m o b : ℕ} {k : TokenKind} {op : InfixOperator} {d e : Term} {ps qs rs : List Placed}
      → infix_of k ≡ Some op
      → l ≤ level op
      → Reads (Expr (level op) n d m) ps (put m k b ∷ qs)
      → Reads (Expr (suc (level op)) (suc m) e o) qs rs
      → Reads (Expr l n (Binary (start ps) op d e) o) ps rs
  -- the operators of all parts add up
  choice : {n m o z b c : ℕ} {d e f : Term} {ps qs rs us : List Placed}
      → Reads (Expr 1 n d m) ps (put m kinds.Question b ∷ qs)
      → Reads (Expr 0 (suc m) e o) qs (put o kinds.Colon c ∷ rs)
      → Reads (Expr 0 o f z) rs us
      → Reads (Expr 0 n (Choice (start ps) d e f) z) ps us
  one_argument : {n m : ℕ} {e : Term} {ps qs : List Placed}
      → Reads (Expr 0 (suc n) e m) ps qs
      → Reads (Arguments n (ThenTerm NoTerm e)) ps qs
  next_argument : {n m b : ℕ} {es : Terms} {e : Term} {ps qs rs : List Placed}
      → Reads (Arguments n es) ps (put (suc n) kinds.Comma b ∷ qs)
      → Reads (Expr 0 (suc n) e m) qs rs
      → Reads (Arguments n (ThenTerm es e)) ps rs
  variable_target : {n x a : ℕ} {qs : List Placed} → Reads (Assignee n (TargetVariable a x)) (put n (kinds.Name x) a ∷ qs) qs
  element_target : {n x a b c m : ℕ} {e : Term} {ps qs : List Placed}
      → Reads (Expr 0 (suc n) e m) ps (put (suc n) kinds.CloseSquare c ∷ qs)
      → Reads (Assignee n (TargetElement a x e)) (put n (kinds.Name x) a ∷ put n kinds.OpenSquare b ∷ ps) qs
  dereference_target : {n a m : ℕ} {e : Term} {ps qs : List Placed}
      → Reads (Expr tight (suc n) e m) ps qs
      → Reads (Assignee n (TargetDereference a e)) (put n kinds.Star a ∷ ps) qs
  -- the value's expression begins anew: operators of the target count no more
  assign : {n b m : ℕ} {k : TokenKind} {op : Option BinaryOperator} {t : Target} {e : Term} {ps qs rs : List Placed}
      → assign_of k ≡ Some op
      → Reads (Assignee n t) ps (put n k b ∷ qs)
      → Reads (Expr 0 n e m) qs rs
      → Reads (Simple n (Assign (start ps) t op e)) ps rs
  step_before : {n a : ℕ} {k : TokenKind} {is_increment : Bool} {t : Target} {ps qs : List Placed}
      → step_of k ≡ Some is_increment
      → Reads (Assignee (suc n) t) ps qs
      → Reads (Simple n (Step a t is_increment)) (put n k a ∷ ps) qs
  step_behind : {n b : ℕ} {k : TokenKind} {is_increment : Bool} {t : Target} {ps qs : List Placed}
      → step_of k ≡ Some is_increment
      → IsNamed t
      → Reads (Assignee n t) ps (put n k b ∷ qs)
      → Reads (Simple n (Step (start ps) t is_increment)) ps qs
  bare_call_only : {n x a b c : ℕ} {qs : List Placed}
      → Reads (Simple n (CallOnly a x NoTerm)) (put n (kinds.Name x) a ∷ put n kinds.OpenRound b ∷ put (suc n) kinds.CloseRound c ∷ qs) qs
  call_only : {n x a b c : ℕ} {es : Terms} {ps qs : List Placed}
      → Reads (Arguments n es) ps (put (suc n) kinds.CloseRound c ∷ qs)
      → Reads (Simple n (CallOnly a x es)) (put n (kinds.Name x) a ∷ put n kinds.OpenRound b ∷ ps) qs
  simple : {n c : ℕ} {s : Stmt} {ps qs : List Placed}
      → Reads (Simple n s) ps (put n kinds.Semicolon c ∷ qs)
      → Reads (Statement n s) ps qs
  empty : {n a : ℕ} {qs : List Placed} → Reads (Statement n (Empty a)) (put n kinds.Semicolon a ∷ qs) qs
  -- a block is open after its brace
  block : {n a b : ℕ} {ss : Stmts} {ps qs : List Placed}
      → Reads (Items (suc n) ss) ps (put (suc n) kinds.CloseBrace b ∷ qs)
      → Reads (Statement n (Block a ss)) (put n kinds.OpenBrace a ∷ ps) qs
  -- what an `if` or a loop controls is open at each of its tokens (C99 6.8.4 and 6.8.5)
  -- an `else` belongs to the nearest `if`: an `if` without one isn't followed by one
  if_only : {n a b c m : ℕ} {e : Term} {s : Stmt} {ps qs rs : List Placed}
      → Reads (Expr 0 (suc n) e m) ps (put (suc n) kinds.CloseRound c ∷ qs)
      → Reads (Statement (suc n) s) qs rs
      → IsNoElse rs
      → Reads (Statement n (If a e s)) (put n kinds.If a ∷ put n kinds.OpenRound b ∷ ps) rs
  if_else : {n a b c d m : ℕ} {e : Term} {s t : Stmt} {ps qs rs us : List Placed}
      → Reads (Expr 0 (suc n) e m) ps (put (suc n) kinds.CloseRound c ∷ qs)
      → Reads (Statement (suc n) s) qs (put n kinds.Else d ∷ rs)
      → Reads (Statement (suc n) t) rs us
      → Reads (Statement n (IfElse a e s t)) (put n kinds.If a ∷ put n kinds.OpenRound b ∷ ps) us
  while_loop : {n a b c m : ℕ} {e : Term} {s : Stmt} {ps qs rs : List Placed}
      → Reads (Expr 0 (suc n) e m) ps (put (suc n) kinds.CloseRound c ∷ qs)
      → Reads (Statement (suc n) s) qs rs
      → Reads (Statement n (While a e s)) (put n kinds.While a ∷ put n kinds.OpenRound b ∷ ps) rs
  do_loop : {n a b c d g m : ℕ} {e : Term} {s : Stmt} {ps qs rs : List Placed}
      → Reads (Statement (suc n) s) ps (put n kinds.While b ∷ put n kinds.OpenRound c ∷ qs)
      → Reads (Expr 0 (suc n) e m) qs (put (suc n) kinds.CloseRound d ∷ put n kinds.Semicolon g ∷ rs)
      → Reads (Statement n (DoWhile a s e)) (put n kinds.Do a ∷ ps) rs
  for_loop : {n a b : ℕ} {i f : MaybeStmt} {c : MaybeTerm} {s : Stmt} {ps qs rs us vs : List Placed}
      → Reads (Initial (suc n) i) ps qs
      → Reads (Condition (suc n) c) qs rs
      → Reads (Final (suc n) f) rs us
      → Reads (Statement (suc n) s) us vs
      → Reads (Statement n (For a i c f s)) (put n kinds.For a ∷ put n kinds.OpenRound b ∷ ps) vs
  no_initial : {n a : ℕ} {qs : List Placed} → Reads (Initial n Without) (put n kinds.Semicolon a ∷ qs) qs
  simple_initial : {n a : ℕ} {s : Stmt} {ps qs : List Placed}
      → Reads (Simple n s) ps (put n kinds.Semicolon a ∷ qs)
      → Reads (Initial n (With s)) ps qs
  declared_initial : {n a b c d x m : ℕ} {k : TokenKind} {type : IntType} {e : Term} {ps qs : List Placed}
      → type_of true k ≡ Some type
      → Reads (Expr 0 n e m) ps (put n kinds.Semicolon d ∷ qs)
      → Reads (Initial n (With (DeclareAs a (Integer type) b x e))) (put n k a ∷ put n (kinds.Name x) b ∷ put n kinds.Assign c ∷ ps) qs
  no_condition : {n a : ℕ} {qs : List Placed} → Reads (Condition n WithoutTerm) (put n kinds.Semicolon a ∷ qs) qs
  condition : {n a m : ℕ} {e : Term} {ps qs : List Placed}
      → Reads (Expr 0 n e m) ps (put n kinds.Semicolon a ∷ qs)
      → Reads (Condition n (WithTerm e)) ps qs
  no_final : {n a : ℕ} {qs : List Placed} → Reads (Final n Without) (put n kinds.CloseRound a ∷ qs) qs
  simple_final : {n a : ℕ} {s : Stmt} {ps qs : List Placed}
      → Reads (Simple n s) ps (put n kinds.CloseRound a ∷ qs)
      → Reads (Final n (With s)) ps qs
  -- (C99 6.8.6)
  break_only : {n a b : ℕ} {qs : List Placed} → Reads (Statement n (Break a)) (put n kinds.Break a ∷ put n kinds.Semicolon b ∷ qs) qs
  continue_only : {n a b : ℕ} {qs : List Placed} → Reads (Statement n (Continue a)) (put n kinds.Continue a ∷ put n kinds.Semicolon b ∷ qs) qs
  return_only : {n a b : ℕ} {qs : List Placed} → Reads (Statement n (Return a)) (put n kinds.Return a ∷ put n kinds.Semicolon b ∷ qs) qs
  return_value : {n a b m : ℕ} {e : Term} {ps qs : List Placed}
      → Reads (Expr 0 n e m) ps (put n kinds.Semicolon b ∷ qs)
      → Reads (Statement n (ReturnValue a e)) (put n kinds.Return a ∷ ps) qs
  integer : {n a : ℕ} {u : Bool} {k : TokenKind} {type : IntType} {qs : List Placed}
      → type_of u k ≡ Some type
      → Reads (Typing u n (Integer type)) (put n k a ∷ qs) qs
  pointer : {n a b c : ℕ} {u : Bool} {space : AddressSpace} {k : TokenKind} {type : IntType} {qs : List Placed}
      → type_of u k ≡ Some type
      → Reads (Typing u n (pointer_to space false type)) (put n (kinds.Space space) a ∷ put n k b ∷ put n kinds.Star c ∷ qs) qs
  const_pointer : {n a b c d : ℕ} {u : Bool} {space : AddressSpace} {k : TokenKind} {type : IntType} {qs : List Placed}
      → type_of u k ≡ Some type
      → Reads (Typing u n (pointer_to space true type)) (put n (kinds.Space space) a ∷ put n kinds.Const b ∷ put n k c ∷ put n kinds.Star d ∷ qs) qs
  declare : {n b c x : ℕ} {kind : VariableType} {ps qs : List Placed}
      → Reads (Typing true n kind) ps (put n (kinds.Name x) b ∷ put n kinds.Semicolon c ∷ qs)
      → Reads (Declaration n (Declare (start ps) kind b x)) ps qs
  declare_as : {n b c d x m : ℕ} {kind : VariableType} {e : Term} {ps qs rs : List Placed}
      → Reads (Typing true n kind) ps (put n (kinds.Name x) b ∷ put n kinds.Assign c ∷ qs)
      → Reads (Expr 0 n e m) qs (put n kinds.Semicolon d ∷ rs)
      → Reads (Declaration n (DeclareAs (start ps) kind b x e)) ps rs
  -- an array, private or local (C99 6.7.5.2; OpenCL 1.2, 6.5.2 and 6.5.4)
  array : {n a b c d g h x : ℕ} {k : TokenKind} {type : IntType} {v : whole.Integer} {qs : List Placed}
      → type_of true k ≡ Some type
      → Reads (Declaration n (DeclareArray a false type b x d v))
      (put n k a ∷ put n (kinds.Name x) b ∷ put n kinds.OpenSquare c ∷ put (suc n) (kinds.Number v) d ∷ put (suc n) kinds.CloseSquare g ∷ put n kinds.Semicolon h ∷ qs) qs
  local_array : {n a b c d g h o x : ℕ} {k : TokenKind} {type : IntType} {v : whole.Integer} {qs : List Placed}
      → type_of true k ≡ Some type
      → Reads (Declaration n (DeclareArray a true type b x d v))
      (put n (kinds.Space Local) a ∷ put n k o ∷ put n (kinds.Name x) b ∷ put n kinds.OpenSquare c ∷ put (suc n) (kinds.Number v) d ∷ put (suc n) kinds.CloseSquare g ∷ put n kinds.Semicolon h ∷ qs) qs
  no_items : {n : ℕ} {ps : List Placed} → Reads (Items n NoStmt) ps ps
  statement : {n : ℕ} {ss : Stmts} {s : Stmt} {ps qs rs : List Placed}
      → Reads (Items n ss) ps qs
      → Reads (Statement n s) qs rs
      → Reads (Items n (ThenStmt ss s)) ps rs
  declaration : {n : ℕ} {ss : Stmts} {s : Stmt} {ps qs rs : List Placed}
      → Reads (Items n ss) ps qs
      → Reads (Declaration n s) qs rs
      → Reads (Items n (ThenStmt ss s)) ps rs
  parameter : {x d : ℕ} {u : Bool} {kind : VariableType} {ps qs : List Placed}
      → Reads (Typing u 1 kind) ps (put 1 (kinds.Name x) d ∷ qs)
      → Reads (OneParameter u (parameter_of kind d x)) ps qs
  first_parameter : {u : Bool} {p : Parameter} {ps qs : List Placed} → Reads (OneParameter u p) ps qs → Reads (Parameters u (p ∷ [])) ps qs
  next_parameter : {u : Bool} {b : ℕ} {xs : List Parameter} {p : Parameter} {ps qs rs : List Placed}
      → Reads (Parameters u xs) ps (put 1 kinds.Comma b ∷ qs)
      → Reads (OneParameter u p) qs rs
      → Reads (Parameters u (xs ++ p ∷ [])) ps rs
  kernel : {a b : ℕ} {qs : List Placed} → Reads (Returning true None) (put 0 kinds.Kernel a ∷ put 0 kinds.Void b ∷ qs) qs
  void : {a : ℕ} {qs : List Placed} → Reads (Returning false None) (put 0 kinds.Void a ∷ qs) qs
  typed : {a : ℕ} {k : TokenKind} {type : IntType} {qs : List Placed}
      → type_of true k ≡ Some type
      → Reads (Returning false (Some type)) (put 0 k a ∷ qs) qs
  -- a kernel's parameters are never of type size_t
  bare_heading : {x c d g : ℕ} {is_kernel : Bool} {result : Option IntType} {ps qs : List Placed}
      → Reads (Returning is_kernel result) ps (put 0 (kinds.Name x) c ∷ put 0 kinds.OpenRound d ∷ put 1 kinds.CloseRound g ∷ qs)
      → Reads (Heading (head is_kernel result c x [])) ps qs
  heading : {x c d g : ℕ} {is_kernel : Bool} {result : Option IntType} {xs : List Parameter} {ps qs rs : List Placed}
      → Reads (Returning is_kernel result) ps (put 0 (kinds.Name x) c ∷ put 0 kinds.OpenRound d ∷ qs)
      → Reads (Parameters (not is_kernel) xs) qs (put 1 kinds.CloseRound g ∷ rs)
      → Reads (Heading (head is_kernel result c x xs)) ps rs
  no_functions : {ps : List Placed} → Reads (Program NoFunc) ps ps
  function : {a b : ℕ} {fs : Funcs} {h : Head} {ss : Stmts} {ps qs rs us : List Placed}
      → Reads (Program fs) ps qs
      → Reads (Heading h) qs (put 0 kinds.OpenBrace a ∷ rs)
      → Reads (Items 1 ss) rs (put 1 kinds.CloseBrace b ∷ us)
      → Reads (Program (ThenFunc fs (with_body h a ss))) ps us
