-- A machine that takes one token at a time, and holds what is open. The grammar is Grammar's; this is how it is read.
use Rattle.std.specs.Prelude.{ℕ, suc, nat_lt, if◌then◌else◌, List, [], ◌∷◌, ◌++◌, Option, None, Some, Bool, true, false, not}
use Rattle.clnum.specs.declared.int_type.IntType.{IntType}
use Rattle.clnum.specs.declared.int_type.IntType.TheVariants.{Ulong}
use Rattle.clnum.specs.declared.operators.BinaryOperator.{BinaryOperator}
use Rattle.clmodel.specs.declared.tree.InfixOperator.{InfixOperator}
use Rattle.clmodel.specs.declared.tree.AddressSpace.{AddressSpace}
use Rattle.clmodel.specs.declared.tree.AddressSpace.TheVariants.{Local}
use Rattle.clmodel.specs.declared.tree.VariableType.{VariableType}
use Rattle.clmodel.specs.declared.tree.VariableType.TheVariants.{Integer}
use Rattle.clmodel.specs.declared.tree.Parameter.{Parameter}
use Rattle.clmodel.specs.Tree.{Term, Number, Variable, Element, ElementAddress, Call, Binary, Choice, Terms, NoTerm, ThenTerm, Target, TargetVariable, TargetElement, TargetDereference, Stmt, Empty, Block, Declare, DeclareAs, DeclareArray, Assign, Step, CallOnly, If, IfElse, While, DoWhile, For, Break, Continue, Return, ReturnValue, Stmts, NoStmt, ThenStmt, MaybeStmt, Without, With, MaybeTerm, WithoutTerm, WithTerm, Func, Funcs, NoFunc, ThenFunc}
use Rattle.clsyntax_lex.specs.declared.token.Token.{Token}
use Rattle.clsyntax_lex.specs.declared.token.TokenKind.{TokenKind}
use Rattle.clsyntax_lex.specs.declared.token.TokenKind.TheVariants as kinds
use Rattle.clsyntax_terms.specs.Grammar.{Prefix, Convert, prefix_of, prefixed_by, assign_of, step_of, pointer_to, parameter_of, Head, head, with_body, infix_of, level}

-- What is open, from the innermost outwards. n is the nesting outside of it.
pub data Frame : Type 0 where
  -- an operator that waits for its right operand; from: where its left operand begins
  After : (from : ℕ) → InfixOperator → Term → Frame
  -- a prefix that waits for its operand
  Before : (at : ℕ) → Prefix → Frame
  -- `condition ?`, then `condition ? chosen :`; from: where the condition begins
  Conditional : (from : ℕ) → Term → Frame
  Chosen : (from : ℕ) → Term → Term → Frame
  -- what an expression is read for
  InRound : (at n : ℕ) → Frame
  InElement : (at name n : ℕ) → Frame
  InAddress : (at name_at name n : ℕ) → Frame
  InCall : (is_statement : Bool) → (at name n : ℕ) → Terms → Frame
  -- so a target, which a step before it steps, or an assignment or a step behind it: `name[`, `*`
  InPart : (is_step : Bool) → (at name n : ℕ) → Frame
  InBehind : (is_step : Bool) → (at n : ℕ) → Frame
  -- a step before its target
  InStep : (at n : ℕ) → (is_increment : Bool) → Frame
  InAssign : (at n : ℕ) → Target → Option BinaryOperator → Frame
  InDeclare : (at n : ℕ) → VariableType → (name_at name : ℕ) → Frame
  InReturn : (at n : ℕ) → Frame
  -- the condition of an `if`, a `while`, or behind the body of a `do`
  InIf : (at n : ℕ) → Frame
  InWhile : (at n : ℕ) → Frame
  InDo : (at n : ℕ) → Stmt → Frame
  -- the brackets of a `for`, with its parts so far; n is the nesting in them
  InInitial : (at : ℕ) → Frame
  InCondition : (at n : ℕ) → MaybeStmt → Frame
  InFinal : (at : ℕ) → MaybeStmt → MaybeTerm → Frame
  -- what a statement is controlled by: `if`, `else`, `while`, `do`, `for`
  Then : (at n : ℕ) → Term → Frame
  Otherwise : (at : ℕ) → Term → Stmt → Frame
  Turns : (at : ℕ) → Term → Frame
  DoTurns : (at n : ℕ) → Frame
  ForTurns : (at : ℕ) → MaybeStmt → MaybeTerm → MaybeStmt → Frame
  InItems : (n : ℕ) → Stmts → Frame
  InBlock : (at n : ℕ) → Frame
  InBody : Head → (at : ℕ) → Frame
  InHead : Head → Frame
  InProgram : Funcs → Frame

-- what a type is read for
pub data Purpose : Type 0 where
  ForParameter : (takes_size : Bool) → Purpose
  ForDeclaration : (at n : ℕ) → Purpose

abbrev pub takes_size : Purpose → Bool
takes_size (ForParameter u) = u
takes_size (ForDeclaration at n) = true

abbrev pub nesting_of : Purpose → ℕ
nesting_of (ForParameter u) = 1
nesting_of (ForDeclaration at n) = n

-- What was read last, and so what may come. n is the nesting of the next token; with an opened bracket, that outside of
-- it.
pub data Mode : Type 0 where
  -- an operand is wanted; one was read, which begins at an offset
  Operand : (n : ℕ) → Mode
  ExpressionRead : (n from : ℕ) → Term → Mode
  -- in an expression: a name was read; `(`; `(` and a type; `&`; `&` and a name; the bracket of a call
  Named : (n at name : ℕ) → Mode
  Opened : (n at : ℕ) → Mode
  CastType : (n at : ℕ) → IntType → Mode
  AfterAnd : (n at : ℕ) → Mode
  AndName : (n at name_at name : ℕ) → Mode
  CallOpen : (n : ℕ) → Mode
  -- an expression, or a semicolon in its place
  Optional : (n : ℕ) → Mode
  -- a statement, a declaration or the end of a block is wanted; a statement; the first part of a `for`, and the third
  Item : (n : ℕ) → Mode
  Begin : (n : ℕ) → Mode
  Initial : (n : ℕ) → Mode
  Final : (n : ℕ) → Mode
  -- a target is wanted; a first name was read; a target; a statement but its semicolon, simple or not; a whole
  -- statement
  Aim : (n : ℕ) → Mode
  BeginName : (is_step : Bool) → (n at name : ℕ) → Mode
  TargetRead : (is_step : Bool) → (n at : ℕ) → Target → Mode
  Ended : (n : ℕ) → Stmt → Mode
  Closing : (n : ℕ) → Stmt → Mode
  StatementRead : Stmt → Mode
  -- `if`, `while`, `for`; the `while` behind the body of a `do`
  AfterIf : (n at : ℕ) → Mode
  AfterWhile : (n at : ℕ) → Mode
  AfterFor : (n at : ℕ) → Mode
  AfterDo : (n at : ℕ) → Stmt → Mode
  -- a pointer's address space was read; `const` too; the type of its elements; a whole type; a declared name
  AfterSpace : Purpose → AddressSpace → Mode
  AfterConst : Purpose → AddressSpace → Mode
  AfterElement : Purpose → AddressSpace → (is_const : Bool) → IntType → Mode
  AfterTyping : Purpose → VariableType → Mode
  Declared : (n at : ℕ) → VariableType → (name_at name : ℕ) → Mode
  -- a local array's name was read; the bracket of an array's length; all of a declaration but `];`, or but its
  -- semicolon
  ArrayNamed : (n at : ℕ) → (is_local : Bool) → IntType → (name_at name : ℕ) → Mode
  ArrayOpened : (n at : ℕ) → (is_local : Bool) → IntType → (name_at name : ℕ) → Mode
  ArraySized : (n : ℕ) → Stmt → Mode
  ArrayClosed : (n : ℕ) → Stmt → Mode
  -- a function, or the program's end, is wanted; the words of its head
  Top : Mode
  AfterKernel : Mode
  AfterReturning : (is_kernel : Bool) → Option IntType → Mode
  AfterName : (is_kernel : Bool) → Option IntType → (at name : ℕ) → Mode
  HeadOpen : (takes_size : Bool) → Mode
  WantParameter : (takes_size : Bool) → Mode
  AfterParameter : (takes_size : Bool) → Mode
  HeadDone : Mode

pub record State : Type 0 where
  pub mode : Mode
  pub frames : List Frame

abbrev pub in_mode : Mode → List Frame → State
in_mode m fs = record { mode = m; frames = fs }

-- a token's nesting, and the state after it; nothing where the token can't come
abbrev pub Moved : Type 0
Moved = Option (ℕ × State)

abbrev pub go : ℕ → Mode → List Frame → Moved
go n m fs = Some (n, in_mode m fs)

abbrev pub when : Bool → Moved → Moved
when true m = m
when false m = None

-- ---- expressions

-- an expression, where it begins, and the frames behind it
pub record Folded : Type 0 where
  pub from : ℕ
  pub term : Term
  pub rest : List Frame

abbrev pub folded : ℕ → Term → List Frame → Folded
folded from e fs = record { from = from; term = e; rest = fs }

-- An expression takes the prefixes before it, the operators that bind at least so tightly as the next token asks, and
-- where that asks nothing, a choice.
abbrev pub close : ℕ → ℕ → Term → List Frame → Folded
close k from e (After b op d ∷ fs) = if nat_lt (level op) k then folded from e (After b op d ∷ fs) else close k b (Binary b op d e) fs
close k from e (Before b p ∷ fs) = close k b (prefixed_by p b e) fs
close k from e (Chosen b c d ∷ fs) = if nat_lt 0 k then folded from e (Chosen b c d ∷ fs) else close k b (Choice b c d e) fs
close k from e fs = folded from e fs

-- a prefix, where an operand is wanted
abbrev pub on_prefix : Option Prefix → ℕ → ℕ → List Frame → Moved
on_prefix (Some p) n a fs = go n (Operand (suc n)) (Before a p ∷ fs)
on_prefix None n a fs = None

-- where an operand is wanted
abbrev pub on_operand : ℕ → List Frame → Token → Moved
on_operand n fs t = elim t.kind [
  | kinds.Number v ↦ go n (ExpressionRead n t.at (Number t.at v)) fs
  | kinds.Name x ↦ go n (Named n t.at x) fs
  | kinds.And ↦ go n (AfterAnd (suc n) t.at) fs
  | kinds.OpenRound ↦ go n (Opened n t.at) fs
  | _ ↦ on_prefix (prefix_of t.kind) n t.at fs
]

-- after a bracket where an operand was wanted
abbrev pub on_opened : ℕ → ℕ → List Frame → Token → Moved
on_opened n a fs t = elim t.kind [
  | kinds.Type type ↦ go (suc n) (CastType n a type) fs
  | kinds.SizeT ↦ go (suc n) (CastType n a Ulong) fs
  | _ ↦ on_operand (suc n) (InRound a n ∷ fs) t
]

abbrev pub on_cast_type : ℕ → ℕ → IntType → List Frame → Token → Moved
on_cast_type n a type fs t = elim t.kind [
  | kinds.CloseRound ↦ go (suc n) (Operand (suc n)) (Before a (Convert type) ∷ fs)
  | _ ↦ None
]

-- where a call's bracket closes
abbrev pub end_call : Bool → ℕ → ℕ → ℕ → Terms → List Frame → Moved
end_call false a x n es fs = go (suc n) (ExpressionRead n a (Call a x es)) fs
end_call true a x n es fs = go (suc n) (Ended n (CallOnly a x es)) fs

-- a simple statement at its semicolon: it may be the first part of a `for`
abbrev pub end_simple : ℕ → Stmt → List Frame → Moved
end_simple n s (InInitial a ∷ fs) = go n (Optional n) (InCondition a n (With s) ∷ fs)
end_simple n s (InFinal a i c ∷ fs) = None
end_simple n s fs = go n (StatementRead s) fs

-- so at a bracket: it is the third part of a `for`
abbrev pub end_final : ℕ → Stmt → List Frame → Moved
end_final n s (InFinal a i c ∷ fs) = go n (Begin n) (ForTurns a i c (With s) ∷ fs)
end_final n s _ = None

-- a simple statement at a semicolon or, where one is told, at a bracket
abbrev pub ends_simple : (is_bracket : Bool) → ℕ → Stmt → List Frame → Moved
ends_simple false n s fs = end_simple n s fs
ends_simple true n s fs = end_final n s fs

-- so a step before its target
abbrev pub end_step : (is_bracket : Bool) → Target → List Frame → Moved
end_step is_bracket p (InStep a n is_increment ∷ fs) = ends_simple is_bracket n (Step a p is_increment) fs
end_step is_bracket p _ = None

-- the bracket behind an expression of a statement
abbrev pub end_bracket : Term → List Frame → Moved
end_bracket e (InIf a n ∷ fs) = go (suc n) (Begin (suc n)) (Then a n e ∷ fs)
end_bracket e (InWhile a n ∷ fs) = go (suc n) (Begin (suc n)) (Turns a e ∷ fs)
end_bracket e (InDo a n s ∷ fs) = go (suc n) (Closing n (DoWhile a s e)) fs
end_bracket e (InAssign a n p op ∷ fs) = end_final n (Assign a p op e) fs
end_bracket e (InBehind true a n ∷ fs) = end_step true (TargetDereference a e) fs
end_bracket e _ = None

abbrev pub on_close_round : Term → List Frame → Moved
on_close_round e (InRound a n ∷ fs) = go (suc n) (ExpressionRead n a e) fs
on_close_round e (InCall is_statement a x n es ∷ fs) = end_call is_statement a x n (ThenTerm es e) fs
on_close_round e fs = end_bracket e fs

abbrev pub on_comma : Term → List Frame → Moved
on_comma e (InCall is_statement a x n es ∷ fs) = go (suc n) (Operand (suc n)) (InCall is_statement a x n (ThenTerm es e) ∷ fs)
on_comma e _ = None

abbrev pub on_close_square : Term → List Frame → Moved
on_close_square e (InElement a x n ∷ fs) = go (suc n) (ExpressionRead n a (Element a x e)) fs
on_close_square e (InAddress a b x n ∷ fs) = go (suc n) (ExpressionRead n a (ElementAddress a b x e)) fs
on_close_square e (InPart is_step a x n ∷ fs) = go (suc n) (TargetRead is_step n a (TargetElement a x e)) fs
on_close_square e _ = None

abbrev pub on_colon : ℕ → Term → List Frame → Moved
on_colon n e (Conditional b d ∷ fs) = go n (Operand n) (Chosen b d e ∷ fs)
on_colon n e _ = None

-- the semicolon of a declaration in a block
abbrev pub add_declaration : ℕ → Stmt → List Frame → Moved
add_declaration n s (InItems m ss ∷ fs) = go n (Item n) (InItems m (ThenStmt ss s) ∷ fs)
add_declaration n s _ = None

-- so of one with a value, which may be the first part of a `for`
abbrev pub end_declaration : ℕ → Stmt → List Frame → Moved
end_declaration n s (InInitial a ∷ fs) = go n (Optional n) (InCondition a n (With s) ∷ fs)
end_declaration n s fs = add_declaration n s fs

abbrev pub on_semicolon : Term → List Frame → Moved
on_semicolon e (InAssign a n p op ∷ fs) = end_simple n (Assign a p op e) fs
on_semicolon e (InBehind true a n ∷ fs) = end_step false (TargetDereference a e) fs
on_semicolon e (InDeclare a n kind b x ∷ fs) = end_declaration n (DeclareAs a kind b x e) fs
on_semicolon e (InReturn a n ∷ fs) = go n (StatementRead (ReturnValue a e)) fs
on_semicolon e (InCondition a n i ∷ fs) = go n (Final n) (InFinal a i (WithTerm e) ∷ fs)
on_semicolon e _ = None

-- a semicolon in place of an expression
abbrev pub without : List Frame → Moved
without (InReturn a n ∷ fs) = go n (StatementRead (Return a)) fs
without (InCondition a n i ∷ fs) = go n (Final n) (InFinal a i WithoutTerm ∷ fs)
without _ = None

-- an assignment, behind `*` and an operand
abbrev pub on_assignment : Option (Option BinaryOperator) → Term → List Frame → Moved
on_assignment (Some op) e (InBehind false a n ∷ fs) = go n (Operand n) (InAssign a n (TargetDereference a e) op ∷ fs)
on_assignment _ e _ = None

-- Behind `*` and an operand at a statement's begin no operator can come.
abbrev pub unless_behind : List Frame → Moved → Moved
unless_behind (InBehind is_step a n ∷ fs) m = None
unless_behind _ m = m

abbrev pub wait : ℕ → InfixOperator → Folded → Moved
wait n op x = unless_behind x.rest (go n (Operand (suc n)) (After x.from op x.term ∷ x.rest))

abbrev pub ask : ℕ → Folded → Moved
ask n x = unless_behind x.rest (go n (Operand (suc n)) (Conditional x.from x.term ∷ x.rest))

-- after an expression, at a token that is no operator between two
abbrev pub end_expression : TokenKind → ℕ → Folded → Moved
end_expression kinds.Question n x = ask n x
end_expression kinds.Colon n x = on_colon n x.term x.rest
end_expression kinds.CloseRound n x = on_close_round x.term x.rest
end_expression kinds.Comma n x = on_comma x.term x.rest
end_expression kinds.CloseSquare n x = on_close_square x.term x.rest
end_expression kinds.Semicolon n x = on_semicolon x.term x.rest
end_expression kind n x = on_assignment (assign_of kind) x.term x.rest

-- how tightly the operators before an expression must bind, so that they take it in front of a token
abbrev pub asked_level : Option InfixOperator → TokenKind → ℕ
asked_level (Some op) kind = level op
asked_level None kinds.Question = 1
asked_level None _ = 0

abbrev pub after_folded : Option InfixOperator → TokenKind → ℕ → Folded → Moved
after_folded (Some op) kind n x = wait n op x
after_folded None kind n x = end_expression kind n x

abbrev pub on_expression_read : ℕ → ℕ → Term → List Frame → Token → Moved
on_expression_read n from e fs t = after_folded (infix_of t.kind) t.kind n (close (asked_level (infix_of t.kind) t.kind) from e fs)

-- after a name in an expression
abbrev pub on_named : ℕ → ℕ → ℕ → List Frame → Token → Moved
on_named n a x fs t = elim t.kind [
  | kinds.OpenSquare ↦ go n (Operand (suc n)) (InElement a x n ∷ fs)
  | kinds.OpenRound ↦ go n (CallOpen (suc n)) (InCall false a x n NoTerm ∷ fs)
  | _ ↦ on_expression_read n a (Variable a x) fs t
]

abbrev pub on_after_and : ℕ → ℕ → List Frame → Token → Moved
on_after_and n a fs t = elim t.kind [
  | kinds.Name x ↦ go n (AndName n a t.at x) fs
  | _ ↦ None
]

abbrev pub on_and_name : ℕ → ℕ → ℕ → ℕ → List Frame → Token → Moved
on_and_name n a b x fs t = elim t.kind [
  | kinds.OpenSquare ↦ go n (Operand (suc n)) (InAddress a b x n ∷ fs)
  | _ ↦ None
]

abbrev pub close_call : List Frame → Moved
close_call (InCall is_statement a x n es ∷ fs) = end_call is_statement a x n es fs
close_call _ = None

-- after the bracket of a call
abbrev pub on_call_open : ℕ → List Frame → Token → Moved
on_call_open n fs t = elim t.kind [
  | kinds.CloseRound ↦ close_call fs
  | _ ↦ on_operand n fs t
]

-- where an expression is wanted, or a semicolon
abbrev pub on_optional : ℕ → List Frame → Token → Moved
on_optional n fs t = elim t.kind [
  | kinds.Semicolon ↦ without fs
  | _ ↦ on_operand n fs t
]

-- ---- types

-- where a type may begin
abbrev pub on_typing : Purpose → List Frame → TokenKind → Moved
on_typing p fs kind = elim kind [
  | kinds.Type type ↦ go (nesting_of p) (AfterTyping p (Integer type)) fs
  | kinds.SizeT ↦ when (takes_size p) (go (nesting_of p) (AfterTyping p (Integer Ulong)) fs)
  | kinds.Space space ↦ go (nesting_of p) (AfterSpace p space) fs
  | _ ↦ None
]

-- after a pointer's `const`
abbrev pub on_after_const : Purpose → AddressSpace → Bool → List Frame → TokenKind → Moved
on_after_const p space is_const fs kind = elim kind [
  | kinds.Type type ↦ go (nesting_of p) (AfterElement p space is_const type) fs
  | kinds.SizeT ↦ when (takes_size p) (go (nesting_of p) (AfterElement p space is_const Ulong) fs)
  | _ ↦ None
]

abbrev pub on_after_space : Purpose → AddressSpace → List Frame → TokenKind → Moved
on_after_space p space fs kinds.Const = go (nesting_of p) (AfterConst p space) fs
on_after_space p space fs kind = on_after_const p space false fs kind

-- a name in place of a pointer's star: a local array's
abbrev pub on_local_name : Purpose → AddressSpace → Bool → IntType → ℕ → ℕ → List Frame → Moved
on_local_name (ForDeclaration a n) Local false type b x fs = go n (ArrayNamed n a true type b x) fs
on_local_name _ _ _ type b x fs = None

abbrev pub on_after_element : Purpose → AddressSpace → Bool → IntType → List Frame → Token → Moved
on_after_element p space is_const type fs t = elim t.kind [
  | kinds.Star ↦ go (nesting_of p) (AfterTyping p (pointer_to space is_const type)) fs
  | kinds.Name x ↦ on_local_name p space is_const type t.at x fs
  | _ ↦ None
]

abbrev pub add_parameter : Parameter → Head → Head
add_parameter p h = head h.is_kernel h.result h.name_at h.name (h.parameters ++ p ∷ [])

abbrev pub on_parameter_name : Bool → Parameter → List Frame → Moved
on_parameter_name u p (InHead h ∷ fs) = go 1 (AfterParameter u) (InHead (add_parameter p h) ∷ fs)
on_parameter_name u p _ = None

-- the name of what a type was read for
abbrev pub on_typed_name : Purpose → VariableType → ℕ → ℕ → List Frame → Moved
on_typed_name (ForParameter u) kind b x fs = on_parameter_name u (parameter_of kind b x) fs
on_typed_name (ForDeclaration a n) kind b x fs = go n (Declared n a kind b x) fs

abbrev pub on_after_typing : Purpose → VariableType → List Frame → Token → Moved
on_after_typing p kind fs t = elim t.kind [
  | kinds.Name x ↦ on_typed_name p kind t.at x fs
  | _ ↦ None
]

-- ---- statements and declarations

-- the items of a block are in front
abbrev pub in_block : List Frame → Bool
in_block (InItems n ss ∷ fs) = true
in_block _ = false

-- the square bracket behind a declared name: in a block, that of an array
abbrev pub on_array : ℕ → ℕ → VariableType → ℕ → ℕ → List Frame → Moved
on_array n a (Integer type) b x fs = when (in_block fs) (go n (ArrayOpened n a false type b x) fs)
on_array n a _ b x fs = None

abbrev pub on_declared : ℕ → ℕ → VariableType → ℕ → ℕ → List Frame → Token → Moved
on_declared n a kind b x fs t = elim t.kind [
  | kinds.Assign ↦ go n (Operand n) (InDeclare a n kind b x ∷ fs)
  | kinds.Semicolon ↦ add_declaration n (Declare a kind b x) fs
  | kinds.OpenSquare ↦ on_array n a kind b x fs
  | _ ↦ None
]

abbrev pub on_array_named : ℕ → ℕ → Bool → IntType → ℕ → ℕ → List Frame → TokenKind → Moved
on_array_named n a is_local type b x fs kind = elim kind [
  | kinds.OpenSquare ↦ go n (ArrayOpened n a is_local type b x) fs
  | _ ↦ None
]

abbrev pub on_array_opened : ℕ → ℕ → Bool → IntType → ℕ → ℕ → List Frame → Token → Moved
on_array_opened n a is_local type b x fs t = elim t.kind [
  | kinds.Number v ↦ go (suc n) (ArraySized n (DeclareArray a is_local type b x t.at v)) fs
  | _ ↦ None
]

abbrev pub on_array_sized : ℕ → Stmt → List Frame → TokenKind → Moved
on_array_sized n s fs kind = elim kind [
  | kinds.CloseSquare ↦ go (suc n) (ArrayClosed n s) fs
  | _ ↦ None
]

abbrev pub on_array_closed : ℕ → Stmt → List Frame → TokenKind → Moved
on_array_closed n s fs kind = elim kind [
  | kinds.Semicolon ↦ add_declaration n s fs
  | _ ↦ None
]

-- where a function ends
abbrev pub end_function : ℕ → Func → List Frame → Moved
end_function n f (InProgram done ∷ fs) = go n Top (InProgram (ThenFunc done f) ∷ fs)
end_function n f _ = None

-- where a block with these items ends
abbrev pub end_items : ℕ → Stmts → List Frame → Moved
end_items n ss (InBody h a ∷ fs) = end_function n (with_body h a ss) fs
end_items n ss (InBlock a m ∷ fs) = go n (StatementRead (Block a ss)) fs
end_items n ss _ = None

abbrev pub on_close_brace : List Frame → Moved
on_close_brace (InItems n ss ∷ fs) = end_items n ss fs
on_close_brace _ = None

-- where a simple statement may begin
abbrev pub on_simple : ℕ → List Frame → Token → Moved
on_simple n fs t = elim t.kind [
  | kinds.Name x ↦ go n (BeginName false n t.at x) fs
  | kinds.Star ↦ go n (Operand (suc n)) (InBehind false t.at n ∷ fs)
  | kinds.PlusPlus ↦ go n (Aim (suc n)) (InStep t.at n true ∷ fs)
  | kinds.MinusMinus ↦ go n (Aim (suc n)) (InStep t.at n false ∷ fs)
  | _ ↦ None
]

-- where a statement may begin
abbrev pub on_begin : ℕ → List Frame → Token → Moved
on_begin n fs t = elim t.kind [
  | kinds.OpenBrace ↦ go n (Item (suc n)) (InItems (suc n) NoStmt ∷ InBlock t.at n ∷ fs)
  | kinds.Semicolon ↦ go n (StatementRead (Empty t.at)) fs
  | kinds.If ↦ go n (AfterIf n t.at) fs
  | kinds.While ↦ go n (AfterWhile n t.at) fs
  | kinds.Do ↦ go n (Begin (suc n)) (DoTurns t.at n ∷ fs)
  | kinds.For ↦ go n (AfterFor n t.at) fs
  | kinds.Break ↦ go n (Closing n (Break t.at)) fs
  | kinds.Continue ↦ go n (Closing n (Continue t.at)) fs
  | kinds.Return ↦ go n (Optional n) (InReturn t.at n ∷ fs)
  | _ ↦ on_simple n fs t
]

-- a `for` without a first part, and without a third
abbrev pub no_initial : ℕ → List Frame → Moved
no_initial n (InInitial a ∷ fs) = go n (Optional n) (InCondition a n Without ∷ fs)
no_initial n _ = None

abbrev pub no_final : ℕ → List Frame → Moved
no_final n (InFinal a i c ∷ fs) = go n (Begin n) (ForTurns a i c Without ∷ fs)
no_final n _ = None

-- where the first part of a `for` may begin
abbrev pub on_initial : ℕ → List Frame → Token → Moved
on_initial n fs t = elim t.kind [
  | kinds.Semicolon ↦ no_initial n fs
  | kinds.Type type ↦ on_typing (ForDeclaration t.at n) fs t.kind
  | kinds.SizeT ↦ on_typing (ForDeclaration t.at n) fs t.kind
  | _ ↦ on_simple n fs t
]

-- where the third part of a `for` may begin
abbrev pub on_final : ℕ → List Frame → Token → Moved
on_final n fs t = elim t.kind [
  | kinds.CloseRound ↦ no_final n fs
  | _ ↦ on_simple n fs t
]

-- a bracket behind `if`, `while`, `for`
abbrev pub on_after_if : ℕ → ℕ → List Frame → TokenKind → Moved
on_after_if n a fs kind = elim kind [
  | kinds.OpenRound ↦ go n (Operand (suc n)) (InIf a n ∷ fs)
  | _ ↦ None
]

abbrev pub on_after_while : ℕ → ℕ → List Frame → TokenKind → Moved
on_after_while n a fs kind = elim kind [
  | kinds.OpenRound ↦ go n (Operand (suc n)) (InWhile a n ∷ fs)
  | _ ↦ None
]

abbrev pub on_after_for : ℕ → ℕ → List Frame → TokenKind → Moved
on_after_for n a fs kind = elim kind [
  | kinds.OpenRound ↦ go n (Initial (suc n)) (InInitial a ∷ fs)
  | _ ↦ None
]

-- so behind the body of a `do` and its `while`
abbrev pub on_after_do : ℕ → ℕ → Stmt → List Frame → TokenKind → Moved
on_after_do n a s fs kind = elim kind [
  | kinds.OpenRound ↦ go n (Operand (suc n)) (InDo a n s ∷ fs)
  | _ ↦ None
]

-- where a statement, a declaration or the block's end is wanted
abbrev pub on_item : ℕ → List Frame → Token → Moved
on_item n fs t = elim t.kind [
  | kinds.CloseBrace ↦ on_close_brace fs
  | kinds.Type type ↦ on_typing (ForDeclaration t.at n) fs t.kind
  | kinds.SizeT ↦ on_typing (ForDeclaration t.at n) fs t.kind
  | kinds.Space space ↦ on_typing (ForDeclaration t.at n) fs t.kind
  | _ ↦ on_begin n fs t
]

-- where a step's target is wanted
abbrev pub on_aim : ℕ → List Frame → Token → Moved
on_aim n fs t = elim t.kind [
  | kinds.Name x ↦ go n (BeginName true n t.at x) fs
  | kinds.Star ↦ go n (Operand (suc n)) (InBehind true t.at n ∷ fs)
  | _ ↦ None
]

-- after a target: an assignment or a step
abbrev pub on_placed : Option (Option BinaryOperator) → Option Bool → ℕ → ℕ → Target → List Frame → Moved
on_placed (Some op) _ n a p fs = go n (Operand n) (InAssign a n p op ∷ fs)
on_placed None (Some is_increment) n a p fs = go n (Ended n (Step a p is_increment)) fs
on_placed None None n a p fs = None

-- after a step's target
abbrev pub on_stepped : Target → List Frame → TokenKind → Moved
on_stepped p fs kind = elim kind [
  | kinds.Semicolon ↦ end_step false p fs
  | kinds.CloseRound ↦ end_step true p fs
  | _ ↦ None
]

-- after a name or an element that is a target
abbrev pub on_target_read : Bool → ℕ → ℕ → Target → List Frame → TokenKind → Moved
on_target_read false n a p fs kind = on_placed (assign_of kind) (step_of kind) n a p fs
on_target_read true n a p fs kind = on_stepped p fs kind

abbrev pub begin_call : Bool → ℕ → ℕ → ℕ → List Frame → Moved
begin_call false n a x fs = go n (CallOpen (suc n)) (InCall true a x n NoTerm ∷ fs)
begin_call true n a x fs = None

-- after the name with which a statement, or a step's target, begins
abbrev pub on_begin_name : Bool → ℕ → ℕ → ℕ → List Frame → Token → Moved
on_begin_name is_step n a x fs t = elim t.kind [
  | kinds.OpenSquare ↦ go n (Operand (suc n)) (InPart is_step a x n ∷ fs)
  | kinds.OpenRound ↦ begin_call is_step n a x fs
  | _ ↦ on_target_read is_step n a (TargetVariable a x) fs t.kind
]

-- after a simple statement
abbrev pub on_ended : ℕ → Stmt → List Frame → TokenKind → Moved
on_ended n s fs kind = elim kind [
  | kinds.Semicolon ↦ end_simple n s fs
  | kinds.CloseRound ↦ end_final n s fs
  | _ ↦ None
]

-- after another statement but its semicolon
abbrev pub on_closing : ℕ → Stmt → List Frame → Token → Moved
on_closing n s fs t = elim t.kind [
  | kinds.Semicolon ↦ go n (StatementRead s) fs
  | _ ↦ None
]

-- a statement, and the frames behind it
pub record Settled : Type 0 where
  pub statement : Stmt
  pub rest : List Frame

abbrev pub settled : Stmt → List Frame → Settled
settled s fs = record { statement = s; rest = fs }

abbrev pub is_else : TokenKind → Bool
is_else kinds.Else = true
is_else _ = false

-- A statement ends those that control it: an `if` only where no `else` comes next.
abbrev pub settle : (before_else : Bool) → Stmt → List Frame → Settled
settle k s (Otherwise a e t ∷ fs) = settle k (IfElse a e t s) fs
settle k s (Turns a e ∷ fs) = settle k (While a e s) fs
settle k s (ForTurns a i c f ∷ fs) = settle k (For a i c f s) fs
settle false s (Then a n e ∷ fs) = settle false (If a e s) fs
settle k s fs = settled s fs

abbrev pub on_else : ℕ → ℕ → Term → Stmt → List Frame → TokenKind → Moved
on_else a n e s fs kind = elim kind [
  | kinds.Else ↦ go n (Begin (suc n)) (Otherwise a e s ∷ fs)
  | _ ↦ None
]

abbrev pub on_do_while : ℕ → ℕ → Stmt → List Frame → TokenKind → Moved
on_do_while a n s fs kind = elim kind [
  | kinds.While ↦ go n (AfterDo n a s) fs
  | _ ↦ None
]

-- after a statement: the next of its block, an `else`, or the `while` of a `do`
abbrev pub on_settled : Stmt → List Frame → Token → Moved
on_settled s (InItems m ss ∷ fs) t = on_item m (InItems m (ThenStmt ss s) ∷ fs) t
on_settled s (Then a n e ∷ fs) t = on_else a n e s fs t.kind
on_settled s (DoTurns a n ∷ fs) t = on_do_while a n s fs t.kind
on_settled s _ t = None

abbrev pub on_statement_read : Stmt → List Frame → Token → Moved
on_statement_read s fs t = let x : Settled = settle (is_else t.kind) s fs in on_settled x.statement x.rest t

-- ---- functions

abbrev pub on_top : List Frame → Token → Moved
on_top fs t = elim t.kind [
  | kinds.Kernel ↦ go 0 AfterKernel fs
  | kinds.Void ↦ go 0 (AfterReturning false None) fs
  | kinds.Type type ↦ go 0 (AfterReturning false (Some type)) fs
  | kinds.SizeT ↦ go 0 (AfterReturning false (Some Ulong)) fs
  | _ ↦ None
]

abbrev pub on_after_kernel : List Frame → Token → Moved
on_after_kernel fs t = elim t.kind [
  | kinds.Void ↦ go 0 (AfterReturning true None) fs
  | _ ↦ None
]

abbrev pub on_after_returning : Bool → Option IntType → List Frame → Token → Moved
on_after_returning is_kernel result fs t = elim t.kind [
  | kinds.Name x ↦ go 0 (AfterName is_kernel result t.at x) fs
  | _ ↦ None
]

abbrev pub on_after_name : Bool → Option IntType → ℕ → ℕ → List Frame → Token → Moved
on_after_name is_kernel result a x fs t = elim t.kind [
  | kinds.OpenRound ↦ go 0 (HeadOpen (not is_kernel)) (InHead (head is_kernel result a x []) ∷ fs)
  | _ ↦ None
]

-- after the bracket of a function's head
abbrev pub on_head_open : Bool → List Frame → Token → Moved
on_head_open u fs t = elim t.kind [
  | kinds.CloseRound ↦ go 1 HeadDone fs
  | _ ↦ on_typing (ForParameter u) fs t.kind
]

abbrev pub on_after_parameter : Bool → List Frame → Token → Moved
on_after_parameter u fs t = elim t.kind [
  | kinds.Comma ↦ go 1 (WantParameter u) fs
  | kinds.CloseRound ↦ go 1 HeadDone fs
  | _ ↦ None
]

abbrev pub on_open_brace : ℕ → List Frame → Moved
on_open_brace a (InHead h ∷ fs) = go 0 (Item 1) (InItems 1 NoStmt ∷ InBody h a ∷ fs)
on_open_brace a _ = None

abbrev pub on_head_done : List Frame → Token → Moved
on_head_done fs t = elim t.kind [
  | kinds.OpenBrace ↦ on_open_brace t.at fs
  | _ ↦ None
]

abbrev pub step_in : Mode → List Frame → Token → Moved
step_in (Operand n) fs t = on_operand n fs t
step_in (ExpressionRead n from e) fs t = on_expression_read n from e fs t
step_in (Named n a x) fs t = on_named n a x fs t
step_in (Opened n a) fs t = on_opened n a fs t
step_in (CastType n a type) fs t = on_cast_type n a type fs t
step_in (AfterAnd n a) fs t = on_after_and n a fs t
step_in (AndName n a b x) fs t = on_and_name n a b x fs t
step_in (CallOpen n) fs t = on_call_open n fs t
step_in (Optional n) fs t = on_optional n fs t
step_in (Item n) fs t = on_item n fs t
step_in (Begin n) fs t = on_begin n fs t
step_in (Initial n) fs t = on_initial n fs t
step_in (Final n) fs t = on_final n fs t
step_in (Aim n) fs t = on_aim n fs t
step_in (BeginName is_step n a x) fs t = on_begin_name is_step n a x fs t
step_in (TargetRead is_step n a p) fs t = on_target_read is_step n a p fs t.kind
step_in (Ended n s) fs t = on_ended n s fs t.kind
step_in (Closing n s) fs t = on_closing n s fs t
step_in (StatementRead s) fs t = on_statement_read s fs t
step_in (AfterIf n a) fs t = on_after_if n a fs t.kind
step_in (AfterWhile n a) fs t = on_after_while n a fs t.kind
step_in (AfterFor n a) fs t = on_after_for n a fs t.kind
step_in (AfterDo n a s) fs t = on_after_do n a s fs t.kind
step_in (AfterSpace p space) fs t = on_after_space p space fs t.kind
step_in (AfterConst p space) fs t = on_after_const p space true fs t.kind
step_in (AfterElement p space is_const type) fs t = on_after_element p space is_const type fs t
step_in (AfterTyping p kind) fs t = on_after_typing p kind fs t
step_in (Declared n a kind b x) fs t = on_declared n a kind b x fs t
step_in (ArrayNamed n a is_local type b x) fs t = on_array_named n a is_local type b x fs t.kind
step_in (ArrayOpened n a is_local type b x) fs t = on_array_opened n a is_local type b x fs t
step_in (ArraySized n s) fs t = on_array_sized n s fs t.kind
step_in (ArrayClosed n s) fs t = on_array_closed n s fs t.kind
step_in Top fs t = on_top fs t
step_in AfterKernel fs t = on_after_kernel fs t
step_in (AfterReturning is_kernel result) fs t = on_after_returning is_kernel result fs t
step_in (AfterName is_kernel result a x) fs t = on_after_name is_kernel result a x fs t
step_in (HeadOpen u) fs t = on_head_open u fs t
step_in (WantParameter u) fs t = on_typing (ForParameter u) fs t.kind
step_in (AfterParameter u) fs t = on_after_parameter u fs t
step_in HeadDone fs t = on_head_done fs t

abbrev pub step : State → Token → Moved
step s t = step_in s.mode s.frames t

-- the program, where the text may end
abbrev pub ended_in : Mode → List Frame → Option Funcs
ended_in Top (InProgram (ThenFunc fs f) ∷ []) = Some (ThenFunc fs f)
ended_in _ _ = None

abbrev pub ended : State → Option Funcs
ended s = ended_in s.mode s.frames

abbrev pub begun : State
begun = in_mode Top (InProgram NoFunc ∷ [])
