-- The tokens that a tree is printed as, and trees without offsets.
use Rattle.std.specs.Prelude.{◌≡◌, ℕ, suc, nat_lt, List, [], ◌∷◌, map, Bool, true, false, Option, None, Some}
use Rattle.clnum.specs.declared.int_type.IntType.{IntType}
use Rattle.clnum.specs.declared.operators.UnaryOperator.{UnaryOperator}
use Rattle.clnum.specs.declared.operators.UnaryOperator.TheVariants as unary_operators
use Rattle.clnum.specs.declared.operators.BinaryOperator.{BinaryOperator}
use Rattle.clnum.specs.declared.operators.BinaryOperator.TheVariants.{Add, Subtract, Multiply, Divide, Remainder, ShiftLeft, ShiftRight, Less, Greater, LessOrEqual, GreaterOrEqual, Equal, NotEqual, BitAnd, BitXor, BitOr}
use Rattle.clmodel.specs.declared.tree.InfixOperator.{InfixOperator}
use Rattle.clmodel.specs.declared.tree.InfixOperator.TheVariants.{Arithmetic, LogicalAnd, LogicalOr}
use Rattle.clmodel.specs.declared.tree.AddressSpace.TheVariants.{Local}
use Rattle.clmodel.specs.declared.tree.VariableType.{VariableType}
use Rattle.clmodel.specs.declared.tree.VariableType.TheVariants.{Integer, Pointer}
use Rattle.clmodel.specs.declared.tree.Parameter.{Parameter}
use Rattle.clmodel.specs.Tree.{Term, Number, Variable, Element, ElementAddress, Dereference, Call, Unary, Cast, Binary, Choice, Terms, NoTerm, ThenTerm, Target, TargetVariable, TargetElement, TargetDereference, Stmt, Empty, Block, Declare, DeclareAs, DeclareArray, Assign, Step, CallOnly, If, IfElse, While, DoWhile, For, Break, Continue, Return, ReturnValue, MaybeStmt, Without, With, MaybeTerm, WithoutTerm, WithTerm, Stmts, NoStmt, ThenStmt, Func, Funcs, NoFunc, ThenFunc}
use Rattle.clsyntax_lex.specs.declared.token.Token.{Token}
use Rattle.clsyntax_lex.specs.declared.token.TokenKind.{TokenKind}
use Rattle.clsyntax_lex.specs.declared.token.TokenKind.TheVariants as kinds
use Rattle.clsyntax_lex.specs.Printed.{kinds_of}
use Rattle.clsyntax_terms.specs.Grammar.{Placed, level, tight}
use Rattle.clsyntax.specs.Correct.{tokens, IsProgram}

-- ---- trees without offsets

abbrev mutual
  pub plain_term : Term → Term
  plain_term (Number at v) = Number 0 v
  plain_term (Variable at x) = Variable 0 x
  plain_term (Element at x e) = Element 0 x (plain_term e)
  plain_term (ElementAddress at b x e) = ElementAddress 0 0 x (plain_term e)
  plain_term (Dereference at e) = Dereference 0 (plain_term e)
  plain_term (Call at x es) = Call 0 x (plain_terms es)
  plain_term (Unary at op e) = Unary 0 op (plain_term e)
  plain_term (Cast at type e) = Cast 0 type (plain_term e)
  plain_term (Binary at op d e) = Binary 0 op (plain_term d) (plain_term e)
  plain_term (Choice at c d e) = Choice 0 (plain_term c) (plain_term d) (plain_term e)

  pub plain_terms : Terms → Terms
  plain_terms NoTerm = NoTerm
  plain_terms (ThenTerm es e) = ThenTerm (plain_terms es) (plain_term e)

abbrev pub plain_target : Target → Target
plain_target (TargetVariable at x) = TargetVariable 0 x
plain_target (TargetElement at x e) = TargetElement 0 x (plain_term e)
plain_target (TargetDereference at e) = TargetDereference 0 (plain_term e)

abbrev pub plain_maybe_term : MaybeTerm → MaybeTerm
plain_maybe_term WithoutTerm = WithoutTerm
plain_maybe_term (WithTerm e) = WithTerm (plain_term e)

abbrev mutual
  pub plain_stmt : Stmt → Stmt
  plain_stmt (Empty at) = Empty 0
  plain_stmt (Block at ss) = Block 0 (plain_stmts ss)
  plain_stmt (Declare at kind b x) = Declare 0 kind 0 x
  plain_stmt (DeclareAs at kind b x e) = DeclareAs 0 kind 0 x (plain_term e)
  plain_stmt (DeclareArray at is_local type b x c length) = DeclareArray 0 is_local type 0 x 0 length
  plain_stmt (Assign at p op e) = Assign 0 (plain_target p) op (plain_term e)
  plain_stmt (Step at p is_increment) = Step 0 (plain_target p) is_increment
  plain_stmt (CallOnly at x es) = CallOnly 0 x (plain_terms es)
  plain_stmt (If at e s) = If 0 (plain_term e) (plain_stmt s)
  plain_stmt (IfElse at e s t) = IfElse 0 (plain_term e) (plain_stmt s) (plain_stmt t)
  plain_stmt (While at e s) = While 0 (plain_term e) (plain_stmt s)
  plain_stmt (DoWhile at s e) = DoWhile 0 (plain_stmt s) (plain_term e)
  plain_stmt (For at first e third s) = For 0 (plain_maybe_stmt first) (plain_maybe_term e) (plain_maybe_stmt third) (plain_stmt s)
  plain_stmt (Break at) = Break 0
  plain_stmt (Continue at) = Continue 0
  plain_stmt (Return at) = Return 0
  plain_stmt (ReturnValue at e) = ReturnValue 0 (plain_term e)

  pub plain_stmts : Stmts → Stmts
  plain_stmts NoStmt = NoStmt
  plain_stmts (ThenStmt ss s) = ThenStmt (plain_stmts ss) (plain_stmt s)

  pub plain_maybe_stmt : MaybeStmt → MaybeStmt
  plain_maybe_stmt Without = Without
  plain_maybe_stmt (With s) = With (plain_stmt s)

abbrev pub plain_parameter : Parameter → Parameter
plain_parameter p = record { name_at = 0; name = p.name; kind = p.kind }

abbrev pub plain_func : Func → Func
plain_func f = record { is_kernel = f.is_kernel; result = f.result; name_at = 0; name = f.name; parameters = map plain_parameter f.parameters; body_at = 0; body = plain_stmts f.body }

abbrev pub plain_funcs : Funcs → Funcs
plain_funcs NoFunc = NoFunc
plain_funcs (ThenFunc fs f) = ThenFunc (plain_funcs fs) (plain_func f)

-- ---- the tokens of a tree, in front of others

abbrev pub Kinds : Type 0
Kinds = List TokenKind

abbrev pub arithmetic_kind : BinaryOperator → TokenKind
arithmetic_kind BitOr = kinds.Or
arithmetic_kind BitXor = kinds.Caret
arithmetic_kind BitAnd = kinds.And
arithmetic_kind Equal = kinds.Equal
arithmetic_kind NotEqual = kinds.NotEqual
arithmetic_kind Less = kinds.Less
arithmetic_kind Greater = kinds.Greater
arithmetic_kind LessOrEqual = kinds.LessOrEqual
arithmetic_kind GreaterOrEqual = kinds.GreaterOrEqual
arithmetic_kind ShiftLeft = kinds.ShiftLeft
arithmetic_kind ShiftRight = kinds.ShiftRight
arithmetic_kind Add = kinds.Plus
arithmetic_kind Subtract = kinds.Minus
arithmetic_kind Multiply = kinds.Star
arithmetic_kind Divide = kinds.Slash
arithmetic_kind Remainder = kinds.Percent

abbrev pub infix_kind : InfixOperator → TokenKind
infix_kind LogicalOr = kinds.OrOr
infix_kind LogicalAnd = kinds.AndAnd
infix_kind (Arithmetic op) = arithmetic_kind op

abbrev pub unary_kind : UnaryOperator → TokenKind
unary_kind unary_operators.Plus = kinds.Plus
unary_kind unary_operators.Negate = kinds.Minus
unary_kind unary_operators.Complement = kinds.Tilde
unary_kind unary_operators.Not = kinds.Not

-- the assignment with an operator; comparisons have none
abbrev pub assign_kind : Option BinaryOperator → TokenKind
assign_kind None = kinds.Assign
assign_kind (Some Add) = kinds.PlusAssign
assign_kind (Some Subtract) = kinds.MinusAssign
assign_kind (Some Multiply) = kinds.StarAssign
assign_kind (Some Divide) = kinds.SlashAssign
assign_kind (Some Remainder) = kinds.PercentAssign
assign_kind (Some ShiftLeft) = kinds.ShiftLeftAssign
assign_kind (Some ShiftRight) = kinds.ShiftRightAssign
assign_kind (Some BitAnd) = kinds.AndAssign
assign_kind (Some BitXor) = kinds.CaretAssign
assign_kind (Some BitOr) = kinds.OrAssign
assign_kind (Some _) = kinds.Reserved

abbrev pub step_kind : (is_increment : Bool) → TokenKind
step_kind true = kinds.PlusPlus
step_kind false = kinds.MinusMinus

-- round brackets, where they are needed
abbrev pub bracketed : (needed : Bool) → (Kinds → Kinds) → Kinds → Kinds
bracketed true print rest = kinds.OpenRound ∷ print (kinds.CloseRound ∷ rest)
bracketed false print rest = print rest

-- Where an expression of a level is wanted, one whose outermost operator binds less tightly is in brackets.
abbrev mutual
  pub print_term : ℕ → Term → Kinds → Kinds
  print_term l (Number at v) rest = kinds.Number v ∷ rest
  print_term l (Variable at x) rest = kinds.Name x ∷ rest
  print_term l (Element at x e) rest = kinds.Name x ∷ kinds.OpenSquare ∷ print_term 0 e (kinds.CloseSquare ∷ rest)
  print_term l (ElementAddress at b x e) rest = kinds.And ∷ kinds.Name x ∷ kinds.OpenSquare ∷ print_term 0 e (kinds.CloseSquare ∷ rest)
  print_term l (Dereference at e) rest = kinds.Star ∷ print_term tight e rest
  print_term l (Call at x es) rest = kinds.Name x ∷ kinds.OpenRound ∷ print_terms es (kinds.CloseRound ∷ rest)
  print_term l (Unary at op e) rest = unary_kind op ∷ print_term tight e rest
  print_term l (Cast at type e) rest = kinds.OpenRound ∷ kinds.Type type ∷ kinds.CloseRound ∷ print_term tight e rest
  print_term l (Binary at op d e) rest = bracketed (nat_lt (level op) l) (λ more. print_term (level op) d (infix_kind op ∷ print_term (suc (level op)) e more)) rest
  print_term l (Choice at c d e) rest = bracketed (nat_lt 0 l) (λ more. print_term 1 c (kinds.Question ∷ print_term 0 d (kinds.Colon ∷ print_term 0 e more))) rest

  -- separated by commas
  pub print_terms : Terms → Kinds → Kinds
  print_terms NoTerm rest = rest
  print_terms (ThenTerm NoTerm e) rest = print_term 0 e rest
  print_terms (ThenTerm (ThenTerm es d) e) rest = print_terms (ThenTerm es d) (kinds.Comma ∷ print_term 0 e rest)

abbrev pub print_target : Target → Kinds → Kinds
print_target (TargetVariable at x) rest = kinds.Name x ∷ rest
print_target (TargetElement at x e) rest = kinds.Name x ∷ kinds.OpenSquare ∷ print_term 0 e (kinds.CloseSquare ∷ rest)
print_target (TargetDereference at e) rest = kinds.Star ∷ print_term tight e rest

abbrev pub print_const : Bool → Kinds → Kinds
print_const true rest = kinds.Const ∷ rest
print_const false rest = rest

abbrev pub print_type : VariableType → Kinds → Kinds
print_type (Integer type) rest = kinds.Type type ∷ rest
print_type (Pointer p) rest = kinds.Space p.space ∷ print_const p.is_const (kinds.Type p.element ∷ kinds.Star ∷ rest)

-- a token in front of others, if it is wanted
abbrev pub with_token : (wanted : Bool) → TokenKind → Kinds → Kinds
with_token true kind rest = kind ∷ rest
with_token false kind rest = rest

-- A declaration, an assignment, a step or a call without its semicolon. A step stands before its target.
abbrev pub print_simple : Stmt → Kinds → Kinds
print_simple (Declare at kind b x) rest = print_type kind (kinds.Name x ∷ rest)
print_simple (DeclareAs at kind b x e) rest = print_type kind (kinds.Name x ∷ kinds.Assign ∷ print_term 0 e rest)
print_simple (DeclareArray at is_local type b x c v) rest = with_token is_local (kinds.Space Local) (kinds.Type type ∷ kinds.Name x ∷ kinds.OpenSquare ∷ kinds.Number v ∷ kinds.CloseSquare ∷ rest)
print_simple (Assign at p op e) rest = print_target p (assign_kind op ∷ print_term 0 e rest)
print_simple (Step at p is_increment) rest = step_kind is_increment ∷ print_target p rest
print_simple (CallOnly at x es) rest = kinds.Name x ∷ kinds.OpenRound ∷ print_terms es (kinds.CloseRound ∷ rest)
print_simple _ rest = rest

-- the parts of a `for` that may be left out
abbrev pub print_part : MaybeStmt → Kinds → Kinds
print_part Without rest = rest
print_part (With s) rest = print_simple s rest

abbrev pub print_condition : MaybeTerm → Kinds → Kinds
print_condition WithoutTerm rest = rest
print_condition (WithTerm e) rest = print_term 0 e rest

abbrev mutual
  pub print_stmt : Stmt → Kinds → Kinds
  print_stmt (Empty at) rest = kinds.Semicolon ∷ rest
  print_stmt (Block at ss) rest = kinds.OpenBrace ∷ print_stmts ss (kinds.CloseBrace ∷ rest)
  print_stmt (If at e s) rest = kinds.If ∷ kinds.OpenRound ∷ print_term 0 e (kinds.CloseRound ∷ print_stmt s rest)
  print_stmt (IfElse at e s t) rest = kinds.If ∷ kinds.OpenRound ∷ print_term 0 e (kinds.CloseRound ∷ print_stmt s (kinds.Else ∷ print_stmt t rest))
  print_stmt (While at e s) rest = kinds.While ∷ kinds.OpenRound ∷ print_term 0 e (kinds.CloseRound ∷ print_stmt s rest)
  print_stmt (DoWhile at s e) rest = kinds.Do ∷ print_stmt s (kinds.While ∷ kinds.OpenRound ∷ print_term 0 e (kinds.CloseRound ∷ kinds.Semicolon ∷ rest))
  print_stmt (For at first e third s) rest =
      kinds.For ∷ kinds.OpenRound ∷ print_part first (kinds.Semicolon ∷ print_condition e (kinds.Semicolon ∷ print_part third (kinds.CloseRound ∷ print_stmt s rest)))
  print_stmt (Break at) rest = kinds.Break ∷ kinds.Semicolon ∷ rest
  print_stmt (Continue at) rest = kinds.Continue ∷ kinds.Semicolon ∷ rest
  print_stmt (Return at) rest = kinds.Return ∷ kinds.Semicolon ∷ rest
  print_stmt (ReturnValue at e) rest = kinds.Return ∷ print_term 0 e (kinds.Semicolon ∷ rest)
  print_stmt s rest = print_simple s (kinds.Semicolon ∷ rest)

  pub print_stmts : Stmts → Kinds → Kinds
  print_stmts NoStmt rest = rest
  print_stmts (ThenStmt ss s) rest = print_stmts ss (print_stmt s rest)

abbrev pub print_parameter : Parameter → Kinds → Kinds
print_parameter p rest = print_type p.kind (kinds.Name p.name ∷ rest)

-- separated by commas
abbrev pub print_parameters : List Parameter → Kinds → Kinds
print_parameters [] rest = rest
print_parameters (p ∷ []) rest = print_parameter p rest
print_parameters (p ∷ q ∷ ps) rest = print_parameter p (kinds.Comma ∷ print_parameters (q ∷ ps) rest)

-- the word of what a function gives
abbrev pub result_kind : Option IntType → TokenKind
result_kind None = kinds.Void
result_kind (Some type) = kinds.Type type

abbrev pub print_func : Func → Kinds → Kinds
print_func f rest =
    with_token f.is_kernel kinds.Kernel (result_kind f.result ∷ kinds.Name f.name ∷ kinds.OpenRound ∷ print_parameters f.parameters (kinds.CloseRound ∷ kinds.OpenBrace ∷ print_stmts f.body (kinds.CloseBrace ∷ rest)))

abbrev pub print_funcs : Funcs → Kinds → Kinds
print_funcs NoFunc rest = rest
print_funcs (ThenFunc fs f) rest = print_funcs fs (print_func f rest)

-- the tokens of a program, without offsets
abbrev pub printed : Funcs → Kinds
printed fs = print_funcs fs []

-- a program with these tokens and the same tree, offsets aside
pub record ReadsAgain (ts : List Token) (fs : Funcs) : Type 0 where
  pub placed : List Placed
  pub functions : Funcs
  pub same : tokens placed ≡ ts
  pub program : IsProgram placed functions
  pub plain : plain_funcs functions ≡ plain_funcs fs

-- The tokens of a program's tree, wherever they begin, are a program with the same tree.
abbrev pub IsPrinted : Type 0
IsPrinted = (ps : List Placed) (fs : Funcs) (ts : List Token) → IsProgram ps fs → kinds_of ts ≡ printed fs → ReadsAgain ts fs

-- the names and numbers among tokens, in their order
abbrev pub with_word : TokenKind → Kinds → Kinds
with_word (kinds.Name x) words = kinds.Name x ∷ words
with_word (kinds.Number v) words = kinds.Number v ∷ words
with_word _ words = words

abbrev pub words_in : Kinds → Kinds
words_in [] = []
words_in (k ∷ ks) = with_word k (words_in ks)

-- The tokens of a program's tree have the program's names and numbers, in their order.
abbrev pub HasWords : Type 0
HasWords = (ps : List Placed) (fs : Funcs) → IsProgram ps fs → words_in (kinds_of (tokens ps)) ≡ words_in (printed fs)
