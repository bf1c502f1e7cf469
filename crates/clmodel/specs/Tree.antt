-- The syntax tree of a program as plain data: without where its nodes lie in memory (OpenCL 1.2, 6.3 to 6.9).
use Rattle.std.specs.Prelude.{ℕ, ◌*◌, ◌/◌, List, [], ◌∷◌, map, Bool, Option, None, Some, Box}
use Rattle.std.specs.declared.alloc.Global.{Global}
use Rattle.clnum.specs.Integer.{Integer, bits, natural}
use Rattle.clnum.specs.declared.int_type.IntType.{IntType}
use Rattle.clnum.specs.declared.operators.BinaryOperator.{BinaryOperator}
use Rattle.clnum.specs.declared.operators.BinaryOperator.TheVariants.{Add, Subtract, Multiply, Divide, Remainder, ShiftLeft, ShiftRight, Less, Greater, LessOrEqual, GreaterOrEqual, Equal, NotEqual, BitAnd, BitXor, BitOr}
use Rattle.clnum.specs.declared.operators.UnaryOperator.{UnaryOperator}
use Rattle.clmodel.specs.declared.tree.InfixOperator.{InfixOperator}
use Rattle.clmodel.specs.declared.tree.InfixOperator.TheVariants.{Arithmetic, LogicalAnd, LogicalOr}
use Rattle.clmodel.specs.declared.tree.VariableType.{VariableType}
use Rattle.clmodel.specs.declared.tree.Parameter.{Parameter}
use Rattle.clmodel.specs.declared.tree.Function as rust_function
use Rattle.clmodel.specs.declared.tree.Tree as rust_tree
use Rattle.clmodel.specs.declared.tree.Target as rust_target
use Rattle.clmodel.specs.declared.tree.Target.TheVariants as target
use Rattle.clmodel.specs.declared.tree.Expression as rust_expression
use Rattle.clmodel.specs.declared.tree.Expression.{Expression}
use Rattle.clmodel.specs.declared.tree.Statement as rust_statement

-- how tightly an operator binds, from the loosest (C99 6.5.5 to 6.5.14)
abbrev pub arithmetic_level : BinaryOperator → ℕ
arithmetic_level BitOr = 4
arithmetic_level BitXor = 5
arithmetic_level BitAnd = 6
arithmetic_level Equal = 7
arithmetic_level NotEqual = 7
arithmetic_level Less = 8
arithmetic_level Greater = 8
arithmetic_level LessOrEqual = 8
arithmetic_level GreaterOrEqual = 8
arithmetic_level ShiftLeft = 9
arithmetic_level ShiftRight = 9
arithmetic_level Add = 10
arithmetic_level Subtract = 10
arithmetic_level Multiply = 11
arithmetic_level Divide = 11
arithmetic_level Remainder = 11

abbrev pub level : InfixOperator → ℕ
level LogicalOr = 2
level LogicalAnd = 3
level (Arithmetic op) = arithmetic_level op

mutual
  -- an expression; each node has the offset at which it begins
  pub data Term : Type 0 where
    Number : (at : ℕ) (value : Integer) → Term
    Variable : (at name : ℕ) → Term
    Element : (at name : ℕ) → Term → Term
    ElementAddress : (at name_at name : ℕ) → Term → Term
    Dereference : (at : ℕ) → Term → Term
    Call : (at name : ℕ) → Terms → Term
    Unary : (at : ℕ) → UnaryOperator → Term → Term
    Cast : (at : ℕ) → IntType → Term → Term
    Binary : (at : ℕ) → InfixOperator → Term → Term → Term
    Choice : (at : ℕ) → Term → Term → Term → Term

  -- a list that grows at its end, as the text does
  pub data Terms : Type 0 where
    NoTerm : Terms
    ThenTerm : Terms → Term → Terms

-- terms of a list, behind others
abbrev pub then_all : Terms → List Term → Terms
then_all ts [] = ts
then_all ts (e ∷ es) = then_all (ThenTerm ts e) es

abbrev mutual
  pub term : rust_expression.Expression → Term
  term (rust_expression.Number at value) = Number at value
  term (rust_expression.Variable at name) = Variable at name
  term (rust_expression.Element' at name p index) = Element at name (term index)
  term (rust_expression.ElementAddress' at name_at name p index) = ElementAddress at name_at name (term index)
  term (rust_expression.Dereference' at p pointer) = Dereference at (term pointer)
  term (rust_expression.Call' at name shape arguments) = Call at name (row_terms NoTerm arguments)
  term (rust_expression.Unary' at operator p operand) = Unary at operator (term operand)
  term (rust_expression.Cast' at target p operand) = Cast at target (term operand)
  term (rust_expression.Binary' at operator p left q right) = Binary at operator (term left) (term right)
  term (rust_expression.Choice' at p condition q chosen r otherwise) = Choice at (term condition) (term chosen) (term otherwise)

  pub row_terms : Terms → {m : _} → rust_expression.Row_of-Expression m → Terms
  row_terms ts rust_expression.end_of-Expression = ts
  row_terms ts (rust_expression.more_of-Expression e rest) = row_terms (ThenTerm ts (term e)) rest

-- the target
pub data Target : Type 0 where
  TargetVariable : (at name : ℕ) → Target
  TargetElement : (at name : ℕ) → Term → Target
  TargetDereference : (at : ℕ) → Term → Target

abbrev pub tree_target : rust_target.Target → Target
tree_target (target.Variable at name) = TargetVariable at name
tree_target (target.Element at name index) = TargetElement at name (term index.value)
tree_target (target.Dereference at pointer) = TargetDereference at (term pointer.value)

mutual
  pub data Stmt : Type 0 where
    Empty : (at : ℕ) → Stmt
    Block : (at : ℕ) → Stmts → Stmt
    Declare : (at : ℕ) → VariableType → (name_at name : ℕ) → Stmt
    DeclareAs : (at : ℕ) → VariableType → (name_at name : ℕ) → Term → Stmt
    DeclareArray : (at : ℕ) → (is_local : Bool) → IntType → (name_at name length_at : ℕ) → (length : Integer) → Stmt
    Assign : (at : ℕ) → Target → Option BinaryOperator → Term → Stmt
    Step : (at : ℕ) → Target → (is_increment : Bool) → Stmt
    CallOnly : (at name : ℕ) → Terms → Stmt
    If : (at : ℕ) → Term → Stmt → Stmt
    IfElse : (at : ℕ) → Term → Stmt → Stmt → Stmt
    While : (at : ℕ) → Term → Stmt → Stmt
    DoWhile : (at : ℕ) → Stmt → Term → Stmt
    For : (at : ℕ) → MaybeStmt → MaybeTerm → MaybeStmt → Stmt → Stmt
    Break : (at : ℕ) → Stmt
    Continue : (at : ℕ) → Stmt
    Return : (at : ℕ) → Stmt
    ReturnValue : (at : ℕ) → Term → Stmt

  -- a list that grows at its end
  pub data Stmts : Type 0 where
    NoStmt : Stmts
    ThenStmt : Stmts → Stmt → Stmts

  pub data MaybeStmt : Type 0 where
    Without : MaybeStmt
    With : Stmt → MaybeStmt

  pub data MaybeTerm : Type 0 where
    WithoutTerm : MaybeTerm
    WithTerm : Term → MaybeTerm

abbrev pub declared : ℕ → VariableType → ℕ → ℕ → Option (Box Expression Global) → Stmt
declared at kind name_at name None = Declare at kind name_at name
declared at kind name_at name (Some value) = DeclareAs at kind name_at name (term value.value)

abbrev pub returned : ℕ → Option (Box Expression Global) → Stmt
returned at None = Return at
returned at (Some value) = ReturnValue at (term value.value)

abbrev pub maybe_term : Option (Box Expression Global) → MaybeTerm
maybe_term None = WithoutTerm
maybe_term (Some value) = WithTerm (term value.value)

abbrev pub terms : List rust_expression.Expression → Terms
terms es = then_all NoTerm (map term es)

abbrev mutual
  pub stmt : rust_statement.Statement → Stmt
  stmt (rust_statement.Empty at) = Empty at
  stmt (rust_statement.Block' at shape body) = Block at (row_stmts NoStmt body)
  stmt (rust_statement.Declare at kind name_at name value) = declared at kind name_at name value
  stmt (rust_statement.DeclareArray at is_local element name_at name length_at len) = DeclareArray at is_local element name_at name length_at len
  stmt (rust_statement.Assign at to operator value) = Assign at (tree_target to.value) operator (term value.value)
  stmt (rust_statement.Step at to is_increment) = Step at (tree_target to.value) is_increment
  stmt (rust_statement.Call at name arguments) = CallOnly at name (terms arguments.items)
  stmt (rust_statement.If' at condition p chosen) = If at (term condition.value) (stmt chosen)
  stmt (rust_statement.IfElse' at condition p chosen q otherwise) = IfElse at (term condition.value) (stmt chosen) (stmt otherwise)
  stmt (rust_statement.While' at condition p body) = While at (term condition.value) (stmt body)
  stmt (rust_statement.DoWhile' at p body condition) = DoWhile at (stmt body) (term condition.value)
  stmt (rust_statement.For' at first condition third p body) = For at (maybe_stmt first) (maybe_term condition) (maybe_stmt third) (stmt body)
  stmt (rust_statement.Break at) = Break at
  stmt (rust_statement.Continue at) = Continue at
  stmt (rust_statement.Return at value) = returned at value

  pub maybe_stmt : rust_statement.Held-Statement-For-1 → MaybeStmt
  maybe_stmt rust_statement.None' = Without
  maybe_stmt (rust_statement.Some' p s) = With (stmt s)

  pub row_stmts : Stmts → {m : _} → rust_statement.Row_of-Statement m → Stmts
  row_stmts ss rust_statement.end_of-Statement = ss
  row_stmts ss (rust_statement.more_of-Statement s rest) = row_stmts (ThenStmt ss (stmt s)) rest

-- statements of a list, behind others
abbrev pub then_stmts : Stmts → List Stmt → Stmts
then_stmts ss [] = ss
then_stmts ss (t ∷ ts) = then_stmts (ThenStmt ss t) ts

-- how many elements an array has, by the number in its brackets (C99 6.7.5.2)
abbrev pub array_length : Integer → ℕ
array_length count = natural count.number

-- and how many bytes (OpenCL 1.2, 6.1.1)
abbrev pub array_bytes : IntType → Integer → ℕ
array_bytes element count = bits element / 8 * array_length count

-- a function
pub record Func : Type 0 where
  pub is_kernel : Bool
  pub result : Option IntType
  pub name_at : ℕ
  pub name : ℕ
  pub parameters : List Parameter
  pub body_at : ℕ
  pub body : Stmts

abbrev pub func : rust_function.Function → Func
func f = record { is_kernel = f.is_kernel; result = f.result; name_at = f.name_at; name = f.name; parameters = f.parameters.items; body_at = f.body_at; body = then_stmts NoStmt (map stmt f.body.items) }

pub data Funcs : Type 0 where
  NoFunc : Funcs
  ThenFunc : Funcs → Func → Funcs

abbrev pub then_funcs : Funcs → List Func → Funcs
then_funcs fs [] = fs
then_funcs fs (g ∷ gs) = then_funcs (ThenFunc fs g) gs

abbrev pub funcs : List rust_function.Function → Funcs
funcs functions = then_funcs NoFunc (map func functions)

-- a program: its functions, and the names that it uses
pub record Program : Type 0 where
  pub functions : Funcs
  pub names : List (List ℕ)

abbrev pub program : rust_tree.Tree → Program
program t = record { functions = funcs t.functions.items; names = t.names.items }
