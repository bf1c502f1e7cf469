-- Statements in a kernel and whole texts, each with its first fault within the limits of the profile, and some texts
-- within the large limits; the offsets of statements count from the first one's start.
use Prim.Native.Nat.{zero, suc}
use Rattle.std.specs.Prelude.{◌≡◌, ℕ, ◌+◌, pos, Bool, true, false, List, [], ◌∷◌, map, Option, None, Some}
use Rattle.limits.specs.Limits.{profile, large}
use Rattle.clnum.specs.declared.int_type.IntType.{IntType}
use Rattle.clnum.specs.declared.int_type.IntType.TheVariants.{Char, Uchar, Int, Uint, Long}
use Rattle.clnum.specs.declared.operators.BinaryOperator.TheVariants.{Add, Subtract, Multiply, BitOr, Equal}
use Rattle.clmodel.specs.declared.tree.AddressSpace.TheVariants.{Global, Local, Constant}
use Rattle.clmodel.specs.declared.tree.InfixOperator.TheVariants.{Arithmetic, LogicalAnd}
use Rattle.clmodel.specs.declared.tree.Parameter.{Parameter}
use Rattle.clmodel.specs.declared.tree.VariableType.{VariableType}
use Rattle.clmodel.specs.declared.tree.VariableType.TheVariants as kind
use Rattle.clmodel.specs.declared.type_fault.TypeFault.{TypeFault}
use Rattle.clmodel.specs.declared.type_fault.TypeFault.TheVariants.{UnknownName, Redeclared, TypeMismatch, NotAssignable, Recursion, WrongArgumentCount, WrongSpace, BadBarrierFlags, TooManyLoops, TooLarge, MissingReturn}
use Rattle.clmodel.specs.Tree.{Term, NoTerm, Number, Variable, Element, ElementAddress, Dereference, Call, Cast, Binary, Choice, TargetVariable, TargetElement, TargetDereference, Stmt, Stmts, NoStmt, then_all, then_stmts, Func, Funcs, NoFunc, ThenFunc, then_funcs, Empty, Block, Declare, DeclareAs, DeclareArray, Assign, Step, CallOnly, If, IfElse, While, DoWhile, For, Break, Continue, Return, ReturnValue, Without, With, WithoutTerm, WithTerm}
use Rattle.clmodel.specs.declared.declaration.Declaration.TheVariants.{Single}
use Rattle.clmodel.specs.Typing.Context.{Context, Signature}
use Rattle.clmodel.specs.Typing.Least.{first}
use Rattle.clmodel.specs.Typing.Faults.{row_faults}
use Rattle.clmodel.specs.Typing.Functions.{names, functions_faults}
use Rattle.clmodel.specs.Typing.Sizes.{Sizes, size}

abbrev global : IntType → VariableType
global t = kind.Pointer (record { space = Global; is_const = false; element = t })

abbrev helper : Option IntType → List VariableType → Signature
helper result parameters = record { is_kernel = false; result = result; parameters = parameters }

-- behind: int h(int); void v(); char g(__global int *); __kernel void k()
-- the parameters: __global int *a, __global const int *c, __constant int *t, __global long *w, int n, char b
abbrev here : Context
here = record {
  limits = profile;
  all = 100 ∷ 116 ∷ 117 ∷ 118 ∷ 119 ∷ [];
  before = (116, helper (Some Int) (kind.Integer Int ∷ []))
      ∷ (117, helper None [])
      ∷ (118, helper (Some Char) (global Int ∷ []))
      ∷ (119, record { is_kernel = true; result = None; parameters = [] })
      ∷ [];
  current = 100;
  signature = record { is_kernel = true; result = None; parameters = [] };
  in_loop = false;
  inner = (101, Single (global Int))
      ∷ (102, Single (kind.Pointer (record { space = Global; is_const = true; element = Int })))
      ∷ (103, Single (kind.Pointer (record { space = Constant; is_const = false; element = Int })))
      ∷ (104, Single (global Long))
      ∷ (105, Single (kind.Integer Int))
      ∷ (106, Single (kind.Integer Char))
      ∷ [];
  outer = [];
}

abbrev a : ℕ → Term
a at = Variable at 101

abbrev c : ℕ → Term
c at = Variable at 102

abbrev t : ℕ → Term
t at = Variable at 103

abbrev w : ℕ → Term
w at = Variable at 104

abbrev n : ℕ → Term
n at = Variable at 105

abbrev b : ℕ → Term
b at = Variable at 106

abbrev x : ℕ → Term
x at = Variable at 107

-- names that stand for nothing: y and z
abbrev z : ℕ → Term
z at = Variable at 115

abbrev number : (at n : ℕ) → Term
number at n = Number at (record { kind = Int; number = pos n })

abbrev one : ℕ → Term
one at = number at 1

abbrev call : (at name : ℕ) → List Term → Term
call at name es = Call at name (then_all NoTerm es)

-- `n = ` this
abbrev set : Term → Stmts
set e = then_stmts NoStmt (Assign 0 (TargetVariable 0 105) None e ∷ [])

abbrev only : Stmt → Stmts
only s = then_stmts NoStmt (s ∷ [])

-- `t x[n];`, or `__local t x[n];`
abbrev array : Bool → IntType → (at name_at name length_at : ℕ) → ℕ → Stmt
array is_local t at name_at name length_at n = DeclareArray at is_local t name_at name length_at (record { kind = Int; number = pos n })

-- behind `int x[2];` and behind `__local int x[2];`
abbrev behind_private : Stmt → Stmts
behind_private s = then_stmts NoStmt (array false Int 0 4 107 6 2 ∷ s ∷ [])

abbrev behind_local : Stmt → Stmts
behind_local s = then_stmts NoStmt (array true Int 0 12 107 14 2 ∷ s ∷ [])

abbrev pub samples : List (Stmts × Option TypeFault)
samples =
    -- n = y[z];  The index comes before the name in front of it.
    (set (Element 4 114 (z 6)), Some (UnknownName 6))
    -- n = y[1];
    ∷ (set (Element 4 114 (one 6)), Some (UnknownName 4))
    -- n = n[z];
    ∷ (set (Element 4 105 (z 6)), Some (UnknownName 6))
    -- n = a[c];
    ∷ (set (Element 4 101 (c 6)), Some (TypeMismatch 6))
    -- n = *n;
    ∷ (set (Dereference 4 (n 5)), Some (TypeMismatch 5))
    -- c[1] = z;  What is stored to comes before the value.
    ∷ (only (Assign 0 (TargetElement 0 102 (one 2)) None (z 7)), Some (NotAssignable 0))
    -- t[1] = 1;
    ∷ (only (Assign 0 (TargetElement 0 103 (one 2)) None (one 7)), Some (NotAssignable 0))
    -- *c = 1;
    ∷ (only (Assign 0 (TargetDereference 0 (c 1)) None (one 5)), Some (NotAssignable 0))
    -- ++c[1];
    ∷ (only (Step 0 (TargetElement 2 102 (one 4)) true), Some (NotAssignable 2))
    -- int x = 1; { int x = x; } x++;
    ∷ (
      then_stmts NoStmt
          (DeclareAs 0 (kind.Integer Int) 4 107 (one 8)
          ∷ Block 11 (then_stmts NoStmt (DeclareAs 13 (kind.Integer Int) 17 107 (x 21) ∷ []))
          ∷ Step 26 (TargetVariable 26 107) true
          ∷ []),
      None,
    )
    -- { int x = 1; } x++;
    ∷ (then_stmts NoStmt (Block 0 (then_stmts NoStmt (DeclareAs 2 (kind.Integer Int) 6 107 (one 10) ∷ [])) ∷ Step 15 (TargetVariable 15 107) true ∷ []), Some (UnknownName 15))
    -- int x; int x = z;
    ∷ (then_stmts NoStmt (Declare 0 (kind.Integer Int) 4 107 ∷ DeclareAs 7 (kind.Integer Int) 11 107 (z 15) ∷ []), Some (Redeclared 11))
    -- int n = z;  A parameter's scope is that of the outermost block.
    ∷ (only (DeclareAs 0 (kind.Integer Int) 4 105 (z 8)), Some (Redeclared 4))
    -- int min;
    ∷ (only (Declare 0 (kind.Integer Int) 4 8), Some (Redeclared 4))
    -- n = min(a);  Of one node the lowest number: a wrong kind before a wrong count.
    ∷ (set (call 4 8 (a 8 ∷ [])), Some (TypeMismatch 8))
    -- n = min(1, 1, a);
    ∷ (set (call 4 8 (one 8 ∷ one 11 ∷ a 14 ∷ [])), Some (WrongArgumentCount 4))
    -- n = min(b, 1);  No promotion: char and int.
    ∷ (set (call 4 8 (b 8 ∷ one 11 ∷ [])), Some (TypeMismatch 11))
    -- n = min((char)1, b);
    ∷ (set (call 4 8 (Cast 8 Char (one 14) ∷ b 17 ∷ [])), None)
    -- n = atomic_add(a, 1);  The old number is the value, of each atomic function.
    ∷ (set (call 4 15 (a 15 ∷ one 18 ∷ [])), None)
    -- n = atomic_sub(a, 1);
    ∷ (set (call 4 16 (a 15 ∷ one 18 ∷ [])), None)
    -- n = atomic_min(a, 1);
    ∷ (set (call 4 17 (a 15 ∷ one 18 ∷ [])), None)
    -- n = atomic_max(a, 1);
    ∷ (set (call 4 18 (a 15 ∷ one 18 ∷ [])), None)
    -- n = atomic_and(a, 1);
    ∷ (set (call 4 19 (a 15 ∷ one 18 ∷ [])), None)
    -- n = atomic_or(a, 1);
    ∷ (set (call 4 20 (a 14 ∷ one 17 ∷ [])), None)
    -- n = atomic_xor(a, 1);
    ∷ (set (call 4 21 (a 15 ∷ one 18 ∷ [])), None)
    -- n = atomic_inc(a);
    ∷ (set (call 4 22 (a 15 ∷ [])), None)
    -- n = atomic_dec(a);
    ∷ (set (call 4 23 (a 15 ∷ [])), None)
    -- n = atomic_xchg(a, 1);
    ∷ (set (call 4 26 (a 16 ∷ one 19 ∷ [])), None)
    -- n = atomic_cmpxchg(a, 1, n);
    ∷ (set (call 4 27 (a 19 ∷ one 22 ∷ n 25 ∷ [])), None)
    -- a[atomic_inc(a)] = atomic_add(&a[1], 1) + 1;
    ∷ (
      only (Assign 0 (TargetElement 0 101 (call 2 22 (a 13 ∷ []))) None (Binary 19 (Arithmetic Add) (call 19 15 (ElementAddress 30 31 101 (one 33) ∷ one 37 ∷ [])) (one 42))),
      None,
    )
    -- if (atomic_cmpxchg(a, 1, n)) return;
    ∷ (only (If 0 (call 4 27 (a 19 ∷ one 22 ∷ n 25 ∷ [])) (Return 29)), None)
    -- a = atomic_inc(a);  The value is of the element's type, and no pointer.
    ∷ (only (Assign 0 (TargetVariable 0 101) None (call 4 22 (a 15 ∷ []))), Some (TypeMismatch 4))
    -- n = min(atomic_xchg(a, b), 1);  The first argument tells the type, and not the last.
    ∷ (set (call 4 8 (call 8 26 (a 20 ∷ b 23 ∷ []) ∷ one 27 ∷ [])), None)
    -- n = min(atomic_cmpxchg(a, 1, b), b);
    ∷ (set (call 4 8 (call 8 27 (a 23 ∷ one 26 ∷ b 29 ∷ []) ∷ b 33 ∷ [])), Some (TypeMismatch 33))
    -- n = atomic_inc();
    ∷ (set (call 4 22 []), Some (WrongArgumentCount 4))
    -- atomic_add(a, 1);
    ∷ (only (CallOnly 0 15 (then_all NoTerm (a 11 ∷ one 14 ∷ []))), None)
    -- atomic_add(c, 1);
    ∷ (only (CallOnly 0 15 (then_all NoTerm (c 11 ∷ one 14 ∷ []))), Some (NotAssignable 11))
    -- atomic_inc(t);
    ∷ (only (CallOnly 0 22 (then_all NoTerm (t 11 ∷ []))), Some (WrongSpace 11))
    -- atomic_inc(w);
    ∷ (only (CallOnly 0 22 (then_all NoTerm (w 11 ∷ []))), Some (TypeMismatch 11))
    -- atomic_xchg(a, 1);
    ∷ (only (CallOnly 0 26 (then_all NoTerm (a 12 ∷ one 15 ∷ []))), None)
    -- atomic_cmpxchg(a, 1, b);
    ∷ (only (CallOnly 0 27 (then_all NoTerm (a 15 ∷ one 18 ∷ b 21 ∷ []))), None)
    -- atomic_xchg(a);
    ∷ (only (CallOnly 0 26 (then_all NoTerm (a 12 ∷ []))), Some (WrongArgumentCount 0))
    -- n = atomic_xchg(a, 1, 1);
    ∷ (set (call 4 26 (a 16 ∷ one 19 ∷ one 22 ∷ [])), Some (WrongArgumentCount 4))
    -- n = atomic_cmpxchg(a, 1);
    ∷ (set (call 4 27 (a 19 ∷ one 22 ∷ [])), Some (WrongArgumentCount 4))
    -- n = atomic_cmpxchg(a, 1, 1, 1);
    ∷ (set (call 4 27 (a 19 ∷ one 22 ∷ one 25 ∷ one 28 ∷ [])), Some (WrongArgumentCount 4))
    -- n = atomic_inc(a, 1);
    ∷ (set (call 4 22 (a 15 ∷ one 18 ∷ [])), Some (WrongArgumentCount 4))
    -- n = atomic_xchg(1, a);  Of one node the lowest offset.
    ∷ (set (call 4 26 (one 16 ∷ a 19 ∷ [])), Some (TypeMismatch 16))
    -- n = atomic_cmpxchg(a, a, 1);  Each operand is a number.
    ∷ (set (call 4 27 (a 19 ∷ a 22 ∷ one 25 ∷ [])), Some (TypeMismatch 22))
    -- n = atomic_cmpxchg(a, 1, a);
    ∷ (set (call 4 27 (a 19 ∷ one 22 ∷ a 25 ∷ [])), Some (TypeMismatch 25))
    -- n = atomic_xchg(c, 1);
    ∷ (set (call 4 26 (c 16 ∷ one 19 ∷ [])), Some (NotAssignable 16))
    -- n = atomic_cmpxchg(t, 1, 1);
    ∷ (set (call 4 27 (t 19 ∷ one 22 ∷ one 25 ∷ [])), Some (WrongSpace 19))
    -- n = atomic_xchg(w, 1);
    ∷ (set (call 4 26 (w 16 ∷ one 19 ∷ [])), Some (TypeMismatch 16))
    -- __global char *x; atomic_xchg(x, b);
    ∷ (then_stmts NoStmt (Declare 0 (global Char) 15 107 ∷ CallOnly 18 26 (then_all NoTerm (x 30 ∷ b 33 ∷ [])) ∷ []), Some (TypeMismatch 30))
    -- int atomic_xchg;
    ∷ (only (Declare 0 (kind.Integer Int) 4 26), Some (Redeclared 4))
    -- int atomic_cmpxchg[2];
    ∷ (only (array false Int 0 4 27 19 2), Some (Redeclared 4))
    -- n = atomic_xchg;  A function is no value.
    ∷ (set (Variable 4 26), Some (TypeMismatch 4))
    -- barrier(1);
    ∷ (only (CallOnly 0 14 (then_all NoTerm (one 8 ∷ []))), Some (BadBarrierFlags 8))
    -- a = c;  A const dropped; then a pointer to another type, to another space, and a const added.
    ∷ (only (Assign 0 (TargetVariable 0 101) None (c 4)), Some (NotAssignable 4))
    -- a = w;
    ∷ (only (Assign 0 (TargetVariable 0 101) None (w 4)), Some (TypeMismatch 4))
    -- a = t;
    ∷ (only (Assign 0 (TargetVariable 0 101) None (t 4)), Some (WrongSpace 4))
    -- c = a;
    ∷ (only (Assign 0 (TargetVariable 0 102) None (a 4)), None)
    -- a *= n;  Of the operators that assign, += and -= take a pointer.
    ∷ (only (Assign 0 (TargetVariable 0 101) (Some Multiply) (n 5)), Some (TypeMismatch 0))
    -- a += c;
    ∷ (only (Assign 0 (TargetVariable 0 101) (Some Add) (c 5)), Some (TypeMismatch 5))
    -- n += a;
    ∷ (only (Assign 0 (TargetVariable 0 105) (Some Add) (a 5)), Some (TypeMismatch 5))
    -- a -= 1;
    ∷ (only (Assign 0 (TargetVariable 0 101) (Some Subtract) (one 5)), None)
    -- a = 1 + a;
    ∷ (only (Assign 0 (TargetVariable 0 101) None (Binary 4 (Arithmetic Add) (one 4) (a 8))), None)
    -- n = 1 - a;
    ∷ (set (Binary 4 (Arithmetic Subtract) (one 4) (a 8)), Some (TypeMismatch 8))
    -- n = a == c;
    ∷ (set (Binary 4 (Arithmetic Equal) (a 4) (c 9)), Some (TypeMismatch 4))
    -- n = a && z;
    ∷ (set (Binary 4 LogicalAnd (a 4) (z 9)), Some (UnknownName 9))
    -- n = n ? 1 : a;
    ∷ (set (Choice 4 (n 4) (one 8) (a 12)), Some (TypeMismatch 12))
    -- if (a) z = 1;  A condition comes after what it controls.
    ∷ (only (If 0 (a 4) (Assign 7 (TargetVariable 7 115) None (one 11))), Some (UnknownName 7))
    -- if (a) n = 1;
    ∷ (only (If 0 (a 4) (Assign 7 (TargetVariable 7 105) None (one 11))), Some (TypeMismatch 4))
    -- if (n) ; else break;
    ∷ (only (IfElse 0 (n 4) (Empty 7) (Break 14)), Some (TypeMismatch 14))
    -- while (n) { if (n) break; else continue; }
    ∷ (only (While 0 (n 7) (Block 10 (then_stmts NoStmt (IfElse 12 (n 16) (Break 19) (Continue 31) ∷ [])))), None)
    -- continue;
    ∷ (only (Continue 0), Some (TypeMismatch 0))
    -- do z++; while (a);
    ∷ (only (DoWhile 0 (Step 3 (TargetVariable 3 115) true) (a 14)), Some (UnknownName 3))
    -- do n++; while (a);
    ∷ (only (DoWhile 0 (Step 3 (TargetVariable 3 105) true) (a 14)), Some (TypeMismatch 14))
    -- for (int x = 0; x; x++) { int x = x; }
    ∷ (
      only (For 0 (With (DeclareAs 5 (kind.Integer Int) 9 107 (one 13))) (WithTerm (x 16)) (With (Step 19 (TargetVariable 19 107) true))
          (Block 24 (then_stmts NoStmt (DeclareAs 26 (kind.Integer Int) 30 107 (x 34) ∷ [])))),
      None,
    )
    -- for (int x = 1; ; ) ; x++;
    ∷ (
      then_stmts NoStmt (For 0 (With (DeclareAs 5 (kind.Integer Int) 9 107 (one 13))) WithoutTerm Without (Empty 20) ∷ Step 22 (TargetVariable 22 107) true ∷ []),
      Some (UnknownName 22),
    )
    -- for (; a; z++) y++;  In the order of the text, and the condition last.
    ∷ (only (For 0 Without (WithTerm (a 7)) (With (Step 10 (TargetVariable 10 115) true)) (Step 15 (TargetVariable 15 114) true)), Some (UnknownName 10))
    -- for (; a; n++) n++;
    ∷ (only (For 0 Without (WithTerm (a 7)) (With (Step 10 (TargetVariable 10 105) true)) (Step 15 (TargetVariable 15 105) true)), Some (TypeMismatch 7))
    -- return 1;
    ∷ (only (ReturnValue 0 (one 7)), Some (TypeMismatch 0))
    -- return;
    ∷ (only (Return 0), None)
    -- h(1);
    ∷ (only (CallOnly 0 116 (then_all NoTerm (one 2 ∷ []))), None)
    -- n = h(1);
    ∷ (set (call 4 116 (one 6 ∷ [])), None)
    -- n += h(1);
    ∷ (only (Assign 0 (TargetVariable 0 105) (Some Add) (call 5 116 (one 7 ∷ []))), None)
    -- int x = h(1);
    ∷ (only (DeclareAs 0 (kind.Integer Int) 4 107 (call 8 116 (one 10 ∷ []))), None)
    -- n = h(1) + 1;  A helper isn't called inside an expression.
    ∷ (set (Binary 4 (Arithmetic Add) (call 4 116 (one 6 ∷ [])) (one 11)), Some (TypeMismatch 4))
    -- h(h(1));
    ∷ (only (CallOnly 0 116 (then_all NoTerm (call 2 116 (one 4 ∷ []) ∷ []))), Some (TypeMismatch 2))
    -- if (h(1)) ;
    ∷ (only (If 0 (call 4 116 (one 6 ∷ [])) (Empty 10)), Some (TypeMismatch 4))
    -- n = v();  A void value used; before that its call's own fault.
    ∷ (set (call 4 117 []), Some (TypeMismatch 4))
    -- n = v(1);
    ∷ (set (call 4 117 (one 6 ∷ [])), Some (WrongArgumentCount 4))
    -- a *= v();
    ∷ (only (Assign 0 (TargetVariable 0 101) (Some Multiply) (call 5 117 [])), Some (TypeMismatch 0))
    -- v();
    ∷ (only (CallOnly 0 117 NoTerm), None)
    -- h();
    ∷ (only (CallOnly 0 116 NoTerm), Some (WrongArgumentCount 0))
    -- h(a, 1);
    ∷ (only (CallOnly 0 116 (then_all NoTerm (a 2 ∷ one 5 ∷ []))), Some (TypeMismatch 2))
    -- h(z);
    ∷ (only (CallOnly 0 116 (then_all NoTerm (z 2 ∷ []))), Some (UnknownName 2))
    -- g(c);  Passed as assigned: a const dropped, another element, another space.
    ∷ (only (CallOnly 0 118 (then_all NoTerm (c 2 ∷ []))), Some (NotAssignable 2))
    -- g(w);
    ∷ (only (CallOnly 0 118 (then_all NoTerm (w 2 ∷ []))), Some (TypeMismatch 2))
    -- g(t);
    ∷ (only (CallOnly 0 118 (then_all NoTerm (t 2 ∷ []))), Some (WrongSpace 2))
    -- a = g(a);
    ∷ (only (Assign 0 (TargetVariable 0 101) None (call 4 118 (a 6 ∷ []))), Some (TypeMismatch 4))
    -- k();  No kernel is called, nor this one.
    ∷ (only (CallOnly 0 119 NoTerm), Some (TypeMismatch 0))
    -- f();
    ∷ (only (CallOnly 0 100 NoTerm), Some (TypeMismatch 0))
    -- n = h;
    ∷ (set (Variable 4 116), Some (TypeMismatch 4))
    -- n(1);
    ∷ (only (CallOnly 0 105 (then_all NoTerm (one 2 ∷ []))), Some (TypeMismatch 0))
    -- int h;
    ∷ (only (Declare 0 (kind.Integer Int) 4 116), Some (Redeclared 4))
    -- int x[2]; a[1] = x;  A private array is no value, and there is no pointer to it.
    ∷ (behind_private (Assign 10 (TargetElement 10 101 (one 12)) None (x 17)), Some (WrongSpace 17))
    -- int x[2]; a[1] = x[1];
    ∷ (behind_private (Assign 10 (TargetElement 10 101 (one 12)) None (Element 17 107 (one 19))), None)
    -- int x[2]; x = y;  The target comes before the value.
    ∷ (behind_private (Assign 10 (TargetVariable 10 107) None (Variable 14 114)), Some (NotAssignable 10))
    -- int x[2]; ++x;
    ∷ (behind_private (Step 10 (TargetVariable 12 107) true), Some (NotAssignable 12))
    -- int x[2]; a[1] = *x;
    ∷ (behind_private (Assign 10 (TargetElement 10 101 (one 12)) None (Dereference 17 (x 18))), Some (WrongSpace 18))
    -- int x[2]; atomic_add(&x[1], 1);
    ∷ (behind_private (CallOnly 10 15 (then_all NoTerm (ElementAddress 21 22 107 (one 24) ∷ one 28 ∷ []))), Some (WrongSpace 21))
    -- int x[2]; atomic_add(&x[a], 1);  Of one node the lowest number.
    ∷ (behind_private (CallOnly 10 15 (then_all NoTerm (ElementAddress 21 22 107 (a 24) ∷ one 28 ∷ []))), Some (TypeMismatch 24))
    -- int x[2]; y[x] = 1;
    ∷ (behind_private (Assign 10 (TargetElement 10 114 (x 12)) None (one 17)), Some (WrongSpace 12))
    -- int x[2]; x();
    ∷ (behind_private (CallOnly 10 107 NoTerm), Some (TypeMismatch 10))
    -- int x[2]; if (x) y = 1;
    ∷ (behind_private (If 10 (x 14) (Assign 17 (TargetVariable 17 114) None (one 21))), Some (WrongSpace 14))
    -- int x[2]; { int x; x = 1; }  An inner variable hides it.
    ∷ (
      behind_private (Block 10 (then_stmts NoStmt (Declare 12 (kind.Integer Int) 16 107 ∷ Assign 19 (TargetVariable 19 107) None (one 23) ∷ []))),
      None,
    )
    -- __local int x[2]; if (x) y = 1;  The kind of a condition comes behind what is controlled.
    ∷ (behind_local (If 18 (x 22) (Assign 25 (TargetVariable 25 114) None (one 29))), Some (UnknownName 25))
    -- __local int x[2]; if (x) n = 1;
    ∷ (behind_local (If 18 (x 22) (Assign 25 (TargetVariable 25 105) None (one 29))), Some (TypeMismatch 22))
    -- __local int x[2]; x += 1;
    ∷ (behind_local (Assign 18 (TargetVariable 18 107) (Some Add) (one 23)), Some (NotAssignable 18))
    -- __local int x[2]; __global int *p = x;
    ∷ (behind_local (DeclareAs 18 (global Int) 32 108 (x 36)), Some (WrongSpace 36))
    -- __local int x[2]; *(x + 1) = x[1];
    ∷ (behind_local (Assign 18 (TargetDereference 18 (Binary 20 (Arithmetic Add) (x 20) (one 24))) None (Element 29 107 (one 31))), None)
    -- { __local int x[0]; }  Of one place the lowest number.
    ∷ (only (Block 0 (then_stmts NoStmt (array true Int 2 14 107 16 0 ∷ []))), Some (WrongSpace 14))
    ∷ []

-- the bodies of helpers: g has two nodes, and h a loop in a loop and ten nodes
abbrev bodies : Sizes
bodies = (118, record { loops = 0; bytes = 0; nodes = 2 }) ∷ (116, record { loops = 2; bytes = 0; nodes = 10 }) ∷ []

-- statements, how many nodes they have and how deep their loops are nested
abbrev pub counted : List (Stmt × (ℕ × ℕ))
counted =
    -- n++;
    (Step 0 (TargetVariable 0 105) true, (2, 0))
    -- n = 1;
    ∷ (Assign 0 (TargetVariable 0 105) None (one 4), (3, 0))
    -- a[n] = 1;
    ∷ (Assign 0 (TargetElement 0 101 (n 2)) None (one 7), (4, 0))
    -- *a = 1;
    ∷ (Assign 0 (TargetDereference 0 (a 1)) None (one 5), (4, 0))
    -- abs(1);
    ∷ (CallOnly 0 10 (then_all NoTerm (one 4 ∷ [])), (2, 0))
    -- min(1, 1);
    ∷ (CallOnly 0 8 (then_all NoTerm (one 4 ∷ one 7 ∷ [])), (3, 0))
    -- n = atomic_cmpxchg(a, 1, 1);
    ∷ (Assign 0 (TargetVariable 0 105) None (call 4 27 (a 19 ∷ one 22 ∷ one 25 ∷ [])), (6, 0))
    -- ;
    ∷ (Empty 0, (1, 0))
    -- { }
    ∷ (Block 0 NoStmt, (1, 0))
    -- { ; }
    ∷ (Block 0 (then_stmts NoStmt (Empty 2 ∷ [])), (2, 0))
    -- int x = 1;
    ∷ (DeclareAs 0 (kind.Integer Int) 4 107 (one 8), (2, 0))
    -- int x[2];  With `__local` too.
    ∷ (array false Int 0 4 107 6 2, (1, 0))
    ∷ (array true Int 0 12 107 14 2, (1, 0))
    -- __global int *x = &a[1];
    ∷ (DeclareAs 0 (global Int) 14 107 (ElementAddress 18 19 101 (one 21)), (3, 0))
    -- barrier(CLK_LOCAL_MEM_FENCE | CLK_GLOBAL_MEM_FENCE);
    ∷ (CallOnly 0 14 (then_all NoTerm (Binary 8 (Arithmetic BitOr) (Variable 8 24) (Variable 30 25) ∷ [])), (4, 0))
    -- if (n) ;
    ∷ (If 0 (n 4) (Empty 7), (3, 0))
    -- n = g(1);
    ∷ (Assign 0 (TargetVariable 0 105) None (call 4 118 (one 6 ∷ [])), (6, 0))
    -- while (n) h(1);
    ∷ (While 0 (n 7) (CallOnly 10 116 (then_all NoTerm (one 12 ∷ []))), (14, 3))
    -- for (h(1); n; g(1)) ;  The first part isn't in the loop, the third is.
    ∷ (For 0 (With (CallOnly 5 116 (then_all NoTerm (one 7 ∷ [])))) (WithTerm (n 11)) (With (CallOnly 14 118 (then_all NoTerm (one 16 ∷ [])))) (Empty 20), (19, 2))
    -- for (; ; h(1)) ;
    ∷ (For 0 Without WithoutTerm (With (CallOnly 9 116 (then_all NoTerm (one 11 ∷ [])))) (Empty 15), (14, 3))
    -- do while (n) ; while (n);
    ∷ (DoWhile 0 (While 3 (n 10) (Empty 13)) (n 22), (5, 2))
    ∷ []

abbrev parameter : (at name : ℕ) → Parameter
parameter at name = record { name_at = at; name = name; kind = kind.Integer Int }

abbrev kernel : (at name : ℕ) → List Parameter → List Stmt → Func
kernel at name ps ss = record { is_kernel = true; result = None; name_at = at; name = name; parameters = ps; body_at = at; body = then_stmts NoStmt ss }

abbrev function : (result : Option IntType) → (at name : ℕ) → List Parameter → List Stmt → Func
function t at name ps ss = record { is_kernel = false; result = t; name_at = at; name = name; parameters = ps; body_at = at; body = then_stmts NoStmt ss }

-- `while (1)` round a statement, n times
abbrev loops : ℕ → Stmt → Stmt
loops zero s = s
loops (suc n) s = While 0 (one 0) (loops n s)

-- `int f() { }` with this body
abbrev returning : List Stmt → Funcs
returning ss = then_funcs NoFunc (function (Some Int) 4 100 [] ss ∷ [])

-- helpers that call each other twice: the first one of this name, each with the name after, and the names from it on
abbrev doubling : (first so_many : ℕ) → Funcs
doubling first zero = ThenFunc NoFunc (function None 0 first [] (Empty 0 ∷ []))
doubling first (suc n) = ThenFunc (doubling first n) (function None 0 (first + suc n) [] (CallOnly 0 (first + n) NoTerm ∷ CallOnly 0 (first + n) NoTerm ∷ []))

-- `__local int *p`, where its name is
abbrev local_parameter : (at name : ℕ) → Parameter
local_parameter at name = record { name_at = at; name = name; kind = kind.Pointer (record { space = Local; is_const = false; element = Int }) }

-- whole texts, in which f is the name 100, g 101, p 102, t 103 and u 104
abbrev pub texts : List (Funcs × Option TypeFault)
texts =
    -- kernel void f(int f) { }
    (then_funcs NoFunc (kernel 12 100 (parameter 18 100 ∷ []) [] ∷ []), Some (Redeclared 18))
    -- kernel void atomic_xchg() { }
    ∷ (then_funcs NoFunc (kernel 12 26 [] [] ∷ []), Some (Redeclared 12))
    -- kernel void f(int atomic_cmpxchg) { }
    ∷ (then_funcs NoFunc (kernel 12 100 (parameter 18 27 ∷ []) [] ∷ []), Some (Redeclared 18))
    -- kernel void f() { g(); } kernel void g() { }
    ∷ (then_funcs NoFunc (kernel 12 100 [] (CallOnly 18 101 NoTerm ∷ []) ∷ kernel 37 101 [] [] ∷ []), Some (UnknownName 18))
    -- kernel void f() { } kernel void g() { f(); }
    ∷ (then_funcs NoFunc (kernel 12 100 [] [] ∷ kernel 32 101 [] (CallOnly 38 100 NoTerm ∷ []) ∷ []), Some (TypeMismatch 38))
    -- kernel void f() { } kernel void f(int p, int p) { }
    ∷ (then_funcs NoFunc (kernel 12 100 [] [] ∷ kernel 32 100 (parameter 38 102 ∷ parameter 45 102 ∷ []) [] ∷ []), Some (Redeclared 32))
    -- kernel void f(int p) { p++; } kernel void g(int p) { { int p = p; } }
    ∷ (
      then_funcs NoFunc
          (kernel 12 100 (parameter 18 102 ∷ []) (Step 23 (TargetVariable 23 102) true ∷ [])
          ∷ kernel 42 101 (parameter 48 102 ∷ []) (Block 53 (then_stmts NoStmt (DeclareAs 55 (kind.Integer Int) 59 102 (Variable 63 102) ∷ [])) ∷ [])
          ∷ []),
      None,
    )
    -- void f() { f(); }
    ∷ (then_funcs NoFunc (function None 5 100 [] (CallOnly 11 100 NoTerm ∷ []) ∷ []), Some (Recursion 11))
    -- int f() { return f(); }  Of one node the lowest number: a helper isn't called in a `return`.
    ∷ (returning (ReturnValue 10 (Call 17 100 NoTerm) ∷ []), Some (TypeMismatch 17))
    -- void f(int p) { f(); }
    ∷ (then_funcs NoFunc (function None 5 100 (parameter 11 102 ∷ []) (CallOnly 16 100 NoTerm ∷ []) ∷ []), Some (Recursion 16))
    -- void f() { g(); } void g() { }
    ∷ (then_funcs NoFunc (function None 5 100 [] (CallOnly 11 101 NoTerm ∷ []) ∷ function None 23 101 [] [] ∷ []), Some (UnknownName 11))
    -- void f(int g) { } void g() { }  A parameter with the name of a later function.
    ∷ (then_funcs NoFunc (function None 5 100 (parameter 11 101 ∷ []) [] ∷ function None 23 101 [] [] ∷ []), Some (Redeclared 11))
    -- int f() { }
    ∷ (returning [], Some (MissingReturn 4))
    -- int f() { return 1; ; }
    ∷ (returning (ReturnValue 10 (one 17) ∷ Empty 20 ∷ []), None)
    -- int f() { if (1) return 1; }
    ∷ (returning (If 10 (one 14) (ReturnValue 17 (one 24)) ∷ []), Some (MissingReturn 4))
    -- int f() { if (1) return 1; else { return 1; } }
    ∷ (returning (IfElse 10 (one 14) (ReturnValue 17 (one 24)) (Block 32 (then_stmts NoStmt (ReturnValue 34 (one 41) ∷ []))) ∷ []), None)
    -- int f() { while (1) return 1; }
    ∷ (returning (While 10 (one 17) (ReturnValue 20 (one 27)) ∷ []), Some (MissingReturn 4))
    -- int f() { return; }
    ∷ (returning (Return 10 ∷ []), Some (TypeMismatch 10))
    -- kernel void f() { }, with eight loops, and with nine
    ∷ (then_funcs NoFunc (kernel 12 100 [] (loops 8 (Empty 0) ∷ []) ∷ []), None)
    ∷ (then_funcs NoFunc (kernel 12 100 [] (loops 9 (Empty 0) ∷ []) ∷ []), Some (TooManyLoops 12))
    -- with five, and five in a helper that it calls there; the helper may have nine
    ∷ (then_funcs NoFunc (function None 5 100 [] (loops 4 (Empty 0) ∷ []) ∷ kernel 40 101 [] (loops 4 (CallOnly 50 100 NoTerm) ∷ []) ∷ []), None)
    ∷ (then_funcs NoFunc (function None 5 100 [] (loops 4 (Empty 0) ∷ []) ∷ kernel 40 101 [] (loops 5 (CallOnly 50 100 NoTerm) ∷ []) ∷ []), Some (TooManyLoops 40))
    ∷ (then_funcs NoFunc (function None 5 100 [] (loops 9 (Empty 0) ∷ []) ∷ kernel 40 101 [] [] ∷ []), None)
    -- helpers that call each other twice: the body of one of depth n has 3 · 2ⁿ - 2 nodes
    ∷ (ThenFunc (doubling 200 11) (kernel 40 101 [] (CallOnly 50 211 NoTerm ∷ CallOnly 50 211 NoTerm ∷ CallOnly 50 211 NoTerm ∷ [])), None)
    ∷ (ThenFunc (doubling 200 12) (kernel 40 101 [] (CallOnly 50 212 NoTerm ∷ CallOnly 50 212 NoTerm ∷ [])), Some (TooLarge 40))
    ∷ (doubling 200 63, None)
    ∷ (ThenFunc (doubling 200 62) (kernel 40 101 [] (CallOnly 50 262 NoTerm ∷ [])), Some (TooLarge 40))
    -- void g() { __local int t[2]; } __kernel void f() { }  A helper has no local memory of its own.
    ∷ (then_funcs NoFunc (function None 5 101 [] (array true Int 11 23 103 25 2 ∷ []) ∷ kernel 45 100 [] [] ∷ []), Some (WrongSpace 23))
    -- __kernel void f(int t) { int t[0]; }
    ∷ (then_funcs NoFunc (kernel 14 100 (parameter 20 103 ∷ []) (array false Int 25 29 103 31 0 ∷ []) ∷ []), Some (Redeclared 29))
    -- void g(__local int *p) { } __kernel void f() { int t[2]; g(t, 1); }
    ∷ (then_funcs NoFunc (function None 5 101 (local_parameter 20 102 ∷ []) [] ∷ kernel 41 100 [] (array false Int 47 51 103 53 2 ∷ CallOnly 57 101 (then_all NoTerm (Variable 59 103 ∷ one 62 ∷ [])) ∷ []) ∷ []), Some (WrongSpace 59))
    -- void g(__local int *p) { } __kernel void f() { __local uint t[2]; g(t, 1); }
    ∷ (then_funcs NoFunc (function None 5 101 (local_parameter 20 102 ∷ []) [] ∷ kernel 41 100 [] (array true Uint 47 60 103 62 2 ∷ CallOnly 66 101 (then_all NoTerm (Variable 68 103 ∷ one 71 ∷ [])) ∷ []) ∷ []), Some (TypeMismatch 68))
    -- void g(__local int *p) { } __kernel void f() { __local int t[2]; g(t); }
    ∷ (then_funcs NoFunc (function None 5 101 (local_parameter 20 102 ∷ []) [] ∷ kernel 41 100 [] (array true Int 47 59 103 61 2 ∷ CallOnly 65 101 (then_all NoTerm (Variable 67 103 ∷ [])) ∷ []) ∷ []), None)
    -- __kernel void f() { do { int t[1]; t[0] = 0; } while (t[0]); }  The condition stands behind the block.
    ∷ (then_funcs NoFunc (kernel 14 100 [] (DoWhile 20 (Block 23 (then_stmts NoStmt (array false Int 25 29 103 31 1 ∷ Assign 35 (TargetElement 35 103 (number 37 0)) None (number 42 0) ∷ []))) (Element 54 103 (number 56 0)) ∷ []) ∷ []), Some (UnknownName 54))
    -- __kernel void f() { __local char t[32768]; }
    ∷ (then_funcs NoFunc (kernel 14 100 [] (array true Char 20 33 103 35 32768 ∷ []) ∷ []), None)
    -- __kernel void f() { __local char t[32769]; }
    ∷ (then_funcs NoFunc (kernel 14 100 [] (array true Char 20 33 103 35 32769 ∷ []) ∷ []), Some (TooLarge 35))
    -- __kernel void f() { int t[32768]; }  A kernel's private arrays have 4096 bytes at most.
    ∷ (then_funcs NoFunc (kernel 14 100 [] (array false Int 20 24 103 26 32768 ∷ []) ∷ []), Some (TooLarge 14))
    -- void g() { uchar t[2048]; } __kernel void f() { g(); g(); }
    ∷ (then_funcs NoFunc (function None 5 101 [] (array false Uchar 11 17 103 19 2048 ∷ []) ∷ kernel 42 100 [] (CallOnly 48 101 NoTerm ∷ CallOnly 53 101 NoTerm ∷ []) ∷ []), None)
    -- void g() { uchar t[2048]; } __kernel void f() { uchar u[1]; g(); g(); }
    ∷ (then_funcs NoFunc (function None 5 101 [] (array false Uchar 11 17 103 19 2048 ∷ []) ∷ kernel 42 100 [] (array false Uchar 48 54 104 56 1 ∷ CallOnly 60 101 NoTerm ∷ CallOnly 65 101 NoTerm ∷ []) ∷ []), Some (TooLarge 42))
    -- void g() { int t[0]; } __kernel void f() { y = 1; }
    ∷ (then_funcs NoFunc (function None 5 101 [] (array false Int 11 15 103 17 0 ∷ []) ∷ kernel 37 100 [] (Assign 43 (TargetVariable 43 114) None (one 47) ∷ []) ∷ []), Some (TooLarge 17))
    -- void g() { long t[32768]; } __kernel void f() { }
    ∷ (then_funcs NoFunc (function None 5 101 [] (array false Long 11 16 103 18 32768 ∷ []) ∷ kernel 42 100 [] [] ∷ []), None)
    ∷ []

-- texts within the large limits
abbrev pub large_texts : List (Funcs × Option TypeFault)
large_texts =
    -- __kernel void f() { uchar t[4097]; }
    (then_funcs NoFunc (kernel 14 100 [] (array false Uchar 20 26 103 28 4097 ∷ []) ∷ []), None)
    -- __kernel void f() { uchar t[65536]; }
    ∷ (then_funcs NoFunc (kernel 14 100 [] (array false Uchar 20 26 103 28 65536 ∷ []) ∷ []), None)
    -- __kernel void f() { uchar t[65536]; uchar u[1]; }  A kernel's private arrays have 65536 bytes at most.
    ∷ (then_funcs NoFunc (kernel 14 100 [] (array false Uchar 20 26 103 28 65536 ∷ array false Uchar 36 42 104 44 1 ∷ []) ∷ []), Some (TooLarge 14))
    -- __kernel void f() { uchar t[65537]; }
    ∷ (then_funcs NoFunc (kernel 14 100 [] (array false Uchar 20 26 103 28 65537 ∷ []) ∷ []), Some (TooLarge 28))
    -- __kernel void f() { __local char t[65536]; }
    ∷ (then_funcs NoFunc (kernel 14 100 [] (array true Char 20 33 103 35 65536 ∷ []) ∷ []), None)
    -- __kernel void f() { __local char t[65537]; }
    ∷ (then_funcs NoFunc (kernel 14 100 [] (array true Char 20 33 103 35 65537 ∷ []) ∷ []), Some (TooLarge 35))
    -- the body of the helper has 3 · 2¹⁸ - 2 = 786430 nodes, and the kernel one more a call
    ∷ (ThenFunc (doubling 200 18) (kernel 40 101 [] (CallOnly 50 218 NoTerm ∷ [])), None)
    ∷ (ThenFunc (doubling 200 18) (kernel 40 101 [] (CallOnly 50 218 NoTerm ∷ CallOnly 50 218 NoTerm ∷ [])), Some (TooLarge 40))
    ∷ []

-- each sample has that fault, or that size
pub record AreSampled : Type 0 where
  pub faults : map (λ s. first (row_faults here s.0)) samples ≡ map (λ s. s.1) samples
  pub texts : map (λ s. first (functions_faults profile (names s.0) s.0)) texts ≡ map (λ s. s.1) texts
  pub large_texts : map (λ s. first (functions_faults large (names s.0) s.0)) large_texts ≡ map (λ s. s.1) large_texts
  pub sizes : map (λ s. ((size bodies s.0).nodes, (size bodies s.0).loops)) counted ≡ map (λ s. s.1) counted
