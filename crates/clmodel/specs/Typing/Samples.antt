-- Statements in a kernel with barriers, with pointers to each address space and with arrays, each with its first fault;
-- the offsets count from the statement's start. Names: 8 `min`, 14 `barrier`, 22 `atomic_inc`, 24 and 25 the fences,
-- 100 the kernel, 101 `a`, 102 `s`, 103 `t`, 104 `u`, 105 `n`, 106 `p`, 107 `q`; 114 `y` and 115 `z` stand for nothing.
use Rattle.std.specs.Prelude.{◌≡◌, ℕ, pos, Bool, true, false, List, [], ◌∷◌, map, Option, None, Some}
use Rattle.limits.specs.Limits.{profile}
use Rattle.clnum.specs.declared.int_type.IntType.TheVariants.{Int}
use Rattle.clnum.specs.declared.operators.BinaryOperator.{BinaryOperator}
use Rattle.clnum.specs.declared.operators.BinaryOperator.TheVariants.{Add, BitOr}
use Rattle.clmodel.specs.declared.tree.AddressSpace.{AddressSpace}
use Rattle.clmodel.specs.declared.tree.AddressSpace.TheVariants.{Global, Local, Constant}
use Rattle.clmodel.specs.declared.tree.InfixOperator.TheVariants.{Arithmetic}
use Rattle.clmodel.specs.declared.tree.VariableType.{VariableType}
use Rattle.clmodel.specs.declared.tree.VariableType.TheVariants as kind
use Rattle.clmodel.specs.declared.type_fault.TypeFault.{TypeFault}
use Rattle.clmodel.specs.declared.type_fault.TypeFault.TheVariants.{UnknownName, Redeclared, TypeMismatch, NotAssignable, WrongArgumentCount, WrongSpace, BadBarrierFlags, TooLarge}
use Rattle.clmodel.specs.Tree.{Term, Number, Variable, Element, ElementAddress, Dereference, Call, Binary, NoTerm, then_all, TargetVariable, TargetElement, TargetDereference, Stmt, Block, DeclareArray, Assign, Step, CallOnly, NoStmt, then_stmts}
use Rattle.clmodel.specs.BuiltIns.{local_fence, global_fence}
use Rattle.clmodel.specs.Typing.Context.{Context, Single, LocalArray, PrivateArray}
use Rattle.clmodel.specs.Typing.Least.{first}
use Rattle.clmodel.specs.Typing.Faults.{faults}

abbrev pointer : AddressSpace → Bool → VariableType
pointer space is_const = kind.Pointer (record { space = space; is_const = is_const; element = Int })

-- in `__kernel void f(__global int *a, __local int *s, __constant int *t, __constant const int *u, int n)`, behind `int
-- p[4]; __local int q[4];`, on a device with the limits of the profile
abbrev here : Context
here = record {
  limits = profile;
  all = 100 ∷ [];
  before = [];
  current = 100;
  signature = record { is_kernel = true; result = None; parameters = [] };
  in_loop = false;
  inner =
      (101, Single (pointer Global false))
      ∷ (102, Single (pointer Local false))
      ∷ (103, Single (pointer Constant false))
      ∷ (104, Single (pointer Constant true))
      ∷ (105, Single (kind.Integer Int))
      ∷ (106, PrivateArray Int)
      ∷ (107, LocalArray Int)
      ∷ [];
  outer = [];
}

abbrev one : ℕ → Term
one at = Number at (record { kind = Int; number = pos 1 })

abbrev local_flag : ℕ → Term
local_flag at = Variable at local_fence

abbrev global_flag : ℕ → Term
global_flag at = Variable at global_fence

abbrev joined : BinaryOperator → Term → Term → Term
joined op = Binary 8 (Arithmetic op)

-- `barrier(..);` and `atomic_inc(..);`
abbrev barrier : List Term → Stmt
barrier es = CallOnly 0 14 (then_all NoTerm es)

abbrev increment : Term → Stmt
increment e = CallOnly 0 22 (then_all NoTerm (e ∷ []))

-- `int x[n];` and `__local int x[n];`
abbrev array : Bool → (name_at name length_at : ℕ) → ℕ → Stmt
array is_local b x d n = DeclareArray 0 is_local Int b x d (record { kind = Int; number = pos n })

-- `n = e;` and `s = e;`
abbrev set : ℕ → Term → Stmt
set name e = Assign 0 (TargetVariable 0 name) None e

abbrev pub samples : List (Stmt × Option TypeFault)
samples =
    -- barrier(CLK_LOCAL_MEM_FENCE);
    (barrier (local_flag 8 ∷ []), None)
    -- barrier(CLK_GLOBAL_MEM_FENCE | CLK_LOCAL_MEM_FENCE);
    ∷ (barrier (joined BitOr (global_flag 8) (local_flag 31) ∷ []), None)
    -- barrier(CLK_LOCAL_MEM_FENCE | CLK_LOCAL_MEM_FENCE);
    ∷ (barrier (joined BitOr (local_flag 8) (local_flag 30) ∷ []), Some (BadBarrierFlags 8))
    -- barrier(CLK_LOCAL_MEM_FENCE + CLK_GLOBAL_MEM_FENCE);
    ∷ (barrier (joined Add (local_flag 8) (global_flag 30) ∷ []), Some (BadBarrierFlags 8))
    -- barrier(n);
    ∷ (barrier (Variable 8 105 ∷ []), Some (BadBarrierFlags 8))
    -- barrier(a);  Of one node the lowest number.
    ∷ (barrier (Variable 8 101 ∷ []), Some (TypeMismatch 8))
    -- barrier(z);
    ∷ (barrier (Variable 8 115 ∷ []), Some (UnknownName 8))
    -- barrier(min(CLK_LOCAL_MEM_FENCE, 1));  A fence is a uint.
    ∷ (barrier (Call 8 8 (then_all NoTerm (local_flag 12 ∷ one 33 ∷ [])) ∷ []), Some (TypeMismatch 33))
    -- barrier();
    ∷ (barrier [], Some (WrongArgumentCount 0))
    -- barrier(1, CLK_LOCAL_MEM_FENCE);
    ∷ (barrier (one 8 ∷ local_flag 11 ∷ []), Some (WrongArgumentCount 0))
    -- n = barrier(CLK_LOCAL_MEM_FENCE);
    ∷ (set 105 (Call 4 14 (then_all NoTerm (local_flag 12 ∷ []))), Some (TypeMismatch 4))
    -- n = barrier(1);  Of one node the lowest number.
    ∷ (set 105 (Call 4 14 (then_all NoTerm (one 12 ∷ []))), Some (TypeMismatch 4))
    -- n = barrier;
    ∷ (set 105 (Variable 4 14), Some (TypeMismatch 4))
    -- n = CLK_LOCAL_MEM_FENCE;
    ∷ (set 105 (local_flag 4), Some (UnknownName 4))
    -- CLK_LOCAL_MEM_FENCE();
    ∷ (CallOnly 0 24 NoTerm, Some (UnknownName 0))
    -- s[1] = 1;
    ∷ (Assign 0 (TargetElement 0 102 (one 2)) None (one 7), None)
    -- t[1] = 1;
    ∷ (Assign 0 (TargetElement 0 103 (one 2)) None (one 7), Some (NotAssignable 0))
    -- s = a;
    ∷ (set 102 (Variable 4 101), Some (WrongSpace 4))
    -- s = u;  A `const` that is dropped comes before the address space.
    ∷ (set 102 (Variable 4 104), Some (NotAssignable 4))
    -- atomic_inc(s);
    ∷ (increment (Variable 11 102), None)
    -- atomic_inc(t);
    ∷ (increment (Variable 11 103), Some (WrongSpace 11))
    -- atomic_inc(&u[1]);
    ∷ (increment (ElementAddress 11 12 104 (one 14)), Some (NotAssignable 11))
    -- n = p[1];
    ∷ (set 105 (Element 4 106 (one 6)), None)
    -- p[1] = 1;
    ∷ (Assign 0 (TargetElement 0 106 (one 2)) None (one 7), None)
    -- n = p;
    ∷ (set 105 (Variable 4 106), Some (WrongSpace 4))
    -- n = *p;
    ∷ (set 105 (Dereference 4 (Variable 5 106)), Some (WrongSpace 5))
    -- s = &p[1];
    ∷ (set 102 (ElementAddress 4 5 106 (one 7)), Some (WrongSpace 4))
    -- p = 1;
    ∷ (set 106 (one 4), Some (NotAssignable 0))
    -- p = y;  The target comes before the value.
    ∷ (set 106 (Variable 4 114), Some (NotAssignable 0))
    -- p++;
    ∷ (Step 0 (TargetVariable 0 106) true, Some (NotAssignable 0))
    -- p();
    ∷ (CallOnly 0 106 NoTerm, Some (TypeMismatch 0))
    -- p[p] = 1;
    ∷ (Assign 0 (TargetElement 0 106 (Variable 2 106)) None (one 7), Some (WrongSpace 2))
    -- y[p] = 1;  The index comes before the name in front of it.
    ∷ (Assign 0 (TargetElement 0 114 (Variable 2 106)) None (one 7), Some (WrongSpace 2))
    -- s = &p[a];  Of one node the lowest number.
    ∷ (set 102 (ElementAddress 4 5 106 (Variable 7 101)), Some (TypeMismatch 7))
    -- atomic_inc(&p[1]);
    ∷ (increment (ElementAddress 11 12 106 (one 14)), Some (WrongSpace 11))
    -- q[1] = 1;
    ∷ (Assign 0 (TargetElement 0 107 (one 2)) None (one 7), None)
    -- *q = 1;
    ∷ (Assign 0 (TargetDereference 0 (Variable 1 107)) None (one 5), None)
    -- n = q[1];
    ∷ (set 105 (Element 4 107 (one 6)), None)
    -- n = q;
    ∷ (set 105 (Variable 4 107), Some (TypeMismatch 4))
    -- q++;
    ∷ (Step 0 (TargetVariable 0 107) true, Some (NotAssignable 0))
    -- q();
    ∷ (CallOnly 0 107 NoTerm, Some (TypeMismatch 0))
    -- atomic_inc(q);
    ∷ (increment (Variable 11 107), None)
    -- s = q;
    ∷ (set 102 (Variable 4 107), None)
    -- s = &q[1];
    ∷ (set 102 (ElementAddress 4 5 107 (one 7)), None)
    -- q = s;
    ∷ (set 107 (Variable 4 102), Some (NotAssignable 0))
    -- int y[32768];
    ∷ (array false 4 114 6 32768, None)
    -- int y[32769];
    ∷ (array false 4 114 6 32769, Some (TooLarge 6))
    -- int y[0];
    ∷ (array false 4 114 6 0, Some (TooLarge 6))
    -- int p[0];
    ∷ (array false 4 106 6 0, Some (Redeclared 4))
    -- __local int y[4];
    ∷ (array true 12 114 14 4, None)
    -- __local int q[0];
    ∷ (array true 12 107 14 0, Some (Redeclared 12))
    -- { __local int y[0]; }
    ∷ (Block 0 (then_stmts NoStmt (array true 14 114 16 0 ∷ [])), Some (WrongSpace 14))
    ∷ []

abbrev pub AreSampled : Type 0
AreSampled = map (λ s. first (faults here s.0)) samples ≡ map (λ s. s.1) samples
