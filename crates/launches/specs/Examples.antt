-- Kernels on which the next action is computed. Names: 100 `f`, 101 `a`, 102 `g`, 103 `n`, 104 `s`, 105 `j`, 106 `p`,
-- 107 `q`, 108 `r`.
use Rattle.std.specs.Prelude.{ℕ, pos, Bool, true, false, Option, None, Some, List, [], ◌∷◌}
use Rattle.clnum.specs.Integer as clnum
use Rattle.clnum.specs.declared.int_type.IntType.TheVariants.{Char, Uchar, Int}
use Rattle.clnum.specs.declared.operators.BinaryOperator.TheVariants as operator
use Rattle.clnum.specs.declared.operators.UnaryOperator.TheVariants.{Negate}
use Rattle.clmodel.specs.BuiltIns.{local_fence}
use Rattle.clmodel.specs.Setup.{Setup}
use Rattle.clmodel.specs.Tree.{Term, Number, Variable, Element, ElementAddress, Call, Unary, Binary, NoTerm, then_all, TargetVariable, TargetElement, Stmt, Block, Declare, DeclareAs, DeclareArray, Assign, Step, CallOnly, If, While, DoWhile, For, Break, Continue, ReturnValue, NoStmt, then_stmts, With, WithoutTerm, WithTerm, Func, NoFunc, then_funcs}
use Rattle.clmodel.specs.declared.access.Object.TheVariants as object
use Rattle.clmodel.specs.declared.access.Operation.TheVariants as operation
use Rattle.clmodel.specs.declared.access.Width.TheVariants.{Four}
use Rattle.clmodel.specs.declared.action.Action.{Action}
use Rattle.clmodel.specs.declared.action.Action.TheVariants as action
use Rattle.clmodel.specs.declared.setup.Argument.{Argument}
use Rattle.clmodel.specs.declared.setup.Argument.TheVariants as argument
use Rattle.clmodel.specs.declared.tree.AddressSpace.{AddressSpace}
use Rattle.clmodel.specs.declared.tree.AddressSpace.TheVariants.{Global, Local}
use Rattle.clmodel.specs.declared.tree.InfixOperator.TheVariants.{Arithmetic}
use Rattle.clmodel.specs.declared.tree.Parameter.{Parameter}
use Rattle.clmodel.specs.declared.tree.VariableType.TheVariants.{Integer, Pointer}

abbrev pub number : ℕ → Term
number n = Number 0 (record { kind = Int; number = pos n })

abbrev pub variable : ℕ → Term
variable name = Variable 0 name

abbrev pub block : List Stmt → Stmt
block ss = Block 0 (then_stmts NoStmt ss)

abbrev pub call : ℕ → List Term → Term
call name es = Call 0 name (then_all NoTerm es)

-- `int name = e;`
abbrev pub declare : ℕ → Term → Stmt
declare name e = DeclareAs 0 (Integer Int) 0 name e

-- `a[0] = e;`
abbrev pub store : Term → Stmt
store e = Assign 0 (TargetElement 0 101 (number 0)) None e

-- `barrier(CLK_LOCAL_MEM_FENCE);`
abbrev pub barrier : Stmt
barrier = CallOnly 0 14 (then_all NoTerm (variable local_fence ∷ []))

-- `name++`
abbrev pub increment : ℕ → Stmt
increment name = Step 0 (TargetVariable 0 name) true

abbrev pub less : Term → Term → Term
less = Binary 0 (Arithmetic operator.Less)

-- `for (int j = first; condition; j++) body`
abbrev pub for_j : ℕ → Term → Stmt → Stmt
for_j first condition body = For 0 (With (declare 105 (number first))) (WithTerm condition) (With (increment 105)) body

-- a helper: its type, its name, the names of its parameters, which are ints, and its body
abbrev pub ints : List ℕ → List Parameter
ints [] = []
ints (name ∷ names) = record { name_at = 0; name = name; kind = Integer Int } ∷ ints names

-- `int g(int n) { .. }`
abbrev pub helper_g : List Stmt → Func
helper_g body =
    record { is_kernel = false; result = Some Int; name_at = 0; name = 102; parameters = ints (103 ∷ []); body_at = 0; body = then_stmts NoStmt body }

-- a pointer to ints
abbrev pub pointer : AddressSpace → ℕ → Parameter
pointer space name = record { name_at = 0; name = name; kind = Pointer (record { space = space; is_const = false; element = Int }) }

-- `__kernel void f(..) { .. }` for one item, with helpers before it, parameters, arguments and a budget
abbrev pub launched_with : List Parameter → List (Option Argument) → List Func → List Stmt → ℕ → Setup
launched_with parameters arguments helpers body budget =
    record {
      program = record {
        functions = then_funcs (then_funcs NoFunc helpers) (record {
          is_kernel = true;
          result = None;
          name_at = 0;
          name = 100;
          parameters = parameters;
          body_at = 0;
          body = then_stmts NoStmt body;
        } ∷ []);
        names = [];
      };
      kernel = 100;
      range = record { global = 1 ∷ []; local = 1 ∷ []; offset = 0 ∷ []; uniform = false };
      arguments = arguments;
      budget = budget;
    }

-- `__kernel void f(__global int *a) { .. }`
abbrev pub launched : List Func → List Stmt → ℕ → Setup
launched = launched_with (pointer Global 101 ∷ []) (Some (argument.Buffer (97 ∷ [])) ∷ [])

-- the actions of these kernels
abbrev pub stores : ℕ → Action
stores n = action.Access (object.Buffer 0) (pos 0) (operation.Store Four n)

abbrev pub waits : ℕ → List ℕ → Action
waits site turns = action.Barrier (record { site = site; turns = turns }) (record { local = true; global = false })

-- `int g(int n) { int s = 0; for (int j = 1; j <= n; j++) s += j; return s; }`, with `a[0] = g(4);`
abbrev pub sum_by_helper : ℕ → Setup
sum_by_helper =
    launched
    (helper_g (
    declare 104 (number 0)
    ∷ for_j 1 (Binary 0 (Arithmetic operator.LessOrEqual) (variable 105) (variable 103)) (Assign 0 (TargetVariable 0 104) (Some operator.Add) (variable 105))
    ∷ ReturnValue 0 (variable 104)
    ∷ []
    ) ∷ [])
    (store (call 102 (number 4 ∷ [])) ∷ [])

-- `for (int j = 0; j < 3; j++) a[0] = j;`
abbrev pub three_turns : ℕ → Setup
three_turns = launched [] (for_j 0 (less (variable 105) (number 3)) (store (variable 105)) ∷ [])

-- `for (int j = 0; j < 2; j++) { continue; a[0] = 1; }`
abbrev pub continues : ℕ → Setup
continues = launched [] (for_j 0 (less (variable 105) (number 2)) (block (Continue 0 ∷ store (number 1) ∷ [])) ∷ [])

-- `for (barrier(..); ; barrier(..)) barrier(..);`
abbrev pub three_barriers : ℕ → Setup
three_barriers = launched [] (For 0 (With barrier) WithoutTerm (With barrier) barrier ∷ [])

-- `while (1) { do { barrier(..); break; } while (1); g(0); g(0); }`, where `g` meets a barrier in a loop
abbrev pub nested : ℕ → Setup
nested =
    launched
    (helper_g (While 0 (number 1) (block (barrier ∷ ReturnValue 0 (variable 103) ∷ [])) ∷ []) ∷ [])
    (While 0 (number 1) (block (
    DoWhile 0 (block (barrier ∷ Break 0 ∷ [])) (number 1)
    ∷ CallOnly 0 102 (then_all NoTerm (number 0 ∷ []))
    ∷ CallOnly 0 102 (then_all NoTerm (number 0 ∷ []))
    ∷ []
    )) ∷ [])

-- `__kernel void f(__global int *a, __local int *s) { s[0] = 1; barrier(..); a[0] = s[0]; }`, with 8 bytes of local
-- memory
abbrev pub through_local : ℕ → Setup
through_local =
    launched_with
    (pointer Global 101 ∷ pointer Local 104 ∷ [])
    (Some (argument.Buffer (97 ∷ [])) ∷ Some (argument.Local 8) ∷ [])
    []
    (Assign 0 (TargetElement 0 104 (number 0)) None (number 1) ∷ barrier ∷ store (Element 0 104 (number 0)) ∷ [])

-- `int p[count];` and `__local int q[count];`
abbrev pub private_ints : ℕ → Stmt
private_ints count = DeclareArray 0 false Int 0 106 0 (record { kind = Int; number = pos count })

abbrev pub local_ints : ℕ → Stmt
local_ints count = DeclareArray 0 true Int 0 107 0 (record { kind = Int; number = pos count })

-- `p[i]`, and `p[i] = e;`
abbrev pub of_p : Term → Term
of_p i = Element 0 106 i

abbrev pub into_p : Term → Term → Stmt
into_p i e = Assign 0 (TargetElement 0 106 i) None e

-- `int p[2]; p[1] = 7; p[1]++; a[0] = p[1];`
abbrev pub kept_in_private : ℕ → Setup
kept_in_private =
    launched [] (private_ints 2 ∷ into_p (number 1) (number 7) ∷ Step 0 (TargetElement 0 106 (number 1)) true ∷ store (of_p (number 1)) ∷ [])

-- `char p[1]; p[0] = 300; a[0] = p[0];`
abbrev pub narrowed : ℕ → Setup
narrowed =
    launched
    []
    (DeclareArray 0 false Char 0 106 0 (record { kind = Int; number = pos 1 })
    ∷ into_p (number 0) (number 300)
    ∷ store (of_p (number 0))
    ∷ [])

-- `int p[2]; p[0] = 1; a[0] = p[1];`
abbrev pub unset_element : ℕ → Setup
unset_element = launched [] (private_ints 2 ∷ into_p (number 0) (number 1) ∷ store (of_p (number 1)) ∷ [])

-- `int p[2]; p[-1] = 1 / 0;` and `int p[2]; p[2] += 1 / 0;` The range is tested where the element is stored to or
-- loaded.
abbrev pub by_zero : Term
by_zero = Binary 0 (Arithmetic operator.Divide) (number 1) (number 0)

abbrev pub stored_before : ℕ → Setup
stored_before = launched [] (private_ints 2 ∷ into_p (Unary 0 Negate (number 1)) by_zero ∷ [])

abbrev pub loaded_behind : ℕ → Setup
loaded_behind = launched [] (private_ints 2 ∷ Assign 0 (TargetElement 0 106 (number 2)) (Some operator.Add) by_zero ∷ [])

-- `for (int j = 0; j < 2; j++) { int p[1]; if (j) a[0] = p[0]; p[0] = j; }`  A declaration leaves no element set.
abbrev pub declared_again : ℕ → Setup
declared_again =
    launched
    []
    (for_j 0 (less (variable 105) (number 2)) (block (
    private_ints 1
    ∷ If 0 (variable 105) (store (of_p (number 0)))
    ∷ into_p (number 0) (variable 105)
    ∷ []
    )) ∷ [])

-- `int n = 1; __local int q[2]; q[n] = 3;`
abbrev pub in_local_array : ℕ → Setup
in_local_array = launched [] (declare 103 (number 1) ∷ local_ints 2 ∷ Assign 0 (TargetElement 0 107 (variable 103)) None (number 3) ∷ [])

-- `char p[2]; p[0] = 127; p[0]++; a[0] = p[0];` and `int p[2]; p[1]++;`
abbrev pub stepped : ℕ → Setup
stepped =
    launched
    []
    (DeclareArray 0 false Char 0 106 0 (record { kind = Int; number = pos 2 })
    ∷ into_p (number 0) (number 127)
    ∷ Step 0 (TargetElement 0 106 (number 0)) true
    ∷ store (of_p (number 0))
    ∷ [])

abbrev pub stepped_unset : ℕ → Setup
stepped_unset = launched [] (private_ints 2 ∷ Step 0 (TargetElement 0 106 (number 1)) true ∷ [])

-- `int p[2]; p[i] = 1;` and `int p[2]; p[i] += 1;`
abbrev pub put_at : clnum.Integer → ℕ → Setup
put_at i = launched [] (private_ints 2 ∷ into_p (Number 0 i) (number 1) ∷ [])

abbrev pub added_at : clnum.Integer → ℕ → Setup
added_at i = launched [] (private_ints 2 ∷ Assign 0 (TargetElement 0 106 (Number 0 i)) (Some operator.Add) (number 1) ∷ [])

-- `int p[2]; p[1] += 1 / 0;`, `int p[2]; int j; p[j] = 1 / 0;` and `int p[2]; int j; p[9] = j;`
abbrev pub added_to_unset : ℕ → Setup
added_to_unset = launched [] (private_ints 2 ∷ Assign 0 (TargetElement 0 106 (number 1)) (Some operator.Add) by_zero ∷ [])

abbrev pub unset_index : ℕ → Setup
unset_index = launched [] (private_ints 2 ∷ Declare 0 (Integer Int) 0 105 ∷ into_p (variable 105) by_zero ∷ [])

abbrev pub unset_value : ℕ → Setup
unset_value = launched [] (private_ints 2 ∷ Declare 0 (Integer Int) 0 105 ∷ into_p (number 9) (variable 105) ∷ [])

-- `int p[1]; p[0] = 5; p[0] += p[0]; a[0] = p[0]; p[1] = 0;`
abbrev pub without_ticks : ℕ → Setup
without_ticks =
    launched
    []
    (private_ints 1
    ∷ into_p (number 0) (number 5)
    ∷ Assign 0 (TargetElement 0 106 (number 0)) (Some operator.Add) (of_p (number 0))
    ∷ store (of_p (number 0))
    ∷ into_p (number 1) (number 0)
    ∷ [])

-- `int g(int n) { int p[1]; if (n == 2) return p[0]; p[0] = n; return p[0]; }`, with `a[0] = g(1); a[0] = g(2);`
abbrev pub called_again : ℕ → Setup
called_again =
    launched
    (helper_g (
    private_ints 1
    ∷ If 0 (Binary 0 (Arithmetic operator.Equal) (variable 103) (number 2)) (ReturnValue 0 (of_p (number 0)))
    ∷ into_p (number 0) (variable 103)
    ∷ ReturnValue 0 (of_p (number 0))
    ∷ []
    ) ∷ [])
    (store (call 102 (number 1 ∷ [])) ∷ store (call 102 (number 2 ∷ [])) ∷ [])

-- `int g(int n) { int p[1]; p[0] = n * 2; return p[0]; }`, with `int p[2]; p[1] = 3; p[1] += g(p[1]); a[0] = p[1];`
abbrev pub added_by_helper : ℕ → Setup
added_by_helper =
    launched
    (helper_g (
    private_ints 1
    ∷ into_p (number 0) (Binary 0 (Arithmetic operator.Multiply) (variable 103) (number 2))
    ∷ ReturnValue 0 (of_p (number 0))
    ∷ []
    ) ∷ [])
    (private_ints 2
    ∷ into_p (number 1) (number 3)
    ∷ Assign 0 (TargetElement 0 106 (number 1)) (Some operator.Add) (call 102 (of_p (number 1) ∷ []))
    ∷ store (of_p (number 1))
    ∷ [])

-- `int r[count];` and `__local int r[count];`
abbrev pub other_ints : (is_local : Bool) → ℕ → Stmt
other_ints is_local count = DeclareArray 0 is_local Int 0 108 0 (record { kind = Int; number = pos count })

-- `{ int p[3]; p[2] = 7; a[0] = p[2]; } { int r[2]; r[2] = 1; }`
abbrev pub shorter_behind : ℕ → Setup
shorter_behind =
    launched
    []
    (block (private_ints 3 ∷ into_p (number 2) (number 7) ∷ store (of_p (number 2)) ∷ [])
    ∷ block (other_ints false 2 ∷ Assign 0 (TargetElement 0 108 (number 2)) None (number 1) ∷ [])
    ∷ [])

-- `{ int p[2]; p[0] = 7; } { int r[2]; a[0] = r[0]; }`
abbrev pub unset_behind : ℕ → Setup
unset_behind =
    launched
    []
    (block (private_ints 2 ∷ into_p (number 0) (number 7) ∷ [])
    ∷ block (other_ints false 2 ∷ store (Element 0 108 (number 0)) ∷ [])
    ∷ [])

-- `a[1] = e;`
abbrev pub store_second : Term → Stmt
store_second e = Assign 0 (TargetElement 0 101 (number 1)) None e

-- `int p[2]; p[0] = 1; { int p = 3; a[0] = p; } a[1] = p[0];`
abbrev pub hidden : ℕ → Setup
hidden =
    launched
    []
    (private_ints 2
    ∷ into_p (number 0) (number 1)
    ∷ block (declare 106 (number 3) ∷ store (variable 106) ∷ [])
    ∷ store_second (of_p (number 0))
    ∷ [])

-- `__local int q[2]; q[0] = 5; { int q[1]; q[0] = 6; a[0] = q[0]; } a[1] = q[0];`
abbrev pub into_q : Term → Stmt
into_q e = Assign 0 (TargetElement 0 107 (number 0)) None e

abbrev pub local_hidden : ℕ → Setup
local_hidden =
    launched
    []
    (local_ints 2
    ∷ into_q (number 5)
    ∷ block
    (DeclareArray 0 false Int 0 107 0 (record { kind = Int; number = pos 1 }) ∷ into_q (number 6) ∷ store (Element 0 107 (number 0)) ∷ [])
    ∷ store_second (Element 0 107 (number 0))
    ∷ [])

-- `int n = 0; do { int p[1]; p[0] = n; n++; if (p[0] == 0) continue; a[0] = p[0]; } while (n < 3);`
abbrev pub continued_past : ℕ → Setup
continued_past =
    launched
    []
    (declare 103 (number 0)
    ∷ DoWhile 0 (block (
    private_ints 1
    ∷ into_p (number 0) (variable 103)
    ∷ increment 103
    ∷ If 0 (Binary 0 (Arithmetic operator.Equal) (of_p (number 0)) (number 0)) (Continue 0)
    ∷ store (of_p (number 0))
    ∷ []
    )) (less (variable 103) (number 3))
    ∷ [])

-- `__kernel void f(__local int *s, __global int *a) { int n = 3; int p[2]; __local uchar q[8]; { int j; } __local int
-- r[2]; r[0] = n; q[4] = 9; }`, with 4 bytes of local memory
abbrev pub numbered : ℕ → Setup
numbered =
    launched_with
    (pointer Local 104 ∷ pointer Global 101 ∷ [])
    (Some (argument.Local 4) ∷ Some (argument.Buffer (97 ∷ [])) ∷ [])
    []
    (declare 103 (number 3)
    ∷ private_ints 2
    ∷ DeclareArray 0 true Uchar 0 107 0 (record { kind = Int; number = pos 8 })
    ∷ block (Declare 0 (Integer Int) 0 105 ∷ [])
    ∷ other_ints true 2
    ∷ Assign 0 (TargetElement 0 108 (number 0)) None (variable 103)
    ∷ Assign 0 (TargetElement 0 107 (number 4)) None (number 9)
    ∷ [])

-- `void g(__local int *p) { p[3] = 1; }`, with `__local int r[2]; __local int q[4]; g(q + 1);`
abbrev pub passed_on : ℕ → Setup
passed_on =
    launched
    (record {
      is_kernel = false;
      result = None;
      name_at = 0;
      name = 102;
      parameters = pointer Local 106 ∷ [];
      body_at = 0;
      body = then_stmts NoStmt (into_p (number 3) (number 1) ∷ []);
    } ∷ [])
    (other_ints true 2
    ∷ local_ints 4
    ∷ CallOnly 0 102 (then_all NoTerm (Binary 0 (Arithmetic operator.Add) (variable 107) (number 1) ∷ []))
    ∷ [])

-- `&a[i]`
abbrev pub address : ℕ → Term
address i = ElementAddress 0 0 101 (number i)

-- `a[1] = atomic_add(&a[0], 3) + atomic_cmpxchg(&a[0], 3, 9);`
abbrev pub sum_of_fetches : Setup
sum_of_fetches =
    launched []
    (Assign 0 (TargetElement 0 101 (number 1)) None
    (Binary 0 (Arithmetic operator.Add) (call 15 (address 0 ∷ number 3 ∷ [])) (call 27 (address 0 ∷ number 3 ∷ number 9 ∷ []))) ∷ [])
    9

-- `atomic_sub(&a[0], 2); atomic_xchg(&a[0], 5);`
abbrev pub dropped_values : Setup
dropped_values =
    launched []
    (CallOnly 0 16 (then_all NoTerm (address 0 ∷ number 2 ∷ [])) ∷ CallOnly 0 26 (then_all NoTerm (address 0 ∷ number 5 ∷ [])) ∷ []) 9
