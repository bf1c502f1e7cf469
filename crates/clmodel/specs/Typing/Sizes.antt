-- What a body holds, with the bodies of the functions that it calls in place of their calls (own): how deep its loops
-- are nested, how many bytes its private arrays have, and how many nodes it has: statements, declarations, targets, and
-- expressions. A call that is a statement is one node.
use Rattle.std.specs.Prelude.{ℕ, suc, ◌+◌, max, Bool, true, false, ◌||◌, ◌&&◌, nat_eq, List, [], ◌∷◌, ◌++◌, Option, None, Some}
use Rattle.std.specs.Map.{lookup}
use Rattle.clmodel.specs.Tree as tree
use Rattle.clmodel.specs.Tree.{Term, Terms, NoTerm, ThenTerm, array_bytes, Target, Stmt, Stmts, NoStmt, ThenStmt, MaybeStmt, Without, With, MaybeTerm, WithoutTerm, WithTerm, Func, Funcs, NoFunc, ThenFunc}

pub record Size : Type 0 where
  pub loops : ℕ
  pub bytes : ℕ
  pub nodes : ℕ

abbrev pub nothing : Size
nothing = record { loops = 0; bytes = 0; nodes = 0 }

-- one beside the other
abbrev pub beside : Size → Size → Size
beside s t = record { loops = max s.loops t.loops; bytes = s.bytes + t.bytes; nodes = s.nodes + t.nodes }

-- a node round what it holds
abbrev pub one_node : Size → Size
one_node s = record s { nodes = suc s.nodes }

-- a loop round what it holds
abbrev pub one_loop : Size → Size
one_loop s = record s { loops = suc s.loops; nodes = suc s.nodes }

-- a single node
abbrev pub leaf : Size
leaf = one_node nothing

-- an array: if it is private (6.5.4), with its bytes; those of local arrays count where a kernel is launched, not here
-- (own)
abbrev pub array_size : (is_local : Bool) → ℕ → Size
array_size true bytes = leaf
array_size false bytes = record leaf { bytes = bytes }

-- Sizes of the bodies of functions, by the functions' names.
abbrev pub Sizes : Type 0
Sizes = List (ℕ × Size)

abbrev pub or_nothing : Option Size → Size
or_nothing None = nothing
or_nothing (Some s) = s

-- the size of the body of the function of a name, and nothing where it isn't one of these
abbrev pub size_in : Sizes → ℕ → Size
size_in sizes x = or_nothing (lookup (nat_eq x) sizes)

-- A body calls functions before it alone, whose sizes are these.
module _ (sizes : Sizes) where
  abbrev mutual
    pub term_size : Term → Size
    term_size (tree.Number a v) = leaf
    term_size (tree.Variable a x) = leaf
    term_size (tree.Element a x e) = one_node (term_size e)
    term_size (tree.ElementAddress a b x e) = one_node (term_size e)
    term_size (tree.Dereference a e) = one_node (term_size e)
    term_size (tree.Call a x es) = one_node (beside (terms_size es) (size_in sizes x))
    term_size (tree.Unary a op e) = one_node (term_size e)
    term_size (tree.Cast a t e) = one_node (term_size e)
    term_size (tree.Binary a op d e) = one_node (beside (term_size d) (term_size e))
    term_size (tree.Choice a e d f) = one_node (beside (beside (term_size e) (term_size d)) (term_size f))

    pub terms_size : Terms → Size
    terms_size NoTerm = nothing
    terms_size (ThenTerm es e) = beside (terms_size es) (term_size e)

  abbrev pub target_size : Target → Size
  target_size (tree.TargetVariable a x) = leaf
  target_size (tree.TargetElement a x e) = one_node (term_size e)
  target_size (tree.TargetDereference a e) = one_node (term_size e)

  abbrev pub condition_size : MaybeTerm → Size
  condition_size WithoutTerm = nothing
  condition_size (WithTerm e) = term_size e

  abbrev mutual
    pub size : Stmt → Size
    size (tree.Empty a) = leaf
    size (tree.Block a ss) = one_node (row_size ss)
    size (tree.Declare a k b x) = leaf
    size (tree.DeclareAs a k b x e) = one_node (term_size e)
    size (tree.DeclareArray a is_local t b x d n) = array_size is_local (array_bytes t n)
    size (tree.Assign a p op e) = one_node (beside (target_size p) (term_size e))
    size (tree.Step a p is_increment) = one_node (target_size p)
    size (tree.CallOnly a x es) = one_node (beside (terms_size es) (size_in sizes x))
    size (tree.If a e s) = one_node (beside (term_size e) (size s))
    size (tree.IfElse a e s r) = one_node (beside (beside (term_size e) (size s)) (size r))
    size (tree.While a e s) = one_loop (beside (term_size e) (size s))
    size (tree.DoWhile a s e) = one_loop (beside (size s) (term_size e))
    -- The first part runs before the loop, the third in it.
    size (tree.For a first e third s) = beside (part_size first) (one_loop (beside (beside (condition_size e) (part_size third)) (size s)))
    size (tree.Break a) = leaf
    size (tree.Continue a) = leaf
    size (tree.Return a) = leaf
    size (tree.ReturnValue a e) = one_node (term_size e)

    -- a part of a `for` between its brackets
    pub part_size : MaybeStmt → Size
    part_size Without = nothing
    part_size (With s) = size s

    pub row_size : Stmts → Size
    row_size NoStmt = nothing
    row_size (ThenStmt ss s) = beside (row_size ss) (size s)

-- the sizes of the bodies of functions, each by those of the functions before it
abbrev pub sizes_of : Funcs → Sizes
sizes_of NoFunc = []
sizes_of (ThenFunc fs f) = sizes_of fs ++ (f.name, row_size (sizes_of fs) f.body) ∷ []

-- The greatest limits that a device may have (own); each device says its own limits, at most these.

-- how deep the loops of a kernel may be nested
abbrev pub loop_limit : ℕ
loop_limit = 32

-- how many bytes the private arrays of a kernel may have
abbrev pub byte_limit : ℕ
byte_limit = 65536

-- how many nodes the body of a kernel may have
abbrev pub node_limit : ℕ
node_limit = 1000000

-- How many parameters a function may have: OpenCL 1.2 bounds their bytes (table 4.3, CL_DEVICE_MAX_PARAMETER_SIZE), the
-- number is this project's own, and is the same for each device.
abbrev pub parameter_limit : ℕ
parameter_limit = 13000

-- Whether a statement always returns (own): `return`, a block with a statement that does, or an `if` with an `else`
-- both of whose parts do.
abbrev mutual
  pub always_returns : Stmt → Bool
  always_returns (tree.Return a) = true
  always_returns (tree.ReturnValue a e) = true
  always_returns (tree.Block a ss) = row_returns ss
  always_returns (tree.IfElse a e s r) = always_returns s && always_returns r
  always_returns _ = false

  pub row_returns : Stmts → Bool
  row_returns NoStmt = false
  row_returns (ThenStmt ss s) = row_returns ss || always_returns s
