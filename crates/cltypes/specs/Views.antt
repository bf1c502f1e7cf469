-- What the checker's values stand for.
use Rattle.std.specs.Prelude.{ℕ, List, ◌++◌, map, Option, None, Some, Box}
use Rattle.std.specs.declared.alloc.Global.{Global}
use Rattle.limits.specs.declared.Limits.{Limits}
use Rattle.clmodel.specs.Tree.{Target, Stmt, stmt, MaybeStmt, Without, With, MaybeTerm, Funcs, NoFunc, then_funcs, func}
use Rattle.clmodel.specs.declared.tree.Function.{Function}
use Rattle.clmodel.specs.declared.tree.Statement.{Statement}
use Rattle.clmodel.specs.Typing.Context.{Context, enter, turning}
use Rattle.clmodel.specs.Typing.Least.{Places, node}
use Rattle.clmodel.specs.Typing.Faults.{target_start, target_kind, condition_parts, condition_faults, part_faults, faults}
use Rattle.cltypes_scope.specs.Names.{nowhere}
use Rattle.cltypes_scope.specs.declared.faults.TypedOperand.{TypedOperand}

-- the type of the target, and its first byte
abbrev pub target_of : Context → Target → TypedOperand
target_of c p = record { kind = target_kind c p; at = target_start p }

-- a statement that may be left out
abbrev pub held : Option (Box Statement Global) → MaybeStmt
held None = Without
held (Some s) = With (stmt s.value)

-- the places of a `for` behind its first part, in its scope
abbrev pub turns_faults : Context → MaybeTerm → MaybeStmt → Stmt → Places
turns_faults c e third s = node (condition_parts c e ++ part_faults (enter c) third ++ faults (turning c) s) (condition_faults c e)

-- functions, the first of a list first
abbrev pub functions_of : List Function → Funcs
functions_of fs = then_funcs NoFunc (map func fs)

-- before the first function, on a device of these limits, where the text's functions have these names
abbrev pub known : Limits → List ℕ → Context
known limits all = record (nowhere limits) { all = all }
