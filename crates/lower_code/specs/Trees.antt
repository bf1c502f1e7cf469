-- Statements, as the code's functions take them (own).
use Rattle.std.specs.Prelude.{Option, None, Some, List, map}
use Rattle.std.specs.Borrow.{Bor}
use Rattle.clmodel.specs.Tree.{Stmts, NoStmt, stmt, then_stmts, MaybeStmt, Without, With}
use Rattle.clmodel.specs.declared.tree.Statement.{Statement}

abbrev pub all_of : List Statement → Stmts
all_of statements = then_stmts NoStmt (map stmt statements)

abbrev pub part_of : Option (Bor Statement) → MaybeStmt
part_of None = Without
part_of (Some s) = With (stmt s.now)
