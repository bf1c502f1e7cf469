-- How the code of statements is emitted (own).
use Rattle.std.specs.Prelude.{ℕ, ◌++◌, Option, None, Some, List, [], ◌∷◌, take}
use Rattle.std.specs.Borrow.{Bor}
use Rattle.clnum.specs.declared.int_type.IntType.{IntType}
use Rattle.clmodel.specs.Next.{all_sites}
use Rattle.clmodel.specs.Tree.{Stmt, Stmts, MaybeStmt, MaybeTerm, WithoutTerm, WithTerm, term}
use Rattle.clmodel.specs.declared.tree.Expression.{Expression}
use Rattle.clmodel.specs.declared.tree.Function.{Function}
use Rattle.regcode.specs.declared.instruction.Instruction.{Instruction}
use Rattle.regcode.specs.declared.instruction.Instruction.TheVariants as instruction
use Rattle.lower_expr.specs.Registers.{numbers}
use Rattle.lower_expr.specs.Scope.{Scope}
use Rattle.lower_code.specs.Trees.{all_of}
use Rattle.lower_code.specs.Code as spec
use Rattle.lower_code.specs.Code.{Calls, stmt_code, stmts_code, part_code, call_code, pass_code, result_in}
pub use Rattle.lower_code.specs.Helpers.{functions_of, inside, sizes_in, nodes_in, widths_in, width_in, body_of}
use Rattle.lower_code.specs.declared.assignments.Call.{Call}
use Rattle.lower_code.specs.declared.callees.Callee.{Callee}
use Rattle.lower_code.specs.declared.callees.Callee.TheVariants as callee
use Rattle.lower_code.specs.declared.assignments.Split.{Split}
use Rattle.lower_code.specs.declared.functions.FoundFunction.{FoundFunction}
use Rattle.lower_code.specs.declared.positions.Exits.{Exits}
use Rattle.lower_code.specs.declared.positions.Position.{Position}
use Rattle.lower_code.specs.declared.holes.StatementContext.{StatementContext}

abbrev pub test_of : Option (Bor Expression) → MaybeTerm
test_of None = WithoutTerm
test_of (Some e) = WithTerm (term e.now)

-- the body of a helper with the functions before it, or the end of the item where there is none of a name
abbrev pub found_code : List Function → Option FoundFunction → List ℕ → ℕ → ℕ → ℕ → List Instruction
found_code functions None arguments level depth site = instruction.End ∷ []
found_code functions (Some f) arguments level depth site =
    pass_code f.function.now.parameters.items arguments level
    ++ body_of (take f.place functions) f.function.now level depth site

-- the type of its value
abbrev pub found_result : Option FoundFunction → Option IntType
found_result None = None
found_result (Some f) = f.function.now.result

-- the barriers in it
abbrev pub found_sites : List Function → Option FoundFunction → ℕ
found_sites functions None = 0
found_sites functions (Some f) = all_sites (inside (take f.place functions)) (all_of f.function.now.body.items)

-- the barriers in what a name calls
abbrev pub callee_sites : (ℕ → ℕ) → Callee → ℕ
callee_sites inside callee.Nothing = 0
callee_sites inside callee.Barrier = 1
callee_sites inside (callee.Helper name) = inside name

-- the body of a helper that is called
abbrev pub called_code : Calls → Option Call → ℕ → ℕ → List Instruction
called_code calls None depth site = []
called_code calls (Some c) depth site = calls c.name (numbers c.arguments.items) c.level.0 depth site

-- the barriers in it
abbrev pub called_sites : (ℕ → ℕ) → Option Call → ℕ
called_sites inside None = 0
called_sites inside (Some c) = inside c.name

-- the code of a statement, with that body between its parts
abbrev pub split_code : Calls → Split → ℕ → ℕ → List Instruction
split_code calls split depth site = split.front.items ++ (called_code calls split.call depth site ++ split.back.items)

abbrev pub exits_of : Exits → spec.Exits
exits_of exits = record { broken = exits.broken; continued = exits.continued; returned = exits.returned }

-- the code of a statement, of a part of a `for` and of statements in a setting at a position
abbrev pub statement_code : StatementContext → Scope → Stmt → Position → List Instruction
statement_code s scope statement p =
    stmt_code (call_code (functions_of s.helpers.functions.now)) (result_in (functions_of s.helpers.functions.now)) (inside s.helpers.functions.now) s.result scope statement p.depth p.site (exits_of p.exits)

abbrev pub maybe_code : StatementContext → Scope → MaybeStmt → Position → List Instruction
maybe_code s scope part p =
    part_code (call_code (functions_of s.helpers.functions.now)) (result_in (functions_of s.helpers.functions.now)) (inside s.helpers.functions.now) s.result scope part p.depth p.site (exits_of p.exits)

abbrev pub row_code : StatementContext → Scope → Stmts → Position → List Instruction
row_code s scope statements p =
    stmts_code (call_code (functions_of s.helpers.functions.now)) (result_in (functions_of s.helpers.functions.now)) (inside s.helpers.functions.now) s.result scope statements p.depth p.site (exits_of p.exits)
