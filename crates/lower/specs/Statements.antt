-- Statements that are emitted from their end (own).
use Rattle.std.specs.Prelude.{ℕ, ◌+◌, ◌<◌, ◌≤◌, ◌^◌, ◌++◌, max, List, length}
use Rattle.clmodel.specs.Next.{sites, part_sites, all_sites}
use Rattle.clmodel.specs.Tree.{Stmt, Stmts, MaybeStmt, MaybeTerm}
use Rattle.clmodel.specs.Typing.Rules.{length_limit}
use Rattle.clmodel.specs.Typing.Sizes.{size, condition_size, part_size, row_size, node_limit}
use Rattle.regcode.specs.declared.instruction.Instruction.{Instruction}
use Rattle.lower_expr.specs.Scope.{Scope, free_level}
use Rattle.lower_code.specs.Code.{stmt_code, part_code, call_code, result_in, body_exits}
use Rattle.lower_code.specs.Emission.{functions_of, inside, sizes_in, widths_in, exits_of}
use Rattle.lower_code.specs.Room.{levels, reach, turn_reach}
use Rattle.lower_code.specs.Variables.{elements, part_elements, row_elements}
use Rattle.lower_code.specs.declared.holes.StatementContext.{StatementContext}
use Rattle.lower_code.specs.declared.positions.Position.{Position}
use Rattle.lower.specs.declared.statements.Ending.{Ending}

-- the position of a statement that ends there, by the number of its first barrier
abbrev pub begun_at : Ending → ℕ → Position
begun_at e site = record { depth = e.depth; site = site; exits = e.exits }

-- what a part of a tree takes: the numbers of its barriers, of its nodes, and of these with the parameters of helpers,
-- and the elements of its longest array
pub record Demand : Type 0 where
  pub barriers : ℕ
  pub nodes : ℕ
  pub width : ℕ
  pub elements : ℕ

abbrev pub demand_of : StatementContext → Stmt → Demand
demand_of s body =
    record {
      barriers = sites (inside s.helpers.functions.now) body;
      nodes = (size (sizes_in s.helpers.functions.now) body).nodes;
      width = (size (widths_in s.helpers.functions.now) body).nodes;
      elements = elements body;
    }

abbrev pub row_demand : StatementContext → Stmts → Demand
row_demand s body =
    record {
      barriers = all_sites (inside s.helpers.functions.now) body;
      nodes = (row_size (sizes_in s.helpers.functions.now) body).nodes;
      width = (row_size (widths_in s.helpers.functions.now) body).nodes;
      elements = row_elements body;
    }

abbrev pub part_demand : StatementContext → MaybeStmt → Demand
part_demand s part =
    record {
      barriers = part_sites (inside s.helpers.functions.now) part;
      nodes = (part_size (sizes_in s.helpers.functions.now) part).nodes;
      width = (part_size (widths_in s.helpers.functions.now) part).nodes;
      elements = part_elements part;
    }

-- of the third part and the body of a `for`
abbrev pub round_demand : StatementContext → MaybeStmt → Stmt → Demand
round_demand s third body =
    let last = part_demand s third in
    let turn = demand_of s body in
    record {
      barriers = last.barriers + turn.barriers;
      nodes = last.nodes + turn.nodes;
      width = last.width + turn.width;
      elements = max last.elements turn.elements;
    }

-- and of the `for` without its first part
abbrev pub turns_demand : StatementContext → MaybeTerm → MaybeStmt → Stmt → Demand
turns_demand s test third body =
    let round = round_demand s third body in
    record {
      barriers = round.barriers;
      nodes = (condition_size (sizes_in s.helpers.functions.now) test).nodes + round.nodes + 1;
      width = (condition_size (widths_in s.helpers.functions.now) test).nodes + round.width + 1;
      elements = round.elements;
    }

-- There is room for what a part of a tree takes that ends there, before this code: its barriers have numbers, its nodes
-- and the loops round it are within the limit, its levels have registers, its jumps reach all with 32 bits, and its
-- arrays are no longer than one may be.
pub record HasRoom (d : Demand) (scope : Scope) (e : Ending) (code : List Instruction) : Type 0 where
  pub few : d.barriers ≤ e.behind
  pub small : e.depth + d.nodes ≤ node_limit
  pub low : free_level scope + levels d.width < 2 ^ 28
  pub short : reach e.exits code d.width < 2 ^ 32
  pub arrays : d.elements ≤ length_limit

-- The same inside of a loop that ends there, before the rest of its turn.
pub record HasRoomInLoop (d : Demand) (scope : Scope) (e : Ending) (turn : List Instruction) : Type 0 where
  pub few : d.barriers ≤ e.behind
  pub small : e.depth + d.nodes < node_limit
  pub low : free_level scope + levels d.width < 2 ^ 28
  pub short : turn_reach e.exits turn d.width < 2 ^ 32
  pub arrays : d.elements ≤ length_limit

-- the body of a loop, behind which n instructions of its turn stand
abbrev pub once_code : StatementContext → Scope → Stmt → Position → ℕ → List Instruction
once_code s scope body p n =
    stmt_code (call_code (functions_of s.helpers.functions.now)) (result_in (functions_of s.helpers.functions.now)) (inside s.helpers.functions.now) s.result scope body (p.depth + 1) p.site (body_exits (n + 1) (exits_of p.exits))

-- the body and the third part of a `for`, behind which n instructions of its turn stand; the position is that behind
-- the first part
abbrev pub round_code : StatementContext → Scope → MaybeStmt → Stmt → Position → ℕ → List Instruction
round_code s scope third body p n =
    let calls = call_code (functions_of s.helpers.functions.now) in
    let results = result_in (functions_of s.helpers.functions.now) in
    let barriers = inside s.helpers.functions.now in
    let last = part_code calls results barriers s.result scope third (p.depth + 1) p.site (body_exits (n + 1) (exits_of p.exits)) in
    let turn = stmt_code calls results barriers s.result scope body (p.depth + 1) (p.site + part_sites barriers third) (body_exits (length last + n + 1) (exits_of p.exits)) in
    turn ++ last
