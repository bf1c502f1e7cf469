-- Sizes up to one more than the greatest limits of a kernel, and what a table of them stands for.
use Rattle.std.specs.Prelude.{◌≡◌, ℕ, suc, min, List, map, Option, None, Some, option_map, nat_eq, Box}
use Rattle.std.specs.Map.{lookup}
use Rattle.std.specs.declared.alloc.Global.{Global}
use Rattle.clmodel.specs.declared.tree.Statement.{Statement}
use Rattle.clmodel.specs.Tree.{Stmts, NoStmt, then_stmts, stmt, Funcs}
use Rattle.clmodel.specs.Typing.Sizes as counted
use Rattle.clmodel.specs.Typing.Sizes.{Sizes, loop_limit, byte_limit, node_limit, nothing, size, sizes_of}
use Rattle.cltypes.specs.declared.size.Size.{Size}

-- numbers above the greatest limits are one more than these
abbrev pub capped : counted.Size → Size
capped s = record { loops = min s.loops (suc loop_limit); bytes = min s.bytes (suc byte_limit); nodes = min s.nodes (suc node_limit) }

abbrev pub plain : Size → counted.Size
plain s = record { loops = s.loops; bytes = s.bytes; nodes = s.nodes }

abbrev pub plain_entry : ℕ × Size → ℕ × counted.Size
plain_entry e = (e.0, plain e.1)

-- a table has the functions of a text, each with its size up to the greatest limits
abbrev pub IsSummary : Sizes → Funcs → Type 0
IsSummary table fs = (x : ℕ) → option_map capped (lookup (nat_eq x) table) ≡ option_map capped (lookup (nat_eq x) (sizes_of fs))

-- statements, the first of a list first
abbrev pub statements : List Statement → Stmts
statements ss = then_stmts NoStmt (map stmt ss)

-- the size of a statement that may be left out
abbrev pub held_size : Sizes → Option (Box Statement Global) → counted.Size
held_size sizes None = nothing
held_size sizes (Some s) = size sizes (stmt s.value)
