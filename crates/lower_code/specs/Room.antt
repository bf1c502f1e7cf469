-- The levels of registers that statements need, and how far their code reaches (own).
use Rattle.std.specs.Prelude.{◌≡◌, ℕ, ◌+◌, ◌*◌, ◌<◌, ◌≤◌, Option, None, Some, List, length, get_or}
use Rattle.clmodel.specs.Typing.Rules.{length_limit}
use Rattle.clmodel.specs.Typing.Sizes.{parameter_limit}
use Rattle.clmodel.specs.declared.tree.Function.{Function}
use Rattle.regcode.specs.declared.instruction.Instruction.{Instruction}
use Rattle.lower_code.specs.Trees.{all_of}
use Rattle.lower_code.specs.Variables.{row_elements}
use Rattle.lower_code.specs.declared.assignments.Call.{Call}
use Rattle.lower_code.specs.declared.positions.Exits.{Exits}

-- How many levels above the first that is free code of so many nodes needs at most, with the parameters of helpers that
-- are called among the nodes.
abbrev pub levels : ℕ → ℕ
levels nodes = 16 * nodes

-- each of these functions has no more parameters
abbrev pub FewParameters : List Function → Type 0
FewParameters functions = (i : ℕ) (f : Function) → i < length functions → f ≡ get_or functions i f → length f.parameters.items ≤ parameter_limit

-- and no array of more elements than one may have
abbrev pub FewElements : List Function → Type 0
FewElements functions = (i : ℕ) (f : Function) → i < length functions → f ≡ get_or functions i f → row_elements (all_of f.body.items) ≤ length_limit

-- the level of the first argument of a helper that is called
abbrev pub called_level : Option Call → ℕ
called_level None = 0
called_level (Some c) = c.level.0

-- How many instructions code of so many nodes has at most, with the parameters of helpers that are called among the
-- nodes.
abbrev pub instructions : ℕ → ℕ
instructions nodes = 16 * nodes

-- The exits of code that is put before other code, with the length of that and what code of so many nodes adds at most:
-- it grows by its length, and so does each of the three exits that what stands before it has.
abbrev pub reach : Exits → List Instruction → ℕ → ℕ
reach exits code nodes = exits.broken + exits.continued + exits.returned + length code + 4 * instructions nodes

-- and those of a part of a loop that is put before the rest of a turn: it is broken and continued in the loop
abbrev pub turn_reach : Exits → List Instruction → ℕ → ℕ
turn_reach exits turn nodes = 2 * (length turn + 1) + exits.returned + length turn + 4 * instructions nodes
