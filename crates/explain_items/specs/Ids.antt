-- The ids of a work-item in each dimension of its launch (OpenCL 1.2, sections 3.2 and 6.12.1).
use Rattle.std.specs.Prelude.{◌≡◌, ℕ, ◌<◌, pos, List, length, slice_index}
use Rattle.clnum.specs.Integer.{natural}
use Rattle.clnum.specs.Operations.{wrapped}
use Rattle.clnum.specs.declared.int_type.IntType.TheVariants as int_type
use Rattle.clmodel.specs.Setup.{work_item_value}
use Rattle.clmodel.specs.declared.setup.Range.{Range}
use Rattle.clmodel.specs.declared.setup.WorkItemFunction.{WorkItemFunction}
use Rattle.clmodel.specs.declared.setup.WorkItemFunction.TheVariants as work_item
use Rattle.explanation.specs.declared.told.Ids.{Ids}

-- the number that a work-item function gives the item in a dimension, which is a ulong
abbrev pub id_in : Range → ℕ → WorkItemFunction → ℕ → ℕ
id_in range item function dimension = natural ((wrapped int_type.Ulong (pos (work_item_value range item function dimension))).number)

-- the numbers that a work-item function gives the item in the dimensions that the launch has
pub record AreIn (range : Range) (item : ℕ) (function : WorkItemFunction) (numbers : List ℕ) : Type 0 where
  pub each : length numbers ≡ length range.global
  pub values : (dimension : ℕ) → dimension < length range.global → slice_index numbers dimension ≡ id_in range item function dimension

pub record AreIds (range : Range) (item : ℕ) (ids : Ids) : Type 0 where
  pub global_ids : AreIn range item work_item.GlobalId ids.global.items
  pub local_ids : AreIn range item work_item.LocalId ids.local.items
  pub group_ids : AreIn range item work_item.GroupId ids.group.items
