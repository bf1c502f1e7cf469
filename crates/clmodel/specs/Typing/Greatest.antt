-- No device has limits above the greatest ones (own).
use Rattle.std.specs.Prelude.{◌≤◌}
use Rattle.limits.specs.declared.Limits.{Limits}
use Rattle.clmodel.specs.Typing.Rules.{length_limit}
use Rattle.clmodel.specs.Typing.Sizes.{loop_limit, byte_limit, node_limit}

pub record IsWithinGreatest (limits : Limits) : Type 0 where
  pub loops : limits.loops ≤ loop_limit
  pub bytes : limits.private_bytes ≤ byte_limit
  pub nodes : limits.nodes ≤ node_limit
  pub elements : limits.elements ≤ length_limit

abbrev pub AllWithinGreatest : Type 0
AllWithinGreatest = (limits : Limits) → IsWithinGreatest limits
