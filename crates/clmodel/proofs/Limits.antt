-- The limits of each device are at most the greatest ones, by what the limits keep of themselves.
use Rattle.clmodel.specs.Typing.Greatest.{AllWithinGreatest}

pub all_within : AllWithinGreatest
all_within limits = record {
  loops = limits.few_loops;
  bytes = limits.few_private_bytes;
  nodes = limits.few_nodes;
  elements = limits.few_elements;
}
