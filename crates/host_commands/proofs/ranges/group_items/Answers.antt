use Rattle.std.proofs.Common.{◌<◌, arith}
use Rattle.clmodel.specs.Setup.{group_items}
use Rattle.host_commands.proofs.Sizes.{Sizes, sizes}
use Rattle.host_commands.proofs.ranges.group_items.Goals as goal

pub returns-clause-positive : goal.returns-clause-positive
returns-clause-positive c = let s : Sizes c.args.limits.now c.args.range.now = sizes c.args.limits.now c.args.range.now c.requires in let p : 0 < group_items c.args.range.now = s.positive in omega (arith, c.product.ensures)

pub returns-clause-sized : goal.returns-clause-sized
returns-clause-sized c = (sizes c.args.limits.now c.args.range.now c.requires).sized
