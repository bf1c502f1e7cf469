use Rattle.group_join.proofs.Merged.{adds_all}
use Rattle.group_join.proofs.cutting.add_all.Goals as goal

pub returns : goal.returns
returns c = adds_all c.extend_from_slice.result c.args.runs.now.items c.args.more.now c.extend_from_slice.new.self.items c.requires c.extend_from_slice.ensures.items
