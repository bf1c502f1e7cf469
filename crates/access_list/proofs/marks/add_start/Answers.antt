use Rattle.access_list.proofs.Indexed.{start_kept, start_inside}
use Rattle.access_list.proofs.marks.add_start.Goals as goal

pub returns-in-Ok-clause-kept : goal.returns-in-Ok-clause-kept
returns-in-Ok-clause-kept c = start_kept c.args.starts.now c.insert.new.self c.args.key c.requires c.in-Ok.ensures.updates.2

pub returns-in-Ok-clause-inside : goal.returns-in-Ok-clause-inside
returns-in-Ok-clause-inside c = start_inside c.args.starts.now c.insert.new.self c.args.key c.args.start c.in-Ok.ensures.updates.1 c.in-Ok.ensures.updates.2
