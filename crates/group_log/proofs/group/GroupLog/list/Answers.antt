use Rattle.group_log.proofs.Shortened.{list_stands}
use Rattle.group_log.proofs.group.GroupLog.list.Goals as goal

pub returns-clause-stands : goal.returns-clause-stands
returns-clause-stands c = list_stands c.args.self.now c.list.result c.list.ensures.entries c.list.ensures.has_last
