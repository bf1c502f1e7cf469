use Rattle.group_log.proofs.Shortened.{log_stands}
use Rattle.group_log.proofs.group.GroupLog.stands.Goals as goal

pub returns : goal.returns
returns c = log_stands c.args.self.now
