use Rattle.wide_launches.proofs.Replies.{answers_wide}
use Rattle.wide_launches.proofs.launch.widen_launch.Goals as goal

pub returns : goal.returns
returns c = answers_wide c.args.code.now c.args.names.now c.args.arguments.now c.args.uniform c.widen.result c.replies_are_wide.ensures c.widen.ensures
