use Rattle.wide_launches.proofs.Replies.{replies_are_wide}
use Rattle.wide_launches.proofs.laws.replies_are_wide.Goals as goal

pub returns : goal.returns
returns c = replies_are_wide c.acts_as_the_tree.ensures c.clean_is_wide.ensures
