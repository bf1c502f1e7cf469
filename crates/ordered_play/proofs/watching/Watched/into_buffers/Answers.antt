use Rattle.ordered_play.proofs.watching.Watched.into_buffers.Goals as goal

pub returns : goal.returns
returns g c = λ l r s is. c.into_buffers.ensures l r s is.at
