use Rattle.replay.proofs.player.Player.into_buffers.Goals as goal

pub returns : goal.returns
returns g c = λ l r s at. at.tells.buffers_hold
