use Rattle.std.proofs.Common.{ap, sym, ◌∙◌}
use Rattle.std.specs.Prelude.{reverse}
use Rattle.std.proofs.lemmas.List.{reverse-reverse}
use Rattle.replay.proofs.player.Player.log.Goals as goal

pub returns : goal.returns
returns g c = λ l r s at. c.as_slice.ensures.value ∙ sym (ap reverse at.tells.logged ∙ reverse-reverse c.args.self.now.log.items)
