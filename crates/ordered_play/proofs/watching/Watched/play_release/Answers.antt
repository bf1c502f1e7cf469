use Rattle.std.proofs.lemmas.Result.{IfOk-weaker}
use Rattle.ordered_play.proofs.Noted.{released_too}
use Rattle.ordered_play.proofs.watching.Watched.play_release.Goals as goal

pub play_release-requires : goal.play_release-requires
play_release-requires g c = (c.requires.0, c.requires.1, c.requires.2, c.requires.3.at)

pub returns : goal.returns
returns g c =
    IfOk-weaker c.play_release.result _ _
    (λ yes h l r s is. released_too {D = g.row.D.Denot} g.D.Described.launch g.D.Runnable.started l r s c.args.group c.args.self.now c.play_release.new.self yes is (h l r s is.at))
    c.play_release.ensures.played
