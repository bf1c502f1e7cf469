use Rattle.shortening.specs.Searches.{Advances}
use Rattle.shortening.proofs.releases.drop_releases_of.Given as goal

abbrev pub invariant-loop-place : goal.invariant-loop-place
invariant-loop-place g l = Advances g.J.Judge.leads g.J.Judge.judged l.fn.judge l.judge l.fn.search l.search
