use Rattle.shortening.specs.Searches.{Advances}
use Rattle.shortening.proofs.releases.drop_releases.Given as goal

abbrev pub invariant-loop-one : goal.invariant-loop-one
invariant-loop-one g l = Advances g.J.Judge.leads g.J.Judge.judged l.fn.judge l.judge l.fn.search l.search
