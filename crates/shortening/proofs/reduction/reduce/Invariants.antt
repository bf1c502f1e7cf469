use Rattle.shortening.specs.Searches.{Advances}
use Rattle.shortening.proofs.reduction.reduce.Given as goal

abbrev pub invariant-loop : goal.invariant-loop
invariant-loop g l = Advances g.J.Judge.leads g.J.Judge.judged l.fn.judge l.judge l.fn.search l.search
