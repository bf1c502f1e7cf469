use Rattle.std.proofs.Common.{List, subst}
use Rattle.std.proofs.lemmas.Option.{IfSome_then}
use Rattle.fault_play.specs.declared.marks.Mark.{Mark}
use Rattle.explain_reasons.specs.Between.{IsLastBetween}
use Rattle.explain_reasons.proofs.Passing.{none_passes}
use Rattle.explain_reasons.proofs.reasons.barrier_between.Goals as goal

pub returns-in-Some-clause-some : goal.returns-in-Some-clause-some
returns-in-Some-clause-some c =
    IfSome_then c.barrier_of.result c.barrier_of.ensures.some
    (λ number h. record {
      pair = c.in-Some.pair;
      known = c.in-Some.is;
      last = subst (λ (m : List Mark). IsLastBetween m c.in-Some.pair c.args.group number) c.as_slice.ensures.value h;
    })

pub returns-in-Some-clause-none : goal.returns-in-Some-clause-none
returns-in-Some-clause-none c =
    none_passes c.args.played.now c.in-Some.pair c.args.group c.as_slice.result.now c.barrier_of.result c.in-Some.is c.as_slice.ensures.value c.barrier_of.ensures.none
