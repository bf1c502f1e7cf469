use Rattle.std.proofs.Common.{◌∙◌, sym, eq-eqb}
use Rattle.std.proofs.lemmas.Bool.{false≢true}
use Rattle.shadow.proofs.Halves.{bytes_differ}
use Rattle.shadow.proofs.words.leaves_same.Goals as goal

pub returns-clause-other : goal.returns-clause-other
returns-clause-other c e =
    bytes_differ c.args.left c.args.other c.ranges.left.fits c.ranges.other.fits (λ h. false≢true (sym e ∙ eq-eqb c.args.left c.args.other h))
