-- By the law.
use Rattle.clsyntax.proofs.SourceLaws as laws
use Rattle.clsyntax.proofs.one_source.Goals as goal

pub returns : goal.returns
returns c = laws.one_source
