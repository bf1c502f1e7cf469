use Rattle.std.proofs.Common.{sym, subst}
use Rattle.wide_text.specs.Told.{AreAsides}
use Rattle.wide_text.proofs.Beside.{no_asides}
use Rattle.wide_text.proofs.asides.no_asides.Goals as goal

pub returns : goal.returns
returns c = subst AreAsides (sym c.new.ensures.items) no_asides
