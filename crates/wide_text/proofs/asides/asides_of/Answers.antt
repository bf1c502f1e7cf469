use Rattle.std.proofs.Common.{sym, subst}
use Rattle.wide_text.specs.Told.{AreAsides}
use Rattle.wide_text.proofs.Beside.{aside_more, no_asides}
use Rattle.wide_text.proofs.asides.asides_of.Goals as goal

pub loop-deciding-init : goal.loop-deciding-init
loop-deciding-init c =
    let first = c.in_ok-push_aside.ensures in
    subst AreAsides (sym first.2) (aside_more _ first.0 (subst AreAsides (sym c.new-out.ensures.items) no_asides) first.1)

pub loop-deciding-preserved : goal.loop-deciding-preserved
loop-deciding-preserved c =
    let one = c.in_ok-push_aside-2.ensures in
    subst AreAsides (sym one.2) (aside_more c.loop-deciding.out.items one.0 c.loop-deciding.invariant one.1)
