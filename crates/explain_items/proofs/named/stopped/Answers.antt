use Rattle.std.proofs.Common.{IfOk, subst, sym}
use Rattle.explain_items.specs.Named.{IsToldInside, site_of}
use Rattle.explain_items.proofs.named.stopped.Goals as goal

pub returns-in_ok-turns-in-At-clause-told : goal.returns-in_ok-turns-in-At-clause-told
returns-in_ok-turns-in-At-clause-told c =
    subst (λ s. IfOk c.standing.result (IsToldInside c.args.context.now c.args.played.now.marks.items (c.args.at.now.item, site_of s c.args.at.now.stand))) (sym c.in-At.is)
    c.standing.ensures.told
