use Rattle.std.proofs.Common.{sym, subst}
use Rattle.clmodel.specs.declared.schedule.EventRun.TheVariants as run
use Rattle.group_join.specs.Runs.{IsFirstOf}
use Rattle.group_join.proofs.Merged.{first_of_item}
use Rattle.group_join.proofs.cutting.first_of.Goals as goal

pub returns-in-Item : goal.returns-in-Item
returns-in-Item c =
    let size = c.min-count.result in
    subst (λ r. IsFirstOf r c.args.most (run.Item c.in-Item.item size) size) (sym c.in-Item.is)
    (subst (λ n. IsFirstOf (run.Item c.in-Item.item c.in-Item.count) c.args.most (run.Item c.in-Item.item n) n) (sym c.min-count.ensures)
    (first_of_item c.in-Item.item c.in-Item.count c.args.most c.requires))
