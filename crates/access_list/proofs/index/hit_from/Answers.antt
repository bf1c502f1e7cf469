use Rattle.std.proofs.Common.{sym}
use Rattle.access_list.specs.Cells.{IsMarked}
use Rattle.access_list.specs.declared.log.Entry.{Entry}
use Rattle.access_list.proofs.Indexed.{all_as, none_hit, Misses}
use Rattle.access_list.proofs.index.hit_from.Goals as goal

pub returns-then-is_clear : goal.returns-then-is_clear
returns-then-is_clear c =
    let x = c.args.x.now in
    sym (none_hit c.args.uniform x c.args.log.now c.args.from
    (λ byte. all_as (λ (y : Entry). IsMarked c.args.index.now.cells y.access) (Misses c.args.uniform x byte) (λ y m. c.is_clear.ensures c.if-is_clear.true y.access byte m) c.args.log.now c.requires.indexed.marked))
