use Rattle.std.proofs.Common.{sym, ◌∙◌, None}
use Rattle.clmodel.specs.Cells.{lowest_unset, size_of}
use Rattle.clmodel.specs.Launch.{group_of, region_of}
use Rattle.clmodel.proofs.Steps.{if_true, if_false}
use Rattle.ordered_play.proofs.stepping.unset_of.Goals as goal

pub unset_byte-requires : goal.unset_byte-requires
unset_byte-requires g c =
    let l = g.D.Described.launch c.args.launch.now in
    let r = g.D.Runnable.started c.args.launch.now in
    (l, r, c.requires.0, c.requires.1.at, c.requires.2, c.requires.3)

pub returns-then-reads : goal.returns-then-reads
returns-then-reads g c = λ s at.
    let l = g.D.Described.launch c.args.launch.now in
    let r = g.D.Runnable.started c.args.launch.now in
    c.unset_byte.ensures l r s at.at
    ∙ sym (if_true _ (lowest_unset (s.memory (region_of (group_of l c.args.item) c.args.object)) c.args.first (size_of c.args.operation)) None (sym c.reads.ensures ∙ c.if-reads.true))

pub returns-else-reads : goal.returns-else-reads
returns-else-reads g c = λ s at.
    let l = g.D.Described.launch c.args.launch.now in
    sym (if_false _ (lowest_unset (s.memory (region_of (group_of l c.args.item) c.args.object)) c.args.first (size_of c.args.operation)) None (sym c.reads.ensures ∙ c.if-reads.false))
