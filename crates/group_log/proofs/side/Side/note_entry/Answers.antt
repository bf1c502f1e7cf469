use Rattle.std.proofs.Common.{refl, inl, inr}
use Rattle.std.proofs.lemmas.Result.{on_ok_weaker}
use Rattle.group_log.proofs.Taking.{takes_more}
use Rattle.group_log.proofs.side.Side.note_entry.Goals as goal

pub returns-then-glance-clause-kept : goal.returns-then-glance-clause-kept
returns-then-glance-clause-kept c = inr (refl, c.requires.told c.if-glance.true)

pub returns-then-glance-clause-takes : goal.returns-then-glance-clause-takes
returns-then-glance-clause-takes c space log takes = takes_more c.args.self.now log c.args.entry.access takes

pub returns-clause-kept : goal.returns-clause-kept
returns-clause-kept c = on_ok_weaker c.keep.result (λ e. inl e) c.keep.ensures.kept
