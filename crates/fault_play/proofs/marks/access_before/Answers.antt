use Rattle.std.proofs.lemmas.Option.{IfSome_then}
use Rattle.std.proofs.lemmas.Result.{IfOk-weaker}
use Rattle.fault_play.proofs.Counted.{about_item}
use Rattle.fault_play.proofs.marks.access_before.Goals as goal

pub returns-in-Item-clause-about : goal.returns-in-Item-clause-about
returns-in-Item-clause-about g c =
    IfOk-weaker c.pending_access.result _ _
    (λ found h. λ l r s at. IfSome_then found (h l r s at) (λ access next. about_item l s c.args.event c.in-Item.item access c.in-Item.is next))
    c.pending_access.ensures.next
