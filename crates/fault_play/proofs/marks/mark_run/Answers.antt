use Rattle.std.proofs.Common.{[], ◌∷◌, ap, sym, ◌∙◌, replicate}
use Rattle.std.proofs.lemmas.Result.{IfOk-weaker}
use Rattle.clmodel.specs.Outcome.{events_of}
use Rattle.clmodel.specs.declared.schedule.Event.TheVariants as event
use Rattle.replay.proofs.Played.{item_events}
use Rattle.replay.specs.States.{IsAt}
use Rattle.fault_play.proofs.Marking.{marked_as}
use Rattle.fault_play.proofs.marks.mark_run.Goals as goal

pub returns-in-Item : goal.returns-in-Item
returns-in-Item g c =
    IfOk-weaker c.mark_items.result _ _
    (λ answer h. λ l r s at.
    marked_as l r c.args.group_size s (replicate c.in-Item.count (event.Item c.in-Item.item)) (events_of (c.args.run ∷ [])) c.args.marks.now.items c.mark_items.new.marks.items
    (IsAt {D = g.row.D.Denot} g.D.Described.launch g.D.Runnable.started l r c.mark_items.new.player) answer (item_events c.in-Item.item c.in-Item.count ∙ ap (λ run. events_of (run ∷ [])) (sym c.in-Item.is)) (h l r s at))
    c.mark_items.ensures

pub returns-in-Release : goal.returns-in-Release
returns-in-Release g c =
    IfOk-weaker c.mark_event.result _ _
    (λ answer h. λ l r s at.
    marked_as l r c.args.group_size s (event.Release c.in-Release.group ∷ []) (events_of (c.args.run ∷ [])) c.args.marks.now.items c.mark_event.new.marks.items
    (IsAt {D = g.row.D.Denot} g.D.Described.launch g.D.Runnable.started l r c.mark_event.new.player) answer (ap (λ run. events_of (run ∷ [])) (sym c.in-Release.is)) (h l r s at))
    c.mark_event.ensures
