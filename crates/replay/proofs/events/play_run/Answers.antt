use Rattle.std.proofs.Common.{[], ◌∷◌, ap, sym, ◌∙◌, subst}
use Rattle.std.proofs.lemmas.Result.{IfOk-weaker}
use Rattle.clmodel.specs.Outcome.{events_of}
use Rattle.clmodel.specs.declared.schedule.Event.TheVariants as event
use Rattle.replay.specs.States.{IsAt}
use Rattle.replay.specs.Played.{ArePlayed}
use Rattle.replay.proofs.Played.{item_events, one_played}
use Rattle.replay.proofs.events.play_run.Goals as goal

pub returns-in-Item : goal.returns-in-Item
returns-in-Item g c =
    IfOk-weaker c.play_items.result _ _
    (λ answer h. λ l r s at.
    subst (λ es. ArePlayed l s es (IsAt {D = g.row.D.Denot} g.D.Described.launch g.D.Runnable.started l r c.play_items.new.player) answer)
    (item_events c.in-Item.item c.in-Item.count ∙ ap (λ run. events_of (run ∷ [])) (sym c.in-Item.is)) (h l r s at))
    c.play_items.ensures

pub returns-in-Release : goal.returns-in-Release
returns-in-Release g c =
    IfOk-weaker c.play.result _ _
    (λ answer h. λ l r s at.
    let new = IsAt {D = g.row.D.Denot} g.D.Described.launch g.D.Runnable.started l r c.play.new.self in
    subst (λ es. ArePlayed l s es new answer) (ap (λ run. events_of (run ∷ [])) (sym c.in-Release.is))
    (one_played l s (event.Release c.in-Release.group) new answer (h l r s at)))
    c.play.ensures.played
