use Rattle.std.proofs.Common.{◌≡◌, ◌≤◌, ◌<◌, ◌+◌, Some, ap, count_by, length, option_copied, subst, sym, ◌∙◌}
use Rattle.std.specs.Option.{IfNone, IfSome}
use Rattle.std.proofs.lemmas.Result.{IfOk-weaker}
use Rattle.fault_play.specs.PlayedOut.{MadeAccess, is_access}
use Rattle.explain_items.specs.Deeds.{IsEventAt}
use Rattle.explain_items.specs.Named.{AtAccess, IsHere, IsBefore, stand_of}
use Rattle.explain_items.specs.Spotted.{StandsInside}
use Rattle.explain_items.proofs.Numbering.{event_at}
use Rattle.explain_items.proofs.Spotting.{access_stand, access_stand_back, named_at}
use Rattle.explain_items.proofs.named.accessing.Goals as goal

pub returns-clause-told : goal.returns-clause-told
returns-clause-told c =
    let marks = c.args.played.now.marks.items in
    let same = c.as_slice-marks.ensures.value in
    let made = subst (λ xs. IfSome c.event_of-event.result (MadeAccess xs c.args.access)) same c.event_of-event.ensures.made in
    let few = subst (λ xs. IfNone c.event_of-event.result (count_by (λ mark. is_access mark.event) xs ≤ c.args.access)) same c.event_of-event.ensures.none in
    let stand = c.stand_at-stand.ensures ∙ ap (λ xs. stand_of xs c.event_of-event.result) same in
    let launch = c.args.context.now.launch.now in
    let at = option_copied c.stand_at-stand.result in
    IfOk-weaker c.named.result _ _
    (λ n h.
    named_at launch c.args.context.now.program.text.now c.args.context.now.program.first_line (λ p. (at ≡ Some p) × StandsInside launch p) (λ p. ⊥ × StandsInside launch p)
    (λ p. IsHere marks (AtAccess c.args.access) p × StandsInside launch p) (λ p. IsBefore marks c.args.item (AtAccess c.args.access) p × StandsInside launch p) c.args.item n
    (λ p h. (access_stand marks c.args.access c.event_of-event.result at made stand p h.0, h.1))
    (λ p h. (access_stand_back marks c.args.access c.event_of-event.result at made few stand p h.0, h.1)) (λ p no. no) (λ p no. no) h)
    c.named.ensures.told

pub returns-clause-event : goal.returns-clause-event
returns-clause-event c =
    let marks = c.args.played.now.marks.items in
    let same = c.as_slice-marks.ensures.value in
    let made = subst (λ xs. IfSome c.event_of-event.result (MadeAccess xs c.args.access)) same c.event_of-event.ensures.made in
    let few = subst (λ xs. IfNone c.event_of-event.result (count_by (λ mark. is_access mark.event) xs ≤ c.args.access)) same c.event_of-event.ensures.none in
    let some = subst (λ xs. IfSome c.event_of-event.result (λ number. number < length xs → c.from_one-number.result ≡ Some (number + 1))) same c.from_one-number.ensures.some in
    IfOk-weaker c.named.result _ _
    (λ n e. subst (λ x. IsEventAt marks (AtAccess c.args.access) x) (sym e) (event_at marks c.args.access c.event_of-event.result c.from_one-number.result made few some c.from_one-number.ensures.none))
    c.named.ensures.event
