use Rattle.std.proofs.Common.{◌≡◌, Some, length, refl, ap, option_copied, subst, ◌∙◌}
use Rattle.std.specs.Option.{IfSome}
use Rattle.std.proofs.lemmas.Option.{IfSome_then}
use Rattle.fault_play.specs.PlayedOut.{IsEventOf, IsLastEvent, acts_at}
use Rattle.explain_items.specs.Named.{IsItemStand, stand_of}
use Rattle.explain_items.specs.Spotted.{StandsInside}
use Rattle.explain_items.proofs.Spotting.{item_stand, item_stand_back, none_at}
use Rattle.explain_items.proofs.named.ended.Goals as goal

pub returns-clause-told : goal.returns-clause-told
returns-clause-told c =
    let same = c.as_slice-marks.ensures.value in
    let made = subst (λ xs. IfSome c.last_of.result (IsEventOf xs c.args.item)) same c.last_of.ensures.event in
    let last = subst (λ xs. IsLastEvent (acts_at xs c.args.item) (length xs) c.last_of.result) same c.last_of.ensures.last in
    let stand = c.stand_at-stand.ensures ∙ ap (λ xs. stand_of xs c.last_of.result) same in
    record {
      number = refl;
      ids = c.in_ok-ids.ensures;
      spotted = tt;
      unspotted = λ p no h. no.0;
      last_spotted =
          IfSome_then c.in_ok-spot.field-0 c.in_ok-spot.ensures.spotted
          (λ spot s. (s.0, (item_stand c.args.played.now.marks.items c.args.item c.last_of.result (option_copied c.stand_at-stand.result) made last stand s.0 s.1.0, s.1.1), s.2));
      last_unspotted =
          none_at c.in_ok-spot.field-0 c.args.context.now.program.text.now c.args.context.now.program.first_line
          (λ p. (option_copied c.stand_at-stand.result ≡ Some p) × StandsInside c.args.context.now.launch.now p)
          (λ p. IsItemStand c.args.played.now.marks.items c.args.item p × StandsInside c.args.context.now.launch.now p)
          (λ p h. (item_stand_back c.args.played.now.marks.items c.args.item c.last_of.result (option_copied c.stand_at-stand.result) last stand p h.0, h.1)) c.in_ok-spot.ensures.none;
    }
