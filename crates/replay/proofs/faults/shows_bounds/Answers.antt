use Rattle.std.proofs.Common.{rules, to_z, of_z, w64, ◌≡◌, ◌/◌, ◌∙◌, sym, ap, subst}
use Rattle.std.specs.Prelude.{is_some}
use Rattle.std.specs.Bool.{Decides}
use Rattle.std.proofs.lemmas.Bool.{false≢true}
use Rattle.std.proofs.lemmas.Result.{IfOk-weaker}
use Rattle.clmodel.specs.Launch.{location_of, region_of}
use Rattle.clmodel.specs.Run.{byte_at}
use Rattle.replay.specs.Nexts.{access_of, TellsNext}
use Rattle.replay.proofs.Playing.{is_none}
use Rattle.replay.proofs.Showing.{never, no_bounds, never_bounds, bounds}
use Rattle.replay.proofs.Telling.{tells}
use Rattle.access_list.proofs.Hits.{none_if}
use Rattle.replay.proofs.faults.shows_bounds.Goals as goal

pub returns-in_default : goal.returns-in_default
returns-in_default g c = λ r s at.
    let l = g.D.Described.launch c.args.launch.now in
    never (no_bounds l s c.args.item c.args.kind c.args.location.now c.args.element
    (subst (TellsNext access_of l s c.args.item) (is_none c.and_then.result c.in_default.not-Some) (tells access_of l s c.args.item _ _ c.and_then.ensures (c.in_ok-action.ensures.value l r s at))))

pub returns-then-next-element : goal.returns-then-next-element
returns-then-next-element g c = λ r s at.
    let l = g.D.Described.launch c.args.launch.now in
    never (never_bounds l s c.args.item c.args.kind c.args.location.now c.args.element c.in-Some.next
    (subst (TellsNext access_of l s c.args.item) c.in-Some.is (tells access_of l s c.args.item _ _ c.and_then.ensures (c.in_ok-action.ensures.value l r s at))) (λ e k out. c.if-next-element.true (ap (of_z w64) e)))

pub returns-then-not-is_of_kind : goal.returns-then-not-is_of_kind
returns-then-not-is_of_kind g c = λ r s at.
    let l = g.D.Described.launch c.args.launch.now in
    never (never_bounds l s c.args.item c.args.kind c.args.location.now c.args.element c.in-Some.next
    (subst (TellsNext access_of l s c.args.item) c.in-Some.is (tells access_of l s c.args.item _ _ c.and_then.ensures (c.in_ok-action.ensures.value l r s at)))
    (λ e k out. false≢true (sym c.if-not-is_of_kind.true ∙ c.is_of_kind.ensures.1 k)))

pub returns-then-is_some : goal.returns-then-is_some
returns-then-is_some g c = λ r s at.
    let l = g.D.Described.launch c.args.launch.now in
    let next = c.in-Some.next in
    let back : to_z w64 (of_z w64 next.element) ≡ next.element = search rules in
    never (never_bounds l s c.args.item c.args.kind c.args.location.now c.args.element next
    (subst (TellsNext access_of l s c.args.item) c.in-Some.is (tells access_of l s c.args.item _ _ c.and_then.ensures (c.in_ok-action.ensures.value l r s at)))
    (λ e k out. false≢true
    (ap is_some (sym (c.first_byte-first.ensures.value l r s (c.in_ok-action.ensures.same l r s at) c.args.item ∙ ap (λ z. byte_at l c.args.item next.object z next.operation) back ∙ out))
    ∙ sym c.is_some.ensures ∙ c.if-is_some.true)))

pub returns : goal.returns
returns g c =
    let l = g.D.Described.launch c.args.launch.now in
    let next = c.in-Some.next in
    let back : to_z w64 (of_z w64 next.element) ≡ next.element = search rules in
    let told : to_z w64 (of_z w64 c.args.element) ≡ c.args.element = search rules in
    IfOk-weaker c.is_at.result _ _
    (λ answer h. λ r s at. bounds l s c.args.item c.args.kind c.args.location.now c.args.element next answer
    (subst (TellsNext access_of l s c.args.item) c.in-Some.is (tells access_of l s c.args.item _ _ c.and_then.ensures (c.in_ok-action.ensures.value l r s at))) (sym back ∙ ap (to_z w64) c.if-next-element.false ∙ told) (c.is_of_kind.ensures.0 c.if-not-is_of_kind.false)
    (ap (λ z. byte_at l c.args.item next.object z next.operation) (sym back) ∙ sym (c.first_byte-first.ensures.value l r s (c.in_ok-action.ensures.same l r s at) c.args.item)
    ∙ none_if c.first_byte-first.result (sym c.is_some.ensures ∙ c.if-is_some.false))
    (subst (λ z. Decides answer (location_of l z ≡ c.args.location.now)) (c.region.ensures ∙ ap (λ n. region_of (c.args.item / n) next.object) c.group_size.ensures.value) h))
    c.is_at.ensures
