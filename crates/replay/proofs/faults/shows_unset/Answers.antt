use Rattle.std.proofs.Common.{◌≡◌, ◌/◌, ◌∙◌, sym, ap, subst}
use Rattle.std.specs.Bool.{Decides}
use Rattle.std.proofs.lemmas.Bool.{false≢true}
use Rattle.std.proofs.lemmas.Result.{IfOk-weaker}
use Rattle.clmodel.specs.Launch.{location_of, region_of}
use Rattle.replay.specs.Nexts.{access_of, TellsNext}
use Rattle.replay.proofs.Showing.{never, no_unset, never_unset, unset}
use Rattle.replay.proofs.Telling.{tells}
use Rattle.replay.proofs.Playing.{is_none}
use Rattle.replay.proofs.faults.shows_unset.Goals as goal

pub returns-in_default : goal.returns-in_default
returns-in_default g c = λ r s at.
    let l = g.D.Described.launch c.args.launch.now in
    never (no_unset l s c.args.item c.args.kind c.args.location.now c.args.byte
    (subst (TellsNext access_of l s c.args.item) (is_none c.and_then.result c.in_default.not-Some) (tells access_of l s c.args.item _ _ c.and_then.ensures (c.in_ok-action.ensures.value l r s at))))

pub returns-then-not-is_of_kind : goal.returns-then-not-is_of_kind
returns-then-not-is_of_kind g c = λ r s at.
    let l = g.D.Described.launch c.args.launch.now in
    never (never_unset l s c.args.item c.args.kind c.args.location.now c.args.byte c.in-Some.next
    (subst (TellsNext access_of l s c.args.item) c.in-Some.is (tells access_of l s c.args.item _ _ c.and_then.ensures (c.in_ok-action.ensures.value l r s at))) (λ k unset. false≢true (sym c.if-not-is_of_kind.true ∙ c.is_of_kind.ensures.1 k)))

pub reads_unset-requires : goal.reads_unset-requires
reads_unset-requires g c =
    let l = g.D.Described.launch c.args.launch.now in
    let r = c.requires.0 in
    let s = c.requires.1 in
    let at = c.requires.2 in
    (l, r, s, c.in_ok-action.ensures.same l r s at, (subst (TellsNext access_of l s c.args.item) c.in-Some.is (tells access_of l s c.args.item _ _ c.and_then.ensures (c.in_ok-action.ensures.value l r s at))).0)

pub returns-then-not-reads_unset : goal.returns-then-not-reads_unset
returns-then-not-reads_unset g c = λ r s at.
    let l = g.D.Described.launch c.args.launch.now in
    never (never_unset l s c.args.item c.args.kind c.args.location.now c.args.byte c.in-Some.next
    (subst (TellsNext access_of l s c.args.item) c.in-Some.is (tells access_of l s c.args.item _ _ c.and_then.ensures (c.in_ok-action.ensures.value l r s at)))
    (λ k unset. false≢true (sym c.if-not-reads_unset.true ∙ (c.reads_unset.ensures l r s (c.in_ok-action.ensures.same l r s at)).1 unset)))

pub returns : goal.returns
returns g c =
    let l = g.D.Described.launch c.args.launch.now in
    let next = c.in-Some.next in
    IfOk-weaker c.is_at.result _ _
    (λ answer h. λ r s at. unset l s c.args.item c.args.kind c.args.location.now c.args.byte next answer
    (subst (TellsNext access_of l s c.args.item) c.in-Some.is (tells access_of l s c.args.item _ _ c.and_then.ensures (c.in_ok-action.ensures.value l r s at))) (c.is_of_kind.ensures.0 c.if-not-is_of_kind.false)
    ((c.reads_unset.ensures l r s (c.in_ok-action.ensures.same l r s at)).0 c.if-not-reads_unset.false)
    (subst (λ z. Decides answer (location_of l z ≡ c.args.location.now)) (c.region.ensures ∙ ap (λ n. region_of (c.args.item / n) next.object) c.group_size.ensures.value) h))
    c.is_at.ensures
