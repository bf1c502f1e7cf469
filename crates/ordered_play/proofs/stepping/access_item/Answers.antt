use Rattle.std.proofs.Common.{rules, to_z, of_z, w64, ◌≡◌, ◌/◌, ◌∙◌, ap, sym, subst, None, Some}
use Rattle.std.proofs.lemmas.Result.{IfOk-weaker}
use Rattle.clmodel.specs.Launch.{location_of, region_of, kind_of}
use Rattle.clmodel.specs.Run.{byte_at}
use Rattle.clmodel.specs.declared.fault.Fault.TheVariants as fault
use Rattle.ordered_play.specs.Watched.{IsWatched}
use Rattle.replay.proofs.Playing.{is_none}
use Rattle.ordered_runs.specs.Ordered.{newest_race}
use Rattle.ordered_play.specs.Stepping.{CannotGo}
use Rattle.ordered_play.proofs.Accesses.{out_of_range, reads_unset, never_refused, was_made, lies, made_judged}
use Rattle.ordered_play.proofs.Noted.{made_of, unmade_of}
use Rattle.ordered_play.proofs.stepping.access_item.Goals as goal

pub unset_of-requires : goal.unset_of-requires
unset_of-requires g c =
    let l = g.D.Described.launch c.args.launch.now in
    let r = g.D.Runnable.started c.args.launch.now in
    (c.requires.0, c.requires.1, c.requires.2, c.in-Some.ensures.inside l r c.requires.0 c.requires.1.at c.args.item)

pub play_item-requires : goal.play_item-requires
play_item-requires g c = (g.D.Described.launch c.args.launch.now, g.D.Runnable.started c.args.launch.now, c.requires.0, c.requires.1)

pub returns-in_default : goal.returns-in_default
returns-in_default g c = λ s at acts.
    let l = g.D.Described.launch c.args.launch.now in
    let r = g.D.Runnable.started c.args.launch.now in
    let k = c.args.item in
    let o = c.args.object in
    let op = c.args.operation in
    let back : to_z w64 (of_z w64 c.args.element) ≡ c.args.element = search rules in
    let none : byte_at l k o c.args.element op ≡ None
    = ap (λ z. byte_at l k o z op) (sym back) ∙ sym (c.first_byte.ensures.value l r s at.at k) ∙ is_none c.first_byte.result c.in_default.not-Some in
    let told =
    c.into_inner.ensures ∙ c.in_ok-fault.ensures
    ∙ ap (λ z. fault.Bounds k z (location_of l (region_of (k / c.group_size.result) o)) (to_z w64 (of_z w64 c.args.element))) c.kind-kind.ensures
    ∙ ap (λ n. fault.Bounds k (kind_of op) (location_of l (region_of (k / n) o)) (to_z w64 (of_z w64 c.args.element))) c.group_size.ensures.value
    ∙ ap (fault.Bounds k (kind_of op) (location_of l (region_of (k / l.group_size) o))) back in
    (subst (CannotGo l s k) (sym told) (out_of_range l s k o c.args.element op c.requires.2 acts none), at)

pub returns-in-Some-unset_of : goal.returns-in-Some-unset_of
returns-in-Some-unset_of g c = λ s at acts.
    let l = g.D.Described.launch c.args.launch.now in
    let r = g.D.Runnable.started c.args.launch.now in
    let k = c.args.item in
    let o = c.args.object in
    let op = c.args.operation in
    let back : to_z w64 (of_z w64 c.args.element) ≡ c.args.element = search rules in
    let placed : byte_at l k o c.args.element op ≡ Some c.in-Some.first
    = ap (λ z. byte_at l k o z op) (sym back) ∙ sym (c.first_byte.ensures.value l r s at.at k) ∙ c.in-Some.is in
    let unset = sym (c.unset_of.ensures s at) ∙ c.in-Some-unset_of.is in
    let told =
    c.into_inner-in-Some-unset_of.ensures ∙ c.in_ok-unset.ensures
    ∙ ap (λ z. fault.Unset k z (location_of l (region_of (k / c.group_size.result) o)) c.in-Some-unset_of.byte) c.kind-kind.ensures
    ∙ ap (λ n. fault.Unset k (kind_of op) (location_of l (region_of (k / n) o)) c.in-Some-unset_of.byte) c.group_size.ensures.value in
    (subst (CannotGo l s k) (sym told) (reads_unset l s k o c.args.element op c.requires.2 acts c.in-Some.first c.in-Some-unset_of.byte placed unset), at)

pub judge-requires-clause-at : goal.judge-requires-clause-at
judge-requires-clause-at g c =
    let l = g.D.Described.launch c.args.launch.now in
    let r = g.D.Runnable.started c.args.launch.now in
    let k = c.args.item in
    let o = c.args.object in
    let op = c.args.operation in
    let s = c.requires.0 in
    let at = c.requires.1 in
    let back : to_z w64 (of_z w64 c.args.element) ≡ c.args.element = search rules in
    let placed : byte_at l k o c.args.element op ≡ Some c.in-Some.first
    = ap (λ z. byte_at l k o z op) (sym back) ∙ sym (c.first_byte.ensures.value l r s at.at k) ∙ c.in-Some.is in
    let none = sym (c.unset_of.ensures s at) ∙ is_none c.unset_of.result c.in_default-unset_of.not-Some in
    let p = made_of l s k (IsWatched {D = g.row.D.Denot} g.D.Described.launch g.D.Runnable.started l r c.play_item.new.self) c.in_ok-quiet.field-0 c.in-Some-2.quiet c.in-Some-2.is (c.in_ok-quiet.ensures l r s (sym c.uniform.ensures) (ap (λ n. k / n) (sym c.group_size.ensures.value)) at) in
    (p.0, p.2, lies l s k o c.args.element op c.requires.2 c.requires.3 c.in-Some.first p.0 placed none p.1 c.in-Some.ensures.small)

pub unreachable-requires : goal.unreachable-requires
unreachable-requires g c =
    let l = g.D.Described.launch c.args.launch.now in
    let r = g.D.Runnable.started c.args.launch.now in
    let k = c.args.item in
    let o = c.args.object in
    let op = c.args.operation in
    let s = c.requires.0 in
    let at = c.requires.1 in
    let back : to_z w64 (of_z w64 c.args.element) ≡ c.args.element = search rules in
    let placed : byte_at l k o c.args.element op ≡ Some c.in-Some.first
    = ap (λ z. byte_at l k o z op) (sym back) ∙ sym (c.first_byte.ensures.value l r s at.at k) ∙ c.in-Some.is in
    let none = sym (c.unset_of.ensures s at) ∙ is_none c.unset_of.result c.in_default-unset_of.not-Some in
    never_refused l s k o c.args.element op c.requires.2 c.requires.3 c.in-Some.first placed none
    (unmade_of l s k (IsWatched {D = g.row.D.Denot} g.D.Described.launch g.D.Runnable.started l r c.play_item.new.self) c.in_ok-quiet.field-0 c.in-None.is (c.in_ok-quiet.ensures l r s (sym c.uniform.ensures) (ap (λ n. k / n) (sym c.group_size.ensures.value)) at))

pub returns : goal.returns
returns g c =
    let l = g.D.Described.launch c.args.launch.now in
    let r = g.D.Runnable.started c.args.launch.now in
    let k = c.args.item in
    let o = c.args.object in
    let op = c.args.operation in
    let back : to_z w64 (of_z w64 c.args.element) ≡ c.args.element = search rules in
    let new = IsWatched {D = g.row.D.Denot} g.D.Described.launch g.D.Runnable.started l r c.play_item.new.self in
    IfOk-weaker c.judge.result _ _
    (λ x h. λ s at acts.
    let placed : byte_at l k o c.args.element op ≡ Some c.in-Some.first
    = ap (λ z. byte_at l k o z op) (sym back) ∙ sym (c.first_byte.ensures.value l r s at.at k) ∙ c.in-Some.is in
    let none = sym (c.unset_of.ensures s at) ∙ is_none c.unset_of.result c.in_default-unset_of.not-Some in
    let p = made_of l s k new c.in_ok-quiet.field-0 c.in-Some-2.quiet c.in-Some-2.is (c.in_ok-quiet.ensures l r s (sym c.uniform.ensures) (ap (λ n. k / n) (sym c.group_size.ensures.value)) at) in
    made_judged l s k new p.0 x (was_made l s k o c.args.element op c.requires.2 acts c.in-Some.first p.0 placed none p.1) p.2 (h p.0 p.2))
    c.judge.ensures

pub judge-requires-clause-calm : goal.judge-requires-clause-calm
judge-requires-clause-calm g c = λ s at quiet.
    let l = g.D.Described.launch c.args.launch.now in
    let r = g.D.Runnable.started c.args.launch.now in
    let new = IsWatched {D = g.row.D.Denot} g.D.Described.launch g.D.Runnable.started l r c.play_item.new.self in
    let p = made_of l c.requires.0 c.args.item new c.in_ok-quiet.field-0 c.in-Some-2.quiet c.in-Some-2.is (c.in_ok-quiet.ensures l r c.requires.0 (sym c.uniform.ensures) (ap (λ n. c.args.item / n) (sym c.group_size.ensures.value)) c.requires.1) in
    ap (newest_race l) (at.at.tells.logged ∙ sym p.2.at.tells.logged) ∙ p.3 quiet
