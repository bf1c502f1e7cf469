use Rattle.std.proofs.Common.{rules, to_z, of_z, w64, ◌≡◌, sym, ap, ◌∙◌, subst}
use Rattle.std.proofs.lemmas.Result.{IfOk-weaker, on_err_weaker}
use Rattle.clmodel.specs.declared.action.Action.TheVariants.{Access}
use Rattle.replay.specs.States.{ActsNext}
use Rattle.replay.proofs.Playing.{no_item, no_event, is_none}
use Rattle.replay.proofs.player.Player.play_item.Goals as goal

pub returns-in_default-clause-played : goal.returns-in_default-clause-played
returns-in_default-clause-played g c = λ l r s at. (
  no_item l s c.args.item (subst (ActsNext l s c.args.item) (is_none c.in_ok-action.field-0 c.in_default.not-Some) (c.in_ok-action.ensures.value l r s at)),
  c.action.ensures.same l r s at,
)

pub returns-in_default-action-clause-played : goal.returns-in_default-action-clause-played
returns-in_default-action-clause-played g c = λ l r s at. (
  no_event l s c.args.item c.in-Some.action (subst (ActsNext l s c.args.item) c.in-Some.is (c.in_ok-action.ensures.value l r s at)).1 c.in_default-action.not-Access,
  c.action.ensures.same l r s at,
)

pub access-requires-clause-at : goal.access-requires-clause-at
access-requires-clause-at g c =
    let l = c.requires.0 in
    let r = c.requires.1 in
    let s = c.requires.2 in
    let at = c.requires.3 in
    (l, r, s, c.action.ensures.same l r s at, (subst (ActsNext l s c.args.item) c.in-Some.is (c.in_ok-action.ensures.value l r s at)).0)

pub returns-clause-played : goal.returns-clause-played
returns-clause-played g c =
    let k = c.args.item in
    let back : to_z w64 (of_z w64 c.in-Access.element) ≡ c.in-Access.element = search rules in
    IfOk-weaker c.access.result _ _
    (λ yes h. λ l r s at. h l r s (c.action.ensures.same l r s at)
    ((subst (ActsNext l s k) c.in-Some.is (c.in_ok-action.ensures.value l r s at)).1 ∙ c.in-Access.is ∙ ap (λ z. Access c.in-Access.object z c.in-Access.operation) (sym back)))
    c.access.ensures.played

pub returns-clause-same : goal.returns-clause-same
returns-clause-same g c = on_err_weaker c.access.result (λ h. λ l r s at. h l r s (c.action.ensures.same l r s at)) c.access.ensures.same
