use Rattle.std.proofs.Common.{◌≡◌, IfOk, Some, subst}
use Rattle.explain_items.specs.Spotted.{IsNamedInside}
use Rattle.explain_items.proofs.named.standing.Goals as goal

pub returns-clause-told : goal.returns-clause-told
returns-clause-told c =
    subst
    (λ o. IfOk c.named.result
    (IsNamedInside c.args.context.now.launch.now c.args.context.now.program.text.now c.args.context.now.program.first_line (λ s. o ≡ Some s) (λ _. ⊥) c.args.standing.now.item))
    c.as_ref.ensures.value c.named.ensures.told
