use Rattle.std.proofs.Common.{is_some, sym, ap, ◌∙◌}
use Rattle.clmodel.specs.Typing.Context as typing
use Rattle.clmodel.specs.Typing.Context.{is_reserved}
use Rattle.cltypes_scope.proofs.Functions.{is_before, new_as}
use Rattle.cltypes_scope.proofs.context.Context.is_new.Goals as goal

pub returns-then-not-is_reserved : goal.returns-then-not-is_reserved
returns-then-not-is_reserved c =
    let v = c.args.self.now in
    let x = c.args.name in
    new_as c.is_reserved.result (is_reserved x) c.contains_key.result (is_some (typing.signature_of v.before x))
    c.is_reserved.ensures c.if-not-is_reserved.true
    (c.contains_key.ensures ∙ sym (is_before v x c.self.inside.before.entries (ap (λ z. z.before) (sym c.self.view_is))))
