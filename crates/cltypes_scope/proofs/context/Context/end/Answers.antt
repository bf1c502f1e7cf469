use Rattle.std.proofs.Common.{nat_eq, refl, ap, ◌∙◌}
use Rattle.clmodel.specs.Typing.Context as typing
use Rattle.indexmap.proofs.CallerLemmas.{insert_entry-new}
use Rattle.cltypes_scope.specs.Names.{signature_of, ended}
use Rattle.cltypes_scope.specs.contracts.context.Context.{the_view}
use Rattle.cltypes_scope.proofs.Functions.{seen, not_before, seen_more, ended_as}
use Rattle.cltypes_scope.proofs.context.Context.end.Goals as goal

pub returns-clause-ended : goal.returns-clause-ended
returns-clause-ended c =
    let s = c.self.inside in
    let v = the_view s in
    let none = not_before v s.current s.before.entries refl (ap (λ z. typing.signature_of z.before z.current) c.self.view_is ∙ c.requires) in
    ended_as v (seen c.insert.new.self.entries) (signature_of c.replace-signature.new.dest)
    (seen_more s.before.entries c.insert.new.self.entries s.current c.replace-signature.result s.signature
    (c.in_ok-insert.ensures.entries ∙ insert_entry-new nat_eq s.before s.current c.replace-signature.result none) c.replace-signature.ensures.value)
    (ap signature_of c.replace-signature.ensures.after ∙ c.no_signature.ensures)
    ∙ ap ended c.self.view_is
