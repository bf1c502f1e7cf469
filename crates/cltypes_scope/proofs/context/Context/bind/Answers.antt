use Rattle.std.proofs.Common.{ap, ◌∙◌, nat_eq}
use Rattle.clmodel.specs.Typing.Context.{bind, declared}
use Rattle.indexmap.proofs.CallerLemmas.{insert_entry-new}
use Rattle.cltypes_scope.specs.contracts.context.Context.{the_view}
use Rattle.cltypes_scope.proofs.Declaring.{undeclared}
use Rattle.cltypes_scope.proofs.context.Context.bind.Goals as goal

pub returns-clause-bound : goal.returns-clause-bound
returns-clause-bound c =
    let s = c.self.inside in
    let none = ap (λ v. declared v.inner c.args.name) c.self.view_is ∙ undeclared c.args.self.now c.args.name c.requires in
    ap (λ es. record (the_view s) { inner = es })
    (c.in_ok-insert.ensures.entries ∙ insert_entry-new nat_eq s.inner c.args.name c.args.declared none)
    ∙ ap (λ v. bind v c.args.name c.args.declared) c.self.view_is
