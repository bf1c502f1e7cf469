use Rattle.std.proofs.Common.{[], ◌∷◌, ◌++◌, nat_eq, is_some, map, sym, ap, ◌∙◌}
use Rattle.std.specs.Option.{option_map}
use Rattle.std.specs.Map.{lookup}
use Rattle.indexmap.proofs.CallerLemmas.{insert_entry-new}
use Rattle.clmodel.specs.Tree.{func}
use Rattle.clmodel.specs.Typing.Sizes.{row_size}
use Rattle.cltypes.specs.Limits.{capped, plain, plain_entry, statements}
use Rattle.cltypes.proofs.SizeTables.{body_size, added, there, viewed, some_viewed, none_of}
use Rattle.cltypes.proofs.summaries.Summaries.add.Goals as goal

pub returns-in_ok-insert-clause-size : goal.returns-in_ok-insert-clause-size
returns-in_ok-insert-clause-size c = λ fs h.
    c.row_size-size.ensures ∙ ap (λ ss. capped (row_size c.args.self.now (statements ss))) c.deref.ensures.value
    ∙ body_size c.args.self.now fs (func c.args.function.now) h

pub returns-else-not-contains_key-clause-size : goal.returns-else-not-contains_key-clause-size
returns-else-not-contains_key-clause-size c = λ fs h.
    c.row_size-size.ensures ∙ ap (λ ss. capped (row_size c.args.self.now (statements ss))) c.deref.ensures.value
    ∙ body_size c.args.self.now fs (func c.args.function.now) h

pub returns-in_ok-insert-clause-added : goal.returns-in_ok-insert-clause-added
returns-in_ok-insert-clause-added c = λ fs h x.
    let s = c.self.inside.sizes in
    let name = c.args.function.now.name in
    let size = c.row_size-size.result in
    let none = none_of (lookup (nat_eq name) s.entries) c.contains_key.result c.contains_key.ensures c.if-not-contains_key.true in
    let now = ap (map plain_entry) (c.in_ok-insert.ensures.entries ∙ insert_entry-new nat_eq s name size none)
    ∙ viewed s.entries name size ∙ ap (λ v. v ++ (name, plain size) ∷ []) c.self.view_is in
    let sized = c.row_size-size.ensures ∙ ap (λ ss. capped (row_size c.args.self.now (statements ss))) c.deref.ensures.value
    ∙ body_size c.args.self.now fs (func c.args.function.now) h in
    ap (λ v. option_map capped (lookup (nat_eq x) v)) now ∙ added c.args.self.now fs (func c.args.function.now) size h sized x

pub returns-else-not-contains_key-clause-added : goal.returns-else-not-contains_key-clause-added
returns-else-not-contains_key-clause-added c = λ fs h.
    let s = c.self.inside.sizes in
    let t = nat_eq c.args.function.now.name in
    let some = sym (ap (λ v. is_some (lookup t v)) c.self.view_is) ∙ some_viewed t s.entries
    ∙ sym c.contains_key.ensures ∙ c.if-not-contains_key.false in
    there c.args.self.now fs (func c.args.function.now) h some
