use Rattle.std.proofs.Common.{◌-◌, ◌∙◌, sym, ap, arith}
use Rattle.std.specs.Prelude.{slice_index}
use Rattle.spaces.specs.Overlay.{copies}
use Rattle.spaces.proofs.PageTables.{copy_before, copy_from}
use Rattle.spaces.proofs.page_table.PageTable.copy_of.Goals as goal

pub returns-then-page-self : goal.returns-then-page-self
returns-then-page-self c =
    sym (copy_before c.self.inside.first c.self.inside.row.items c.args.page c.if-page-self.true) ∙ ap (λ z. copies z c.args.page) c.self.view_is

pub returns-in-None : goal.returns-in-None
returns-in-None c =
    c.in-None.ensures.lookup.4 (omega arith) 0
    ∙ ap (λ z. slice_index z (c.args.page - c.self.inside.first)) c.deref.ensures.value
    ∙ sym (copy_from c.self.inside.first c.self.inside.row.items c.args.page c.if-page-self.false)
    ∙ ap (λ z. copies z c.args.page) c.self.view_is

pub returns-in-Some : goal.returns-in-Some
returns-in-Some c =
    c.in-Some.ensures.lookup.4 (omega arith) 0
    ∙ ap (λ z. slice_index z (c.args.page - c.self.inside.first)) c.deref.ensures.value
    ∙ sym (copy_from c.self.inside.first c.self.inside.row.items c.args.page c.if-page-self.false)
    ∙ ap (λ z. copies z c.args.page) c.self.view_is
