use Rattle.std.proofs.Common.{◌≡◌, Some, sym, subst, ◌∙◌, arith}
use Rattle.std.specs.Prelude.{slice_get}
use Rattle.std.proofs.lemmas.List.{get_or_read}
use Rattle.access_list.specs.declared.log.Entry.{Entry}
use Rattle.page_log.specs.Pages.{page_of, begins_in, IsNewest, IsOnOnePage}
use Rattle.page_log.proofs.Sharing.{one_page, shares_as_begins}
use Rattle.page_log.proofs.Walks.{linked, there_is, all_at}
use Rattle.page_log.proofs.list.PagedList.older.Goals as goal

pub returns : goal.returns
returns c =
    let l = c.args.self.now in
    let x = c.args.x.now in
    let own : IsOnOnePage x = c.is_linked.ensures.own c.if-not-is_linked.false in
    let all = l.single (c.is_linked.ensures.on_one_page c.if-not-is_linked.false) in
    let y : (y : Entry) × (slice_get l.entries.items c.args.i ≡ Some y) = there_is l.entries.items c.args.i c.requires.within in
    let e = shares_as_begins x y.0.access own (all_at (λ (y : Entry). IsOnOnePage y.access) l.entries.items c.args.i y.0 all y.1) in
    linked x (page_of y.0.access) l.entries.items c.args.i c.index.result.now own all
    (one_page (page_of y.0.access) (page_of x) (sym e ∙ c.requires.shared y.0 y.1))
    (subst (IsNewest (begins_in (page_of y.0.access)) l.entries.items c.args.i)
    (sym (get_or_read l.older.items c.args.i c.index.result.now (omega (arith, l.indexed.long, c.requires.within)) c.index.ensures 0))
    (l.indexed.older_are c.args.i y.0 y.1))
