use Rattle.std.proofs.Common.{length, sym, subst}
use Rattle.page_log.specs.Pages.{begins_in, IsNewest}
use Rattle.page_log.proofs.Walks.{linked}
use Rattle.page_log.proofs.list.PagedList.newest.Goals as goal

pub returns : goal.returns
returns c =
    let l = c.args.self.now in
    let page = c.page_of.result in
    linked c.args.x.now page l.entries.items (length l.entries.items) c.link.result (c.is_linked.ensures.own c.if-not-is_linked.false)
    (l.single (c.is_linked.ensures.on_one_page c.if-not-is_linked.false)) c.page_of.ensures
    (subst (IsNewest (begins_in page) l.entries.items (length l.entries.items)) (sym c.link.ensures) (l.indexed.newest_are page))
