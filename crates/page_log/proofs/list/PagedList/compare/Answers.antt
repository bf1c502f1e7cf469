use Rattle.std.proofs.Common.{◌≡◌, ◌+◌, ◌-◌, Some, [], ◌∷◌, length, drop, refl, sym, subst, arith}
use Rattle.std.specs.Prelude.{slice_get}
use Rattle.std.proofs.lemmas.List.{drop_all, length-drop}
use Rattle.std.proofs.lemmas.List.Sums.{count_by-le-length}
use Rattle.std.proofs.lemmas.Option.{slice_get_read}
use Rattle.access_list.specs.declared.log.Entry.{Entry}
use Rattle.page_log.specs.Pages.{share_page}
use Rattle.page_log.specs.Tally.{IsTally}
use Rattle.page_log.proofs.Walks.{skipped, stepped}
use Rattle.page_log.proofs.list.PagedList.compare.Goals as goal

pub loop-place-init : goal.loop-place-init
loop-place-init c =
    let log = c.args.self.now.entries.items in
    let x = c.args.x.now in
    let t = c.none-tally.result in
    let none : IsTally c.args.rule x [] t = c.none-tally.ensures c.args.rule x in
    record {
      within = c.newest-place.ensures.within;
      shared = c.newest-place.ensures.such;
      counted = omega (arith, none.compared, c.newest-place.ensures.within);
      walked =
          skipped c.args.rule x log t (length log) c.newest-place.result (omega arith) c.newest-place.ensures
          (subst (λ l. IsTally c.args.rule x l t) (sym (drop_all (length log) log (omega arith))) none);
    }

pub with-tally-requires-clause-shared : goal.with-tally-requires-clause-shared
with-tally-requires-clause-shared c =
    let log = c.args.self.now.entries.items in
    let i = c.loop-place.place - 1 in
    c.loop-place.invariant.shared i c.index.result.now (omega (arith, c.loop-place-test.true))
    (slice_get_read log (length log) i c.index.result.now refl (omega (arith, c.loop-place-test.true, c.loop-place.invariant.within)) c.index.ensures)

pub loop-place-preserved : goal.loop-place-preserved
loop-place-preserved c =
    let log = c.args.self.now.entries.items in
    let x = c.args.x.now in
    let i = c.loop-place.place - 1 in
    let y = c.index.result.now in
    let t = c.with-tally.result in
    let at : slice_get log i ≡ Some y = slice_get_read log (length log) i y refl (omega (arith, c.loop-place-test.true, c.loop-place.invariant.within)) c.index.ensures in
    let here : IsTally c.args.rule x (y ∷ drop (i + 1) log) t =
    c.with-tally.ensures (drop (i + 1) log)
    (subst (λ n. IsTally c.args.rule x (drop n log) c.loop-place.tally) {x = c.loop-place.place} {y = i + 1} (omega (arith, c.loop-place-test.true)) c.loop-place.invariant.walked) in
    record {
      within = omega (arith, c.older-place.ensures.within, c.loop-place.invariant.within);
      shared = c.older-place.ensures.such;
      counted =
          omega (
            arith,
            c.older-place.ensures.within,
            c.loop-place.invariant.within,
            c.loop-place-test.true,
            here.compared,
            length-drop (i + 1) log,
            count_by-le-length (λ (e : Entry). share_page x.access e.access) (y ∷ drop (i + 1) log),
          );
      walked = stepped c.args.rule x y log t i c.older-place.result at here c.older-place.ensures;
    }
