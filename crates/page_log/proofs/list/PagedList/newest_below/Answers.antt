use Rattle.std.proofs.Common.{◌≡◌, ◌-◌, true, false, Some, length, refl, sym, ◌∙◌, subst, inl, inr, arith}
use Rattle.std.specs.Prelude.{slice_get}
use Rattle.std.proofs.lemmas.Bool.{cases_lt}
use Rattle.std.proofs.lemmas.Option.{slice_get_read}
use Rattle.access_list.specs.declared.log.Entry.{Entry}
use Rattle.page_log.specs.Pages.{share_page}
use Rattle.page_log.proofs.Walks.{one_at}
use Rattle.page_log.proofs.list.PagedList.newest_below.Goals as goal

pub returns-else-not-share_page : goal.returns-else-not-share_page
returns-else-not-share_page c =
    let log = c.args.self.now.entries.items in
    let k = c.loop-place.place - 1 in
    let z = c.index.result.now in
    let at : slice_get log k ≡ Some z = slice_get_read log (length log) k z refl (omega (arith, c.loop-place-test.true, c.loop-place.invariant.within, c.requires.within)) c.index.ensures in
    record {
      within = c.loop-place.invariant.within;
      such = λ i y a e.
          subst (λ (w : Entry). share_page c.args.x.now w.access ≡ true) (one_at log k i z y at e (omega (arith, a))) (sym c.share_page.ensures ∙ c.if-not-share_page.false);
      others = c.loop-place.invariant.others;
    }

pub returns-after-loop-place : goal.returns-after-loop-place
returns-after-loop-place c = record {
  within = c.loop-place.invariant.within;
  such = λ i y a e. absurd (omega (arith, a, c.loop-place-test.false));
  others = c.loop-place.invariant.others;
}

pub loop-place-preserved : goal.loop-place-preserved
loop-place-preserved c =
    let log = c.args.self.now.entries.items in
    let k = c.loop-place.place - 1 in
    let z = c.index.result.now in
    let at : slice_get log k ≡ Some z = slice_get_read log (length log) k z refl (omega (arith, c.loop-place-test.true, c.loop-place.invariant.within, c.requires.within)) c.index.ensures in
    record {
      within = omega (arith, c.loop-place.invariant.within);
      others = λ i y lo hi e.
          elim (cases_lt i c.loop-place.place) [
            | inl b ↦ subst (λ (w : Entry). share_page c.args.x.now w.access ≡ false) (one_at log k i z y at e (omega (arith, lo, b))) (sym c.share_page.ensures ∙ c.if-not-share_page.true)
            | inr b ↦ c.loop-place.invariant.others i y b hi e
          ];
    }
