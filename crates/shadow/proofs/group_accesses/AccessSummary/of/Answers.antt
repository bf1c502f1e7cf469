use Rattle.std.proofs.Common.{◌<◌, ◌+◌, List, [], take, map, refl, inl, sym, subst, arith, length, rules}
use Rattle.std.specs.Prelude.{reverse}
use Rattle.std.proofs.lemmas.List.{take_all}
use Rattle.shadow.specs.Lasting.{StandsWith, TellsNews}
use Rattle.shadow.specs.Seen.{IsFootprint}
use Rattle.access_list.specs.declared.log.Entry.{Entry}
use Rattle.shadow.proofs.Listing.{take_one, accesses_one, stands_more, news_more}
use Rattle.shadow.proofs.group_accesses.AccessSummary.of.Goals as goal

pub loop-i-init : goal.loop-i-init
loop-i-init g c = record { footprint = c.new-footprint.ensures; placed = search rules; stands = inl (c.new-entries.ensures.items, refl); news = c.new-entries.ensures.items }

pub loop-i-preserved : goal.loop-i-preserved
loop-i-preserved g c =
    let whole : List Entry = (g.L.Logged.log c.args.log.now).accesses in
    let i = c.loop-i.i in
    let x : Entry = c.get-entry.result in
    let there : i < length whole = omega (arith, c.loop-i-test.true, c.len-i-end.ensures) in
    record {
      footprint = subst (IsFootprint c.add.new.self) (accesses_one whole i x there c.get-entry.ensures.value)
          (c.in_ok-has_last.ensures.added (map (λ (e : Entry). e.access) (reverse (take i whole))) c.loop-i.invariant.footprint);
      placed = c.in_ok-keep.ensures.all;
      stands = stands_more c.in_ok-has_last.has_last c.loop-i.has_last c.keep.new.entries.items c.loop-i.entries.items (take i whole) (take (i + 1) whole) x c.loop-i.invariant.stands
          (λ none. c.in_ok-has_last.ensures.news none (map (λ (e : Entry). e.access) (reverse (take i whole))) c.loop-i.invariant.footprint) c.in_ok-keep.ensures.kept
          (take_one whole i x there c.get-entry.ensures.value);
      news = news_more c.in_ok-has_last.has_last c.keep.new.entries.items c.loop-i.entries.items (take i whole) (take (i + 1) whole) x c.loop-i.invariant.news
          (λ none. c.in_ok-has_last.ensures.news none (map (λ (e : Entry). e.access) (reverse (take i whole))) c.loop-i.invariant.footprint)
          (λ told. c.in_ok-has_last.ensures.told told (map (λ (e : Entry). e.access) (reverse (take i whole))) c.loop-i.invariant.footprint) c.in_ok-keep.ensures.kept
          (take_one whole i x there c.get-entry.ensures.value);
    }

pub returns-clause-stands : goal.returns-clause-stands
returns-clause-stands g c =
    let whole : List Entry = (g.L.Logged.log c.args.log.now).accesses in
    subst (λ z. StandsWith c.loop-i.has_last z whole) (sym c.shrink_to_fit.ensures.items)
    (subst (StandsWith c.loop-i.has_last c.loop-i.entries.items) (take_all c.loop-i.i whole (omega (arith, c.loop-i-test.false, c.len-i-end.ensures))) c.loop-i.invariant.stands)

pub returns-clause-news : goal.returns-clause-news
returns-clause-news g c =
    let whole : List Entry = (g.L.Logged.log c.args.log.now).accesses in
    subst (λ z. TellsNews [] z whole) (sym c.shrink_to_fit.ensures.items)
    (subst (TellsNews [] c.loop-i.entries.items) (take_all c.loop-i.i whole (omega (arith, c.loop-i-test.false, c.len-i-end.ensures))) c.loop-i.invariant.news)
