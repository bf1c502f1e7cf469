use Rattle.std.proofs.Common.{◌++◌, sym, ap, ◌∙◌, append_assoc, append-nil}
use Rattle.std.specs.Vec.Iter.{into_iter_items}
use Rattle.std.proofs.lemmas.List.{nil_from_length}
use Rattle.workers.specs.Results.{all_results}
use Rattle.workers.proofs.units.one_after_another.Goals as goal

pub loop-unit-preserved : goal.loop-unit-preserved
loop-unit-preserved c =
    let all = c.loop-unit.all.items in let rest = into_iter_items c.next.new.self in
    c.loop-unit.invariant ∙ ap (λ units. all ++ all_results units) c.in-Some.ensures.steps.0
    ∙ (sym (append_assoc all c.in-Some.unit.results.items (all_results rest)) ∙ ap (λ results. results ++ all_results rest) (sym c.in_ok-append.ensures.items))

pub returns : goal.returns
returns c =
    let all = c.loop-unit.all.items in let rest = into_iter_items c.loop-unit.unit-iterator in
    let none = nil_from_length rest (sym c.loop-unit.unit-iterator.rest.ok.0 ∙ c.in-None.ensures.steps.0) in
    sym (c.loop-unit.invariant ∙ (ap (λ units. all ++ all_results units) none ∙ append-nil all))
