use Rattle.std.proofs.Common.{◌≡◌, ℕ, ◌+◌, List, [], ◌∷◌, drop, refl, sym, ap, ◌∙◌, arith}
use Rattle.std.proofs.lemmas.List.{at_drop_all, at_drop_more}
use Rattle.std.specs.Vec.Iter.{into_iter_items}
use Rattle.spaces.specs.Tables.{Table, with_values}
use Rattle.device.proofs.launching.put_all.Goals as goal

no_names : (table : Table (List ℕ)) (values : List (List ℕ)) → with_values table [] values ≡ table
no_names table [] = refl
no_names table (value ∷ values) = refl

pub loop-name-init : goal.loop-name-init
loop-name-init c = ap (λ (values : List (List ℕ)). with_values c.args.buffers.now c.args.names.now values) c.into_iter-contents.ensures.rest

pub loop-name-preserved : goal.loop-name-preserved
loop-name-preserved c =
    let buffers = c.loop-name.buffers in
    let names = c.args.names.now in
    let place = c.loop-name.name-index in
    let name = c.name-item.result in
    let bytes = c.in-Some.bytes in
    let rest = into_iter_items c.next.new.self in
    ap (λ (table : Table (List ℕ)). with_values table (drop (place + 1) names) rest) c.replace.ensures
    ∙ ap (λ (n : List ℕ). with_values buffers (n ∷ drop (place + 1) names) (bytes ∷ rest)) c.name-item.is
    ∙ sym (at_drop_more (λ (ns : List (List ℕ)). with_values buffers ns (bytes ∷ rest)) names place name (omega arith))
    ∙ sym (ap (λ (values : List (List ℕ)). with_values buffers (drop place names) values) c.in-Some.ensures.items)
    ∙ c.loop-name.invariant

pub returns : goal.returns
returns c =
    sym (no_names c.loop-name.buffers (into_iter_items c.loop-name.contents))
    ∙ sym (at_drop_all (λ (ns : List (List ℕ)). with_values c.loop-name.buffers ns (into_iter_items c.loop-name.contents)) c.args.names.now c.loop-name.name-index (omega arith))
    ∙ c.loop-name.invariant
