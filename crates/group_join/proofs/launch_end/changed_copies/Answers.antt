use Rattle.std.proofs.Common.{◌≡◌, [], ◌∷◌, ◌++◌, length, map, get_or, ap, ap₂, sym, ◌∙◌, arith}
use Rattle.std.proofs.lemmas.List.{length-map, get_or-map}
use Rattle.spaces.specs.Buffers.{bytes_in}
use Rattle.spaces.specs.Changes.{with_changes}
use Rattle.spaces.proofs.Changed.{either_done}
use Rattle.group_join.proofs.Zipped.{zipped_all, zipped_more}
use Rattle.group_join.proofs.launch_end.changed_copies.Goals as goal

pub loop-place-preserved : goal.loop-place-preserved
loop-place-preserved c =
    let bytes = bytes_in c.args.buffers.now in
    let names = c.args.names.now in
    let place = c.loop-place.place in
    let one = c.index-changes-place.result in
    let rows = map bytes names in
    let many : length rows ≡ length names = length-map names bytes in
    let row : c.bytes_in-bytes.result.now ≡ get_or rows place [] =
    c.bytes_in-bytes.ensures ∙ ap bytes c.index-names-place.is ∙ sym (get_or-map bytes names place c.index-names-place.result [] (omega arith)) in
    c.in_ok-push.ensures.items
    ∙ ap (λ z. c.loop-place.copies.items ++ z ∷ []) (c.in_ok-copy_over.ensures ∙ ap₂ with_changes row c.index-changes-place.is)
    ∙ ap (λ zs. zs ++ with_changes (get_or rows place []) (get_or c.args.changes.now place one) ∷ []) c.loop-place.invariant
    ∙ sym (zipped_more rows c.args.changes.now place [] one (omega (arith, many)) (omega arith))

pub returns : goal.returns
returns c =
    let rows = map (bytes_in c.args.buffers.now) c.args.names.now in
    let many : length rows ≡ length c.args.names.now = length-map c.args.names.now (bytes_in c.args.buffers.now) in
    c.loop-place.invariant
    ∙ zipped_all rows c.args.changes.now c.loop-place.place (either_done (length rows) (length c.args.changes.now) c.loop-place.place (omega (arith, many)))
