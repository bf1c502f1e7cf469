use Rattle.std.proofs.Common.{rules, to_z, of_z, w64, ◌≡◌, ◌+◌, ◌≤◌, ap, ◌∙◌, subst}
use Rattle.std.proofs.lemmas.Option.{IfSome_then}
use Rattle.clmodel.specs.Cells.{byte_count, size_of}
use Rattle.clmodel.specs.Launch.{bytes_of, first_byte, group_of, region_of}
use Rattle.replay.proofs.player.Player.first_byte.Goals as goal

pub returns-clause-value : goal.returns-clause-value
returns-clause-value g c = λ l r s at item.
    let o = c.args.object in
    let op = c.args.operation in
    let back : to_z w64 (of_z w64 c.args.element) ≡ c.args.element = search rules in
    c.first_byte.ensures.value
    ∙ ap (λ z. first_byte c.size_of.result z c.bytes-count.result) back
    ∙ ap (λ n. first_byte n c.args.element c.bytes-count.result) (c.size_of.ensures l r s at (group_of l item))
    ∙ ap (first_byte (bytes_of l (region_of (group_of l item) o)) c.args.element) (c.bytes-count.ensures.value ∙ ap byte_count c.width.ensures)

pub returns-clause-inside : goal.returns-clause-inside
returns-clause-inside g c =
    IfSome_then c.first_byte.result c.first_byte.ensures.inside
    (λ first h. λ l r s at item.
    subst (λ z. first + size_of c.args.operation ≤ z) (c.size_of.ensures l r s at (group_of l item))
    (subst (λ z. first + z ≤ c.size_of.result) (c.bytes-count.ensures.value ∙ ap byte_count c.width.ensures) h))
