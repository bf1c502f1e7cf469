use Rattle.std.proofs.Common.{rules, to_z, of_z, w64, ◌≡◌, sym, ap, ◌∙◌}
use Rattle.clmodel.specs.Run.{byte_at}
use Rattle.replay.proofs.Showing.{never, same_byte, reads_byte, reads_none}
use Rattle.replay.proofs.faults.reads_unset.Goals as goal

pub unset_byte-requires : goal.unset_byte-requires
unset_byte-requires g c =
    (c.requires.0, c.requires.1, c.requires.2, c.requires.3, c.requires.4, c.in-Some.ensures.inside c.requires.0 c.requires.1 c.requires.2 c.requires.3 c.args.item)

pub returns-in-Some : goal.returns-in-Some
returns-in-Some g c = λ l r s at.
    let next = c.args.next in
    let back : to_z w64 (of_z w64 next.element) ≡ next.element = search rules in
    reads_byte l s c.args.item next c.args.byte c.in-Some.first c.unset_byte.result c.eq.result
    (ap (λ z. byte_at l c.args.item next.object z next.operation) (sym back) ∙ sym (c.in-Some.ensures.value l r s at c.args.item))
    (sym c.reads.ensures ∙ c.if-not-reads.false) (c.unset_byte.ensures l r s at) (same_byte c.unset_byte.result c.args.byte c.eq.result c.eq.ensures)

pub returns-in-None : goal.returns-in-None
returns-in-None g c = λ l r s at.
    let next = c.args.next in
    let back : to_z w64 (of_z w64 next.element) ≡ next.element = search rules in
    never (reads_none l s c.args.item next c.args.byte
    (ap (λ z. byte_at l c.args.item next.object z next.operation) (sym back) ∙ sym (c.first_byte.ensures.value l r s at c.args.item) ∙ c.in-None.is))
