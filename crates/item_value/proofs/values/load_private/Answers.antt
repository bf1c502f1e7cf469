use Rattle.std.proofs.Common.{[], Some, ◌∙◌, subst}
use Rattle.std.proofs.lemmas.Int.{to_z-of_z}
use Rattle.std.specs.Int.{w64}
use Rattle.clnum.specs.Integer.{Integer}
use Rattle.clmodel.specs.Next.{Continuation, element_at, element_value, index_of, number}
use Rattle.regcode.specs.Machine.{entry_at}
use Rattle.item_value.specs.Arrays.{all_present}
use Rattle.register_values.specs.Leading.{RunsOnAs}
use Rattle.register_values.proofs.LeadingLaws.{leads_ok}
use Rattle.item_value.proofs.values.load_private.Goals as goal

pub returns : goal.returns
returns c after =
    let from = c.args.element in
    let elements = entry_at [] (all_present c.args.arrays.now) from.array in
    let read : Integer → Continuation = λ n. element_value from.name (index_of n) from.kind (element_at elements (index_of n)) (λ v. after (Some v)) in
    let there = to_z-of_z w64 c.index_of.result (record { sfits = c.index_of.type_inv }) ∙ c.index_of.ensures in
    rw (leads_ok _ _ _ _ c.in_ok-index.was (c.operand.ensures (λ i. number i read)) ∙ leads_ok _ _ _ _ c.in_ok-index-2.was (c.number.ensures read))
    (subst (λ es. RunsOnAs c.element_value.result (element_value from.name (index_of c.in_ok-index-2.index) from.kind (element_at es (index_of c.in_ok-index-2.index)) (λ v. after (Some v))) after) c.elements_of-elements.ensures
    (subst (λ i. RunsOnAs c.element_value.result (element_value from.name i from.kind (element_at c.elements_of-elements.result.now i) (λ v. after (Some v))) after) there
    (c.element_value.ensures after)))
