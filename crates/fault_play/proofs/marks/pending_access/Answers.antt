use Rattle.std.proofs.Common.{rules, to_z, of_z, w64, ◌≡◌, refl, sym, ap, ◌∙◌, subst}
use Rattle.clmodel.specs.Run.{byte_at}
use Rattle.replay.specs.States.{ActsNext}
use Rattle.fault_play.proofs.marks.pending_access.Goals as goal

pub returns-clause-next : goal.returns-clause-next
returns-clause-next g c = λ l r s at.
    let k = c.args.item in
    let o = c.in-Some-Access.object in
    let op = c.in-Some-Access.operation in
    let element = c.in-Some-Access.element in
    let back : to_z w64 (of_z w64 element) ≡ element = search rules in
    let next = subst (ActsNext l s k) c.in-Some-Access.is (c.in_ok-object.ensures.value l r s at) in
    let stays = c.action.ensures.same l r s at in
    record {
      by_item = refl;
      inside = (next.0, c.in-Some.ensures.inside l r s stays k);
      element = element;
      acts = next.1 ∙ c.in-Some-Access.field-0-is;
      begins = ap (λ z. byte_at l k o z op) (sym back) ∙ sym (c.first_byte.ensures.value l r s stays k) ∙ c.in-Some.is;
    }
