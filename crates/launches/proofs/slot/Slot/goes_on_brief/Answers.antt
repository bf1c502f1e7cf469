use Rattle.std.proofs.Common.{[], sym, ap, subst, ◌∙◌}
use Rattle.item_step.proofs.Going.{arrives_on}
use Rattle.launches.specs.Items.{acts_of, Runs}
use Rattle.launches.proofs.slot.Slot.goes_on_brief.Goals as goal

pub returns-in_default-action : goal.returns-in_default-action
returns-in_default-action c =
    record {
      action = λ launch item. c.next_brief-action.ensures.action ∙ sym (ap (λ slot. acts_of launch item slot []) c.in-Running.is);
      same = λ launch item answers. c.next_brief-action.ensures.same.same answers ∙ sym (ap (λ slot. acts_of launch item slot answers) c.in-Running.is);
      asked = tt;
      ended = λ e. absurd (c.in_default-action.not-End e);
      stands = c.next_brief-action.ensures.stands;
      runs = λ start answers held. arrives_on (subst (Runs start answers) c.in-Running.is held) c.next_brief-action.ensures.same;
    }
