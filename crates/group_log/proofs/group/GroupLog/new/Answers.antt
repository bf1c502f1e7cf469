use Rattle.std.proofs.Common.{true, false, [], sym, ap, ◌∙◌, subst}
use Rattle.group_log.specs.Lasting.{all_of, short_of, last_of, made, LeavesOut}
use Rattle.group_log.proofs.Shortened.{none_left_out}
use Rattle.group_log.proofs.Telling.{tells_new}
use Rattle.group_log.proofs.group.GroupLog.new.Goals as goal

pub invariant_of-result : goal.invariant_of-result
invariant_of-result c =
    record {
      one_launch = c.new.ensures.uniform ∙ sym c.new-2.ensures.uniform;
      local_tells = tells_new c.new.result.uniform false c.new.result.interval c.new.result.kept.items (all_of c.new-4.result.items) c.new.ensures.interval c.new.ensures.kept (ap all_of c.new-4.ensures);
      global_tells = tells_new c.new-2.result.uniform true c.new-2.result.interval c.new-2.result.kept.items (all_of c.new-4.result.items) c.new-2.ensures.interval c.new-2.ensures.kept (ap all_of c.new-4.ensures);
      takes = c.new-2.ensures.takes (made [] c.new-4.result.items);
      entries = c.new-3.ensures.entries ∙ sym (ap short_of c.new-4.ensures);
      has_last = c.new-3.ensures.has_last ∙ sym (ap (last_of false) c.new-4.ensures);
      left_out = subst (LeavesOut []) (sym c.new-4.ensures) none_left_out;
    }
