use Rattle.std.proofs.Common.{true, false, [], sym, ap, ◌∙◌, subst}
use Rattle.group_log.specs.Lasting.{all_of, short_of, last_of, made, LeavesOut}
use Rattle.group_log.proofs.Shortened.{none_left_out}
use Rattle.group_log.proofs.Telling.{tells_new}
use Rattle.group_log.proofs.group.GroupLog.clear.Goals as goal

pub invariant_of-self : goal.invariant_of-self
invariant_of-self c =
    let local = c.clear.new.self in
    let global = c.clear-2.new.self in
    let lasting = c.clear-3.new.self in
    let whole = c.new-self.result in
    record {
      one_launch = c.clear.ensures.uniform ∙ c.args.self.now.one_launch ∙ sym c.clear-2.ensures.uniform;
      local_tells = tells_new local.uniform false local.interval local.kept.items (all_of whole.items) c.clear.ensures.interval c.clear.ensures.kept (ap all_of c.new-self.ensures);
      global_tells = tells_new global.uniform true global.interval global.kept.items (all_of whole.items) c.clear-2.ensures.interval c.clear-2.ensures.kept (ap all_of c.new-self.ensures);
      takes = c.clear-2.ensures.takes (made [] whole.items);
      entries = c.clear-3.ensures.entries ∙ sym (ap short_of c.new-self.ensures);
      has_last = c.clear-3.ensures.has_last ∙ sym (ap (last_of false) c.new-self.ensures);
      left_out = subst (LeavesOut []) (sym c.new-self.ensures) none_left_out;
    }
