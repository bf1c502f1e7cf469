use Rattle.std.proofs.Common.{true, false, [], ◌∷◌, ◌++◌, refl, sym, ap, ◌∙◌, subst, inr}
use Rattle.std.proofs.lemmas.Bool.{false≢true}
use Rattle.access_list.specs.Log.{IsKept}
use Rattle.access_list.specs.declared.log.Entry.{Entry}
use Rattle.group_log.specs.Side.{TakesOf}
use Rattle.group_log.specs.Lasting.{all_of, short_of, last_of, made, LeavesOut}
use Rattle.group_log.proofs.Taking.{takes_more}
use Rattle.group_log.specs.declared.group.GroupLog.{GroupLog}
use Rattle.group_log.proofs.Shortened.{made_more, short_more, last_more, all_more, left_out_more, local_stays}
use Rattle.group_log.proofs.Telling.{noted_tells, other_tells, logged_same}
use Rattle.group_log.proofs.group.GroupLog.note_local.Goals as goal

pub invariant_of-self-2 : goal.invariant_of-self-2
invariant_of-self-2 c =
    let l : GroupLog = c.args.self.now in
    let x : Entry = c.args.entry in
    let kept : IsKept (all_of l.whole.items) x (all_of c.with-self.result.items) = inr (ap all_of c.with-self.ensures ∙ all_more l.whole.items x false) in
    record {
      one_launch = c.note_entry.ensures.uniform ∙ l.one_launch;
      local_tells = noted_tells l.local.uniform false l.local.interval l.local.kept.items (all_of l.whole.items) x l.local.uniform c.note_entry.new.self.uniform l.local.interval c.note_entry.new.self.interval
          l.local.kept.items c.note_entry.new.self.kept.items (all_of c.with-self.result.items) l.local_tells c.requires.interval
          refl refl refl c.note_entry.ensures.uniform c.note_entry.ensures.interval c.in_ok-note_entry.ensures.kept kept;
      global_tells = other_tells l.global.uniform true l.global.interval l.global.kept.items (all_of l.whole.items) (all_of c.with-self.result.items) x l.global_tells (λ e. false≢true (sym c.requires.space ∙ e)) kept;
      takes = subst (TakesOf l.global) (sym (ap (made []) c.with-self.ensures ∙ made_more [] l.whole.items (x, false))) (takes_more l.global (made [] l.whole.items) x.access l.takes);
      entries = c.pass.ensures.entries ∙ l.entries ∙ sym (ap short_of c.with-self.ensures ∙ short_more l.whole.items x false);
      has_last = c.pass.ensures.has_last ∙ sym (ap (last_of false) c.with-self.ensures ∙ last_more false l.whole.items x false);
      left_out = subst (LeavesOut []) (sym c.with-self.ensures) (left_out_more [] l.whole.items x false l.left_out (λ f. local_stays (made [] l.whole.items) x.access c.requires.space));
    }

pub returns-clause-taken : goal.returns-clause-taken
returns-clause-taken c =
    let l : GroupLog = c.args.self.now in
    logged_same (all_of c.with-self.result.items) (all_of l.whole.items ++ c.args.entry ∷ []) c.note_entry.new.self.interval l.local.interval l.global.interval l.global.interval l.global.uniform l.global.uniform
    (ap all_of c.with-self.ensures ∙ all_more l.whole.items c.args.entry false) c.note_entry.ensures.interval refl refl
