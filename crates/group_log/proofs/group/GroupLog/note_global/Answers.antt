use Rattle.std.proofs.Common.{Bool, not, true, false, [], ◌∷◌, ◌++◌, if◌then◌else◌, refl, sym, ap, ◌∙◌, subst, inr}
use Rattle.std.proofs.lemmas.Bool.{false≢true}
use Rattle.group_log.proofs.Taking.{not_true}
use Rattle.access_list.specs.Log.{IsKept}
use Rattle.access_list.specs.declared.log.Entry.{Entry}
use Rattle.group_log.specs.Side.{TakesOf}
use Rattle.group_log.specs.Lasting.{all_of, short_of, last_of, made, LeavesOut}
use Rattle.group_log.specs.declared.group.GroupLog.{GroupLog}
use Rattle.group_log.proofs.Shortened.{made_more, short_more, last_more, all_more, left_out_more, absorbed_stays}
use Rattle.group_log.proofs.Telling.{noted_tells, other_tells, logged_same}
use Rattle.group_log.proofs.group.GroupLog.note_global.Goals as goal

pub invariant_of-self-2 : goal.invariant_of-self-2
invariant_of-self-2 c =
    let l : GroupLog = c.args.self.now in
    let x : Entry = c.args.entry in
    let news : Bool = not c.args.glance.look.sight.taken in
    let kept : IsKept (all_of l.whole.items) x (all_of c.with-self.result.items) = inr (ap all_of c.with-self.ensures ∙ all_more l.whole.items x news) in
    record {
      one_launch = l.one_launch ∙ sym c.note_entry.ensures.uniform;
      local_tells = other_tells l.local.uniform false l.local.interval l.local.kept.items (all_of l.whole.items) (all_of c.with-self.result.items) x l.local_tells (λ e. false≢true (sym e ∙ c.requires.space)) kept;
      global_tells = noted_tells l.global.uniform true l.global.interval l.global.kept.items (all_of l.whole.items) x l.global.uniform c.note_entry.new.self.uniform l.global.interval c.note_entry.new.self.interval
          l.global.kept.items c.note_entry.new.self.kept.items (all_of c.with-self.result.items) l.global_tells c.requires.interval
          refl refl refl c.note_entry.ensures.uniform c.note_entry.ensures.interval c.in_ok-note_entry.ensures.kept kept;
      takes = subst (TakesOf c.note_entry.new.self) (sym (ap (made []) c.with-self.ensures ∙ made_more [] l.whole.items (x, news))) (c.in_ok-note_entry.ensures.takes c.requires.space (made [] l.whole.items) l.takes);
      entries = c.note.ensures.entries ∙ ap (λ z. if news then z ++ x ∷ [] else z) (c.make_room.ensures.entries ∙ l.entries) ∙ sym (ap short_of c.with-self.ensures ∙ short_more l.whole.items x news);
      has_last = c.note.ensures.has_last ∙ sym (ap (last_of false) c.with-self.ensures ∙ last_more false l.whole.items x news);
      left_out = subst (LeavesOut []) (sym c.with-self.ensures) (left_out_more [] l.whole.items x news l.left_out (λ f. absorbed_stays (made [] l.whole.items) x.access (c.requires.taken (not_true c.args.glance.look.sight.taken f) (made [] l.whole.items) l.takes)));
    }

pub returns-clause-taken : goal.returns-clause-taken
returns-clause-taken c =
    let l : GroupLog = c.args.self.now in
    let news : Bool = not c.args.glance.look.sight.taken in
    logged_same (all_of c.with-self.result.items) (all_of l.whole.items ++ c.args.entry ∷ []) l.local.interval l.local.interval c.note_entry.new.self.interval l.global.interval c.note_entry.new.self.uniform l.global.uniform
    (ap all_of c.with-self.ensures ∙ all_more l.whole.items c.args.entry news) refl c.note_entry.ensures.interval c.note_entry.ensures.uniform
