use Rattle.std.proofs.Common.{◌≡◌, false, None, sym, ap, ◌∙◌}
use Rattle.clmodel.specs.Launch.{within_group}
use Rattle.access_list.specs.Log.{stamped, in_buffer, hit}
use Rattle.access_list.specs.declared.log.Entry.{Entry}
use Rattle.group_log.specs.Lasting.{all_of}
use Rattle.group_log.specs.declared.group.GroupLog.{GroupLog}
use Rattle.group_log.proofs.Shortened.{log_of}
use Rattle.group_log.proofs.Telling.{stamped_local, none_hit, told, noted_last}
use Rattle.group_log.proofs.group.GroupLog.note_local_if_clear.Goals as goal

pub returns-in_ok-note_local : goal.returns-in_ok-note_local
returns-in_ok-note_local c =
    let l : GroupLog = c.args.self.now in
    let x : Entry = c.with_interval-entry.result in
    let space : in_buffer x.access.region ≡ false = ap (λ (z : Entry). in_buffer z.access.region) c.with_interval-entry.ensures ∙ c.requires.space in
    let same : x ≡ stamped (log_of l) c.args.entry = stamped_local (log_of l) c.args.entry x c.requires.space c.with_interval-entry.ensures in
    noted_last (log_of l) (log_of c.note_local.new.self) c.args.entry x None same c.in_ok-note_local.ensures.taken
    (told l.local.uniform false l.local.interval l.local.kept.items (all_of l.whole.items) (log_of l) c.args.entry x None l.local_tells
    (sym (none_hit (within_group l.local.uniform) x l.local.kept.items (c.look-glance.ensures.clear c.if-glance.true))) same space (ap (λ (z : Entry). z.access.interval) c.with_interval-entry.ensures)
    ∙ ap (λ u. hit (within_group u) (stamped (log_of l) c.args.entry) (all_of l.whole.items)) l.one_launch)
