use Rattle.std.proofs.Common.{◌≡◌, true, ap, ◌∙◌}
use Rattle.access_list.specs.Log.{stamped, in_buffer}
use Rattle.access_list.specs.declared.log.Entry.{Entry}
use Rattle.group_log.specs.Lasting.{all_of}
use Rattle.group_log.specs.declared.group.GroupLog.{GroupLog}
use Rattle.group_log.proofs.Shortened.{log_of}
use Rattle.group_log.proofs.Telling.{stamped_global, told, noted_last}
use Rattle.group_log.proofs.group.GroupLog.judge_global.Goals as goal

pub returns : goal.returns
returns c =
    let l : GroupLog = c.args.self.now in
    let x : Entry = c.with_interval-made.result in
    let space : in_buffer x.access.region ≡ true = ap (λ (z : Entry). in_buffer z.access.region) c.with_interval-made.ensures ∙ c.requires.space in
    let same : x ≡ stamped (log_of l) c.args.entry = stamped_global (log_of l) c.args.entry x c.requires.space c.with_interval-made.ensures in
    noted_last (log_of l) (log_of c.note_global.new.self) c.args.entry x c.conflict-found.result same c.in_ok-note_global.ensures.taken
    (told l.global.uniform true l.global.interval l.global.kept.items (all_of l.whole.items) (log_of l) c.args.entry x c.conflict-found.result l.global_tells
    c.conflict-found.ensures same space (ap (λ (z : Entry). z.access.interval) c.with_interval-made.ensures))
