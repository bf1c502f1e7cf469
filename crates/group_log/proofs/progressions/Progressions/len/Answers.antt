use Rattle.std.proofs.Common.{length, sym, ap, ◌∙◌}
use Rattle.group_log.specs.Progressions.{Listed}
use Rattle.group_log.proofs.Places.{length_progressed}
use Rattle.group_log.proofs.progressions.Progressions.len.Goals as goal

pub returns : goal.returns
returns c =
    let l = c.self.inside in
    sym (length_progressed l.heads.items l.steps.items l.closed.items l.last c.self.invariant) ∙ ap (λ (z : Listed). length z.items) c.self.view_is
