use Rattle.std.proofs.Common.{◌++◌, ◌∷◌, [], ap₂, ◌∙◌}
use Rattle.group_log.specs.Progressions.{entries_all}
use Rattle.group_log.proofs.Progressing.{plain_more}
use Rattle.group_log.proofs.progressions.add.Goals as goal

pub returns-then-len-lt-SHORT-clause-more : goal.returns-then-len-lt-SHORT-clause-more
returns-then-len-lt-SHORT-clause-more c =
    let heads = c.args.heads.now.items in
    let steps = c.args.steps.now.items in
    let closed = c.args.closed.now.items in
    ap₂ (λ h l. entries_all h steps (closed ++ l ∷ [])) c.put_head.ensures.heads c.put_head.ensures.progression
    ∙ plain_more heads steps closed c.args.last.now c.args.entry c.requires.in_progressions c.if-last.true
