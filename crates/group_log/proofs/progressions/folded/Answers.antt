use Rattle.std.proofs.Common.{◌-◌, ◌++◌, ◌∷◌, [], length, refl, sym, ap, ◌∙◌, subst, arith}
use Rattle.group_log.specs.Progressions.{AreProgressions, IsTail, entries_all}
use Rattle.group_log.specs.declared.progression.Progression.{Progression}
use Rattle.group_log.proofs.Progressing.{kept_all, two_same, one_same, two_progressed}
use Rattle.group_log.proofs.progressions.folded.Goals as goal

pub returns-in_default-clause-same : goal.returns-in_default-clause-same
returns-in_default-clause-same c =
    kept_all c.args.heads.now.items c.args.steps.now.items c.tail_of.new.steps.items c.args.closed.now.items c.args.last c.requires.in_progressions c.tail_of.ensures.kept

pub returns-then-last-progression-clause-in_progressions : goal.returns-then-last-progression-clause-in_progressions
returns-then-last-progression-clause-in_progressions c =
    let heads = c.args.heads.now.items in
    let steps = c.args.steps.now.items in
    let more = c.tail_of.new.steps.items in
    let closed = c.args.closed.now.items in
    let last = c.args.last in
    let progression = c.in-Some.progression in
    let front : Progression = record last { period = progression.start - last.start; count = progression.start - last.start } in
    let t : IsTail heads more (length steps) last progression = subst (λ h. IsTail h more (length steps) last progression) c.as_slice.ensures.value c.in-Some.ensures.tail in
    subst (λ ls. AreProgressions c.truncate.new.self.items more ls progression) (sym c.push_reserved.ensures.items)
    (subst (λ h. AreProgressions h more (closed ++ front ∷ []) progression) (sym c.truncate.ensures.items)
    (two_progressed heads steps more closed last progression c.requires.in_progressions c.requires.plain c.tail_of.ensures.kept t front refl refl refl refl))

pub returns-then-last-progression-clause-same : goal.returns-then-last-progression-clause-same
returns-then-last-progression-clause-same c =
    let heads = c.args.heads.now.items in
    let steps = c.args.steps.now.items in
    let more = c.tail_of.new.steps.items in
    let closed = c.args.closed.now.items in
    let last = c.args.last in
    let progression = c.in-Some.progression in
    let front : Progression = record last { period = progression.start - last.start; count = progression.start - last.start } in
    let t : IsTail heads more (length steps) last progression = subst (λ h. IsTail h more (length steps) last progression) c.as_slice.ensures.value c.in-Some.ensures.tail in
    ap (λ ls. entries_all c.truncate.new.self.items more (ls ++ progression ∷ [])) c.push_reserved.ensures.items
    ∙ ap (λ h. entries_all h more ((closed ++ front ∷ []) ++ progression ∷ [])) c.truncate.ensures.items
    ∙ two_same heads steps more closed last progression c.requires.in_progressions c.requires.plain c.tail_of.ensures.kept t front refl refl refl

pub returns-else-last-progression-clause-same : goal.returns-else-last-progression-clause-same
returns-else-last-progression-clause-same c =
    let heads = c.args.heads.now.items in
    let steps = c.args.steps.now.items in
    let more = c.tail_of.new.steps.items in
    let closed = c.args.closed.now.items in
    let last = c.args.last in
    let progression = c.in-Some.progression in
    let t : IsTail heads more (length steps) last progression = subst (λ h. IsTail h more (length steps) last progression) c.as_slice.ensures.value c.in-Some.ensures.tail in
    ap (λ h. entries_all h more (closed ++ progression ∷ [])) c.truncate.ensures.items
    ∙ one_same heads steps more closed last progression c.requires.in_progressions c.requires.plain c.tail_of.ensures.kept t (omega (arith, c.if-last-progression.false))
