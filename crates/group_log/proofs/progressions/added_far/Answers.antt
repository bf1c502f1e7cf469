use Rattle.std.proofs.Common.{◌+◌, ◌<◌, ◌&&◌, ◌^◌, ◌++◌, ◌∷◌, [], nat_lt, sym, ap, ap₂, ◌∙◌, subst, arith, ltb-true}
use Rattle.std.specs.Prelude.{vec_len, vec_capacity}
use Rattle.std.proofs.lemmas.Bool.{and_parts}
use Rattle.group_log.specs.Progressions.{AreProgressions, entry_at, entries_all}
use Rattle.group_log.specs.declared.progression.Progression.{Progression}
use Rattle.group_log.proofs.Progressing.{plain_more, plain_progressed, round_more, close_more, close_progressed}
use Rattle.group_log.proofs.progressions.added_far.Goals as goal

pub returns-then-last-clause-more : goal.returns-then-last-clause-more
returns-then-last-clause-more c =
    let heads = c.args.heads.now.items in
    let steps = c.args.steps.now.items in
    let closed = c.args.closed.now.items in
    c.folded.ensures.same
    ∙ ap₂ (λ h l. entries_all h steps (closed ++ l ∷ [])) c.with_head-last.ensures.heads c.with_head-last.ensures.progression
    ∙ plain_more heads steps closed c.args.last c.args.entry c.requires.in_progressions c.if-last.true

pub returns-then-is_same-clause-more : goal.returns-then-is_same-clause-more
returns-then-is_same-clause-more c =
    let last = c.args.last in
    round_more c.args.heads.now.items c.args.steps.now.items c.args.closed.now.items last c.args.entry
    (sym (c.entry.ensures ∙ ap₂ (λ h s. entry_at h s last.head last.period last.step last.count) c.as_slice.ensures.value c.as_slice-2.ensures.value)
    ∙ c.is_same.ensures c.if-is_same.true)

pub returns-clause-in_progressions : goal.returns-clause-in_progressions
returns-clause-in_progressions c =
    let heads = c.args.heads.now.items in
    let steps = c.args.steps.now.items in
    let closed = c.args.closed.now.items in
    let last = c.args.last in
    let empty : Progression = c.empty.result in
    let e = c.args.entry in
    let room = and_parts (nat_lt (vec_len c.args.heads.now) (vec_capacity c.args.heads.now) && nat_lt (vec_len c.args.closed.now) (vec_capacity c.args.closed.now)) (nat_lt (last.start + last.count + 1) (2 ^ 64)) c.requires.room in
    let short : last.start + last.count + 1 < 2 ^ 64 = ltb-true (last.start + last.count + 1) (2 ^ 64) room.1 in
    let in_progressions : AreProgressions heads steps (closed ++ last ∷ []) empty =
    close_progressed heads steps closed last empty c.requires.in_progressions c.empty.ensures.start (c.empty.ensures.head ∙ c.len.ensures ∙ c.args.heads.now.ok.0) c.empty.ensures.period c.empty.ensures.count in
    subst (λ ls. AreProgressions c.with_head.new.heads.items steps ls c.with_head.result) (sym c.push_reserved.ensures.items)
    (subst (λ h. AreProgressions h steps (closed ++ last ∷ []) c.with_head.result) (sym c.with_head.ensures.heads)
    (subst (AreProgressions (heads ++ e ∷ []) steps (closed ++ last ∷ [])) (sym c.with_head.ensures.progression)
    (plain_progressed heads steps (closed ++ last ∷ []) empty e in_progressions (omega (arith, c.empty.ensures.period, c.empty.ensures.count)) (omega (arith, short, c.empty.ensures.start, c.empty.ensures.count)))))

pub returns-clause-more : goal.returns-clause-more
returns-clause-more c =
    let heads = c.args.heads.now.items in
    let steps = c.args.steps.now.items in
    let closed = c.args.closed.now.items in
    let last = c.args.last in
    let empty : Progression = c.empty.result in
    let e = c.args.entry in
    let in_progressions : AreProgressions heads steps (closed ++ last ∷ []) empty =
    close_progressed heads steps closed last empty c.requires.in_progressions c.empty.ensures.start (c.empty.ensures.head ∙ c.len.ensures ∙ c.args.heads.now.ok.0) c.empty.ensures.period c.empty.ensures.count in
    ap (λ ls. entries_all c.with_head.new.heads.items steps (ls ++ c.with_head.result ∷ [])) c.push_reserved.ensures.items
    ∙ ap₂ (λ h l. entries_all h steps ((closed ++ last ∷ []) ++ l ∷ [])) c.with_head.ensures.heads c.with_head.ensures.progression
    ∙ plain_more heads steps (closed ++ last ∷ []) empty e in_progressions (omega (arith, c.empty.ensures.period, c.empty.ensures.count))
    ∙ ap (λ z. z ++ e ∷ []) (close_more heads steps closed last empty c.empty.ensures.count)
