use Rattle.std.proofs.Common.{◌≡◌, ◌+◌, ◌-◌, ◌<◌, ◌≤◌, length, get_or, sym, ap, ap₂, ◌∙◌, subst, arith}
use Rattle.group_log.specs.Progressions.{Listed, entry_at}
use Rattle.group_log.specs.declared.progression.Progression.{Progression}
use Rattle.group_log.proofs.Places.{length_progressed, in_open, in_closed}
use Rattle.group_log.proofs.progressions.Progressions.get.Goals as goal

pub entry-requires-clause-steps : goal.entry-requires-clause-steps
entry-requires-clause-steps c p =
    let l = c.self.inside in
    let many : length c.args.self.now.items ≡ l.last.start + l.last.count =
    ap (λ (z : Listed). length z.items) (sym c.self.view_is) ∙ length_progressed l.heads.items l.steps.items l.closed.items l.last c.self.invariant in
    let t = c.self.invariant.last_in.step (omega (arith, p, many, c.requires, c.if-i-self.true)) in
    (t.0, omega (arith, t.1, ap length c.as_slice-steps.ensures.value))

pub returns-then-i-self : goal.returns-then-i-self
returns-then-i-self c =
    let l = c.self.inside in
    let many : length c.args.self.now.items ≡ l.last.start + l.last.count =
    ap (λ (z : Listed). length z.items) (sym c.self.view_is) ∙ length_progressed l.heads.items l.steps.items l.closed.items l.last c.self.invariant in
    c.entry.ensures
    ∙ ap₂ (λ h s. entry_at h s l.last.head l.last.period l.last.step (c.args.i - l.last.start)) c.as_slice-heads.ensures.value c.as_slice-steps.ensures.value
    ∙ sym (in_open l.heads.items l.steps.items l.closed.items l.last c.args.i c.entry.result c.self.invariant c.if-i-self.true (omega (arith, many, c.requires)))
    ∙ ap (λ (z : Listed). get_or z.items c.args.i c.entry.result) c.self.view_is

pub returns : goal.returns
returns c =
    let l = c.self.inside in
    let j = c.progression_at.result in
    let m : Progression = c.index-progression.result.now in
    let is : m ≡ get_or l.closed.items j m = c.index-progression.ensures in
    let inside : j < length l.closed.items = subst (λ xs. j < length xs) c.as_slice.ensures.value c.progression_at.ensures.inside in
    let lo : m.start ≤ c.args.i = subst (λ (z : Progression). z.start ≤ c.args.i) (sym is) (subst (λ xs. (get_or xs j m).start ≤ c.args.i) c.as_slice.ensures.value (c.progression_at.ensures.from m)) in
    let hi : c.args.i < m.start + m.count =
    subst (λ (z : Progression). c.args.i < z.start + z.count) (sym is) (subst (λ xs. c.args.i < (get_or xs j m).start + (get_or xs j m).count) c.as_slice.ensures.value (c.progression_at.ensures.before m)) in
    c.entry-2.ensures
    ∙ ap₂ (λ h s. entry_at h s m.head m.period m.step (c.args.i - m.start)) c.as_slice-heads.ensures.value c.as_slice-steps.ensures.value
    ∙ sym (in_closed l.heads.items l.steps.items l.closed.items l.last m j c.args.i c.entry-2.result c.self.invariant inside is lo hi c.if-i-self.false)
    ∙ ap (λ (z : Listed). get_or z.items c.args.i c.entry-2.result) c.self.view_is
