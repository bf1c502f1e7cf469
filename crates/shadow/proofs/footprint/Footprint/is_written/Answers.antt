use Rattle.std.proofs.Common.{◌≡◌, ℕ, ◌<◌, ◌≤◌, refl, ap, ◌∙◌, subst, length, get_or}
use Rattle.clmodel.specs.declared.access.Region.TheVariants as region
use Rattle.shadow.specs.Seen.{is_written, cell_in}
use Rattle.shadow.specs.declared.seen.Seen.{Seen}
use Rattle.shadow.specs.declared.seen.Seen.TheVariants.{Untouched}
use Rattle.shadow.proofs.Meetings.{cells_there, cells_gone, keeps_at, written}
use Rattle.shadow.proofs.footprint.Footprint.is_written.Goals as goal

pub returns-in-None : goal.returns-in-None
returns-in-None c log keeps =
    let cells : ℕ → Seen = λ byte. Untouched in
    let at = region.Buffer c.args.number in
    ap is_written
    (keeps_at c.args.self.now.buffers.items log c.args.number at cells keeps refl
    (cells_gone c.args.self.now.buffers.items c.args.number (subst (λ z. length z ≤ c.args.number) c.deref.ensures.value c.in-None.ensures.lookup.3)) c.args.byte)
    ∙ written at c.args.byte log

pub returns-in-Some : goal.returns-in-Some
returns-in-Some c log keeps =
    let buffers = c.args.self.now.buffers.items in
    let v = c.in-Some.pages.now in
    let at = region.Buffer c.args.number in
    c.is_written.ensures
    ∙ ap is_written c.cell.ensures
    ∙ ap is_written
    (keeps_at buffers log c.args.number at (cell_in v.apart.items v.pages.items) keeps refl
    (cells_there buffers c.args.number v (subst (λ z. c.args.number < length z) c.deref.ensures.value c.in-Some.ensures.lookup.3.0)
    (subst (λ z. v ≡ get_or z c.args.number v) c.deref.ensures.value c.in-Some.ensures.lookup.1)) c.args.byte)
    ∙ written at c.args.byte log
