use Rattle.std.proofs.Common.{◌≡◌, ℕ, refl, sym, ap, ◌∙◌, subst, length, get_or, ◌<◌, ◌≤◌}
use Rattle.clmodel.specs.Cells.{byte_count}
use Rattle.shadow.specs.Seen.{cell_in, met_at}
use Rattle.shadow.specs.declared.seen.Seen.{Seen}
use Rattle.shadow.specs.declared.seen.Seen.TheVariants.{Untouched}
use Rattle.shadow.proofs.Meetings.{cells_there, cells_gone, nothing_met, keeps_at, met_whole}
use Rattle.shadow.proofs.footprint.Footprint.is_clear.Goals as goal

pub returns-in-None : goal.returns-in-None
returns-in-None c clear log keeps others =
    let x = c.args.x.now in
    let cells : ℕ → Seen = λ byte. Untouched in
    sym (sym (nothing_met c.args.uniform x cells (λ byte. refl) x.first (byte_count x.width))
    ∙ met_whole c.args.uniform x log cells (byte_count x.width) others
    (keeps_at c.args.self.now.buffers.items log c.in-Buffer.number x.region cells keeps c.in-Buffer.is
    (cells_gone c.args.self.now.buffers.items c.in-Buffer.number (subst (λ z. length z ≤ c.in-Buffer.number) c.deref.ensures.value c.in-None.ensures.lookup.3)))
    refl
    ∙ ap (λ r. met_at c.args.uniform r x log) (sym c.in-Buffer.is))

pub returns-in-Some : goal.returns-in-Some
returns-in-Some c clear log keeps others =
    let x = c.args.x.now in
    let buffers = c.args.self.now.buffers.items in
    let v = c.in-Some.pages.now in
    sym (met_whole c.args.uniform x log (cell_in v.apart.items v.pages.items) (byte_count x.width) others
    (keeps_at buffers log c.in-Buffer.number x.region (cell_in v.apart.items v.pages.items) keeps c.in-Buffer.is
    (cells_there buffers c.in-Buffer.number v (subst (λ z. c.in-Buffer.number < length z) c.deref.ensures.value c.in-Some.ensures.lookup.3.0)
    (subst (λ z. v ≡ get_or z c.in-Buffer.number v) c.deref.ensures.value c.in-Some.ensures.lookup.1)))
    refl
    ∙ ap (λ r. met_at c.args.uniform r x log) (sym c.in-Buffer.is))
    ∙ c.is_clear.ensures clear
