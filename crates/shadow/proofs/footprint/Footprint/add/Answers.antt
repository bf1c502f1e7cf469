use Rattle.std.proofs.Common.{◌≡◌, ℕ, Bool, true, false, ◌&&◌, ◌==◌, if◌then◌else◌, sym, ap, ap₂, ◌∙◌, subst, eq-eqb, refl}
use Rattle.std.proofs.lemmas.Bool.{and_parts}
use Rattle.clmodel.specs.Cells.{byte_count, covers}
use Rattle.clmodel.specs.Launch.{same_region}
use Rattle.clmodel.specs.declared.access.Region.TheVariants as region
use Rattle.joining.specs.Memory.{at_byte}
use Rattle.shadow.specs.Lasting.{AbsorbedAt}
use Rattle.shadow.specs.Seen.{seen_with, is_new, seen, mark_of, cell_in}
use Rattle.shadow.proofs.Cells.{same_cells, marked_cells, err_then, if_then, if_all}
use Rattle.shadow.proofs.Absorbing.{not_new, new_changes}
use Rattle.shadow.proofs.Meetings.{cells_there}
use Rattle.shadow.proofs.footprint.Footprint.add.Goals as goal

pub returns-clause-same : goal.returns-clause-same
returns-clause-same c =
    err_then c.add.result
    (λ same log keeps m byte.
    same_cells c.make_room.new.buffers.items c.in-Buffer.number c.add.new.self c.index_mut.result.now c.in_ok-make_room.ensures.long c.index_mut.ensures.value same m byte
    ∙ c.make_room.ensures.same m byte ∙ keeps m byte) c.add.ensures.same

pub returns-clause-added : goal.returns-clause-added
returns-clause-added c =
    let x = c.args.x.now in
    let old = c.make_room.new.buffers.items in
    let n = c.in-Buffer.number in
    let count = byte_count x.width in
    let test : (m byte : ℕ) → at_byte (region.Buffer m) byte x ≡ ((m == n) && covers x.first count byte) =
    λ m byte. ap (λ a. same_region (region.Buffer m) a && covers x.first count byte) c.in-Buffer.is in
    if_all c.add.result
    (λ news h log keeps m byte.
    marked_cells old n c.add.new.self c.index_mut.result.now (mark_of x) x.first count c.in_ok-make_room.ensures.long c.index_mut.ensures.value h.marked m byte
    ∙ ap₂ (λ (z : Bool) a. if z then seen_with a (mark_of x byte) else a) (sym (test m byte)) (c.make_room.ensures.same m byte ∙ keeps m byte)) c.add.ensures.marked

pub returns-clause-news : goal.returns-clause-news
returns-clause-news c =
    let x = c.args.x.now in
    let old = c.make_room.new.buffers.items in
    let n = c.in-Buffer.number in
    let w = c.index_mut.result.now in
    if_then c.add.result
    (λ news h none log keeps.
    subst (λ r. AbsorbedAt r log x) (sym c.in-Buffer.is) (λ byte at.
    let told : is_new (cell_in w.apart.items w.pages.items byte) (mark_of x byte) ≡ false
    = h.quiet none byte (and_parts (same_region (region.Buffer n) x.region) (covers x.first (byte_count x.width) byte) at).1 in
    let same : cell_in w.apart.items w.pages.items byte ≡ seen (region.Buffer n) byte log
    = sym (ap (λ f. f byte) (cells_there old n w c.in_ok-make_room.ensures.long c.index_mut.ensures.value)) ∙ c.make_room.ensures.same n byte ∙ keeps n byte in
    not_new (seen (region.Buffer n) byte log) (mark_of x byte) (sym (ap (λ z. is_new z (mark_of x byte)) same) ∙ told))) c.add.ensures.marked

pub returns-clause-told : goal.returns-clause-told
returns-clause-told c =
    let x = c.args.x.now in
    let old = c.make_room.new.buffers.items in
    let n = c.in-Buffer.number in
    let w = c.index_mut.result.now in
    if_then c.add.result
    (λ news h told log keeps absorbed.
    let there = h.told told in
    let byte : ℕ = there.0 in
    let at : at_byte (region.Buffer n) byte x ≡ true
    = ap (λ a. same_region (region.Buffer n) a && covers x.first (byte_count x.width) byte) c.in-Buffer.is
    ∙ ap₂ (λ a b. a && b) (eq-eqb n n refl) there.1 in
    let same : cell_in w.apart.items w.pages.items byte ≡ seen (region.Buffer n) byte log
    = sym (ap (λ f. f byte) (cells_there old n w c.in_ok-make_room.ensures.long c.index_mut.ensures.value)) ∙ c.make_room.ensures.same n byte ∙ keeps n byte in
    let takes = subst (λ r. AbsorbedAt r log x) c.in-Buffer.is absorbed byte at in
    new_changes (seen (region.Buffer n) byte log) (mark_of x byte) (sym (ap (λ z. is_new z (mark_of x byte)) same) ∙ there.2) takes) c.add.ensures.marked
