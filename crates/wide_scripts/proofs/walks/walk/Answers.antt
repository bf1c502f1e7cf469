use Rattle.std.proofs.Common.{◌+◌, ◌++◌, ◌∷◌, List, Bool, drop, ap, sym, ◌∙◌, subst}
use Rattle.std.proofs.lemmas.List.{drop_more}
use Rattle.spaces.specs.Tables.{Table}
use Rattle.wide_scripts.specs.Notes.{Includes, IsWalk, behind, marked, no_taint}
use Rattle.wide_scripts.proofs.Marks.{Goes, goes_more, goes_to_end}
use Rattle.wide_scripts.proofs.walks.walk.Goals as goal

pub loop-place-init : goal.loop-place-init
loop-place-init c =
    λ rest walk.
    subst (λ (reads : List Bool). IsWalk no_taint c.args.notes.now c.args.free.now (reads ++ rest)) (sym c.new-reads.ensures.items)
    (subst (λ (marks : Table Bool). IsWalk (marked marks) c.args.notes.now c.args.free.now rest) c.new-taint.ensures walk)

pub loop-place-preserved : goal.loop-place-preserved
loop-place-preserved c =
    let i = c.loop-place.place in
    let n = c.index-notes-place.result in
    let old = marked c.loop-place.taint.marks in
    let new = marked c.pass.new.self.marks in
    subst (λ (reads : List Bool). Goes new c.args.notes.now c.args.free.now reads (i + 1)) (sym c.in_ok-push.ensures.items)
    (goes_more old new c.args.notes.now c.args.free.now c.loop-place.reads.items i n c.may_read.result
    (drop_more c.args.notes.now i n c.loop-place-test.true ∙ ap (λ x. x ∷ drop (i + 1) c.args.notes.now) (sym c.index-notes-place.is))
    (c.in_ok-pass.ensures.may c.if-not-branch.false) c.may_read.ensures
    (subst (λ (b : Bool). Includes new (behind b n old)) c.is_free.ensures (c.in_ok-pass.ensures.marks c.if-not-branch.false))
    c.loop-place.invariant)

pub returns : goal.returns
returns c = goes_to_end (marked c.loop-place.taint.marks) c.args.notes.now c.args.free.now c.loop-place.reads.items c.loop-place.place c.loop-place-test.false c.loop-place.invariant
