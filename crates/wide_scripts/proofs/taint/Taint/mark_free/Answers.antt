use Rattle.std.proofs.Common.{◌+◌, ◌∷◌, ◌&&◌, inr, drop, ap, sym, ◌∙◌}
use Rattle.std.proofs.lemmas.Bool.{and_from, or_left, or_right}
use Rattle.std.proofs.lemmas.List.{drop_more}
use Rattle.spaces.specs.Tables.{is}
use Rattle.wide_scripts.specs.Notes.{marked}
use Rattle.wide_scripts.proofs.Marks.{all_marked, one_marked}
use Rattle.wide_scripts.proofs.taint.Taint.mark_free.Goals as goal

pub loop-number-init : goal.loop-number-init
loop-number-init c = record { kept = λ other h. h; rest = λ other h. inr h }

pub loop-number-preserved : goal.loop-number-preserved
loop-number-preserved c =
    let i = c.loop-number.number in
    let name = c.index-names-number.result in
    let old = marked c.loop-number.self.marks in
    let new = marked c.mark_if.new.self.marks in
    let freed = c.is_free.result in
    let mark = c.in_ok-mark_if.ensures in
    record {
      kept = λ other h. mark other (or_right (freed && is name other) (old other) (c.loop-number.invariant.kept other h));
      rest =
          λ other h.
          one_marked c.args.names.now c.args.free.now i name other old new
          (drop_more c.args.names.now i name c.loop-number-test.true ∙ ap (λ x. x ∷ drop (i + 1) c.args.names.now) (sym c.index-names-number.is))
          (λ had. mark other (or_right (freed && is name other) (old other) had))
          (λ here same. mark other (or_left (freed && is name other) (old other) (and_from freed (is name other) (c.is_free.ensures ∙ here) same)))
          (c.loop-number.invariant.rest other h);
    }

pub returns : goal.returns
returns c =
    λ other h.
    all_marked c.args.names.now c.args.free.now c.loop-number.number other (marked c.args.self.now.marks) (marked c.loop-number.self.marks) c.loop-number-test.false
    (c.loop-number.invariant.kept other) (c.loop-number.invariant.rest other) h
