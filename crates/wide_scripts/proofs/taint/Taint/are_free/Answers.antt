use Rattle.std.proofs.Common.{◌+◌, not, ◌||◌, ◌∷◌, drop, ap, sym, ◌∙◌, refl}
use Rattle.std.proofs.lemmas.List.{drop_all, drop_more}
use Rattle.wide_scripts.specs.Notes.{are_free, marked}
use Rattle.wide_scripts.proofs.Marks.{one_let}
use Rattle.wide_scripts.proofs.taint.Taint.are_free.Goals as goal

pub loop-number-init : goal.loop-number-init
loop-number-init c = refl

pub loop-number-preserved : goal.loop-number-preserved
loop-number-preserved c =
    let i = c.loop-number.number in
    let name = c.index-names-number.result in
    c.loop-number.invariant
    ∙ one_let (marked c.args.self.now.marks) c.args.names.now c.args.free.now i name
    (drop_more c.args.names.now i name c.loop-number-test.true ∙ ap (λ x. x ∷ drop (i + 1) c.args.names.now) (sym c.index-names-number.is))
    (ap (λ b. not (marked c.args.self.now.marks name) || b) (sym c.is_free.ensures) ∙ sym c.lets.ensures ∙ c.if-not-lets.false)

pub returns : goal.returns
returns c = λ _. c.loop-number.invariant ∙ ap (λ ns. are_free (marked c.args.self.now.marks) ns (drop c.loop-number.number c.args.free.now)) (drop_all c.loop-number.number c.args.names.now c.loop-number-test.false)
