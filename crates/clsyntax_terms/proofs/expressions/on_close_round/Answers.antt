-- What is no bracket in an expression is one of a statement.
use Rattle.std.proofs.Common.{◌≡◌, ℕ, List, ◌∷◌, refl, sym, ap, ◌∙◌, subst}
use Rattle.clmodel.specs.Tree.{Term, term}
use Rattle.clsyntax_terms.specs.declared.nesting.Nesting.{Nesting}
use Rattle.clsyntax_terms.specs.declared.state.Call.{Call}
use Rattle.clsyntax_terms.specs.declared.state.Frame.{Frame}
use Rattle.clsyntax_terms.specs.declared.state.Frame.TheVariants as frames
use Rattle.clsyntax_terms.specs.Machine as machine
use Rattle.clsyntax_terms.specs.Machine.{Moved, on_close_round, end_bracket}
use Rattle.clsyntax_terms.specs.Views.{frame_of, opened, Steps}
use Rattle.clsyntax_terms.proofs.expressions.on_close_round.Goals as goal

no_bracket : (e : Term) (f : Frame) (fs : List machine.Frame) → ((at : ℕ) (nesting : Nesting) → f ≡ frames.InRound at nesting → ⊥) → ((call : Call) → f ≡ frames.InCall call → ⊥) → on_close_round e (frame_of f ∷ fs) ≡ end_bracket e (frame_of f ∷ fs)
no_bracket e (frames.InRound at n) fs h k = absurd (h at n refl)
no_bracket e (frames.InCall call) fs h k = absurd (k call refl)
no_bracket e _ fs h k = refl

pub returns-in_default-frame : goal.returns-in_default-frame
returns-in_default-frame c =
    let e = term c.args.value.value in
    let rest = opened c.in-Some.stack in
    let same : on_close_round e (opened c.args.stack) ≡ end_bracket e (frame_of c.in-Some.frame ∷ rest) = ap (on_close_round e) c.in-Some.ensures ∙ no_bracket e c.in-Some.frame rest c.in_default-frame.not-InRound c.in_default-frame.not-InCall in
    subst (λ (m : Moved). Steps c.end_bracket.result m) (sym same) c.end_bracket.ensures
