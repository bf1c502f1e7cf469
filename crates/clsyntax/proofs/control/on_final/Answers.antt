-- What does not close the head of a `for` begins its third part.
use Rattle.std.proofs.Common.{◌≡◌, ℕ, List, refl, sym, subst}
use Rattle.clsyntax_lex.specs.declared.token.TokenKind.{TokenKind}
use Rattle.clsyntax_lex.specs.declared.token.TokenKind.TheVariants as kinds
use Rattle.clsyntax_terms.specs.Machine.{Frame, Moved, on_final, on_simple}
use Rattle.clsyntax_terms.specs.Views.{opened, Steps}
use Rattle.clsyntax.proofs.control.on_final.Goals as goal

no_bracket : (n : ℕ) (fs : List Frame) (kind : TokenKind) (at : ℕ) → (kind ≡ kinds.CloseRound → ⊥) → on_final n fs (record { kind = kind; at = at }) ≡ on_simple n fs (record { kind = kind; at = at })
no_bracket n fs kinds.CloseRound at h1 = absurd (h1 refl)
no_bracket n fs _ at h1 = refl

pub returns-in_default : goal.returns-in_default
returns-in_default c =
    let t = c.args.token in
    let is = c.in_default in
    let same = no_bracket c.args.nesting.0 (opened c.args.stack) t.kind t.at is.not-CloseRound in
    subst (λ (m : Moved). Steps c.on_simple.result m) (sym same) c.on_simple.ensures
