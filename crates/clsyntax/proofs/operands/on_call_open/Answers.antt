-- What does not close a call begins an argument.
use Rattle.std.proofs.Common.{◌≡◌, ℕ, List, refl, sym, subst}
use Rattle.clsyntax_lex.specs.declared.token.TokenKind.{TokenKind}
use Rattle.clsyntax_lex.specs.declared.token.TokenKind.TheVariants as kinds
use Rattle.clsyntax_terms.specs.Machine.{Frame, Moved, on_call_open, on_operand}
use Rattle.clsyntax_terms.specs.Views.{opened, Steps}
use Rattle.clsyntax.proofs.operands.on_call_open.Goals as goal

no_bracket : (n : ℕ) (fs : List Frame) (kind : TokenKind) (at : ℕ) → (kind ≡ kinds.CloseRound → ⊥) → on_call_open n fs (record { kind = kind; at = at }) ≡ on_operand n fs (record { kind = kind; at = at })
no_bracket n fs kinds.CloseRound at h = absurd (h refl)
no_bracket n fs _ at h = refl

pub returns-in_default : goal.returns-in_default
returns-in_default c =
    let t = c.args.token in
    let same = no_bracket c.args.nesting.0 (opened c.args.stack) t.kind t.at c.in_default.not-CloseRound in
    subst (λ (m : Moved). Steps c.on_operand.result m) (sym same) c.on_operand.ensures
