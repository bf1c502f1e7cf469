-- Where no semicolon stands, an operand is wanted.
use Rattle.std.proofs.Common.{◌≡◌, ℕ, List, refl, sym, subst}
use Rattle.clsyntax_lex.specs.declared.token.TokenKind.{TokenKind}
use Rattle.clsyntax_lex.specs.declared.token.TokenKind.TheVariants as kinds
use Rattle.clsyntax_terms.specs.Machine.{Frame, Moved, on_optional, on_operand}
use Rattle.clsyntax_terms.specs.Views.{opened, Steps}
use Rattle.clsyntax.proofs.operands.on_optional.Goals as goal

no_semicolon : (n : ℕ) (fs : List Frame) (kind : TokenKind) (at : ℕ) → (kind ≡ kinds.Semicolon → ⊥) → on_optional n fs (record { kind = kind; at = at }) ≡ on_operand n fs (record { kind = kind; at = at })
no_semicolon n fs kinds.Semicolon at h = absurd (h refl)
no_semicolon n fs _ at h = refl

pub returns-in_default : goal.returns-in_default
returns-in_default c =
    let t = c.args.token in
    let same = no_semicolon c.args.nesting.0 (opened c.args.stack) t.kind t.at c.in_default.not-Semicolon in
    subst (λ (m : Moved). Steps c.on_operand.result m) (sym same) c.on_operand.ensures
