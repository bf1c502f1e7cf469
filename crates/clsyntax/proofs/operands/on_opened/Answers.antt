-- Behind a bracket, what is no type begins an operand.
use Rattle.std.proofs.Common.{◌≡◌, ℕ, suc, List, ◌∷◌, refl, sym, subst}
use Rattle.clnum.specs.declared.int_type.IntType.{IntType}
use Rattle.clsyntax_lex.specs.declared.token.TokenKind.{TokenKind}
use Rattle.clsyntax_lex.specs.declared.token.TokenKind.TheVariants as kinds
use Rattle.clsyntax_terms.specs.Machine.{Frame, InRound, Moved, on_opened, on_operand}
use Rattle.clsyntax_terms.specs.Views.{opened, Steps}
use Rattle.clsyntax.proofs.operands.on_opened.Goals as goal

no_type : (n a : ℕ) (fs : List Frame) (kind : TokenKind) (at : ℕ) → ((type : IntType) → kind ≡ kinds.Type type → ⊥) → (kind ≡ kinds.SizeT → ⊥) → on_opened n a fs (record { kind = kind; at = at }) ≡ on_operand (suc n) (InRound a n ∷ fs) (record { kind = kind; at = at })
no_type n a fs (kinds.Type type) at h k = absurd (h type refl)
no_type n a fs kinds.SizeT at h k = absurd (k refl)
no_type n a fs _ at h k = refl

pub returns-in_ok-push-in_default-kind : goal.returns-in_ok-push-in_default-kind
returns-in_ok-push-in_default-kind c =
    let t = c.args.token in
    let same = no_type c.args.nesting.0 c.args.at (opened c.args.stack) t.kind t.at c.in_default-kind.not-Type c.in_default-kind.not-SizeT in
    let at_inner = subst (λ (n : ℕ). Steps c.on_operand.result (on_operand n (opened c.in_ok-push-in_default-kind.field-0) t)) c.in-Some.ensures c.on_operand.ensures in
    let in_round = subst (λ (fs : List Frame). Steps c.on_operand.result (on_operand (suc c.args.nesting.0) fs t)) c.in_ok-push-in_default-kind.ensures at_inner in
    subst (λ (m : Moved). Steps c.on_operand.result m) (sym same) in_round
