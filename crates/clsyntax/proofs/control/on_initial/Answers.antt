-- What is no declaration begins a simple statement.
use Rattle.std.proofs.Common.{◌≡◌, ℕ, List, refl, sym, subst}
use Rattle.clnum.specs.declared.int_type.IntType.{IntType}
use Rattle.clsyntax_lex.specs.declared.token.TokenKind.{TokenKind}
use Rattle.clsyntax_lex.specs.declared.token.TokenKind.TheVariants as kinds
use Rattle.clsyntax_terms.specs.Machine.{Frame, Moved, on_initial, on_simple}
use Rattle.clsyntax_terms.specs.Views.{opened, Steps}
use Rattle.clsyntax.proofs.control.on_initial.Goals as goal

no_declaration : (n : ℕ) (fs : List Frame) (kind : TokenKind) (at : ℕ) → (kind ≡ kinds.Semicolon → ⊥) → ((type : IntType) → kind ≡ kinds.Type type → ⊥) → (kind ≡ kinds.SizeT → ⊥) → on_initial n fs (record { kind = kind; at = at }) ≡ on_simple n fs (record { kind = kind; at = at })
no_declaration n fs kinds.Semicolon at h1 h2 h3 = absurd (h1 refl)
no_declaration n fs (kinds.Type type) at h1 h2 h3 = absurd (h2 type refl)
no_declaration n fs kinds.SizeT at h1 h2 h3 = absurd (h3 refl)
no_declaration n fs _ at h1 h2 h3 = refl

pub returns-in_default : goal.returns-in_default
returns-in_default c =
    let t = c.args.token in
    let is = c.in_default in
    let same = no_declaration c.args.nesting.0 (opened c.args.stack) t.kind t.at is.not-Semicolon is.not-Type is.not-SizeT in
    subst (λ (m : Moved). Steps c.on_simple.result m) (sym same) c.on_simple.ensures
