-- What no word or bracket begins is a simple statement.
use Rattle.std.proofs.Common.{◌≡◌, ℕ, List, refl, sym, subst}
use Rattle.clsyntax_lex.specs.declared.token.TokenKind.{TokenKind}
use Rattle.clsyntax_lex.specs.declared.token.TokenKind.TheVariants as kinds
use Rattle.clsyntax_terms.specs.Machine.{Frame, Moved, on_begin, on_simple}
use Rattle.clsyntax_terms.specs.Views.{opened, Steps}
use Rattle.clsyntax.proofs.statements.on_begin.Goals as goal

no_word : (n : ℕ) (fs : List Frame) (kind : TokenKind) (at : ℕ) → (kind ≡ kinds.OpenBrace → ⊥) → (kind ≡ kinds.Semicolon → ⊥) → (kind ≡ kinds.If → ⊥) → (kind ≡ kinds.While → ⊥) → (kind ≡ kinds.Do → ⊥) → (kind ≡ kinds.For → ⊥) → (kind ≡ kinds.Break → ⊥) → (kind ≡ kinds.Continue → ⊥) → (kind ≡ kinds.Return → ⊥) → on_begin n fs (record { kind = kind; at = at }) ≡ on_simple n fs (record { kind = kind; at = at })
no_word n fs kinds.OpenBrace at h1 h2 h3 h4 h5 h6 h7 h8 h9 = absurd (h1 refl)
no_word n fs kinds.Semicolon at h1 h2 h3 h4 h5 h6 h7 h8 h9 = absurd (h2 refl)
no_word n fs kinds.If at h1 h2 h3 h4 h5 h6 h7 h8 h9 = absurd (h3 refl)
no_word n fs kinds.While at h1 h2 h3 h4 h5 h6 h7 h8 h9 = absurd (h4 refl)
no_word n fs kinds.Do at h1 h2 h3 h4 h5 h6 h7 h8 h9 = absurd (h5 refl)
no_word n fs kinds.For at h1 h2 h3 h4 h5 h6 h7 h8 h9 = absurd (h6 refl)
no_word n fs kinds.Break at h1 h2 h3 h4 h5 h6 h7 h8 h9 = absurd (h7 refl)
no_word n fs kinds.Continue at h1 h2 h3 h4 h5 h6 h7 h8 h9 = absurd (h8 refl)
no_word n fs kinds.Return at h1 h2 h3 h4 h5 h6 h7 h8 h9 = absurd (h9 refl)
no_word n fs _ at h1 h2 h3 h4 h5 h6 h7 h8 h9 = refl

pub returns-in_default : goal.returns-in_default
returns-in_default c =
    let t = c.args.token in
    let is = c.in_default in
    let same = no_word c.args.nesting.0 (opened c.args.stack) t.kind t.at is.not-OpenBrace is.not-Semicolon is.not-If is.not-While is.not-Do is.not-For is.not-Break is.not-Continue is.not-Return in
    subst (λ (m : Moved). Steps c.on_simple.result m) (sym same) c.on_simple.ensures
