-- What begins no declaration and ends no block begins a statement.
use Rattle.std.proofs.Common.{◌≡◌, ℕ, List, refl, sym, subst}
use Rattle.clmodel.specs.declared.tree.AddressSpace.{AddressSpace}
use Rattle.clnum.specs.declared.int_type.IntType.{IntType}
use Rattle.clsyntax_lex.specs.declared.token.TokenKind.{TokenKind}
use Rattle.clsyntax_lex.specs.declared.token.TokenKind.TheVariants as kinds
use Rattle.clsyntax_terms.specs.Machine.{Frame, Moved, on_item, on_begin}
use Rattle.clsyntax_terms.specs.Views.{opened, Steps}
use Rattle.clsyntax.proofs.statements.on_item.Goals as goal

no_declaration : (n : ℕ) (fs : List Frame) (kind : TokenKind) (at : ℕ) → (kind ≡ kinds.CloseBrace → ⊥) → ((type : IntType) → kind ≡ kinds.Type type → ⊥) → (kind ≡ kinds.SizeT → ⊥) → ((space : AddressSpace) → kind ≡ kinds.Space space → ⊥) → on_item n fs (record { kind = kind; at = at }) ≡ on_begin n fs (record { kind = kind; at = at })
no_declaration n fs kinds.CloseBrace at h1 h2 h3 h4 = absurd (h1 refl)
no_declaration n fs (kinds.Type type) at h1 h2 h3 h4 = absurd (h2 type refl)
no_declaration n fs kinds.SizeT at h1 h2 h3 h4 = absurd (h3 refl)
no_declaration n fs (kinds.Space space) at h1 h2 h3 h4 = absurd (h4 space refl)
no_declaration n fs _ at h1 h2 h3 h4 = refl

pub returns-in_default : goal.returns-in_default
returns-in_default c =
    let t = c.args.token in
    let is = c.in_default in
    let same = no_declaration c.args.nesting.0 (opened c.args.stack) t.kind t.at is.not-CloseBrace is.not-Type is.not-SizeT is.not-Space in
    subst (λ (m : Moved). Steps c.on_begin.result m) (sym same) c.on_begin.ensures
