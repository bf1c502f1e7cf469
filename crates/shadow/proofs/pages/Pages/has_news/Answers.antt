use Rattle.std.proofs.Common.{◌≡◌, ◌<◌, ◌≤◌, ◌∙◌, ◌⊎◌, inl, inr, false, sym, ap₂, subst, arith}
use Rattle.std.proofs.lemmas.Bool.{cases_lt}
use Rattle.shadow.specs.Seen.{is_new, mark_of, cell_in}
use Rattle.shadow.proofs.pages.Pages.has_news.Goals as goal

pub loop-byte-preserved : goal.loop-byte-preserved
loop-byte-preserved c byte low high = go (cases_lt byte c.loop-byte.byte)
  where
    go : (byte < c.loop-byte.byte) ⊎ (c.loop-byte.byte ≤ byte) → is_new (cell_in c.args.self.now.apart.items c.args.self.now.pages.items byte) (mark_of c.args.x.now byte) ≡ false
    go (inl b) = c.loop-byte.invariant byte low b
    go (inr b) =
        let e : c.loop-byte.byte ≡ byte = omega (arith, b, high) in
        subst (λ z. is_new (cell_in c.args.self.now.apart.items c.args.self.now.pages.items z) (mark_of c.args.x.now z) ≡ false) e
        (sym (ap₂ is_new c.cell.ensures c.mark_of.ensures) ∙ sym c.is_new.ensures ∙ c.if-is_new.false)
