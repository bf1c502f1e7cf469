use Rattle.std.proofs.Common.{◌≡◌, ◌<◌, false, length, drop, arith, sym, ◌∙◌, subst}
use Rattle.std.specs.Prelude.{codes}
use Rattle.clsyntax_lex.specs.Numbers.{begins_with}
use Rattle.clsyntax_lex.proofs.PieceLemmas.{closed_after-more}
use Rattle.clsyntax_lex.proofs.pieces.closed_after.Goals as goal

pub loop-at-preserved : goal.loop-at-preserved
loop-at-preserved c =
    let inside : c.loop-at.at < length c.args.bytes.now = omega arith in
    let none : begins_with (codes "*/") (drop c.loop-at.at c.args.bytes.now) ≡ false =
    subst (λ rest. begins_with (codes "*/") rest ≡ false) c.split_at.ensures.back (sym c.starts_with.ensures.value ∙ c.if-starts_with.false) in
    c.loop-at.invariant ∙ closed_after-more c.args.bytes.now c.loop-at.at inside none
