use Rattle.std.proofs.Common.{◌++◌, ℕ, List, ap, codes, ◌∙◌, subst, sym}
use Rattle.std.proofs.lemmas.Result.{IfOk-weaker}
use Rattle.explain_text.specs.Texts.{AreLines, quote_lines}
use Rattle.explain_text.proofs.quotes.place_and_quote.Goals as goal

pub returns : goal.returns
returns c =
    IfOk-weaker c.place_line.result _ _
    (λ text h. (
      c.as_str-2.result.now,
      subst (λ (t : List ℕ). AreLines (quote_lines c.args.spot.now) t) (sym c.as_str-2.ensures.value) c.in_ok-quote.ensures,
      h ∙ ap (λ p. codes "      " ++ p ++ codes "\n" ++ c.as_str-2.result.now) (c.as_str.ensures.value ∙ c.in_ok-place.ensures),
    ))
    c.place_line.ensures
