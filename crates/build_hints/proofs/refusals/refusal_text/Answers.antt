use Rattle.std.proofs.Common.{◌≡◌, ℕ, List, ◌++◌, ap, ◌∙◌}
use Rattle.build_hints.proofs.refusals.refusal_text.Goals as goal

-- a text, to which two are added
added : {first second third front : List ℕ} (middle back : List ℕ) → first ≡ front → second ≡ first ++ middle → third ≡ second ++ back → third ≡ (front ++ middle) ++ back
added middle back p q r = r ∙ ap (λ t. t ++ back) (q ∙ ap (λ t. t ++ middle) p)

pub returns : goal.returns
returns c = record {
  refusal = c.in_ok-refusal.refusal;
  is = c.in_ok-refusal.ensures;
  quote = _;
  told = added _ _ c.in_ok-out.ensures c.in_ok-push_title.ensures c.in_ok-push_maybe_hint.ensures;
}
