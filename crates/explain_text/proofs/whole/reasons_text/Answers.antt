use Rattle.std.proofs.Common.{◌≡◌, ◌+◌, ◌<◌, ◌∷◌, [], ◌++◌, List, length, string_bytes, take, sym, ap, ◌∙◌, subst, arith}
use Rattle.std.proofs.lemmas.List.{take_more}
use Rattle.explanation.specs.declared.reasons.Reason.{Reason}
use Rattle.explain_text.specs.Texts.{AreSentences}
use Rattle.explain_text.proofs.Rendering.{one_sentence_more}
use Rattle.explain_text.proofs.whole.reasons_text.Goals as goal

pub loop-reason-preserved : goal.loop-reason-preserved
loop-reason-preserved c =
    let xs = c.args.why.now in
    let i = c.loop-reason.reason-index in
    let r = c.reason-item.result in
    let below : i < length xs = omega (arith, c.loop-reason-test.true) in
    let more : take (i + 1) xs ≡ take i xs ++ r ∷ [] = take_more xs i r below ∙ ap (λ x. take i xs ++ x ∷ []) (sym c.reason-item.is) in
    subst (λ (l : List Reason). AreSentences l (string_bytes c.push_reason.new.out)) (sym more)
    (one_sentence_more (take i xs) r (string_bytes c.loop-reason.out) c.in_ok-push_reason.ensures.0 (string_bytes c.push_reason.new.out) c.loop-reason.invariant
    c.in_ok-push_reason.ensures.1 c.in_ok-push_reason.ensures.2)
