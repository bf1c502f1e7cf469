use Rattle.std.proofs.Common.{◌≡◌, ◌+◌, ◌<◌, ◌∷◌, [], ◌++◌, List, length, map, take, sym, ap, ◌∙◌, subst, arith}
use Rattle.std.proofs.lemmas.List.{take_all, take_more}
use Rattle.std.specs.List.{AllZip}
use Rattle.serde_json.specs.Data.{array}
use Rattle.serde_json.specs.View.{items_of, view}
use Rattle.explanation.specs.declared.reasons.Reason.{Reason}
use Rattle.explain_text.specs.Texts.{IsWorded}
use Rattle.explain_json.specs.Reasons.{reasons_data}
use Rattle.explain_json.proofs.Told.{AreTold, one_more}
use Rattle.explain_json.proofs.reasons.reasons_value.Goals as goal

pub loop-reason-preserved : goal.loop-reason-preserved
loop-reason-preserved c =
    let xs = c.args.why.now in
    let i = c.loop-reason.reason-index in
    let r = c.reason-item.result in
    let below : i < length xs = omega (arith, c.loop-reason-test.true) in
    let more : take (i + 1) xs ≡ take i xs ++ r ∷ [] = take_more xs i r below ∙ ap (λ x. take i xs ++ x ∷ []) (sym c.reason-item.is) in
    subst (λ (l : List Reason). AreTold l (map view c.push_reason.new.values.items)) (sym more)
    (one_more (take i xs) r c.in_ok-push_reason.ensures.0 _ _ c.loop-reason.invariant c.in_ok-push_reason.ensures.1 c.in_ok-push_reason.ensures.2)

pub returns : goal.returns
returns c =
    let xs = c.args.why.now in
    let told = c.loop-reason.invariant in
    let all : take c.loop-reason.reason-index xs ≡ xs = take_all c.loop-reason.reason-index xs (omega (arith, c.loop-reason-test.false)) in
    record {
      sentences = told.0;
      each = subst (λ (l : List Reason). AllZip IsWorded l told.0) all told.1;
      is = c.array_of.ensures ∙ ap (λ ds. array (items_of ds)) (told.2 ∙ ap (λ l. reasons_data l told.0) all);
    }
