-- Reasons with their sentences, one behind another.
use Rattle.std.proofs.Common.{◌≡◌, ℕ, List, [], ◌∷◌, ◌++◌, map, refl, sym, ap, ◌∙◌}
use Rattle.std.specs.List.{AllZip}
use Rattle.serde_json.specs.Data.{Data}
use Rattle.serde_json.specs.View.{view}
use Rattle.serde_json.specs.declared.value.Value.{Value}
use Rattle.explanation.specs.declared.reasons.Reason.{Reason}
use Rattle.explain_text.specs.Texts.{IsWorded}
use Rattle.explain_json.specs.Reasons.{reason_data, reasons_data}

-- the data of reasons with sentences
abbrev pub AreTold : List Reason → List Data → Type 0
AreTold why told = (texts : List (List ℕ)) × AllZip IsWorded why texts × (told ≡ reasons_data why texts)

zip_more : {A B : Type 0} (R : A → B → Type 0) (xs : List A) (ys : List B) (x : A) (y : B) → AllZip R xs ys → R x y → AllZip R (xs ++ x ∷ []) (ys ++ y ∷ [])
zip_more R [] [] x y h r = (r, tt)
zip_more R [] (b ∷ ys) x y h r = absurd h
zip_more R (a ∷ xs) [] x y h r = absurd h
zip_more R (a ∷ xs) (b ∷ ys) x y h r = (h.0, zip_more R xs ys x y h.1 r)

data_more : (why : List Reason) (texts : List (List ℕ)) (reason : Reason) (text : List ℕ) → AllZip IsWorded why texts
    → reasons_data (why ++ reason ∷ []) (texts ++ text ∷ []) ≡ reasons_data why texts ++ reason_data reason text ∷ []
data_more [] [] reason text h = refl
data_more [] (t ∷ texts) reason text h = absurd h
data_more (r ∷ why) [] reason text h = absurd h
data_more (r ∷ why) (t ∷ texts) reason text h = ap (λ ds. reason_data r t ∷ ds) (data_more why texts reason text h.1)

pub one_more :
    (why : List Reason) (reason : Reason) (text : List ℕ) (old new : List Data) → AreTold why old → IsWorded reason text → new ≡ old ++ reason_data reason text ∷ [] → AreTold (why ++ reason ∷ []) new
one_more why reason text old new told is e = (
  told.0 ++ text ∷ [],
  zip_more IsWorded why told.0 reason text told.1 is,
  e ∙ ap (λ ds. ds ++ reason_data reason text ∷ []) told.2 ∙ sym (data_more why told.0 reason text told.1),
)

-- values with one more, as data
views_more : (values : List Value) (value : Value) → map view (values ++ value ∷ []) ≡ map view values ++ view value ∷ []
views_more [] value = refl
views_more (v ∷ values) value = ap (λ ds. view v ∷ ds) (views_more values value)

pub viewed_more : (new old : List Value) (value : Value) (d : Data) → new ≡ old ++ value ∷ [] → view value ≡ d → map view new ≡ map view old ++ d ∷ []
viewed_more new old value d pushed told = ap (map view) pushed ∙ views_more old value ∙ ap (λ x. map view old ++ x ∷ []) told
