-- Items and sentences, one behind another.
use Rattle.std.proofs.Common.{◌≡◌, ◌+◌, ℕ, List, [], ◌∷◌, ◌++◌, length, codes, decimal, string_bytes, refl, sym, ap, ◌∙◌, subst, append_assoc}
use Rattle.std.specs.List.{AllZip, flat_map}
use Rattle.std.proofs.lemmas.List.{append-nil}
use Rattle.explanation.specs.declared.reasons.Reason.{Reason}
use Rattle.explanation.specs.declared.told.Explanation.{Explanation}
use Rattle.explanation.specs.declared.told.NamedItem.{NamedItem}
use Rattle.explain_text.specs.Texts.{AreItems, AreLines, AreSentences, AreSteps, IsItemText, IsLastText, IsOneLine, IsSpotText, IsText, IsWord, IsWorded, ids_text, parameters_of}

flat_more : (xs : List (List ℕ)) (x : List ℕ) → flat_map (λ part. part) (xs ++ x ∷ []) ≡ flat_map (λ part. part) xs ++ x
flat_more [] x = append-nil x
flat_more (y ∷ ys) x = ap (λ z. y ++ z) (flat_more ys x) ∙ sym (append_assoc y (flat_map (λ part. part) ys) x)

zip_more : {A B : Type 0} (R : A → B → Type 0) (xs : List A) (ys : List B) (x : A) (y : B) → AllZip R xs ys → R x y → AllZip R (xs ++ x ∷ []) (ys ++ y ∷ [])
zip_more R [] [] x y h r = (r, tt)
zip_more R [] (b ∷ ys) x y h r = absurd h
zip_more R (a ∷ xs) [] x y h r = absurd h
zip_more R (a ∷ xs) (b ∷ ys) x y h r = (h.0, zip_more R xs ys x y h.1 r)

pub no_items : (script : List ℕ) → AreItems script [] []
no_items script = record { parts = []; each = tt; whole = refl }

pub one_item_more :
    (script : List ℕ) (items : List NamedItem) (item : NamedItem) (old text new : List ℕ) → AreItems script items old → IsItemText script item text → new ≡ old ++ text
    → AreItems script (items ++ item ∷ []) new
one_item_more script items item old text new are is e = record {
  parts = are.parts ++ text ∷ [];
  each = zip_more (IsItemText script) items are.parts item text are.each is;
  whole = e ∙ ap (λ z. z ++ text) are.whole ∙ sym (flat_more are.parts text);
}

-- an item by the parts that were added
pub item_added :
    (script script' : List ℕ) (item : NamedItem) (word ids deed deed' spot spot' last last' old mid new : List ℕ) → IsWord word → IsOneLine deed' → deed ≡ deed' → script' ≡ script
    → ids ≡ ids_text item.item item.ids → spot ≡ spot' → last ≡ last' → IsSpotText script' item.spot spot' → IsLastText script' item.last last'
    → mid ≡ old ++ (codes "  " ++ word ++ ids ++ codes " " ++ deed ++ codes "\n") → new ≡ mid ++ (spot ++ last) → (text : List ℕ) × IsItemText script item text × (new ≡ old ++ text)
item_added script script' item word ids deed deed' spot spot' last last' old mid new is_word in_line is_deed same is_ids is_spot is_last at_spot at_last first second =
    let line = codes "  " ++ word ++ ids ++ codes " " ++ deed ++ codes "\n" in (
      line ++ (spot ++ last),
      record {
        word = word;
        deed = deed;
        spot = spot;
        last = last;
        is_word = is_word;
        in_line = subst (λ (t : List ℕ). IsOneLine t) (sym is_deed) in_line;
        at_spot = subst (λ (t : List ℕ). IsSpotText script item.spot t) (sym is_spot) (subst (λ (s : List ℕ). IsSpotText s item.spot spot') same at_spot);
        at_last = subst (λ (t : List ℕ). IsLastText script item.last t) (sym is_last) (subst (λ (s : List ℕ). IsLastText s item.last last') same at_last);
        whole = ap (λ i. (codes "  " ++ word ++ i ++ codes " " ++ deed ++ codes "\n") ++ (spot ++ last)) is_ids;
      },
      second ∙ ap (λ m. m ++ (spot ++ last)) first ∙ append_assoc old line (spot ++ last),
    )

reasons_more : (xs : List (List ℕ)) (x : List ℕ)
    → flat_map (λ sentence. codes "  why: " ++ sentence ++ codes "\n") (xs ++ x ∷ []) ≡ flat_map (λ sentence. codes "  why: " ++ sentence ++ codes "\n") xs ++ (codes "  why: " ++ x ++ codes "\n")
reasons_more [] x = append-nil _
reasons_more (y ∷ ys) x = ap (λ z. (codes "  why: " ++ y ++ codes "\n") ++ z) (reasons_more ys x) ∙ sym (append_assoc (codes "  why: " ++ y ++ codes "\n") _ _)

pub no_sentences : AreSentences [] []
no_sentences = record { sentences = []; each = tt; whole = refl }

pub one_sentence_more :
    (why : List Reason) (reason : Reason) (old sentence new : List ℕ) → AreSentences why old → IsWorded reason sentence → new ≡ old ++ (codes "  why: " ++ sentence ++ codes "\n")
    → AreSentences (why ++ reason ∷ []) new
one_sentence_more why reason old sentence new are is e = record {
  sentences = are.sentences ++ sentence ∷ [];
  each = zip_more IsWorded why are.sentences reason sentence are.each is;
  whole = e ∙ ap (λ z. z ++ (codes "  why: " ++ sentence ++ codes "\n")) are.whole ∙ sym (reasons_more are.sentences sentence);
}

-- an explanation by the parts that were added to nothing
pub whole_added :
    (e : Explanation) (source title title' launch launch' items items' why why' steps steps' schedule first second third fourth text : List ℕ) → IsOneLine title' → title ≡ title'
    → AreLines (1 + length (parameters_of e.memory)) launch' → launch ≡ launch' → AreItems source e.items.items items' → items ≡ items' → AreSentences e.why.items why' → why ≡ why'
    → AreSteps e steps' → steps ≡ steps' → schedule ≡ string_bytes e.schedule.short → first ≡ codes "fault " ++ decimal e.fault.number ++ codes " " ++ title ++ codes "\n"
    → second ≡ first ++ (launch ++ codes "\n") → third ≡ second ++ (items ++ codes "\n") → fourth ≡ third ++ (why ++ steps)
    → text ≡ fourth ++ (codes "  schedule " ++ schedule ++ codes " (replayed: yes)\n") → IsText e source text
whole_added e source title title' launch launch' items items' why why' steps steps' schedule first second third fourth text in_line is_title launched is_launch are is_items are_why is_why are_steps is_steps is_schedule at_first at_second at_third at_fourth at_end =
    record {
      title = title;
      launch = launch;
      items = items;
      why = why;
      steps = steps;
      in_line = subst (λ (t : List ℕ). IsOneLine t) (sym is_title) in_line;
      launched = subst (λ (t : List ℕ). AreLines (1 + length (parameters_of e.memory)) t) (sym is_launch) launched;
      are_items = subst (λ (t : List ℕ). AreItems source e.items.items t) (sym is_items) are;
      are_sentences = subst (λ (t : List ℕ). AreSentences e.why.items t) (sym is_why) are_why;
      are_steps = subst (λ (t : List ℕ). AreSteps e t) (sym is_steps) are_steps;
      whole =
          at_end
          ∙ ap (λ z. z ++ (codes "  schedule " ++ schedule ++ codes " (replayed: yes)\n"))
          (at_fourth ∙ ap (λ z. z ++ (why ++ steps)) (at_third ∙ ap (λ z. z ++ (items ++ codes "\n")) (at_second ∙ ap (λ z. z ++ (launch ++ codes "\n")) at_first)))
          ∙ ap (λ z. (codes "fault " ++ decimal e.fault.number ++ codes " " ++ title ++ codes "\n") ++ (launch ++ codes "\n") ++ (items ++ codes "\n") ++ (why ++ steps)
          ++ (codes "  schedule " ++ z ++ codes " (replayed: yes)\n")) is_schedule;
    }
