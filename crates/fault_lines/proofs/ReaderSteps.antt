-- Steps of a reader, whatever it reads.
use Rattle.std.proofs.Common.{◌≡◌, ℕ, List, [], ◌∷◌, ◌++◌, Option, None, Some, refl, ap, sym, ◌∙◌, subst, codes, append_assoc}
use Rattle.byte_io.specs.Pieces.{joined}
use Rattle.text_lines.specs.Fronts.{after, or_else}
use Rattle.text_lines.proofs.FieldLaws.{after_takes}

-- texts one after another, and then the rest
abbrev pub joined_onto : List (List ℕ) → List ℕ → List ℕ
joined_onto [] rest = rest
joined_onto (part ∷ parts) rest = part ++ joined_onto parts rest

pub joined-append : (parts : List (List ℕ)) (rest : List ℕ) → joined parts ++ rest ≡ joined_onto parts rest
joined-append [] rest = refl
joined-append (part ∷ parts) rest = append_assoc part (joined parts) rest ∙ ap (λ l. part ++ l) (joined-append parts rest)

-- the bytes are these texts one after another, and then the rest
pub record Parted (bytes : List ℕ) (parts : List (List ℕ)) (rest : List ℕ) : Type 0 where
  pub split : bytes ≡ joined_onto parts rest

pub begins : (parts : List (List ℕ)) (rest : List ℕ) → Parted (joined_onto parts rest) parts rest
begins parts rest = record { split = refl }

onto_more : (parts more : List (List ℕ)) (rest : List ℕ) → joined_onto parts (joined_onto more rest) ≡ joined_onto (parts ++ more) rest
onto_more [] more rest = refl
onto_more (part ∷ parts) more rest = ap (λ l. part ++ l) (onto_more parts more rest)

infixl 10 ◌▸◌
pub ◌▸◌ : {bytes mid rest : List ℕ} {parts more : List (List ℕ)} → Parted bytes parts mid → Parted mid more rest → Parted bytes (parts ++ more) rest
◌▸◌ {rest = rest} {parts = parts} {more = more} p q = record { split = p.split ∙ (ap (joined_onto parts) q.split ∙ onto_more parts more rest) }

-- a word in front
pub word_takes : (word bytes rest : List ℕ) → after word bytes ≡ Some rest → Parted bytes (word ∷ []) rest
word_takes word bytes rest e = record { split = after_takes word bytes rest e }

-- texts as one text, in front of a space
pub as_text : {bytes rest : List ℕ} (parts : List (List ℕ)) → bytes ≡ joined_onto parts (32 ∷ rest) → Parted bytes (joined parts ∷ codes " " ∷ []) rest
as_text {rest = rest} parts split = record { split = split ∙ sym (joined-append parts (32 ∷ rest)) }

-- what is so of one value is so of the other
pub read_is : {A : Type 0} (P : A → Type 0) {x y : A} → Some x ≡ Some y → P x → P y
read_is P {x} {y} e h = let one : x ≡ y = cc in subst P one h

found : {A : Type 0} (P : List ℕ → Type 0) (word bytes : List ℕ) {f : List ℕ → Option A} {other : Option A} {x : A} → ((onto : List ℕ) → f onto ≡ Some x → P (word ++ onto)) → (other ≡ Some x → P bytes)
    → (o : Option (List ℕ)) → after word bytes ≡ o → or_else o f other ≡ Some x → P bytes
found P word bytes behind without None is e = without e
found P word bytes behind without (Some onto) is e = subst P (sym (after_takes word bytes onto is)) (behind onto e)

-- what is read behind a word, and without it where it doesn't stand in front
pub by_word : {A : Type 0} (P : List ℕ → Type 0) (word bytes : List ℕ) {f : List ℕ → Option A} {other : Option A} {x : A} → ((onto : List ℕ) → f onto ≡ Some x → P (word ++ onto)) → (other ≡ Some x → P bytes) → or_else (after word bytes) f other ≡ Some x → P bytes
by_word P word bytes behind without e = found P word bytes behind without (after word bytes) refl e
