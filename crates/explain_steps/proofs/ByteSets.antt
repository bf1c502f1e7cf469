-- Sets of bytes: what they have once bytes are taken out or added.
use Rattle.std.proofs.Common.{Bor, zero, suc, length, map, ◌≡◌, ◌+◌, ◌<◌, ◌≤◌, ◌⊎◌, ◌&&◌, ◌||◌, ◌==◌, ℕ, Bool, true, false, not, cond, nat_le, nat_lt, Option, None, Some, List, [], ◌∷◌, ◌++◌, slice_get, inl, inr, refl, sym, ap, ap₂, ◌∙◌, subst, arith}
use Rattle.std.specs.Bool.{Decides}
use Rattle.std.proofs.lemmas.Bool.{and_from, and_parts, both_ways, cases_lt, cases_order, eq-eqb, eqb-true, false_from_ne_true, false≢true, le-leb, leb-true, lt-ltb, ltb-true, not-true, not_from_false, or_cases, or_left, or_right}
use Rattle.std.proofs.lemmas.List.{length-map, map-append}
use Rattle.std.proofs.lemmas.Option.{slice_get_within}
use Rattle.clmodel.specs.declared.fault.Location.{Location}
use Rattle.fault_play.specs.declared.marks.Mark.{Mark}
use Rattle.fault_play.specs.declared.played.Touch.{Touch}
use Rattle.explain_steps.specs.Bytes.{Has, Holds, IsFound, IsLeft, IsNumber, byte_key, has_key, is_among, places_of, same_byte}
use Rattle.explain_steps.specs.Chosen.{Gives, IsAwaited, IsGiven, IsOn, Writes, gives, is_theirs, writes}
use Rattle.explain_steps.specs.declared.bytes.ByteKey.{ByteKey}
use Rattle.explain_steps.specs.declared.bytes.ByteSet.{ByteSet}
use Rattle.explain_steps.specs.declared.chosen.Followed.{Followed}

-- ---- keys

alike : (a b : Bool) → (a ≡ true → b ≡ true) → (b ≡ true → a ≡ true) → a ≡ b
alike true true f g = refl
alike true false f g = sym (f refl)
alike false true f g = g refl
alike false false f g = refl

among_is : (place first count : ℕ) (key : ByteKey) → is_among place first count key ≡ true → (place ≡ key.place) × (first ≤ key.byte) × (key.byte < first + count)
among_is place first count key h =
    let r : ((place == key.place) ≡ true) × ((nat_le first key.byte && nat_lt key.byte (first + count)) ≡ true) =
    and_parts (place == key.place) (nat_le first key.byte && nat_lt key.byte (first + count)) h in
    let s : (nat_le first key.byte ≡ true) × (nat_lt key.byte (first + count) ≡ true) = and_parts (nat_le first key.byte) (nat_lt key.byte (first + count)) r.1 in
    (eqb-true place key.place r.0, leb-true first key.byte s.0, ltb-true key.byte (first + count) s.1)

among_from : (place first count : ℕ) (key : ByteKey) → place ≡ key.place → first ≤ key.byte → key.byte < first + count → is_among place first count key ≡ true
among_from place first count key e above below =
    and_from (place == key.place) (nat_le first key.byte && nat_lt key.byte (first + count)) (eq-eqb place key.place e)
    (and_from (nat_le first key.byte) (nat_lt key.byte (first + count)) (le-leb first key.byte above) (lt-ltb key.byte (first + count) below))

pub none_among : (place first : ℕ) (key : ByteKey) → is_among place first 0 key ≡ false
none_among place first key =
    false_from_ne_true (is_among place first 0 key)
    (λ h. let r : (place ≡ key.place) × (first ≤ key.byte) × (key.byte < first + 0) = among_is place first 0 key h in omega (arith, r.1, r.2))

same_is : (a b : ByteKey) → same_byte a b ≡ true → (a.place ≡ b.place) × (a.byte ≡ b.byte)
same_is a b h = let r : ((a.place == b.place) ≡ true) × ((a.byte == b.byte) ≡ true) = and_parts (a.place == b.place) (a.byte == b.byte) h in (eqb-true a.place b.place r.0, eqb-true a.byte b.byte r.1)

same_from : (a b : ByteKey) → a.place ≡ b.place → a.byte ≡ b.byte → same_byte a b ≡ true
same_from a b e f = and_from (a.place == b.place) (a.byte == b.byte) (eq-eqb a.place b.place e) (eq-eqb a.byte b.byte f)

one_byte : (a b : ByteKey) → same_byte a b ≡ true → a ≡ b
one_byte a b h = let r = same_is a b h in ap₂ (λ (p q : ℕ). byte_key p q) r.0 r.1

among_there : (place first count : ℕ) (key : ByteKey) → is_among place first (count + 1) key ≡ true → (is_among place first count key || same_byte (byte_key place (first + count)) key) ≡ true
among_there place first count key h = go (among_is place first (count + 1) key h) (cases_lt key.byte (first + count))
  where
    go : (place ≡ key.place) × (first ≤ key.byte) × (key.byte < first + (count + 1)) → (key.byte < first + count) ⊎ (first + count ≤ key.byte) → (is_among place first count key || same_byte (byte_key place (first + count)) key) ≡ true
    go r (inl below) = or_left (is_among place first count key) (same_byte (byte_key place (first + count)) key) (among_from place first count key r.0 r.1 below)
    go r (inr past) =
        or_right (is_among place first count key) (same_byte (byte_key place (first + count)) key)
        (same_from (byte_key place (first + count)) key r.0 (omega (arith, r.2, past)))

among_back : (place first count : ℕ) (key : ByteKey) → (is_among place first count key || same_byte (byte_key place (first + count)) key) ≡ true → is_among place first (count + 1) key ≡ true
among_back place first count key h = go (or_cases (is_among place first count key) (same_byte (byte_key place (first + count)) key) h)
  where
    go : (is_among place first count key ≡ true) ⊎ (same_byte (byte_key place (first + count)) key ≡ true) → is_among place first (count + 1) key ≡ true
    go (inl a) =
        let r : (place ≡ key.place) × (first ≤ key.byte) × (key.byte < first + count) = among_is place first count key a in
        among_from place first (count + 1) key r.0 r.1 (omega (arith, r.2))
    go (inr s) =
        let r : (place ≡ key.place) × (first + count ≡ key.byte) = same_is (byte_key place (first + count)) key s in
        among_from place first (count + 1) key r.0 (omega (arith, r.1)) (omega (arith, r.1))

among_more : (place first count : ℕ) (key : ByteKey) → is_among place first (count + 1) key ≡ (is_among place first count key || same_byte (byte_key place (first + count)) key)
among_more place first count key =
    alike (is_among place first (count + 1) key) (is_among place first count key || same_byte (byte_key place (first + count)) key) (among_there place first count key)
    (among_back place first count key)

cut : (same among had : Bool) → cond same false (had && not among) ≡ (had && not (among || same))
cut true true true = refl
cut true true false = refl
cut true false true = refl
cut true false false = refl
cut false true true = refl
cut false true false = refl
cut false false true = refl
cut false false false = refl

grown : (same among had : Bool) → cond same true (had || among) ≡ (had || (among || same))
grown true true true = refl
grown true true false = refl
grown true false true = refl
grown true false false = refl
grown false true true = refl
grown false true false = refl
grown false false true = refl
grown false false false = refl

-- one byte more is taken out
pub cut_more : (place first count : ℕ) (key : ByteKey) (had old new : Bool) → old ≡ (had && not (is_among place first count key)) → new ≡ cond (same_byte (byte_key place (first + count)) key) false old
    → new ≡ (had && not (is_among place first (count + 1) key))
cut_more place first count key had old new before updated =
    updated ∙ ap (λ b. cond (same_byte (byte_key place (first + count)) key) false b) before ∙ cut (same_byte (byte_key place (first + count)) key) (is_among place first count key) had
    ∙ ap (λ b. had && not b) (sym (among_more place first count key))

-- one byte more is added
pub grown_more : (place first count : ℕ) (key : ByteKey) (had old new : Bool) → old ≡ (had || is_among place first count key) → new ≡ cond (same_byte (byte_key place (first + count)) key) true old
    → new ≡ (had || is_among place first (count + 1) key)
grown_more place first count key had old new before updated =
    updated ∙ ap (λ b. cond (same_byte (byte_key place (first + count)) key) true b) before ∙ grown (same_byte (byte_key place (first + count)) key) (is_among place first count key) had
    ∙ ap (λ b. had || b) (sym (among_more place first count key))

-- one of these bytes was there
abbrev pub WasThere : ℕ → ℕ → ℕ → (ByteKey → Bool) → Type 0
WasThere place first count had = (key : ByteKey) × (is_among place first count key ≡ true) × (had key ≡ true)

-- the same with one more
pub there_more : (place first count : ℕ) (had old : ByteKey → Bool) (taken was : Bool) → ((key : ByteKey) → old key ≡ (had key && not (is_among place first count key)))
    → was ≡ old (byte_key place (first + count)) → Decides taken (WasThere place first count had) → Decides (taken || was) (WasThere place first (count + 1) had)
there_more place first count had old taken was left here d = (λ h. forth (or_cases taken was h), λ t. back t.0 t.2 (or_cases (is_among place first count t.0) (same_byte (byte_key place (first + count)) t.0) (among_there place first count t.0 t.1)))
  where
    outside : is_among place first count (byte_key place (first + count)) ≡ false
    outside =
        false_from_ne_true (is_among place first count (byte_key place (first + count)))
        (λ h. let r : (place ≡ place) × (first ≤ first + count) × (first + count < first + count) = among_is place first count (byte_key place (first + count)) h in omega (arith, r.2))

    forth : (taken ≡ true) ⊎ (was ≡ true) → WasThere place first (count + 1) had
    forth (inl t) =
        let w : WasThere place first count had = d.0 t in
        (w.0, among_back place first count w.0 (or_left (is_among place first count w.0) (same_byte (byte_key place (first + count)) w.0) w.1), w.2)
    forth (inr w) =
        let k : ByteKey = byte_key place (first + count) in (
          k,
          among_back place first count k (or_right (is_among place first count k) (same_byte k k) (same_from k k refl refl)),
          (and_parts (had k) (not (is_among place first count k)) (sym (left k) ∙ sym here ∙ w)).0,
        )

    back : (key : ByteKey) → had key ≡ true → (is_among place first count key ≡ true) ⊎ (same_byte (byte_key place (first + count)) key ≡ true) → (taken || was) ≡ true
    back key h (inl a) = or_left taken was (d.1 (key, a, h))
    back key h (inr s) =
        let k : ByteKey = byte_key place (first + count) in
        let there : had k ≡ true = ap had (one_byte k key s) ∙ h in
        or_right taken was (here ∙ left k ∙ and_from (had k) (not (is_among place first count k)) there (not_from_false (is_among place first count k) outside))

-- before any byte
pub none_there : (place first : ℕ) (had : ByteKey → Bool) → Decides false (WasThere place first 0 had)
none_there place first had = (λ e. absurd (false≢true e), λ t. absurd (false≢true (sym (none_among place first t.0) ∙ t.1)))

-- ---- objects

one_place : (places : List Location) (number : ℕ) (p q : Location) → slice_get places number ≡ Some p → slice_get places number ≡ Some q → p ≡ q
one_place places number p q e f = let g : Some p ≡ Some q = sym e ∙ f in cc

number_once : (places : List Location) (place : Location) (m n : ℕ) → IsNumber places place m → IsNumber places place n → m ≡ n
number_once places place m n h k = go (cases_order m n)
  where
    go : (m ≡ n) ⊎ ((m < n) ⊎ (n < m)) → m ≡ n
    go (inl e) = e
    go (inr (inl less)) = absurd (k.first m less h.at)
    go (inr (inr more)) = absurd (h.first n more k.at)

-- the same, of an object that has this number
number_of_place : (places : List Location) (p q : Location) (m n : ℕ) → p ≡ q → IsNumber places p m → IsNumber places q n → m ≡ n
number_of_place places p q m n e h k = number_once places q m n (subst (λ (l : Location). IsNumber places l m) e h) k

-- an object that wasn't found stays so, where the next one is another
pub not_found_more : (places : List Location) (place : Location) (count : ℕ) (next : Location) → slice_get places count ≡ Some next → (next ≡ place → ⊥)
    → ((earlier : ℕ) → earlier < count → slice_get places earlier ≡ Some place → ⊥) → (earlier : ℕ) → earlier < count + 1 → slice_get places earlier ≡ Some place → ⊥
not_found_more places place count next at other none earlier below here = go (cases_lt earlier count)
  where
    go : (earlier < count) ⊎ (count ≤ earlier) → ⊥
    go (inl less) = none earlier less here
    go (inr past) =
        let e : earlier ≡ count = omega (arith, below, past) in
        other (one_place places count next place at (subst (λ (n : ℕ). slice_get places n ≡ Some place) e here))

got_left : {A : Type 0} (xs : List A) (y : A) (k : ℕ) → k < length xs → slice_get (xs ++ y ∷ []) k ≡ slice_get xs k
got_left [] y k h = absurd (omega (arith, h))
got_left (x ∷ xs) y zero h = refl
got_left (x ∷ xs) y (suc k) h = got_left xs y k (omega (arith, h))

got_end : {A : Type 0} (xs : List A) (y : A) → slice_get (xs ++ y ∷ []) (length xs) ≡ Some y
got_end [] y = refl
got_end (x ∷ xs) y = got_end xs y

added_number : (places : List Location) (place : Location) → IsFound places place None → IsNumber (places ++ place ∷ []) place (length places)
added_number places place none = record {
  at = got_end places place;
  first = λ earlier below here. none earlier (sym (got_left places place earlier below) ∙ here);
}

stays_number : (places : List Location) (more place : Location) (number : ℕ) → IsNumber places place number → IsNumber (places ++ more ∷ []) place number
stays_number places more place number h =
    let within : number < length places = slice_get_within places number place h.at in
    record {
      at = got_left places more number within ∙ h.at;
      first = λ earlier below here. h.first earlier below (sym (got_left places more earlier (omega (arith, below, within))) ∙ here);
    }

abbrev now_of : List (Bor Location) → List Location
now_of places = map (λ place. place.now) places

now_more : (places : List (Bor Location)) (place : Bor Location) (new : List (Bor Location)) → new ≡ places ++ place ∷ [] → now_of new ≡ now_of places ++ place.now ∷ []
now_more places place new e = ap now_of e ∙ map-append (λ (p : Bor Location). p.now) places (place ∷ [])

-- an object that isn't in a list gets the next place
pub number_added : (places : List (Bor Location)) (place : Bor Location) (new : List (Bor Location)) (number : ℕ) → new ≡ places ++ place ∷ [] → number ≡ length places
    → IsFound (map (λ place. place.now) places) place.now None → IsNumber (map (λ place. place.now) new) place.now number
number_added places place new number e n none =
    let long : length (now_of places) ≡ number = length-map places (λ (p : Bor Location). p.now) ∙ sym n in
    subst (λ (l : List Location). IsNumber l place.now number) (sym (now_more places place new e))
    (subst (λ (k : ℕ). IsNumber (now_of places ++ place.now ∷ []) place.now k) long (added_number (now_of places) place.now none))

-- and the others keep theirs
pub number_kept : (places : List (Bor Location)) (more : Bor Location) (new : List (Bor Location)) → new ≡ places ++ more ∷ [] → (place : Location) (number : ℕ)
    → IsNumber (map (λ place. place.now) places) place number → IsNumber (map (λ place. place.now) new) place number
number_kept places more new e place number h =
    subst (λ (l : List Location). IsNumber l place number) (sym (now_more places more new e)) (stays_number (now_of places) more.now place number h)

-- ---- bytes that an access writes are taken out

-- of an access that writes nothing
pub unwritten_held : (followed : Followed) (later : List (Mark × Option Touch)) (bytes : ByteSet) (touch : Touch) → writes touch.kind ≡ false → Holds bytes (IsAwaited followed later)
    → Holds bytes (IsLeft followed touch later)
unwritten_held followed later bytes touch w h = record {
  all = λ place byte left. h.all place byte left.1;
  only = λ key has. let was = h.only key has in (was.0, was.1, (λ wr. false≢true (sym w ∙ wr.0), was.2));
}

pub unwritten_given : (followed : Followed) (later : List (Mark × Option Touch)) (touch : Touch) → writes touch.kind ≡ false → Decides false (IsGiven followed touch later)
unwritten_given followed later touch w = (λ e. absurd (false≢true e), λ g. absurd (false≢true (sym w ∙ g.2.0)))

-- of an access to an object of which no byte is awaited
pub unknown_held : (followed : Followed) (later : List (Mark × Option Touch)) (bytes : ByteSet) (touch : Touch) → IsFound (places_of bytes) touch.location None → Holds bytes (IsAwaited followed later)
    → Holds bytes (IsLeft followed touch later)
unknown_held followed later bytes touch none h = record {
  all = λ place byte left. h.all place byte left.1;
  only =
      λ key has.
      let was = h.only key has in
      (was.0, was.1, (λ wr. none key.place (was.1.at ∙ ap (λ (p : Location). Some p) (sym wr.1.there)), was.2));
}

pub unknown_given : (followed : Followed) (later : List (Mark × Option Touch)) (bytes : ByteSet) (touch : Touch) → IsFound (places_of bytes) touch.location None → Holds bytes (IsAwaited followed later)
    → Decides false (IsGiven followed touch later)
unknown_given followed later bytes touch none h = (
  λ e. absurd (false≢true e),
  λ g.
      let was : Has bytes g.0 g.1 = h.all g.0 g.1 g.3 in
      absurd (none was.0 (was.1.at ∙ ap (λ (p : Location). Some p) (sym g.2.1.there))),
)

-- of another one
pub left_held :
    (followed : Followed) (later : List (Mark × Option Touch)) (old new : ByteSet) (touch : Touch) (number : ℕ) → writes touch.kind ≡ true → places_of new ≡ places_of old
    → IsNumber (places_of old) touch.location number
    → ((key : ByteKey) → has_key new.keys key ≡ (has_key old.keys key && not (is_among number touch.byte touch.bytes key)))
    → Holds old (IsAwaited followed later) → Holds new (IsLeft followed touch later)
left_held followed later old new touch number w same num keys h = record {
  all = λ place byte left. kept place byte left (h.all place byte left.1);
  only =
      λ key has.
      let parts : (has_key old.keys key ≡ true) × (not (is_among number touch.byte touch.bytes key) ≡ true) =
      and_parts (has_key old.keys key) (not (is_among number touch.byte touch.bytes key)) (sym (keys key) ∙ has) in
      let was = h.only key parts.0 in (
        was.0,
        subst (λ (l : List Location). IsNumber l was.0 key.place) (sym same) was.1,
        (λ wr. apart key was.0 was.1 wr.1 (not-true (is_among number touch.byte touch.bytes key) parts.1), was.2),
      );
}
  where
    apart : (key : ByteKey) (place : Location) → IsNumber (places_of old) place key.place → IsOn place key.byte touch → is_among number touch.byte touch.bytes key ≡ false → ⊥
    apart key place n on out =
        both_ways (is_among number touch.byte touch.bytes key) out
        (among_from number touch.byte touch.bytes key (number_of_place (places_of old) touch.location place number key.place on.there num n) on.from on.to)

    kept : (place : Location) (byte : ℕ) → IsLeft followed touch later place byte → Has old place byte → Has new place byte
    kept place byte left was =
        let k : ByteKey = byte_key was.0 byte in
        let out : is_among number touch.byte touch.bytes k ≡ false =
        false_from_ne_true (is_among number touch.byte touch.bytes k)
        (λ a.
        let r : (number ≡ was.0) × (touch.byte ≤ byte) × (byte < touch.byte + touch.bytes) = among_is number touch.byte touch.bytes k a in
        left.0 (w, record { there = one_place (places_of old) was.0 touch.location place (subst (λ (n : ℕ). slice_get (places_of old) n ≡ Some touch.location) r.0 num.at) was.1.at; from = r.1; to = r.2 })) in (
          was.0,
          subst (λ (l : List Location). IsNumber l place was.0) (sym same) was.1,
          keys k ∙ and_from (has_key old.keys k) (not (is_among number touch.byte touch.bytes k)) was.2 (not_from_false (is_among number touch.byte touch.bytes k) out),
        )

-- whether one of them was awaited
pub left_given :
    (followed : Followed) (later : List (Mark × Option Touch)) (old : ByteSet) (touch : Touch) (number : ℕ) (taken : Bool) → writes touch.kind ≡ true → IsNumber (places_of old) touch.location number
    → Decides taken ((key : ByteKey) × (is_among number touch.byte touch.bytes key ≡ true) × (has_key old.keys key ≡ true)) → Holds old (IsAwaited followed later)
    → Decides taken (IsGiven followed touch later)
left_given followed later old touch number taken w num d h = (λ e. forth (d.0 e), λ g. d.1 (back g (h.all g.0 g.1 g.3)))
  where
    forth : (key : ByteKey) × (is_among number touch.byte touch.bytes key ≡ true) × (has_key old.keys key ≡ true) → IsGiven followed touch later
    forth t =
        let r : (number ≡ t.0.place) × (touch.byte ≤ t.0.byte) × (t.0.byte < touch.byte + touch.bytes) = among_is number touch.byte touch.bytes t.0 t.1 in
        let was = h.only t.0 t.2 in (
          was.0,
          t.0.byte,
          (w, record { there = one_place (places_of old) t.0.place touch.location was.0 (subst (λ (n : ℕ). slice_get (places_of old) n ≡ Some touch.location) r.0 num.at) was.1.at; from = r.1; to = r.2 }),
          was.2,
        )

    back : (g : IsGiven followed touch later) → Has old g.0 g.1 → (key : ByteKey) × (is_among number touch.byte touch.bytes key ≡ true) × (has_key old.keys key ≡ true)
    back g was = (
      byte_key was.0 g.1,
      among_from number touch.byte touch.bytes (byte_key was.0 g.1) (number_of_place (places_of old) touch.location g.0 number was.0 g.2.1.there num was.1) g.2.1.from g.2.1.to,
      was.2,
    )

-- ---- bytes that an access gives are added

-- an object gets a place
pub placed_held : (those : Location → ℕ → Type 0) (old new : ByteSet) → new.keys ≡ old.keys
    → ((place : Location) (number : ℕ) → IsNumber (places_of old) place number → IsNumber (places_of new) place number) → Holds old those → Holds new those
placed_held those old new same stay h = record {
  all = λ place byte t. let was = h.all place byte t in (was.0, stay place was.0 was.1, ap (λ k. has_key k (byte_key was.0 byte)) same ∙ was.2);
  only = λ key has. let was = h.only key (ap (λ k. has_key k key) (sym same) ∙ has) in (was.0, stay was.0 key.place was.1, was.2);
}

pub added_held :
    (followed : Followed) (mark : Mark) (later : List (Mark × Option Touch)) (old new : ByteSet) (touch : Touch) (number : ℕ) → is_theirs followed mark.event ≡ true → gives touch.kind ≡ true
    → places_of new ≡ places_of old → IsNumber (places_of old) touch.location number
    → ((key : ByteKey) → has_key new.keys key ≡ (has_key old.keys key || is_among number touch.byte touch.bytes key))
    → Holds old (IsLeft followed touch later) → Holds new (IsAwaited followed ((mark, Some touch) ∷ later))
added_held followed mark later old new touch number theirs g same num keys h = record { all = all; only = λ key has. only key (or_cases (has_key old.keys key) (is_among number touch.byte touch.bytes key) (sym (keys key) ∙ has)) }
  where
    moved : (place : Location) (n : ℕ) → IsNumber (places_of old) place n → IsNumber (places_of new) place n
    moved place n k = subst (λ (l : List Location). IsNumber l place n) (sym same) k

    all : (place : Location) (byte : ℕ) → IsAwaited followed ((mark, Some touch) ∷ later) place byte → Has new place byte
    all place byte (inl gets) =
        let k : ByteKey = byte_key number byte in (
          number,
          moved place number (subst (λ (l : Location). IsNumber (places_of old) l number) gets.2.there num),
          keys k ∙ or_right (has_key old.keys k) (is_among number touch.byte touch.bytes k) (among_from number touch.byte touch.bytes k refl gets.2.from gets.2.to),
        )
    all place byte (inr left) =
        let was : Has old place byte = h.all place byte left in
        let k : ByteKey = byte_key was.0 byte in
        (was.0, moved place was.0 was.1, keys k ∙ or_left (has_key old.keys k) (is_among number touch.byte touch.bytes k) was.2)

    only : (key : ByteKey) → (has_key old.keys key ≡ true) ⊎ (is_among number touch.byte touch.bytes key ≡ true)
        → (place : Location) × IsNumber (places_of new) place key.place × IsAwaited followed ((mark, Some touch) ∷ later) place key.byte
    only key (inl there) = let was = h.only key there in (was.0, moved was.0 key.place was.1, inr was.2)
    only key (inr a) =
        let r : (number ≡ key.place) × (touch.byte ≤ key.byte) × (key.byte < touch.byte + touch.bytes) = among_is number touch.byte touch.bytes key a in (
          touch.location,
          moved touch.location key.place (subst (λ (n : ℕ). IsNumber (places_of old) touch.location n) r.0 num),
          inl (theirs, g, record { there = refl; from = r.1; to = r.2 }),
        )

-- of an access that gives nothing, or is of another item
pub ungiven_held : (followed : Followed) (mark : Mark) (later : List (Mark × Option Touch)) (bytes : ByteSet) (touch : Touch) → gives touch.kind ≡ false → Holds bytes (IsLeft followed touch later)
    → Holds bytes (IsAwaited followed ((mark, Some touch) ∷ later))
ungiven_held followed mark later bytes touch g h = record { all = all; only = λ key has. let was = h.only key has in (was.0, was.1, inr was.2) }
  where
    all : (place : Location) (byte : ℕ) → IsAwaited followed ((mark, Some touch) ∷ later) place byte → Has bytes place byte
    all place byte (inl gets) = absurd (false≢true (sym g ∙ gets.1))
    all place byte (inr left) = h.all place byte left

pub others_held : (followed : Followed) (mark : Mark) (later : List (Mark × Option Touch)) (bytes : ByteSet) (touch : Touch) → is_theirs followed mark.event ≡ false → Holds bytes (IsLeft followed touch later)
    → Holds bytes (IsAwaited followed ((mark, Some touch) ∷ later))
others_held followed mark later bytes touch o h = record { all = all; only = λ key has. let was = h.only key has in (was.0, was.1, inr was.2) }
  where
    all : (place : Location) (byte : ℕ) → IsAwaited followed ((mark, Some touch) ∷ later) place byte → Has bytes place byte
    all place byte (inl gets) = absurd (false≢true (sym o ∙ gets.0))
    all place byte (inr left) = h.all place byte left

-- an event without an access
pub skipped_held : (followed : Followed) (mark : Mark) (later : List (Mark × Option Touch)) (bytes : ByteSet) → Holds bytes (IsAwaited followed later) → Holds bytes (IsAwaited followed ((mark, None) ∷ later))
skipped_held followed mark later bytes h = record { all = all; only = λ key has. let was = h.only key has in (was.0, was.1, inr ((λ w. w), was.2)) }
  where
    all : (place : Location) (byte : ℕ) → IsAwaited followed ((mark, None) ∷ later) place byte → Has bytes place byte
    all place byte (inl gets) = absurd gets
    all place byte (inr left) = h.all place byte left.1
