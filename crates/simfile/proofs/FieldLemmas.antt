-- Fields as loops find them.
use Rattle.std.proofs.Common.{◌≡◌, ℕ, zero, suc, ◌+◌, ◌-◌, ◌*◌, ◌<◌, ◌≤◌, Bool, true, false, ◌&&◌, if◌then◌else◌, List, [], ◌∷◌, ◌++◌, append_assoc, length, take, drop, set, get_or, None, Some, refl, ap, sym, ◌∙◌, arith}
use Rattle.std.proofs.lemmas.Bool.{false≢true}
use Rattle.std.proofs.lemmas.Bool.Decides.{nat_tests}
use Rattle.std.proofs.lemmas.List.{append-nil, at_drop_more, at_drop_all, drop-take, take-append-drop, take-take, take_all, take_more_set}
use Rattle.std.proofs.lemmas.List.Concat.{flat_map-append}
use Rattle.std.proofs.lemmas.List.Folds.{list_all-append}
use Rattle.std.specs.List.{flat_map, list_all}
use Rattle.byte_io.specs.Sink.{Sink, Wrote, Stopped}
use Rattle.byte_io.proofs.Puts.{wrote_then, stopped_then, stopped_more}
use Rattle.text_lines.specs.Fronts.{front_length}
use Rattle.simfile.specs.Fields.{bytes_of, hex_value}
use Rattle.simfile.specs.Reading.{lines_end}

-- the steps through the lines

pub lines_last : (n at b : ℕ) (bs : List ℕ) → b ≡ 10 → n ≡ 1 → lines_end n at (b ∷ bs) ≡ Some (at + 1)
lines_last n at b bs e f = rw (e, f) refl

pub lines_feed : (n at b : ℕ) (bs : List ℕ) → b ≡ 10 → (n ≡ 1 → ⊥) → lines_end n at (b ∷ bs) ≡ lines_end (n - 1) (at + 1) bs
lines_feed n at b bs e f = rw e (grind (arith, nat_tests))

pub lines_other : (n at b : ℕ) (bs : List ℕ) → (b ≡ 10 → ⊥) → lines_end n at (b ∷ bs) ≡ lines_end n (at + 1) bs
lines_other n at b bs e = grind (arith, nat_tests)

pub end_found : (n c i : ℕ) (bs : List ℕ) → i < length bs → get_or bs i 0 ≡ 10 → n ≡ 1 → lines_end n i (drop i bs) ≡ lines_end c 0 bs → Some (i + 1) ≡ lines_end c 0 bs
end_found n c i bs h e f p = sym (lines_last n i (get_or bs i 0) (drop (i + 1) bs) e f) ∙ (sym (at_drop_more (lines_end n i) bs i 0 h) ∙ p)

pub end_feed : (n c i : ℕ) (bs : List ℕ) → i < length bs → get_or bs i 0 ≡ 10 → (n ≡ 1 → ⊥) → lines_end n i (drop i bs) ≡ lines_end c 0 bs → lines_end (n - 1) (i + 1) (drop (i + 1) bs) ≡ lines_end c 0 bs
end_feed n c i bs h e f p = sym (lines_feed n i (get_or bs i 0) (drop (i + 1) bs) e f) ∙ (sym (at_drop_more (lines_end n i) bs i 0 h) ∙ p)

pub end_other : (n c i : ℕ) (bs : List ℕ) → i < length bs → (get_or bs i 0 ≡ 10 → ⊥) → lines_end n i (drop i bs) ≡ lines_end c 0 bs → lines_end n (i + 1) (drop (i + 1) bs) ≡ lines_end c 0 bs
end_other n c i bs h e p = sym (lines_other n i (get_or bs i 0) (drop (i + 1) bs) e) ∙ (sym (at_drop_more (lines_end n i) bs i 0 h) ∙ p)

pub end_none : (n c i : ℕ) (bs : List ℕ) → length bs ≤ i → lines_end n i (drop i bs) ≡ lines_end c 0 bs → None ≡ lines_end c 0 bs
end_none n c i bs h p = sym (at_drop_all (lines_end n i) bs i h) ∙ p

-- two digits more

bytes_pair : (ds rest : List ℕ) (a b : ℕ) → ds ≡ a ∷ b ∷ rest → bytes_of ds ≡ (16 * hex_value a + hex_value b) ∷ bytes_of rest
bytes_pair ds rest a b e = ap bytes_of e

pub bytes_more : (i : ℕ) (ds : List ℕ) → 2 * i + 1 < length ds → bytes_of (drop (2 * i) ds) ≡ (16 * hex_value (get_or ds (2 * i) 0) + hex_value (get_or ds (2 * i + 1) 0)) ∷ bytes_of (drop (2 * (i + 1)) ds)
bytes_more i ds h =
    let one : drop (2 * i) ds ≡ get_or ds (2 * i) 0 ∷ drop (2 * i + 1) ds = at_drop_more (λ l. l) ds (2 * i) 0 (omega (arith, h)) in
    let two : drop (2 * i + 1) ds ≡ get_or ds (2 * i + 1) 0 ∷ drop (2 * i + 1 + 1) ds = at_drop_more (λ l. l) ds (2 * i + 1) 0 h in
    let next : 2 * (i + 1) ≡ 2 * i + 1 + 1 = omega arith in
    bytes_pair (drop (2 * i) ds) (drop (2 * (i + 1)) ds) (get_or ds (2 * i) 0) (get_or ds (2 * i + 1) 0) (rw next (one ∙ ap (λ l. get_or ds (2 * i) 0 ∷ l) two))

pub bytes_last : (ds : List ℕ) → length ds < 2 → bytes_of ds ≡ []
bytes_last [] h = refl
bytes_last (a ∷ []) h = refl
bytes_last (a ∷ b ∷ ds) h = absurd (omega (arith, h))

-- pairs of digits are read over bytes

pub pairs_more : (i v : ℕ) (bs ds : List ℕ) → i < length bs → 2 * i + 1 < length ds → v ≡ 16 * hex_value (get_or ds (2 * i) 0) + hex_value (get_or ds (2 * i + 1) 0) → take i bs ++ bytes_of (drop (2 * i) ds) ≡ bytes_of ds → take (i + 1) (set bs i v) ++ bytes_of (drop (2 * (i + 1)) ds) ≡ bytes_of ds
pairs_more i v bs ds h k e p =
    let front : take (i + 1) (set bs i v) ≡ take i bs ++ v ∷ [] = take_more_set bs i v h in
    let more : bytes_of (drop (2 * i) ds) ≡ v ∷ bytes_of (drop (2 * (i + 1)) ds) = bytes_more i ds k ∙ ap (λ n. n ∷ bytes_of (drop (2 * (i + 1)) ds)) (sym e) in
    rw front (append_assoc (take i bs) (v ∷ []) (bytes_of (drop (2 * (i + 1)) ds)) ∙ (ap (λ l. take i bs ++ l) (sym more) ∙ p))

pub pairs_all : (i : ℕ) (bs ds : List ℕ) → length bs ≤ i → length (drop (2 * i) ds) < 2 → take i bs ++ bytes_of (drop (2 * i) ds) ≡ bytes_of ds → bs ≡ bytes_of ds
pairs_all i bs ds h short p = sym (take_all i bs h) ∙ (sym (append-nil (take i bs)) ∙ (ap (λ l. take i bs ++ l) (sym (bytes_last (drop (2 * i) ds) short)) ∙ p))

-- blocks of a list

pub take_block : {X : Type 0} (n k : ℕ) (xs : List X) → take (n + k) xs ≡ take n xs ++ take k (drop n xs)
take_block n k xs =
    sym (take-append-drop n (take (n + k) xs)) ∙ (ap (λ l. l ++ drop n (take (n + k) xs)) (take-take n (n + k) xs (omega arith)) ∙ ap (λ l. take n xs ++ l) (drop-take n k xs))

-- a front is what lies before a place, and what lies behind
pub take_between : {X : Type 0} (n e m : ℕ) (xs : List X) → n ≤ e → m ≡ e → take m xs ≡ take n xs ++ take (e - n) (drop n xs)
take_between n e m xs h is = let same : m ≡ n + (e - n) = omega (arith, h, is) in ap (λ k. take k xs) same ∙ take_block n (e - n) xs

pub all_between : (p : ℕ → Bool) (n e m : ℕ) (xs : List ℕ) → n ≤ e → m ≡ e → list_all p (take n xs) ≡ true → list_all p (take (e - n) (drop n xs)) ≡ true → list_all p (take m xs) ≡ true
all_between p n e m xs h is before behind =
    ap (list_all p) (take_between n e m xs h is) ∙ (list_all-append p (take n xs) (take (e - n) (drop n xs)) ∙ (ap (λ v. v && list_all p (take (e - n) (drop n xs))) before ∙ behind))

-- a front of a list whose items pass
pub front_past : (p : ℕ → Bool) (n : ℕ) (bs : List ℕ) → n ≤ length bs → list_all p (take n bs) ≡ true → n + front_length p (drop n bs) ≡ front_length p bs
front_past p zero bs h e = omega arith
front_past p (suc n) [] h e = absurd (omega (arith, h))
front_past p (suc n) (b ∷ bs) h e =
    let more : list_all p (take n bs) ≡ true → n + front_length p (drop n bs) ≡ front_length p bs = front_past p n bs (omega (arith, h)) in
    (elim (p b) as (λ v. (v && list_all p (take n bs)) ≡ true → suc n + front_length p (drop n bs) ≡ (if v then front_length p bs + 1 else 0)) [
      | true ↦ λ q. let same = more q in omega (arith, same)
      | false ↦ λ q. absurd (false≢true q)
    ]) e

-- chunks that are written

flat_between : (f : ℕ → List ℕ) (n e m : ℕ) (xs : List ℕ) → n ≤ e → m ≡ e → flat_map f (take m xs) ≡ flat_map f (take n xs) ++ flat_map f (take (e - n) (drop n xs))
flat_between f n e m xs h is = ap (flat_map f) (take_between n e m xs h is) ∙ flat_map-append f (take n xs) (take (e - n) (drop n xs))

pub flat_rest : (f : ℕ → List ℕ) (n : ℕ) (xs : List ℕ) → n ≤ length xs → flat_map f xs ≡ flat_map f (take n xs) ++ flat_map f (take (length xs - n) (drop n xs))
flat_rest f n xs h = ap (flat_map f) (sym (take_all (length xs) xs (omega arith))) ∙ flat_between f n (length xs) (length xs) xs h refl

pub chunk_wrote : {a b c : Sink} (f : ℕ → List ℕ) (n e m : ℕ) (xs : List ℕ) → n ≤ e → m ≡ e → Wrote a b (flat_map f (take n xs)) → Wrote b c (flat_map f (take (e - n) (drop n xs))) → Wrote a c (flat_map f (take m xs))
chunk_wrote f n e m xs h is p q = rw (flat_between f n e m xs h is) (wrote_then p q)

pub chunk_stopped : {a b c : Sink} (f : ℕ → List ℕ) (n e m : ℕ) (xs : List ℕ) → n ≤ e → e ≤ m → Wrote a b (flat_map f (take n xs)) → Stopped b c (flat_map f (take (e - n) (drop n xs))) → Stopped a c (flat_map f (take m xs))
chunk_stopped f n e m xs h k p q =
    rw (flat_between f e m m xs k refl, flat_between f n e e xs h refl) (stopped_more (flat_map f (take (m - e) (drop e xs))) (stopped_then p q))
