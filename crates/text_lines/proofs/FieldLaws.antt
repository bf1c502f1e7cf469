-- Fields of a line: what is read is the text of the field, and that text is read.
use Rattle.std.proofs.Common.{◌≡◌, ℕ, zero, suc, ◌+◌, ◌-◌, ℤ, pos, negsuc, map, ◌<◌, ◌≤◌, ◌^◌, ◌==◌, Bool, true, false, not, ◌&&◌, ◌||◌, List, [], ◌∷◌, ◌++◌, length, take, drop, get_or, slice_index, Option, None, Some, refl, ap, sym, ◌∙◌, subst, arith, rules, nat_lt, nat_le, nat_eq, if◌then◌else◌, decimal, IsTrue}
use Rattle.std.proofs.lemmas.List.{take-append-drop}
use Rattle.std.proofs.Math.Seq.{take-append_seam, drop-append_seam}
use Rattle.std.proofs.lemmas.Bool.Decides.{nat_tests}
use Rattle.std.proofs.lemmas.Bool.{ne_eqb}
use Rattle.std.proofs.lemmas.Str.Parse.{IsNumeralModel, numerals_by_fold}
use Rattle.std.proofs.lemmas.Fmt.{digits_decimal, digits_value-decimal, decimal-digits_value, decimal_nonempty, first_decimal, decimal_digit}
use Rattle.std.specs.List.{list_all, onto_first, join_with_byte, All}
use Rattle.std.specs.Fmt.{signed_decimal}
use Rattle.std.proofs.lemmas.List.Splits.{slice_split_at, slice_split_none, slice_split-cons_yes, slice_split-cons_no, length-slice_split, join_with_byte-slice_split}
use Rattle.std.proofs.lemmas.List.Folds.{list_all-append}
use Rattle.std.proofs.lemmas.List.Sums.{AllPass-from_list_all}
use Rattle.std.specs.Str.{all_ascii_digits}
use Rattle.std.specs.Char.{is_ascii_digit}
use lib.Pointwise.{pointwise, bytes_decides}
use Rattle.text_lines.specs.Texts.{is_name_to, is_first, is_later, is_number, value_of, value_behind, is_listed, is_number_below, number_below, is_list_below, between_commas, numbers_below, IsListBelow, list_text, IsValue}
use Rattle.text_lines.specs.Fronts.{after, name_to, number_at, list_below, negative_at, positive_at, value_at, front_length, before, or_else, ◌>>=◌}

pub bind_some : {A B : Type 0} (o : Option A) (f : A → Option B) (y : B) → (o >>= f) ≡ Some y → (x : A) × (o ≡ Some x) × (f x ≡ Some y)
bind_some None f y e = absurd (cc)
bind_some (Some x) f y e = (x, refl, e)

-- what is read first, what that says, and what is read behind it
pub read_then : {A B : Type 0} {o : Option A} {P : A → Type 0} {y : B} (f : A → Option B) → ((x : A) → o ≡ Some x → P x) → (o >>= f) ≡ Some y → (x : A) × P x × (f x ≡ Some y)
read_then {o} {P} {y} f says e =
    let s = bind_some o f y e in
    (s.0, says s.0 s.1, s.2)

pub if_some : {A : Type 0} (b : Bool) (v x : A) → (if b then Some v else None) ≡ Some x → (b ≡ true) × (v ≡ x)
if_some true v x e = (refl, cc)
if_some false v x e = absurd (cc)

pub and_true : (a b : Bool) → (a && b) ≡ true → (a ≡ true) × (b ≡ true)
and_true true b e = (refl, e)
and_true false b e = absurd (cc)

-- a word

pub after_takes : (word bytes rest : List ℕ) → after word bytes ≡ Some rest → bytes ≡ word ++ rest
unfolding after
after_takes word bytes rest e =
    let p = if_some (pointwise nat_eq (take (length word) bytes) word) (drop (length word) bytes) rest e in
    let front : take (length word) bytes ≡ word = (bytes_decides (take (length word) bytes) word).0 p.0 in
    sym (take-append-drop (length word) bytes) ∙ (ap (λ l. l ++ drop (length word) bytes) front ∙ ap (λ l. word ++ l) p.1)

pub after_again : (word rest : List ℕ) → after word (word ++ rest) ≡ Some rest
unfolding after
after_again word rest = rw (take-append_seam word rest, drop-append_seam word rest, (bytes_decides word word).1 refl) refl

-- what is in front

front_step : (p : ℕ → Bool) (b n : ℕ) (bs : List ℕ) (v : Bool) → p b ≡ v → list_all p (take n bs) ≡ true → list_all p (take (if v then n + 1 else 0) (b ∷ bs)) ≡ true
front_step p b n bs true e h = let one : n + 1 ≡ suc n = omega arith in rw (one, e) h
front_step p b n bs false e h = refl

pub front_passes : (p : ℕ → Bool) (bs : List ℕ) → list_all p (take (front_length p bs) bs) ≡ true
front_passes p [] = refl
front_passes p (b ∷ bs) = front_step p b (front_length p bs) bs (p b) refl (front_passes p bs)

pub front_of : (p : ℕ → Bool) (front : List ℕ) (b : ℕ) (rest : List ℕ) → list_all p front ≡ true → p b ≡ false → front_length p (front ++ b ∷ rest) ≡ length front
front_of p [] b rest h e = rw e refl
front_of p (x ∷ front) b rest h e =
    let both = and_true (p x) (list_all p front) h in
    let more = front_of p front b rest both.1 e in
    let one : front_length p (front ++ b ∷ rest) + 1 ≡ suc (length front) = omega (arith, more) in
    rw both.0 one

-- a name

pub name_to_takes : (most : ℕ) (bytes : List ℕ) (x : List ℕ × List ℕ) → name_to most bytes ≡ Some x → (bytes ≡ x.0 ++ x.1) × IsTrue (is_name_to most x.0)
unfolding name_to
name_to_takes most bytes x e =
    let n = front_length is_later bytes in
    let p = if_some (is_name_to most (take n bytes)) (take n bytes, drop n bytes) x e in
    let P : List ℕ × List ℕ → Type 0 = λ y. (bytes ≡ y.0 ++ y.1) × IsTrue (is_name_to most y.0) in
    subst P p.1 (sym (take-append-drop n bytes), p.0)

pub first_later : (b : ℕ) → is_first b ≡ true → is_later b ≡ true
unfolding is_later
first_later b e = rw e refl

pub name_later : (most : ℕ) (name : List ℕ) → IsTrue (is_name_to most name) → list_all is_later name ≡ true
name_later most [] h = refl
name_later most (b ∷ bs) h =
    let p = and_true (is_first b && nat_lt (length bs) most) (list_all is_later bs) h in
    let q = and_true (is_first b) (nat_lt (length bs) most) p.0 in
    rw (first_later b q.0) p.1

pub name_to_again : (most : ℕ) (name : List ℕ) → IsTrue (is_name_to most name) → (b : ℕ) (rest : List ℕ) → is_later b ≡ false → name_to most (name ++ b ∷ rest) ≡ Some (name, b ∷ rest)
unfolding name_to
name_to_again most name h b rest e =
    let n = front_of is_later name b rest (name_later most name h) e in
    rw (n, take-append_seam name (b ∷ rest), drop-append_seam name (b ∷ rest), h) refl

pub space_ends : is_later 32 ≡ false
unfolding is_later
space_ends = refl

pub feed_ends : is_later 10 ≡ false
unfolding is_later
feed_ends = refl

-- a number

pub own : IsNumeralModel (λ ds. all_ascii_digits ds ≡ true) value_of
own = numerals_by_fold _ (search rules) value_behind (search rules)

pub all_digits : (ds : List ℕ) → list_all is_ascii_digit ds ≡ all_ascii_digits ds
all_digits [] = refl
all_digits (d ∷ ds) = ap (λ b. is_ascii_digit d && b) (all_digits ds)

-- no zero leads others
pub leads : (ds : List ℕ) → (nat_lt 0 (length ds) && (not (slice_index ds 0 == 48) || (length ds == 1))) ≡ true → (0 < length ds) × (get_or ds 0 0 ≡ 48 → length ds ≡ 1)
leads ds h = grind (arith, nat_tests)

pub number_takes : (bytes : List ℕ) (x : ℕ × List ℕ) → number_at bytes ≡ Some x → (bytes ≡ decimal x.0 ++ x.1) × (x.0 < 2 ^ 64)
unfolding number_at
number_takes bytes x e =
    let n = front_length is_ascii_digit bytes in
    let ds = take n bytes in
    let p = if_some (is_number ds) (value_of ds, drop n bytes) x e in
    let q = and_true (nat_lt 0 (length ds) && (not (slice_index ds 0 == 48) || (length ds == 1))) (nat_lt (value_of ds) 18446744073709551616) p.0 in
    let small : value_of ds < 2 ^ 64 = grind (arith, nat_tests) in
    let lead = leads ds q.0 in
    let digits : all_ascii_digits ds ≡ true = sym (all_digits ds) ∙ front_passes is_ascii_digit bytes in
    let text : decimal (value_of ds) ≡ ds = decimal-digits_value own ds digits lead.0 lead.1 small in
    let P : ℕ × List ℕ → Type 0 = λ y. (bytes ≡ decimal y.0 ++ y.1) × (y.0 < 2 ^ 64) in
    subst P p.1 (rw text (sym (take-append-drop n bytes)), small)

plain_number : (ds : List ℕ) (v : ℕ) → 48 < get_or ds 0 0 → 0 < length ds → v < 2 ^ 64 → (nat_lt 0 (length ds) && (not (slice_index ds 0 == 48) || (length ds == 1)) && nat_lt v 18446744073709551616) ≡ true
plain_number ds v lead some small = grind (arith, nat_tests)

pub is_number_decimal : (n : ℕ) → n < 2 ^ 64 → is_number (decimal n) ≡ true
is_number_decimal zero h = rw (decimal_digit 0 (omega arith)) refl
is_number_decimal (suc n) h =
    let lead : 48 < get_or (decimal (suc n)) 0 0 = first_decimal (suc n) (omega arith) h in
    let some : 0 < length (decimal (suc n)) = decimal_nonempty (suc n) h in
    let value : value_of (decimal (suc n)) ≡ suc n = digits_value-decimal own (suc n) h in
    rw value (plain_number (decimal (suc n)) (suc n) lead some h)

pub number_again : (n : ℕ) → n < 2 ^ 64 → (b : ℕ) (rest : List ℕ) → is_ascii_digit b ≡ false → number_at (decimal n ++ b ∷ rest) ≡ Some (n, b ∷ rest)
unfolding number_at
number_again n h b rest e =
    let digits : list_all is_ascii_digit (decimal n) ≡ true = all_digits (decimal n) ∙ digits_decimal own n h in
    let front = front_of is_ascii_digit (decimal n) b rest digits e in
    let value : value_of (decimal n) ≡ n = digits_value-decimal own n h in
    rw (front, take-append_seam (decimal n) (b ∷ rest), drop-append_seam (decimal n) (b ∷ rest), is_number_decimal n h, value) refl

pub decimal_digits : (n : ℕ) → n < 2 ^ 64 → list_all is_ascii_digit (decimal n) ≡ true
decimal_digits n h = all_digits (decimal n) ∙ digits_decimal own n h

-- a list of numbers below a limit

number_text : (limit : ℕ) (ds : List ℕ) → list_all is_ascii_digit ds ≡ true → is_number_below limit ds ≡ true → (decimal (number_below limit ds) ≡ ds) × (nat_lt (number_below limit ds) limit ≡ true)
number_text limit ds digits h =
    let both = and_true (is_number ds) (nat_lt (value_of ds) limit) h in
    let q = and_true (nat_lt 0 (length ds) && (not (slice_index ds 0 == 48) || (length ds == 1))) (nat_lt (value_of ds) 18446744073709551616) both.0 in
    let small : value_of ds < 2 ^ 64 = grind (arith, nat_tests) in
    let lead = leads ds q.0 in
    let text : decimal (value_of ds) ≡ ds = decimal-digits_value own ds (sym (all_digits ds) ∙ digits) lead.0 lead.1 small in
    rw h (text, both.1)

onto_digits : (b : ℕ) (parts : List (List ℕ)) → is_ascii_digit b ≡ true → list_all (list_all is_ascii_digit) parts ≡ true → list_all (list_all is_ascii_digit) (onto_first b parts) ≡ true
onto_digits b [] e h = rw e refl
onto_digits b (part ∷ parts) e h = rw e h

listed_digit : (b : ℕ) → is_listed b ≡ true → (b == 44) ≡ false → is_ascii_digit b ≡ true
unfolding is_listed
listed_digit b h e = let or_false : (c : Bool) → (c || false) ≡ true → c ≡ true = λ c k. elim c as (λ v. (v || false) ≡ true → v ≡ true) [ true ↦ λ k. refl | false ↦ λ k. k ] k in or_false (is_ascii_digit b) (rw e at h)

parts_step : (b : ℕ) (bs : List ℕ) (v : Bool) → (b == 44) ≡ v → is_listed b ≡ true → list_all (list_all is_ascii_digit) (between_commas bs) ≡ true → list_all (list_all is_ascii_digit) (between_commas (b ∷ bs)) ≡ true
parts_step b bs true e h p = rw (slice_split-cons_yes (λ x. x == 44) b bs e) p
parts_step b bs false e h p = rw (slice_split-cons_no (λ x. x == 44) b bs e) (onto_digits b (between_commas bs) (listed_digit b h e) p)

parts_digits : (text : List ℕ) → list_all is_listed text ≡ true → list_all (list_all is_ascii_digit) (between_commas text) ≡ true
parts_digits [] h = refl
parts_digits (b ∷ bs) h =
    let both = and_true (is_listed b) (list_all is_listed bs) h in
    parts_step b bs (b == 44) refl both.0 (parts_digits bs both.1)

parts_text : (limit : ℕ) (parts : List (List ℕ)) → list_all (list_all is_ascii_digit) parts ≡ true → list_all (is_number_below limit) parts ≡ true → (map decimal (map (number_below limit) parts) ≡ parts) × (list_all (λ n. nat_lt n limit) (map (number_below limit) parts) ≡ true)
parts_text limit [] d h = (refl, refl)
parts_text limit (ds ∷ parts) d h =
    let digits = and_true (list_all is_ascii_digit ds) (list_all (list_all is_ascii_digit) parts) d in
    let both = and_true (is_number_below limit ds) (list_all (is_number_below limit) parts) h in
    let one = number_text limit ds digits.0 both.0 in
    let more = parts_text limit parts digits.1 both.1 in
    (rw (one.0, more.0) refl, rw one.1 more.1)

parts_some : (limit : ℕ) (parts : List (List ℕ)) → length (map (number_below limit) parts) ≡ length parts
parts_some limit [] = refl
parts_some limit (ds ∷ parts) = ap suc (parts_some limit parts)

pub list_below_takes : (limit : ℕ) (bytes : List ℕ) (x : List ℕ × List ℕ) → list_below limit bytes ≡ Some x → (bytes ≡ list_text (numbers_below limit x.0) ++ x.1) × IsListBelow limit (numbers_below limit x.0)
unfolding list_below
list_below_takes limit bytes x e =
    let n = front_length is_listed bytes in
    let text = take n bytes in
    let p = if_some (is_list_below limit text) (text, drop n bytes) x e in
    let h = parts_text limit (between_commas text) (parts_digits text (front_passes is_listed bytes)) p.0 in
    let same : list_text (numbers_below limit text) ≡ text = ap (join_with_byte 44) h.0 ∙ join_with_byte-slice_split 44 text in
    let some : 0 < length (numbers_below limit text) = omega (arith, length-slice_split (λ b. b == 44) text, parts_some limit (between_commas text)) in
    let P : List ℕ × List ℕ → Type 0 = λ y. (bytes ≡ list_text (numbers_below limit y.0) ++ y.1) × IsListBelow limit (numbers_below limit y.0) in
    subst P p.1 (rw same (sym (take-append-drop n bytes)), (some, h.1))

no_comma : (b : ℕ) → is_ascii_digit b ≡ true → (b == 44) ≡ false
no_comma b h = ne_eqb b 44 (λ e. let f : is_ascii_digit 44 ≡ true = ap is_ascii_digit (sym e) ∙ h in absurd (cc))

digit_listed : (b : ℕ) → is_ascii_digit b ≡ true → is_listed b ≡ true
unfolding is_listed
digit_listed b h = rw h refl

digits_listed : (ds : List ℕ) → list_all is_ascii_digit ds ≡ true → list_all is_listed ds ≡ true
digits_listed [] h = refl
digits_listed (d ∷ ds) h = let both = and_true (is_ascii_digit d) (list_all is_ascii_digit ds) h in rw (digit_listed d both.0) (digits_listed ds both.1)

no_commas : (n : ℕ) → n < 2 ^ 64 → All (λ b. (b == 44) ≡ false) (decimal n)
no_commas n h = let all = AllPass-from_list_all is_ascii_digit (decimal n) (decimal_digits n h) in λ k d in_it. no_comma _ (all k d in_it)

comma_listed : is_listed 44 ≡ true
unfolding is_listed
comma_listed = refl

below : (limit n : ℕ) → limit ≤ 2 ^ 64 → nat_lt n limit ≡ true → n < 2 ^ 64
below limit n most h = grind (arith, nat_tests)

is_below_decimal : (limit n : ℕ) → limit ≤ 2 ^ 64 → nat_lt n limit ≡ true → is_number_below limit (decimal n) ≡ true
is_below_decimal limit n most h = let small = below limit n most h in rw (is_number_decimal n small, digits_value-decimal own n small) h

-- what the text of a list is made of
record ListText (limit : ℕ) (numbers : List ℕ) : Type 0 where
  listed : list_all is_listed (list_text numbers) ≡ true
  parts : between_commas (list_text numbers) ≡ map decimal numbers
  numbers_are : list_all (is_number_below limit) (map decimal numbers) ≡ true
  back : map (number_below limit) (map decimal numbers) ≡ numbers

list_made : (limit : ℕ) → limit ≤ 2 ^ 64 → (n : ℕ) (ns : List ℕ) → list_all (λ m. nat_lt m limit) (n ∷ ns) ≡ true → ListText limit (n ∷ ns)
list_made limit most n [] h =
    let both = and_true (nat_lt n limit) true h in
    let small = below limit n most both.0 in
    let is = is_below_decimal limit n most both.0 in
    let value : number_below limit (decimal n) ≡ n = rw is (digits_value-decimal own n small) in
    record {
      listed = digits_listed (decimal n) (decimal_digits n small);
      parts = slice_split_none (λ b. b == 44) (decimal n) (no_commas n small);
      numbers_are = rw is refl;
      back = ap (λ m. m ∷ []) value;
    }
list_made limit most n (m ∷ ns) h =
    let both = and_true (nat_lt n limit) (list_all (λ k. nat_lt k limit) (m ∷ ns)) h in
    let small = below limit n most both.0 in
    let is = is_below_decimal limit n most both.0 in
    let value : number_below limit (decimal n) ≡ n = rw is (digits_value-decimal own n small) in
    let more = list_made limit most m ns both.1 in
    record {
      listed = list_all-append is_listed (decimal n) (44 ∷ list_text (m ∷ ns)) ∙ rw (digits_listed (decimal n) (decimal_digits n small), comma_listed) more.listed;
      parts = slice_split_at (λ b. b == 44) (decimal n) 44 (list_text (m ∷ ns)) (no_commas n small) refl ∙ ap (λ l. decimal n ∷ l) more.parts;
      numbers_are = rw is more.numbers_are;
      back = ap (λ k. k ∷ map (number_below limit) (map decimal (m ∷ ns))) value ∙ ap (λ l. n ∷ l) more.back;
    }

list_is : (limit : ℕ) → limit ≤ 2 ^ 64 → (numbers : List ℕ) → IsListBelow limit numbers → ListText limit numbers
list_is limit most [] h = absurd (omega (arith, h.0))
list_is limit most (n ∷ ns) h = list_made limit most n ns h.1

pub list_below_again : (limit : ℕ) → limit ≤ 2 ^ 64 → (numbers : List ℕ) → IsListBelow limit numbers → (b : ℕ) (rest : List ℕ) → is_listed b ≡ false → list_below limit (list_text numbers ++ b ∷ rest) ≡ Some (list_text numbers, b ∷ rest)
unfolding list_below
list_below_again limit most numbers h b rest e =
    let t = list_is limit most numbers h in
    let n = front_of is_listed (list_text numbers) b rest t.listed e in
    rw (n, take-append_seam (list_text numbers) (b ∷ rest), drop-append_seam (list_text numbers) (b ∷ rest), t.parts, t.numbers_are) refl

pub list_below_back : (limit : ℕ) → limit ≤ 2 ^ 64 → (numbers : List ℕ) → IsListBelow limit numbers → numbers_below limit (list_text numbers) ≡ numbers
list_below_back limit most numbers h = let t = list_is limit most numbers h in ap (map (number_below limit)) t.parts ∙ t.back

pub space_ends_list : is_listed 32 ≡ false
unfolding is_listed
space_ends_list = refl

pub feed_ends_list : is_listed 10 ≡ false
unfolding is_listed
feed_ends_list = refl

-- a number behind a sign

negative_takes : (bytes : List ℕ) (x : ℤ × List ℕ) → negative_at bytes ≡ Some x → (45 ∷ bytes ≡ signed_decimal x.0 ++ x.1) × IsValue x.0
unfolding negative_at
negative_takes bytes x e =
    let s = bind_some (number_at bytes) _ x e in
    let t = number_takes bytes s.0 s.1 in
    let p = if_some (nat_lt 0 s.0.0 && nat_le s.0.0 9223372036854775808) (negsuc (s.0.0 - 1), s.0.1) x s.2 in
    let within : (0 < s.0.0) × (s.0.0 ≤ 2 ^ 63) = between s.0.0 p.0 in
    let same : suc (s.0.0 - 1) ≡ s.0.0 = omega (arith, within.0) in
    let P : ℤ × List ℕ → Type 0 = λ y. (45 ∷ bytes ≡ signed_decimal y.0 ++ y.1) × IsValue y.0 in
    subst P p.1 (rw same (ap (λ l. 45 ∷ l) t.0), rw same within.1) where
      between : (n : ℕ) → (nat_lt 0 n && nat_le n 9223372036854775808) ≡ true → (0 < n) × (n ≤ 2 ^ 63)
      between n h = grind (arith, nat_tests)

positive_takes : (bytes : List ℕ) (x : ℤ × List ℕ) → positive_at bytes ≡ Some x → (bytes ≡ signed_decimal x.0 ++ x.1) × IsValue x.0
unfolding positive_at
positive_takes bytes x e =
    let s = bind_some (number_at bytes) _ x e in
    let t = number_takes bytes s.0 s.1 in
    let same : (pos s.0.0, s.0.1) ≡ x = let f = s.2 in cc in
    let P : ℤ × List ℕ → Type 0 = λ y. (bytes ≡ signed_decimal y.0 ++ y.1) × IsValue y.0 in
    subst P same t

value_by : (bytes : List ℕ) (x : ℤ × List ℕ) (o : Option (List ℕ)) → after (45 ∷ []) bytes ≡ o → or_else o negative_at (positive_at bytes) ≡ Some x → (bytes ≡ signed_decimal x.0 ++ x.1) × IsValue x.0
value_by bytes x None is e = positive_takes bytes x e
value_by bytes x (Some rest) is e = let t = negative_takes rest x e in (after_takes (45 ∷ []) bytes rest is ∙ t.0, t.1)

pub value_takes : (bytes : List ℕ) (x : ℤ × List ℕ) → value_at bytes ≡ Some x → (bytes ≡ signed_decimal x.0 ++ x.1) × IsValue x.0
unfolding value_at
value_takes bytes x e = value_by bytes x (after (45 ∷ []) bytes) refl e

pub not_behind : (b : ℕ) (ds rest : List ℕ) → is_ascii_digit b ≡ false → 0 < length ds → list_all is_ascii_digit ds ≡ true → after (b ∷ []) (ds ++ rest) ≡ None
unfolding after
not_behind b [] rest other some h = absurd (omega (arith, some))
not_behind b (d ∷ ds) rest digit some h =
    let both = and_true (is_ascii_digit d) (list_all is_ascii_digit ds) h in
    let other : nat_eq d b ≡ false = ne_eqb d b (λ e. let f : is_ascii_digit b ≡ true = ap is_ascii_digit (sym e) ∙ both.0 in absurd (cc)) in
    rw other refl

pub value_again : (value : ℤ) → IsValue value → (b : ℕ) (rest : List ℕ) → is_ascii_digit b ≡ false → value_at (signed_decimal value ++ b ∷ rest) ≡ Some (value, b ∷ rest)
unfolding value_at positive_at negative_at
value_again (pos n) h b rest e = rw (not_behind 45 (decimal n) (b ∷ rest) refl (decimal_nonempty n h) (decimal_digits n h), number_again n h b rest e) refl
value_again (negsuc n) h b rest e =
    let within : (nat_lt 0 (suc n) && nat_le (suc n) 9223372036854775808) ≡ true = grind (arith, nat_tests) in
    let less : suc n - 1 ≡ n = omega arith in
    rw (after_again (45 ∷ []) (decimal (suc n) ++ b ∷ rest), number_again (suc n) (omega (arith, h)) b rest e, within, less) refl

-- fields in front of a byte

pub before_is : {A : Type 0} (end : ℕ) (o : Option (A × List ℕ)) (x : A × List ℕ) → before end o ≡ Some x → o ≡ Some (x.0, end ∷ x.1)
unfolding before
before_is end None x e = absurd (cc)
before_is {A} end (Some y) x e =
    let s = bind_some (after (end ∷ []) y.1) _ x e in
    let t : y.1 ≡ end ∷ s.0 = after_takes (end ∷ []) y.1 s.0 s.1 in
    let same : (y.0, s.0) ≡ x = let f = s.2 in cc in
    let P : A × List ℕ → Type 0 = λ z. Some y ≡ Some (z.0, end ∷ z.1) in
    subst P same (ap (λ l. Some (y.0, l)) t)

pub before_again : {A : Type 0} (field : A) (end : ℕ) (rest : List ℕ) → before end (Some (field, end ∷ rest)) ≡ Some (field, rest)
unfolding before
before_again field end rest = rw (after_again (end ∷ []) rest) refl
