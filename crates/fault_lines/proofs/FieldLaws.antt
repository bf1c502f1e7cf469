-- Fields of a fault's line: what is read is the text of the field, and that text is read.
use Rattle.std.proofs.Common.{◌≡◌, ℕ, suc, ◌+◌, ℤ, pos, negsuc, ◌<◌, ◌^◌, Bool, true, false, List, [], ◌∷◌, ◌++◌, length, take, drop, Some, refl, ap, ◌∙◌, subst, arith, nat_lt, decimal, IsTrue, codes}
use Rattle.std.proofs.lemmas.Bool.Decides.{nat_tests}
use Rattle.std.proofs.lemmas.Fmt.{digits_decimal, digits_value-decimal}
use Rattle.std.specs.List.{list_all}
use Rattle.std.specs.Fmt.{signed_decimal}
use Rattle.std.specs.Char.{is_ascii_digit}
use Rattle.text_lines.specs.Texts.{value_of, list_text, IsListBelow, IsValue}
use Rattle.text_lines.specs.Fronts.{number_at, value_at, front_length, before}
use Rattle.text_lines.proofs.FieldLaws.{bind_some, if_some, and_true, name_to_takes, name_to_again, own, all_digits, is_number_decimal, number_takes, number_again, list_below_takes, list_below_again, list_below_back, value_takes, value_again, before_is, before_again, space_ends, space_ends_list}
use Rattle.fault_lines.specs.Fields.{is_name, turns_of, IsElement, is_element}
use Rattle.fault_lines.proofs.ReaderSteps.{Parted}
use Rattle.fault_lines.specs.Reading.{name_at, number32_at, list_at, signed_at}

-- a number below 2^32

pub number32_takes : (bytes : List ℕ) (x : ℕ × List ℕ) → number32_at bytes ≡ Some x → (bytes ≡ decimal x.0 ++ x.1) × (x.0 < 2 ^ 32)
unfolding number32_at
number32_takes bytes x e =
    let s = bind_some (number_at bytes) _ x e in
    let t = number_takes bytes s.0 s.1 in
    let p = if_some (nat_lt s.0.0 4294967296) (s.0.0, s.0.1) x s.2 in
    let small : s.0.0 < 2 ^ 32 = below32 s.0.0 p.0 in
    let P : ℕ × List ℕ → Type 0 = λ y. (bytes ≡ decimal y.0 ++ y.1) × (y.0 < 2 ^ 32) in
    subst P p.1 (t.0, small) where
      below32 : (n : ℕ) → nat_lt n 4294967296 ≡ true → n < 2 ^ 32
      below32 n h = grind (arith, nat_tests)

pub number32_again : (n : ℕ) → n < 2 ^ 32 → (b : ℕ) (rest : List ℕ) → is_ascii_digit b ≡ false → number32_at (decimal n ++ b ∷ rest) ≡ Some (n, b ∷ rest)
unfolding number32_at
number32_again n h b rest e =
    let small : nat_lt n 4294967296 ≡ true = grind (arith, nat_tests) in
    rw (number_again n (omega (arith, h)) b rest e, small) refl

-- a number at the end

front_all : (p : ℕ → Bool) (front : List ℕ) → list_all p front ≡ true → front_length p front ≡ length front
front_all p [] h = refl
front_all p (x ∷ front) h =
    let both = and_true (p x) (list_all p front) h in
    let more = front_all p front both.1 in
    let one : front_length p front + 1 ≡ suc (length front) = omega (arith, more) in
    rw both.0 one

take_all : (xs : List ℕ) → take (length xs) xs ≡ xs
take_all [] = refl
take_all (x ∷ xs) = ap (λ l. x ∷ l) (take_all xs)

drop_all : (xs : List ℕ) → drop (length xs) xs ≡ []
drop_all [] = refl
drop_all (x ∷ xs) = drop_all xs

pub number_last : (n : ℕ) → n < 2 ^ 64 → number_at (decimal n) ≡ Some (n, [])
unfolding number_at
number_last n h =
    let digits : list_all is_ascii_digit (decimal n) ≡ true = all_digits (decimal n) ∙ digits_decimal own n h in
    let front = front_all is_ascii_digit (decimal n) digits in
    let value : value_of (decimal n) ≡ n = digits_value-decimal own n h in
    rw (front, take_all (decimal n), drop_all (decimal n), is_number_decimal n h, value) refl

pub number32_last : (n : ℕ) → n < 2 ^ 32 → number32_at (decimal n) ≡ Some (n, [])
unfolding number32_at
number32_last n h =
    let small : nat_lt n 4294967296 ≡ true = grind (arith, nat_tests) in
    rw (number_last n (omega (arith, h)), small) refl

-- a number behind a sign

is_element_is : (z : ℤ) → is_element z ≡ true → IsElement z
is_element_is (pos n) h = grind (arith, nat_tests)
is_element_is (negsuc n) h = grind (arith, nat_tests)

is_element_of : (z : ℤ) → IsElement z → is_element z ≡ true
is_element_of (pos n) h = grind (arith, nat_tests)
is_element_of (negsuc n) h = grind (arith, nat_tests)

value_of_element : (z : ℤ) → IsElement z → IsValue z
value_of_element (pos n) h = omega (arith, h)
value_of_element (negsuc n) h = h

pub signed_takes : (bytes : List ℕ) (x : ℤ × List ℕ) → signed_at bytes ≡ Some x → (bytes ≡ signed_decimal x.0 ++ x.1) × IsElement x.0
unfolding signed_at
signed_takes bytes x e =
    let s = bind_some (value_at bytes) _ x e in
    let t = value_takes bytes s.0 s.1 in
    let p = if_some (is_element s.0.0) (s.0.0, s.0.1) x s.2 in
    let P : ℤ × List ℕ → Type 0 = λ y. (bytes ≡ signed_decimal y.0 ++ y.1) × IsElement y.0 in
    subst P p.1 (t.0, is_element_is s.0.0 p.0)

pub signed_again : (value : ℤ) → IsElement value → (b : ℕ) (rest : List ℕ) → is_ascii_digit b ≡ false → signed_at (signed_decimal value ++ b ∷ rest) ≡ Some (value, b ∷ rest)
unfolding signed_at
signed_again value h b rest e = rw (value_again value (value_of_element value h) b rest e, is_element_of value h) refl

-- a list of turns

-- numbers below 2^32, at least one
abbrev pub IsList : List ℕ → Type 0
IsList numbers = IsListBelow 4294967296 numbers

pub list_back : (numbers : List ℕ) → IsList numbers → turns_of (Some (list_text numbers)) ≡ numbers
list_back numbers h = list_below_back 4294967296 (omega arith) numbers h

-- fields in front of a byte

pub name_before : (bytes : List ℕ) (x : List ℕ × List ℕ) → before 32 (name_at bytes) ≡ Some x → Parted bytes (x.0 ∷ codes " " ∷ []) x.1 × IsTrue (is_name x.0)
name_before bytes x e = let t = name_to_takes 65536 bytes (x.0, 32 ∷ x.1) (before_is 32 (name_at bytes) x e) in (record { split = t.0 }, t.1)

pub name_before_again : (name : List ℕ) → IsTrue (is_name name) → (rest : List ℕ) → before 32 (name_at (name ++ 32 ∷ rest)) ≡ Some (name, rest)
name_before_again name h rest = rw (name_to_again 65536 name h 32 rest space_ends) (before_again name 32 rest)

pub number_before : (end : ℕ) (bytes : List ℕ) (x : ℕ × List ℕ) → before end (number_at bytes) ≡ Some x → Parted bytes (decimal x.0 ∷ (end ∷ []) ∷ []) x.1 × (x.0 < 2 ^ 64)
number_before end bytes x e = let t = number_takes bytes (x.0, end ∷ x.1) (before_is end (number_at bytes) x e) in (record { split = t.0 }, t.1)

pub number_before_again : (end : ℕ) (n : ℕ) → n < 2 ^ 64 → (rest : List ℕ) → is_ascii_digit end ≡ false → before end (number_at (decimal n ++ end ∷ rest)) ≡ Some (n, rest)
number_before_again end n h rest e = rw (number_again n h end rest e) (before_again n end rest)

pub number32_before : (end : ℕ) (bytes : List ℕ) (x : ℕ × List ℕ) → before end (number32_at bytes) ≡ Some x → Parted bytes (decimal x.0 ∷ (end ∷ []) ∷ []) x.1 × (x.0 < 2 ^ 32)
number32_before end bytes x e = let t = number32_takes bytes (x.0, end ∷ x.1) (before_is end (number32_at bytes) x e) in (record { split = t.0 }, t.1)

pub number32_before_again : (end : ℕ) (n : ℕ) → n < 2 ^ 32 → (rest : List ℕ) → is_ascii_digit end ≡ false → before end (number32_at (decimal n ++ end ∷ rest)) ≡ Some (n, rest)
number32_before_again end n h rest e = rw (number32_again n h end rest e) (before_again n end rest)

pub signed_before : (bytes : List ℕ) (x : ℤ × List ℕ) → before 32 (signed_at bytes) ≡ Some x → Parted bytes (signed_decimal x.0 ∷ codes " " ∷ []) x.1 × IsElement x.0
signed_before bytes x e = let t = signed_takes bytes (x.0, 32 ∷ x.1) (before_is 32 (signed_at bytes) x e) in (record { split = t.0 }, t.1)

pub signed_before_again : (value : ℤ) → IsElement value → (rest : List ℕ) → before 32 (signed_at (signed_decimal value ++ 32 ∷ rest)) ≡ Some (value, rest)
signed_before_again value h rest = rw (signed_again value h 32 rest refl) (before_again value 32 rest)

pub list_before : (bytes : List ℕ) (x : List ℕ × List ℕ) → before 32 (list_at bytes) ≡ Some x → Parted bytes (list_text (turns_of (Some x.0)) ∷ codes " " ∷ []) x.1 × IsList (turns_of (Some x.0))
list_before bytes x e = let t = list_below_takes 4294967296 bytes (x.0, 32 ∷ x.1) (before_is 32 (list_at bytes) x e) in (record { split = t.0 }, t.1)

pub list_before_again : (numbers : List ℕ) → IsList numbers → (rest : List ℕ) → before 32 (list_at (list_text numbers ++ 32 ∷ rest)) ≡ Some (list_text numbers, rest)
list_before_again numbers h rest = rw (list_below_again 4294967296 (omega arith) numbers h 32 rest space_ends_list) (before_again (list_text numbers) 32 rest)
