-- Fields of a line: what is read is the text of the field, and that text is read.
use Rattle.std.proofs.Common.{◌≡◌, ℕ, zero, suc, ◌-◌, ◌<◌, ◌≤◌, ◌^◌, ◌==◌, ℤ, pos, negsuc, neg_ℤ, ◌≤ℤ◌, ◌<ℤ◌, Bool, true, false, ◌&&◌, T, nat_le, nat_eq, IsTrue, if◌then◌else◌, List, [], ◌∷◌, ◌++◌, length, take, drop, Option, None, Some, ◌⊎◌, inl, inr, refl, ap, ap₂, sym, ◌∙◌, subst, arith, decimal, append_assoc, length-append}
use Rattle.std.proofs.lemmas.Bool.{eqb-true, ne_eqb}
use Rattle.std.proofs.lemmas.Option.{same_Some}
use Rattle.std.proofs.lemmas.Bool.Decides.{nat_tests}
use Rattle.std.proofs.lemmas.Int.{ints}
use Rattle.std.proofs.lemmas.List.{append-nil, take-append-drop}
use Rattle.std.proofs.lemmas.List.Elements.{All-nil, All-cons, All-head, All-tail}
use Rattle.std.proofs.lemmas.Fmt.{decimal_nonempty}
use Rattle.std.proofs.Math.Seq.{take-append_seam, drop-append_seam}
use Rattle.std.specs.Char.{is_ascii_digit}
use Rattle.std.specs.Fmt.{signed_decimal}
use Rattle.std.specs.List.{All, list_all, flat_map}
use Rattle.std.specs.Prelude.{int_le}
use lib.Pointwise.{bytes_decides}
use Rattle.clmodel.specs.Setup.{same_text}
use Rattle.clnum.proofs.Formulas.{IsIn-within}
use Rattle.clnum.specs.Integer.{least, greatest, type_word, IsIn, IsWithin}
use Rattle.clnum.specs.declared.int_type.IntType.{IntType}
use Rattle.clnum.specs.declared.int_type.IntType.TheVariants.{Char, Uchar, Short, Ushort, Int, Uint, Long, Ulong}
use Rattle.fault_lines.proofs.FieldLaws.{number_before, number_before_again}
use Rattle.fault_lines.proofs.ReaderSteps.{Parted, read_is}
use Rattle.simfile.proofs.FieldLaws.{name_before, name_before_again}
use Rattle.simfile.specs.Fields.{is_name}
use Rattle.simfile.specs.Reading.{name_at}
use Rattle.simfile.specs.Script.{space, line_feed}
use Rattle.text_lines.proofs.FieldLaws.{bind_some, read_then, if_some, and_true, after_takes, front_of, value_takes, value_again, decimal_digits, feed_ends}
use Rattle.text_lines.specs.Fronts.{after, before, name_to}
use Rattle.text_lines.specs.Texts.{is_later, is_name_to, IsValue}
use Rattle.script_lines.specs.Numbers.{bytes_of, numbers_text, AreNumbers}
use Rattle.script_lines.specs.Reading.{is_in, kind_named, kind_at, bytes_at, numbers_at, alone, last_number, last_name, last_path}
use Rattle.script_lines.specs.Says.{is_path}

-- tests and what they say

if_then : {A : Type 0} (v : Bool) (o : Option A) (y : A) → (if v then o else None) ≡ Some y → (v ≡ true) × (o ≡ Some y)
if_then true o y e = (refl, e)
if_then false o y e = absurd (cc)

pub empty_is : (l : List ℕ) → (length l == 0) ≡ true → l ≡ []
empty_is [] h = refl
empty_is (x ∷ l) h = let none : length (x ∷ l) ≡ 0 = eqb-true _ _ h in absurd (omega (arith, none))

-- texts that are alike are the same
pub same_is : (a b : List ℕ) → same_text a b ≡ true → a ≡ b
same_is a b h = (bytes_decides a b).0 h

pub same_self : (a : List ℕ) → same_text a a ≡ true
same_self a = (bytes_decides a a).1 refl

-- names of types

pub chosen : {A : Type 0} (v : Bool) (x : A) (other : Option A) (y : A) → (if v then Some x else other) ≡ Some y → (v ≡ true) × (x ≡ y) ⊎ (other ≡ Some y)
chosen true x other y e = inl (refl, cc)
chosen false x other y e = inr e

by_name : (word : List ℕ) (kind found : IntType) (other : Option IntType) → (other ≡ Some found → word ≡ type_word found) → (if same_text word (type_word kind) then Some kind else other) ≡ Some found → word ≡ type_word found
by_name word kind found other more e = elim (chosen (same_text word (type_word kind)) kind other found e) [
  | inl h ↦ same_is word (type_word kind) h.0 ∙ ap type_word h.1
  | inr h ↦ more h
]

pub kind_is : (word : List ℕ) (kind : IntType) → kind_named word ≡ Some kind → word ≡ type_word kind
kind_is word kind e =
    by_name word Char kind _ (by_name word Uchar kind _ (by_name word Short kind _ (by_name word Ushort kind _
    (by_name word Int kind _ (by_name word Uint kind _ (by_name word Long kind _ (by_name word Ulong kind _ (λ h. absurd (cc))))))))) e

pub kind_again : (kind : IntType) → kind_named (type_word kind) ≡ Some kind
kind_again Char = refl
kind_again Uchar = refl
kind_again Short = refl
kind_again Ushort = refl
kind_again Int = refl
kind_again Uint = refl
kind_again Long = refl
kind_again Ulong = refl

type_name : (kind : IntType) → IsTrue (is_name (type_word kind))
unfolding is_later
type_name Char = refl
type_name Uchar = refl
type_name Short = refl
type_name Ushort = refl
type_name Int = refl
type_name Uint = refl
type_name Long = refl
type_name Ulong = refl

pub kind_takes : (bytes : List ℕ) (x : IntType × List ℕ) → kind_at bytes ≡ Some x → Parted bytes (type_word x.0 ∷ space ∷ []) x.1
unfolding kind_at
kind_takes bytes x e =
    let s1 = read_then _ (name_before 32 bytes) e in
    let s2 = bind_some (kind_named s1.0.0) _ x s1.2 in
    let named = subst (λ (l : List ℕ). Parted bytes (l ∷ space ∷ []) s1.0.1) (kind_is s1.0.0 s2.0 s2.1) s1.1.0 in
    read_is (λ (y : IntType × List ℕ). Parted bytes (type_word y.0 ∷ space ∷ []) y.1) s2.2 named

pub kind_at_again : (kind : IntType) (rest : List ℕ) → kind_at (type_word kind ++ 32 ∷ rest) ≡ Some (kind, rest)
unfolding kind_at is_later
kind_at_again kind rest = rw (name_before_again 32 (type_word kind) (type_name kind) rest refl, kind_again kind) refl

-- numbers of a type

-- a test that passes
passes : (b : Bool) → b ≡ true → T b
passes true e = tt
passes false e = absurd (cc)

passed_is : (b : Bool) → T b → b ≡ true
passed_is true t = refl
passed_is false t = absurd t

-- the test of the reader is the range of the type
pub in_type : (kind : IntType) (number : ℤ) → is_in kind number ≡ true → IsIn kind number
in_type kind number h =
    let both = and_true (int_le (least kind) number) (int_le number (greatest kind)) h in
    record { from = record { le = passes _ both.0 }; to = record { le = passes _ both.1 } }

pub in_type_again : (kind : IntType) (number : ℤ) → IsIn kind number → is_in kind number ≡ true
in_type_again kind number h = ap₂ (λ a b. a && b) (passed_is _ h.from.le) (passed_is _ h.to.le)

each_in : (kind : IntType) (numbers : List ℤ) → list_all (is_in kind) numbers ≡ true → All (IsIn kind) numbers
each_in kind [] h = All-nil (IsIn kind)
each_in kind (n ∷ ns) h =
    let both = and_true (is_in kind n) (list_all (is_in kind) ns) h in
    All-cons (IsIn kind) n ns (in_type kind n both.0) (each_in kind ns both.1)

each_in_again : (kind : IntType) (numbers : List ℤ) → All (IsIn kind) numbers → list_all (is_in kind) numbers ≡ true
each_in_again kind [] h = refl
each_in_again kind (n ∷ ns) h =
    ap₂ (λ a b. a && b) (in_type_again kind n (All-head (IsIn kind) n ns h)) (each_in_again kind ns (All-tail (IsIn kind) n ns h))

value_below : (n : ℕ) → pos n <ℤ pos (2 ^ 64) → n < 2 ^ 64
value_below n h = omega (arith, ints)

value_from : (n : ℕ) → neg_ℤ (pos (2 ^ 63)) ≤ℤ negsuc n → suc n ≤ 2 ^ 63
value_from n h = omega (arith, ints)

value_within : (number : ℤ) → IsWithin number → IsValue number
value_within (pos n) h = value_below n h.below
value_within (negsuc n) h = value_from n h.at_least

value_in : (kind : IntType) (number : ℤ) → is_in kind number ≡ true → IsValue number
value_in kind number h = value_within number (IsIn-within kind number (in_type kind number h))

-- numbers that are read, and their text
pub record AreRead (kind : IntType) (text bytes : List ℕ) : Type 0 where
  pub first : ℤ
  pub more : List ℤ
  pub each : list_all (is_in kind) (first ∷ more) ≡ true
  pub are : bytes ≡ flat_map (bytes_of kind) (first ∷ more)
  pub is : text ≡ numbers_text (first ∷ more) ++ line_feed

one_read : (kind : IntType) (number : ℤ) (text rest bytes : List ℕ) → is_in kind number ≡ true → text ≡ signed_decimal number ++ rest → rest ≡ line_feed → bytes_of kind number ≡ bytes → AreRead kind text bytes
one_read kind number text rest bytes fits split end are = record {
  first = number;
  more = [];
  each = rw fits refl;
  are = sym are ∙ sym (append-nil (bytes_of kind number));
  is = split ∙ ap (λ l. signed_decimal number ++ l) end;
}

more_read : (kind : IntType) (number : ℤ) (text rest others front bytes : List ℕ) → is_in kind number ≡ true → text ≡ signed_decimal number ++ rest → rest ≡ 32 ∷ others → AreRead kind others front → bytes_of kind number ++ front ≡ bytes → AreRead kind text bytes
more_read kind number text rest others front bytes fits split onto h are = record {
  first = number;
  more = h.first ∷ h.more;
  each = rw (fits, h.each) refl;
  are = sym are ∙ ap (λ l. bytes_of kind number ++ l) h.are;
  is = split ∙ (ap (λ l. signed_decimal number ++ l) (onto ∙ ap (λ l. 32 ∷ l) h.is) ∙ sym (append_assoc (signed_decimal number) (32 ∷ numbers_text (h.first ∷ h.more)) line_feed));
}

pub bytes_takes : (kind : IntType) (n : ℕ) (text bytes : List ℕ) → bytes_at kind n text ≡ Some bytes → AreRead kind text bytes
bytes_takes kind zero text bytes e = absurd (cc)
bytes_takes kind (suc n) text bytes e =
    let s1 = read_then _ (value_takes text) e in
    let s2 = if_then (is_in kind s1.0.0) _ bytes s1.2 in
    elim (chosen (same_text s1.0.1 line_feed) (bytes_of kind s1.0.0) _ bytes s2.1) [
      | inl h ↦ one_read kind s1.0.0 text s1.0.1 bytes s2.0 s1.1.0 (same_is s1.0.1 line_feed h.0) h.1
      | inr h ↦
          let s3 = read_then _ (after_takes space s1.0.1) h in
          let s4 = bind_some (bytes_at kind n s3.0) _ bytes s3.2 in
          more_read kind s1.0.0 text s1.0.1 s3.0 s4.0 bytes s2.0 s1.1.0 s3.1 (bytes_takes kind n s3.0 s4.0 s4.1) (same_Some _ _ s4.2)
    ]

-- the text of one number, and what follows it, is read
read_one : (kind : IntType) (number : ℤ) (n : ℕ) → is_in kind number ≡ true → bytes_at kind (suc n) (signed_decimal number ++ line_feed) ≡ Some (bytes_of kind number)
read_one kind number n fits = rw (value_again number (value_in kind number fits) 10 [] refl, fits) refl

read_more : (kind : IntType) (number : ℤ) (n : ℕ) (others front : List ℕ) → is_in kind number ≡ true → bytes_at kind n others ≡ Some front → bytes_at kind (suc n) (signed_decimal number ++ 32 ∷ others) ≡ Some (bytes_of kind number ++ front)
unfolding after
read_more kind number n others front fits read = rw (value_again number (value_in kind number fits) 32 others refl, fits, read) refl

pub bytes_again : (kind : IntType) (first : ℤ) (more : List ℤ) (n : ℕ) → list_all (is_in kind) (first ∷ more) ≡ true → length (first ∷ more) ≤ n → bytes_at kind n (numbers_text (first ∷ more) ++ line_feed) ≡ Some (flat_map (bytes_of kind) (first ∷ more))
bytes_again kind first more zero each few = absurd (omega (arith, few))
bytes_again kind first [] (suc n) each few =
    let fits = (and_true (is_in kind first) true each).0 in
    rw (append-nil (bytes_of kind first)) (read_one kind first n fits)
bytes_again kind first (second ∷ more) (suc n) each few =
    let both = and_true (is_in kind first) (list_all (is_in kind) (second ∷ more)) each in
    let read = bytes_again kind second more n both.1 (omega (arith, few)) in
    let text : numbers_text (first ∷ second ∷ more) ++ line_feed ≡ signed_decimal first ++ 32 ∷ (numbers_text (second ∷ more) ++ line_feed) = append_assoc (signed_decimal first) (32 ∷ numbers_text (second ∷ more)) line_feed in
    rw text (read_more kind first n (numbers_text (second ∷ more) ++ line_feed) (flat_map (bytes_of kind) (second ∷ more)) both.0 read)

-- each number has a byte of the text at least
pub some_each : (first : ℤ) (more : List ℤ) → length (first ∷ more) ≤ length (numbers_text (first ∷ more) ++ line_feed)
some_each first [] = omega (arith, length-append (signed_decimal first) line_feed)
some_each first (second ∷ more) =
    let rest = numbers_text (second ∷ more) in
    let h = some_each second more in
    omega (arith, h, length-append rest line_feed, length-append (numbers_text (first ∷ second ∷ more)) line_feed, length-append (signed_decimal first) (32 ∷ rest))

le_is : (n : ℕ) → nat_le n 1048576 ≡ true → n ≤ 1048576
le_is n h = grind (arith, nat_tests)

is_le : (n : ℕ) → n ≤ 1048576 → nat_le n 1048576 ≡ true
is_le n h = grind (arith, nat_tests)

pub numbers_takes : (kind : IntType) (text bytes : List ℕ) → numbers_at kind text ≡ Some bytes → (numbers : List ℤ) × AreNumbers kind numbers bytes × (text ≡ numbers_text numbers ++ line_feed)
unfolding numbers_at
numbers_takes kind text bytes e =
    let s1 = bind_some (bytes_at kind (length text) text) _ bytes e in
    let s2 = if_some (nat_le (length s1.0) 1048576) s1.0 bytes s1.2 in
    let r = bytes_takes kind (length text) text s1.0 s1.1 in
    let short : length s1.0 ≤ 1048576 = le_is (length s1.0) s2.0 in
    let numbers : List ℤ = r.first ∷ r.more in
    (numbers, record { some = omega arith; each = each_in kind numbers r.each; are = sym s2.1 ∙ r.are; few = subst (λ (l : List ℕ). length l ≤ 1048576) s2.1 short }, r.is)

pub numbers_again : (kind : IntType) (numbers : List ℤ) (bytes : List ℕ) → AreNumbers kind numbers bytes → numbers_at kind (numbers_text numbers ++ line_feed) ≡ Some bytes
unfolding numbers_at
numbers_again kind [] bytes h = absurd (omega (arith, h.some))
numbers_again kind (first ∷ more) bytes h =
    let text = numbers_text (first ∷ more) ++ line_feed in
    let read = bytes_again kind first more (length text) (each_in_again kind (first ∷ more) h.each) (some_each first more) in
    let few : nat_le (length (flat_map (bytes_of kind) (first ∷ more))) 1048576 ≡ true = rw (← h.are) (is_le (length bytes) h.few) in
    rw (read, few) (ap Some (sym h.are))

-- what ends a text

pub number_alone : (bytes : List ℕ) (n : ℕ) → last_number bytes ≡ Some n → Parted bytes (decimal n ∷ line_feed ∷ []) [] × (n < 2 ^ 64)
unfolding last_number
number_alone bytes n e =
    let s = read_then alone (number_before 10 bytes) e in
    let p = if_some (length s.0.1 == 0) s.0.0 n s.2 in
    let none : s.0.1 ≡ [] = empty_is s.0.1 p.0 in
    let parted = subst (λ (l : List ℕ). Parted bytes (decimal s.0.0 ∷ line_feed ∷ []) l) none s.1.0 in
    subst (λ (m : ℕ). Parted bytes (decimal m ∷ line_feed ∷ []) [] × (m < 2 ^ 64)) p.1 (parted, s.1.1)

pub number_alone_again : (n : ℕ) → n < 2 ^ 64 → last_number (decimal n ++ line_feed) ≡ Some n
unfolding last_number
number_alone_again n h = rw (number_before_again 10 n h [] refl) refl

pub name_alone : (bytes name : List ℕ) → last_name bytes ≡ Some name → Parted bytes (name ∷ line_feed ∷ []) [] × IsTrue (is_name name)
unfolding last_name
name_alone bytes name e =
    let s = read_then alone (name_before 10 bytes) e in
    let p = if_some (length s.0.1 == 0) s.0.0 name s.2 in
    let none : s.0.1 ≡ [] = empty_is s.0.1 p.0 in
    let parted = subst (λ (l : List ℕ). Parted bytes (s.0.0 ∷ line_feed ∷ []) l) none s.1.0 in
    subst (λ (m : List ℕ). Parted bytes (m ∷ line_feed ∷ []) [] × IsTrue (is_name m)) p.1 (parted, s.1.1)

pub name_alone_again : (name : List ℕ) → IsTrue (is_name name) → last_name (name ++ line_feed) ≡ Some name
unfolding last_name is_later
name_alone_again name h = rw (name_before_again 10 name h [] refl) refl

pub path_alone : (bytes path : List ℕ) → last_path bytes ≡ Some path → (bytes ≡ path ++ line_feed) × IsTrue (is_path path)
unfolding last_path
path_alone bytes path e =
    let n = length bytes - 1 in
    let front = take n bytes in
    let p = if_some (same_text (drop n bytes) line_feed && is_path front) front path e in
    let both = and_true (same_text (drop n bytes) line_feed) (is_path front) p.0 in
    let split : bytes ≡ front ++ line_feed = sym (take-append-drop n bytes) ∙ ap (λ l. front ++ l) (same_is (drop n bytes) line_feed both.0) in
    subst (λ (l : List ℕ). (bytes ≡ l ++ line_feed) × IsTrue (is_path l)) p.1 (split, both.1)

pub path_alone_again : (path : List ℕ) → IsTrue (is_path path) → last_path (path ++ line_feed) ≡ Some path
unfolding last_path
path_alone_again path h =
    let fits : is_path path ≡ true = h in
    let long : length (path ++ line_feed) - 1 ≡ length path = omega (arith, length-append path line_feed) in
    rw (long, take-append_seam path line_feed, drop-append_seam path line_feed, fits) refl

-- no field in front of a space

feed_only : (name : List ℕ) (v : Bool) → before 32 (if v then Some (name, 10 ∷ []) else None) ≡ None
unfolding before after
feed_only name true = refl
feed_only name false = refl

-- letters, digits and _ in front of a line feed are no name in front of a space
pub no_word : (front : List ℕ) → list_all is_later front ≡ true → before 32 (name_at (front ++ line_feed)) ≡ None
unfolding name_to
no_word front h = rw (front_of is_later front 10 [] h feed_ends, take-append_seam front (10 ∷ []), drop-append_seam front (10 ∷ [])) (feed_only front (is_name_to 63 front))

digits_apart : (w : ℕ) (word ds rest : List ℕ) → is_ascii_digit w ≡ false → 0 < length ds → list_all is_ascii_digit ds ≡ true → after (w ∷ word) (ds ++ rest) ≡ None
unfolding after
digits_apart w word [] rest other some all = absurd (omega (arith, some))
digits_apart w word (d ∷ ds) rest other some all =
    let both = and_true (is_ascii_digit d) (list_all is_ascii_digit ds) all in
    let unlike : nat_eq d w ≡ false = ne_eqb d w (λ e. let f : is_ascii_digit w ≡ true = ap is_ascii_digit (sym e) ∙ both.0 in absurd (cc)) in
    rw unlike refl

-- a word that begins with no digit doesn't stand in front of a number
pub no_word_before : (w : ℕ) (word : List ℕ) (n : ℕ) (rest : List ℕ) → n < 2 ^ 64 → is_ascii_digit w ≡ false → after (w ∷ word) (decimal n ++ rest) ≡ None
no_word_before w word n rest h other = digits_apart w word (decimal n) rest other (decimal_nonempty n h) (decimal_digits n h)
