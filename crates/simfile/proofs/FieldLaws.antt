-- Lines of a source and bytes: what is read is the text of the field, and that text is read.
use Rattle.std.proofs.Common.{◌≡◌, ℕ, suc, ◌+◌, ◌-◌, ◌*◌, ◌/◌, ◌%◌, length-take-le, ◌<◌, ◌≤◌, ◌==◌, Bool, true, false, ◌&&◌, List, [], ◌∷◌, ◌++◌, length, take, drop, Option, None, Some, refl, ap, sym, ◌∙◌, subst, arith, nat_lt, nat_le, if◌then◌else◌, IsTrue, append_assoc, length-append}
use Rattle.std.proofs.lemmas.List.{take-append-drop}
use Rattle.std.proofs.Math.Seq.{take-append_seam, drop-append_seam}
use Rattle.std.proofs.lemmas.Bool.Decides.{nat_tests}
use Rattle.std.proofs.lemmas.Bool.{eqb-true, eqb-false, ne_eqb}
use Rattle.std.specs.List.{list_all}
use Rattle.text_lines.proofs.FieldLemmas.{front_within}
use Rattle.text_lines.proofs.FieldLaws.{if_some, and_true, front_passes, front_of, before_is, before_again, name_to_takes, name_to_again, list_below_takes, list_below_again, list_below_back}
use Rattle.text_lines.specs.Texts.{is_later, is_listed, list_text}
use Rattle.fault_lines.proofs.ReaderSteps.{Parted}
use Rattle.simfile.specs.Fields.{is_name, IsList, numbers_of, AreBytes, hex_digit, hex, is_hex_digit, hex_value, bytes_of}
use Rattle.text_lines.specs.Fronts.{before, front_length, ◌>>=◌}
use Rattle.simfile.specs.Reading.{name_at, list_at, hex_at, lines_end, lines_at, source_at}
use Rattle.simfile.specs.Script.{line_feeds, AreLines}

-- the lines of a source

abbrev Impl : Type 0 → Type 0 → Type 0
Impl P Q = P → Q

pub record Ends (n at : ℕ) (bytes : List ℕ) (k : ℕ) : Type 0 where
  pub front : List ℕ
  pub rest : List ℕ
  pub split : bytes ≡ front ++ 10 ∷ rest
  pub end : k ≡ at + length front + 1
  pub count : 0 < n → line_feeds front + 1 ≡ n

lines_step : (n at k b : ℕ) (bs : List ℕ) (v w : Bool) → (b == 10) ≡ v → (n == 1) ≡ w → Impl (lines_end (n - 1) (at + 1) bs ≡ Some k) (Ends (n - 1) (at + 1) bs k) → Impl (lines_end n (at + 1) bs ≡ Some k) (Ends n (at + 1) bs k) → (if v then (if w then Some (at + 1) else lines_end (n - 1) (at + 1) bs) else lines_end n (at + 1) bs) ≡ Some k → Ends n at (b ∷ bs) k
lines_step n at k b bs true true x y f g e =
    let feed : b ≡ 10 = eqb-true b 10 x in
    let one : n ≡ 1 = eqb-true n 1 y in
    let place : at + 1 ≡ k = cc in
    record { front = []; rest = bs; split = ap (λ c. c ∷ bs) feed; end = omega (arith, place); count = λ some. sym one }
lines_step n at k b bs true false x y f g e =
    let h = f e in
    let other : n ≡ 1 → ⊥ = eqb-false n 1 y in
    record { front = b ∷ h.front; rest = h.rest; split = ap (λ l. b ∷ l) h.split; end = omega (arith, h.end); count = λ some. let more : 0 < n - 1 = omega (arith, other) in let c = h.count more in rw x (omega (arith, c)) }
lines_step n at k b bs false w x y f g e =
    let h = g e in
    record { front = b ∷ h.front; rest = h.rest; split = ap (λ l. b ∷ l) h.split; end = omega (arith, h.end); count = λ some. let c = h.count some in rw x c }

pub lines_takes : (bytes : List ℕ) (n at k : ℕ) → lines_end n at bytes ≡ Some k → Ends n at bytes k
lines_takes [] n at k e = absurd (cc)
lines_takes (b ∷ bs) n at k e = lines_step n at k b bs (b == 10) (n == 1) refl refl (λ h. lines_takes bs (n - 1) (at + 1) k h) (λ h. lines_takes bs n (at + 1) k h) e

lines_push : (at b : ℕ) (front rest : List ℕ) (v : Bool) → (b == 10) ≡ v → ((m : ℕ) → m ≡ line_feeds front + 1 → lines_end m (at + 1) (front ++ 10 ∷ rest) ≡ Some (at + 1 + length front + 1)) → (n : ℕ) → n ≡ (if v then 1 + line_feeds front else line_feeds front) + 1 → lines_end n at (b ∷ (front ++ 10 ∷ rest)) ≡ Some (at + suc (length front) + 1)
lines_push at b front rest true x h n e =
    let other : (n == 1) ≡ false = ne_eqb n 1 (λ one. absurd (omega (arith, one, e))) in
    let less : n - 1 ≡ line_feeds front + 1 = omega (arith, e) in
    let place : at + suc (length front) + 1 ≡ at + 1 + length front + 1 = omega arith in
    rw (x, other, place) (h (n - 1) less)
lines_push at b front rest false x h n e =
    let place : at + suc (length front) + 1 ≡ at + 1 + length front + 1 = omega arith in
    rw (x, place) (h n e)

pub lines_again : (front rest : List ℕ) (at n : ℕ) → n ≡ line_feeds front + 1 → lines_end n at (front ++ 10 ∷ rest) ≡ Some (at + length front + 1)
lines_again [] rest at n e = rw e (ap Some (omega arith))
lines_again (b ∷ front) rest at n e = lines_push at b front rest (b == 10) refl (λ m f. lines_again front rest (at + 1) m f) n e

source_step : (n : ℕ) (bytes : List ℕ) (x : List ℕ × List ℕ) (v : Bool) → (nat_lt 0 n && nat_le n 65536) ≡ v → (o : Option ℕ) → lines_end n 0 bytes ≡ o → (if v then (o >>= (λ k. Some (take k bytes, drop k bytes))) else None) ≡ Some x → (bytes ≡ x.0 ++ x.1) × (n ≤ 65536) × AreLines x.0 n
source_step n bytes x false v o y e = absurd (cc)
source_step n bytes x true v None y e = absurd (cc)
source_step n bytes x true v (Some k) y e =
    let h = lines_takes bytes n 0 k y in
    let within : (0 < n) × (n ≤ 65536) = grind (arith, nat_tests) in
    let text : bytes ≡ (h.front ++ 10 ∷ []) ++ h.rest = h.split ∙ sym (append_assoc h.front (10 ∷ []) h.rest) in
    let long : k ≡ length (h.front ++ 10 ∷ []) = omega (arith, h.end, length-append h.front (10 ∷ [])) in
    let front : take k bytes ≡ h.front ++ 10 ∷ [] = ap (λ l. take k l) text ∙ (ap (λ m. take m ((h.front ++ 10 ∷ []) ++ h.rest)) long ∙ take-append_seam (h.front ++ 10 ∷ []) h.rest) in
    let same : (take k bytes, drop k bytes) ≡ x = cc in
    let P : List ℕ × List ℕ → Type 0 = λ y. (bytes ≡ y.0 ++ y.1) × (n ≤ 65536) × AreLines y.0 n in
    subst P same (sym (take-append-drop k bytes), within.1, record { front = h.front; ends = front; count = h.count within.0 })

pub source_takes : (n : ℕ) (bytes : List ℕ) (x : List ℕ × List ℕ) → source_at n bytes ≡ Some x → (bytes ≡ x.0 ++ x.1) × (n ≤ 65536) × AreLines x.0 n
unfolding source_at lines_at
source_takes n bytes x e = source_step n bytes x (nat_lt 0 n && nat_le n 65536) refl (lines_end n 0 bytes) refl e

pub source_again : (source rest : List ℕ) (n : ℕ) → n ≤ 65536 → AreLines source n → source_at n (source ++ rest) ≡ Some (source, rest)
unfolding source_at lines_at
source_again source rest n small lines =
    let some : 0 < n = omega (arith, lines.count) in
    let within : (nat_lt 0 n && nat_le n 65536) ≡ true = grind (arith, nat_tests) in
    let text : source ++ rest ≡ lines.front ++ 10 ∷ rest = ap (λ l. l ++ rest) lines.ends ∙ append_assoc lines.front (10 ∷ []) rest in
    let long : length source ≡ 0 + length lines.front + 1 = ap length lines.ends ∙ omega (arith, length-append lines.front (10 ∷ [])) in
    let end : lines_end n 0 (source ++ rest) ≡ Some (length source) = rw (text, long) (lines_again lines.front rest 0 n (sym lines.count)) in
    rw (within, end, take-append_seam source rest, drop-append_seam source rest) refl

-- bytes

hex_digit_of : (b : ℕ) → is_hex_digit b ≡ true → (hex_digit (hex_value b) ≡ b) × (hex_value b < 16)
unfolding is_hex_digit
hex_digit_of b h = grind (arith, nat_tests)

hex_of : (ds : List ℕ) → list_all is_hex_digit ds ≡ true → length ds % 2 ≡ 0 → (hex (bytes_of ds) ≡ ds) × (2 * length (bytes_of ds) ≡ length ds) × (list_all (λ b. nat_lt b 256) (bytes_of ds) ≡ true)
hex_of [] h e = (refl, refl, refl)
hex_of (a ∷ []) h e = absurd (omega (arith, e))
hex_of (a ∷ b ∷ ds) h e =
    let one = and_true (is_hex_digit a) (list_all is_hex_digit (b ∷ ds)) h in
    let two = and_true (is_hex_digit b) (list_all is_hex_digit ds) one.1 in
    let x = hex_digit_of a one.0 in
    let y = hex_digit_of b two.0 in
    let more = hex_of ds two.1 (omega (arith, e)) in
    let byte = 16 * hex_value a + hex_value b in
    let high : byte / 16 ≡ hex_value a = omega (arith, x.1, y.1) in
    let low : byte % 16 ≡ hex_value b = omega (arith, x.1, y.1) in
    let under : byte < 256 = omega (arith, x.1, y.1) in
    let small : nat_lt byte 256 ≡ true = grind (arith, nat_tests) in
    (rw (high, low, x.0, y.0, more.0) refl, omega (arith, more.1), rw small more.2)

hex_length_is : (n : ℕ) → (nat_lt 0 n && nat_le n 2097152 && (n % 2 == 0)) ≡ true → (0 < n) × (n ≤ 2097152) × (n % 2 ≡ 0)
hex_length_is n h = grind (arith, nat_tests)

hex_length_of : (n : ℕ) → 0 < n → n ≤ 2097152 → n % 2 ≡ 0 → (nat_lt 0 n && nat_le n 2097152 && (n % 2 == 0)) ≡ true
hex_length_of n some most even = grind (arith, nat_tests)

pub hex_takes : (bytes : List ℕ) (x : List ℕ × List ℕ) → hex_at bytes ≡ Some x → (bytes ≡ hex (bytes_of x.0) ++ x.1) × AreBytes (bytes_of x.0)
unfolding hex_at
hex_takes bytes x e =
    let n = front_length is_hex_digit bytes in
    let ds = take n bytes in
    let p = if_some (nat_lt 0 n && nat_le n 2097152 && (n % 2 == 0)) (ds, drop n bytes) x e in
    let long = hex_length_is n p.0 in
    let size : length ds ≡ n = length-take-le n bytes (front_within is_hex_digit bytes) in
    let h = hex_of ds (front_passes is_hex_digit bytes) (rw size long.2) in
    let P : List ℕ × List ℕ → Type 0 = λ y. (bytes ≡ hex (bytes_of y.0) ++ y.1) × AreBytes (bytes_of y.0) in
    subst P p.1 (rw h.0 (sym (take-append-drop n bytes)), (omega (arith, h.1, size, long.0), omega (arith, h.1, size, long.1), h.2))

digit_is_hex : (n : ℕ) → n < 16 → (is_hex_digit (hex_digit n) ≡ true) × (hex_value (hex_digit n) ≡ n)
unfolding is_hex_digit
digit_is_hex n h = grind (arith, nat_tests)

byte_is : (b : ℕ) → nat_lt b 256 ≡ true → b < 256
byte_is b h = grind (arith, nat_tests)

hex_made : (bytes : List ℕ) → list_all (λ b. nat_lt b 256) bytes ≡ true → (list_all is_hex_digit (hex bytes) ≡ true) × (length (hex bytes) ≡ 2 * length bytes) × (bytes_of (hex bytes) ≡ bytes)
hex_made [] h = (refl, refl, refl)
hex_made (b ∷ bytes) h =
    let both = and_true (nat_lt b 256) (list_all (λ c. nat_lt c 256) bytes) h in
    let under = byte_is b both.0 in
    let high = digit_is_hex (b / 16) (omega (arith, under)) in
    let low = digit_is_hex (b % 16) (omega (arith, under)) in
    let more = hex_made bytes both.1 in
    let whole : 16 * (b / 16) + b % 16 ≡ b = omega arith in
    (rw (high.0, low.0) more.0, omega (arith, more.1), rw (high.1, low.1, whole, more.2) refl)

pub hex_again : (bytes : List ℕ) → AreBytes bytes → (b : ℕ) (rest : List ℕ) → is_hex_digit b ≡ false → hex_at (hex bytes ++ b ∷ rest) ≡ Some (hex bytes, b ∷ rest)
unfolding hex_at
hex_again bytes h b rest e =
    let t = hex_made bytes h.2 in
    let n = front_of is_hex_digit (hex bytes) b rest t.0 e in
    let long = hex_length_of (length (hex bytes)) (omega (arith, t.1, h.0)) (omega (arith, t.1, h.1)) (omega (arith, t.1)) in
    rw (n, take-append_seam (hex bytes) (b ∷ rest), drop-append_seam (hex bytes) (b ∷ rest), long) refl

pub hex_back : (bytes : List ℕ) → AreBytes bytes → bytes_of (hex bytes) ≡ bytes
hex_back bytes h = (hex_made bytes h.2).2

-- names and lists, as far as scripts have them

pub name_takes : (bytes : List ℕ) (x : List ℕ × List ℕ) → name_at bytes ≡ Some x → (bytes ≡ x.0 ++ x.1) × IsTrue (is_name x.0)
name_takes bytes x e = name_to_takes 63 bytes x e

pub name_again : (name : List ℕ) → IsTrue (is_name name) → (b : ℕ) (rest : List ℕ) → is_later b ≡ false → name_at (name ++ b ∷ rest) ≡ Some (name, b ∷ rest)
name_again name h b rest e = name_to_again 63 name h b rest e

pub list_takes : (bytes : List ℕ) (x : List ℕ × List ℕ) → list_at bytes ≡ Some x → (bytes ≡ list_text (numbers_of x.0) ++ x.1) × IsList (numbers_of x.0)
list_takes bytes x e = list_below_takes 18446744073709551616 bytes x e

pub list_again : (numbers : List ℕ) → IsList numbers → (b : ℕ) (rest : List ℕ) → is_listed b ≡ false → list_at (list_text numbers ++ b ∷ rest) ≡ Some (list_text numbers, b ∷ rest)
list_again numbers h b rest e = list_below_again 18446744073709551616 (omega arith) numbers h b rest e

pub list_back : (numbers : List ℕ) → IsList numbers → numbers_of (list_text numbers) ≡ numbers
list_back numbers h = list_below_back 18446744073709551616 (omega arith) numbers h

-- fields in front of a byte

pub name_before : (end : ℕ) (bytes : List ℕ) (x : List ℕ × List ℕ) → before end (name_at bytes) ≡ Some x → Parted bytes (x.0 ∷ (end ∷ []) ∷ []) x.1 × IsTrue (is_name x.0)
name_before end bytes x e = let t = name_takes bytes (x.0, end ∷ x.1) (before_is end (name_at bytes) x e) in (record { split = t.0 }, t.1)

pub name_before_again : (end : ℕ) (name : List ℕ) → IsTrue (is_name name) → (rest : List ℕ) → is_later end ≡ false → before end (name_at (name ++ end ∷ rest)) ≡ Some (name, rest)
name_before_again end name h rest e = rw (name_again name h end rest e) (before_again name end rest)

pub list_before : (end : ℕ) (bytes : List ℕ) (x : List ℕ × List ℕ) → before end (list_at bytes) ≡ Some x → Parted bytes (list_text (numbers_of x.0) ∷ (end ∷ []) ∷ []) x.1 × IsList (numbers_of x.0)
list_before end bytes x e = let t = list_takes bytes (x.0, end ∷ x.1) (before_is end (list_at bytes) x e) in (record { split = t.0 }, t.1)

pub list_before_again : (end : ℕ) (numbers : List ℕ) → IsList numbers → (rest : List ℕ) → is_listed end ≡ false → before end (list_at (list_text numbers ++ end ∷ rest)) ≡ Some (list_text numbers, rest)
list_before_again end numbers h rest e = rw (list_again numbers h end rest e) (before_again (list_text numbers) end rest)

pub hex_before : (end : ℕ) (bytes : List ℕ) (x : List ℕ × List ℕ) → before end (hex_at bytes) ≡ Some x → Parted bytes (hex (bytes_of x.0) ∷ (end ∷ []) ∷ []) x.1 × AreBytes (bytes_of x.0)
hex_before end bytes x e = let t = hex_takes bytes (x.0, end ∷ x.1) (before_is end (hex_at bytes) x e) in (record { split = t.0 }, t.1)

pub hex_before_again : (end : ℕ) (bytes : List ℕ) → AreBytes bytes → (rest : List ℕ) → is_hex_digit end ≡ false → before end (hex_at (hex bytes ++ end ∷ rest)) ≡ Some (hex bytes, rest)
hex_before_again end bytes h rest e = rw (hex_again bytes h end rest e) (before_again (hex bytes) end rest)
