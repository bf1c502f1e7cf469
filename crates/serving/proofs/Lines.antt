-- A line that is heard.
use Rattle.std.proofs.Common.{◌≡◌, ◌≢◌, ℕ, ◌+◌, ◌-◌, ◌<◌, ◌==◌, ◌&&◌, nat_lt, Bool, true, false, if◌then◌else◌, List, [], ◌∷◌, ◌++◌, length, take, slice_index, get_or, Option, None, Some, Result, Ok, Err, refl, ap, sym, ◌∙◌, subst, arith, append_assoc, length-append}
use Rattle.std.proofs.Math.Seq.{take-append_seam, get_or-append_seam}
use Rattle.std.proofs.lemmas.Bool.{eqb-true, eqb-false}
use Rattle.std.proofs.lemmas.Bool.Decides.{nat_tests}
use Rattle.std.proofs.lemmas.List.Elements.{recursion_from_All}
use Rattle.std.specs.Prelude.{IfSome}
use Rattle.std.specs.List.{All, AllByRecursion}
use Rattle.std.specs.Io.{StopsAt}
use Rattle.std.specs.Io.BufRead.{take_through, ends_with_byte}
use Rattle.std.specs.Io.KnownBytes.{Consumes, IsAtEnd}
use Rattle.byte_io.specs.declared.counted.ReadFault.{ReadFault}
use Rattle.byte_io.specs.declared.counted.ReadFault.TheVariants as read
use Rattle.byte_io.specs.Talk.{Conversation, Hears}
use Rattle.byte_io.proofs.Talks.{said_heard}
use Rattle.serving.specs.Hearing.{IsHeardLine, EndsWith, HeardLine, NotHeard}
use Rattle.simfile.specs.Faults.{read_fault}
use Rattle.simfile.specs.Script.{line_feeds}
use Rattle.simfile.specs.declared.faults.Reader.TheVariants as reader
use Rattle.simfile.specs.declared.faults.RunFault.{RunFault}
use Rattle.simfile.proofs.LineLaws.{feeds_append}

not_first : (x n : ℕ) (v : Bool) → (x == 10) ≡ v → (x ≡ 10 → ⊥) → n ≡ 0 → (if v then 1 + n else n) ≡ 0
not_first x n true e other h = absurd (other (eqb-true x 10 e))
not_first x n false e other h = h

no_feeds_in : (xs : List ℕ) → AllByRecursion (λ x. x ≢ 10) xs → line_feeds xs ≡ 0
no_feeds_in [] h = refl
no_feeds_in (x ∷ xs) h = not_first x (line_feeds xs) (x == 10) refl h.0 (no_feeds_in xs h.1)

last_of : (b : ℕ) (bs : List ℕ) → (front : List ℕ) × (x : ℕ) × (b ∷ bs ≡ front ++ x ∷ [])
last_of b [] = ([], b, refl)
last_of b (c ∷ bs) = let h = last_of c bs in (b ∷ h.0, h.1, ap (λ l. b ∷ l) h.2)

all_but_last : (front : List ℕ) (x : ℕ) → take (length (front ++ x ∷ []) - 1) (front ++ x ∷ []) ≡ front
all_but_last front x =
    let long : length (front ++ x ∷ []) - 1 ≡ length front = omega (arith, length-append front (x ∷ [])) in
    ap (λ n. take n (front ++ x ∷ [])) long ∙ take-append_seam front (x ∷ [])

ends_by : (front : List ℕ) (x : ℕ) → ends_with_byte 10 (front ++ x ∷ []) ≡ (x == 10)
ends_by front x =
    let long : length (front ++ x ∷ []) - 1 ≡ length front = omega (arith, length-append front (x ∷ [])) in
    let many : 0 < length (front ++ x ∷ []) = omega (arith, length-append front (x ∷ [])) in
    let some : nat_lt 0 (length (front ++ x ∷ [])) ≡ true = grind (arith, nat_tests) in
    let last : slice_index (front ++ x ∷ []) (length (front ++ x ∷ []) - 1) ≡ x = ap (λ n. slice_index (front ++ x ∷ []) n) long ∙ get_or-append_seam front x [] 0 in
    rw (some, last) refl

by_last : (front : List ℕ) (x : ℕ) (v : Bool) → (x == 10) ≡ v → line_feeds front ≡ 0 → IsHeardLine v (front ++ x ∷ [])
by_last front x true e none = record { front = front; ends = ap (λ c. front ++ c ∷ []) (eqb-true x 10 e); count = omega (arith, none) }
by_last front x false e none = let one : line_feeds (x ∷ []) ≡ 0 = rw e refl in omega (arith, feeds_append front (x ∷ []), none, one)

-- bytes with no line feed but at their end, behind others
piece_line : (before bytes : List ℕ) → StopsAt bytes 10 → 0 < length bytes → IsHeardLine (ends_with_byte 10 (before ++ bytes)) bytes
piece_line before [] h some = absurd (omega (arith, some))
piece_line before (b ∷ bs) h some = let u = last_of b bs in let P : List ℕ → Type 0 = λ l. StopsAt l 10 → IsHeardLine (ends_with_byte 10 (before ++ l)) l in subst P (sym u.2) (at_last u.0 u.1) h where
  at_last : (front : List ℕ) (x : ℕ) → StopsAt (front ++ x ∷ []) 10 → IsHeardLine (ends_with_byte 10 (before ++ (front ++ x ∷ []))) (front ++ x ∷ [])
  at_last front x stops =
      let none = no_feeds_in front (recursion_from_All (λ y. y ≢ 10) front (subst (λ (l : List ℕ). All (λ y. y ≢ 10) l) (all_but_last front x) stops)) in
      let test : ends_with_byte 10 (before ++ (front ++ x ∷ [])) ≡ (x == 10) = ap (ends_with_byte 10) (sym (append_assoc before front (x ∷ []))) ∙ ends_by (before ++ front) x in
      subst (λ (v : Bool). IsHeardLine v (front ++ x ∷ [])) (sym test) (by_last front x (x == 10) refl none)

-- where no line feed is left, the first line is all that is left
through_all : (xs : List ℕ) → line_feeds (take_through 10 xs) ≡ 0 → take_through 10 xs ≡ xs
through_all [] h = refl
through_all (x ∷ xs) h = at_first (x == 10) refl h (through_all xs) where
  at_first : (v : Bool) → (x == 10) ≡ v → line_feeds (if v then x ∷ [] else x ∷ take_through 10 xs) ≡ 0 → (line_feeds (take_through 10 xs) ≡ 0 → take_through 10 xs ≡ xs) → (if v then x ∷ [] else x ∷ take_through 10 xs) ≡ x ∷ xs
  at_first true e k f = let one : line_feeds (x ∷ []) ≡ 1 = rw e refl in absurd (omega (arith, one, k))
  at_first false e k f = let same : line_feeds (x ∷ take_through 10 xs) ≡ line_feeds (take_through 10 xs) = rw e refl in ap (λ l. x ∷ l) (f (sym same ∙ k))

nothing_left : (xs ys : List ℕ) → xs ≡ xs ++ ys → ys ≡ []
nothing_left [] ys e = sym e
nothing_left (x ∷ xs) ys e = nothing_left xs ys (cc)

all_heard : (rest rest' : Option (List ℕ)) (bytes : List ℕ) → IfSome rest (λ xs. bytes ≡ take_through 10 xs) → Consumes rest rest' bytes → line_feeds bytes ≡ 0 → IfSome rest (λ _. IsAtEnd rest')
all_heard None rest' bytes is taken none = tt
all_heard (Some xs) None bytes is taken none = absurd taken
all_heard (Some xs) (Some ys) bytes is taken none =
    let whole : bytes ≡ xs = is ∙ through_all xs (sym (ap line_feeds is) ∙ none) in
    nothing_left xs ys (taken ∙ ap (λ l. l ++ ys) whole)

abbrev Line : Conversation → Conversation → List ℕ → List ℕ → Bool → Type 0
Line old new before after whole = HeardLine old new before after whole

pub heard_nothing : {old new : Conversation} {before after : List ℕ} (n : ℕ) → Hears old new before after (Ok n) → n ≡ 0 → Line old new before after false
heard_nothing {old} {new} {before} {after} n h e = record {
  line = h.bytes;
  added = h.added;
  said = said_heard h;
  failures = h.ends.1;
  is = empty h.bytes (sym h.ends.0 ∙ e);
  ended = all_heard old.rest new.rest h.bytes h.ends.2 h.taken;
} where
  empty : (bytes : List ℕ) → length bytes ≡ 0 → line_feeds bytes ≡ 0
  empty [] z = refl
  empty (b ∷ bs) z = absurd (omega (arith, z))

pub heard_some : {old new : Conversation} {before after : List ℕ} (n : ℕ) → Hears old new before after (Ok n) → (n ≡ 0 → ⊥) → (b : Bool) → b ≡ ends_with_byte 10 after → Line old new before after b
heard_some {old} {new} {before} {after} n h other b is = record {
  line = h.bytes;
  added = h.added;
  said = said_heard h;
  failures = h.ends.1;
  is = let some : 0 < length h.bytes = omega (arith, h.ends.0, other) in
      subst (λ (v : Bool). IsHeardLine v h.bytes) (sym (is ∙ ap (ends_with_byte 10) h.added)) (piece_line before h.bytes h.piece some);
  ended = all_heard old.rest new.rest h.bytes h.ends.2 h.taken;
}

not_heard : {old new : Conversation} {before after : List ℕ} (e : ReadFault) → Hears old new before after (Err e) → NotHeard old new (read_fault reader.First e)
not_heard read.Failed h = record { bytes = h.bytes; said = said_heard h; fails = h.ends }
not_heard read.OutOfMemory h = record { bytes = h.bytes; said = said_heard h; fails = h.ends }

pub not_heard_by : {old new : Conversation} {before after : List ℕ} (e : ReadFault) (why : RunFault) → Hears old new before after (Err e) → why ≡ read_fault reader.First e → NotHeard old new why
not_heard_by {old} {new} e why h is = subst (λ (f : RunFault). NotHeard old new f) (sym is) (not_heard e h)
