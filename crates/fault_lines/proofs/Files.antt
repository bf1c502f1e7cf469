-- Schedule files: what is read is a file's text, and that text is read.
use Rattle.std.proofs.Common.{◌≡◌, ℕ, ◌<◌, ◌^◌, ◌==◌, Bool, true, false, not, ◌&&◌, ◌||◌, nat_lt, nat_eq, if◌then◌else◌, List, [], ◌∷◌, ◌++◌, map, length, take, drop, Option, None, Some, refl, ap, sym, ◌∙◌, subst, arith, decimal, codes, append_assoc}
use Rattle.std.specs.Char.{is_ascii_digit}
use Rattle.std.specs.List.{list_all, flat_map, join_with_byte, All}
use Rattle.std.specs.Option.{is_some, unwrap_or}
use Rattle.std.proofs.lemmas.Bool.{eqb-true, ne_eqb, not-true}
use Rattle.std.proofs.lemmas.Bool.Decides.{nat_tests}
use Rattle.std.proofs.lemmas.Fmt.{decimal_nonempty}
use Rattle.std.proofs.lemmas.List.{append-nil, take-append-drop}
use Rattle.std.proofs.lemmas.List.Folds.{list_all-append}
use Rattle.std.proofs.lemmas.List.Splits.{slice_split_at, slice_split_none, length-slice_split, join_with_byte-slice_split}
use Rattle.std.proofs.lemmas.List.Sums.{AllPass-from_list_all}
use Rattle.std.proofs.Math.Seq.{take-append_seam, drop-append_seam}
use lib.Pointwise.{bytes_decides}
use Rattle.clmodel.specs.declared.fault.Fault.{Fault}
use Rattle.clmodel.specs.declared.schedule.EventRun.{EventRun}
use Rattle.clmodel.specs.declared.schedule.EventRun.TheVariants as run
use Rattle.fault_lines.specs.Text.{run_text, later_run_text, schedule_text, fault_text, fault_line}
use Rattle.fault_lines.specs.ScheduleFile.{IsRun, AreRuns, ticket_line, IsScheduleFile}
use Rattle.text_lines.specs.Fronts.{front_length}
use Rattle.fault_lines.specs.Reading.{same, is_inner, line_of, item_run_at, release_at, run_at, run_of, run_named, is_run, words_of, is_schedule, schedule_of, schedule_at, fault_at, file_of}
use Rattle.text_lines.proofs.FieldLaws.{read_then, if_some, and_true, front_of, after_takes, after_again, number_takes, not_behind, decimal_digits}
use Rattle.fault_lines.proofs.FieldLaws.{number32_takes, number_last, number32_last, number_before, number_before_again, number32_before, number32_before_again}
use Rattle.fault_lines.proofs.ReaderSteps.{read_is, by_word}
use Rattle.fault_lines.proofs.Grammar.{fault_takes}
use Rattle.fault_lines.proofs.Again.{fault_again}

-- the text of a run, its pieces put together
abbrev run_word : EventRun → List ℕ
run_word (run.Item item count) = decimal item ++ 42 ∷ decimal count
run_word (run.Release group) = 114 ∷ decimal group

run_text_is : (r : EventRun) → run_text r ≡ run_word r
run_text_is (run.Item item count) = ap (λ l. decimal item ++ 42 ∷ l) (append-nil (decimal count))
run_text_is (run.Release group) = ap (λ l. 114 ∷ l) (append-nil (decimal group))

some_text : (r : EventRun) (rs : List EventRun) → schedule_text (r ∷ rs) ≡ join_with_byte 32 (map run_word (r ∷ rs))
some_text r [] = append-nil (run_text r) ∙ run_text_is r
some_text r (s ∷ rs) = ap (λ l. l ++ flat_map later_run_text (s ∷ rs)) (run_text_is r) ∙ ap (λ l. run_word r ++ 32 ∷ l) (some_text s rs)

runs_text : (runs : List EventRun) → 0 < length runs → schedule_text runs ≡ join_with_byte 32 (map run_word runs)
runs_text [] h = absurd (omega (arith, h))
runs_text (r ∷ rs) h = some_text r rs

-- a run

abbrev RunBehind : List ℕ → EventRun → List ℕ → Type 0
RunBehind bytes r rest = (bytes ≡ run_word r ++ rest) × IsRun r

release_takes : (bytes : List ℕ) (x : EventRun × List ℕ) → release_at bytes ≡ Some x → RunBehind (codes "r" ++ bytes) x.0 x.1
unfolding release_at
release_takes bytes x e =
    let s1 = read_then _ (number32_takes bytes) e in
    read_is (λ y. RunBehind (codes "r" ++ bytes) y.0 y.1) s1.2 (ap (λ l. codes "r" ++ l) s1.1.0, s1.1.1)

item_run_takes : (bytes : List ℕ) (x : EventRun × List ℕ) → item_run_at bytes ≡ Some x → RunBehind bytes x.0 x.1
unfolding item_run_at
item_run_takes bytes x e =
    let s1 = read_then _ (number32_before 42 bytes) e in
    let s2 = read_then _ (number_takes s1.0.1) s1.2 in
    let p = if_some (nat_lt 0 s2.0.0) (run.Item s1.0.0 s2.0.0, s2.0.1) x s2.2 in
    let some : 0 < s2.0.0 = above s2.0.0 p.0 in
    let P : EventRun × List ℕ → Type 0 = λ y. RunBehind bytes y.0 y.1 in
    subst P p.1 (s1.1.0.split ∙ (ap (λ l. decimal s1.0.0 ++ 42 ∷ l) s2.1.0 ∙ sym (append_assoc (decimal s1.0.0) (42 ∷ decimal s2.0.0) s2.0.1)), (s1.1.1, some, s2.1.1)) where
      above : (n : ℕ) → nat_lt 0 n ≡ true → 0 < n
      above n h = grind (arith, nat_tests)

run_at_takes : (bytes : List ℕ) (x : EventRun × List ℕ) → run_at bytes ≡ Some x → RunBehind bytes x.0 x.1
unfolding run_at
run_at_takes bytes x e = by_word (λ l. RunBehind l x.0 x.1) (codes "r") bytes (λ onto. release_takes onto x) (item_run_takes bytes x) e

empty_of : (xs : List ℕ) → (length xs == 0) ≡ true → xs ≡ []
empty_of [] h = refl
empty_of (x ∷ xs) h = absurd (omega (arith, eqb-true (length (x ∷ xs)) 0 h))

run_takes : (word : List ℕ) (r : EventRun) → run_of word ≡ Some r → (word ≡ run_word r) × IsRun r
unfolding run_of
run_takes word r e =
    let s1 = read_then _ (run_at_takes word) e in
    let p = if_some (length s1.0.1 == 0) s1.0.0 r s1.2 in
    let nothing = empty_of s1.0.1 p.0 in
    let P : EventRun → Type 0 = λ y. (word ≡ run_word y) × IsRun y in
    subst P p.1 (s1.1.0 ∙ (ap (λ l. run_word s1.0.0 ++ l) nothing ∙ append-nil (run_word s1.0.0)), s1.1.1)

run_back : (r : EventRun) → IsRun r → run_of (run_word r) ≡ Some r
unfolding run_of run_at release_at item_run_at
run_back (run.Release group) h = rw (after_again (codes "r") (decimal group), number32_last group h) refl
run_back (run.Item item count) h =
    let wide : item < 2 ^ 64 = omega (arith, h.0) in
    let some : nat_lt 0 count ≡ true = above count h.1 in
    rw (
      not_behind 114 (decimal item) (42 ∷ decimal count) refl (decimal_nonempty item wide) (decimal_digits item wide),
      number32_before_again 42 item h.0 (decimal count) refl,
      number_last count h.2,
      some,
    ) refl where
      above : (n : ℕ) → 0 < n → nat_lt 0 n ≡ true
      above n h = grind (arith, nat_tests)

-- the words of a schedule

word_by : (word : List ℕ) (o : Option EventRun) → run_of word ≡ o → is_some o ≡ true → (run_word (unwrap_or o (run.Release 0)) ≡ word) × IsRun (unwrap_or o (run.Release 0))
word_by word None is h = absurd (cc)
word_by word (Some r) is h = let t = run_takes word r is in (sym t.0, t.1)

words_text : (words : List (List ℕ)) → list_all is_run words ≡ true → (map run_word (map run_named words) ≡ words) × AreRuns (map run_named words)
words_text [] h = (refl, tt)
words_text (word ∷ words) h =
    let both = and_true (is_run word) (list_all is_run words) h in
    let one = word_by word (run_of word) refl both.0 in
    let more = words_text words both.1 in
    (rw (one.0, more.0) refl, (one.1, more.1))

words_some : (words : List (List ℕ)) → length (map run_named words) ≡ length words
words_some [] = refl
words_some (word ∷ words) = ap Rattle.std.proofs.Common.suc (words_some words)

schedule_by : (text : List ℕ) (v : Bool) → same text (codes "-") ≡ v → (v || list_all is_run (words_of text)) ≡ true
    → (text ≡ schedule_text (if v then [] else map run_named (words_of text))) × AreRuns (if v then [] else map run_named (words_of text))
schedule_by text true is h = ((bytes_decides text (codes "-")).0 is, tt)
schedule_by text false is h =
    let w = words_text (words_of text) h in
    let some : 0 < length (map run_named (words_of text)) = omega (arith, length-slice_split (λ b. b == 32) text, words_some (words_of text)) in
    (sym (runs_text (map run_named (words_of text)) some ∙ ap (join_with_byte 32) w.0 ∙ join_with_byte-slice_split 32 text), w.1)

line_takes : (bytes text : List ℕ) → line_of bytes ≡ Some text → bytes ≡ text ++ 10 ∷ []
unfolding line_of
line_takes bytes text e =
    let n = front_length is_inner bytes in
    let p = if_some (same (drop n bytes) (10 ∷ [])) (take n bytes) text e in
    let end : drop n bytes ≡ 10 ∷ [] = (bytes_decides (drop n bytes) (10 ∷ [])).0 p.0 in
    let P : List ℕ → Type 0 = λ l. bytes ≡ l ++ 10 ∷ [] in
    subst P p.1 (sym (take-append-drop n bytes) ∙ ap (λ l. take n bytes ++ l) end)

line_again : (text : List ℕ) → list_all is_inner text ≡ true → line_of (text ++ 10 ∷ []) ≡ Some text
unfolding line_of
line_again text h =
    let n = front_of is_inner text 10 [] h refl in
    rw (n, take-append_seam text (10 ∷ []), drop-append_seam text (10 ∷ [])) refl

schedule_takes : (bytes text : List ℕ) → schedule_at bytes ≡ Some text → (bytes ≡ codes "schedule " ++ (schedule_text (schedule_of text) ++ 10 ∷ [])) × AreRuns (schedule_of text)
unfolding schedule_at
schedule_takes bytes text e =
    let s1 = read_then _ (after_takes (codes "schedule ") bytes) e in
    let s2 = read_then _ (line_takes s1.0) s1.2 in
    let p = if_some (is_schedule s2.0) s2.0 text s2.2 in
    let by = schedule_by s2.0 (same s2.0 (codes "-")) refl p.0 in
    let split : bytes ≡ codes "schedule " ++ (schedule_text (schedule_of s2.0) ++ 10 ∷ []) = s1.1 ∙ ap (λ l. codes "schedule " ++ l) s2.1 ∙ ap (λ l. codes "schedule " ++ (l ++ 10 ∷ [])) by.0 in
    let P : List ℕ → Type 0 = λ l. (bytes ≡ codes "schedule " ++ (schedule_text (schedule_of l) ++ 10 ∷ [])) × AreRuns (schedule_of l) in
    subst P p.1 (split, by.1)

-- the bytes of a run's word are neither a space nor a line feed

abbrev is_solid : ℕ → Bool
is_solid b = not (b == 32) && not (b == 10)

digit_solid : (b : ℕ) → is_ascii_digit b ≡ true → is_solid b ≡ true
digit_solid b h = grind (arith, nat_tests)

digits_solid : (ds : List ℕ) → list_all is_ascii_digit ds ≡ true → list_all is_solid ds ≡ true
digits_solid [] h = refl
digits_solid (d ∷ ds) h = let both = and_true (is_ascii_digit d) (list_all is_ascii_digit ds) h in rw (digit_solid d both.0) (digits_solid ds both.1)

number_solid : (n : ℕ) → n < 2 ^ 64 → list_all is_solid (decimal n) ≡ true
number_solid n h = digits_solid (decimal n) (decimal_digits n h)

word_solid : (r : EventRun) → IsRun r → list_all is_solid (run_word r) ≡ true
word_solid (run.Release group) h = number_solid group (omega (arith, h))
word_solid (run.Item item count) h = list_all-append is_solid (decimal item) (42 ∷ decimal count) ∙ rw (number_solid item (omega (arith, h.0)), number_solid count h.2) refl

solid_inner : (bs : List ℕ) → list_all is_solid bs ≡ true → list_all is_inner bs ≡ true
solid_inner [] h = refl
solid_inner (b ∷ bs) h =
    let both = and_true (is_solid b) (list_all is_solid bs) h in
    let one = and_true (not (b == 32)) (not (b == 10)) both.0 in
    rw one.1 (solid_inner bs both.1)

no_spaces : (r : EventRun) → IsRun r → All (λ b. (b == 32) ≡ false) (run_word r)
no_spaces r h = let all = AllPass-from_list_all is_solid (run_word r) (word_solid r h) in λ k d in_it. not-true _ (and_true _ _ (all k d in_it)).0

abbrev words_joined : List EventRun → List ℕ
words_joined runs = join_with_byte 32 (map run_word runs)

-- what the text of runs is made of
record RunsText (runs : List EventRun) : Type 0 where
  inner : list_all is_inner (words_joined runs) ≡ true
  words : words_of (words_joined runs) ≡ map run_word runs
  are : list_all is_run (map run_word runs) ≡ true
  back : map run_named (map run_word runs) ≡ runs

runs_made : (r : EventRun) (rs : List EventRun) → AreRuns (r ∷ rs) → RunsText (r ∷ rs)
runs_made r [] h =
    let one = run_back r h.0 in
    record {
      inner = solid_inner (run_word r) (word_solid r h.0);
      words = slice_split_none (λ b. b == 32) (run_word r) (no_spaces r h.0);
      are = rw one refl;
      back = rw one refl;
    }
runs_made r (s ∷ rs) h =
    let one = run_back r h.0 in
    let more = runs_made s rs h.1 in
    record {
      inner = list_all-append is_inner (run_word r) (32 ∷ words_joined (s ∷ rs)) ∙ rw (solid_inner (run_word r) (word_solid r h.0)) more.inner;
      words = slice_split_at (λ b. b == 32) (run_word r) 32 (words_joined (s ∷ rs)) (no_spaces r h.0) refl ∙ ap (λ l. run_word r ∷ l) more.words;
      are = rw one more.are;
      back = rw one (ap (λ l. r ∷ l) more.back);
    }

no_dash : (ds rest : List ℕ) → 0 < length ds → list_all is_ascii_digit ds ≡ true → same (ds ++ rest) (codes "-") ≡ false
no_dash [] rest some h = absurd (omega (arith, some))
no_dash (d ∷ ds) rest some h =
    let both = and_true (is_ascii_digit d) (list_all is_ascii_digit ds) h in
    let other : nat_eq d 45 ≡ false = ne_eqb d 45 (λ e. let f : is_ascii_digit 45 ≡ true = ap is_ascii_digit (sym e) ∙ both.0 in absurd (cc)) in
    rw other refl

word_no_dash : (r : EventRun) → IsRun r → (rest : List ℕ) → same (run_word r ++ rest) (codes "-") ≡ false
word_no_dash (run.Release group) h rest = refl
word_no_dash (run.Item item count) h rest =
    let wide : item < 2 ^ 64 = omega (arith, h.0) in
    rw (append_assoc (decimal item) (42 ∷ decimal count) rest) (no_dash (decimal item) (42 ∷ (decimal count ++ rest)) (decimal_nonempty item wide) (decimal_digits item wide))

joined_no_dash : (r : EventRun) (rs : List EventRun) → AreRuns (r ∷ rs) → same (words_joined (r ∷ rs)) (codes "-") ≡ false
joined_no_dash r [] h = ap (λ l. same l (codes "-")) (sym (append-nil (run_word r))) ∙ word_no_dash r h.0 []
joined_no_dash r (s ∷ rs) h = word_no_dash r h.0 (32 ∷ words_joined (s ∷ rs))

-- what is read of a schedule
record ScheduleRead (runs : List EventRun) : Type 0 where
  text : List ℕ
  read : schedule_at (codes "schedule " ++ (schedule_text runs ++ 10 ∷ [])) ≡ Some text
  back : schedule_of text ≡ runs

read_line : (text : List ℕ) → list_all is_inner text ≡ true → is_schedule text ≡ true → schedule_at (codes "schedule " ++ (text ++ 10 ∷ [])) ≡ Some text
unfolding schedule_at
read_line text h is = rw (after_again (codes "schedule ") (text ++ 10 ∷ []), line_again text h, is) refl

schedule_again : (runs : List EventRun) → AreRuns runs → ScheduleRead runs
schedule_again [] h = record { text = codes "-"; read = read_line (codes "-") refl refl; back = refl }
schedule_again (r ∷ rs) h =
    let t = runs_made r rs h in
    let dash = joined_no_dash r rs h in
    let text : schedule_text (r ∷ rs) ≡ words_joined (r ∷ rs) = some_text r rs in
    let is : is_schedule (words_joined (r ∷ rs)) ≡ true = rw (dash, t.words) t.are in
    record {
      text = words_joined (r ∷ rs);
      read = rw text (read_line (words_joined (r ∷ rs)) t.inner is);
      back = rw (dash, t.words) t.back;
    }

-- the file

-- its text, with the line of the fault taken apart
file_text : (ticket : ℕ) (f : Fault) (runs : List EventRun) → ticket_line ticket ++ fault_line f runs ≡ codes "ticket " ++ (decimal ticket ++ 10 ∷ (fault_text f ++ 32 ∷ (codes "schedule " ++ (schedule_text runs ++ 10 ∷ []))))
file_text ticket f runs = ap (λ l. codes "ticket " ++ l) (append_assoc (decimal ticket) (10 ∷ []) (fault_line f runs))

pub file_takes : (bytes : List ℕ) (ticket : ℕ) (f : Fault) (text : List ℕ) → file_of bytes ≡ Some (ticket, f, text) → IsScheduleFile bytes ticket f (schedule_of text)
unfolding file_of
file_takes bytes ticket f text e =
    let s1 = read_then _ (after_takes (codes "ticket ") bytes) e in
    let s2 = read_then _ (number_before 10 s1.0) s1.2 in
    let s3 = read_then _ (fault_takes s2.0.1) s2.2 in
    let s4 = read_then _ (schedule_takes s3.0.1) s3.2 in
    let split = s1.1 ∙ ap (λ l. codes "ticket " ++ l) (s2.1.0.split ∙ ap (λ l. decimal s2.0.0 ++ 10 ∷ l) (s3.1.0.split ∙ ap (λ l. fault_text s3.0.0 ++ 32 ∷ l) s4.1.0)) in
    read_is (λ y. IsScheduleFile bytes y.0 y.1 (schedule_of y.2)) s4.2 (s2.1.1, s3.1.1, s4.1.1, split ∙ sym (file_text s2.0.0 s3.0.0 (schedule_of s4.0)))

-- what is read of a file
pub record FileRead (bytes : List ℕ) (ticket : ℕ) (f : Fault) (runs : List EventRun) : Type 0 where
  pub text : List ℕ
  pub read : file_of bytes ≡ Some (ticket, f, text)
  pub back : schedule_of text ≡ runs

file_by : (ticket : ℕ) (f : Fault) (text more : List ℕ) → ticket < 2 ^ 64 → fault_at (fault_text f ++ 32 ∷ (codes "schedule " ++ more)) ≡ Some (f, codes "schedule " ++ more) → schedule_at (codes "schedule " ++ more) ≡ Some text
    → file_of (codes "ticket " ++ (decimal ticket ++ 10 ∷ (fault_text f ++ 32 ∷ (codes "schedule " ++ more)))) ≡ Some (ticket, f, text)
unfolding file_of
file_by ticket f text more h e g =
    let tail = fault_text f ++ 32 ∷ (codes "schedule " ++ more) in
    rw (after_again (codes "ticket ") (decimal ticket ++ 10 ∷ tail), number_before_again 10 ticket h tail refl, e, g) refl

pub file_again : (bytes : List ℕ) (ticket : ℕ) (f : Fault) (runs : List EventRun) → IsScheduleFile bytes ticket f runs → FileRead bytes ticket f runs
file_again bytes ticket f runs h =
    let t = schedule_again runs h.2 in
    let more = schedule_text runs ++ 10 ∷ [] in
    let whole = file_by ticket f t.text more h.0 (fault_again f h.1 more) t.read in
    record { text = t.text; read = ap file_of (h.3 ∙ file_text ticket f runs) ∙ whole; back = t.back }

-- what is read of a file is what the file tells
pub file_is : (bytes : List ℕ) (ticket other : ℕ) (f g : Fault) (text : List ℕ) (runs : List EventRun) → file_of bytes ≡ Some (ticket, f, text) → IsScheduleFile bytes other g runs → (ticket ≡ other) × (f ≡ g) × (schedule_of text ≡ runs)
file_is bytes ticket other f g text runs e h =
    let again = file_again bytes other g runs h in
    let two : Some (ticket, f, text) ≡ Some (other, g, again.text) = sym e ∙ again.read in
    let one : (ticket, f, text) ≡ (other, g, again.text) = inside (ticket, f, text) (other, g, again.text) two in
    (ap (λ y. y.0) one, ap (λ y. y.1) one, ap (λ y. schedule_of y.2) one ∙ again.back) where
      inside : (x y : ℕ × Fault × List ℕ) → Some x ≡ Some y → x ≡ y
      inside x y e = cc
