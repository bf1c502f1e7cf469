-- Each register that is named gets a number.
use Rattle.std.proofs.Common.{◌≡◌, ℕ, zero, suc, ◌<◌, ◌≤◌, ◌++◌, ◌⊎◌, inl, inr, IsTrue, Option, None, Some, is_some, List, [], ◌∷◌, length, drop, slice_set, slice_index_or, ap, sym, ◌∙◌, subst, arith}
use Rattle.std.proofs.lemmas.Bool.{cases_eq, false≢true}
use Rattle.std.proofs.lemmas.List.{get_or_default}
use Rattle.regcode.specs.Machine.{entry_at, with_entry}
use Rattle.regcode.specs.declared.instruction.Instruction.{Instruction}
use Rattle.regcode.specs.declared.tables.Register.{Register}
use Rattle.regcode.proofs.Registers.{item_put, item_kept, entry_is, with_entry_is_set, with_entry_length}
use Rattle.renumbering.specs.Numbers.{IsNumbering, Among, Numbered, Gives, listed}
use Rattle.renumbering.specs.Renamed.{registers_named, all_named}
use Rattle.renumbering.proofs.Numbers.{one_more, at_most_all}

pub among_either : (q : ℕ) (rs ss : List ℕ) → Among q (rs ++ ss) → Among q rs ⊎ Among q ss
among_either q [] ss h = inr h
among_either q (r ∷ rs) ss (inl e) = inl (inl e)
among_either q (r ∷ rs) ss (inr h) = elim (among_either q rs ss h) [ inl a ↦ inl (inr a) | inr b ↦ inr b ]

pub among_first : (q : ℕ) (rs ss : List ℕ) → Among q rs → Among q (rs ++ ss)
among_first q [] ss h = absurd h
among_first q (r ∷ rs) ss (inl e) = inl e
among_first q (r ∷ rs) ss (inr h) = inr (among_first q rs ss h)

pub among_second : (q : ℕ) (rs ss : List ℕ) → Among q ss → Among q (rs ++ ss)
among_second q [] ss h = h
among_second q (r ∷ rs) ss h = inr (among_second q rs ss h)

-- no register gets a number
pub gives_none : (old : List Register) (numbers : List (Option ℕ)) → Gives old [] numbers numbers
gives_none old numbers = record { kept = λ q h. h; given = λ few q among inside. absurd among; none_else = λ q h. inl h }

-- some get a number, and then others
pub gives_both : (old : List Register) (rs ss : List ℕ) (a b c : List (Option ℕ)) → Gives old rs a b → Gives old ss b c → Gives old (rs ++ ss) a c
gives_both old rs ss a b c first second =
    record {
      kept = λ q h. second.kept q (first.kept q h);
      given = λ few q among inside. elim (among_either q rs ss among) [ inl h ↦ second.kept q (first.given few q h inside) | inr h ↦ second.given few q h inside ];
      none_else = λ q h. back q (second.none_else q h);
    }
  where
    front : (q : ℕ) → Numbered a q ⊎ Among q rs → Numbered a q ⊎ Among q (rs ++ ss)
    front q (inl h) = inl h
    front q (inr h) = inr (among_first q rs ss h)

    back : (q : ℕ) → Numbered b q ⊎ Among q ss → Numbered a q ⊎ Among q (rs ++ ss)
    back q (inl h) = front q (first.none_else q h)
    back q (inr h) = inr (among_second q rs ss h)

-- a register that is past the table
pub gives_past : (old : List Register) (numbers : List (Option ℕ)) (r : ℕ) → length old ≤ r → Gives old (r ∷ []) numbers numbers
gives_past old numbers r past = record { kept = λ q h. h; given = λ few q among inside. outside q among inside; none_else = λ q h. inl h }
  where
    outside : (q : ℕ) → Among q (r ∷ []) → q < length old → Numbered numbers q
    outside q (inl e) inside = absurd (omega (arith, e, inside, past))
    outside q (inr h) inside = absurd h

-- a register that has a number
pub gives_again : (old : List Register) (numbers : List (Option ℕ)) (r : ℕ) → Numbered numbers r → Gives old (r ∷ []) numbers numbers
gives_again old numbers r there = record { kept = λ q h. h; given = λ few q among inside. again q among; none_else = λ q h. inl h }
  where
    again : (q : ℕ) → Among q (r ∷ []) → Numbered numbers q
    again q (inl e) = subst (Numbered numbers) (sym e) there
    again q (inr h) = absurd h

-- where no number is left, the table is too long
pub gives_no_more : (old new : List Register) (numbers : List (Option ℕ)) (r : ℕ) → IsNumbering old new numbers → r < length old → entry_at None numbers r ≡ None → 4294967295 ≤ length new → Gives old (r ∷ []) numbers numbers
gives_no_more old new numbers r is inside none full =
    record { kept = λ q h. h; given = λ few q among within. absurd (omega (arith, few, full, fewer)); none_else = λ q h. inl h }
  where
    fewer : length new < length old
    fewer =
        let whole = is.whole in
        let count = is.count in
        let here : r < length numbers = omega (arith, whole, inside) in
        let more = one_more numbers r 0 here none in
        let most = at_most_all (with_entry None numbers r (Some 0)) in
        let long = with_entry_length None numbers r (Some 0) here in
        omega (arith, whole, count, more, most, long)

-- a register gets a number
pub gives_one : (old : List Register) (numbers : List (Option ℕ)) (r n : ℕ) → r < length numbers → Gives old (r ∷ []) numbers (slice_set numbers r (Some n))
gives_one old numbers r n inside = subst (Gives old (r ∷ []) numbers) (with_entry_is_set None numbers r (Some n) inside) gives
  where
    after : List (Option ℕ)
    after = with_entry None numbers r (Some n)

    here : Numbered after r
    here = ap is_some (item_put None numbers r (Some n))

    kept : (q : ℕ) → (q ≡ r) ⊎ (q ≡ r → ⊥) → Numbered numbers q → Numbered after q
    kept q (inl e) h = subst (Numbered after) (sym e) here
    kept q (inr e) h = ap is_some (item_kept None numbers r (Some n) q (λ f. e (sym f))) ∙ h

    given : (q : ℕ) → Among q (r ∷ []) → Numbered after q
    given q (inl e) = subst (Numbered after) (sym e) here
    given q (inr h) = absurd h

    none_else : (q : ℕ) → (q ≡ r) ⊎ (q ≡ r → ⊥) → Numbered after q → Numbered numbers q ⊎ Among q (r ∷ [])
    none_else q (inl e) h = inr (inl e)
    none_else q (inr e) h = inl (ap is_some (sym (item_kept None numbers r (Some n) q (λ f. e (sym f)))) ∙ h)

    gives : Gives old (r ∷ []) numbers after
    gives = record { kept = λ q h. kept q (cases_eq q r) h; given = λ few q among within. given q among; none_else = λ q h. none_else q (cases_eq q r) h }

-- what is read of a number that is there
pub numbered_is : (numbers : List (Option ℕ)) (r : ℕ) (found : Option ℕ) → r < length numbers → found ≡ slice_index_or numbers r found → IsTrue (is_some found) → Numbered numbers r
numbered_is numbers r found inside read there =
    ap is_some (entry_is None numbers r ∙ get_or_default numbers r None found inside ∙ sym read) ∙ there

-- One more register of a list is taken, or none.
pub rest_with : (old : List Register) (registers : List (Option ℕ)) (i next r : ℕ) (before after final : List (Option ℕ)) → next ≡ suc i → i < length registers → slice_index_or registers i None ≡ Some r
    → Gives old (r ∷ []) before after → Gives old (listed (drop next registers)) after final → Gives old (listed (drop i registers)) before final
rest_with old registers i next r before after final is_next inside is one rest =
    go registers i inside is (subst (λ (n : ℕ). Gives old (listed (drop n registers)) after final) is_next rest)
  where
    go : (registers : List (Option ℕ)) (i : ℕ) → i < length registers → slice_index_or registers i None ≡ Some r
        → Gives old (listed (drop (suc i) registers)) after final → Gives old (listed (drop i registers)) before final
    go [] i inside is rest = absurd (omega (arith, inside))
    go (None ∷ registers) zero inside is rest = absurd (false≢true (ap is_some is))
    go (Some q ∷ registers) zero inside is rest =
        let same : q ≡ r = cc in
        subst (λ (q : ℕ). Gives old (q ∷ listed registers) before final) (sym same) (gives_both old (r ∷ []) (listed registers) before after final one rest)
    go (x ∷ registers) (suc i) inside is rest = go registers i (omega (arith, inside)) is rest

pub rest_without : (old : List Register) (registers : List (Option ℕ)) (i next : ℕ) (before final : List (Option ℕ)) → next ≡ suc i → i < length registers → slice_index_or registers i None ≡ None
    → Gives old (listed (drop next registers)) before final → Gives old (listed (drop i registers)) before final
rest_without old registers i next before final is_next inside is rest =
    go registers i inside is (subst (λ (n : ℕ). Gives old (listed (drop n registers)) before final) is_next rest)
  where
    go : (registers : List (Option ℕ)) (i : ℕ) → i < length registers → slice_index_or registers i None ≡ None
        → Gives old (listed (drop (suc i) registers)) before final → Gives old (listed (drop i registers)) before final
    go [] i inside is rest = absurd (omega (arith, inside))
    go (None ∷ registers) zero inside is rest = rest
    go (Some q ∷ registers) zero inside is rest = absurd (false≢true (sym (ap is_some is)))
    go (x ∷ registers) (suc i) inside is rest = go registers i (omega (arith, inside)) is rest

-- the register that is read there
pub read_there : (registers : List (Option ℕ)) (i : ℕ) (found : Option ℕ) → i < length registers → found ≡ slice_index_or registers i found → slice_index_or registers i None ≡ found
read_there registers i found inside read = get_or_default registers i None found inside ∙ sym read

-- one more instruction
pub rest_named : (old : List Register) (instructions : List Instruction) (i next : ℕ) (x : Instruction) (named : List ℕ) (before after final : List (Option ℕ)) → next ≡ suc i → i < length instructions
    → x ≡ slice_index_or instructions i x → named ≡ registers_named x → Gives old named before after → Gives old (all_named (drop next instructions)) after final → Gives old (all_named (drop i instructions)) before final
rest_named old instructions i next x named before after final is_next inside read is one rest =
    go instructions i inside read (subst (λ (n : ℕ). Gives old (all_named (drop n instructions)) after final) is_next rest)
  where
    go : (instructions : List Instruction) (i : ℕ) → i < length instructions → x ≡ slice_index_or instructions i x
        → Gives old (all_named (drop (suc i) instructions)) after final → Gives old (all_named (drop i instructions)) before final
    go [] i inside read rest = absurd (omega (arith, inside))
    go (y ∷ instructions) zero inside read rest =
        gives_both old (registers_named y) (all_named instructions) before after final (subst (λ (rs : List ℕ). Gives old rs before after) (is ∙ ap registers_named read) one) rest
    go (y ∷ instructions) (suc i) inside read rest = go instructions i (omega (arith, inside)) read rest
