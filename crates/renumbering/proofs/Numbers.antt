-- Laws of the new numbers of registers.
use Rattle.std.proofs.Common.{◌≡◌, ℕ, zero, suc, ◌<◌, ◌≤◌, ◌++◌, ◌⊎◌, inl, inr, false, Option, None, Some, is_some, List, [], ◌∷◌, length, map, slice_get, slice_set, slice_index_or, refl, ap, sym, ◌∙◌, subst, arith}
use Rattle.std.proofs.lemmas.Bool.{cases_eq, false≢true}
use Rattle.std.proofs.lemmas.List.{length-append, length-map, get_or_default}
use Rattle.std.proofs.lemmas.Option.{none-some, same_Some, slice_get-get_or}
use Rattle.std.specs.Option.{unwrap_or}
use Rattle.regcode.specs.Machine.{entry_at, with_entry}
use Rattle.regcode.specs.declared.tables.Register.{Register}
use Rattle.regcode.proofs.Registers.{item_put, item_kept, entry_is, with_entry_is_set, with_entry_length}
use Rattle.renumbering.specs.Numbers.{number_or_greatest, number_of, no_number, how_many, IsNumbering}

-- the number that is read in the list of them
pub number_is : (numbers : List (Option ℕ)) (r : ℕ) (found : Option ℕ) → r < length numbers → found ≡ slice_index_or numbers r found → number_or_greatest found ≡ number_of numbers r
number_is numbers r found inside read =
    ap number_or_greatest (read ∙ get_or_default numbers r found None inside ∙ sym (entry_is None numbers r))

-- what is read of an option
pub number_read : (found : Option ℕ) → unwrap_or found 4294967295 ≡ number_or_greatest found
number_read None = refl
number_read (Some n) = refl

-- what stands in front
get_before : {A : Type 0} (xs ys : List A) (i : ℕ) → i < length xs → slice_get (xs ++ ys) i ≡ slice_get xs i
get_before [] ys i inside = absurd (omega arith)
get_before (x ∷ xs) ys zero inside = refl
get_before (x ∷ xs) ys (suc i) inside = get_before xs ys i (omega arith)

-- what was put behind
get_next : {A : Type 0} (xs : List A) (y : A) → slice_get (xs ++ y ∷ []) (length xs) ≡ Some y
get_next [] y = refl
get_next (x ∷ xs) y = get_next xs y

-- one more register has a number
pub one_more : (numbers : List (Option ℕ)) (r n : ℕ) → r < length numbers → entry_at None numbers r ≡ None → how_many (with_entry None numbers r (Some n)) ≡ suc (how_many numbers)
one_more [] r n inside none = absurd (omega arith)
one_more (None ∷ numbers) zero n inside none = refl
one_more (Some m ∷ numbers) zero n inside none = absurd (none-some m (sym none))
one_more (None ∷ numbers) (suc r) n inside none = one_more numbers r n (omega arith) none
one_more (Some m ∷ numbers) (suc r) n inside none = ap suc (one_more numbers r n (omega arith) none)

-- no more registers have a number than there are
pub at_most_all : (numbers : List (Option ℕ)) → how_many numbers ≤ length numbers
at_most_all [] = omega arith
at_most_all (None ∷ numbers) = let rest = at_most_all numbers in omega (arith, rest)
at_most_all (Some n ∷ numbers) = let rest = at_most_all numbers in omega (arith, rest)

none_counted : (old : List Register) → how_many (map no_number old) ≡ 0
none_counted [] = refl
none_counted (x ∷ old) = none_counted old

pub none_there : (old : List Register) (r : ℕ) → entry_at None (map no_number old) r ≡ None
none_there [] r = refl
none_there (x ∷ old) zero = refl
none_there (x ∷ old) (suc r) = none_there old r

-- before the first register has a number
pub no_numbers : (old : List Register) → IsNumbering old [] (map no_number old)
no_numbers old =
    record {
      whole = length-map old no_number;
      count = sym (none_counted old);
      few = omega arith;
      below = λ r n e. absurd (none-some n (sym (none_there old r) ∙ e));
      entry = λ r n e. absurd (none-some n (sym (none_there old r) ∙ e));
      onto = λ n inside. absurd (omega (arith, inside));
      distinct = λ r other n e f. absurd (none-some n (sym (none_there old r) ∙ e));
    }

-- A register gets the next number, and its entry comes behind the others.
module _ (old new : List Register) (numbers : List (Option ℕ)) (r : ℕ) (x : Register) (is : IsNumbering old new numbers)
    (inside : r < length old) (none : entry_at None numbers r ≡ None) (there : slice_get old r ≡ Some x) (room : length new < 4294967295) where
  abbrev given : List (Option ℕ)
  given = with_entry None numbers r (Some (length new))

  within : r < length numbers
  within = let whole = is.whole in omega (arith, whole, inside)

  longer : length (new ++ x ∷ []) ≡ suc (length new)
  longer = let l = length-append new (x ∷ []) in omega (arith, l)

  which : (q n : ℕ) → entry_at None given q ≡ Some n → ((q ≡ r) × (n ≡ length new)) ⊎ (entry_at None numbers q ≡ Some n)
  which q n e = go (cases_eq q r)
    where
      go : (q ≡ r) ⊎ (q ≡ r → ⊥) → ((q ≡ r) × (n ≡ length new)) ⊎ (entry_at None numbers q ≡ Some n)
      go (inl same) = inl (same, same_Some n (length new) (sym e ∙ ap (entry_at None given) same ∙ item_put None numbers r (Some (length new))))
      go (inr other) = inr (sym (item_kept None numbers r (Some (length new)) q (λ f. other (sym f))) ∙ e)

  below : (q n : ℕ) → entry_at None given q ≡ Some n → n < length (new ++ x ∷ [])
  below q n e =
      elim (which q n e) [
        | inl next ↦ let is_next = next.1 in omega (arith, is_next, longer)
        | inr kept ↦ let b = is.below q n kept in omega (arith, b, longer)
      ]

  entry : (q n : ℕ) → entry_at None given q ≡ Some n → slice_get (new ++ x ∷ []) n ≡ slice_get old q
  entry q n e =
      elim (which q n e) [
        | inl next ↦ ap (slice_get (new ++ x ∷ [])) next.1 ∙ get_next new x ∙ sym there ∙ ap (slice_get old) (sym next.0)
        | inr kept ↦ get_before new (x ∷ []) n (is.below q n kept) ∙ is.entry q n kept
      ]

  distinct : (q other n : ℕ) → entry_at None given q ≡ Some n → entry_at None given other ≡ Some n → q ≡ other
  distinct q other n e f = go (which q n e) (which other n f)
    where
      go : ((q ≡ r) × (n ≡ length new)) ⊎ (entry_at None numbers q ≡ Some n) → ((other ≡ r) × (n ≡ length new)) ⊎ (entry_at None numbers other ≡ Some n) → q ≡ other
      go (inl a) (inl b) = a.0 ∙ sym b.0
      go (inl a) (inr k) = let b = is.below other n k in let m = a.1 in absurd (omega (arith, b, m))
      go (inr k) (inl b) = let c = is.below q n k in let m = b.1 in absurd (omega (arith, c, m))
      go (inr k) (inr l) = is.distinct q other n k l

  -- another register has what it had
  kept_at : (q n : ℕ) → entry_at None numbers q ≡ Some n → entry_at None given q ≡ Some n
  kept_at q n e = item_kept None numbers r (Some (length new)) q (λ f. none-some n (sym none ∙ ap (entry_at None numbers) f ∙ e)) ∙ e

  onto : (n : ℕ) → n < length (new ++ x ∷ []) → (q : ℕ) × (entry_at None given q ≡ Some n)
  onto n below' = go (cases_eq n (length new))
    where
      go : (n ≡ length new) ⊎ (n ≡ length new → ⊥) → (q : ℕ) × (entry_at None given q ≡ Some n)
      go (inl e) = (r, item_put None numbers r (Some (length new)) ∙ ap Some (sym e))
      go (inr e) = let old_one = is.onto n (omega (arith, below', e, longer)) in (old_one.0, kept_at old_one.0 n old_one.1)

  numbering : IsNumbering old (new ++ x ∷ []) given
  numbering =
      record {
        whole = with_entry_length None numbers r (Some (length new)) within ∙ is.whole;
        count = longer ∙ ap suc is.count ∙ sym (one_more numbers r (length new) within none);
        few = omega (arith, longer, room);
        below = below;
        entry = entry;
        onto = onto;
        distinct = distinct;
      }

  pub one_numbered : IsNumbering old (new ++ x ∷ []) (slice_set numbers r (Some (length new)))
  one_numbered = subst (IsNumbering old (new ++ x ∷ [])) (with_entry_is_set None numbers r (Some (length new)) within) numbering

not_there : (o : Option ℕ) → is_some o ≡ false → o ≡ None
not_there None e = refl
not_there (Some n) e = absurd (false≢true (sym e))

-- a register in whose place nothing was read
pub unset_there : (old new : List Register) (numbers : List (Option ℕ)) (r : ℕ) (found : Option ℕ) → IsNumbering old new numbers → r < length old → found ≡ slice_index_or numbers r found → is_some found ≡ false → entry_at None numbers r ≡ None
unset_there old new numbers r found is inside read none =
    let whole = is.whole in
    entry_is None numbers r ∙ get_or_default numbers r None found (omega (arith, whole, inside)) ∙ sym read ∙ not_there found none

pub gives : (old new : List Register) (numbers : List (Option ℕ)) (r count : ℕ) (pushed : List Register) (any : Register) (found : Option ℕ) → IsNumbering old new numbers → r < length old → found ≡ slice_index_or numbers r found
    → is_some found ≡ false → count ≡ length new → count < 4294967295 → pushed ≡ new ++ slice_index_or old r any ∷ [] → IsNumbering old pushed (slice_set numbers r (Some count))
gives old new numbers r count pushed any found is inside read none counted room is_pushed =
    subst (λ (n : ℕ). IsNumbering old pushed (slice_set numbers r (Some n))) (sym counted)
    (subst (λ (xs : List Register). IsNumbering old xs (slice_set numbers r (Some (length new)))) (sym is_pushed)
    (one_numbered old new numbers r (slice_index_or old r any) is inside (unset_there old new numbers r found is inside read none) (slice_get-get_or old r any inside) (omega (arith, counted, room))))
