-- Words that groups update by one class: what two groups' updates leave, joined, is what they leave one after the
-- other.
use Rattle.std.proofs.Common.{◌≡◌, ℕ, ◌+◌, ◌-◌, ◌%◌, ◌^◌, ◌<◌, Some, sym, ap, ap₂, ◌∙◌, subst, arith, List, [], ◌∷◌, ◌++◌, bit_and, bit_or, bit_xor}
use Rattle.std.specs.Int.Bits.{and_self, or_self, xor_self, xor_zero_r}
use Rattle.std.proofs.lemmas.Nat.{and_comm, or_comm, xor_comm}
use Rattle.std.proofs.Math.Nat.{mod-eq_of_lt}
use Rattle.std.proofs.lemmas.Option.{same_Some}
use Rattle.clmodel.specs.Cells.{Cells, number, written, byte_of, signed_place, updated_word}
use Rattle.clmodel.specs.declared.access.Class.{Class}
use Rattle.clmodel.specs.declared.access.Class.TheVariants as class
use Rattle.clmodel.proofs.Bytes.{updated_below, updated_swap, and_wrap, or_wrap}
use Rattle.clmodel.proofs.CellLaws as laws
use Rattle.clmodel.proofs.CellLaws.{covers_parts, covers_from, written_in, number_of_written}
use Rattle.joining.specs.Memory.{joined_number}

-- what updates of one class leave of a number, the newest operand first
abbrev pub folded : Class → List ℕ → ℕ → ℕ
folded c [] x = x
folded c (v ∷ vs) x = updated_word c (folded c vs x) v

pub updated_comm : (c : Class) (a b : ℕ) → updated_word c a b ≡ updated_word c b a
unfolding updated_word
updated_comm class.Add a b = omega arith
updated_comm class.And a b = ap (λ y. y % 2 ^ 32) (and_comm a b)
updated_comm class.Or a b = ap (λ y. y % 2 ^ 32) (or_comm a b)
updated_comm class.Xor a b = ap (λ y. y % 2 ^ 32) (xor_comm a b)
updated_comm class.SignedMin a b = ap signed_place (omega arith)
updated_comm class.UnsignedMin a b = omega arith
updated_comm class.SignedMax a b = ap signed_place (omega arith)
updated_comm class.UnsignedMax a b = omega arith

pub updated_assoc : (c : Class) (a b v : ℕ) → updated_word c a (updated_word c b v) ≡ updated_word c (updated_word c a b) v
updated_assoc c a b v = updated_comm c a (updated_word c b v) ∙ updated_swap c b v a ∙ ap (λ y. updated_word c y v) (updated_comm c b a)

add_step : (s a b v : ℕ) → joined_number class.Add s a (updated_word class.Add b v) ≡ updated_word class.Add (joined_number class.Add s a b) v
unfolding joined_number updated_word
add_step s a b v = omega arith

-- an update more
joined_step : (c : Class) (s a b v : ℕ) → joined_number c s a (updated_word c b v) ≡ updated_word c (joined_number c s a b) v
unfolding joined_number
joined_step class.Add s a b v = add_step s a b v
joined_step class.And s a b v = updated_assoc class.And a b v
joined_step class.Or s a b v = updated_assoc class.Or a b v
joined_step class.Xor s a b v = ap (updated_word class.Xor a) (updated_swap class.Xor b v s) ∙ updated_assoc class.Xor a (updated_word class.Xor b s) v
joined_step class.SignedMin s a b v = updated_assoc class.SignedMin a b v
joined_step class.UnsignedMin s a b v = updated_assoc class.UnsignedMin a b v
joined_step class.SignedMax s a b v = updated_assoc class.SignedMax a b v
joined_step class.UnsignedMax s a b v = updated_assoc class.UnsignedMax a b v

-- a class of which a second update with the first number changes nothing
abbrev Idle : Class → Type 0
Idle c = (s v : ℕ) → updated_word c (updated_word c s s) v ≡ updated_word c s v

idle_and : Idle class.And
unfolding updated_word
idle_and s v = and_wrap (bit_and s s) v ∙ ap (λ y. bit_and y v % 2 ^ 32) (and_self s)

idle_or : Idle class.Or
unfolding updated_word
idle_or s v = or_wrap (bit_or s s) v ∙ ap (λ y. bit_or y v % 2 ^ 32) (or_self s)

idle_umin : Idle class.UnsignedMin
unfolding updated_word
idle_umin s v = omega arith

idle_umax : Idle class.UnsignedMax
unfolding updated_word
idle_umax s v = omega arith

idle_smin : Idle class.SignedMin
unfolding updated_word
idle_smin s v = ap signed_place (omega arith)

idle_smax : Idle class.SignedMax
unfolding updated_word
idle_smax s v = ap signed_place (omega arith)

idle_absorbs : (c : Class) → Idle c → (us : List ℕ) (v s : ℕ) → updated_word c (folded c (v ∷ us) s) s ≡ folded c (v ∷ us) s
idle_absorbs c idle [] v s = updated_swap c s v s ∙ idle s v
idle_absorbs c idle (u ∷ us) v s = updated_swap c (folded c (u ∷ us) s) v s ∙ ap (λ y. updated_word c y v) (idle_absorbs c idle us u s)

pub xor_absorbs : (a s : ℕ) → a < 2 ^ 32 → updated_word class.Xor a (updated_word class.Xor s s) ≡ a
unfolding updated_word
xor_absorbs a s h = ap (λ z. bit_xor a (z % 2 ^ 32) % 2 ^ 32) (xor_self s) ∙ ap (λ z. z % 2 ^ 32) (xor_zero_r a) ∙ mod-eq_of_lt h

add_absorbs : (a s : ℕ) → a < 2 ^ 32 → joined_number class.Add s a s ≡ a
unfolding joined_number
add_absorbs a s h = omega arith

-- where the further group leaves the number, the join is the lower groups'
absorbs : (c : Class) (us : List ℕ) (v s : ℕ) → joined_number c s (folded c (v ∷ us) s) s ≡ folded c (v ∷ us) s
unfolding joined_number
absorbs class.Add us v s = add_absorbs _ s (updated_below class.Add _ v)
absorbs class.And us v s = idle_absorbs class.And idle_and us v s
absorbs class.Or us v s = idle_absorbs class.Or idle_or us v s
absorbs class.Xor us v s = xor_absorbs _ s (updated_below class.Xor _ v)
absorbs class.SignedMin us v s = idle_absorbs class.SignedMin idle_smin us v s
absorbs class.UnsignedMin us v s = idle_absorbs class.UnsignedMin idle_umin us v s
absorbs class.SignedMax us v s = idle_absorbs class.SignedMax idle_smax us v s
absorbs class.UnsignedMax us v s = idle_absorbs class.UnsignedMax idle_umax us v s

-- the join of two groups' updates is the second's after the first's
pub joined_folds : (c : Class) (us vs : List ℕ) (v s : ℕ) → joined_number c s (folded c (v ∷ us) s) (folded c vs s) ≡ folded c vs (folded c (v ∷ us) s)
joined_folds c us [] v s = absorbs c us v s
joined_folds c us (w ∷ vs) v s = joined_step c s (folded c (v ∷ us) s) (folded c vs s) w ∙ ap (λ y. updated_word c y w) (joined_folds c us vs v s)

-- cells whose word was updated with these operands, the newest first
abbrev pub Updated : Class → List ℕ → Cells → Cells → ℕ → Type 0
Updated c [] old new word = (k : ℕ) → k < 4 → new (word + k) ≡ old (word + k)
Updated c (v ∷ vs) old new word =
    (mid : Cells) × (x : ℕ) × Updated c vs old mid word × (number mid word 4 ≡ Some x) × ((k : ℕ) → k < 4 → new (word + k) ≡ written mid word 4 (updated_word c x v) (word + k))

pub updated_same : (c : Class) (vs : List ℕ) (old new next : Cells) (word : ℕ) → Updated c vs old new word → ((k : ℕ) → k < 4 → next (word + k) ≡ new (word + k)) → Updated c vs old next word
updated_same c [] old new next word u same = λ k b. same k b ∙ u k b
updated_same c (v ∷ vs) old new next word u same = (u.0, u.1, u.2, u.3, λ k b. same k b ∙ u.4 k b)

word_frame : (c d : Cells) (word : ℕ) → ((k : ℕ) → k < 4 → c (word + k) ≡ d (word + k)) → number c word 4 ≡ number d word 4
word_frame c d word same =
    laws.number_frame c d word 4 (λ byte h. let p = (covers_parts word 4 byte h).0 in let q = (covers_parts word 4 byte h).1 in let e : word + (byte - word) ≡ byte = omega arith in subst (λ z. c z ≡ d z) e (same (byte - word) (omega arith)))

pub updated_number : (c : Class) (vs : List ℕ) (old new : Cells) (word x : ℕ) → Updated c vs old new word → number old word 4 ≡ Some x → number new word 4 ≡ Some (folded c vs x)
updated_number c [] old new word x u h = word_frame new old word u ∙ h
updated_number c (v ∷ vs) old new word x u h =
    let e : u.1 ≡ folded c vs x = same_Some _ _ (sym u.3 ∙ updated_number c vs old u.0 word x u.2 h) in
    word_frame new (written u.0 word 4 (updated_word c u.1 v)) word u.4 ∙ number_of_written u.0 word (updated_word c u.1 v) (updated_below c u.1 v) ∙ ap (λ z. Some (updated_word c z v)) e

pub updated_byte : (c : Class) (v : ℕ) (vs : List ℕ) (old new : Cells) (word x k : ℕ) → Updated c (v ∷ vs) old new word → number old word 4 ≡ Some x → k < 4
    → new (word + k) ≡ Some (byte_of k (folded c (v ∷ vs) x))
updated_byte c v vs old new word x k u h b =
    let e : u.1 ≡ folded c vs x = same_Some _ _ (sym u.3 ∙ updated_number c vs old u.0 word x u.2 h) in
    let f : word + k - word ≡ k = omega arith in
    u.4 k b ∙ written_in u.0 word 4 (updated_word c u.1 v) (word + k) (covers_from word 4 (word + k) (omega arith) (omega arith))
    ∙ ap₂ (λ i z. Some (byte_of i (updated_word c z v))) f e

-- the number that was there before
pub updated_old : (c : Class) (v : ℕ) (vs : List ℕ) (old new : Cells) (word : ℕ) → Updated c (v ∷ vs) old new word → (x : ℕ) × (number old word 4 ≡ Some x)
updated_old c v [] old new word u = (u.1, sym (word_frame u.0 old word u.2) ∙ u.3)
updated_old c v (w ∷ vs) old new word u = updated_old c w vs old u.0 word u.2

pub updated_further : (c : Class) (us vs : List ℕ) (old mid new : Cells) (word : ℕ) → Updated c us old mid word → Updated c vs mid new word → Updated c (vs ++ us) old new word
updated_further c us [] old mid new word u w = updated_same c us old mid new word u w
updated_further c us (v ∷ vs) old mid new word u w = (w.0, w.1, updated_further c us vs old mid w.0 word u w.2, w.3, w.4)
