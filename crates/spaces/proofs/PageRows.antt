-- A buffer's bytes as a list.
use Rattle.std.proofs.Common.{◌≡◌, ℕ, zero, suc, ◌+◌, ◌-◌, ◌/◌, ◌<◌, ◌≤◌, ◌⊎◌, List, [], ◌∷◌, None, Some, length, map, Result, Ok, Err, OnErr, refl, sym, ap, ap₂, ◌∙◌, inl, inr, arith}
use Rattle.std.specs.Prelude.{◌≢◌, All, slice_index, slice_get}
use Rattle.std.specs.List.{range_with_len}
use Rattle.std.proofs.lemmas.Bool.{cases_lt}
use Rattle.std.proofs.lemmas.List.Elements.{All-get_or}
use Rattle.std.proofs.lemmas.Option.{slice_get-get_or, slice_get_past}
use Rattle.clmodel.specs.Cells.{Cells, cells_of, number, written}
use Rattle.clmodel.proofs.CellLaws.{number_frame, covers_parts}
use Rattle.spaces.proofs.Rows.{written_out}
use Rattle.spaces.specs.Overlay.{Overlaid, overlaid_byte, overlaid_cells, overlaid, row_cells, IsCopied, AreNumbered}
use Rattle.spaces.proofs.Copies.{copied_or, lent, written_same}

-- ---- lists made of a function

counted : (f : Cells) (a n k : ℕ) → k < n → cells_of (map f (range_with_len a n)) k ≡ f (a + k)
counted f a zero k h = absurd (omega (arith, h))
counted f a (suc n) zero h = ap f (omega arith)
counted f a (suc n) (suc k) h = counted f (a + 1) n k (omega (arith, h)) ∙ ap f (omega arith)

past : (f : Cells) (a n k : ℕ) → n ≤ k → cells_of (map f (range_with_len a n)) k ≡ None
past f a zero k h = refl
past f a (suc n) zero h = absurd (omega (arith, h))
past f a (suc n) (suc k) h = past f (a + 1) n k (omega (arith, h))

alike : (f g : Cells) (a n : ℕ) → ((k : ℕ) → a ≤ k → k < a + n → f k ≡ g k) → map f (range_with_len a n) ≡ map g (range_with_len a n)
alike f g a zero h = refl
alike f g a (suc n) h =
    ap₂ (λ x xs. x ∷ xs) (h a (omega arith) (omega arith)) (alike f g (a + 1) n (λ k b c. h k (omega (arith, b)) (omega (arith, c))))

many : (f : Cells) (a n : ℕ) → length (map f (range_with_len a n)) ≡ n
many f a zero = refl
many f a (suc n) = ap suc (many f (a + 1) n)

shifted : (whole base : List ℕ) (a : ℕ) → ((k : ℕ) → slice_index whole (a + k) ≡ slice_index base k)
    → map (λ byte. Some (slice_index whole byte)) (range_with_len a (length base)) ≡ map Some base
shifted whole [] a h = refl
shifted whole (x ∷ base) a h =
    ap₂ (λ y ys. Some y ∷ ys) (ap (slice_index whole) {x = a} {y = a + 0} (omega arith) ∙ h 0)
    (shifted whole base (a + 1) (λ k. ap (slice_index whole) {x = a + 1 + k} {y = a + suc k} (omega arith) ∙ h (suc k)))

-- ---- the bytes of an overlay

pub overlaid_many : (base : List ℕ) (copies : ℕ → ℕ) (cells : List ℕ) → length (overlaid base copies cells) ≡ length base
unfolding overlaid
overlaid_many base copies cells = many (overlaid_cells base copies cells) 0 (length base)

pub overlaid_at : (base : List ℕ) (copies : ℕ → ℕ) (cells : List ℕ) (byte : ℕ) → byte < length base → cells_of (overlaid base copies cells) byte ≡ overlaid_cells base copies cells byte
unfolding overlaid
overlaid_at base copies cells byte h = counted (overlaid_cells base copies cells) 0 (length base) byte h ∙ ap (overlaid_cells base copies cells) {x = 0 + byte} {y = byte} (omega arith)

pub overlaid_past : (base : List ℕ) (copies : ℕ → ℕ) (cells : List ℕ) (byte : ℕ) → length base ≤ byte → cells_of (overlaid base copies cells) byte ≡ None
unfolding overlaid
overlaid_past base copies cells byte h = past (overlaid_cells base copies cells) 0 (length base) byte h

-- overlays of the same bytes are the same
pub overlaid_same : (base : List ℕ) (copies : ℕ → ℕ) (cells : List ℕ) (others : ℕ → ℕ) (more : List ℕ) → ((byte : ℕ) → byte < length base → overlaid_byte base others more byte ≡ overlaid_byte base copies cells byte)
    → overlaid base others more ≡ overlaid base copies cells
unfolding overlaid
overlaid_same base copies cells others more h =
    alike (overlaid_cells base others more) (overlaid_cells base copies cells) 0 (length base) (λ k a b. ap Some (h k (omega (arith, b))))

-- without copies they are the lent bytes
pub nothing_copied : (base : List ℕ) (copies : ℕ → ℕ) (cells : List ℕ) → ((page : ℕ) → copies page ≡ 0) → overlaid base copies cells ≡ map Some base
unfolding overlaid
nothing_copied base copies cells none =
    alike (overlaid_cells base copies cells) (row_cells base) 0 (length base) (λ k a b. ap Some (lent base copies cells k (none (k / 256))))
    ∙ shifted base base 0 (λ k. ap (slice_index base) {x = 0 + k} {y = k} (omega arith))

-- outside of the pages that have copies they are the lent bytes
pub unchanged :
    (base : List ℕ) (copies : ℕ → ℕ) (numbers cells : List ℕ) → AreNumbered copies numbers → (byte : ℕ) → All (λ page. byte / 256 ≢ page) numbers → cells_of (overlaid base copies cells) byte ≡ slice_get base byte
unchanged base copies numbers cells numbered byte apart = go (cases_lt byte (length base)) (copied_or copies (byte / 256))
  where
    go : (byte < length base) ⊎ (length base ≤ byte) → (copies (byte / 256) ≡ 0) ⊎ IsCopied copies (byte / 256) → cells_of (overlaid base copies cells) byte ≡ slice_get base byte
    go (inr out) o = overlaid_past base copies cells byte out ∙ sym (slice_get_past base byte out)
    go (inl inside) (inl h) =
        overlaid_at base copies cells byte inside ∙ ap Some (lent base copies cells byte h) ∙ sym (slice_get-get_or base byte 0 inside)
    go (inl inside) (inr h) =
        let r : (copies (byte / 256) ≤ length numbers) × (slice_index numbers (copies (byte / 256) - 1) ≡ byte / 256) = numbered (byte / 256) h in
        absurd (All-get_or (λ page. byte / 256 ≢ page) numbers (copies (byte / 256) - 1) 0 (omega (arith, h, r.0)) apart (sym r.1))

-- a number of bytes that are there
pub number_there : (base : List ℕ) (copies : ℕ → ℕ) (cells : List ℕ) (first count value : ℕ) → first + count ≤ length base → number (overlaid_cells base copies cells) first count ≡ Some value
    → number (cells_of (overlaid base copies cells)) first count ≡ Some value
number_there base copies cells first count value inside h =
    number_frame (cells_of (overlaid base copies cells)) (overlaid_cells base copies cells) first count
    (λ byte c. let r = covers_parts first count byte c in overlaid_at base copies cells byte (omega (arith, r.1, inside))) ∙ h

-- the bytes once a value is put into them
pub put_whole :
    (base : List ℕ) (copies : ℕ → ℕ) (cells : List ℕ) (others : ℕ → ℕ) (more : List ℕ) (first count value : ℕ) → first + count ≤ length base
    → ((byte : ℕ) → overlaid_cells base others more byte ≡ written (overlaid_cells base copies cells) first count value byte)
    → (byte : ℕ) → cells_of (overlaid base others more) byte ≡ written (cells_of (overlaid base copies cells)) first count value byte
put_whole base copies cells others more first count value inside h byte = go (cases_lt byte (length base))
  where
    go : (byte < length base) ⊎ (length base ≤ byte) → cells_of (overlaid base others more) byte ≡ written (cells_of (overlaid base copies cells)) first count value byte
    go (inl there) =
        overlaid_at base others more byte there
        ∙ h byte
        ∙ written_same (overlaid_cells base copies cells) (cells_of (overlaid base copies cells)) first count value byte (sym (overlaid_at base copies cells byte there))
    go (inr out) =
        overlaid_past base others more byte out
        ∙ sym (written_out (cells_of (overlaid base copies cells)) first count value byte (λ a b. omega (arith, a, b, out, inside)) ∙ overlaid_past base copies cells byte out)

-- an overlay's bytes, by its parts
pub as_many : (o : Overlaid) (base : List ℕ) (copies : ℕ → ℕ) (cells : List ℕ) → o ≡ record { base = base; bytes = overlaid base copies cells } → length o.bytes ≡ length base
as_many o base copies cells h = ap (λ z. length z.bytes) h ∙ overlaid_many base copies cells

pub on_err : {T E P : Type 0} (r : Result T E) → P → OnErr r P
on_err (Ok t) p = tt
on_err (Err e) p = p
