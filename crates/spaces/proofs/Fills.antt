-- A pattern that is repeated over a part of a row of bytes.
use Rattle.std.proofs.Common.{◌≡◌, ℕ, zero, suc, ◌+◌, ◌*◌, ◌/◌, ◌%◌, ◌≤◌, List, [], ◌∷◌, ◌++◌, length, take, drop, get_or, ap, sym, ◌∙◌, arith, append_assoc, length-append, append-nil, add-one, zero-add, add-zero, drop-drop, length-take, take-append-drop}
use Rattle.std.proofs.Math.Nat.{mul-mod_right, mul_assoc, mul_comm, mod-add-mod, mod-add-div, div-add-mod}
use Rattle.std.proofs.Math.Seq.{take-append_seam, drop-append-add}
use Rattle.std.proofs.lemmas.List.FromFn.{map-range_with_len_more, length-map-range_with_len, take-map-range_with_len}
use Rattle.spaces.specs.Buffers.{with_bytes, repeated}

-- bytes that are written behind others are written with them
pub with_more : (b xs ys : List ℕ) (at next : ℕ) → next ≡ at + length xs → at + length xs ≤ length b → with_bytes (with_bytes b at xs) next ys ≡ with_bytes b at (xs ++ ys)
with_more b xs ys at next is fits =
    let front : List ℕ = take at b ++ xs in
    let rest : List ℕ = drop (at + length xs) b in
    let seam : next ≡ length front = omega (arith, length-append (take at b) xs, length-take at b) in
    let same : length xs + length ys ≡ length (xs ++ ys) = sym (length-append xs ys) in
    ap (λ n. take n (front ++ rest) ++ ys ++ drop (n + length ys) (front ++ rest)) seam
    ∙ ap (λ f. f ++ ys ++ drop (length front + length ys) (front ++ rest)) (take-append_seam front rest)
    ∙ ap (λ r. front ++ ys ++ r) (drop-append-add front rest (length ys) ∙ drop-drop (length ys) (at + length xs) b)
    ∙ ap (λ r. r ++ drop (at + length xs + length ys) b) (append_assoc (take at b) xs ys)
    ∙ ap (λ n. take at b ++ (xs ++ ys) ++ drop n b) (omega (arith, same))

pub repeated_length : (pattern : List ℕ) (count : ℕ) → length (repeated pattern count) ≡ count
repeated_length pattern count = length-map-range_with_len (λ k. get_or pattern (k % length pattern) 0) 0 count

-- a pattern begins again after whole blocks
whole_blocks : (p i : ℕ) → 256 % p ≡ 0 → i * 256 % p ≡ 0
whole_blocks p i even =
    let blocks : 256 % p + p * (256 / p) ≡ 256 = mod-add-div 256 p in
    ap (λ n. i * n % p) (sym blocks ∙ ap (λ z. z + p * (256 / p)) even ∙ zero-add (p * (256 / p)))
    ∙ ap (λ n. n % p) (sym (mul_assoc i p (256 / p)) ∙ ap (λ n. n * (256 / p)) (mul_comm i p) ∙ mul_assoc p i (256 / p))
    ∙ mul-mod_right p (i * (256 / p))

-- a multiple of a pattern's length makes no difference
same_byte : (p m n : ℕ) → m % p ≡ 0 → (m + n) % p ≡ n % p
same_byte p m n even = sym (mod-add-mod m p n) ∙ ap (λ z. (z + n) % p) even ∙ ap (λ z. z % p) (zero-add n)

-- a pattern goes on where it begins again
pub repeated_on : (pattern : List ℕ) (m n : ℕ) → m % length pattern ≡ 0 → repeated pattern m ++ repeated pattern n ≡ repeated pattern (m + n)
repeated_on pattern m zero even = append-nil (repeated pattern m) ∙ ap (repeated pattern) (omega arith)
repeated_on pattern m (suc n) even =
    let byte : ℕ → ℕ = λ k. get_or pattern (k % length pattern) 0 in
    ap (λ k. repeated pattern m ++ repeated pattern k) (sym (add-one n))
    ∙ ap (λ r. repeated pattern m ++ r) (map-range_with_len_more byte 0 n n (zero-add n))
    ∙ sym (append_assoc (repeated pattern m) (repeated pattern n) (byte n ∷ []))
    ∙ ap (λ r. r ++ byte n ∷ []) (repeated_on pattern m n even)
    ∙ ap (λ k. repeated pattern (m + n) ++ get_or pattern k 0 ∷ []) (sym (same_byte (length pattern) m n even))
    ∙ sym (map-range_with_len_more byte 0 (m + n) (m + n) (zero-add (m + n)))
    ∙ ap (repeated pattern) (omega arith)

-- a block more
pub block_more : (b pattern block : List ℕ) (at i next : ℕ) → block ≡ repeated pattern 256 → 256 % length pattern ≡ 0 → next ≡ at + i * 256 → at + i * 256 ≤ length b
    → with_bytes (with_bytes b at (repeated pattern (i * 256))) next block ≡ with_bytes b at (repeated pattern ((i + 1) * 256))
block_more b pattern block at i next is even place fits =
    let long : length (repeated pattern (i * 256)) ≡ i * 256 = repeated_length pattern (i * 256) in
    with_more b (repeated pattern (i * 256)) block at next (omega arith) (omega arith)
    ∙ ap (λ r. with_bytes b at (repeated pattern (i * 256) ++ r)) is
    ∙ ap (with_bytes b at) (repeated_on pattern (i * 256) 256 (whole_blocks (length pattern) i even) ∙ ap (repeated pattern) (omega arith))

-- the rest of the last block
pub rest_more : (b pattern block : List ℕ) (at count next : ℕ) → block ≡ repeated pattern 256 → 256 % length pattern ≡ 0 → next ≡ at + count / 256 * 256 → at + count ≤ length b
    → with_bytes (with_bytes b at (repeated pattern (count / 256 * 256))) next (take (count % 256) block) ≡ with_bytes b at (repeated pattern count)
rest_more b pattern block at count next is even place fits =
    let whole : ℕ = count / 256 * 256 in
    let parts : 256 * (count / 256) + count % 256 ≡ count = div-add-mod count 256 in
    let long : length (repeated pattern whole) ≡ whole = repeated_length pattern whole in
    with_more b (repeated pattern whole) (take (count % 256) block) at next (omega arith) (omega arith)
    ∙ ap (λ r. with_bytes b at (repeated pattern whole ++ r)) (ap (take (count % 256)) is ∙ take-map-range_with_len (λ k. get_or pattern (k % length pattern) 0) 0 256 (count % 256) (omega arith))
    ∙ ap (with_bytes b at) (repeated_on pattern whole (count % 256) (whole_blocks (length pattern) (count / 256) even) ∙ ap (repeated pattern) (omega (arith, parts)))

-- nothing written
pub with_none : (b : List ℕ) (at : ℕ) → b ≡ with_bytes b at []
with_none b at = sym (ap (λ n. take at b ++ [] ++ drop n b) (add-zero at) ∙ ap (λ l. l ++ drop at b) (append-nil (take at b)) ∙ take-append-drop at b)
