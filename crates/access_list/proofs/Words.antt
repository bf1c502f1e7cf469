-- What is kept of the bytes of words.
use Rattle.std.proofs.Common.{◌≡◌, ℕ, zero, suc, ◌+◌, ◌-◌, ◌*◌, ◌/◌, ◌%◌, ◌^◌, ◌<◌, ◌≤◌, ◌⊎◌, Some, List, [], ◌∷◌, ◌++◌, length, set, refl, sym, ap, ◌∙◌, subst, inl, inr, arith}
use Rattle.std.specs.Prelude.{slice_index_or}
use Rattle.std.specs.HashMap.{HashMap, get}
use Rattle.std.proofs.lemmas.Bool.{cases_eq, cases_lt}
use Rattle.std.proofs.lemmas.List.{get_or_past, get_or_default, get_or-append-add, get_or-set_same, get_or-set_other}
use Rattle.std.proofs.lemmas.Nat.{shr-shr}
use Rattle.clmodel.specs.Cells.{byte_of}
use Rattle.clmodel.specs.Launch.{left_at}
use Rattle.clmodel.specs.declared.access.Access.{Access}
use Rattle.clmodel.specs.declared.access.Region.{Region}
use Rattle.access_list.specs.Cells.{in_cell}
use Rattle.access_list.specs.Keys.{cell_key, same_cell}
use Rattle.access_list.specs.Recent.{nothing, Describes, how_part, part_of, word_left, in_word, no_word, at_place, IsInside}
use Rattle.access_list.specs.declared.keys.CellKey.{CellKey}
use Rattle.access_list.specs.declared.recent.How.{How}
use Rattle.access_list.specs.declared.recent.How.TheVariants as how
use Rattle.access_list.specs.declared.recent.Recent.{Recent}
use Rattle.access_list.specs.declared.word.ListedWord.{ListedWord}
use Rattle.access_list.specs.declared.word.ListedWord.TheVariants as word
use Rattle.access_list.proofs.Bytes.{shifted}
use Rattle.access_list.proofs.Indexed.{nothing_described, at_start}

-- ---- numbers of four bytes

-- the low bytes of a number are those of its lowest four
low_byte : (k n : ℕ) → k < 4 → n % 2 ^ 32 / 256 ^ k % 256 ≡ n / 256 ^ k % 256
low_byte zero n b = omega arith
low_byte (suc zero) n b = omega arith
low_byte (suc (suc zero)) n b = omega arith
low_byte (suc (suc (suc zero))) n b = omega arith
low_byte (suc (suc (suc (suc k)))) n b = absurd (omega (arith, b))

behind : (d k value : ℕ) → value / 256 ^ d / 256 ^ k ≡ value / 256 ^ (d + k)
behind d k value =
    sym (shifted k (value / 256 ^ d)) ∙ ap (λ n. n / 2 ^ (8 * k)) (sym (shifted d value)) ∙ shr-shr value (8 * d) (8 * k)
    ∙ ap (λ n. value / 2 ^ n) {x = 8 * d + 8 * k} {y = 8 * (d + k)} (omega arith) ∙ shifted (d + k) value

-- what a store leaves at a byte of a word is that byte of what it leaves there
pub left_in_word : (x : Access) (first byte : ℕ) → first % 4 ≡ 0 → x.first ≤ first → first ≤ byte → byte < first + 4 → left_at x byte ≡ byte_of (byte % 4) (word_left x first)
left_in_word x first byte even after lo hi =
    let k : byte % 4 ≡ byte - first = omega (arith, even, lo, hi) in
    ap (λ n. x.value / 256 ^ n % 256) {x = byte - x.first} {y = (first - x.first) + (byte - first)} (omega (arith, after, lo))
    ∙ ap (λ n. n % 256) (sym (behind (first - x.first) (byte - first) x.value))
    ∙ sym (low_byte (byte - first) (x.value / 256 ^ (first - x.first)) (omega (arith, hi)))
    ∙ ap (λ n. byte_of n (word_left x first)) (sym k)

-- ---- parts of what is kept

same_how : (h : How) → how_part (λ n. n) h ≡ h
same_how (how.One kind left) = refl
same_how how.Mixed = refl

-- what is kept of all that was left is what is kept
pub same_part : (r : Recent) → part_of (λ n. n) r ≡ r
same_part r = ap (λ h. record r { how = h }) (same_how r.how)

-- ---- a loop over bytes

-- what holds of each byte before one, and of this one, holds of each before the next
pub one_more : (P : ℕ → Type 0) (first n : ℕ) → P n → ((byte : ℕ) → first ≤ byte → byte < n → P byte) → (byte : ℕ) → first ≤ byte → byte < n + 1 → P byte
one_more P first n here before byte lo hi = go (cases_eq byte n)
  where
    go : (byte ≡ n) ⊎ (byte ≡ n → ⊥) → P byte
    go (inl e) = subst P (sym e) here
    go (inr ne) = before byte lo (omega (arith, hi, ne))

-- ---- what is kept stays

-- what is kept at each place stays, where each place is as it was
pub places_kept : (old new : List Recent) → ((p : ℕ) → p < length old → slice_index_or new p nothing ≡ slice_index_or old p nothing)
    → (p : ℕ) (y : Access) (byte : ℕ) → Describes (slice_index_or old p nothing) y byte → Describes (slice_index_or new p nothing) y byte
places_kept old new same p y byte d = go (cases_lt p (length old))
  where
    go : (p < length old) ⊎ (length old ≤ p) → Describes (slice_index_or new p nothing) y byte
    go (inl b) = subst (λ r. Describes r y byte) (sym (same p b)) d
    go (inr b) = absurd (nothing_described y byte (subst (λ r. Describes r y byte) (get_or_past old p nothing b) d))

-- the same where one place is written
pub place_kept :
    (old : List Recent) (p : ℕ) (w : Recent) → p < length old → ((y : Access) (byte : ℕ) → Describes (slice_index_or old p nothing) y byte → Describes w y byte)
    → (k : ℕ) (y : Access) (byte : ℕ) → Describes (slice_index_or old k nothing) y byte → Describes (slice_index_or (set old p w) k nothing) y byte
place_kept old p w b f k y byte d = go (cases_eq k p)
  where
    go : (k ≡ p) ⊎ (k ≡ p → ⊥) → Describes (slice_index_or (set old p w) k nothing) y byte
    go (inl e) =
        subst (λ j. Describes (slice_index_or (set old p w) j nothing) y byte) (sym e)
        (subst (λ r. Describes r y byte) (sym (get_or-set_same old p w nothing b)) (f y byte (subst (λ j. Describes (slice_index_or old j nothing) y byte) e d)))
    go (inr ne) = subst (λ r. Describes r y byte) (sym (get_or-set_other old p k w nothing ne)) d

-- what is kept of the bytes of a word stays, where what stands apart stays
pub parts_kept :
    (old new : List Recent) → ((p : ℕ) (y : Access) (byte : ℕ) → Describes (slice_index_or old p nothing) y byte → Describes (slice_index_or new p nothing) y byte)
    → (w : ListedWord) (k : ℕ) (y : Access) (byte : ℕ) → Describes (in_word old w k) y byte → Describes (in_word new w k) y byte
parts_kept old new f (word.Whole all) k y byte d = d
parts_kept old new f (word.Apart at) k y byte d = f (at + k) y byte d

-- what is kept of the bytes of each word stays, where one word is written
pub word_kept :
    (words : List ListedWord) (old new : List Recent) (place : ℕ) (w : ListedWord) → place < length words
    → ((p : ℕ) (y : Access) (byte : ℕ) → Describes (slice_index_or old p nothing) y byte → Describes (slice_index_or new p nothing) y byte)
    → ((k : ℕ) (y : Access) (byte : ℕ) → k < 4 → Describes (at_place words old place k) y byte → Describes (in_word new w k) y byte)
    → (p k : ℕ) (y : Access) (byte : ℕ) → k < 4 → Describes (at_place words old p k) y byte → Describes (at_place (set words place w) new p k) y byte
word_kept words old new place w l same f p k y byte b d = go (cases_eq p place)
  where
    go : (p ≡ place) ⊎ (p ≡ place → ⊥) → Describes (at_place (set words place w) new p k) y byte
    go (inl e) =
        subst (λ q. Describes (at_place (set words place w) new q k) y byte) (sym e)
        (subst (λ v. Describes (in_word new v k) y byte) (sym (get_or-set_same words place w no_word l)) (f k y byte b (subst (λ q. Describes (at_place words old q k) y byte) e d)))
    go (inr ne) =
        subst (λ v. Describes (in_word new v k) y byte) (sym (get_or-set_other words place p w no_word ne)) (parts_kept old new same (slice_index_or words p no_word) k y byte d)

-- what is kept at each place stays where a word is added to which no access was made
pub pushed_word : (words : List ListedWord) (place : ℕ) → slice_index_or (words ++ no_word ∷ []) place no_word ≡ slice_index_or words place no_word
pushed_word [] zero = refl
pushed_word [] (suc place) = refl
pushed_word (w ∷ words) zero = refl
pushed_word (w ∷ words) (suc place) = pushed_word words place

-- ---- a word that is read

pub read_inside :
    (words : List ListedWord) (apart : List Recent) (place : ℕ) (w : ListedWord) → place < length words → w ≡ slice_index_or words place w → ((p : ℕ) → IsInside apart (slice_index_or words p no_word))
    → IsInside apart w
read_inside words apart place w l e there = subst (IsInside apart) (get_or_default words place no_word w l ∙ sym e) (there place)

pub read_place :
    (words : List ListedWord) (apart : List Recent) (place k : ℕ) (w : ListedWord) → place < length words → w ≡ slice_index_or words place w → in_word apart w k ≡ at_place words apart place k
read_place words apart place k w l e = ap (λ v. in_word apart v k) (e ∙ get_or_default words place w no_word l)

-- ---- a word that is split

-- what is kept of the bytes of a word once it stands apart
pub split_apart :
    (old new : List Recent) (all a b c d : Recent) (at k : ℕ) → new ≡ old ++ (a ∷ b ∷ c ∷ d ∷ []) → at ≡ length old
    → a ≡ part_of (byte_of 0) all → b ≡ part_of (byte_of 1) all → c ≡ part_of (byte_of 2) all → d ≡ part_of (byte_of 3) all
    → k < 4 → slice_index_or new (at + k) nothing ≡ part_of (byte_of k) all
split_apart old new all a b c d at k e l ea eb ec ed h =
    ap (λ z. slice_index_or z (at + k) nothing) e ∙ ap (λ n. slice_index_or (old ++ (a ∷ b ∷ c ∷ d ∷ [])) (n + k) nothing) l
    ∙ get_or-append-add old (a ∷ b ∷ c ∷ d ∷ []) k nothing ∙ go k h
  where
    go : (j : ℕ) → j < 4 → slice_index_or (a ∷ b ∷ c ∷ d ∷ []) j nothing ≡ part_of (byte_of j) all
    go zero m = ea
    go (suc zero) m = eb
    go (suc (suc zero)) m = ec
    go (suc (suc (suc zero))) m = ed
    go (suc (suc (suc (suc j)))) m = absurd (omega (arith, m))

-- ---- words of a cell

half : (n : ℕ) → n % 8 / 4 ≡ n / 4 % 2
half n = omega arith

-- bytes of one word are in one word of their cell
pub same_word : (first count byte : ℕ) → first % 4 + count ≤ 4 → first ≤ byte → byte < first + count → byte % 8 / 4 ≡ first % 8 / 4
same_word first count byte a lo hi = half byte ∙ ap (λ q. q % 2) {x = byte / 4} {y = first / 4} (omega (arith, a, lo, hi)) ∙ sym (half first)

-- the bytes of a cell behind those of its first word are in its second
pub next_word : (first here count byte : ℕ) → first % 8 + count ≤ 8 → 4 ≤ first % 4 + here → first + here ≤ byte → byte < first + count → byte % 8 / 4 ≡ 1
next_word first here count byte a b lo hi =
    let low : first % 4 ≤ first % 8 = omega arith in
    let eight : byte % 8 ≡ first % 8 + (byte - first) = omega (arith, a, lo, hi) in
    let more : 4 ≤ byte % 8 = omega (arith, eight, low, b, lo) in
    omega (arith, more)

-- what is kept of a byte of a cell is what is kept of it in its word
pub at_byte :
    {S : Type 0} (P : Recent → Type 0) (m : HashMap CellKey ℕ S) (words : List ListedWord) (apart : List Recent) (r : Region) (first count byte start place : ℕ)
    → first % 8 + count ≤ 8 → first ≤ byte → byte < first + count → get same_cell m (cell_key r first) ≡ Some start → start + byte % 8 / 4 ≡ place
    → P (at_place words apart place (byte % 4)) → P (in_cell words apart (byte % 8) (get same_cell m (cell_key r byte)))
at_byte P m words apart r first count byte start place one lo hi there e p =
    subst P (ap (λ q. at_place words apart q (byte % 4)) (sym e) ∙ sym (at_start m words apart r first count byte start one lo hi there)) p
