-- A buffer's bytes where pages are copied and copies are changed.
use Rattle.std.proofs.Common.{◌≡◌, ℕ, zero, suc, ◌+◌, ◌-◌, ◌*◌, ◌/◌, ◌%◌, ◌<◌, ◌≤◌, ◌==◌, ◌⊎◌, Bool, if◌then◌else◌, List, ◌++◌, Some, length, set, take, drop, min, le_trans, refl, sym, ap, ap₂, ◌∙◌, subst, inl, inr, arith}
use Rattle.std.specs.Prelude.{◌≢◌, slice_index}
use Rattle.std.proofs.lemmas.Bool.{cases_eq, cases_lt, ne_eqb}
use Rattle.std.proofs.lemmas.List.{get_or-set_same, get_or-set_other, get_or-take, get_or-drop, take_all, drop_all, append-nil, length-take, length-take-le, length-drop}
use Rattle.std.proofs.Math.Nat.{min-le_left}
use Rattle.clmodel.specs.Cells.{Cells, byte_of, joined, number, covers, written}
use Rattle.clmodel.proofs.Steps.{some_inj}
use Rattle.spaces.proofs.Rows.{written_in, written_out}
use Rattle.spaces.specs.Overlay.{overlaid_byte, overlaid_cells, row_cells, IsCopied, AreNumbered}

-- a page has no copy, or one
pub copied_or : (copies : ℕ → ℕ) (page : ℕ) → (copies page ≡ 0) ⊎ IsCopied copies page
copied_or copies page = go (cases_lt 0 (copies page))
  where
    go : (0 < copies page) ⊎ (copies page ≤ 0) → (copies page ≡ 0) ⊎ IsCopied copies page
    go (inl h) = inr h
    go (inr h) = inl (omega (arith, h))

-- a byte of a page without a copy, and of one with this copy
pub lent : (base : List ℕ) (copies : ℕ → ℕ) (cells : List ℕ) (byte : ℕ) → copies (byte / 256) ≡ 0 → overlaid_byte base copies cells byte ≡ slice_index base byte
lent base copies cells byte h = ap (λ z. if z == 0 then slice_index base byte else slice_index cells ((z - 1) * 256 + byte % 256)) h

pub in_copy : (base : List ℕ) (copies : ℕ → ℕ) (cells : List ℕ) (byte copy : ℕ) → copies (byte / 256) ≡ copy → 0 < copy → overlaid_byte base copies cells byte ≡ slice_index cells ((copy - 1) * 256 + byte % 256)
in_copy base copies cells byte copy h some =
    ap (λ z. if z == 0 then slice_index base byte else slice_index cells ((z - 1) * 256 + byte % 256)) h
    ∙ ap (λ (z : Bool). if z then slice_index base byte else slice_index cells ((copy - 1) * 256 + byte % 256)) (ne_eqb copy 0 (λ e. absurd (omega (arith, e, some))))

in_place : (copy count rest : ℕ) → 0 < copy → copy ≤ count → rest < 256 → (copy - 1) * 256 + rest < count * 256
in_place copy count rest a b c = omega (arith, a, b, c)

rest_small : (byte : ℕ) → byte % 256 < 256
rest_small byte = omega arith

-- bytes where one more page is copied
pub one_copied :
    (base : List ℕ) (copies others : ℕ → ℕ) (numbers cells more row : List ℕ) (page count : ℕ) → count ≡ length numbers → AreNumbered copies numbers → others page ≡ count + 1
    → ((k : ℕ) → k ≢ page → others k ≡ copies k) → copies page ≡ 0 → ((k : ℕ) → k < count * 256 → slice_index more k ≡ slice_index cells k)
    → ((k : ℕ) → k < length row → slice_index more (count * 256 + k) ≡ slice_index row k)
    → (byte : ℕ) → (byte / 256 ≡ page → (byte % 256 < length row) × (slice_index row (byte % 256) ≡ slice_index base byte))
    → overlaid_byte base others more byte ≡ overlaid_byte base copies cells byte
one_copied base copies others numbers cells more row page count many numbered here there none rows copy byte told = go (cases_eq (byte / 256) page)
  where
    go : (byte / 256 ≡ page) ⊎ (byte / 256 ≡ page → ⊥) → overlaid_byte base others more byte ≡ overlaid_byte base copies cells byte
    go (inl e) =
        in_copy base others more byte (count + 1) (ap others e ∙ here) (omega arith)
        ∙ ap (λ z. slice_index more (z * 256 + byte % 256)) {x = count + 1 - 1} {y = count} (omega arith)
        ∙ copy (byte % 256) (told e).0
        ∙ (told e).1
        ∙ sym (lent base copies cells byte (ap copies e ∙ none))
    go (inr ne) = by_copy (copied_or copies (byte / 256))
      where
        by_copy : (copies (byte / 256) ≡ 0) ⊎ IsCopied copies (byte / 256) → overlaid_byte base others more byte ≡ overlaid_byte base copies cells byte
        by_copy (inl h) = lent base others more byte (there (byte / 256) ne ∙ h) ∙ sym (lent base copies cells byte h)
        by_copy (inr h) =
            let copied : ℕ = copies (byte / 256) in
            let few : copied ≤ count = subst (λ z. copied ≤ z) (sym many) (numbered (byte / 256) h).0 in
            in_copy base others more byte copied (there (byte / 256) ne) h
            ∙ rows ((copied - 1) * 256 + byte % 256) (in_place copied count (byte % 256) h few (rest_small byte))
            ∙ sym (in_copy base copies cells byte copied refl h)

-- the row of a page is short, and holds its bytes
pub row_short : (base : List ℕ) (page n : ℕ) → n ≤ 256 → length (take n (drop (page * 256) base)) ≤ 256
row_short base page n h =
    let many : length (take n (drop (page * 256) base)) ≡ min n (length (drop (page * 256) base)) = length-take n (drop (page * 256) base) in
    le_trans (subst (λ z. z ≤ n) (sym many) (min-le_left n (length (drop (page * 256) base)))) h

pub row_holds : (base : List ℕ) (page n byte : ℕ) → n + page * 256 ≤ length base → byte / 256 ≡ page → byte % 256 < n
    → (byte % 256 < length (take n (drop (page * 256) base))) × (slice_index (take n (drop (page * 256) base)) (byte % 256) ≡ slice_index base byte)
row_holds base page n byte inside here short =
    let rest : length (drop (page * 256) base) ≡ length base - page * 256 = length-drop (page * 256) base in
    let many : length (take n (drop (page * 256) base)) ≡ n = length-take-le n (drop (page * 256) base) (omega (arith, rest, inside)) in (
      omega (arith, many, short),
      get_or-take n (drop (page * 256) base) (byte % 256) 0 short ∙ get_or-drop (page * 256) base (byte % 256) 0 ∙ ap (slice_index base) {x = page * 256 + byte % 256} {y = byte} (omega (arith, here)),
    )

-- ---- changes of a copy

-- bytes of a page's copy are there
pub place_there : (copies : ℕ → ℕ) (numbers cells : List ℕ) (page copy rest count : ℕ) → AreNumbered copies numbers → 256 * length numbers ≤ length cells → copies page ≡ copy → 0 < copy → rest + count ≤ 256
    → (copy - 1) * 256 + rest + count ≤ length cells
place_there copies numbers cells page copy rest count numbered filled is some inside =
    let few : copy ≤ length numbers = subst (λ z. z ≤ length numbers) is (numbered page (subst (λ z. 0 < z) (sym is) some)).0 in
    omega (arith, few, filled, some, inside)

-- a byte of a copy that is set
pub put_here : (base : List ℕ) (copies : ℕ → ℕ) (cells : List ℕ) (byte copy value : ℕ) → copies (byte / 256) ≡ copy → 0 < copy → (copy - 1) * 256 + byte % 256 < length cells
    → overlaid_byte base copies (set cells ((copy - 1) * 256 + byte % 256) value) byte ≡ value
put_here base copies cells byte copy value h some inside =
    in_copy base copies (set cells ((copy - 1) * 256 + byte % 256) value) byte copy h some ∙ get_or-set_same cells ((copy - 1) * 256 + byte % 256) value 0 inside

-- a place among those of an element in a copy is of that copy
same_copy : (a b r q count : ℕ) → r < 256 → q + count ≤ 256 → 0 < a → 0 < b → (b - 1) * 256 + q ≤ (a - 1) * 256 + r → (a - 1) * 256 + r < (b - 1) * 256 + q + count → a ≡ b
same_copy a b r q count small inside k s low high = omega (arith, small, inside, k, s, low, high)

-- one copy is of one page
one_page : (copies : ℕ → ℕ) (numbers : List ℕ) (page other copy : ℕ) → AreNumbered copies numbers → copies page ≡ copy → copies other ≡ copy → 0 < copy → page ≡ other
one_page copies numbers page other copy numbered is same some =
    sym (numbered page (subst (λ z. 0 < z) (sym is) some)).1
    ∙ ap (λ z. slice_index numbers (z - 1)) (is ∙ sym same)
    ∙ (numbered other (subst (λ z. 0 < z) (sym same) some)).1

-- places in copies are apart where copies or bytes are
places_apart : (a b r q : ℕ) → r < 256 → q < 256 → 0 < a → 0 < b → (a - 1) * 256 + r ≡ (b - 1) * 256 + q → (a ≡ b) × (r ≡ q)
places_apart a b r q h k s t e = (omega (arith, h, k, s, t, e), omega (arith, h, k, s, t, e))

one_byte : (x y : ℕ) → x / 256 ≡ y / 256 → x % 256 ≡ y % 256 → x ≡ y
one_byte x y h k = omega (arith, h, k)

-- another byte stays
pub put_there : (base : List ℕ) (copies : ℕ → ℕ) (numbers cells : List ℕ) (byte copy value other : ℕ) → AreNumbered copies numbers → copies (byte / 256) ≡ copy → 0 < copy → (other ≡ byte → ⊥)
    → overlaid_byte base copies (set cells ((copy - 1) * 256 + byte % 256) value) other ≡ overlaid_byte base copies cells other
put_there base copies numbers cells byte copy value other numbered is some ne = go (copied_or copies (other / 256))
  where
    place : ℕ
    place = (copy - 1) * 256 + byte % 256

    go : (copies (other / 256) ≡ 0) ⊎ IsCopied copies (other / 256) → overlaid_byte base copies (set cells place value) other ≡ overlaid_byte base copies cells other
    go (inl h) = lent base copies (set cells place value) other h ∙ sym (lent base copies cells other h)
    go (inr h) =
        let theirs : ℕ = copies (other / 256) in
        let apart : ((theirs - 1) * 256 + other % 256 ≡ place → ⊥) = λ e. (
        let r : (theirs ≡ copy) × (other % 256 ≡ byte % 256) = places_apart theirs copy (other % 256) (byte % 256) (rest_small other) (rest_small byte) h some e in
        ne (one_byte other byte (one_page copies numbers (other / 256) (byte / 256) copy numbered r.0 is some) r.1)) in
        in_copy base copies (set cells place value) other theirs refl h
        ∙ get_or-set_other cells place ((theirs - 1) * 256 + other % 256) value 0 apart
        ∙ sym (in_copy base copies cells other theirs refl h)

-- ---- elements in one page

-- a byte of an element that lies in one page is of that page
same_page : (at count byte : ℕ) → at % 256 + count ≤ 256 → at ≤ byte → byte < at + count → byte / 256 ≡ at / 256
same_page at count byte inside a b = omega (arith, inside, a, b)

same_rest : (at count byte : ℕ) → at % 256 + count ≤ 256 → at ≤ byte → byte < at + count → byte % 256 + at ≡ at % 256 + byte
same_rest at count byte inside a b = omega (arith, inside, a, b)

-- a number at another place
moved_number : (c d : Cells) (a b n : ℕ) → ((k : ℕ) → k < n → c (a + k) ≡ d (b + k)) → number c a n ≡ number d b n
moved_number c d a b zero h = refl
moved_number c d a b (suc n) h =
    ap₂ joined (ap c {x = a} {y = a + 0} (omega arith) ∙ h 0 (omega arith) ∙ ap d {x = b + 0} {y = b} (omega arith))
    (moved_number c d (suc a) (suc b) n
    (λ k l. ap c {x = suc a + k} {y = a + suc k} (omega arith) ∙ h (suc k) (omega (arith, l)) ∙ ap d {x = b + suc k} {y = suc b + k} (omega arith)))

-- a number that is read from the copy of its page
pub copy_number :
    (base : List ℕ) (copies : ℕ → ℕ) (cells : List ℕ) (at copy count : ℕ) → copies (at / 256) ≡ copy → 0 < copy → at % 256 + count ≤ 256
    → number (overlaid_cells base copies cells) at count ≡ number (row_cells cells) ((copy - 1) * 256 + at % 256) count
copy_number base copies cells at copy count is some inside =
    moved_number (overlaid_cells base copies cells) (row_cells cells) at ((copy - 1) * 256 + at % 256) count
    (λ k l. ap Some
    (in_copy base copies cells (at + k) copy (ap copies (same_page at count (at + k) inside (omega arith) (omega (arith, l))) ∙ is) some
    ∙ ap (slice_index cells) (same_place copy at (at + k) count k inside refl l)))
  where
    same_place : (copy at byte count k : ℕ) → at % 256 + count ≤ 256 → byte ≡ at + k → k < count → (copy - 1) * 256 + byte % 256 ≡ (copy - 1) * 256 + at % 256 + k
    same_place copy at byte count k inside e l = omega (arith, inside, e, l)

-- what is written over other bytes
pub written_same : (c d : Cells) (first count value byte : ℕ) → c byte ≡ d byte → written c first count value byte ≡ written d first count value byte
unfolding written
written_same c d first count value byte h = ap (λ z. if covers first count byte then Some (byte_of (byte - first) value) else z) h

-- what is put into the copy of a page is put into the page
pub put_in_copy :
    (base : List ℕ) (copies : ℕ → ℕ) (numbers cells more : List ℕ) (at copy count value : ℕ) → AreNumbered copies numbers → copies (at / 256) ≡ copy → 0 < copy → at % 256 + count ≤ 256
    → ((k : ℕ) → row_cells more k ≡ written (row_cells cells) ((copy - 1) * 256 + at % 256) count value k)
    → (byte : ℕ) → overlaid_cells base copies more byte ≡ written (overlaid_cells base copies cells) at count value byte
put_in_copy base copies numbers cells more at copy count value numbered is some inside rows byte = go (cases_lt byte at) (cases_lt byte (at + count))
  where
    place : ℕ
    place = (copy - 1) * 256 + at % 256

    within : at ≤ byte → byte < at + count → overlaid_cells base copies more byte ≡ written (overlaid_cells base copies cells) at count value byte
    within a b =
        let k : ℕ = (copy - 1) * 256 + byte % 256 in
        let e : byte % 256 + at ≡ at % 256 + byte = same_rest at count byte inside a b in
        ap Some (in_copy base copies more byte copy (ap copies (same_page at count byte inside a b) ∙ is) some)
        ∙ rows k
        ∙ written_in (row_cells cells) place count value k (omega (arith, e, a)) (omega (arith, e, b))
        ∙ ap (λ z. Some (byte_of z value)) {x = k - place} {y = byte - at} (omega (arith, e, a))
        ∙ sym (written_in (overlaid_cells base copies cells) at count value byte a b)

    outside : (at ≤ byte → byte < at + count → ⊥) → overlaid_cells base copies more byte ≡ written (overlaid_cells base copies cells) at count value byte
    outside out = ap Some (by_copy (copied_or copies (byte / 256))) ∙ sym (written_out (overlaid_cells base copies cells) at count value byte out)
      where
        by_copy : (copies (byte / 256) ≡ 0) ⊎ IsCopied copies (byte / 256) → overlaid_byte base copies more byte ≡ overlaid_byte base copies cells byte
        by_copy (inl none) = lent base copies more byte none ∙ sym (lent base copies cells byte none)
        by_copy (inr copied) =
            let theirs : ℕ = copies (byte / 256) in
            let k : ℕ = (theirs - 1) * 256 + byte % 256 in
            in_copy base copies more byte theirs refl copied
            ∙ some_inj (slice_index more k) (slice_index cells k) (rows k ∙ written_out (row_cells cells) place count value k (λ a b. apart theirs refl copied a b))
            ∙ sym (in_copy base copies cells byte theirs refl copied)
          where
            apart : (theirs : ℕ) → copies (byte / 256) ≡ theirs → 0 < theirs → place ≤ (theirs - 1) * 256 + byte % 256 → (theirs - 1) * 256 + byte % 256 < place + count → ⊥
            apart theirs h copied a b =
                let r : theirs ≡ copy = same_copy theirs copy (byte % 256) (at % 256) count (rest_small byte) inside copied some a b in
                let p : byte / 256 ≡ at / 256 = one_page copies numbers (byte / 256) (at / 256) copy numbered (h ∙ r) is some in
                out (omega (arith, p, r, a, b)) (omega (arith, p, r, a, b))

    go : (byte < at) ⊎ (at ≤ byte) → (byte < at + count) ⊎ (at + count ≤ byte) → overlaid_cells base copies more byte ≡ written (overlaid_cells base copies cells) at count value byte
    go (inl a) b = outside (λ c d. omega (arith, a, c))
    go (inr a) (inl b) = within a b
    go (inr a) (inr b) = outside (λ c d. omega (arith, b, d))

-- a whole row that was lent
pub put_back : (new old : List ℕ) (n : ℕ) → n ≡ length old → length new ≡ length old → take n (new ++ drop (length new) old) ≡ new
put_back new old n many long =
    ap (λ z. take n (new ++ z)) (drop_all (length new) old (omega (arith, long))) ∙ ap (take n) (append-nil new) ∙ take_all n new (omega (arith, many, long))
