-- Two operations on the cells of one region that agree where they meet can be done in either order.
use Rattle.std.proofs.Common.{◌≡◌, ℕ, zero, suc, ◌+◌, ◌-◌, ◌*◌, ◌^◌, ◌<◌, ◌≤◌, ◌⊎◌, Bool, true, false, nat_lt, nat_le, if◌then◌else◌, Option, None, Some, refl, sym, ap, ap₂, ◌∙◌, subst, inl, inr, arith, ltb-true, lt-ltb, leb-true, le-leb, List, [], ◌∷◌, map, replicate}
use mathlib.Core.Path.{fun_ext}
use Rattle.std.proofs.lemmas.Bool.{and_parts, and_from, false≢true, cases_eq}
use Rattle.std.specs.Prelude.{slice_get}
use Rattle.clmodel.specs.Cells.{Cells, byte_count, byte_of, joined, number, unset_or, lowest_unset, covers, written, updated_word, fetched, size_of, reads, found, answer_to, effect, cells_of}
use Rattle.clmodel.specs.declared.access.Class.{Class}
use Rattle.clmodel.specs.declared.access.Operation.{Operation}
use Rattle.clmodel.specs.declared.access.Operation.TheVariants.{Load, Store, Update, Fetch}
use Rattle.clmodel.proofs.Bytes.{updated_below, updated_swap, four_bytes_are}
use Rattle.clmodel.proofs.Steps.{none_some, some_inj, if_true, if_false}
use Rattle.clmodel.specs.declared.access.Width.{Width}
use Rattle.clmodel.specs.declared.access.Width.TheVariants.{One, Two, Four, Eight}

-- ---- which bytes are covered

pub covers_parts : (first count byte : ℕ) → covers first count byte ≡ true → (first ≤ byte) × (byte < first + count)
covers_parts first count byte h =
    let r : (nat_le first byte ≡ true) × (nat_lt byte (first + count) ≡ true) = and_parts (nat_le first byte) (nat_lt byte (first + count)) h in
    (leb-true first byte r.0, ltb-true byte (first + count) r.1)

pub covers_from : (first count byte : ℕ) → first ≤ byte → byte < first + count → covers first count byte ≡ true
covers_from first count byte a b = and_from (nat_le first byte) (nat_lt byte (first + count)) (le-leb first byte a) (lt-ltb byte (first + count) b)

-- no byte is covered by both
abbrev pub Apart : ℕ → ℕ → ℕ → ℕ → Type 0
Apart first count other other_count = (byte : ℕ) → covers first count byte ≡ true → covers other other_count byte ≡ true → ⊥

-- ---- what an operation depends on and what it changes

pub number_frame : (c d : Cells) (first count : ℕ) → ((byte : ℕ) → covers first count byte ≡ true → c byte ≡ d byte) → number c first count ≡ number d first count
number_frame c d first zero h = refl
number_frame c d first (suc count) h =
    ap₂ joined (h first (covers_from first (suc count) first (omega arith) (omega arith)))
    (number_frame c d (suc first) count (λ byte p. h byte (wider byte (covers_parts (suc first) count byte p))))
  where
    wider : (byte : ℕ) → (suc first ≤ byte) × (byte < suc first + count) → covers first (suc count) byte ≡ true
    wider byte r = covers_from first (suc count) byte (omega (arith, r.0)) (omega (arith, r.1))

-- what an operation finds depends on the bytes that it covers
pub found_frame :
    (op : Operation) (c d : Cells) (first : ℕ) → ((byte : ℕ) → covers first (size_of op) byte ≡ true → c byte ≡ d byte) → found op c first ≡ found op d first
found_frame (Load width) c d first h = number_frame c d first (byte_count width) h
found_frame (Store width value) c d first h = refl
found_frame (Update class operand) c d first h = number_frame c d first 4 h
found_frame (Fetch op operand) c d first h = number_frame c d first 4 h

-- it leaves the other bytes as they were
pub effect_out : (op : Operation) (x : ℕ) (c : Cells) (first byte : ℕ) → covers first (size_of op) byte ≡ false → effect op x c first byte ≡ c byte
unfolding written
effect_out (Load width) x c first byte h = refl
effect_out (Store width value) x c first byte h = if_false (covers first (byte_count width) byte) (Some (byte_of (byte - first) value)) (c byte) h
effect_out (Update class operand) x c first byte h =
    if_false (covers first 4 byte) (Some (byte_of (byte - first) (updated_word class x operand))) (c byte) h
effect_out (Fetch op operand) x c first byte h = if_false (covers first 4 byte) (Some (byte_of (byte - first) (fetched op x operand))) (c byte) h

-- what it leaves at a byte depends on that byte of the cells alone
pub effect_at : (op : Operation) (x : ℕ) (c d : Cells) (first byte : ℕ) → c byte ≡ d byte → effect op x c first byte ≡ effect op x d first byte
unfolding written
effect_at (Load width) x c d first byte h = h
effect_at (Store width value) x c d first byte h = ap (λ z. if covers first (byte_count width) byte then Some (byte_of (byte - first) value) else z) h
effect_at (Update class operand) x c d first byte h =
    ap (λ z. if covers first 4 byte then Some (byte_of (byte - first) (updated_word class x operand)) else z) h
effect_at (Fetch op operand) x c d first byte h = ap (λ z. if covers first 4 byte then Some (byte_of (byte - first) (fetched op x operand)) else z) h

pub written_in : (c : Cells) (first count value byte : ℕ) → covers first count byte ≡ true → written c first count value byte ≡ Some (byte_of (byte - first) value)
unfolding written
written_in c first count value byte h = if_true (covers first count byte) (Some (byte_of (byte - first) value)) (c byte) h

written_over : (c : Cells) (first count v w : ℕ) → written (written c first count v) first count w ≡ written c first count w
unfolding written
written_over c first count v w = fun_ext (λ byte. at_byte byte (covers first count byte) (Some (byte_of (byte - first) v)) (Some (byte_of (byte - first) w)))
  where
    at_byte : (byte : ℕ) (b : Bool) (o p : Option ℕ) → (if b then p else (if b then o else c byte)) ≡ (if b then p else c byte)
    at_byte byte true o p = refl
    at_byte byte false o p = refl

-- ---- two operations on bytes apart

-- what two operations that can be done in either order leave
pub record Swapped (op op2 : Operation) (c : Cells) (first first2 v v2 : ℕ) : Type 0 where
  pub later : ℕ
  pub earlier : ℕ
  pub finds_later : found op2 (effect op v c first) first2 ≡ Some later
  pub finds_earlier : found op (effect op2 v2 c first2) first ≡ Some earlier
  pub answers_later : answer_to op2 later ≡ answer_to op2 v2
  pub answers_earlier : answer_to op earlier ≡ answer_to op v
  pub same_cells : effect op2 later (effect op v c first) first2 ≡ effect op earlier (effect op2 v2 c first2) first

not_both : (a b : Bool) → (a ≡ true → b ≡ true → ⊥) → b ≡ true → a ≡ false
not_both true b h e = absurd (h refl e)
not_both false b h e = refl

-- what an operation finds stays while another acts on bytes apart
pub found_apart :
    (op op2 : Operation) (c : Cells) (first first2 v2 : ℕ) → Apart first (size_of op) first2 (size_of op2)
    → found op (effect op2 v2 c first2) first ≡ found op c first
found_apart op op2 c first first2 v2 apart =
    found_frame op (effect op2 v2 c first2) c first
    (λ byte p. effect_out op2 v2 c first2 byte (not_both (covers first2 (size_of op2) byte) (covers first (size_of op) byte) (λ q r. apart byte r q) p))

apart_swap :
    (op op2 : Operation) (c : Cells) (first first2 v v2 : ℕ) → Apart first (size_of op) first2 (size_of op2) → found op c first ≡ Some v → found op2 c first2 ≡ Some v2
    → Swapped op op2 c first first2 v v2
apart_swap op op2 c first first2 v v2 apart finds finds2 =
    record {
      later = v2;
      earlier = v;
      finds_later = found_apart op2 op c first2 first v (λ byte p q. apart byte q p) ∙ finds2;
      finds_earlier = found_apart op op2 c first first2 v2 apart ∙ finds;
      answers_later = refl;
      answers_earlier = refl;
      same_cells = fun_ext (λ byte. at_byte byte (covers first (size_of op) byte) refl);
    }
  where
    at_byte :
        (byte : ℕ) (b : Bool) → covers first (size_of op) byte ≡ b
        → effect op2 v2 (effect op v c first) first2 byte ≡ effect op v (effect op2 v2 c first2) first byte
    at_byte byte true p =
        let out : covers first2 (size_of op2) byte ≡ false = not_both (covers first2 (size_of op2) byte) (covers first (size_of op) byte) (λ q r. apart byte r q) p in
        effect_out op2 v2 (effect op v c first) first2 byte out
        ∙ effect_at op v c (effect op2 v2 c first2) first byte (sym (effect_out op2 v2 c first2 byte out))
    at_byte byte false p =
        effect_at op2 v2 (effect op v c first) c first2 byte (effect_out op v c first byte p)
        ∙ sym (effect_out op v (effect op2 v2 c first2) first byte p)

-- ---- two stores of the same bytes

pub written_out : (c : Cells) (first count value byte : ℕ) → covers first count byte ≡ false → written c first count value byte ≡ c byte
unfolding written
written_out c first count value byte h = if_false (covers first count byte) (Some (byte_of (byte - first) value)) (c byte) h

-- two stores that leave the same byte where they meet leave the same in either order
stores_at :
    (c : Cells) (first count v first2 count2 w byte : ℕ)
    → (covers first count byte ≡ true → covers first2 count2 byte ≡ true → byte_of (byte - first) v ≡ byte_of (byte - first2) w)
    → written (written c first count v) first2 count2 w byte ≡ written (written c first2 count2 w) first count v byte
stores_at c first count v first2 count2 w byte same = go (covers first count byte) (covers first2 count2 byte) refl refl
  where
    go :
        (a b : Bool) → covers first count byte ≡ a → covers first2 count2 byte ≡ b
        → written (written c first count v) first2 count2 w byte ≡ written (written c first2 count2 w) first count v byte
    go true true p q =
        written_in (written c first count v) first2 count2 w byte q ∙ ap Some (sym (same p q)) ∙ sym (written_in (written c first2 count2 w) first count v byte p)
    go true false p q =
        written_out (written c first count v) first2 count2 w byte q
        ∙ written_in c first count v byte p
        ∙ sym (written_in (written c first2 count2 w) first count v byte p)
    go false true p q =
        written_in (written c first count v) first2 count2 w byte q
        ∙ sym (written_in c first2 count2 w byte q)
        ∙ sym (written_out (written c first2 count2 w) first count v byte p)
    go false false p q =
        written_out (written c first count v) first2 count2 w byte q
        ∙ written_out c first count v byte p
        ∙ sym (written_out c first2 count2 w byte q)
        ∙ sym (written_out (written c first2 count2 w) first count v byte p)

-- ---- two updates on the same bytes

pub number_of_written : (c : Cells) (first v : ℕ) → v < 2 ^ 32 → number (written c first 4 v) first 4 ≡ Some v
number_of_written c first v below =
    ap₂ joined (at_place 0 first (omega arith) (omega arith))
    (ap₂ joined (at_place 1 (suc first) (omega arith) (omega arith))
    (ap₂ joined (at_place 2 (suc (suc first)) (omega arith) (omega arith))
    (ap (λ o. joined o (Some 0)) (at_place 3 (suc (suc (suc first))) (omega arith) (omega arith)))))
    ∙ ap Some (four_bytes_are v below)
  where
    at_place : (k byte : ℕ) → byte ≡ first + k → k < 4 → written c first 4 v byte ≡ Some (byte_of k v)
    at_place k byte e l =
        let d : byte - first ≡ k = omega (arith, e) in
        written_in c first 4 v byte (covers_from first 4 byte (omega (arith, e)) (omega (arith, e, l))) ∙ ap (λ z. Some (byte_of z v)) d

updates_swap :
    (class : Class) (a b : ℕ) (c : Cells) (first v : ℕ) → found (Update class a) c first ≡ Some v → Swapped (Update class a) (Update class b) c first first v v
updates_swap class a b c first v finds =
    record {
      later = updated_word class v a;
      earlier = updated_word class v b;
      finds_later = number_of_written c first (updated_word class v a) (updated_below class v a);
      finds_earlier = number_of_written c first (updated_word class v b) (updated_below class v b);
      answers_later = refl;
      answers_earlier = refl;
      same_cells =
          written_over c first 4 (updated_word class v a) (updated_word class (updated_word class v a) b)
          ∙ ap (written c first 4) (updated_swap class v a b)
          ∙ sym (written_over c first 4 (updated_word class v b) (updated_word class (updated_word class v b) a));
    }

-- ---- any two that agree where they meet

-- two operations, at the bytes from `first` and from `first2` on, that don't conflict on a byte
abbrev pub Agree : Operation → ℕ → Operation → ℕ → ℕ → Type 0
Agree (Load _) first (Load _) first2 byte = Unit {0}
Agree (Store _ v) first (Store _ w) first2 byte = byte_of (byte - first) v ≡ byte_of (byte - first2) w
Agree (Update c _) first (Update d _) first2 byte = c ≡ d
Agree _ _ _ _ _ = ⊥

-- they agree on each byte that both cover
abbrev pub Compatible : Operation → ℕ → Operation → ℕ → Type 0
Compatible op first op2 first2 = (byte : ℕ) → covers first (size_of op) byte ≡ true → covers first2 (size_of op2) byte ≡ true → Agree op first op2 first2 byte

-- an access begins at a multiple of its size
abbrev pub Aligned : Operation → ℕ → Type 0
Aligned op first = (k : ℕ) × (first ≡ k * size_of op)

four_apart : (first first2 k k2 : ℕ) → first ≡ k * 4 → first2 ≡ k2 * 4 → (first ≡ first2 → ⊥) → Apart first 4 first2 4
four_apart first first2 k k2 e e2 ne byte p q =
    let r : (first ≤ byte) × (byte < first + 4) = covers_parts first 4 byte p in
    let r2 : (first2 ≤ byte) × (byte < first2 + 4) = covers_parts first2 4 byte q in
    ne (omega (arith, e, e2, r.0, r.1, r2.0, r2.1))

pub swap :
    (op op2 : Operation) (c : Cells) (first first2 v v2 : ℕ) → Aligned op first → Aligned op2 first2 → Compatible op first op2 first2
    → found op c first ≡ Some v → found op2 c first2 ≡ Some v2 → Swapped op op2 c first first2 v v2
swap (Load width) (Load width2) c first first2 v v2 al al2 compatible finds finds2 =
    record {
      later = v2;
      earlier = v;
      finds_later = finds2;
      finds_earlier = finds;
      answers_later = refl;
      answers_earlier = refl;
      same_cells = refl;
    }
swap (Store width a) (Store width2 b) c first first2 v v2 al al2 compatible finds finds2 =
    record {
      later = v2;
      earlier = v;
      finds_later = finds2;
      finds_earlier = finds;
      answers_later = refl;
      answers_earlier = refl;
      same_cells = fun_ext (λ byte. stores_at c first (byte_count width) a first2 (byte_count width2) b byte (compatible byte));
    }
swap (Update class a) (Update class2 b) c first first2 v v2 al al2 compatible finds finds2 = go (cases_eq first first2)
  where
    go : (first ≡ first2) ⊎ (first ≡ first2 → ⊥) → Swapped (Update class a) (Update class2 b) c first first2 v v2
    go (inl e) =
        let same_class : class ≡ class2 = compatible first (covers_from first 4 first (omega arith) (omega arith)) (covers_from first2 4 first (omega (arith, e)) (omega (arith, e))) in
        let same_number : v ≡ v2 = some_inj v v2 (sym finds ∙ ap (λ z. number c z 4) e ∙ finds2) in
        subst (λ z. Swapped (Update class a) (Update z b) c first first2 v v2) same_class
        (subst (λ z. Swapped (Update class a) (Update class b) c first z v v2) e
        (subst (λ z. Swapped (Update class a) (Update class b) c first first v z) same_number (updates_swap class a b c first v finds)))
    go (inr ne) = apart_swap (Update class a) (Update class2 b) c first first2 v v2 (four_apart first first2 al.0 al2.0 al.1 al2.1 ne) finds finds2
swap op op2 c first first2 v v2 al al2 compatible finds finds2 = apart_swap op op2 c first first2 v v2 compatible finds finds2

-- an operation that finds an unset byte does so after another that it agrees with
pub unset_stays :
    (op op2 : Operation) (c : Cells) (first first2 v2 : ℕ) → Aligned op first → Aligned op2 first2 → Compatible op first op2 first2
    → found op c first ≡ None → found op2 c first2 ≡ Some v2 → found op (effect op2 v2 c first2) first ≡ None
unset_stays (Load width) (Load width2) c first first2 v2 al al2 compatible finds finds2 = finds
unset_stays (Store width a) (Store width2 b) c first first2 v2 al al2 compatible finds finds2 = finds
unset_stays (Update class a) (Update class2 b) c first first2 v2 al al2 compatible finds finds2 = go (cases_eq first first2)
  where
    go : (first ≡ first2) ⊎ (first ≡ first2 → ⊥) → found (Update class a) (effect (Update class2 b) v2 c first2) first ≡ None
    go (inl e) = absurd (none_some v2 (sym finds ∙ ap (λ z. number c z 4) e ∙ finds2))
    go (inr ne) = found_apart (Update class a) (Update class2 b) c first first2 v2 (four_apart first first2 al.0 al2.0 al.1 al2.1 ne) ∙ finds
unset_stays op op2 c first first2 v2 al al2 compatible finds finds2 = found_apart op op2 c first first2 v2 compatible ∙ finds

-- ---- unset bytes

pub number_unset : (c : Cells) (first count byte : ℕ) → lowest_unset c first count ≡ Some byte → number c first count ≡ None
number_unset c first zero byte h = absurd (none_some byte h)
number_unset c first (suc count) byte h = go (c first) h (number_unset c (suc first) count byte)
  where
    go :
        (o : Option ℕ) → unset_or o first (lowest_unset c (suc first) count) ≡ Some byte
        → (lowest_unset c (suc first) count ≡ Some byte → number c (suc first) count ≡ None) → joined o (number c (suc first) count) ≡ None
    go None e ih = refl
    go (Some low) e ih = ap (joined (Some low)) (ih e)

-- an operation that reads an unset byte finds no number
pub found_unset :
    (op : Operation) (c : Cells) (first byte : ℕ) → reads op ≡ true → lowest_unset c first (size_of op) ≡ Some byte → found op c first ≡ None
found_unset (Load width) c first byte r h = number_unset c first (byte_count width) byte h
found_unset (Store width value) c first byte r h = absurd (false≢true r)
found_unset (Update class operand) c first byte r h = number_unset c first 4 byte h
found_unset (Fetch op operand) c first byte r h = number_unset c first 4 byte h

pub byte_count_some : (w : Width) → 0 < byte_count w
byte_count_some One = omega arith
byte_count_some Two = omega arith
byte_count_some Four = omega arith
byte_count_some Eight = omega arith

pub cells_some : (bytes : List ℕ) (byte : ℕ) → cells_of (map Some bytes) byte ≡ slice_get bytes byte
cells_some [] byte = refl
cells_some (b ∷ bytes) zero = refl
cells_some (b ∷ bytes) (suc byte) = cells_some bytes byte

pub cells_none : (n byte : ℕ) → cells_of (replicate n None) byte ≡ None
cells_none zero byte = refl
cells_none (suc n) zero = refl
cells_none (suc n) (suc byte) = cells_none n byte
