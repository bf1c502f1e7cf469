-- What is kept of accesses at each byte tells whether one conflicts, and the places of their keys whether it is there.
use Rattle.std.proofs.Common.{◌≡◌, ℕ, zero, suc, ◌+◌, ◌/◌, ◌%◌, ◌<◌, ◌≤◌, ◌⊎◌, Bool, true, false, nat_eq, not, ◌&&◌, ◌||◌, ◌==◌, Option, None, Some, List, [], ◌∷◌, ◌++◌, length, drop, refl, sym, ap, ap₂, ◌∙◌, subst, inl, inr, arith, eqb-true, eq-eqb}
use Rattle.std.specs.Prelude.{All, slice_get}
use Rattle.std.specs.Bool.{beq}
use Rattle.std.specs.Option.{unwrap_or}
use Rattle.std.specs.HashMap.{HashMap, get}
use Rattle.std.proofs.lemmas.Bool.{false≢true, and_parts, and_from, cases_eq, and_left}
use Rattle.std.proofs.lemmas.List.Elements.{All-head, All-tail}
use Rattle.std.proofs.lemmas.Option.{none-some, same_Some, slice_get_within}
use Rattle.clmodel.specs.Cells.{byte_count, covers}
use Rattle.clmodel.specs.Launch.{same_region, share, clash, both_store, left_at, clash_at, within_group, conflict_between}
use Rattle.clmodel.specs.declared.access.Access.{Access}
use Rattle.clmodel.specs.declared.access.AccessKind.{AccessKind}
use Rattle.clmodel.specs.declared.access.Region.{Region}
use Rattle.clmodel.specs.declared.access.Region.TheVariants as region
use Rattle.clmodel.proofs.Steps.{decided}
use Rattle.access_list.specs.Cells.{in_cell, Passes, KeepsAll, KeepsWords}
use Rattle.access_list.specs.Index.{newest_of}
use Rattle.access_list.specs.Keys.{object_number, cell_key, access_key, same_cell, same_key}
use Rattle.access_list.specs.Kinds.{kind_number}
use Rattle.access_list.specs.Log.{hit_on, hit, in_buffer, IsThere}
use Rattle.access_list.specs.Recent.{is_item, is_how, nothing, Describes, at_place}
use Rattle.access_list.specs.declared.cells.Cells.{Cells}
use Rattle.access_list.specs.declared.keys.AccessKey.{AccessKey}
use Rattle.access_list.specs.declared.keys.CellKey.{CellKey}
use Rattle.access_list.specs.declared.log.Entry.{Entry}
use Rattle.access_list.specs.declared.recent.How.TheVariants as how
use Rattle.access_list.specs.declared.recent.Recent.{Recent}
use Rattle.access_list.specs.declared.word.ListedWord.{ListedWord}
use Rattle.access_list.proofs.Agreeing.{agree_number, number_agrees, stores_by_number}
use Rattle.access_list.proofs.Hits.{ordered, not_shared, no_clash, kinds_agree, stores_agree, past_over, clear}
use Rattle.access_list.proofs.Past.{other_interval}

-- ---- accesses that pass

-- an access of the same item doesn't conflict
own_item : (u : Bool) (x y : Access) (byte : ℕ) → y.item ≡ x.item → conflict_between (within_group u) y x byte ≡ None
own_item u x y byte e =
    ordered (within_group u) y x byte
    (and_left (not (nat_eq y.item x.item)) (not true || nat_eq y.interval x.interval) (ap not (eq-eqb y.item x.item e)))

-- an access that agrees with those of its interval passes
pub passed :
    (u : Bool) (r : Recent) (x : Access) (byte : ℕ) → r.interval ≡ x.interval
    → ((y : Access) → is_item r.who y.item ≡ true → is_how r.how y byte ≡ true → (y.item ≡ x.item) ⊎ (clash_at (within_group u) y x byte ≡ None)) → Passes u r x byte
passed u r x byte e f y d = go (cases_eq y.interval x.interval)
  where
    either : (y.item ≡ x.item) ⊎ (clash_at (within_group u) y x byte ≡ None) → conflict_between (within_group u) y x byte ≡ None
    either (inl i) = own_item u x y byte i
    either (inr k) = no_clash (within_group u) y x byte k

    go : (y.interval ≡ x.interval) ⊎ (y.interval ≡ x.interval → ⊥) → conflict_between (within_group u) y x byte ≡ None
    go (inl s) = let p : (is_item r.who y.item ≡ true) × (is_how r.how y byte ≡ true) = d.1 (s ∙ sym e) in either (f y p.0 p.1)
    go (inr n) = other_interval u x y byte n

-- an access of a later interval passes
pub passed_later : (u : Bool) (r : Recent) (x : Access) (byte : ℕ) → r.interval < x.interval → Passes u r x byte
passed_later u r x byte b y d = other_interval u x y byte (λ s. omega (arith, b, d.0, s))

-- a kind that is of the number of one that agrees agrees
agrees_all : (first kind : AccessKind) → clash first kind ≡ None → (other : AccessKind) → (kind_number other == kind_number first) ≡ true → clash other kind ≡ None
agrees_all first kind h other e = number_agrees first other kind h (eqb-true (kind_number other) (kind_number first) e ∙ agree_number first kind h)

-- an access doesn't clash with those of a kind that agrees with its own
pub agreed : (u : Bool) (kind : AccessKind) (left : ℕ) (x y : Access) (byte : ℕ) → clash kind x.kind ≡ None → is_how (how.One kind left) y byte ≡ true
    → clash_at (within_group u) y x byte ≡ None
agreed u kind left x y byte h d =
    kinds_agree (within_group u) y x byte (agrees_all kind x.kind h y.kind (and_parts (kind_number y.kind == kind_number kind) (left_at y byte == left) d).0)

-- a store of a uniform launch doesn't clash with those that leave the byte that it leaves
pub agreed_stores :
    (u : Bool) (kind : AccessKind) (left : ℕ) (x y : Access) (byte : ℕ) → u ≡ true → both_store kind x.kind ≡ true → left_at x byte ≡ left
    → is_how (how.One kind left) y byte ≡ true → clash_at (within_group u) y x byte ≡ None
agreed_stores u kind left x y byte is_uniform stores same d =
    let r : ((kind_number y.kind == kind_number kind) ≡ true) × ((left_at y byte == left) ≡ true) = and_parts (kind_number y.kind == kind_number kind) (left_at y byte == left) d in
    stores_agree (within_group u) y x byte
    (and_from (both_store y.kind x.kind && u) (left_at y byte == left_at x byte)
    (and_from (both_store y.kind x.kind) u (stores_by_number kind y.kind x.kind stores (eqb-true (kind_number y.kind) (kind_number kind) r.0)) is_uniform)
    (eq-eqb (left_at y byte) (left_at x byte) (eqb-true (left_at y byte) left r.1 ∙ sym same)))

-- ---- accesses that are kept at their bytes

one_cell_key : (a b : Region) (byte : ℕ) → same_region a b ≡ true → cell_key a byte ≡ cell_key b byte
one_cell_key (region.Buffer a) (region.Buffer b) byte e = ap (λ n. cell_key (region.Buffer n) byte) (eqb-true a b e)
one_cell_key (region.Buffer a) (region.Local h b) byte e = absurd (false≢true e)
one_cell_key (region.Local g a) (region.Buffer b) byte e = absurd (false≢true e)
one_cell_key (region.Local g a) (region.Local h b) byte e =
    let r : (nat_eq g h ≡ true) × (nat_eq a b ≡ true) = and_parts (nat_eq g h) (nat_eq a b) e in ap (λ n. cell_key (region.Local g n) byte) (eqb-true a b r.1)

-- an access that passes at each of its bytes conflicts with none that is kept
pub marked_clear :
    (u : Bool) (x y : Access) (f : CellKey → ℕ → Recent) → ((byte : ℕ) → covers x.first (byte_count x.width) byte ≡ true → Passes u (f (cell_key x.region byte) byte) x byte)
    → ((byte : ℕ) → covers y.first (byte_count y.width) byte ≡ true → Describes (f (cell_key y.region byte) byte) y byte)
    → (byte : ℕ) → conflict_between (within_group u) y x byte ≡ None
marked_clear u x y f passes kept byte = decided (share y x byte) shared (not_shared (within_group u) y x byte)
  where
    shared : share y x byte ≡ true → conflict_between (within_group u) y x byte ≡ None
    shared p =
        let r : ((same_region y.region x.region && covers y.first (byte_count y.width) byte) ≡ true) × (covers x.first (byte_count x.width) byte ≡ true) = and_parts _ _ p in
        let s : (same_region y.region x.region ≡ true) × (covers y.first (byte_count y.width) byte ≡ true) = and_parts _ _ r.0 in
        passes byte r.1 y
        (subst (λ q. Describes (f q byte) y byte) (one_cell_key y.region x.region byte s.0) (kept byte s.1))

-- an entry that doesn't conflict with one on a byte
abbrev pub Misses : Bool → Entry → ℕ → Entry → Type 0
Misses u x byte y = conflict_between (within_group u) y.access x.access byte ≡ None

all_clear : (u : Bool) (x : Entry) (byte : ℕ) (log : List Entry) → All (Misses u x byte) log → (n : ℕ) → hit_on (within_group u) x byte (drop n log) ≡ None
all_clear u x byte [] h zero = refl
all_clear u x byte [] h (suc n) = refl
all_clear u x byte (y ∷ log) h zero =
    past_over (within_group u) x byte y log (All-head (Misses u x byte) y log h) ∙ all_clear u x byte log (All-tail (Misses u x byte) y log h) zero
all_clear u x byte (y ∷ log) h (suc n) = all_clear u x byte log (All-tail (Misses u x byte) y log h) n

-- P of each is Q of each
pub all_as : (P Q : Entry → Type 0) → ((y : Entry) → P y → Q y) → (log : List Entry) → All P log → All Q log
all_as P Q f log h k d lt = f _ (h k d lt)

-- a log none of whose accesses conflicts has no conflict
pub none_hit : (u : Bool) (x : Entry) (log : List Entry) (n : ℕ) → ((byte : ℕ) → All (Misses u x byte) log) → hit (within_group u) x (drop n log) ≡ None
none_hit u x log n h = clear (within_group u) x (drop n log) (λ byte. all_clear u x byte log (h byte) n)

-- ---- what is kept stays

pub nothing_described : (y : Access) (byte : ℕ) → Describes nothing y byte → ⊥
nothing_described y byte d = false≢true (d.1 (omega (arith, d.0))).0

-- what is kept at each key stays, where each byte of each word keeps what it had, and each cell is where it was
pub cells_kept : {S : Type 0} (m n : HashMap CellKey ℕ S) (old new : List ListedWord) (apart parts : List Recent) → ((q : CellKey) (start : ℕ) → get same_cell m q ≡ Some start → get same_cell n q ≡ Some start)
    → ((p k : ℕ) (y : Access) (byte : ℕ) → k < 4 → Describes (at_place old apart p k) y byte → Describes (at_place new parts p k) y byte)
    → (key : CellKey) (k : ℕ) (y : Access) (byte : ℕ) → k < 8 → Describes (in_cell old apart k (get same_cell m key)) y byte → Describes (in_cell new parts k (get same_cell n key)) y byte
cells_kept m n old new apart parts there same key k y byte b d = go (get same_cell m key) refl
  where
    go : (o : Option ℕ) → get same_cell m key ≡ o → Describes (in_cell new parts k (get same_cell n key)) y byte
    go None e = absurd (nothing_described y byte (subst (λ o. Describes (in_cell old apart k o) y byte) e d))
    go (Some start) e =
        subst (λ o. Describes (in_cell new parts k o) y byte) (sym (there key start e))
        (same (start + k / 4) (k % 4) y byte (omega arith) (subst (λ o. Describes (in_cell old apart k o) y byte) e d))

-- the same where the cells are the same
pub words_kept : {old new : Cells} → KeepsWords old new → KeepsAll old new
words_kept {old = old} {new = new} w =
    cells_kept old.starts new.starts old.words.items new.words.items old.apart.items new.apart.items
    (λ q start e. ap (λ m. get same_cell m q) w.starts ∙ e) w.kept

-- ---- whether an access is there

pub rest_new : (x : Access) (n : ℕ) (log : List Entry) → ((j : ℕ) (y : Entry) → slice_get log j ≡ Some y → n ≤ j → y.access ≡ x → ⊥) → IsThere (drop n log) x → ⊥
rest_new x zero [] h t = t
rest_new x zero (y ∷ log) h (inl e) = h zero y refl (omega arith) e
rest_new x zero (y ∷ log) h (inr t) = rest_new x zero log (λ j z e o. h (suc j) z e (omega arith)) t
rest_new x (suc n) [] h t = t
rest_new x (suc n) (y ∷ log) h t = rest_new x n log (λ j z e o. h (suc j) z e (omega (arith, o))) t

pub rest_there : (x : Access) (n : ℕ) (log : List Entry) → IsThere (drop n log) x → IsThere log x
rest_there x zero log t = t
rest_there x (suc n) [] t = t
rest_there x (suc n) (y ∷ log) t = inr (rest_there x n log t)

-- ---- bytes of one cell

cell_once : (first count byte : ℕ) → first % 8 + count ≤ 8 → first ≤ byte → byte < first + count → byte / 8 ≡ first / 8
cell_once first count byte a b d = omega (arith, a, b, d)

-- where a byte is kept, in the cell of the first of some
pub at_start :
    {S : Type 0} (m : HashMap CellKey ℕ S) (words : List ListedWord) (apart : List Recent) (r : Region) (first count byte start : ℕ) → first % 8 + count ≤ 8 → first ≤ byte → byte < first + count
    → get same_cell m (cell_key r first) ≡ Some start → in_cell words apart (byte % 8) (get same_cell m (cell_key r byte)) ≡ at_place words apart (start + byte % 8 / 4) (byte % 4)
at_start m words apart r first count byte start a b d e =
    ap (λ q. in_cell words apart (byte % 8) (get same_cell m (record { is_buffer = in_buffer r; number = object_number r; cell = q }))) (cell_once first count byte a b d) ∙ ap (in_cell words apart (byte % 8)) e
    ∙ ap (at_place words apart (start + byte % 8 / 4)) {x = byte % 8 % 4} {y = byte % 4} (omega arith)

-- ---- a log with one more

-- what a longer list has is the added one, or was there
grown_get : (xs : List Entry) (x z : Entry) (j : ℕ) → slice_get (xs ++ x ∷ []) j ≡ Some z → (slice_get xs j ≡ Some z) ⊎ ((j ≡ length xs) × (x ≡ z))
grown_get [] x z zero e = inr (refl, same_Some x z e)
grown_get [] x z (suc j) e = absurd (none-some z e)
grown_get (y ∷ xs) x z zero e = inl e
grown_get (y ∷ xs) x z (suc j) e = shifted (grown_get xs x z j e)
  where
    shifted : (slice_get xs j ≡ Some z) ⊎ ((j ≡ length xs) × (x ≡ z)) → (slice_get xs j ≡ Some z) ⊎ ((suc j ≡ suc (length xs)) × (x ≡ z))
    shifted (inl h) = inl h
    shifted (inr h) = inr (ap suc h.0, h.1)

same_flag : (a b : Bool) → beq a b ≡ true → a ≡ b
same_flag true true h = refl
same_flag true false h = absurd (false≢true h)
same_flag false true h = absurd (false≢true h)
same_flag false false h = refl

one_key : (a b : AccessKey) → same_key a b ≡ true → a ≡ b
one_key a b h =
    let r1 = and_parts (beq a.is_buffer b.is_buffer) ((a.number == b.number) && ((a.first == b.first) && ((a.width == b.width) && ((a.item == b.item) && ((a.kind == b.kind) && (a.value == b.value)))))) h in
    let r2 = and_parts (a.number == b.number) ((a.first == b.first) && ((a.width == b.width) && ((a.item == b.item) && ((a.kind == b.kind) && (a.value == b.value))))) r1.1 in
    let r3 = and_parts (a.first == b.first) ((a.width == b.width) && ((a.item == b.item) && ((a.kind == b.kind) && (a.value == b.value)))) r2.1 in
    let r4 = and_parts (a.width == b.width) ((a.item == b.item) && ((a.kind == b.kind) && (a.value == b.value))) r3.1 in
    let r5 = and_parts (a.item == b.item) ((a.kind == b.kind) && (a.value == b.value)) r4.1 in
    let r6 = and_parts (a.kind == b.kind) (a.value == b.value) r5.1 in
    ap₂ (λ (t : Bool) (n : ℕ). record { is_buffer = t; number = n; first = a.first; width = a.width; item = a.item; kind = a.kind; value = a.value })
    (same_flag a.is_buffer b.is_buffer r1.0) (eqb-true a.number b.number r2.0)
    ∙ ap₂ (λ (f w : ℕ). record { is_buffer = b.is_buffer; number = b.number; first = f; width = w; item = a.item; kind = a.kind; value = a.value })
    (eqb-true a.first b.first r3.0) (eqb-true a.width b.width r4.0)
    ∙ ap₂ (λ (i k : ℕ). record { is_buffer = b.is_buffer; number = b.number; first = b.first; width = b.width; item = i; kind = k; value = a.value })
    (eqb-true a.item b.item r5.0) (eqb-true a.kind b.kind r6.0)
    ∙ ap (λ (v : ℕ). record { is_buffer = b.is_buffer; number = b.number; first = b.first; width = b.width; item = b.item; kind = b.kind; value = v })
    (eqb-true a.value b.value r6.1)

one_cell : (a b : CellKey) → same_cell a b ≡ true → a ≡ b
one_cell a b h =
    let r = and_parts (beq a.is_buffer b.is_buffer) ((a.number == b.number) && (a.cell == b.cell)) h in
    let s = and_parts (a.number == b.number) (a.cell == b.cell) r.1 in
    ap₂ (λ (t : Bool) (n : ℕ). record { is_buffer = t; number = n; cell = a.cell }) (same_flag a.is_buffer b.is_buffer r.0) (eqb-true a.number b.number s.0)
    ∙ ap (λ (c : ℕ). record { is_buffer = b.is_buffer; number = b.number; cell = c }) (eqb-true a.cell b.cell s.1)

-- where cells start, once one more is added
pub start_kept :
    {S : Type 0} (m n : HashMap CellKey ℕ S) (key : CellKey) → get same_cell m key ≡ None → ((q : CellKey) → same_cell key q ≡ false → get same_cell n q ≡ get same_cell m q)
    → (q : CellKey) (s : ℕ) → get same_cell m q ≡ Some s → get same_cell n q ≡ Some s
start_kept m n key none others q s e =
    decided (same_cell key q)
    (λ t. absurd (none-some s (sym none ∙ ap (get same_cell m) (one_cell key q t) ∙ e)))
    (λ t. others q t ∙ e)

pub start_inside :
    {S : Type 0} (m n : HashMap CellKey ℕ S) (key : CellKey) (start : ℕ) → get same_cell n key ≡ Some start → ((q : CellKey) → same_cell key q ≡ false → get same_cell n q ≡ get same_cell m q)
    → (long : ℕ) → start + 2 ≤ long → ((q : CellKey) (s : ℕ) → get same_cell m q ≡ Some s → s + 2 ≤ long) → (q : CellKey) (s : ℕ) → get same_cell n q ≡ Some s → s + 2 ≤ long
start_inside m n key start own others long end inside q s e =
    decided (same_cell key q)
    (λ t. subst (λ j. j + 2 ≤ long) (same_Some start s (sym own ∙ ap (get same_cell n) (one_cell key q t) ∙ e)) end)
    (λ t. inside q s (sym (others q t) ∙ e))

-- the places of keys, once that of an access is added, and once the access is
pub below_kept :
    {S : Type 0} (log : List Entry) (m n : HashMap AccessKey ℕ S) (h : AccessKey) → ((j : ℕ) (y : Entry) → slice_get log j ≡ Some y → j < newest_of m (access_key y.access))
    → get same_key n h ≡ Some (length log + 1) → ((q : AccessKey) → same_key h q ≡ false → get same_key n q ≡ get same_key m q)
    → (j : ℕ) (y : Entry) → slice_get log j ≡ Some y → j < newest_of n (access_key y.access)
below_kept log m n h below own others j y a =
    decided (same_key h (access_key y.access))
    (λ t.
    let q : newest_of n (access_key y.access) ≡ length log + 1 =
    ap (newest_of n) (sym (one_key h (access_key y.access) t)) ∙ ap (λ o. unwrap_or o 0) own in
    omega (arith, q, slice_get_within log j y a))
    (λ t.
    let q : newest_of n (access_key y.access) ≡ newest_of m (access_key y.access) = ap (λ o. unwrap_or o 0) (others (access_key y.access) t) in
    omega (arith, q, below j y a))

pub below_more :
    {S : Type 0} (log : List Entry) (x : Entry) (m n : HashMap AccessKey ℕ S) (h : AccessKey)
    → ((j : ℕ) (y : Entry) → slice_get log j ≡ Some y → j < newest_of m (access_key y.access))
    → h ≡ access_key x.access → get same_key n h ≡ Some (length log + 1) → ((q : AccessKey) → same_key h q ≡ false → get same_key n q ≡ get same_key m q)
    → (j : ℕ) (y : Entry) → slice_get (log ++ x ∷ []) j ≡ Some y → j < newest_of n (access_key y.access)
below_more log x m n h below k own others j y e = go (grown_get log x y j e)
  where
    go : (slice_get log j ≡ Some y) ⊎ ((j ≡ length log) × (x ≡ y)) → j < newest_of n (access_key y.access)
    go (inl a) = below_kept log m n h below own others j y a
    go (inr a) =
        let q : newest_of n (access_key y.access) ≡ length log + 1 =
        ap (newest_of n) (sym (k ∙ ap (λ (z : Entry). access_key z.access) a.1)) ∙ ap (λ o. unwrap_or o 0) own in
        omega (arith, q, a.0)
