-- What groups leave by themselves: a log and a memory. Two of these, joined.
use Rattle.std.proofs.Common.{◌≡◌, ℕ, ◌+◌, ◌*◌, ◌/◌, ◌%◌, ◌<◌, ◌≤◌, Bool, true, false, Some, None, refl, sym, ap, ap₂, ◌∙◌, subst, arith, ◌⊎◌, ⊎_elim, inl, inr, ◌||◌, List, [], ◌∷◌, ◌++◌}
use Rattle.std.proofs.lemmas.Bool.{and_parts, and_from, true≢false, cond-true, cond-false, or_parts}
use Rattle.std.proofs.lemmas.List.{append-nil}
use Rattle.std.proofs.lemmas.Option.{same_Some}
use Rattle.clmodel.specs.Cells.{Cells, number, byte_count, byte_of, written, updated_word}
use Rattle.clmodel.specs.Launch.{Launch, same_region, group_of, clash, conflict}
use Rattle.clmodel.specs.Run.{Memory, initial}
use Rattle.clmodel.specs.Law.{Logged}
use Rattle.clmodel.specs.declared.access.Access.{Access}
use Rattle.clmodel.specs.declared.access.AccessKind.{AccessKind}
use Rattle.clmodel.specs.declared.access.AccessKind.TheVariants as kind
use Rattle.clmodel.specs.declared.access.Class.{Class}
use Rattle.clmodel.specs.declared.access.Region.{Region}
use Rattle.clmodel.proofs.CellLaws.{covers_parts, covers_from}
use Rattle.clmodel.proofs.Logs.{logged_append, logged_front, logged_back}
use Rattle.joining.specs.Memory.{writes, at_byte, wrote, class_at, joined_numbers, joined_update, joined_memory}
use Rattle.joining.proofs.Base.{some_none, no_order}
use Rattle.joining.proofs.Words.{Updated, folded, joined_folds, updated_same, updated_number, updated_byte, updated_further}
use Rattle.joining.proofs.Crossings.{BothStores, meet}
use Rattle.joining.proofs.Over.{OnlyStores, OnlyUpdates, Fit, some_operand, update_not_store, wrote_some, wrote_from, wrote_append}
use Rattle.joining.proofs.Joins.{byte_in, class_none, class_there, clash_left, three_numbers, three_words}

-- each update of a log has four bytes from a multiple of four on
abbrev pub AllFit : List Access → Type 0
AllFit log = (x : Access) → Logged log x → Fit x

-- what groups leave by themselves
pub record Layer (l : Launch) (log : List Access) (memory : Memory) : Type 0 where
  pub fit : AllFit log
  pub base : (p : Region) (byte : ℕ) → wrote log p byte ≡ false → memory p byte ≡ initial l p byte
  pub folds : (c : Class) (p : Region) (n : ℕ) → OnlyUpdates c log p (n * 4)
      → (us : List ℕ) × Updated c us (initial l p) (memory p) (n * 4) × (wrote log p (n * 4) ≡ some_operand us)

-- two logs of different groups, none of whose accesses conflict
pub record Apart (l : Launch) (lower own : List Access) : Type 0 where
  pub groups : (x y : Access) → Logged own x → Logged lower y → group_of l y.item ≡ group_of l x.item → ⊥
  pub calm : (x y : Access) → Logged own x → Logged lower y → (byte : ℕ) → conflict l y x byte ≡ None

-- a byte that both logs stored at
pub record BothStored (lower own : List Access) (p : Region) (byte : ℕ) : Type 0 where
  pub x : Access
  pub x_there : Logged own x
  pub x_is : x.kind ≡ kind.Store
  pub x_at : at_byte p byte x ≡ true
  pub y : Access
  pub y_there : Logged lower y
  pub y_is : y.kind ≡ kind.Store
  pub y_at : at_byte p byte y ≡ true

-- a byte of a word that both logs updated by one class
pub record BothUpdated (lower own : List Access) (p : Region) (byte : ℕ) : Type 0 where
  pub c : Class
  pub n : ℕ
  pub k : ℕ
  pub at : byte ≡ n * 4 + k
  pub small : k < 4
  pub x : Access
  pub x_there : Logged own x
  pub x_is : x.kind ≡ kind.Update c
  pub x_at : at_byte p (n * 4 + k) x ≡ true
  pub y : Access
  pub y_there : Logged lower y
  pub y_is : y.kind ≡ kind.Update c
  pub y_at : at_byte p (n * 4 + k) y ≡ true

clash_right : (c : Class) (k : AccessKind) → clash k (kind.Update c) ≡ None → k ≡ kind.Update c
clash_right c kind.Load h = absurd (some_none _ h)
clash_right c kind.Store h = absurd (some_none _ h)
clash_right c (kind.Update d) h = ap kind.Update (no_order d c h)
clash_right c kind.Fetch h = absurd (some_none _ h)

store_left : (k : AccessKind) → clash kind.Store k ≡ None → ⊥
store_left kind.Load h = some_none _ h
store_left kind.Store h = some_none _ h
store_left (kind.Update d) h = some_none _ h
store_left kind.Fetch h = some_none _ h

store_right : (k : AccessKind) → clash k kind.Store ≡ None → ⊥
store_right kind.Load h = some_none _ h
store_right kind.Store h = some_none _ h
store_right (kind.Update d) h = some_none _ h
store_right kind.Fetch h = some_none _ h

clash_writers : (k k2 : AccessKind) → writes k ≡ true → writes k2 ≡ true → clash k k2 ≡ None → (c : Class) × (k ≡ kind.Update c) × (k2 ≡ kind.Update c)
clash_writers kind.Load k2 h h2 c = absurd (true≢false (sym h))
clash_writers kind.Store k2 h h2 c = absurd (store_left k2 c)
clash_writers (kind.Update d) k2 h h2 c = (d, refl, clash_left d k2 c)
clash_writers kind.Fetch kind.Load h h2 c = absurd (true≢false (sym h2))
clash_writers kind.Fetch kind.Store h h2 c = absurd (some_none _ c)
clash_writers kind.Fetch (kind.Update e) h h2 c = absurd (some_none _ c)
clash_writers kind.Fetch kind.Fetch h h2 c = absurd (some_none _ c)

no_stores : (l : Launch) (c : Class) (k k2 : AccessKind) → (k ≡ kind.Update c) ⊎ (k2 ≡ kind.Update c) → BothStores l k k2 ⊎ (clash k k2 ≡ None) → clash k k2 ≡ None
no_stores l c k k2 (inl e) (inl r) = absurd (update_not_store c (sym e ∙ r.1))
no_stores l c k k2 (inr e) (inl r) = absurd (update_not_store c (sym e ∙ r.2))
no_stores l c k k2 e (inr h) = h

-- an update at a byte of a word is at each
first_is : (a w m n k : ℕ) → a ≡ m * 4 → w ≡ 4 → a ≤ n * 4 + k → n * 4 + k < a + w → k < 4 → a ≡ n * 4
first_is a w m n k e d h i b = omega (arith, e, d, h, i, b)

from_there : (a n j : ℕ) → a ≡ n * 4 → a ≤ n * 4 + j
from_there a n j e = omega (arith, e)

below_there : (a w n j : ℕ) → a ≡ n * 4 → w ≡ 4 → j < 4 → n * 4 + j < a + w
below_there a w n j e d b = omega (arith, e, d, b)

pub whole_word : (c : Class) (p : Region) (n k j : ℕ) (x : Access) → Fit x → x.kind ≡ kind.Update c → k < 4 → j < 4 → at_byte p (n * 4 + k) x ≡ true → at_byte p (n * 4 + j) x ≡ true
whole_word c p n k j x fit is hk hj at =
    let s = and_parts (same_region p x.region) _ at in
    let f = fit c is in
    let b = covers_parts x.first (byte_count x.width) (n * 4 + k) s.1 in
    let first : x.first ≡ n * 4 = first_is x.first (byte_count x.width) f.1 n k f.2 f.0 b.0 b.1 hk in
    and_from _ _ s.0 (covers_from x.first (byte_count x.width) (n * 4 + j) (from_there x.first n j first) (below_there x.first (byte_count x.width) n j first f.0 hj))

-- beside an update of a word all accesses of other groups there are updates of its class
pub updates_below : (l : Launch) (lower own : List Access) → Apart l lower own → (c : Class) (p : Region) (n k : ℕ) (x : Access) → Logged own x → Fit x → x.kind ≡ kind.Update c → k < 4
    → at_byte p (n * 4 + k) x ≡ true → OnlyUpdates c lower p (n * 4)
updates_below l lower own apart c p n k x logged fit is small at e there j below on =
    clash_right c e.kind (subst (λ q. clash e.kind q ≡ None) is (no_stores l c e.kind x.kind (inr is)
    (meet l x e p (n * 4 + j) (apart.groups x e logged there) on (whole_word c p n k j x fit is small below at) (apart.calm x e logged there (n * 4 + j)))))

pub updates_above : (l : Launch) (lower own : List Access) → Apart l lower own → (c : Class) (p : Region) (n k : ℕ) (y : Access) → Logged lower y → Fit y → y.kind ≡ kind.Update c → k < 4
    → at_byte p (n * 4 + k) y ≡ true → OnlyUpdates c own p (n * 4)
updates_above l lower own apart c p n k y logged fit is small at e there j below on =
    clash_left c e.kind (subst (λ q. clash q e.kind ≡ None) is (no_stores l c y.kind e.kind (inl is)
    (meet l e y p (n * 4 + j) (apart.groups e y there logged) (whole_word c p n k j y fit is small below at) on (apart.calm e y there logged (n * 4 + j)))))

-- beside a store all accesses of other groups there are stores
pub stores_below : (l : Launch) (lower own : List Access) → Apart l lower own → (p : Region) (byte : ℕ) (x : Access) → Logged own x → x.kind ≡ kind.Store → at_byte p byte x ≡ true
    → OnlyStores lower p byte
stores_below l lower own apart p byte x logged is at y there on = ⊎_elim
    (λ s. s.1)
    (λ c. absurd (store_right y.kind (subst (λ q. clash y.kind q ≡ None) is c)))
    (meet l x y p byte (apart.groups x y logged there) on at (apart.calm x y logged there byte))

pub stores_above : (l : Launch) (lower own : List Access) → Apart l lower own → (p : Region) (byte : ℕ) (y : Access) → Logged lower y → y.kind ≡ kind.Store → at_byte p byte y ≡ true
    → OnlyStores own p byte
stores_above l lower own apart p byte y logged is at x there on = ⊎_elim
    (λ s. s.2)
    (λ c. absurd (store_left x.kind (subst (λ q. clash q x.kind ≡ None) is c)))
    (meet l x y p byte (apart.groups x y there logged) at on (apart.calm x y there logged byte))

-- what both wrote
in_word : (a w n byte : ℕ) → a ≡ n * 4 → w ≡ 4 → a ≤ byte → byte < a + w → (n * 4 ≤ byte) × (byte < n * 4 + 4)
in_word a w n byte e d h i = (omega (arith, e, d, h, i), omega (arith, e, d, h, i))

updated_there : (lower own : List Access) (p : Region) (byte : ℕ) (x y : Access) → Fit x → Logged own x → at_byte p byte x ≡ true → Logged lower y → at_byte p byte y ≡ true
    → (c : Class) → y.kind ≡ kind.Update c → x.kind ≡ kind.Update c → BothUpdated lower own p byte
updated_there lower own p byte x y fit x_there x_at y_there y_at c y_is x_is =
    let f = fit c x_is in
    let s = and_parts (same_region p x.region) _ x_at in
    let b = covers_parts x.first (byte_count x.width) byte s.1 in
    let w = in_word x.first (byte_count x.width) f.1 byte f.2 f.0 b.0 b.1 in
    let k = byte_in f.1 byte w.0 w.1 in
    record {
      c = c;
      n = f.1;
      k = k.0;
      at = k.1;
      small = k.2;
      x = x;
      x_there = x_there;
      x_is = x_is;
      x_at = subst (λ z. at_byte p z x ≡ true) k.1 x_at;
      y = y;
      y_there = y_there;
      y_is = y_is;
      y_at = subst (λ z. at_byte p z y ≡ true) k.1 y_at;
    }

pub both : (l : Launch) (lower own : List Access) → Apart l lower own → AllFit own → (p : Region) (byte : ℕ) → wrote lower p byte ≡ true → wrote own p byte ≡ true
    → BothStored lower own p byte ⊎ BothUpdated lower own p byte
both l lower own apart fit p byte k h =
    let x = wrote_some own p byte h in
    let y = wrote_some lower p byte k in
    ⊎_elim
    (λ r. inl (record { x = x.0; x_there = x.1; x_is = r.2; x_at = x.3; y = y.0; y_there = y.1; y_is = r.1; y_at = y.3 }))
    (λ c. let w = clash_writers y.0.kind x.0.kind y.2 x.2 c in inr (updated_there lower own p byte x.0 y.0 (fit x.0 x.1) x.1 x.3 y.1 y.3 w.0 w.1 w.2))
    (meet l x.0 y.0 p byte (apart.groups x.0 y.0 x.1 y.1) y.3 x.3 (apart.calm x.0 y.0 x.1 y.1 byte))

-- a word that is updated by one class alone is written whole or not at all
pub wrote_there : (log : List Access) (c : Class) (p : Region) (n k : ℕ) → AllFit log → OnlyUpdates c log p (n * 4) → k < 4 → wrote log p (n * 4 + k) ≡ wrote log p (n * 4)
wrote_there log c p n k fit only small = go (wrote log p (n * 4 + k)) refl (wrote log p (n * 4)) refl
  where
    here : n * 4 + 0 ≡ n * 4
    here = omega arith

    least : 0 < 4
    least = omega arith

    moves : (i j : ℕ) → i < 4 → j < 4 → wrote log p (n * 4 + i) ≡ true → wrote log p (n * 4 + j) ≡ true
    moves i j a b h =
        let x = wrote_some log p (n * 4 + i) h in
        wrote_from log p (n * 4 + j) x.0 x.1 x.2 (whole_word c p n i j x.0 (fit x.0 x.1) (only x.0 x.1 i a x.3) a b x.3)

    go : (x : Bool) → wrote log p (n * 4 + k) ≡ x → (y : Bool) → wrote log p (n * 4) ≡ y → wrote log p (n * 4 + k) ≡ wrote log p (n * 4)
    go true h y e = h ∙ sym (subst (λ z. wrote log p z ≡ true) here (moves k 0 small least h))
    go false h true e = absurd (true≢false (sym (moves 0 k least small (subst (λ z. wrote log p z ≡ true) (sym here) e)) ∙ h))
    go false h false e = h ∙ sym e

-- a byte of two joined
pub skips : (f m m2 : Memory) (log log2 : List Access) (p : Region) (byte : ℕ) → wrote log2 p byte ≡ false → joined_memory f m log m2 log2 p byte ≡ m p byte
unfolding joined_memory
skips f m m2 log log2 p byte h = cond-false _ _ _ h

pub alone : (f m m2 : Memory) (log log2 : List Access) (p : Region) (byte : ℕ) → wrote log2 p byte ≡ true → wrote log p byte ≡ false → joined_memory f m log m2 log2 p byte ≡ m2 p byte
unfolding joined_memory
alone f m m2 log log2 p byte h k = cond-true _ _ _ h ∙ cond-false _ _ _ k

meets : (f m m2 : Memory) (log log2 : List Access) (p : Region) (byte : ℕ) → wrote log2 p byte ≡ true → wrote log p byte ≡ true
    → joined_memory f m log m2 log2 p byte ≡ joined_update (class_at log2 p byte) (f p) (m p) (m2 p) byte
unfolding joined_memory
meets f m m2 log log2 p byte h k = cond-true _ _ _ h ∙ cond-true _ _ _ k

pub stored : (f m m2 : Memory) (log log2 : List Access) (p : Region) (byte : ℕ) → OnlyStores log2 p byte → wrote log2 p byte ≡ true → joined_memory f m log m2 log2 p byte ≡ m2 p byte
stored f m m2 log log2 p byte only h = go (wrote log p byte) refl
  where
    go : (b : Bool) → wrote log p byte ≡ b → joined_memory f m log m2 log2 p byte ≡ m2 p byte
    go false k = alone f m m2 log log2 p byte h k
    go true k = meets f m m2 log log2 p byte h k ∙ ap (λ o. joined_update o (f p) (m p) (m2 p) byte) (class_none log2 p byte only)

-- a byte of a word that both updated
joined_byte : (c : Class) (n k u : ℕ) (us : List ℕ) (v : ℕ) (vs : List ℕ) (first lower own : Cells) → k < 4 → Updated c (u ∷ us) first lower (n * 4) → Updated c (v ∷ vs) first own (n * 4)
    → (s : ℕ) × (number lower (n * 4) 4 ≡ Some (folded c (u ∷ us) s))
    × (joined_update (Some c) first lower own (n * 4 + k) ≡ Some (byte_of k (folded c (v ∷ vs) (folded c (u ∷ us) s))))
joined_byte c n k u us v vs first lower own h r w =
    let s = three_words c n (u ∷ us) (v ∷ vs) first lower own r refl w in
    let word : (n * 4 + k) / 4 * 4 ≡ n * 4 = omega (arith, h) in
    let at : (n * 4 + k) % 4 ≡ k = omega (arith, h) in (
      s.0,
      s.2,
      ap₂ (λ i f. joined_numbers c i (number first f 4) (number lower f 4) (number own f 4)) at word
          ∙ three_numbers c k (number first (n * 4) 4) (number lower (n * 4) 4) (number own (n * 4) 4) s.0 (folded c (u ∷ us) s.0) (folded c (v ∷ vs) s.0) s.1 s.2 s.3
          ∙ ap (λ z. Some (byte_of k z)) (joined_folds c us (v ∷ vs) u s.0),
    )

-- cells with a word updated by these operands, where it held a number
abbrev again : Class → ℕ → ℕ → List ℕ → Cells → Cells
again c word x [] cells = cells
again c word x (v ∷ vs) cells = written (again c word x vs cells) word 4 (updated_word c (folded c vs x) v)

again_is : (c : Class) (word x : ℕ) (vs : List ℕ) (cells : Cells) → number cells word 4 ≡ Some x → Updated c vs cells (again c word x vs cells) word
again_is c word x [] cells h = λ k b. refl
again_is c word x (v ∷ vs) cells h =
    let u = again_is c word x vs cells h in
    (again c word x vs cells, folded c vs x, u, updated_number c vs cells (again c word x vs cells) word x u h, λ k b. refl)

-- a word of two joined was updated by the operands of both
pub joined_word : (l : Launch) (c : Class) (p : Region) (n : ℕ) (log log2 : List Access) (m m2 : Memory) (us vs : List ℕ) → AllFit log → AllFit log2
    → OnlyUpdates c log p (n * 4) → OnlyUpdates c log2 p (n * 4)
    → Updated c us (initial l p) (m p) (n * 4) → wrote log p (n * 4) ≡ some_operand us → Updated c vs (initial l p) (m2 p) (n * 4) → wrote log2 p (n * 4) ≡ some_operand vs
    → Updated c (vs ++ us) (initial l p) (joined_memory (initial l) m log m2 log2 p) (n * 4)
joined_word l c p n log log2 m m2 us [] fit fit2 only only2 r w r2 w2 =
    updated_same c us (initial l p) (m p) (joined_memory (initial l) m log m2 log2 p) (n * 4) r
    (λ k b. skips (initial l) m m2 log log2 p (n * 4 + k) (wrote_there log2 c p n k fit2 only2 b ∙ w2))
joined_word l c p n log log2 m m2 [] (v ∷ vs) fit fit2 only only2 r w r2 w2 =
    subst (λ ws. Updated c ws (initial l p) (joined_memory (initial l) m log m2 log2 p) (n * 4)) (sym (append-nil (v ∷ vs)))
    (updated_same c (v ∷ vs) (initial l p) (m2 p) (joined_memory (initial l) m log m2 log2 p) (n * 4) r2
    (λ k b. alone (initial l) m m2 log log2 p (n * 4 + k) (wrote_there log2 c p n k fit2 only2 b ∙ w2) (wrote_there log c p n k fit only b ∙ w)))
joined_word l c p n log log2 m m2 (u ∷ us) (v ∷ vs) fit fit2 only only2 r w r2 w2 =
    updated_same c ((v ∷ vs) ++ (u ∷ us)) (initial l p) both_cells (joined_memory (initial l) m log m2 log2 p) (n * 4)
    (updated_further c (u ∷ us) (v ∷ vs) (initial l p) (m p) both_cells (n * 4) r second) same
  where
    x : ℕ
    x = (joined_byte c n 0 u us v vs (initial l p) (m p) (m2 p) (omega arith) r r2).0

    there : number (m p) (n * 4) 4 ≡ Some (folded c (u ∷ us) x)
    there = (joined_byte c n 0 u us v vs (initial l p) (m p) (m2 p) (omega arith) r r2).1

    both_cells : Cells
    both_cells = again c (n * 4) (folded c (u ∷ us) x) (v ∷ vs) (m p)

    second : Updated c (v ∷ vs) (m p) both_cells (n * 4)
    second = again_is c (n * 4) (folded c (u ∷ us) x) (v ∷ vs) (m p) there

    number_is : (s : ℕ) → number (m p) (n * 4) 4 ≡ Some (folded c (u ∷ us) s) → folded c (u ∷ us) s ≡ folded c (u ∷ us) x
    number_is s h = same_Some _ _ (sym h ∙ there)

    same : (k : ℕ) → k < 4 → joined_memory (initial l) m log m2 log2 p (n * 4 + k) ≡ both_cells (n * 4 + k)
    same k b =
        let j = joined_byte c n k u us v vs (initial l p) (m p) (m2 p) b r r2 in
        let h : wrote log2 p (n * 4 + k) ≡ true = wrote_there log2 c p n k fit2 only2 b ∙ w2 in
        meets (initial l) m m2 log log2 p (n * 4 + k) h (wrote_there log c p n k fit only b ∙ w)
        ∙ ap (λ o. joined_update o (initial l p) (m p) (m2 p) (n * 4 + k)) (class_there log2 c p (n * 4 + k) (λ e i at. only2 e i k b at) h)
        ∙ j.2
        ∙ ap (λ z. Some (byte_of k (folded c (v ∷ vs) z))) (number_is j.0 j.1)
        ∙ sym (updated_byte c v vs (m p) both_cells (n * 4) (folded c (u ∷ us) x) k second there b)

pub operands_append : (vs us : List ℕ) → some_operand (vs ++ us) ≡ (some_operand vs || some_operand us)
operands_append [] us = refl
operands_append (v ∷ vs) us = refl

pub wrote_both : (log log2 : List Access) (p : Region) (byte : ℕ) (us vs : List ℕ) → wrote log p byte ≡ some_operand us → wrote log2 p byte ≡ some_operand vs
    → wrote (log2 ++ log) p byte ≡ some_operand (vs ++ us)
wrote_both log log2 p byte us vs h k = wrote_append log2 log p byte ∙ ap₂ (λ x y. x || y) k h ∙ sym (operands_append vs us)

pub fit_both : (log log2 : List Access) → AllFit log → AllFit log2 → AllFit (log2 ++ log)
fit_both log log2 a b x h = ⊎_elim (b x) (a x) (logged_append log2 log x h)

-- two joined are one
pub layer_join : (l : Launch) (log log2 : List Access) (m m2 : Memory) → Layer l log m → Layer l log2 m2 → Layer l (log2 ++ log) (joined_memory (initial l) m log m2 log2)
layer_join l log log2 m m2 a b =
    record {
      fit = fit_both log log2 a.fit b.fit;
      base = λ p byte h.
          let r = or_parts (wrote log2 p byte) (wrote log p byte) (sym (wrote_append log2 log p byte) ∙ h) in
          skips (initial l) m m2 log log2 p byte r.0 ∙ a.base p byte r.1;
      folds = λ c p n only.
          let only2 : OnlyUpdates c log2 p (n * 4) = λ x h. only x (logged_front log2 log x h) in
          let only1 : OnlyUpdates c log p (n * 4) = λ x h. only x (logged_back log2 log x h) in
          let f = b.folds c p n only2 in
          let r = a.folds c p n only1 in (
            f.0 ++ r.0,
            joined_word l c p n log log2 m m2 r.0 f.0 a.fit b.fit only1 only2 r.1 r.2 f.1 f.2,
            wrote_both log log2 p (n * 4) r.0 f.0 r.2 f.2,
          );
    }
