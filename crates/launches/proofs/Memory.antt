-- Operations on one of a program's spaces, seen in the memory that the spaces hold.
use Rattle.std.proofs.Common.{◌≡◌, ℕ, ◌+◌, ◌<◌, ◌≤◌, ◌⊎◌, Bool, ◌&&◌, ◌==◌, Option, None, Some, List, length, set, refl, sym, ap, ◌∙◌, subst, inl, inr, arith, eq-eqb, ne_eqb, zero, suc, [], ◌∷◌, map, replicate}
use Rattle.std.specs.Prelude.{slice_get, Result, Ok, Err, slice_index}
use Rattle.std.proofs.lemmas.List.{length-set}
use Rattle.std.proofs.lemmas.Option.{slice_get_within}
use Rattle.clmodel.specs.Cells.{Cells, cells_of, size_of, found, effect, lowest_unset}
use Rattle.clmodel.specs.Launch.{Launch, region_of, bytes_of}
use Rattle.clmodel.specs.Run.{Memory, with_cells}
use Rattle.clmodel.specs.declared.access.Object.{Object}
use Rattle.clmodel.specs.declared.access.Object.TheVariants as object
use Rattle.clmodel.specs.declared.access.Operation.{Operation}
use Rattle.clmodel.specs.declared.access.Operation.TheVariants.{Load, Store, Update, Fetch}
use Rattle.clmodel.specs.declared.access.Region.{Region}
use Rattle.clmodel.specs.declared.access.Region.TheVariants as region
use Rattle.clmodel.specs.declared.action.Answer.{Answer}
use Rattle.clmodel.proofs.Steps.{if_true, if_false, none_some, some_inj}
use Rattle.clmodel.proofs.CellLaws.{byte_count_some}
use Rattle.spaces.specs.declared.space.SpaceFault.{SpaceFault}
use Rattle.spaces.specs.declared.space.SpaceFault.TheVariants as space_fault
use Rattle.spaces.specs.Operations.{IsPerformed}
use Rattle.launches.specs.Objects.{SpacesHold, ObjectsHold, IsMoved, bytes_or, space_of}
use Rattle.launches.proofs.Lists.{get_set, none_set}

-- ---- the space of an object

pub size_some : (o : Operation) → 0 < size_of o
size_some (Load w) = byte_count_some w
size_some (Store w v) = byte_count_some w
size_some (Update c v) = omega arith
size_some (Fetch o v) = omega arith

-- a space that has a byte is there
there : {S : Type 0} (bytes : S → List (Option ℕ)) (xs : List S) (n : ℕ) → 0 < length (bytes_or bytes (slice_get xs n)) → n < length xs
there {S} bytes xs n h = go (slice_get xs n) refl h
  where
    go : (o : Option S) → slice_get xs n ≡ o → 0 < length (bytes_or bytes o) → n < length xs
    go None e p = absurd (omega (arith, p))
    go (Some x) e p = slice_get_within xs n x e

pub buffer_there :
    {G : Type 0} (bytes : G → List (Option ℕ)) (buffers : List G) (locals : List (List (Option ℕ))) (o : Object) (n first : ℕ) (operation : Operation) → o ≡ object.Buffer n
    → first + size_of operation ≤ length (space_of bytes buffers locals o) → n < length buffers
buffer_there bytes buffers locals o n first operation e h =
    let m = subst (λ z. first + size_of operation ≤ length (space_of bytes buffers locals z)) e h in
    there bytes buffers n (omega (arith, m, size_some operation))

pub local_there :
    {G : Type 0} (bytes : G → List (Option ℕ)) (buffers : List G) (locals : List (List (Option ℕ))) (o : Object) (n first : ℕ) (operation : Operation) → o ≡ object.Local n
    → first + size_of operation ≤ length (space_of bytes buffers locals o) → n < length locals
local_there bytes buffers locals o n first operation e h =
    let m = subst (λ z. first + size_of operation ≤ length (space_of bytes buffers locals z)) e h in
    there (λ cells. cells) locals n (omega (arith, m, size_some operation))

-- it has as many bytes as its region
sized_as : {S : Type 0} (bytes : S → List (Option ℕ)) (l : Launch) (count : ℕ) (at : ℕ → Region) (xs : List S) (m : Memory) (n : ℕ) → SpacesHold bytes l count at xs m → length (bytes_or bytes (slice_get xs n)) ≡ bytes_of l (at n)
sized_as {S} bytes l count at xs m n h = go (slice_get xs n) refl
  where
    go : (o : Option S) → slice_get xs n ≡ o → length (bytes_or bytes o) ≡ bytes_of l (at n)
    go None e = sym (h.none n e)
    go (Some x) e = h.sized n x e

pub space_sized :
    {G : Type 0} (bytes : G → List (Option ℕ)) (l : Launch) (group : ℕ) (buffers : List G) (locals : List (List (Option ℕ))) (m : Memory) (o : Object)
    → ObjectsHold bytes l group buffers locals m → length (space_of bytes buffers locals o) ≡ bytes_of l (region_of group o)
space_sized bytes l group buffers locals m (object.Buffer n) h = sized_as bytes l (length l.buffers) region.Buffer buffers m n h.0
space_sized bytes l group buffers locals m (object.Local n) h = sized_as (λ cells. cells) l (length l.local_sizes) (region.Local group) locals m n h.1

-- ---- one space changed

holds_set :
    {S : Type 0} (bytes : S → List (Option ℕ)) (l : Launch) (count : ℕ) (at : ℕ → Region) (xs : List S) (n : ℕ) (x y : S) (old new : Memory) → slice_get xs n ≡ Some x
    → length (bytes y) ≡ length (bytes x) → cells_of (bytes y) ≡ new (at n) → ((j : ℕ) → (j ≡ n → ⊥) → new (at j) ≡ old (at j)) → SpacesHold bytes l count at xs old
    → SpacesHold bytes l count at (set xs n y) new
holds_set {S} bytes l count at xs n x y old new e s c other h =
    record {
      many = length-set xs n y ∙ h.many;
      sized = λ j z q. sized j z (get_set xs n y j z q);
      none = λ j q. h.none j (none_set xs n y j q);
      cells = λ j z q. cells j z (get_set xs n y j z q);
    }
  where
    sized : (j : ℕ) (z : S) → ((j ≡ n) × (y ≡ z)) ⊎ ((j ≡ n → ⊥) × (slice_get xs j ≡ Some z)) → length (bytes z) ≡ bytes_of l (at j)
    sized j z (inl q) = ap (λ w. length (bytes w)) (sym q.1) ∙ s ∙ h.sized n x e ∙ ap (λ i. bytes_of l (at i)) (sym q.0)
    sized j z (inr q) = h.sized j z q.1

    cells : (j : ℕ) (z : S) → ((j ≡ n) × (y ≡ z)) ⊎ ((j ≡ n → ⊥) × (slice_get xs j ≡ Some z)) → cells_of (bytes z) ≡ new (at j)
    cells j z (inl q) = ap (λ w. cells_of (bytes w)) (sym q.1) ∙ c ∙ ap (λ i. new (at i)) (sym q.0)
    cells j z (inr q) = h.cells j z q.1 ∙ sym (other j q.0)

same_buffer : (m : Memory) (n : ℕ) (c : Cells) → with_cells m (region.Buffer n) c (region.Buffer n) ≡ c
same_buffer m n c = if_true (n == n) c (m (region.Buffer n)) (eq-eqb n n refl)

other_buffer : (m : Memory) (n : ℕ) (c : Cells) (j : ℕ) → (j ≡ n → ⊥) → with_cells m (region.Buffer n) c (region.Buffer j) ≡ m (region.Buffer j)
other_buffer m n c j ne = if_false (j == n) c (m (region.Buffer j)) (ne_eqb j n ne)

same_local : (m : Memory) (g n : ℕ) (c : Cells) → with_cells m (region.Local g n) c (region.Local g n) ≡ c
same_local m g n c = if_true ((g == g) && (n == n)) c (m (region.Local g n)) (ap (λ b. b && (n == n)) (eq-eqb g g refl) ∙ eq-eqb n n refl)

other_local : (m : Memory) (g n : ℕ) (c : Cells) (j : ℕ) → (j ≡ n → ⊥) → with_cells m (region.Local g n) c (region.Local g j) ≡ m (region.Local g j)
other_local m g n c j ne = if_false ((g == g) && (j == n)) c (m (region.Local g j)) (ap (λ b. b && (j == n)) (eq-eqb g g refl) ∙ ne_eqb j n ne)

-- where no memory is left nothing is changed
unwanted : (may_want : Bool) (old : List (Option ℕ)) (first : ℕ) (operation : Operation) (new : List (Option ℕ)) → IsPerformed may_want old first operation new (Err space_fault.OutOfMemory) → new ≡ old
unwanted may_want old first (Load w) new h = absurd h
unwanted may_want old first (Store w v) new h = h.1
unwanted may_want old first (Update c v) new h = h.1
unwanted may_want old first (Fetch o v) new h = h.1

in_buffer :
    {G : Type 0} (bytes : G → List (Option ℕ)) (l : Launch) (group : ℕ) (buffers : List G) (locals : List (List (Option ℕ))) (n : ℕ) (x y : G) (may_want : Bool)
    (first : ℕ) (operation : Operation) (result : Result Answer SpaceFault) → slice_get buffers n ≡ Some x → first + size_of operation ≤ length (bytes x)
    → IsPerformed may_want (bytes x) first operation (bytes y) result
    → IsMoved (ObjectsHold bytes l group buffers locals) (ObjectsHold bytes l group (set buffers n y) locals) (region.Buffer n) first operation result
in_buffer bytes l group buffers locals n x y may_want first operation (Ok answer) e b h = λ m held.
    let at = region.Buffer n in
    let c : cells_of (bytes x) ≡ m at = held.0.cells n x e in
    let new = effect operation h.0 (m at) first in (
      h.0,
      subst (λ z. found operation z first ≡ Some h.0) c h.1,
      h.2,
      (
        holds_set bytes l (length l.buffers) region.Buffer buffers n x y m (with_cells m at new) e h.3 (h.4 ∙ ap (λ z. effect operation h.0 z first) c ∙ sym (same_buffer m n new)) (other_buffer m n new) held.0,
        record {
          many = held.1.many;
          sized = held.1.sized;
          none = held.1.none;
          cells = held.1.cells;
        },
      ),
    )
in_buffer bytes l group buffers locals n x y may_want first operation (Err space_fault.Bounds) e b h = absurd (omega (arith, b, h.0))
in_buffer bytes l group buffers locals n x y may_want first operation (Err (space_fault.Unset byte)) e b h = λ m held.
    let c : cells_of (bytes x) ≡ m (region.Buffer n) = held.0.cells n x e in (
      h.0,
      subst (λ z. lowest_unset z first (size_of operation) ≡ Some byte) c h.1,
      (holds_set bytes l (length l.buffers) region.Buffer buffers n x y m m e (ap length h.2) (ap cells_of h.2 ∙ c) (λ j ne. refl) held.0, held.1),
    )
in_buffer bytes l group buffers locals n x y may_want first operation (Err space_fault.ReadOnly) e b h = h
in_buffer bytes l group buffers locals n x y may_want first operation (Err space_fault.OutOfMemory) e b h = λ m held.
    let same = unwanted may_want (bytes x) first operation (bytes y) h in
    (holds_set bytes l (length l.buffers) region.Buffer buffers n x y m m e (ap length same) (ap cells_of same ∙ held.0.cells n x e) (λ j ne. refl) held.0, held.1)

in_local :
    {G : Type 0} (bytes : G → List (Option ℕ)) (l : Launch) (group : ℕ) (buffers : List G) (locals : List (List (Option ℕ))) (n : ℕ) (x y : List (Option ℕ)) (may_want : Bool)
    (first : ℕ) (operation : Operation) (result : Result Answer SpaceFault) → slice_get locals n ≡ Some x → first + size_of operation ≤ length x
    → IsPerformed may_want x first operation y result
    → IsMoved (ObjectsHold bytes l group buffers locals) (ObjectsHold bytes l group buffers (set locals n y)) (region.Local group n) first operation result
in_local bytes l group buffers locals n x y may_want first operation (Ok answer) e b h = λ m held.
    let at = region.Local group n in
    let c : cells_of x ≡ m at = held.1.cells n x e in
    let new = effect operation h.0 (m at) first in (
      h.0,
      subst (λ z. found operation z first ≡ Some h.0) c h.1,
      h.2,
      (
        record {
          many = held.0.many;
          sized = held.0.sized;
          none = held.0.none;
          cells = held.0.cells;
        },
        holds_set (λ cells. cells) l (length l.local_sizes) (region.Local group) locals n x y m (with_cells m at new) e h.3 (h.4 ∙ ap (λ z. effect operation h.0 z first) c ∙ sym (same_local m group n new)) (other_local m group n new) held.1,
      ),
    )
in_local bytes l group buffers locals n x y may_want first operation (Err space_fault.Bounds) e b h = absurd (omega (arith, b, h.0))
in_local bytes l group buffers locals n x y may_want first operation (Err (space_fault.Unset byte)) e b h = λ m held.
    let c : cells_of x ≡ m (region.Local group n) = held.1.cells n x e in (
      h.0,
      subst (λ z. lowest_unset z first (size_of operation) ≡ Some byte) c h.1,
      (held.0, holds_set (λ cells. cells) l (length l.local_sizes) (region.Local group) locals n x y m m e (ap length h.2) (ap cells_of h.2 ∙ c) (λ j ne. refl) held.1),
    )
in_local bytes l group buffers locals n x y may_want first operation (Err space_fault.ReadOnly) e b h = h
in_local bytes l group buffers locals n x y may_want first operation (Err space_fault.OutOfMemory) e b h = λ m held.
    let same = unwanted may_want x first operation y h in
    (held.0, holds_set (λ cells. cells) l (length l.local_sizes) (region.Local group) locals n x y m m e (ap length same) (ap cells_of same ∙ held.1.cells n x e) (λ j ne. refl) held.1)

pub on_buffer :
    {G : Type 0} (bytes : G → List (Option ℕ)) (l : Launch) (group : ℕ) (buffers : List G) (locals : List (List (Option ℕ))) (n : ℕ) (x y : G) (may_want : Bool)
    (first : ℕ) (operation : Operation) (result : Result Answer SpaceFault) (o : Object) → o ≡ object.Buffer n → slice_get buffers n ≡ Some x
    → first + size_of operation ≤ length (space_of bytes buffers locals o) → IsPerformed may_want (bytes x) first operation (bytes y) result
    → IsMoved (ObjectsHold bytes l group buffers locals) (ObjectsHold bytes l group (set buffers n y) locals) (region_of group o) first operation result
on_buffer bytes l group buffers locals n x y may_want first operation result o is e b h =
    let m = subst (λ z. first + size_of operation ≤ length (space_of bytes buffers locals z)) is b in
    subst (λ z. IsMoved (ObjectsHold bytes l group buffers locals) (ObjectsHold bytes l group (set buffers n y) locals) (region_of group z) first operation result) (sym is)
    (in_buffer bytes l group buffers locals n x y may_want first operation result e (subst (λ z. first + size_of operation ≤ length (bytes_or bytes z)) e m) h)

pub on_local :
    {G : Type 0} (bytes : G → List (Option ℕ)) (l : Launch) (group : ℕ) (buffers : List G) (locals : List (List (Option ℕ))) (n : ℕ) (x y : List (Option ℕ)) (may_want : Bool)
    (first : ℕ) (operation : Operation) (result : Result Answer SpaceFault) (o : Object) → o ≡ object.Local n → slice_get locals n ≡ Some x
    → first + size_of operation ≤ length (space_of bytes buffers locals o) → IsPerformed may_want x first operation y result
    → IsMoved (ObjectsHold bytes l group buffers locals) (ObjectsHold bytes l group buffers (set locals n y)) (region_of group o) first operation result
on_local bytes l group buffers locals n x y may_want first operation result o is e b h =
    let m = subst (λ z. first + size_of operation ≤ length (space_of bytes buffers locals z)) is b in
    subst (λ z. IsMoved (ObjectsHold bytes l group buffers locals) (ObjectsHold bytes l group buffers (set locals n y)) (region_of group z) first operation result) (sym is)
    (in_local bytes l group buffers locals n x y may_want first operation result e (subst (λ z. first + size_of operation ≤ length (bytes_or (λ cells. cells) z)) e m) h)

pub local_at : (sizes : List ℕ) (n : ℕ) (x : List (Option ℕ)) → slice_get (map (λ size. replicate size None) sizes) n ≡ Some x → x ≡ replicate (slice_index sizes n) None
local_at [] n x e = absurd (none_some x e)
local_at (s ∷ sizes) zero x e = sym (some_inj (replicate s None) x e)
local_at (s ∷ sizes) (suc n) x e = local_at sizes n x e

pub local_past : (sizes : List ℕ) (n : ℕ) → ◌≡◌ {A = Option (List (Option ℕ))} (slice_get (map (λ size. replicate size None) sizes) n) None → slice_index sizes n ≡ 0
local_past [] n e = refl
local_past (s ∷ sizes) zero e = absurd (none_some (replicate s None) (sym e))
local_past (s ∷ sizes) (suc n) e = local_past sizes n e
