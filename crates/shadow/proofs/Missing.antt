-- An access that tells nothing new is met only where an earlier one of its group is.
use Rattle.std.proofs.Common.{◌≡◌, ℕ, zero, suc, ◌+◌, ◌<◌, ◌≤◌, Bool, true, false, ◌⊎◌, if◌then◌else◌, Option, None, List, [], ◌∷◌, refl, sym, ap, ◌∙◌, subst, inl, inr, arith, eq-eqb}
use Rattle.std.specs.Option.{option_map}
use Rattle.std.proofs.lemmas.Bool.{and_parts, and_from, cases_eq, false≢true}
use Rattle.clmodel.specs.Cells.{byte_count, covers}
use Rattle.clmodel.specs.Launch.{same_region, clash}
use Rattle.clmodel.specs.Run.{or_else}
use Rattle.clmodel.specs.declared.access.Access.{Access}
use Rattle.clmodel.specs.declared.access.Clash.{Clash}
use Rattle.clmodel.specs.declared.access.Region.{Region}
use Rattle.clmodel.specs.declared.access.Region.TheVariants as region
use Rattle.clmodel.proofs.Steps.{or_else_none, map_none}
use Rattle.clmodel.proofs.Swaps.{same_region-true}
use Rattle.clmodel.proofs.CellLaws.{covers_parts, covers_from}
use Rattle.clmodel.proofs.Conflicts.{clash_sym}
use Rattle.joining.specs.Memory.{at_byte}
use Rattle.shadow.specs.Seen.{one_sort, seen_with, mark_of, seen, mark_clash, met, against, against_from, meeting, met_at, OfOthers}
use Rattle.shadow.specs.Lasting.{Absorbed}
use Rattle.shadow.specs.declared.seen.Mark.{Mark}
use Rattle.shadow.specs.declared.seen.Seen.{Seen}
use Rattle.shadow.specs.declared.seen.Seen.TheVariants.{Untouched, Touched, Mixed}
use Rattle.shadow.proofs.Absorbing.{Takes, sort_taken, absorbed_takes}
use Rattle.shadow.proofs.Meetings.{Plain, Apart, SameStore, passes, store_passes, kind_passes, sort_passes, passes_both, seen_apart, met_whole}

-- ---- marks

mark_back : (u : Bool) (a z : Mark) → mark_clash u a z ≡ None → mark_clash u z a ≡ None
mark_back u a z h = go (passes u a z h)
  where
    go : SameStore u a z ⊎ (clash a.kind z.kind ≡ None) → mark_clash u z a ≡ None
    go (inl s) = store_passes u z a (s.0, s.2, s.1, sym s.3)
    go (inr c) = kind_passes u z a (clash_sym a.kind z.kind c)

or_both : {A : Type 0} (o p : Option A) → o ≡ None → p ≡ None → or_else o p ≡ None
or_both o p e f = ap (λ x. or_else x p) e ∙ f

-- a mark that is met by nothing that is kept of a byte
abbrev pub Passes : Bool → ℕ → Seen → Mark → Type 0
Passes u byte kept m = against u m byte kept ≡ None

-- no mark of a byte is met
abbrev pub AllPass : Bool → ℕ → Seen → Seen → Type 0
AllPass u byte kept Untouched = Unit {0}
AllPass u byte kept (Touched a) = Passes u byte kept a
AllPass u byte kept (Mixed a b) = Passes u byte kept a × Passes u byte kept b

clash_of : (u : Bool) (m : Mark) (byte : ℕ) (z : Mark) → met u m byte z ≡ None → mark_clash u z m ≡ None
clash_of u m byte z h = map_none (λ c. record { clash = c; mark = z; byte = byte }) (mark_clash u z m) h

met_of : (u : Bool) (m : Mark) (byte : ℕ) (z : Mark) → mark_clash u z m ≡ None → met u m byte z ≡ None
met_of u m byte z h = ap (option_map (λ (c : Clash). record { clash = c; mark = z; byte = byte })) h

-- a mark of a sort passes what another of it does
sort_met : (u : Bool) (a m : Mark) (byte : ℕ) (z : Mark) → one_sort a m ≡ true → met u a byte z ≡ None → met u m byte z ≡ None
sort_met u a m byte z e h = met_of u m byte z (mark_back u m z (sort_passes u a m z e (mark_back u z a (clash_of u a byte z h))))

sort_pass : (u : Bool) (a m : Mark) (byte : ℕ) (kept : Seen) → one_sort a m ≡ true → Passes u byte kept a → Passes u byte kept m
sort_pass u a m byte Untouched e h = refl
sort_pass u a m byte (Touched z) e h = sort_met u a m byte z e h
sort_pass u a m byte (Mixed z w) e h =
    let p = or_else_none (met u a byte z) (met u a byte w) h in or_both (met u m byte z) (met u m byte w) (sort_met u a m byte z e p.0) (sort_met u a m byte w e p.1)

-- nothing that is kept passes two sorts
two_sorts : (u : Bool) (a b : Mark) (byte : ℕ) (z : Mark) → Plain a → Plain b → one_sort a b ≡ false → met u a byte z ≡ None → met u b byte z ≡ None → ⊥
two_sorts u a b byte z plain_a plain_b apart h i =
    false≢true (sym apart ∙ passes_both u a b z plain_a plain_b (mark_back u z a (clash_of u a byte z h)) (mark_back u z b (clash_of u b byte z i)))

apart_pass : (u : Bool) (a b m : Mark) (byte : ℕ) (kept : Seen) → Plain a → Plain b → one_sort a b ≡ false → Passes u byte kept a → Passes u byte kept b → Passes u byte kept m
apart_pass u a b m byte Untouched plain_a plain_b apart h i = refl
apart_pass u a b m byte (Touched z) plain_a plain_b apart h i = absurd (two_sorts u a b byte z plain_a plain_b apart h i)
apart_pass u a b m byte (Mixed z w) plain_a plain_b apart h i =
    absurd (two_sorts u a b byte z plain_a plain_b apart (or_else_none (met u a byte z) (met u a byte w) h).0 (or_else_none (met u b byte z) (met u b byte w) i).0)

-- a mark that changes nothing passes where all that are there do
taken_pass : (u : Bool) (s : Seen) (m : Mark) (byte : ℕ) (kept : Seen) → Apart s → AllPass u byte kept s → Takes s m → Passes u byte kept m
taken_pass u Untouched m byte kept apart h e = absurd (cc)
taken_pass u (Touched a) m byte kept apart h e = sort_pass u a m byte kept (sort_taken a m e) h
taken_pass u (Mixed a b) m byte kept apart h e = apart_pass u a b m byte kept apart.0 apart.1 apart.2 h.0 h.1

all_with : (u : Bool) (s : Seen) (m : Mark) (byte : ℕ) (kept : Seen) → AllPass u byte kept s → Passes u byte kept m → AllPass u byte kept (seen_with s m)
all_with u Untouched m byte kept h p = p
all_with u (Touched a) m byte kept h p = go (one_sort a m)
  where
    go : (b : Bool) → AllPass u byte kept (if b then Touched a else Mixed a m)
    go true = h
    go false = (h, p)
all_with u (Mixed a b) m byte kept h p = h

-- ---- accesses

-- an access that meets none of these
abbrev pub MeetsNone : Bool → List Access → Access → Type 0
MeetsNone u kept x = met_at u x.region x kept ≡ None

-- no mark of a group's accesses is met by those of others
abbrev pub NoneMet : Bool → List Access → List Access → Type 0
NoneMet u kept earlier = (n byte : ℕ) → AllPass u byte (seen (region.Buffer n) byte kept) (seen (region.Buffer n) byte earlier)

pub none_yet : (u : Bool) (kept : List Access) → NoneMet u kept []
none_yet u kept n byte = tt

-- each byte of an access passes
each_byte : (u : Bool) (x : Access) (cells : ℕ → Seen) (first count : ℕ) → against_from u x cells first count ≡ None → (byte : ℕ) → first ≤ byte → byte < first + count
    → against u (mark_of x byte) byte (cells byte) ≡ None
each_byte u x cells first zero h byte low high = absurd (omega (arith, low, high))
each_byte u x cells first (suc count) h byte low high = go (λ l. each_byte u x cells (suc first) count parts.1 byte l (omega (arith, high))) (cases_eq first byte)
  where
    parts : (against u (mark_of x first) first (cells first) ≡ None) × (against_from u x cells (suc first) count ≡ None)
    parts = or_else_none (against u (mark_of x first) first (cells first)) (against_from u x cells (suc first) count) h

    go : (suc first ≤ byte → against u (mark_of x byte) byte (cells byte) ≡ None) → (first ≡ byte) ⊎ (first ≡ byte → ⊥) → against u (mark_of x byte) byte (cells byte) ≡ None
    go later (inl e) = subst (λ b. against u (mark_of x b) b (cells b) ≡ None) e parts.0
    go later (inr ne) = later (omega (arith, low, ne))

all_bytes : (u : Bool) (x : Access) (cells : ℕ → Seen) (first count : ℕ) → ((byte : ℕ) → first ≤ byte → byte < first + count → against u (mark_of x byte) byte (cells byte) ≡ None)
    → against_from u x cells first count ≡ None
all_bytes u x cells first zero h = refl
all_bytes u x cells first (suc count) h =
    or_both (against u (mark_of x first) first (cells first)) (against_from u x cells (suc first) count) (h first (omega arith) (omega arith))
    (all_bytes u x cells (suc first) count (λ byte low high. h byte (omega (arith, low)) (omega (arith, high))))

-- an access of a buffer meets none where each of its bytes passes, and only there
meets_bytes : (u : Bool) (x : Access) (kept : List Access) → OfOthers x.item kept → meeting u x kept ≡ None → (byte : ℕ) → covers x.first (byte_count x.width) byte ≡ true
    → Passes u byte (seen x.region byte kept) (mark_of x byte)
meets_bytes u x kept others h byte c =
    let p = covers_parts x.first (byte_count x.width) byte c in
    each_byte u x (λ b. seen x.region b kept) x.first (byte_count x.width)
    (met_whole u x kept (λ b. seen x.region b kept) (byte_count x.width) others (λ b. refl) refl ∙ h) byte p.0 p.1

bytes_meet : (u : Bool) (x : Access) (kept : List Access) → OfOthers x.item kept
    → ((byte : ℕ) → x.first ≤ byte → byte < x.first + byte_count x.width → Passes u byte (seen x.region byte kept) (mark_of x byte)) → meeting u x kept ≡ None
bytes_meet u x kept others h =
    sym (met_whole u x kept (λ b. seen x.region b kept) (byte_count x.width) others (λ b. refl) refl) ∙ all_bytes u x (λ b. seen x.region b kept) x.first (byte_count x.width) h

at_from : (x : Access) (n byte : ℕ) → x.region ≡ region.Buffer n → x.first ≤ byte → byte < x.first + byte_count x.width → at_byte (region.Buffer n) byte x ≡ true
at_from x n byte e low high =
    and_from (same_region (region.Buffer n) x.region) (covers x.first (byte_count x.width) byte)
    (ap (same_region (region.Buffer n)) e ∙ eq-eqb n n refl) (covers_from x.first (byte_count x.width) byte low high)

-- an access that tells nothing new meets none where none of the earlier ones does
pub absorbed_misses : (u : Bool) (kept earlier : List Access) (x : Access) → OfOthers x.item kept → NoneMet u kept earlier → Absorbed earlier x → MeetsNone u kept x
absorbed_misses u kept earlier x others none h = go x.region refl
  where
    go : (r : Region) → x.region ≡ r → met_at u r x kept ≡ None
    go (region.Local group number) e = refl
    go (region.Buffer n) e = bytes_meet u x kept others (λ byte low high.
        subst (λ r. Passes u byte (seen r byte kept) (mark_of x byte)) (sym e)
        (taken_pass u (seen (region.Buffer n) byte earlier) (mark_of x byte) byte (seen (region.Buffer n) byte kept) (seen_apart (region.Buffer n) byte earlier) (none n byte)
        (absorbed_takes earlier x n byte h (at_from x n byte e low high))))

-- the same with one access more that meets none
pub none_more : (u : Bool) (kept earlier : List Access) (x : Access) → OfOthers x.item kept → NoneMet u kept earlier → MeetsNone u kept x → NoneMet u kept (x ∷ earlier)
none_more u kept earlier x others none h n byte = go (at_byte (region.Buffer n) byte x) refl
  where
    at : Seen
    at = seen (region.Buffer n) byte kept

    old : Seen
    old = seen (region.Buffer n) byte earlier

    here : at_byte (region.Buffer n) byte x ≡ true → Passes u byte at (mark_of x byte)
    here e =
        let p = and_parts (same_region (region.Buffer n) x.region) (covers x.first (byte_count x.width) byte) e in
        let is : region.Buffer n ≡ x.region = same_region-true (region.Buffer n) x.region p.0 in
        subst (λ r. Passes u byte (seen r byte kept) (mark_of x byte)) (sym is)
        (meets_bytes u x kept others (subst (λ r. met_at u r x kept ≡ None) (sym is) h) byte p.1)

    go : (b : Bool) → at_byte (region.Buffer n) byte x ≡ b → AllPass u byte at (if b then seen_with old (mark_of x byte) else old)
    go true e = all_with u old (mark_of x byte) byte at (none n byte) (here e)
    go false e = none n byte
