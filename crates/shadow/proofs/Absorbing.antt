-- What accesses that tell nothing new leave, and what meets them.
use Rattle.std.proofs.Common.{◌≡◌, ℕ, ◌==◌, Bool, true, false, not, if◌then◌else◌, List, [], ◌∷◌, refl, sym, ap, ◌∙◌, subst, inl, inr, eqb-true}
use Rattle.std.proofs.lemmas.Bool.{and_parts, false≢true}
use Rattle.clmodel.specs.Cells.{byte_count, covers}
use Rattle.clmodel.specs.Launch.{same_region}
use Rattle.clmodel.specs.declared.access.Access.{Access}
use Rattle.clmodel.specs.declared.access.Region.TheVariants as region
use Rattle.clmodel.proofs.Swaps.{same_region-true}
use Rattle.joining.specs.Memory.{at_byte}
use Rattle.access_list.specs.Kinds.{kind_number}
use Rattle.shadow.specs.Seen.{one_sort, seen_with, is_new, mark_of, seen}
use Rattle.shadow.specs.Lasting.{AbsorbedAt, Absorbed, StandsFor}
use Rattle.shadow.specs.declared.seen.Mark.{Mark}
use Rattle.shadow.specs.declared.seen.Seen.{Seen}
use Rattle.shadow.specs.declared.seen.Seen.TheVariants.{Untouched, Touched, Mixed}
use Rattle.shadow.proofs.Meetings.{sort_from}
use Rattle.access_list.specs.declared.log.Entry.{Entry}

-- ---- one mark more

-- what is kept of a byte stays with this mark
abbrev pub Takes : Seen → Mark → Type 0
Takes s m = seen_with s m ≡ s

pub not_new : (s : Seen) (m : Mark) → is_new s m ≡ false → Takes s m
not_new Untouched m h = absurd (false≢true (sym h))
not_new (Touched a) m h = go (one_sort a m) h
  where
    go : (b : Bool) → not b ≡ false → (if b then Touched a else Mixed a m) ≡ Touched a
    go true e = refl
    go false e = absurd (false≢true (sym e))
not_new (Mixed a b) m h = refl

sort_parts : (a b : Mark) → one_sort a b ≡ true → (kind_number a.kind ≡ kind_number b.kind) × (a.left ≡ b.left)
sort_parts a b e =
    let p = and_parts (kind_number a.kind == kind_number b.kind) (a.left == b.left) e in
    (eqb-true (kind_number a.kind) (kind_number b.kind) p.0, eqb-true a.left b.left p.1)

pub sort_self : (a : Mark) → one_sort a a ≡ true
sort_self a = sort_from a a refl refl

-- two of one sort with a third
pub sort_chain : (a b c : Mark) → one_sort a b ≡ true → one_sort a c ≡ true → one_sort b c ≡ true
sort_chain a b c e f = let p = sort_parts a b e in let q = sort_parts a c f in sort_from b c (sym p.0 ∙ q.0) (sym p.1 ∙ q.1)

pub sort_back : (a b : Mark) → one_sort a b ≡ true → one_sort b a ≡ true
sort_back a b e = let p = sort_parts a b e in sort_from b a (sym p.0) (sym p.1)

takes_sort : (a m : Mark) → one_sort a m ≡ true → Takes (Touched a) m
takes_sort a m e = ap (λ (b : Bool). if b then Touched a else Mixed a m) e

-- a byte with one mark takes those of its sort
pub sort_taken : (a m : Mark) → Takes (Touched a) m → one_sort a m ≡ true
sort_taken a m h = go (one_sort a m) h
  where
    go : (b : Bool) → (if b then Touched a else Mixed a m) ≡ Touched a → b ≡ true
    go true e = refl
    go false e = absurd (cc)

-- a byte that takes a mark takes those of its sort
pub takes_like : (s : Seen) (a m : Mark) → one_sort a m ≡ true → Takes s a → Takes s m
takes_like Untouched a m e h = absurd (cc)
takes_like (Touched z) a m e h = takes_sort z m (sort_chain a z m (sort_back z a (sort_taken z a h)) e)
takes_like (Mixed z w) a m e h = refl

-- what is new to a byte changes what is kept of it
pub new_changes : (s : Seen) (m : Mark) → is_new s m ≡ true → Takes s m → ⊥
new_changes Untouched m h t = cc
new_changes (Touched a) m h t = false≢true (sym (ap not (sort_taken a m t)) ∙ h)
new_changes (Mixed a b) m h t = false≢true h

-- what a byte takes it takes with one mark more
pub takes_more : (s : Seen) (e m : Mark) → Takes s m → Takes (seen_with s e) m
takes_more Untouched e m h = absurd (cc)
takes_more (Touched a) e m h = go (one_sort a e)
  where
    go : (b : Bool) → Takes (if b then Touched a else Mixed a e) m
    go true = h
    go false = refl
takes_more (Mixed a b) e m h = refl

-- a byte that is marked takes the marks of that sort
pub takes_marked : (s : Seen) (e m : Mark) → one_sort e m ≡ true → Takes (seen_with s e) m
takes_marked Untouched e m h = takes_sort e m h
takes_marked (Touched a) e m h = go (one_sort a e) refl
  where
    go : (b : Bool) → one_sort a e ≡ b → Takes (if b then Touched a else Mixed a e) m
    go true k = takes_sort a m (sort_chain e a m (sort_back a e k) h)
    go false k = refl
takes_marked (Mixed a b) e m h = refl

-- a byte that takes one sort takes all with a mark of another
pub takes_apart : (s : Seen) (a e m : Mark) → Takes s a → one_sort a e ≡ false → Takes (seen_with s e) m
takes_apart Untouched a e m h apart = absurd (cc)
takes_apart (Touched z) a e m h apart = go (one_sort z e) refl
  where
    go : (b : Bool) → one_sort z e ≡ b → Takes (if b then Touched z else Mixed z e) m
    go true k = absurd (false≢true (sym apart ∙ sort_chain z a e (sort_taken z a h) k))
    go false k = refl
takes_apart (Mixed z w) a e m h apart = refl

-- where a byte takes what another does, it does so with one mark more
takes_with : (s t : Seen) (e m : Mark) → ((n : Mark) → Takes s n → Takes t n) → Takes (seen_with s e) m → Takes (seen_with t e) m
takes_with Untouched t e m more h = takes_marked t e m (sort_taken e m h)
takes_with (Touched a) t e m more h = go (one_sort a e) refl h
  where
    go : (b : Bool) → one_sort a e ≡ b → Takes (if b then Touched a else Mixed a e) m → Takes (seen_with t e) m
    go true k j = takes_more t e m (more m j)
    go false k j = takes_apart t a e m (more a (takes_sort a a (sort_self a))) k
takes_with (Mixed a b) t e m more h = takes_more t e m (more m refl)

-- ---- accesses that tell nothing new

-- an access is of the buffer at whose byte it is
pub here_at : (n byte : ℕ) (x : Access) → at_byte (region.Buffer n) byte x ≡ true → x.region ≡ region.Buffer n
here_at n byte x h =
    sym (same_region-true (region.Buffer n) x.region (and_parts (same_region (region.Buffer n) x.region) (covers x.first (byte_count x.width) byte) h).0)

pub absorbed_takes : (earlier : List Access) (x : Access) (n byte : ℕ) → Absorbed earlier x → at_byte (region.Buffer n) byte x ≡ true → Takes (seen (region.Buffer n) byte earlier) (mark_of x byte)
absorbed_takes earlier x n byte h at = (subst (λ r. AbsorbedAt r earlier x) (here_at n byte x at) h) byte at

-- the accesses of entries, the newest first, before older ones
abbrev pub onto : List Entry → List Access → List Access
onto [] log = log
onto (x ∷ xs) log = onto xs (x.access ∷ log)

-- what a log's bytes take, those of another take too
abbrev pub TakesAll : List Access → List Access → Type 0
TakesAll earlier log = (n byte : ℕ) (m : Mark) → Takes (seen (region.Buffer n) byte earlier) m → Takes (seen (region.Buffer n) byte log) m

takes_all_more : (earlier log : List Access) (x : Access) → TakesAll earlier log → TakesAll (x ∷ earlier) (x ∷ log)
takes_all_more earlier log x h n byte m = go (at_byte (region.Buffer n) byte x)
  where
    s : Seen
    s = seen (region.Buffer n) byte earlier

    t : Seen
    t = seen (region.Buffer n) byte log

    go : (b : Bool) → Takes (if b then seen_with s (mark_of x byte) else s) m → Takes (if b then seen_with t (mark_of x byte) else t) m
    go true k = takes_with s t (mark_of x byte) m (h n byte) k
    go false k = h n byte m k

-- what is kept of the bytes of buffers is one
abbrev pub SameSeen : List Access → List Access → Type 0
SameSeen log other = (n byte : ℕ) → seen (region.Buffer n) byte log ≡ seen (region.Buffer n) byte other

-- what is kept stays with an access that tells nothing new
pub absorbed_same : (earlier log : List Access) (x : Access) → TakesAll earlier log → Absorbed earlier x → SameSeen log (x ∷ log)
absorbed_same earlier log x all h n byte = go (at_byte (region.Buffer n) byte x) refl
  where
    s : Seen
    s = seen (region.Buffer n) byte log

    go : (b : Bool) → at_byte (region.Buffer n) byte x ≡ b → s ≡ (if b then seen_with s (mark_of x byte) else s)
    go true e = sym (all n byte (mark_of x byte) (absorbed_takes earlier x n byte h e))
    go false e = refl

more_same : (log other : List Access) (x : Access) → SameSeen log other → SameSeen (x ∷ log) (x ∷ other)
more_same log other x h n byte = ap (λ s. if at_byte (region.Buffer n) byte x then seen_with s (mark_of x byte) else s) (h n byte)

-- of a short list that stands for a whole one, the same is kept
pub same_onto : (earlier : List Access) (short whole : List Entry) (log other : List Access) → StandsFor earlier short whole → TakesAll earlier other → SameSeen log other
    → SameSeen (onto short log) (onto whole other)
same_onto earlier short [] log other h all same = subst (λ z. SameSeen (onto z log) other) (sym h) same
same_onto earlier short (x ∷ whole) log other (inl h) all same =
    same_onto (x.access ∷ earlier) short whole log (x.access ∷ other) h.1 (takes_all_more earlier other x.access all)
    (λ n byte. same n byte ∙ absorbed_same earlier other x.access all h.0 n byte)
same_onto earlier short (x ∷ whole) log other (inr (rest, e, h)) all same =
    subst (λ z. SameSeen (onto z log) (onto whole (x.access ∷ other))) (sym e)
    (same_onto (x.access ∷ earlier) rest whole (x.access ∷ log) (x.access ∷ other) h (takes_all_more earlier other x.access all) (more_same log other x.access same))
