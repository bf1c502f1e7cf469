-- Accesses that share a byte touch one word.
use Rattle.std.proofs.Common.{◌≡◌, ℕ, ◌+◌, ◌/◌, ◌%◌, ◌<◌, ◌≤◌, nat_le, Bool, true, false, ◌&&◌, ◌==◌, if◌then◌else◌, ◌⊎◌, inl, inr, refl, sym, ap, ap₂, ◌∙◌, subst, arith}
use Rattle.std.specs.Bool.{beq}
use Rattle.std.proofs.lemmas.Bool.{and_parts, eqb-false, eqb-true, false≢true, leb-true}
use Rattle.clmodel.specs.Cells.{byte_count, covers}
use Rattle.clmodel.specs.Launch.{same_region, share}
use Rattle.clmodel.specs.declared.access.Access.{Access}
use Rattle.clmodel.specs.declared.access.Region.{Region}
use Rattle.clmodel.specs.declared.access.Region.TheVariants as region
use Rattle.clmodel.specs.declared.access.Width.{Width}
use Rattle.clmodel.specs.declared.access.Width.TheVariants as width
use Rattle.clmodel.proofs.CellLaws.{covers_parts}
use Rattle.clmodel.proofs.Steps.{decided}
use Rattle.race_filter.specs.Sorts.{is_of_byte}
use Rattle.race_filter.specs.Words.{is_on_two_words, first_word, last_word, part_of, same_part}
use Rattle.race_filter.specs.declared.part.Part.{Part}

-- each byte of an access is in its first word or in its last one
pub at_ends : (x : Access) (byte : ℕ) → is_on_two_words x ≡ true → covers x.first (byte_count x.width) byte ≡ true → (byte / 4 ≡ first_word x) ⊎ (byte / 4 ≡ last_word x)
at_ends x byte own h = go (nat_le (x.first % 4 + byte_count x.width) 4) refl
  where
    two : x.first % 4 + byte_count x.width ≤ 8
    two = leb-true (x.first % 4 + byte_count x.width) 8 own

    inside : (x.first ≤ byte) × (byte < x.first + byte_count x.width)
    inside = covers_parts x.first (byte_count x.width) byte h

    go : (b : Bool) → nat_le (x.first % 4 + byte_count x.width) 4 ≡ b → (byte / 4 ≡ first_word x) ⊎ (byte / 4 ≡ last_word x)
    go true e = let one = leb-true (x.first % 4 + byte_count x.width) 4 e in inl (omega (arith, one, inside.0, inside.1))
    go false e =
        decided (byte / 4 == first_word x) (λ t. inl (eqb-true (byte / 4) (first_word x) t))
        (λ f.
        let other = eqb-false (byte / 4) (first_word x) f in
        let next : byte / 4 ≡ first_word x + 1 = omega (arith, two, inside.0, inside.1, other) in
        inr (next ∙ sym (ap (λ (b : Bool). if b then first_word x else first_word x + 1) e)))

-- accesses that share a byte are in one object, and both cover it
pub shared : (y x : Access) (byte : ℕ) → share y x byte ≡ true → (same_region y.region x.region ≡ true) × (covers y.first (byte_count y.width) byte ≡ true) × (covers x.first (byte_count x.width) byte ≡ true)
shared y x byte h =
    let r : ((same_region y.region x.region && covers y.first (byte_count y.width) byte) ≡ true) × (covers x.first (byte_count x.width) byte ≡ true) = and_parts _ _ h in
    let s : (same_region y.region x.region ≡ true) × (covers y.first (byte_count y.width) byte ≡ true) = and_parts _ _ r.0 in
    (s.0, s.1, r.1)

-- a part of an object, by any name of the object
pub one_region : (a b : Region) (is_byte : Bool) (place : ℕ) → same_region a b ≡ true → part_of a is_byte place ≡ part_of b is_byte place
one_region (region.Buffer a) (region.Buffer b) is_byte place h =
    ap (λ (n : ℕ). record { is_local = false; group = 0; number = n; is_byte = is_byte; place = place }) (eqb-true a b h)
one_region (region.Buffer a) (region.Local h b) is_byte place r = absurd (false≢true r)
one_region (region.Local g a) (region.Buffer b) is_byte place r = absurd (false≢true r)
one_region (region.Local g a) (region.Local h b) is_byte place r =
    let s : ((g == h) ≡ true) × ((a == b) ≡ true) = and_parts (g == h) (a == b) r in
    ap₂ (λ (k n : ℕ). record { is_local = true; group = k; number = n; is_byte = is_byte; place = place }) (eqb-true g h s.0) (eqb-true a b s.1)

same_flag : (a b : Bool) → beq a b ≡ true → a ≡ b
same_flag true true h = refl
same_flag true false h = absurd (false≢true h)
same_flag false true h = absurd (false≢true h)
same_flag false false h = refl

pub one_part : (a b : Part) → same_part a b ≡ true → a ≡ b
one_part a b h =
    let r : (beq a.is_local b.is_local ≡ true) × (((a.group == b.group) && ((a.number == b.number) && (beq a.is_byte b.is_byte && (a.place == b.place)))) ≡ true) = and_parts _ _ h in
    let s : ((a.group == b.group) ≡ true) × (((a.number == b.number) && (beq a.is_byte b.is_byte && (a.place == b.place))) ≡ true) = and_parts _ _ r.1 in
    let t : ((a.number == b.number) ≡ true) × ((beq a.is_byte b.is_byte && (a.place == b.place)) ≡ true) = and_parts _ _ s.1 in
    let u : (beq a.is_byte b.is_byte ≡ true) × ((a.place == b.place) ≡ true) = and_parts _ _ t.1 in
    ap₂ (λ (l : Bool) (g : ℕ). record { is_local = l; group = g; number = a.number; is_byte = a.is_byte; place = a.place }) (same_flag a.is_local b.is_local r.0) (eqb-true a.group b.group s.0)
    ∙ ap₂ (λ (n : ℕ) (y : Bool). record { is_local = b.is_local; group = b.group; number = n; is_byte = y; place = a.place }) (eqb-true a.number b.number t.0) (same_flag a.is_byte b.is_byte u.0)
    ∙ ap (λ (p : ℕ). record { is_local = b.is_local; group = b.group; number = b.number; is_byte = b.is_byte; place = p }) (eqb-true a.place b.place u.1)

-- the one byte of an access
pub only_byte : (x : Access) (byte : ℕ) → is_of_byte x.width ≡ true → covers x.first (byte_count x.width) byte ≡ true → byte ≡ x.first
only_byte x byte one h = go x.width one refl
  where
    inside : (x.first ≤ byte) × (byte < x.first + byte_count x.width)
    inside = covers_parts x.first (byte_count x.width) byte h

    go : (w : Width) → is_of_byte w ≡ true → x.width ≡ w → byte ≡ x.first
    go width.One o e =
        let upto : byte < x.first + 1 = subst (λ (v : Width). byte < x.first + byte_count v) e inside.1 in
        omega (arith, inside.0, upto)
    go width.Two o e = absurd (false≢true o)
    go width.Four o e = absurd (false≢true o)
    go width.Eight o e = absurd (false≢true o)
