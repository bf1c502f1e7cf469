-- Which accesses conflict, and searches for the first that does.
use Rattle.std.proofs.Common.{◌≡◌, ℕ, zero, suc, ◌+◌, ◌-◌, ◌<◌, ◌≤◌, ◌⊎◌, Bool, true, false, ◌&&◌, if◌then◌else◌, Option, None, Some, List, [], ◌∷◌, length, drop, get_or, refl, sym, ap, ◌∙◌, subst, inl, inr, arith}
use Rattle.std.specs.Prelude.{is_some}
use Rattle.std.specs.Option.{option_map}
use Rattle.std.proofs.lemmas.Bool.{and_parts, false≢true, and_left, and_right}
use Rattle.clmodel.specs.Cells.{byte_count, covers}
use Rattle.clmodel.specs.Launch.{unordered, same_region, share, clash, same_store, clash_at, conflict_between}
use Rattle.clmodel.specs.Run.{or_else}
use Rattle.clmodel.specs.declared.access.Access.{Access}
use Rattle.clmodel.specs.declared.access.Rule.{Rule}
use Rattle.clmodel.proofs.CellLaws.{covers_parts}
use Rattle.clmodel.proofs.Steps.{decided}
use Rattle.access_list.specs.Log.{hit_between, hit_on, hit_from, hit, IsThere}
use Rattle.access_list.specs.declared.log.Entry.{Entry}
use Rattle.access_list.specs.declared.log.Hit.{Hit}

-- ---- accesses that don't conflict

unless_both : (g : Rule) (x y : Access) (byte : ℕ) → (unordered g x y && share x y byte) ≡ false → conflict_between g x y byte ≡ None
unfolding conflict_between
unless_both g x y byte h = ap (λ z. if z then clash_at g x y byte else None) h

pub ordered : (g : Rule) (x y : Access) (byte : ℕ) → unordered g x y ≡ false → conflict_between g x y byte ≡ None
ordered g x y byte h = unless_both g x y byte (and_left (unordered g x y) (share x y byte) h)

pub not_shared : (g : Rule) (x y : Access) (byte : ℕ) → share x y byte ≡ false → conflict_between g x y byte ≡ None
not_shared g x y byte h = unless_both g x y byte (and_right (unordered g x y) (share x y byte) h)

pub other_region : (g : Rule) (x y : Access) (byte : ℕ) → same_region x.region y.region ≡ false → conflict_between g x y byte ≡ None
other_region g x y byte h =
    not_shared g x y byte
    (and_left (same_region x.region y.region && covers x.first (byte_count x.width) byte) (covers y.first (byte_count y.width) byte)
    (and_left (same_region x.region y.region) (covers x.first (byte_count x.width) byte) h))

pub apart : (g : Rule) (x y : Access) (byte : ℕ) → (y.first + byte_count y.width ≤ x.first) ⊎ (x.first + byte_count x.width ≤ y.first) → conflict_between g x y byte ≡ None
apart g x y byte h = decided (share x y byte) (λ p. absurd (never p h)) (not_shared g x y byte)
  where
    never : share x y byte ≡ true → (y.first + byte_count y.width ≤ x.first) ⊎ (x.first + byte_count x.width ≤ y.first) → ⊥
    never p h =
        let r : ((same_region x.region y.region && covers x.first (byte_count x.width) byte) ≡ true) × (covers y.first (byte_count y.width) byte ≡ true) = and_parts _ _ p in
        let s : (same_region x.region y.region ≡ true) × (covers x.first (byte_count x.width) byte ≡ true) = and_parts _ _ r.0 in
        both (covers_parts x.first (byte_count x.width) byte s.1) (covers_parts y.first (byte_count y.width) byte r.1) h
      where
        both : (x.first ≤ byte) × (byte < x.first + byte_count x.width) → (y.first ≤ byte) × (byte < y.first + byte_count y.width)
            → (y.first + byte_count y.width ≤ x.first) ⊎ (x.first + byte_count x.width ≤ y.first) → ⊥
        both a b (inl h) = omega (arith, a.0, b.1, h)
        both a b (inr h) = omega (arith, a.1, b.0, h)

pub no_clash : (g : Rule) (x y : Access) (byte : ℕ) → clash_at g x y byte ≡ None → conflict_between g x y byte ≡ None
unfolding conflict_between
no_clash g x y byte h = go (unordered g x y && share x y byte)
  where
    go : (b : Bool) → (if b then clash_at g x y byte else None) ≡ None
    go true = h
    go false = refl

-- accesses of kinds that agree don't clash on any byte
pub kinds_agree : (g : Rule) (x y : Access) (byte : ℕ) → clash x.kind y.kind ≡ None → clash_at g x y byte ≡ None
kinds_agree g x y byte h = go (same_store g x y byte)
  where
    go : (b : Bool) → (if b then None else clash x.kind y.kind) ≡ None
    go true = refl
    go false = h

-- stores that leave the same byte in a uniform launch don't clash there
pub stores_agree : (g : Rule) (x y : Access) (byte : ℕ) → same_store g x y byte ≡ true → clash_at g x y byte ≡ None
stores_agree g x y byte h = ap (λ b. if b then None else clash x.kind y.kind) h

-- ---- searches

-- the first of the rest of a log
entry_first : (g : Rule) (x : Entry) (byte : ℕ) (log : List Entry) (i : ℕ) (d : Entry) → i < length log
    → hit_on g x byte (drop i log) ≡ or_else (hit_between g (get_or log i d) x byte) (hit_on g x byte (drop (suc i) log))
entry_first g x byte [] i d h = absurd (omega (arith, h))
entry_first g x byte (y ∷ log) zero d h = refl
entry_first g x byte (y ∷ log) (suc i) d h = entry_first g x byte log i d (omega (arith, h))

pub at_entry : (g : Rule) (x : Entry) (byte : ℕ) (log : List Entry) (i : ℕ) (d : Entry) → i < length log
    → hit_on g x byte (drop i log) ≡ or_else (hit_between g (get_or log i d) x byte) (hit_on g x byte (drop (i + 1) log))
at_entry g x byte log i d h =
    entry_first g x byte log i d h
    ∙ ap (λ n. or_else (hit_between g (get_or log i d) x byte) (hit_on g x byte (drop n log))) {x = suc i} {y = i + 1} (omega arith)

-- an access that doesn't conflict is passed over
pub past_over : (g : Rule) (x : Entry) (byte : ℕ) (y : Entry) (log : List Entry) → conflict_between g y.access x.access byte ≡ None
    → hit_on g x byte (y ∷ log) ≡ hit_on g x byte log
past_over g x byte y log a = ap (λ o. or_else (option_map (λ clash. record { clash = clash; earlier = y; later = x; byte = byte }) o) (hit_on g x byte log)) a

pub past_entry : (g : Rule) (x : Entry) (byte : ℕ) (log : List Entry) (i : ℕ) (d : Entry) → i < length log
    → conflict_between g (get_or log i d).access x.access byte ≡ None → hit_on g x byte (drop i log) ≡ hit_on g x byte (drop (i + 1) log)
past_entry g x byte log i d h a =
    at_entry g x byte log i d h
    ∙ past_over g x byte (get_or log i d) (drop (i + 1) log) a

pub from_here : (g : Rule) (x : Entry) (log : List Entry) (byte count : ℕ) (found : Hit) → 0 < count
    → hit_on g x byte log ≡ Some found → hit_from g x log byte count ≡ Some found
from_here g x log byte zero found h a = absurd (omega (arith, h))
from_here g x log byte (suc count) found h a = ap (λ o. or_else o (hit_from g x log (suc byte) count)) a

from_at : (g : Rule) (x : Entry) (log : List Entry) (a b n m : ℕ) → a ≡ b → n ≡ m → hit_from g x log a n ≡ hit_from g x log b m
from_at g x log a b n m p q = ap (λ z. hit_from g x log z n) p ∙ ap (hit_from g x log b) q

pub from_later : (g : Rule) (x : Entry) (log : List Entry) (byte end : ℕ) → byte < end → hit_on g x byte log ≡ None
    → hit_from g x log byte (end - byte) ≡ hit_from g x log (byte + 1) (end - (byte + 1))
from_later g x log byte end h a = go (end - byte) (omega (arith, h)) refl
  where
    go : (count : ℕ) → 0 < count → end - byte ≡ count → hit_from g x log byte count ≡ hit_from g x log (byte + 1) (end - (byte + 1))
    go zero p e = absurd (omega (arith, p))
    go (suc count) p e = ap (λ o. or_else o (hit_from g x log (suc byte) count)) a ∙ from_at g x log (suc byte) (byte + 1) count (end - (byte + 1)) (omega arith) (omega (arith, e))

-- a log without a conflict on any byte
pub clear : (g : Rule) (x : Entry) (log : List Entry) → ((byte : ℕ) → hit_on g x byte log ≡ None) → hit g x log ≡ None
unfolding hit
clear g x log h = from_clear x.access.first (byte_count x.access.width)
  where
    from_clear : (byte count : ℕ) → hit_from g x log byte count ≡ None
    from_clear byte zero = refl
    from_clear byte (suc count) = ap (λ o. or_else o (hit_from g x log (suc byte) count)) (h byte) ∙ from_clear (suc byte) count

pub none_if : {A : Type 0} (o : Option A) → is_some o ≡ false → o ≡ None
none_if None h = refl
none_if (Some a) h = absurd (false≢true (sym h))

-- ---- whether an access is there

pub there_at : (log : List Entry) (x : Access) (i : ℕ) (d : Entry) → i < length log → (get_or log i d).access ≡ x → IsThere log x
there_at [] x i d h e = absurd (omega (arith, h))
there_at (y ∷ log) x zero d h e = inl e
there_at (y ∷ log) x (suc i) d h e = inr (there_at log x i d (omega (arith, h)) e)

there_first : (log : List Entry) (x : Access) (i : ℕ) (d : Entry) → i < length log → ((get_or log i d).access ≡ x → ⊥) → IsThere (drop i log) x → IsThere (drop (suc i) log) x
there_first [] x i d h n t = absurd (omega (arith, h))
there_first (y ∷ log) x zero d h n (inl e) = absurd (n e)
there_first (y ∷ log) x zero d h n (inr t) = t
there_first (y ∷ log) x (suc i) d h n t = there_first log x i d (omega (arith, h)) n t

pub there_later :
    (log : List Entry) (x : Access) (i : ℕ) (d : Entry) → i < length log → ((get_or log i d).access ≡ x → ⊥) → IsThere (drop i log) x → IsThere (drop (i + 1) log) x
there_later log x i d h n t = subst (λ k. IsThere (drop k log) x) {x = suc i} {y = i + 1} (omega arith) (there_first log x i d h n t)
