-- The conflict of an access with the accesses of two lists, one after the other.
use Rattle.std.proofs.Common.{◌≡◌, ℕ, zero, suc, ◌<◌, ◌≤◌, Bool, true, false, nat_lt, if◌then◌else◌, Option, None, Some, List, [], ◌∷◌, ◌++◌, refl, sym, ap, ap₂, ◌∙◌, arith}
use Rattle.std.specs.Option.{option_map}
use Rattle.std.proofs.lemmas.Bool.{ltb-true, lt-ltb}
use Rattle.std.proofs.lemmas.Option.{none-some, same_Some}
use Rattle.clmodel.specs.Cells.{byte_count}
use Rattle.clmodel.specs.Launch.{conflict_between}
use Rattle.clmodel.specs.Run.{or_else}
use Rattle.clmodel.specs.declared.access.Clash.{Clash}
use Rattle.clmodel.specs.declared.access.Rule.{Rule}
use Rattle.access_list.specs.Log.{hit_between, hit_on, hit_from, hit}
use Rattle.access_list.specs.declared.log.Entry.{Entry}
use Rattle.access_list.specs.declared.log.Hit.{Hit}
use Rattle.page_log.specs.Tally.{lower_hit, hit_with}

-- ---- on which byte a conflict is

abbrev pub IsAt : ℕ → Option Hit → Type 0
IsAt byte o = (h : Hit) → o ≡ Some h → h.byte ≡ byte

abbrev pub IsFrom : ℕ → Option Hit → Type 0
IsFrom byte o = (h : Hit) → o ≡ Some h → byte ≤ h.byte

none_at : (byte : ℕ) → IsAt byte None
none_at byte h e = absurd (none-some h e)

none_from : (byte : ℕ) → IsFrom byte None
none_from byte h e = absurd (none-some h e)

between_at : (g : Rule) (y x : Entry) (byte : ℕ) → IsAt byte (hit_between g y x byte)
between_at g y x byte = go (conflict_between g y.access x.access byte)
  where
    go : (o : Option Clash) → IsAt byte (option_map (λ clash. record { clash = clash; earlier = y; later = x; byte = byte }) o)
    go None = none_at byte
    go (Some c) = λ h e. sym (ap (λ z. z.byte) (same_Some _ h e))

else_at : (byte : ℕ) (a b : Option Hit) → IsAt byte a → IsAt byte b → IsAt byte (or_else a b)
else_at byte None b p q = q
else_at byte (Some a) b p q = p

on_at : (g : Rule) (x : Entry) (byte : ℕ) (log : List Entry) → IsAt byte (hit_on g x byte log)
on_at g x byte [] = none_at byte
on_at g x byte (y ∷ log) = else_at byte (hit_between g y x byte) (hit_on g x byte log) (between_at g y x byte) (on_at g x byte log)

else_from : (byte : ℕ) (a b : Option Hit) → IsAt byte a → IsFrom (suc byte) b → IsFrom byte (or_else a b)
else_from byte None b p q = λ h e. let l : suc byte ≤ h.byte = q h e in omega (arith, l)
else_from byte (Some a) b p q = λ h e. let l : h.byte ≡ byte = p h e in omega (arith, l)

from_from : (g : Rule) (x : Entry) (log : List Entry) (byte count : ℕ) → IsFrom byte (hit_from g x log byte count)
from_from g x log byte zero = none_from byte
from_from g x log byte (suc count) =
    else_from byte (hit_on g x byte log) (hit_from g x log (suc byte) count) (on_at g x byte log) (from_from g x log (suc byte) count)

-- ---- two lists

else_assoc : (a b c : Option Hit) → or_else a (or_else b c) ≡ or_else (or_else a b) c
else_assoc None b c = refl
else_assoc (Some a) b c = refl

on_joined : (g : Rule) (x : Entry) (byte : ℕ) (log more : List Entry) → hit_on g x byte (log ++ more) ≡ or_else (hit_on g x byte log) (hit_on g x byte more)
on_joined g x byte [] more = refl
on_joined g x byte (y ∷ log) more =
    ap (or_else (hit_between g y x byte)) (on_joined g x byte log more) ∙ else_assoc (hit_between g y x byte) (hit_on g x byte log) (hit_on g x byte more)

first_stays : (a b : Hit) → a.byte ≤ b.byte → lower_hit (Some a) (Some b) ≡ Some a
first_stays a b h = go (nat_lt b.byte a.byte) refl
  where
    go : (t : Bool) → nat_lt b.byte a.byte ≡ t → (if t then Some b else Some a) ≡ Some a
    go true e = absurd (omega (arith, h, ltb-true b.byte a.byte e))
    go false e = refl

other_wins : (a b : Hit) → b.byte < a.byte → lower_hit (Some a) (Some b) ≡ Some b
other_wins a b h = ap (λ t. if t then Some b else Some a) (lt-ltb b.byte a.byte h)

-- the lowest byte decides, and there the first list
combined : (byte : ℕ) (a b c d : Option Hit) → IsAt byte a → IsAt byte b → IsFrom (suc byte) c → IsFrom (suc byte) d
    → or_else (or_else a b) (lower_hit c d) ≡ lower_hit (or_else a c) (or_else b d)
combined byte (Some a) (Some b) c d p q r s = sym (first_stays a b (omega (arith, p a refl, q b refl)))
combined byte (Some a) None c None p q r s = refl
combined byte (Some a) None c (Some d) p q r s = sym (first_stays a d (omega (arith, p a refl, s d refl)))
combined byte None (Some b) None d p q r s = refl
combined byte None (Some b) (Some c) d p q r s = sym (other_wins c b (omega (arith, q b refl, r c refl)))
combined byte None None c d p q r s = refl

from_joined : (g : Rule) (x : Entry) (log more : List Entry) (byte count : ℕ) → hit_from g x (log ++ more) byte count ≡ lower_hit (hit_from g x log byte count) (hit_from g x more byte count)
from_joined g x log more byte zero = refl
from_joined g x log more byte (suc count) =
    ap₂ or_else (on_joined g x byte log more) (from_joined g x log more (suc byte) count)
    ∙ combined byte (hit_on g x byte log) (hit_on g x byte more) (hit_from g x log (suc byte) count) (hit_from g x more (suc byte) count) (on_at g x byte log) (on_at g x byte more)
    (from_from g x log (suc byte) count) (from_from g x more (suc byte) count)

pub joined : (g : Rule) (x : Entry) (log more : List Entry) → hit g x (log ++ more) ≡ lower_hit (hit g x log) (hit g x more)
unfolding hit
joined g x log more = from_joined g x log more x.access.first (byte_count x.access.width)

pub headed : (g : Rule) (x y : Entry) (log : List Entry) → hit g x (y ∷ log) ≡ lower_hit (hit_with g x y) (hit g x log)
headed g x y log = joined g x (y ∷ []) log

pub no_hit : (g : Rule) (x : Entry) → hit g x [] ≡ None
unfolding hit
no_hit g x = go x.access.first (byte_count x.access.width)
  where
    go : (byte count : ℕ) → hit_from g x [] byte count ≡ None
    go byte zero = refl
    go byte (suc count) = go (suc byte) count
