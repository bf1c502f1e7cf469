-- The conflict of an access with two logs, one after the other.
use Rattle.std.proofs.Common.{◌≡◌, ℕ, zero, suc, ◌<◌, ◌≤◌, Bool, if◌then◌else◌, Option, None, Some, List, [], ◌∷◌, refl, sym, ap, ap₂, ◌∙◌, subst, arith, le-leb}
use Rattle.std.proofs.lemmas.Bool.{lt-leb}
use Rattle.std.specs.Option.{option_map}
use Rattle.clmodel.specs.Run.{or_else}
use Rattle.clmodel.specs.Law.{conflict_on, conflict_from}
use Rattle.clmodel.specs.declared.access.Access.{Access}
use Rattle.clmodel.specs.declared.access.Clash.{Clash}
use Rattle.clmodel.specs.declared.access.Conflict as conflict_type
use Rattle.clmodel.proofs.Steps.{none_some, some_inj}
use Rattle.joining.specs.Crossings.{lower_first, LowerFirst}
use Rattle.joining.proofs.Crossings.{on_append}

-- the byte of a conflict
byte_here : (x y : Access) (byte : ℕ) (o : Option Clash) (c : conflict_type.Conflict)
    → option_map (λ clash. record { earlier = y; later = x; byte = byte; clash = clash }) o ≡ Some c → c.byte ≡ byte
byte_here x y byte None c h = absurd (none_some c h)
byte_here x y byte (Some clash) c h = ap (λ z. z.byte) (sym (some_inj _ c h))

byte_on : (judge : Access → Access → ℕ → Option Clash) (x : Access) (byte : ℕ) (log : List Access) (c : conflict_type.Conflict) → conflict_on judge x byte log ≡ Some c → c.byte ≡ byte
byte_on judge x byte [] c h = absurd (none_some c h)
byte_on judge x byte (y ∷ log) c h = go (conflict_on judge x byte log) (λ d k. byte_on judge x byte log d k) h
  where
    go : (o : Option conflict_type.Conflict) → ((d : conflict_type.Conflict) → o ≡ Some d → d.byte ≡ byte)
        → or_else o (option_map (λ clash. record { earlier = y; later = x; byte = byte; clash = clash }) (judge y x byte)) ≡ Some c → c.byte ≡ byte
    go None older e = byte_here x y byte (judge y x byte) c e
    go (Some d) older e = older c e

byte_from : (judge : Access → Access → ℕ → Option Clash) (x : Access) (log : List Access) (byte count : ℕ) (c : conflict_type.Conflict) → conflict_from judge x log byte count ≡ Some c
    → byte ≤ c.byte
byte_from judge x log byte zero c h = absurd (none_some c h)
byte_from judge x log byte (suc count) c h =
    go (conflict_on judge x byte log) (λ d k. byte_on judge x byte log d k) (λ k. byte_from judge x log (suc byte) count c k) h
  where
    go : (o : Option conflict_type.Conflict) → ((d : conflict_type.Conflict) → o ≡ Some d → d.byte ≡ byte) → (conflict_from judge x log (suc byte) count ≡ Some c → suc byte ≤ c.byte)
        → or_else o (conflict_from judge x log (suc byte) count) ≡ Some c → byte ≤ c.byte
    go None here there e = let r : suc byte ≤ c.byte = there e in omega (arith, r)
    go (Some d) here there e = let r : c.byte ≡ byte = here c e in omega (arith, r)

abbrev Here : ℕ → Option conflict_type.Conflict → Type 0
Here byte o = (c : conflict_type.Conflict) → o ≡ Some c → c.byte ≡ byte

abbrev Above : ℕ → Option conflict_type.Conflict → Type 0
Above byte o = (c : conflict_type.Conflict) → o ≡ Some c → byte < c.byte

-- conflicts on a byte come before those above it
lowest_first : (byte : ℕ) (lower own lower_above own_above : Option conflict_type.Conflict) → Here byte lower → Here byte own → Above byte lower_above → Above byte own_above
    → or_else (or_else lower own) (lower_first lower_above own_above) ≡ lower_first (or_else lower lower_above) (or_else own own_above)
lowest_first byte (Some c) (Some d) p q a b e f =
    let r : c.byte ≡ byte = a c refl in
    let s : d.byte ≡ byte = b d refl in
    sym (ap (λ (z : Bool). if z then Some c else Some d) (le-leb c.byte d.byte (omega (arith, r, s))))
lowest_first byte (Some c) None p None a b e f = refl
lowest_first byte (Some c) None p (Some d) a b e f =
    let r : c.byte ≡ byte = a c refl in
    let s : byte < d.byte = f d refl in
    sym (ap (λ (z : Bool). if z then Some c else Some d) (le-leb c.byte d.byte (omega (arith, r, s))))
lowest_first byte None (Some d) None q a b e f = refl
lowest_first byte None (Some d) (Some c) q a b e f =
    let r : byte < c.byte = e c refl in
    let s : d.byte ≡ byte = b d refl in
    sym (ap (λ (z : Bool). if z then Some c else Some d) (lt-leb c.byte d.byte (subst (λ z. z < c.byte) (sym s) r)))
lowest_first byte None None p q a b e f = refl

above : (byte : ℕ) (o : Option conflict_type.Conflict) → ((c : conflict_type.Conflict) → o ≡ Some c → suc byte ≤ c.byte) → Above byte o
above byte o h c e = let r : suc byte ≤ c.byte = h c e in omega (arith, r)

pub lower_byte_first : LowerFirst
lower_byte_first judge x own lower byte zero = refl
lower_byte_first judge x own lower byte (suc count) =
    ap₂ or_else (on_append judge x byte own lower) (lower_byte_first judge x own lower (suc byte) count)
    ∙ lowest_first byte (conflict_on judge x byte lower) (conflict_on judge x byte own) (conflict_from judge x lower (suc byte) count) (conflict_from judge x own (suc byte) count)
    (λ c h. byte_on judge x byte lower c h) (λ c h. byte_on judge x byte own c h) (above byte _ (λ c h. byte_from judge x lower (suc byte) count c h))
    (above byte _ (λ c h. byte_from judge x own (suc byte) count c h))
