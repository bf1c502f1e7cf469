-- Conflicts of an access with what is kept of a log.
use Rattle.std.proofs.Common.{◌≡◌, ◌≢◌, ℕ, zero, suc, Option, Some, None, refl, sym, ap, ap₂, ◌∙◌, subst, inl, inr, List, [], ◌∷◌, ◌++◌, ne_eqb}
use Rattle.std.specs.Option.{option_map}
use Rattle.clmodel.specs.Launch.{Launch, group_of, across_groups, conflict, conflict_between}
use Rattle.clmodel.specs.Run.{or_else}
use Rattle.clmodel.specs.Law.{Logged, Keeps, conflict_on, conflict_from}
use Rattle.clmodel.specs.declared.access.Access.{Access}
use Rattle.clmodel.specs.declared.access.Clash.{Clash}
use Rattle.clmodel.specs.declared.access.Conflict as conflict_type
use Rattle.clmodel.proofs.Steps.{or_else_none}
use Rattle.clmodel.proofs.Logs.{logged_front}
use Rattle.joining.specs.Steps.{KeptConflicts, KeptBoth}

-- the conflict with one access
abbrev pub one_conflict : (Access → Access → ℕ → Option Clash) → Access → ℕ → Access → Option conflict_type.Conflict
one_conflict judge x byte y = option_map (λ clash. record { earlier = y; later = x; byte = byte; clash = clash }) (judge y x byte)

pub none_each : (judge : Access → Access → ℕ → Option Clash) (x : Access) (byte : ℕ) (y : Access) (log : List Access) → Logged log y → conflict_on judge x byte log ≡ None
    → one_conflict judge x byte y ≡ None
none_each judge x byte y [] h e = absurd h
none_each judge x byte y (z ∷ log) (inl i) e =
    ap (one_conflict judge x byte) (sym i) ∙ (or_else_none (conflict_on judge x byte log) (one_conflict judge x byte z) e).1
none_each judge x byte y (z ∷ log) (inr h) e = none_each judge x byte y log h (or_else_none (conflict_on judge x byte log) (one_conflict judge x byte z) e).0

-- a repeat brings no other conflict
pub repeat_is_harmless : (judge : Access → Access → ℕ → Option Clash) (x : Access) (byte : ℕ) (y : Access) (log : List Access) → Logged log y
    → conflict_on judge x byte (y ∷ log) ≡ conflict_on judge x byte log
repeat_is_harmless judge x byte y log h = go (conflict_on judge x byte log) refl
  where
    go : (o : Option conflict_type.Conflict) → conflict_on judge x byte log ≡ o → or_else (conflict_on judge x byte log) (one_conflict judge x byte y) ≡ conflict_on judge x byte log
    go None e = ap (λ z. or_else z (one_conflict judge x byte y)) e ∙ none_each judge x byte y log h e ∙ sym e
    go (Some c) e = ap (λ z. or_else z (one_conflict judge x byte y)) e ∙ sym e

pub on_kept : (judge : Access → Access → ℕ → Option Clash) (x : Access) (byte : ℕ) (log kept : List Access) → Keeps log kept → conflict_on judge x byte log ≡ conflict_on judge x byte kept
on_kept judge x byte [] kept h = ap (conflict_on judge x byte) (sym h)
on_kept judge x byte (y ∷ log) kept (inl h) = repeat_is_harmless judge x byte y log h.0 ∙ on_kept judge x byte log kept h.1
on_kept judge x byte (y ∷ log) kept (inr h) =
    ap (λ o. or_else o (one_conflict judge x byte y)) (on_kept judge x byte log h.0 h.2) ∙ ap (conflict_on judge x byte) (sym h.1)

-- an access conflicts with a log as it does with what is kept of it
pub from_kept : (judge : Access → Access → ℕ → Option Clash) (x : Access) (log kept : List Access) → Keeps log kept → (byte count : ℕ)
    → conflict_from judge x log byte count ≡ conflict_from judge x kept byte count
from_kept judge x log kept h byte zero = refl
from_kept judge x log kept h byte (suc count) = ap₂ or_else (on_kept judge x byte log kept h) (from_kept judge x log kept h (suc byte) count)

-- two judges that say the same of each access of a log
abbrev Alike : (Access → Access → ℕ → Option Clash) → (Access → Access → ℕ → Option Clash) → Access → List Access → Type 0
Alike judge other x log = (y : Access) → Logged log y → (byte : ℕ) → judge y x byte ≡ other y x byte

on_alike : (judge other : Access → Access → ℕ → Option Clash) (x : Access) (byte : ℕ) (log : List Access) → Alike judge other x log → conflict_on judge x byte log ≡ conflict_on other x byte log
on_alike judge other x byte [] h = refl
on_alike judge other x byte (y ∷ log) h =
    ap₂ or_else (on_alike judge other x byte log (λ z k. h z (inr k)))
    (ap (option_map (λ clash. record { earlier = y; later = x; byte = byte; clash = clash })) (h y (inl refl) byte))

from_alike : (judge other : Access → Access → ℕ → Option Clash) (x : Access) (log : List Access) → Alike judge other x log → (byte count : ℕ)
    → conflict_from judge x log byte count ≡ conflict_from other x log byte count
from_alike judge other x log h byte zero = refl
from_alike judge other x log h byte (suc count) = ap₂ or_else (on_alike judge other x byte log h) (from_alike judge other x log h (suc byte) count)

of_two_groups : (l : Launch) (y x : Access) (byte : ℕ) → group_of l y.item ≢ group_of l x.item → conflict l y x byte ≡ conflict_between (across_groups l.uniform) y x byte
unfolding conflict
of_two_groups l y x byte ne = ap (λ b. conflict_between (record { one_group = b; uniform = l.uniform }) y x byte) (ne_eqb (group_of l y.item) (group_of l x.item) ne)

pub kept_conflicts : KeptConflicts
kept_conflicts l x log kept byte count keeps apart =
    from_alike (conflict l) (conflict_between (across_groups l.uniform)) x log (λ y h at. of_two_groups l y x at (apart y h)) byte count
    ∙ from_kept (conflict_between (across_groups l.uniform)) x log kept keeps byte count

pub kept_both : KeptBoth
kept_both [] log kept_later kept h k = subst (λ z. Keeps log (z ++ kept)) (sym h) k
kept_both (x ∷ later) log kept_later kept (inl h) k = inl (logged_front later log x h.0, kept_both later log kept_later kept h.1 k)
kept_both (x ∷ later) log kept_later kept (inr h) k = inr (h.0 ++ kept, ap (λ z. z ++ kept) h.1, kept_both later log h.0 kept h.2 k)
