-- The log of a group: what the code keeps of it, and the conflicts that it finds there.
use Rattle.std.proofs.Common.{◌≡◌, ℕ, zero, suc, Option, None, Some, List, [], ◌∷◌, ◌++◌, map, refl, sym, ap, ap₂, ◌∙◌, subst, inl, inr, eq-eqb}
use Rattle.std.specs.Prelude.{reverse}
use Rattle.std.specs.Option.{option_map}
use Rattle.std.proofs.lemmas.List.{reverse-append, map-append}
use Rattle.clmodel.specs.Cells.{byte_count}
use Rattle.clmodel.specs.Launch.{Launch, group_of, within_group, conflict, conflict_between}
use Rattle.clmodel.specs.Run.{or_else}
use Rattle.clmodel.specs.Law.{Logged, Keeps, conflict_on, conflict_from, newest_conflict}
use Rattle.clmodel.specs.declared.access.Access.{Access}
use Rattle.clmodel.specs.declared.access.Clash.{Clash}
use Rattle.clmodel.specs.declared.access.Conflict as conflict_type
use Rattle.clmodel.proofs.Steps.{or_else_map}
use Rattle.clmodel.proofs.Logs.{logged_kept, logged_front, logged_back}
use Rattle.access_list.specs.Log.{hit_between, hit_on, hit_from, hit, IsThere, IsKept}
use Rattle.access_list.specs.declared.log.Entry.{Entry}
use Rattle.access_list.specs.declared.log.Hit.{Hit}
use Rattle.group_run.specs.Logs.{accesses_of, conflict_of, AreMine}
use Rattle.joining.proofs.Kept.{on_kept}
use Rattle.joining.proofs.Crossings.{on_append}

-- ---- an access that is there already

conflict_from-same :
    (judge : Access → Access → ℕ → Option Clash) (x : Access) (log kept : List Access) → ((byte : ℕ) → conflict_on judge x byte log ≡ conflict_on judge x byte kept)
    → (byte count : ℕ) → conflict_from judge x log byte count ≡ conflict_from judge x kept byte count
conflict_from-same judge x log kept h byte zero = refl
conflict_from-same judge x log kept h byte (suc count) = ap₂ or_else (h byte) (conflict_from-same judge x log kept h (suc byte) count)

-- ---- the conflict that the code's log finds

pub accesses_cons : (y : Entry) (es : List Entry) → accesses_of (y ∷ es) ≡ accesses_of es ++ y.access ∷ []
accesses_cons y es = ap (map (λ (e : Entry). e.access)) (reverse-append (y ∷ []) es) ∙ map-append (λ (e : Entry). e.access) (reverse es) (y ∷ [])

pub accesses_push : (es : List Entry) (y : Entry) → accesses_of (es ++ y ∷ []) ≡ y.access ∷ accesses_of es
accesses_push es y = ap (map (λ (e : Entry). e.access)) (reverse-append es (y ∷ []))

one_judge : (l : Launch) (g : ℕ) (y x : Access) (byte : ℕ) → group_of l y.item ≡ g → group_of l x.item ≡ g → conflict l y x byte ≡ conflict_between (within_group l.uniform) y x byte
unfolding conflict
one_judge l g y x byte a b = ap (λ b. conflict_between (record { one_group = b; uniform = l.uniform }) y x byte) (eq-eqb (group_of l y.item) (group_of l x.item) (a ∙ sym b))

abbrev told_as : Entry → Entry → ℕ → Option Clash → Option conflict_type.Conflict
told_as y x byte o = option_map (λ clash. record { earlier = y.access; later = x.access; byte = byte; clash = clash }) o

abbrev hit_as : Entry → Entry → ℕ → Option Clash → Option Hit
hit_as y x byte o = option_map (λ clash. record { clash = clash; earlier = y; later = x; byte = byte }) o

told_hit : (y x : Entry) (byte : ℕ) (o : Option Clash) → told_as y x byte o ≡ option_map conflict_of (hit_as y x byte o)
told_hit y x byte None = refl
told_hit y x byte (Some clash) = refl

on_is_hit :
    (l : Launch) (g : ℕ) (x : Entry) (byte : ℕ) (es : List Entry) → group_of l x.access.item ≡ g → AreMine l g es
    → conflict_on (conflict l) x.access byte (accesses_of es) ≡ option_map conflict_of (hit_on (within_group l.uniform) x byte es)
on_is_hit l g x byte [] m h = refl
on_is_hit l g x byte (y ∷ es) m h =
    ap (conflict_on (conflict l) x.access byte) (accesses_cons y es)
    ∙ on_append (conflict l) x.access byte (accesses_of es) (y.access ∷ [])
    ∙ ap₂ or_else
    (ap (told_as y x byte) (one_judge l g y.access x.access byte h.0 m)
    ∙ told_hit y x byte (conflict_between (within_group l.uniform) y.access x.access byte))
    (on_is_hit l g x byte es m h.1)
    ∙ sym (or_else_map conflict_of (hit_between (within_group l.uniform) y x byte) (hit_on (within_group l.uniform) x byte es))

from_is_hit :
    (l : Launch) (g : ℕ) (x : Entry) (es : List Entry) → group_of l x.access.item ≡ g → AreMine l g es → (byte count : ℕ)
    → conflict_from (conflict l) x.access (accesses_of es) byte count ≡ option_map conflict_of (hit_from (within_group l.uniform) x es byte count)
from_is_hit l g x es m h byte zero = refl
from_is_hit l g x es m h byte (suc count) =
    ap₂ or_else (on_is_hit l g x byte es m h) (from_is_hit l g x es m h (suc byte) count)
    ∙ sym (or_else_map conflict_of (hit_on (within_group l.uniform) x byte es) (hit_from (within_group l.uniform) x es (suc byte) count))

-- the newest access of a log conflicts as the code's log says
pub newest_is_hit :
    (l : Launch) (g : ℕ) (log : List Access) (x : Entry) (es : List Entry) → group_of l x.access.item ≡ g → AreMine l g es → Keeps log (accesses_of es)
    → newest_conflict l (x.access ∷ log) ≡ option_map conflict_of (hit (within_group l.uniform) x es)
unfolding hit
newest_is_hit l g log x es m h k =
    conflict_from-same (conflict l) x.access log (accesses_of es) (λ byte. on_kept (conflict l) x.access byte log (accesses_of es) k) x.access.first (byte_count x.access.width)
    ∙ from_is_hit l g x es m h x.access.first (byte_count x.access.width)

-- ---- one access more

there_logged : (es : List Entry) (x : Access) → IsThere es x → Logged (accesses_of es) x
there_logged [] x h = absurd h
there_logged (y ∷ es) x (inl e) = subst (λ z. Logged z x) (sym (accesses_cons y es)) (logged_back (accesses_of es) (y.access ∷ []) x (inl e))
there_logged (y ∷ es) x (inr h) = subst (λ z. Logged z x) (sym (accesses_cons y es)) (logged_front (accesses_of es) (y.access ∷ []) x (there_logged es x h))

pub keeps_noted :
    (log : List Access) (es new : List Entry) (x : Entry) → Keeps log (accesses_of es) → IsKept es x new → Keeps (x.access ∷ log) (accesses_of new)
keeps_noted log es new x k (inl h) =
    inl (logged_kept log (accesses_of es) x.access k (there_logged es x.access h.0), subst (λ z. Keeps log (accesses_of z)) (sym h.1) k)
keeps_noted log es new x k (inr h) = inr (accesses_of es, ap accesses_of h ∙ accesses_push es x, k)

mine_push : (l : Launch) (g : ℕ) (es : List Entry) (x : Entry) → AreMine l g es → group_of l x.access.item ≡ g → AreMine l g (es ++ x ∷ [])
mine_push l g [] x h m = (m, tt)
mine_push l g (y ∷ es) x h m = (h.0, mine_push l g es x h.1 m)

pub mine_noted : (l : Launch) (g : ℕ) (es new : List Entry) (x : Entry) → AreMine l g es → group_of l x.access.item ≡ g → IsKept es x new → AreMine l g new
mine_noted l g es new x h m (inl k) = subst (AreMine l g) (sym k.1) h
mine_noted l g es new x h m (inr k) = subst (AreMine l g) (sym k) (mine_push l g es x h m)
