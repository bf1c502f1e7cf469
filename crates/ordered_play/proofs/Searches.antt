-- Searches for races: what they find is the race of a log's newest access.
use Rattle.std.proofs.Common.{◌≡◌, ℕ, zero, suc, ◌+◌, ◌-◌, ◌<◌, Bool, ◌==◌, Option, None, Some, List, [], ◌∷◌, ◌++◌, refl, sym, ap, ap₂, ◌∙◌, arith}
use Rattle.std.specs.Prelude.{reverse}
use Rattle.std.specs.Option.{option_map}
use Rattle.std.proofs.lemmas.List.{reverse-append}
use Rattle.clmodel.specs.Cells.{byte_count}
use Rattle.clmodel.specs.Launch.{Launch, conflict, conflict_between, group_of, rule_of}
use Rattle.clmodel.specs.Law.{conflict_on, conflict_from}
use Rattle.clmodel.specs.Run.{or_else}
use Rattle.clmodel.specs.declared.access.Access.{Access}
use Rattle.clmodel.specs.declared.access.Clash.{Clash}
use Rattle.clmodel.specs.declared.access.Conflict as conflict_type
use Rattle.clmodel.specs.declared.access.Rule.{Rule}
use Rattle.clmodel.proofs.Steps.{none_some, some_inj, or_else_assoc, or_else_nothing}
use Rattle.access_list.specs.declared.log.Entry.{Entry}
use Rattle.access_list.specs.declared.log.Hit.{Hit}
use Rattle.access_list.specs.Log.{hit_between}
use Rattle.ordered_runs.specs.Ordered.{race, newest_race}
use Rattle.ordered_play.specs.Races.{race_between, race_on, race_from, race_with}

-- ---- how two accesses conflict

-- a rule by its parts
pub rule_is : (l : Launch) (x y : Access) (rule : Rule) → rule.one_group ≡ (group_of l x.item == group_of l y.item) → rule.uniform ≡ l.uniform → rule ≡ rule_of l x y
rule_is l x y rule groups uniform = ap₂ (λ (a b : Bool). let r : Rule = record { one_group = a; uniform = b } in r) groups uniform

clash_hit :
    (first second : Entry) (byte : ℕ) (o : Option Clash) (hit : Hit)
    → option_map (λ (clash : Clash). let h : Hit = record { clash = clash; earlier = first; later = second; byte = byte } in h) o ≡ Some hit → o ≡ Some hit.clash
clash_hit first second byte None hit h = absurd (none_some hit h)
clash_hit first second byte (Some clash) hit h = ap (λ (z : Hit). Some z.clash) (some_inj _ hit h)

no_hit :
    (first second : Entry) (byte : ℕ) (o : Option Clash)
    → ◌≡◌ {A = Option Hit} (option_map (λ (clash : Clash). let h : Hit = record { clash = clash; earlier = first; later = second; byte = byte } in h) o) None → o ≡ None
no_hit first second byte None h = refl
no_hit first second byte (Some clash) h = absurd (none_some _ (sym h))

pub hit_clash :
    (l : Launch) (first second : Entry) (byte : ℕ) (rule : Rule) (hit : Hit) → rule ≡ rule_of l first.access second.access → hit_between rule first second byte ≡ Some hit
    → Some hit.clash ≡ conflict l first.access second.access byte
unfolding conflict
hit_clash l first second byte rule hit e h =
    sym (ap (λ r. conflict_between r first.access second.access byte) (sym e) ∙ clash_hit first second byte (conflict_between rule first.access second.access byte) hit h)

pub hit_none :
    (l : Launch) (first second : Entry) (byte : ℕ) (rule : Rule) → rule ≡ rule_of l first.access second.access → hit_between rule first second byte ≡ None
    → ◌≡◌ {A = Option Clash} None (conflict l first.access second.access byte)
unfolding conflict
hit_none l first second byte rule e h =
    sym (ap (λ r. conflict_between r first.access second.access byte) (sym e) ∙ no_hit first second byte (conflict_between rule first.access second.access byte) h)

-- ---- searches

pub from_here : (l : Launch) (x : Access) (log : List Access) (byte count : ℕ) (found : conflict_type.Conflict) → 0 < count
    → race_on l x byte log ≡ Some found → race_from l x log byte count ≡ Some found
from_here l x log byte zero found h a = absurd (omega (arith, h))
from_here l x log byte (suc count) found h a = ap (λ o. or_else o (race_from l x log (suc byte) count)) a

from_at : (l : Launch) (x : Access) (log : List Access) (a b n m : ℕ) → a ≡ b → n ≡ m → race_from l x log a n ≡ race_from l x log b m
from_at l x log a b n m p q = ap (λ z. race_from l x log z n) p ∙ ap (race_from l x log b) q

pub from_later : (l : Launch) (x : Access) (log : List Access) (byte end : ℕ) → byte < end → race_on l x byte log ≡ None
    → race_from l x log byte (end - byte) ≡ race_from l x log (byte + 1) (end - (byte + 1))
from_later l x log byte end h a = go (end - byte) (omega (arith, h)) refl
  where
    go : (count : ℕ) → 0 < count → end - byte ≡ count → race_from l x log byte count ≡ race_from l x log (byte + 1) (end - (byte + 1))
    go zero p e = absurd (omega (arith, p))
    go (suc count) p e = ap (λ o. or_else o (race_from l x log (suc byte) count)) a ∙ from_at l x log (suc byte) (byte + 1) count (end - (byte + 1)) (omega arith) (omega (arith, e))

-- ---- the same in a log that has the newest first

on_append : (l : Launch) (x : Access) (byte : ℕ) (xs ys : List Access)
    → conflict_on (race l) x byte (xs ++ ys) ≡ or_else (conflict_on (race l) x byte ys) (conflict_on (race l) x byte xs)
on_append l x byte [] ys = sym (or_else_nothing (conflict_on (race l) x byte ys))
on_append l x byte (z ∷ xs) ys =
    ap (λ o. or_else o (race_between l z x byte)) (on_append l x byte xs ys)
    ∙ or_else_assoc (conflict_on (race l) x byte ys) (conflict_on (race l) x byte xs) (race_between l z x byte)

or_none : {A : Type 0} (o : Option A) → o ≡ or_else None o
or_none o = refl

told_on : (l : Launch) (x : Access) (byte : ℕ) (log : List Access) → race_on l x byte log ≡ conflict_on (race l) x byte (reverse log)
told_on l x byte [] = refl
told_on l x byte (y ∷ log) =
    ap (or_else (race_between l y x byte)) (told_on l x byte log)
    ∙ sym (ap (conflict_on (race l) x byte) (reverse-append (y ∷ []) log) ∙ on_append l x byte (reverse log) (y ∷ []))

told_from : (l : Launch) (x : Access) (log : List Access) (byte count : ℕ) → race_from l x log byte count ≡ conflict_from (race l) x (reverse log) byte count
told_from l x log byte zero = refl
told_from l x log byte (suc count) = ap₂ (λ a b. or_else a b) (told_on l x byte log) (told_from l x log (suc byte) count)

-- the race of the last access of a log
pub told_newest : (l : Launch) (x : Access) (log whole : List Access) → whole ≡ log ++ x ∷ [] → race_with l x log ≡ newest_race l (reverse whole)
unfolding race_with
told_newest l x log whole e =
    told_from l x log x.first (byte_count x.width)
    ∙ sym (ap (newest_race l) (ap reverse e ∙ reverse-append log (x ∷ [])))
