-- Which accesses of a group's log tell other groups nothing new, and lists that leave such out (own, on OpenCL 1.2,
-- 3.3.1 and 6.5.2).
use Rattle.std.specs.Prelude.{◌≡◌, ◌⊎◌, ℕ, Bool, true, false, List, [], ◌∷◌, ◌++◌, map, reverse}
use Rattle.clmodel.specs.declared.access.Access.{Access}
use Rattle.clmodel.specs.declared.access.Region.{Region}
use Rattle.clmodel.specs.declared.access.Region.TheVariants as region
use Rattle.joining.specs.Memory.{at_byte}
use Rattle.shadow.specs.Seen.{seen, seen_with, mark_of}
use Rattle.access_list.specs.declared.log.Entry.{Entry}

-- what is kept of each byte stays with one access more, whose region this is: it is of a local object, which no other
-- group shares, or at each of its bytes the earlier accesses were of its sort, or of two sorts
abbrev pub AbsorbedAt : Region → List Access → Access → Type 0
AbsorbedAt (region.Local group number) earlier x = Unit {0}
AbsorbedAt (region.Buffer number) earlier x =
    (byte : ℕ) → at_byte (region.Buffer number) byte x ≡ true
    → seen_with (seen (region.Buffer number) byte earlier) (mark_of x byte) ≡ seen (region.Buffer number) byte earlier

-- an access tells other groups nothing that its group's earlier ones, the newest first, don't tell
abbrev pub Absorbed : List Access → Access → Type 0
Absorbed earlier x = AbsorbedAt x.region earlier x

-- a short list of entries stands for the whole one behind these earlier accesses: both have the oldest first, and what
-- is left out is absorbed
abbrev pub StandsFor : List Access → List Entry → List Entry → Type 0
StandsFor earlier short [] = short ≡ []
StandsFor earlier short (x ∷ whole) =
    (Absorbed earlier x.access × StandsFor (x.access ∷ earlier) short whole)
    ⊎ ((rest : List Entry) × (short ≡ x ∷ rest) × StandsFor (x.access ∷ earlier) rest whole)

-- the same for a list with an entry at its end; `last` says whether the short list has it
abbrev pub EndsWith : Bool → List Entry → List Entry → Entry → Type 0
EndsWith true short front x = (rest : List Entry) × (short ≡ rest ++ x ∷ []) × StandsFor [] rest front
EndsWith false short front x = StandsFor [] short front × Absorbed (map (λ e. e.access) (reverse front)) x.access

-- a short list stands for the whole one, and `last` says whether it has the last entry of it
abbrev pub StandsWith : Bool → List Entry → List Entry → Type 0
StandsWith last short whole = ((short ≡ []) × (whole ≡ [])) ⊎ ((front : List Entry) × (x : Entry) × (whole ≡ front ++ x ∷ []) × EndsWith last short front x)

-- a short list has, of a whole one behind these earlier accesses, those that tell other groups something new, and no
-- other: both have the oldest first
abbrev pub TellsNews : List Access → List Entry → List Entry → Type 0
TellsNews earlier short [] = short ≡ []
TellsNews earlier short (x ∷ whole) =
    (Absorbed earlier x.access × TellsNews (x.access ∷ earlier) short whole)
    ⊎ ((Absorbed earlier x.access → ⊥) × (rest : List Entry) × (short ≡ x ∷ rest) × TellsNews (x.access ∷ earlier) rest whole)
