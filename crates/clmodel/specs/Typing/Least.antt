-- Faults of a tree in the order in which they are answered.
use Rattle.std.specs.Prelude.{◌≡◌, ℕ, suc, ◌<◌, ◌≤◌, ◌⊎◌, Bool, ◌||◌, ◌&&◌, nat_lt, nat_le, nat_eq, List, [], ◌∷◌, ◌++◌, Option, None, Some, cond}
use Rattle.clmodel.specs.declared.type_fault.TypeFault.{TypeFault}
use Rattle.clmodel.specs.declared.type_fault.TypeFault.TheVariants as fault

-- a fault's number
abbrev pub number : TypeFault → ℕ
number (fault.UnknownName at) = 1
number (fault.Redeclared at) = 2
number (fault.TypeMismatch at) = 3
number (fault.NotAssignable at) = 4
number (fault.Recursion at) = 5
number (fault.WrongArgumentCount at) = 6
number (fault.WrongSpace at) = 7
number (fault.BadBarrierFlags at) = 8
number (fault.TooManyLoops at) = 10
number (fault.TooLarge at) = 11
number (fault.MissingReturn at) = 12
number fault.OutOfMemory = 13

-- where it is
abbrev pub offset : TypeFault → ℕ
offset (fault.UnknownName at) = at
offset (fault.Redeclared at) = at
offset (fault.TypeMismatch at) = at
offset (fault.NotAssignable at) = at
offset (fault.Recursion at) = at
offset (fault.WrongArgumentCount at) = at
offset (fault.WrongSpace at) = at
offset (fault.BadBarrierFlags at) = at
offset (fault.TooManyLoops at) = at
offset (fault.TooLarge at) = at
offset (fault.MissingReturn at) = at
offset fault.OutOfMemory = 0

-- The faults of a tree: a list for each place, in the order of the places.
abbrev pub Places : Type 0
Places = List (List TypeFault)

pub data Among : TypeFault → List TypeFault → Type 0 where
  head : {f : TypeFault} {fs : List TypeFault} → Among f (f ∷ fs)
  later : {f g : TypeFault} {fs : List TypeFault} → Among f fs → Among f (g ∷ fs)

-- a fault at a place
pub data Has : Places → ℕ → TypeFault → Type 0 where
  here : {f : TypeFault} {fs : List TypeFault} {ps : Places} → Among f fs → Has (fs ∷ ps) 0 f
  there : {f : TypeFault} {fs : List TypeFault} {ps : Places} {i : ℕ} → Has ps i f → Has (fs ∷ ps) (suc i) f

-- by number, and of one number by offset
abbrev pub IsUpTo : TypeFault → TypeFault → Type 0
IsUpTo f g = (number f < number g) ⊎ ((number f ≡ number g) × (offset f ≤ offset g))

-- the least pair of a place and a number, and of one such pair the least offset
pub record IsLeast (ps : Places) (place : ℕ) (f : TypeFault) : Type 0 where
  pub has : Has ps place f
  pub least : (i : ℕ) (g : TypeFault) → Has ps i g → (place < i) ⊎ ((place ≡ i) × IsUpTo f g)

abbrev pub is_up_to : TypeFault → TypeFault → Bool
is_up_to f g = nat_lt (number f) (number g) || (nat_eq (number f) (number g) && nat_le (offset f) (offset g))

abbrev pub lesser : Option TypeFault → Option TypeFault → Option TypeFault
lesser None g = g
lesser (Some f) None = Some f
lesser (Some f) (Some g) = cond (is_up_to f g) (Some f) (Some g)

abbrev pub least : List TypeFault → Option TypeFault
least [] = None
least (f ∷ fs) = lesser (Some f) (least fs)

abbrev pub earlier : Option TypeFault → Option TypeFault → Option TypeFault
earlier None g = g
earlier (Some f) g = Some f

-- the least fault of the first place that has one
abbrev pub first : Places → Option TypeFault
first [] = None
first (fs ∷ ps) = earlier (least fs) (first ps)

-- A node's place comes after those of its parts, and it has faults of its own where they have none.
abbrev pub where_none : Option TypeFault → List TypeFault → List TypeFault
where_none None own = own
where_none (Some f) own = []

abbrev pub node : Places → List TypeFault → Places
node parts own = parts ++ where_none (first parts) own ∷ []
