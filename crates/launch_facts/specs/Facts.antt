-- What a fault tells (own): its number and name in the line of a reply, the items that it names, and its place in
-- memory.
use Rattle.std.specs.Prelude.{◌≡◌, ◌==◌, ◌+◌, ℕ, ℤ, List, [], ◌∷◌, codes, string_bytes, Option, None, Some, if◌then◌else◌}
use Rattle.std.specs.Option.{IsSomeAnd}
use Rattle.std.specs.Str.Lossy.{utf8_lossy}
use Rattle.byte_io.specs.Pieces.{joined}
use Rattle.clmodel.specs.declared.access.Clash.TheVariants.{Race, Order}
use Rattle.clmodel.specs.declared.fault.Fault.{Fault}
use Rattle.clmodel.specs.declared.fault.Fault.TheVariants as fault
use Rattle.clmodel.specs.declared.fault.Location.{Location}
use Rattle.clmodel.specs.declared.fault.Location.TheVariants as location
use Rattle.explanation.specs.declared.told.Memory.{Memory}
use Rattle.explanation.specs.declared.told.MemoryKind.{MemoryKind}
use Rattle.explanation.specs.declared.told.MemoryKind.TheVariants as memory

abbrev pub fault_number : Fault → ℕ
fault_number (fault.Conflict Race item kind other_item other_kind location byte) = 1
fault_number (fault.Conflict Order item kind other_item other_kind location byte) = 2
fault_number (fault.Divergence item stop other_item other_stop) = 3
fault_number (fault.Bounds item kind location element) = 4
fault_number (fault.PrivateBounds item array element) = 4
fault_number (fault.Unset item kind location byte) = 5
fault_number (fault.UnsetVariable item variable) = 5
fault_number (fault.UnsetElement item array element) = 5
fault_number (fault.DivideByZero item) = 6
fault_number (fault.DivideOverflow item) = 7
fault_number (fault.Budget item) = 8

-- the name of a number of faults
abbrev pub number_name : ℕ → List ℕ
number_name number =
    if number == 1 then codes "race" else (
    if number == 2 then codes "order" else (
    if number == 3 then codes "divergence" else (
    if number == 4 then codes "bounds" else (
    if number == 5 then codes "unset" else (
    if number == 6 then codes "divide_by_zero" else (
    if number == 7 then codes "divide_overflow" else codes "budget"))))))

-- the words with a number, which is one digit, in front of a fault's item, as the line of a reply has them
abbrev pub words_of_number : ℕ → List ℕ
words_of_number number = joined (codes "fault " ∷ ((48 + number) ∷ []) ∷ codes " " ∷ number_name number ∷ codes " item " ∷ [])

-- the items that a fault names, in its order
abbrev pub named_items : Fault → List ℕ
named_items (fault.Conflict clash item kind other_item other_kind location byte) = item ∷ other_item ∷ []
named_items (fault.Divergence item stop other_item other_stop) = item ∷ other_item ∷ []
named_items (fault.Bounds item kind location element) = item ∷ []
named_items (fault.PrivateBounds item array element) = item ∷ []
named_items (fault.Unset item kind location byte) = item ∷ []
named_items (fault.UnsetVariable item variable) = item ∷ []
named_items (fault.UnsetElement item array element) = item ∷ []
named_items (fault.DivideByZero item) = item ∷ []
named_items (fault.DivideOverflow item) = item ∷ []
named_items (fault.Budget item) = item ∷ []

abbrev pub kind_at : Location → MemoryKind
kind_at (location.Buffer name) = memory.Buffer
kind_at (location.Local group name) = memory.Local group

abbrev pub name_at : Location → List ℕ
name_at (location.Buffer name) = name
name_at (location.Local group name) = name

-- memory of a kind and a name with this byte and this element, whose size and parameters aren't known
pub record IsMemory (k : MemoryKind) (n : List ℕ) (b : Option ℕ) (e : Option ℤ) (m : Memory) : Type 0 where
  pub kind : m.kind ≡ k
  pub name : string_bytes m.name ≡ utf8_lossy n
  pub byte : m.byte ≡ b
  pub element : m.element ≡ e
  pub size : m.size ≡ None
  pub parameters : m.parameters.items ≡ []

-- the memory that a fault is about, if it is about any
abbrev pub TellsMemory : Fault → Option Memory → Type 0
TellsMemory (fault.Conflict clash item kind other_item other_kind location byte) o = IsSomeAnd o (IsMemory (kind_at location) (name_at location) (Some byte) None)
TellsMemory (fault.Divergence item stop other_item other_stop) o = o ≡ None
TellsMemory (fault.Bounds item kind location element) o = IsSomeAnd o (IsMemory (kind_at location) (name_at location) None (Some element))
TellsMemory (fault.PrivateBounds item array element) o = IsSomeAnd o (IsMemory memory.Private array None (Some element))
TellsMemory (fault.Unset item kind location byte) o = IsSomeAnd o (IsMemory (kind_at location) (name_at location) (Some byte) None)
TellsMemory (fault.UnsetVariable item variable) o = IsSomeAnd o (IsMemory memory.Variable variable None None)
TellsMemory (fault.UnsetElement item array element) o = IsSomeAnd o (IsMemory memory.Private array None (Some element))
TellsMemory (fault.DivideByZero item) o = o ≡ None
TellsMemory (fault.DivideOverflow item) o = o ≡ None
TellsMemory (fault.Budget item) o = o ≡ None
