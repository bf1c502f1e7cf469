-- What a further group's run leaves in memory, joined to what the lower groups left (OpenCL 1.2, 3.3, 6.12.11; own).
use Rattle.std.specs.Prelude.{ℕ, ◌+◌, ◌-◌, ◌*◌, ◌/◌, ◌%◌, ◌^◌, Bool, true, false, ◌&&◌, ◌||◌, if◌then◌else◌, Option, None, Some, List, [], ◌∷◌}
use Rattle.clmodel.specs.Cells.{Cells, byte_count, byte_of, updated_word, covers, number}
use Rattle.clmodel.specs.Launch.{same_region}
use Rattle.clmodel.specs.Run.{Memory, or_else}
use Rattle.clmodel.specs.declared.access.Access.{Access}
use Rattle.clmodel.specs.declared.access.AccessKind.{AccessKind}
use Rattle.clmodel.specs.declared.access.AccessKind.TheVariants as kind
use Rattle.clmodel.specs.declared.access.Class.{Class}
use Rattle.clmodel.specs.declared.access.Class.TheVariants as class
use Rattle.clmodel.specs.declared.access.Region.{Region}

-- the number left of s where lower groups left a of it and a further group b, by updates of one class (6.12.11)
unfoldable pub joined_number : Class → ℕ → ℕ → ℕ → ℕ
joined_number class.Add s a b = (a + (b + (2 ^ 32 - s % 2 ^ 32))) % 2 ^ 32
joined_number class.And s a b = updated_word class.And a b
joined_number class.Or s a b = updated_word class.Or a b
joined_number class.Xor s a b = updated_word class.Xor a (updated_word class.Xor b s)
joined_number class.SignedMin s a b = updated_word class.SignedMin a b
joined_number class.UnsignedMin s a b = updated_word class.UnsignedMin a b
joined_number class.SignedMax s a b = updated_word class.SignedMax a b
joined_number class.UnsignedMax s a b = updated_word class.UnsignedMax a b

-- an access of a kind writes (3.3, 6.12.11)
abbrev pub writes : AccessKind → Bool
writes kind.Load = false
writes kind.Store = true
writes (kind.Update _) = true
writes kind.Fetch = true

-- the class of an update; a fetch is none (6.12.11)
abbrev pub class_of : AccessKind → Option Class
class_of kind.Load = None
class_of kind.Store = None
class_of (kind.Update class) = Some class
class_of kind.Fetch = None

-- an access is at a byte of a region (3.3)
abbrev pub at_byte : Region → ℕ → Access → Bool
at_byte region byte x = same_region region x.region && covers x.first (byte_count x.width) byte

-- whether an access of a log wrote a byte (3.3)
abbrev pub wrote : List Access → Region → ℕ → Bool
wrote [] region byte = false
wrote (x ∷ log) region byte = (writes x.kind && at_byte region byte x) || wrote log region byte

-- the class of the newest update at a byte (6.12.11)
abbrev pub class_at : List Access → Region → ℕ → Option Class
class_at [] region byte = None
class_at (x ∷ log) region byte = or_else (if at_byte region byte x then class_of x.kind else None) (class_at log region byte)

-- a byte of the joined number, where all three numbers are set (own)
abbrev pub joined_numbers : Class → ℕ → Option ℕ → Option ℕ → Option ℕ → Option ℕ
joined_numbers class k (Some s) (Some a) (Some b) = Some (byte_of k (joined_number class s a b))
joined_numbers class k (Some s) (Some a) None = None
joined_numbers class k (Some s) None b = None
joined_numbers class k None a b = None

-- a byte that lower groups and a further group wrote: by updates of a class it is that of the joined number, else it is
-- the further group's (own)
abbrev pub joined_update : Option Class → Cells → Cells → Cells → ℕ → Option ℕ
joined_update None first lower own byte = own byte
joined_update (Some class) first lower own byte =
    let word = byte / 4 * 4 in joined_numbers class (byte % 4) (number first word 4) (number lower word 4) (number own word 4)

-- The memory that a further group's run leaves, joined to that of the lower groups: a byte that it alone wrote is its
-- own, one that both wrote is joined by its class, and the rest is that of the lower groups (own).
unfoldable pub joined_memory : Memory → Memory → List Access → Memory → List Access → Memory
joined_memory first lower lower_log own own_log region byte =
    if wrote own_log region byte
    then (if wrote lower_log region byte then joined_update (class_at own_log region byte) (first region) (lower region) (own region) byte else own region byte)
    else lower region byte
