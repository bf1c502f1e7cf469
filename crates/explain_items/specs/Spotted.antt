-- Items that a fault names, with their places in the source (own).
use Rattle.std.specs.Prelude.{◌≡◌, ◌<◌, ◌^◌, ℕ, Some, List, length, min, slice_get, string_bytes}
use Rattle.std.specs.Option.{IfNone, IfSome}
use Rattle.clmodel.specs.Setup.{kernel_in}
use Rattle.clmodel.specs.Tree.{Func}
use Rattle.explanation.specs.declared.places.Spot.{Spot}
use Rattle.explanation.specs.declared.told.NamedItem.{NamedItem}
use Rattle.explain_items.specs.Ids.{AreIds}
use Rattle.item_step.specs.Launches.{code_of, setup_of}
use Rattle.item_step.specs.declared.launch.Launch.{Launch}
use Rattle.origins.specs.Finding.{plain}
use Rattle.origins.specs.Marks.{Suits}
use Rattle.origins.specs.Origins.{node_at, node_of}
use Rattle.origins.specs.declared.origin.Origin.{Origin}
use Rattle.regcode.specs.declared.instruction.Instruction.{Instruction}
use Rattle.replay.specs.declared.slot.Stand.{Stand}
use Rattle.source_spots.specs.Spots.{AreCalls, HaveTurns, IsPlace, IsToldLine}
use Rattle.explain_items.specs.Marked.{origins_of}

-- a place in the source is where the node of an origin begins, and is told with its line; the calls of helpers round it
-- are those of the origin
pub record BeginsAt (text : List ℕ) (first : ℕ) (origin : Origin) (spot : Spot) : Type 0 where
  pub begins : spot.offset ≡ min (node_at (node_of origin.node)) (length text)
  pub stands : IsPlace text first spot.offset spot.line spot.column spot.script_line
  pub told : IsToldLine text spot.offset (string_bytes spot.text)
  pub called : AreCalls text first origin.through.items spot.calls.items

-- Where an item stands in the source: where the node begins that makes the instruction at the item's place. The loops
-- round it are told in the item's turns.
pub record IsSpotted (launch : Launch) (stand : Stand) (text : List ℕ) (first : ℕ) (spot : Spot) : Type 0 where
  pub instruction : Instruction
  pub stands : slice_get (code_of launch).instructions stand.place ≡ Some instruction
  pub kernel : Func
  pub known : kernel_in (setup_of launch).program.functions (setup_of launch).kernel ≡ Some kernel
  pub origin : Origin
  pub is : slice_get (origins_of launch kernel) stand.place ≡ Some (plain origin)
  pub suits : Suits instruction (node_of origin.node)
  pub begins_at : BeginsAt text first origin spot
  pub turned : HaveTurns stand.turns spot.loops.items

-- a place in the source is where an item stands of which p holds
abbrev pub HasSpot : Launch → List ℕ → ℕ → (Stand → Type 0) → Spot → Type 0
HasSpot launch text first p spot = (stand : Stand) × p stand × IsSpotted launch stand text first spot

-- a source that isn't longer than a checked one is, from such a line of its script on
abbrev pub IsTellable : List ℕ → ℕ → Type 0
IsTellable text first = (length text < 2 ^ 32) × (0 < first) × (first < 2 ^ 32)

-- an item stands at one of the instructions of a launch
abbrev pub StandsInside : Launch → Stand → Type 0
StandsInside launch stand = stand.place < length (code_of launch).instructions

-- no item stands so that p holds, or the source can't be told
abbrev pub HasNoSpot : List ℕ → ℕ → (Stand → Type 0) → Type 0
HasNoSpot text first p = (stand : Stand) → p stand → IsTellable text first → ⊥

-- The item of a number with its own ids (OpenCL 1.2, sections 3.2 and 6.12.1). What it does is told where it stands so
-- that `here` holds, and its last access where it stood so that `before` holds; none is told only where it can't be.
pub record IsNamed (launch : Launch) (text : List ℕ) (first : ℕ) (here before : Stand → Type 0) (item : ℕ) (named : NamedItem) : Type 0 where
  pub number : named.item ≡ item
  pub ids : AreIds (setup_of launch).range item named.ids
  pub spotted : IfSome named.spot (HasSpot launch text first here)
  pub unspotted : IfNone named.spot (HasNoSpot text first here)
  pub last_spotted : IfSome named.last (HasSpot launch text first before)
  pub last_unspotted : IfNone named.last (HasNoSpot text first before)

-- the same, of those stands alone that are at an instruction of the launch
abbrev pub IsNamedInside : Launch → List ℕ → ℕ → (Stand → Type 0) → (Stand → Type 0) → ℕ → NamedItem → Type 0
IsNamedInside launch text first here before item named =
    IsNamed launch text first (λ stand. here stand × StandsInside launch stand) (λ stand. before stand × StandsInside launch stand) item named
