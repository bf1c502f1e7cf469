-- What is kept of each byte tells of the accesses that are kept, and of all (own, on OpenCL 1.2, 3.3.1, 6.5.2 and
-- 6.12.8).
use Rattle.std.specs.Prelude.{◌≡◌, ℕ, ◌^◌, ◌<◌, ◌≤◌, Bool, true, false, Option, None, Some, List, [], All}
use Rattle.clmodel.specs.declared.access.Access.{Access}
use Rattle.clmodel.specs.declared.access.Region.{Region}
use Rattle.clmodel.specs.declared.access.Region.TheVariants as region
use Rattle.joining.specs.Memory.{at_byte}
use Rattle.shadow.specs.Seen.{one_sort, mark_of, seen, seen_with}
use Rattle.shadow.specs.declared.seen.Mark.{Mark}
use Rattle.access_list.specs.declared.log.Entry.{Entry}
use Rattle.group_traces.specs.Traces.{untouched, is_now, takes}
use Rattle.group_traces.specs.Cells.{at_key, trace_of}
use Rattle.group_traces.specs.declared.trace.Trace.{Trace}
use Rattle.group_traces.specs.declared.traces.Traces.{Traces}
use Rattle.group_log.specs.Covers.{CoversAt}

-- an access is one of those of the running interval of which this is kept at a byte (6.12.8)
pub record IsOf (t : Trace) (interval : ℕ) (byte : ℕ) (y : Access) : Type 0 where
  pub now : is_now t interval ≡ true
  pub item : t.many ≡ false → y.item ≡ t.mark.item
  pub sort : t.mixed ≡ false → one_sort t.mark (mark_of y byte) ≡ true

-- an access at a byte, made in an interval, that tells there nothing that kept ones don't tell (3.3.1, own)
pub record Shown (uniform : Bool) (interval : ℕ) (kept : List Entry) (r : Region) (byte : ℕ) (y : Access) : Type 0 where
  pub at : at_byte r byte y ≡ true
  pub interval_is : y.interval ≡ interval
  pub covered : CoversAt uniform kept y byte

-- What is kept of a byte of a region stands for the kept accesses of the running interval there: each kept one is
-- described, and what is said was made: the first access, one of another item, and one of another sort where there is
-- no other item (own)
pub record SummarizesByte (uniform : Bool) (interval : ℕ) (kept : List Entry) (t : Trace) (r : Region) (byte : ℕ) : Type 0 where
  pub past : t.touched ≡ true → t.interval ≤ interval
  pub all : All (λ (e : Entry). at_byte r byte e.access ≡ true → IsOf t interval byte e.access) kept
  pub first : is_now t interval ≡ true → (y : Access) × Shown uniform interval kept r byte y × (mark_of y byte ≡ t.mark)
  pub other : is_now t interval ≡ true → t.many ≡ true
      → (y : Access) × Shown uniform interval kept r byte y × (y.item ≡ t.mark.item → ⊥) × (t.mixed ≡ false → one_sort t.mark (mark_of y byte) ≡ true)
  pub apart : is_now t interval ≡ true → t.mixed ≡ true → t.many ≡ false
      → (y : Access) × Shown uniform interval kept r byte y × (y.item ≡ t.mark.item) × (one_sort t.mark (mark_of y byte) ≡ false)

-- the region of an object of a number, by the region of another object that the group accesses in the same address
-- space (3.3)
abbrev pub region_at : Region → ℕ → Region
region_at (region.Buffer m) number = region.Buffer number
region_at (region.Local group m) number = region.Local group number

-- what is kept of all bytes stands for the kept accesses, by the region of the first one (own)
abbrev pub AllStand : Bool → ℕ → List Entry → Traces → Option Region → Type 0
AllStand uniform interval kept traces None = (kept ≡ []) × ((key b : ℕ) → at_key traces key b ≡ untouched)
AllStand uniform interval kept traces (Some home) = (number byte : ℕ) → number < 2 ^ 32 → SummarizesByte uniform interval kept (trace_of traces number byte) (region_at home number) byte

-- what is kept of the bytes of buffers tells of each access that is seen to tell other groups nothing new that it does
-- so (6.5.2, own)
abbrev pub AllTake : Traces → List Access → Type 0
AllTake traces log = (number byte : ℕ) (m : Mark) → number < 2 ^ 32 → takes (trace_of traces number byte) m ≡ true → seen_with (seen (region.Buffer number) byte log) m ≡ seen (region.Buffer number) byte log
