-- What is kept of the accesses of a group to each byte (own, on OpenCL 1.2, 3.3.1, 6.5.2 and 6.12.8).
use Rattle.std.specs.Prelude.{◌≡◌, ℕ, ◌<◌, ◌≤◌, ◌+◌, ◌-◌, ◌%◌, ◌==◌, ◌&&◌, ◌||◌, Bool, true, false, not, is_some, if◌then◌else◌, slice_index_or}
use Rattle.clmodel.specs.Cells.{covers}
use Rattle.clmodel.specs.declared.access.Access.{Access}
use Rattle.clmodel.specs.declared.access.AccessKind.TheVariants as kind
use Rattle.shadow.specs.Seen.{one_sort, mark_clash, byte_mark, mark_of}
use Rattle.shadow.specs.declared.seen.Mark.{Mark}
use Rattle.group_traces.specs.declared.single.Singles.{Singles}
use Rattle.group_traces.specs.declared.trace.Trace.{Trace}
use Rattle.group_traces.specs.declared.word.WordTrace.{WordTrace}

-- no access (own)
abbrev pub untouched : Trace
untouched = record { interval = 0; mark = record { item = 0; kind = kind.Load; left = 0 }; touched = false; many = false; mixed = false; several = false }

-- the first access of an interval (6.12.8)
abbrev pub first_in : ℕ → Mark → Bool → Trace
first_in interval m several = record { interval = interval; mark = m; touched = true; many = false; mixed = false; several = several }

-- whether accesses were of two sorts, with one more (own)
abbrev pub grows : Trace → Mark → Bool
grows t m = t.touched && (t.several || not (one_sort t.mark m))

-- a byte with one access more, made in an interval (6.12.8)
abbrev pub trace_with : Trace → ℕ → Mark → Trace
trace_with t interval m =
    if t.touched && (t.interval == interval)
    then record { interval = t.interval; mark = t.mark; touched = t.touched; many = t.many || not (t.mark.item == m.item); mixed = t.mixed || not (one_sort t.mark m); several = grows t m }
    else first_in interval m (grows t m)

-- whether it was accessed in an interval (6.12.8)
abbrev pub is_now : Trace → ℕ → Bool
is_now t interval = t.touched && (t.interval == interval)

-- whether an access of an interval is seen to conflict with none, in a launch that is uniform or not: there were none
-- in it, all are of its item, or all are of a sort that doesn't conflict with its own (3.3.1, 6.12.8)
abbrev pub passes : Bool → Trace → ℕ → Mark → Bool
passes uniform t interval m = not (is_now t interval) || (not t.many && (t.mark.item == m.item)) || (not t.mixed && not (is_some (mark_clash uniform t.mark m)))

-- whether whatever conflicts with an access of an interval is seen to conflict with an earlier one: two items made
-- accesses of its sort alone, or its item alone made one of its sort, or two of different sorts (3.3.1, own)
abbrev pub tells : Trace → ℕ → Mark → Bool
tells t interval m = is_now t interval && ((t.many && not t.mixed && one_sort t.mark m) || (not t.many && (t.mark.item == m.item) && (t.mixed || one_sort t.mark m)))

-- whether an access is seen to tell other groups nothing new: there were accesses of its sort, or of two (6.5.2, own)
abbrev pub takes : Trace → Mark → Bool
takes t m = t.touched && (t.several || one_sort t.mark m)

-- byte k of a word of which this is kept (own)
abbrev pub word_byte : WordTrace → ℕ → Trace
word_byte w k =
    record { interval = w.interval; mark = byte_mark w.mark k; touched = true; many = w.many; mixed = slice_index_or w.mixed k false; several = slice_index_or w.several k false }

-- what is kept of byte k of a word, with an access at so many of its bytes from the first on (own)
abbrev pub part_with : Access → ℕ → ℕ → ℕ → Trace → Trace
part_with x first count k t = if covers (first % 4) count k then trace_with t x.interval (mark_of x (first - first % 4 + k)) else t

-- what byte k of a word has of its access, of a word of which each byte was accessed once (own)
abbrev pub single_mark : Singles → ℕ → Mark
single_mark s k = record { item = slice_index_or s.who.items k 0; kind = s.how.kind; left = slice_index_or s.how.left k 0 }

-- what is kept of it (own)
abbrev pub single_byte : Singles → ℕ → Trace
single_byte s k = if slice_index_or s.how.touched k false then first_in s.who.interval (single_mark s k) false else untouched

-- it is still accessed once with an access more: it wasn't accessed, or by the same item, which left the same (own)
abbrev pub HoldsByte : Singles → ℕ → Mark → Type 0
HoldsByte s k m = slice_index_or s.how.touched k false ≡ true → single_mark s k ≡ m

-- so are so many bytes, from the first on (own)
pub record HoldsBytes (s : Singles) (x : Access) (first count : ℕ) : Type 0 where
  pub interval : s.who.interval ≡ x.interval
  pub kind : s.how.kind ≡ x.kind
  pub bytes : (byte : ℕ) → first ≤ byte → byte < first + count → HoldsByte s (byte % 4) (mark_of x byte)
