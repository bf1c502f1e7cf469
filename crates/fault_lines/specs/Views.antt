-- What is read from the front of bytes, as the values that the references show.
use Rattle.std.specs.Option.{option_map}
use Rattle.clmodel.specs.declared.action.Stop.{Stop}
use Rattle.clmodel.specs.declared.action.Stop.TheVariants as stop
use Rattle.clmodel.specs.declared.fault.Fault.{Fault}
use Rattle.clmodel.specs.declared.fault.Fault.TheVariants as fault
use Rattle.clmodel.specs.declared.fault.Location.{Location}
use Rattle.clmodel.specs.declared.fault.Location.TheVariants as location
use Rattle.fault_lines.specs.declared.lent.LentLocation.{LentLocation}
use Rattle.fault_lines.specs.declared.lent.LentLocation.TheVariants as place
use Rattle.fault_lines.specs.declared.lent.LentStop.{LentStop}
use Rattle.fault_lines.specs.declared.lent.LentStop.TheVariants as halt
use Rattle.fault_lines.specs.declared.lent.Conflict.{Conflict}
use Rattle.fault_lines.specs.declared.lent.Divergence.{Divergence}
use Rattle.fault_lines.specs.declared.lent.Bounds.{Bounds}
use Rattle.fault_lines.specs.declared.lent.Unset.{Unset}
use Rattle.fault_lines.specs.declared.lent.LentFault.{LentFault}
use Rattle.fault_lines.specs.declared.lent.LentFault.TheVariants as lent
use Rattle.fault_lines.specs.Fields.{turns_of}

abbrev pub location_of : LentLocation → Location
location_of (place.Buffer name) = location.Buffer name.now
location_of (place.Local group name) = location.Local group name.now

abbrev pub stop_of : LentStop → Stop
stop_of (halt.Barrier site turns) = stop.At (record { site = site; turns = turns_of (option_map (λ list. list.now) turns) })
stop_of halt.End = stop.Ended

abbrev pub conflict_of : Conflict → Fault
conflict_of lent = fault.Conflict lent.clash lent.item lent.kind lent.other_item lent.other_kind (location_of lent.place) lent.byte

abbrev pub divergence_of : Divergence → Fault
divergence_of lent = fault.Divergence lent.item (stop_of lent.stop) lent.other_item (stop_of lent.other_stop)

abbrev pub bounds_of : Bounds → Fault
bounds_of lent = fault.Bounds lent.item lent.kind (location_of lent.place) lent.element

abbrev pub unset_of : Unset → Fault
unset_of lent = fault.Unset lent.item lent.kind (location_of lent.place) lent.byte

abbrev pub fault_of : LentFault → Fault
fault_of (lent.Conflict conflict) = conflict_of conflict
fault_of (lent.Divergence divergence) = divergence_of divergence
fault_of (lent.Bounds bounds) = bounds_of bounds
fault_of (lent.PrivateBounds place) = fault.PrivateBounds place.item place.array.now place.element
fault_of (lent.Unset unset) = unset_of unset
fault_of (lent.UnsetVariable item variable) = fault.UnsetVariable item variable.now
fault_of (lent.UnsetElement place) = fault.UnsetElement place.item place.array.now place.element
fault_of (lent.DivideByZero item) = fault.DivideByZero item
fault_of (lent.DivideOverflow item) = fault.DivideOverflow item
fault_of (lent.Budget item) = fault.Budget item
