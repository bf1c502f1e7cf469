-- The next action of some kernels, computed.
use Rattle.std.proofs.Common.{◌≡◌, pos, negsuc, [], ◌∷◌, refl}
use Rattle.clnum.specs.Conversions as conversions
use Rattle.clnum.specs.Integer as integer
use Rattle.clnum.specs.Operations as operations
use Rattle.clnum.specs.declared.int_type.IntType.TheVariants.{Uint, Ulong}
use Rattle.clmodel.specs.Next.{next}
use Rattle.launches.specs.Examples.{stores, waits, sum_by_helper, three_turns, continues, three_barriers, nested, through_local, kept_in_private, narrowed, unset_element, stored_before, loaded_behind, declared_again, in_local_array, stepped, stepped_unset, put_at, added_at, added_to_unset, unset_index, unset_value, without_ticks, called_again, added_by_helper, shorter_behind, unset_behind, hidden, local_hidden, continued_past, numbered, passed_on, sum_of_fetches, dropped_values}
use Rattle.clmodel.specs.declared.access.Class.TheVariants as class
use Rattle.clmodel.specs.declared.access.FetchOp.TheVariants as fetch_op
use Rattle.clmodel.specs.declared.access.Object.TheVariants as object
use Rattle.clmodel.specs.declared.access.Operation.TheVariants as operation
use Rattle.clmodel.specs.declared.access.Width.TheVariants.{One, Four}
use Rattle.clmodel.specs.declared.action.Action.TheVariants as action
use Rattle.clmodel.specs.declared.action.Answer.TheVariants.{Value, Done}
use Rattle.clmodel.specs.declared.action.Cause.TheVariants as cause

pub sum_is_stored : next (sum_by_helper 5) 0 [] ≡ stores 10
unfolding next operations.binary_value integer.wrap conversions.common conversions.promoted integer.converted integer.bits_of
sum_is_stored = refl

pub sum_is_over : next (sum_by_helper 4) 0 [] ≡ action.Fault cause.Budget
unfolding next operations.binary_value integer.wrap conversions.common conversions.promoted integer.converted integer.bits_of
sum_is_over = refl

pub turns_end : next (three_turns 6) 0 (Done ∷ Done ∷ Done ∷ []) ≡ action.End
unfolding next operations.binary_value integer.wrap conversions.common conversions.promoted integer.converted integer.bits_of
turns_end = refl

pub turns_are_over : next (three_turns 5) 0 (Done ∷ Done ∷ []) ≡ action.Fault cause.Budget
unfolding next operations.binary_value integer.wrap conversions.common conversions.promoted integer.converted integer.bits_of
turns_are_over = refl

pub continued_twice : next (continues 2) 0 [] ≡ action.End
unfolding next operations.binary_value integer.wrap conversions.common conversions.promoted integer.converted integer.bits_of
continued_twice = refl

pub first_part : next (three_barriers 9) 0 [] ≡ waits 0 []
unfolding next operations.binary_value integer.wrap conversions.common conversions.promoted integer.converted integer.bits_of
first_part = refl

pub body_first : next (three_barriers 9) 0 (Done ∷ []) ≡ waits 2 (1 ∷ [])
unfolding next operations.binary_value integer.wrap conversions.common conversions.promoted integer.converted integer.bits_of
body_first = refl

pub third_part : next (three_barriers 9) 0 (Done ∷ Done ∷ []) ≡ waits 1 (1 ∷ [])
unfolding next operations.binary_value integer.wrap conversions.common conversions.promoted integer.converted integer.bits_of
third_part = refl

pub body_again : next (three_barriers 9) 0 (Done ∷ Done ∷ Done ∷ []) ≡ waits 2 (2 ∷ [])
unfolding next operations.binary_value integer.wrap conversions.common conversions.promoted integer.converted integer.bits_of
body_again = refl

pub helper_turn : next (nested 20) 0 (Done ∷ []) ≡ waits 1 (1 ∷ 1 ∷ [])
unfolding next operations.binary_value integer.wrap conversions.common conversions.promoted integer.converted integer.bits_of
helper_turn = refl

pub helper_again : next (nested 20) 0 (Done ∷ Done ∷ []) ≡ waits 2 (1 ∷ 1 ∷ [])
unfolding next operations.binary_value integer.wrap conversions.common conversions.promoted integer.converted integer.bits_of
helper_again = refl

pub outer_turn : next (nested 20) 0 (Done ∷ Done ∷ Done ∷ []) ≡ waits 0 (2 ∷ 1 ∷ [])
unfolding next operations.binary_value integer.wrap conversions.common conversions.promoted integer.converted integer.bits_of
outer_turn = refl

pub local_is_stored : next (through_local 9) 0 [] ≡ action.Access (object.Local 1) (pos 0) (operation.Store Four 1)
unfolding next integer.converted integer.bits_of integer.wrap
local_is_stored = refl

pub local_is_loaded : next (through_local 9) 0 (Done ∷ Done ∷ []) ≡ action.Access (object.Local 1) (pos 0) (operation.Load Four)
unfolding next integer.wrap
local_is_loaded = refl

pub element_kept : next (kept_in_private 9) 0 [] ≡ stores 8
unfolding next operations.binary_value integer.wrap conversions.common conversions.promoted integer.converted integer.bits_of
element_kept = refl

pub element_narrowed : next (narrowed 9) 0 [] ≡ stores 44
unfolding next operations.binary_value integer.wrap conversions.common conversions.promoted integer.converted integer.bits_of
element_narrowed = refl

pub element_unset : next (unset_element 9) 0 [] ≡ action.Fault (cause.UnsetElement 106 (pos 1))
unfolding next operations.binary_value integer.wrap conversions.common conversions.promoted integer.converted integer.bits_of
element_unset = refl

pub value_first : next (stored_before 9) 0 [] ≡ action.Fault cause.DivideByZero
unfolding next operations.binary_value integer.wrap conversions.common conversions.promoted integer.converted integer.bits_of
value_first = refl

pub load_first : next (loaded_behind 9) 0 [] ≡ action.Fault (cause.PrivateBounds 106 (pos 2))
unfolding next operations.binary_value integer.wrap conversions.common conversions.promoted integer.converted integer.bits_of
load_first = refl

pub unset_again : next (declared_again 9) 0 [] ≡ action.Fault (cause.UnsetElement 106 (pos 0))
unfolding next operations.binary_value integer.wrap conversions.common conversions.promoted integer.converted integer.bits_of
unset_again = refl

pub array_is_local : next (in_local_array 9) 0 [] ≡ action.Access (object.Local 2) (pos 1) (operation.Store Four 3)
unfolding next operations.binary_value integer.wrap conversions.common conversions.promoted integer.converted integer.bits_of
array_is_local = refl

pub array_stepped : next (stepped 9) 0 [] ≡ stores 4294967168
unfolding next operations.binary_value integer.wrap conversions.common conversions.promoted integer.converted integer.bits_of
array_stepped = refl

pub array_stepped_unset : next (stepped_unset 9) 0 [] ≡ action.Fault (cause.UnsetElement 106 (pos 1))
unfolding next operations.binary_value integer.wrap conversions.common conversions.promoted integer.converted integer.bits_of
array_stepped_unset = refl

pub array_all_bits : next (put_at (record { kind = Ulong; number = pos 18446744073709551615 }) 9) 0 [] ≡ action.Fault (cause.PrivateBounds 106 (negsuc 0))
unfolding next operations.binary_value integer.wrap conversions.common conversions.promoted integer.converted integer.bits_of
array_all_bits = refl

pub array_half_of_them : next (added_at (record { kind = Ulong; number = pos 9223372036854775808 }) 9) 0 [] ≡ action.Fault (cause.PrivateBounds 106 (negsuc 9223372036854775807))
unfolding next operations.binary_value integer.wrap conversions.common conversions.promoted integer.converted integer.bits_of
array_half_of_them = refl

pub array_unsigned : next (put_at (record { kind = Uint; number = pos 4294967295 }) 9) 0 [] ≡ action.Fault (cause.PrivateBounds 106 (pos 4294967295))
unfolding next operations.binary_value integer.wrap conversions.common conversions.promoted integer.converted integer.bits_of
array_unsigned = refl

pub array_element_before_value : next (added_to_unset 9) 0 [] ≡ action.Fault (cause.UnsetElement 106 (pos 1))
unfolding next operations.binary_value integer.wrap conversions.common conversions.promoted integer.converted integer.bits_of
array_element_before_value = refl

pub array_index_before_value : next (unset_index 9) 0 [] ≡ action.Fault (cause.UnsetVariable 105)
unfolding next operations.binary_value integer.wrap conversions.common conversions.promoted integer.converted integer.bits_of
array_index_before_value = refl

pub array_value_before_range : next (unset_value 9) 0 [] ≡ action.Fault (cause.UnsetVariable 105)
unfolding next operations.binary_value integer.wrap conversions.common conversions.promoted integer.converted integer.bits_of
array_value_before_range = refl

pub array_no_ticks : next (without_ticks 1) 0 [] ≡ stores 10
unfolding next operations.binary_value integer.wrap conversions.common conversions.promoted integer.converted integer.bits_of
array_no_ticks = refl

pub array_no_ticks_behind : next (without_ticks 1) 0 (Done ∷ []) ≡ action.Fault (cause.PrivateBounds 106 (pos 1))
unfolding next operations.binary_value integer.wrap conversions.common conversions.promoted integer.converted integer.bits_of
array_no_ticks_behind = refl

pub array_called : next (called_again 9) 0 [] ≡ stores 1
unfolding next operations.binary_value integer.wrap conversions.common conversions.promoted integer.converted integer.bits_of
array_called = refl

pub array_called_again : next (called_again 9) 0 (Done ∷ []) ≡ action.Fault (cause.UnsetElement 106 (pos 0))
unfolding next operations.binary_value integer.wrap conversions.common conversions.promoted integer.converted integer.bits_of
array_called_again = refl

pub array_added_by_helper : next (added_by_helper 9) 0 [] ≡ stores 9
unfolding next operations.binary_value integer.wrap conversions.common conversions.promoted integer.converted integer.bits_of
array_added_by_helper = refl

pub array_longer : next (shorter_behind 9) 0 [] ≡ stores 7
unfolding next operations.binary_value integer.wrap conversions.common conversions.promoted integer.converted integer.bits_of
array_longer = refl

pub array_shorter : next (shorter_behind 9) 0 (Done ∷ []) ≡ action.Fault (cause.PrivateBounds 108 (pos 2))
unfolding next operations.binary_value integer.wrap conversions.common conversions.promoted integer.converted integer.bits_of
array_shorter = refl

pub array_unset_behind : next (unset_behind 9) 0 [] ≡ action.Fault (cause.UnsetElement 108 (pos 0))
unfolding next operations.binary_value integer.wrap conversions.common conversions.promoted integer.converted integer.bits_of
array_unset_behind = refl

pub array_hidden : next (hidden 9) 0 [] ≡ stores 3
unfolding next operations.binary_value integer.wrap conversions.common conversions.promoted integer.converted integer.bits_of
array_hidden = refl

pub array_seen_again : next (hidden 9) 0 (Done ∷ []) ≡ action.Access (object.Buffer 0) (pos 1) (operation.Store Four 1)
unfolding next operations.binary_value integer.wrap conversions.common conversions.promoted integer.converted integer.bits_of
array_seen_again = refl

pub array_hiding : next (local_hidden 9) 0 (Done ∷ []) ≡ stores 6
unfolding next operations.binary_value integer.wrap conversions.common conversions.promoted integer.converted integer.bits_of
array_hiding = refl

pub array_local_again : next (local_hidden 9) 0 (Done ∷ Done ∷ []) ≡ action.Access (object.Local 1) (pos 0) (operation.Load Four)
unfolding next operations.binary_value integer.wrap conversions.common conversions.promoted integer.converted integer.bits_of
array_local_again = refl

pub array_first_turn_continued : next (continued_past 9) 0 [] ≡ stores 1
unfolding next operations.binary_value integer.wrap conversions.common conversions.promoted integer.converted integer.bits_of
array_first_turn_continued = refl

pub array_third_turn : next (continued_past 9) 0 (Done ∷ []) ≡ stores 2
unfolding next operations.binary_value integer.wrap conversions.common conversions.promoted integer.converted integer.bits_of
array_third_turn = refl

pub array_numbered : next (numbered 9) 0 [] ≡ action.Access (object.Local 5) (pos 0) (operation.Store Four 3)
unfolding next operations.binary_value integer.wrap conversions.common conversions.promoted integer.converted integer.bits_of
array_numbered = refl

pub array_narrow : next (numbered 9) 0 (Done ∷ []) ≡ action.Access (object.Local 4) (pos 4) (operation.Store One 9)
unfolding next operations.binary_value integer.wrap conversions.common conversions.promoted integer.converted integer.bits_of
array_narrow = refl

pub array_passed_on : next (passed_on 9) 0 [] ≡ action.Access (object.Local 2) (pos 4) (operation.Store Four 1)
unfolding next operations.binary_value integer.wrap conversions.common conversions.promoted integer.converted integer.bits_of
array_passed_on = refl

-- ---- atomic functions whose old number is used; a whole statement is an update, but for an exchange

pub fetches_first : next sum_of_fetches 0 [] ≡ action.Access (object.Buffer 0) (pos 0) (operation.Fetch (fetch_op.Class class.Add) 3)
unfolding next operations.binary_value operations.unary_value integer.wrap conversions.common conversions.promoted integer.converted integer.bits_of
fetches_first = refl

pub fetches_then : next sum_of_fetches 0 (Value 0 ∷ []) ≡ action.Access (object.Buffer 0) (pos 0) (operation.Fetch (fetch_op.CompareExchange 3) 9)
unfolding next operations.binary_value operations.unary_value integer.wrap conversions.common conversions.promoted integer.converted integer.bits_of
fetches_then = refl

pub fetches_last : next sum_of_fetches 0 (Value 0 ∷ Value 3 ∷ []) ≡ action.Access (object.Buffer 0) (pos 1) (operation.Store Four 3)
unfolding next operations.binary_value operations.unary_value integer.wrap conversions.common conversions.promoted integer.converted integer.bits_of
fetches_last = refl

pub dropped_first : next dropped_values 0 [] ≡ action.Access (object.Buffer 0) (pos 0) (operation.Update class.Add 4294967294)
unfolding next operations.binary_value operations.unary_value integer.wrap conversions.common conversions.promoted integer.converted integer.bits_of
dropped_first = refl

pub dropped_then : next dropped_values 0 (Done ∷ []) ≡ action.Access (object.Buffer 0) (pos 0) (operation.Fetch fetch_op.Exchange 5)
unfolding next operations.binary_value operations.unary_value integer.wrap conversions.common conversions.promoted integer.converted integer.bits_of
dropped_then = refl

pub dropped_end : next dropped_values 0 (Done ∷ Value 7 ∷ []) ≡ action.End
unfolding next operations.binary_value operations.unary_value integer.wrap conversions.common conversions.promoted integer.converted integer.bits_of
dropped_end = refl
