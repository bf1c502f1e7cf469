use Rattle.launches.proofs.ExampleLaws as examples
use Rattle.launches.proofs.next_laws.elements_in_order.Goals as goal

pub returns-clause-stepped : goal.returns-clause-stepped
returns-clause-stepped c = examples.array_stepped

pub returns-clause-stepped_unset : goal.returns-clause-stepped_unset
returns-clause-stepped_unset c = examples.array_stepped_unset

pub returns-clause-all_bits : goal.returns-clause-all_bits
returns-clause-all_bits c = examples.array_all_bits

pub returns-clause-half_of_them : goal.returns-clause-half_of_them
returns-clause-half_of_them c = examples.array_half_of_them

pub returns-clause-unsigned : goal.returns-clause-unsigned
returns-clause-unsigned c = examples.array_unsigned

pub returns-clause-element_before_value : goal.returns-clause-element_before_value
returns-clause-element_before_value c = examples.array_element_before_value

pub returns-clause-index_before_value : goal.returns-clause-index_before_value
returns-clause-index_before_value c = examples.array_index_before_value

pub returns-clause-value_before_range : goal.returns-clause-value_before_range
returns-clause-value_before_range c = examples.array_value_before_range

pub returns-clause-no_ticks : goal.returns-clause-no_ticks
returns-clause-no_ticks c = examples.array_no_ticks

pub returns-clause-no_ticks_behind : goal.returns-clause-no_ticks_behind
returns-clause-no_ticks_behind c = examples.array_no_ticks_behind
