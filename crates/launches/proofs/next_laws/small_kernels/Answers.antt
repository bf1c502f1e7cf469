use Rattle.launches.proofs.ExampleLaws as examples
use Rattle.launches.proofs.next_laws.small_kernels.Goals as goal

pub returns-clause-helper_returns : goal.returns-clause-helper_returns
returns-clause-helper_returns c = examples.sum_is_stored

pub returns-clause-turns_are_ticks : goal.returns-clause-turns_are_ticks
returns-clause-turns_are_ticks c = examples.sum_is_over

pub returns-clause-three_turns : goal.returns-clause-three_turns
returns-clause-three_turns c = examples.turns_end

pub returns-clause-third_turn : goal.returns-clause-third_turn
returns-clause-third_turn c = examples.turns_are_over

pub returns-clause-continued : goal.returns-clause-continued
returns-clause-continued c = examples.continued_twice

pub returns-clause-first_part : goal.returns-clause-first_part
returns-clause-first_part c = examples.first_part

pub returns-clause-body : goal.returns-clause-body
returns-clause-body c = examples.body_first

pub returns-clause-third_part : goal.returns-clause-third_part
returns-clause-third_part c = examples.third_part

pub returns-clause-body_again : goal.returns-clause-body_again
returns-clause-body_again c = examples.body_again

pub returns-clause-broken : goal.returns-clause-broken
returns-clause-broken c = examples.helper_turn

pub returns-clause-second_call : goal.returns-clause-second_call
returns-clause-second_call c = examples.helper_again

pub returns-clause-outer_turn : goal.returns-clause-outer_turn
returns-clause-outer_turn c = examples.outer_turn
