use Rattle.launches.proofs.ExampleLaws as examples
use Rattle.launches.proofs.next_laws.arrays_in_blocks.Goals as goal

pub returns-clause-called : goal.returns-clause-called
returns-clause-called c = examples.array_called

pub returns-clause-called_again : goal.returns-clause-called_again
returns-clause-called_again c = examples.array_called_again

pub returns-clause-added_by_helper : goal.returns-clause-added_by_helper
returns-clause-added_by_helper c = examples.array_added_by_helper

pub returns-clause-longer : goal.returns-clause-longer
returns-clause-longer c = examples.array_longer

pub returns-clause-shorter : goal.returns-clause-shorter
returns-clause-shorter c = examples.array_shorter

pub returns-clause-unset_behind : goal.returns-clause-unset_behind
returns-clause-unset_behind c = examples.array_unset_behind

pub returns-clause-hidden : goal.returns-clause-hidden
returns-clause-hidden c = examples.array_hidden

pub returns-clause-seen_again : goal.returns-clause-seen_again
returns-clause-seen_again c = examples.array_seen_again

pub returns-clause-hiding : goal.returns-clause-hiding
returns-clause-hiding c = examples.array_hiding

pub returns-clause-local_again : goal.returns-clause-local_again
returns-clause-local_again c = examples.array_local_again

pub returns-clause-first_turn_continued : goal.returns-clause-first_turn_continued
returns-clause-first_turn_continued c = examples.array_first_turn_continued

pub returns-clause-third_turn : goal.returns-clause-third_turn
returns-clause-third_turn c = examples.array_third_turn
