use Rattle.launches.proofs.ExampleLaws as examples
use Rattle.launches.proofs.next_laws.arrays.Goals as goal

pub returns-clause-kept : goal.returns-clause-kept
returns-clause-kept c = examples.element_kept

pub returns-clause-narrowed : goal.returns-clause-narrowed
returns-clause-narrowed c = examples.element_narrowed

pub returns-clause-unset : goal.returns-clause-unset
returns-clause-unset c = examples.element_unset

pub returns-clause-value_first : goal.returns-clause-value_first
returns-clause-value_first c = examples.value_first

pub returns-clause-load_first : goal.returns-clause-load_first
returns-clause-load_first c = examples.load_first

pub returns-clause-unset_again : goal.returns-clause-unset_again
returns-clause-unset_again c = examples.unset_again

pub returns-clause-local : goal.returns-clause-local
returns-clause-local c = examples.array_is_local
