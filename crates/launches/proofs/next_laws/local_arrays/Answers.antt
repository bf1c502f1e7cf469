use Rattle.launches.proofs.ExampleLaws as examples
use Rattle.launches.proofs.next_laws.local_arrays.Goals as goal

pub returns-clause-numbered : goal.returns-clause-numbered
returns-clause-numbered c = examples.array_numbered

pub returns-clause-narrow : goal.returns-clause-narrow
returns-clause-narrow c = examples.array_narrow

pub returns-clause-passed_on : goal.returns-clause-passed_on
returns-clause-passed_on c = examples.array_passed_on
