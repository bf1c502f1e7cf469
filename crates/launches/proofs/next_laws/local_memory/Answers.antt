use Rattle.launches.proofs.ExampleLaws as examples
use Rattle.launches.proofs.next_laws.local_memory.Goals as goal

pub returns-clause-store : goal.returns-clause-store
returns-clause-store c = examples.local_is_stored

pub returns-clause-load : goal.returns-clause-load
returns-clause-load c = examples.local_is_loaded
