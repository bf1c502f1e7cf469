use Rattle.launches.proofs.Elements as element
use Rattle.launches.proofs.next_laws.arrays_keep.Goals as goal

pub returns-clause-put : goal.returns-clause-put
returns-clause-put c = element.put_is_fetched

pub returns-clause-kept : goal.returns-clause-kept
returns-clause-kept c = element.others_are_fetched

pub returns-clause-arrays : goal.returns-clause-arrays
returns-clause-arrays c = element.arrays_stay

pub returns-clause-variables : goal.returns-clause-variables
returns-clause-variables c = element.variables_stay
