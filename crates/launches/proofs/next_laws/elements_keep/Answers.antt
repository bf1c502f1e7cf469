use Rattle.launches.proofs.Elements as element
use Rattle.launches.proofs.next_laws.elements_keep.Goals as goal

pub returns-clause-put : goal.returns-clause-put
returns-clause-put c = element.put_is_read

pub returns-clause-kept : goal.returns-clause-kept
returns-clause-kept c = element.others_stay

pub returns-clause-as_many : goal.returns-clause-as_many
returns-clause-as_many c = element.length_stays

pub returns-clause-put_outside : goal.returns-clause-put_outside
returns-clause-put_outside c = element.put_outside

pub returns-clause-read_outside : goal.returns-clause-read_outside
returns-clause-read_outside c = element.read_outside

pub returns-clause-unset : goal.returns-clause-unset
returns-clause-unset c = element.read_unset

pub returns-clause-declared : goal.returns-clause-declared
returns-clause-declared c = element.unset_at_first
