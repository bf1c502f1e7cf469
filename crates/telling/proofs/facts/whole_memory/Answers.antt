use Rattle.std.proofs.Common.{Option, refl, subst}
use Rattle.explanation.specs.declared.told.Memory.{Memory}
use Rattle.launch_facts.specs.Facts.{TellsMemory}
use Rattle.telling.proofs.facts.whole_memory.Goals as goal

pub returns : goal.returns
returns c =
    (c.in-Some.memory, subst (λ (o : Option Memory). TellsMemory c.args.fault.now o) c.in-Some.is c.in_ok-memory.ensures, record { kind = refl; name = refl; byte = refl; element = refl }, c.in_ok-size.ensures)

pub returns-in_default : goal.returns-in_default
returns-in_default c = subst (λ (o : Option Memory). TellsMemory c.args.fault.now o) c.in_default.is c.in_ok-memory.ensures
