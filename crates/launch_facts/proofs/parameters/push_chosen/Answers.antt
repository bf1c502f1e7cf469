use Rattle.std.proofs.Common.{[], ◌∷◌, ◌++◌}
use Rattle.std.proofs.lemmas.List.Elements.{All-push, All-same}
use Rattle.launch_facts.specs.Parameters.{TellsOf}
use Rattle.launch_facts.proofs.Told.{tells_of}
use Rattle.launch_facts.proofs.parameters.push_chosen.Goals as goal

pub returns-clause-told : goal.returns-clause-told
returns-clause-told c = λ h.
    All-same (TellsOf c.args.byte c.args.parameters.now c.args.names.now) c.push.new.self.items (c.args.found.now.items ++ c.in_ok-facts.facts ∷ []) c.in_ok-push.ensures.items
    (All-push (TellsOf c.args.byte c.args.parameters.now c.args.names.now) c.args.found.now.items c.in_ok-facts.facts h
    (tells_of c.args.byte c.args.parameters.now c.args.names.now c.args.index _ c.in_ok-facts.facts c.requires c.in_ok-facts.ensures))
