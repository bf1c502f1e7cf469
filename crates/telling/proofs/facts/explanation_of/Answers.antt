use Rattle.telling.proofs.facts.explanation_of.Goals as goal

pub returns-clause-played : goal.returns-clause-played
returns-clause-played c = record { deeds = c.in_ok-body.ensures.deeds; events = c.in_ok-body.ensures.events; steps = c.in_ok-steps.ensures; why = c.in_ok-body.ensures.why }
