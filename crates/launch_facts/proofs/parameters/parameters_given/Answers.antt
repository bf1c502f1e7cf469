use Rattle.std.proofs.Common.{[], sym, subst}
use Rattle.std.proofs.lemmas.List.Elements.{All-nil, All-same}
use Rattle.launch_facts.specs.Parameters.{IsGiven, AreChosen, TellsOf, indexes}
use Rattle.launch_facts.proofs.Lasts.{chosen_none, chosen_more}
use Rattle.launch_facts.proofs.parameters.parameters_given.Goals as goal

pub loop-index-init : goal.loop-index-init
loop-index-init c = (
  subst (λ xs. AreChosen (IsGiven c.args.commands.now c.args.done.now c.args.kernel.now c.args.buffer.now) 0 (indexes xs)) (sym c.new-found.ensures.items) (chosen_none (IsGiven c.args.commands.now c.args.done.now c.args.kernel.now c.args.buffer.now)),
  All-same (TellsOf c.args.byte c.args.parameters.now c.args.names.now) c.new-found.result.items [] c.new-found.ensures.items (All-nil (TellsOf c.args.byte c.args.parameters.now c.args.names.now)),
)

pub loop-index-preserved : goal.loop-index-preserved
loop-index-preserved c = (
  chosen_more (IsGiven c.args.commands.now c.args.done.now c.args.kernel.now c.args.buffer.now) c.loop-index.index c.is_given-is_chosen.result (indexes c.loop-index.found.items) (indexes c.push_chosen.new.found.items)
      c.is_given-is_chosen.ensures c.in_ok-push_chosen.ensures.indexes c.loop-index.invariant.0,
  c.in_ok-push_chosen.ensures.told c.loop-index.invariant.1,
)
