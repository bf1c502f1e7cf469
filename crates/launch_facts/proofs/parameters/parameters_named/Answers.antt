use Rattle.std.proofs.Common.{◌≡◌, [], false, slice_get, sym, subst}
use Rattle.std.specs.Option.{option_map_or}
use Rattle.std.proofs.lemmas.List.Elements.{All-nil, All-same}
use Rattle.launch_facts.specs.Parameters.{is_named, AreChosen, TellsOf, indexes}
use Rattle.launch_facts.proofs.Lasts.{chosen_none, chosen_more}
use Rattle.launch_facts.proofs.parameters.parameters_named.Goals as goal

pub loop-index-init : goal.loop-index-init
loop-index-init c = (
  subst (λ xs. AreChosen (λ j is. is ≡ option_map_or (is_named c.args.names.now c.args.name.now) (slice_get c.args.parameters.now j) false) 0 (indexes xs)) (sym c.new-found.ensures.items) (chosen_none (λ j is. is ≡ option_map_or (is_named c.args.names.now c.args.name.now) (slice_get c.args.parameters.now j) false)),
  All-same (TellsOf c.args.byte c.args.parameters.now c.args.names.now) c.new-found.result.items [] c.new-found.ensures.items (All-nil (TellsOf c.args.byte c.args.parameters.now c.args.names.now)),
)

pub loop-index-preserved : goal.loop-index-preserved
loop-index-preserved c = (
  chosen_more (λ j is. is ≡ option_map_or (is_named c.args.names.now c.args.name.now) (slice_get c.args.parameters.now j) false) c.loop-index.index c.is_named-is_chosen.result (indexes c.loop-index.found.items) (indexes c.push_chosen.new.found.items)
      c.is_named-is_chosen.ensures c.in_ok-push_chosen.ensures.indexes c.loop-index.invariant.0,
  c.in_ok-push_chosen.ensures.told c.loop-index.invariant.1,
)
