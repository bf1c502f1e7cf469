-- What is told of a parameter that a list has at an index.
use Rattle.std.proofs.Common.{◌≡◌, ℕ, ◌<◌, Option, Some, List, length, get_or, slice_get, sym, subst}
use Rattle.std.proofs.lemmas.Option.{slice_get-get_or}
use Rattle.clmodel.specs.declared.tree.Parameter.{Parameter}
use Rattle.explanation.specs.declared.told.ParameterFacts.{ParameterFacts}
use Rattle.launch_facts.specs.Parameters.{IsFacts, TellsOf}

pub tells_of :
    (byte : Option ℕ) (parameters : List Parameter) (names : List (List ℕ)) (i : ℕ) (d : Parameter) (p : ParameterFacts) → i < length parameters → IsFacts byte names i (get_or parameters i d) p
    → TellsOf byte parameters names p
tells_of byte parameters names i d p l f = record {
  parameter = get_or parameters i d;
  at = subst (λ k. slice_get parameters k ≡ Some (get_or parameters i d)) (sym f.index) (slice_get-get_or parameters i d l);
  facts = subst (λ k. IsFacts byte names k (get_or parameters i d) p) (sym f.index) f;
}
