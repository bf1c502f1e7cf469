use Rattle.std.proofs.Common.{◌≡◌, false, ◌||◌, [], ◌∷◌, get_or}
use Rattle.group_traces.proofs.Fours.{each_of_four}
use Rattle.group_traces.proofs.word.either.Goals as goal

pub returns : goal.returns
returns c =
    each_of_four (λ k. get_or (c.or.result ∷ c.or-2.result ∷ c.or-3.result ∷ c.or-4.result ∷ []) k false ≡ (get_or c.args.a k false || get_or c.args.b k false))
    c.or.ensures c.or-2.ensures c.or-3.ensures c.or-4.ensures
