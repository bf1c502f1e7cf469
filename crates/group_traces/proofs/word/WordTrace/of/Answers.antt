use Rattle.std.proofs.Common.{◌≡◌, false, [], ◌∷◌, refl}
use Rattle.shadow.specs.Seen.{byte_mark}
use Rattle.group_traces.specs.Traces.{first_in, word_byte}
use Rattle.group_traces.specs.declared.word.WordTrace.{WordTrace}
use Rattle.group_traces.proofs.Fours.{each_of_four}
use Rattle.group_traces.proofs.word.WordTrace.of.Goals as goal

pub returns : goal.returns
returns c =
    let w : WordTrace = record { interval = c.args.interval; mark = c.args.mark; many = false; mixed = false ∷ false ∷ false ∷ false ∷ []; several = false ∷ false ∷ false ∷ false ∷ [] } in
    each_of_four (λ k. word_byte w k ≡ first_in c.args.interval (byte_mark c.args.mark k) false) refl refl refl refl
