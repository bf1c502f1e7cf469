use Rattle.std.proofs.Common.{◌≡◌, Some, ap, ◌∙◌, refl}
use Rattle.std.specs.HashMap.{get}
use Rattle.race_filter.specs.Sorts.{are_of_bytes, is_let, next_kept}
use Rattle.race_filter.specs.Words.{same_part}
use Rattle.race_filter.proofs.filter.RaceFilter.note_at.Goals as goal

pub returns : goal.returns
returns c =
    let x = c.args.x.now in
    let found : c.copied-found.result ≡ get same_part c.args.self.now.parts c.args.part = c.copied-found.ensures ∙ c.get.ensures.value in
    record {
      put = c.in_ok-insert.ensures.updates.1 ∙ ap Some c.next_kept.ensures ∙ ap (λ o. Some (next_kept c.args.group o x)) found;
      quiet = c.is_let.ensures ∙ ap (λ o. is_let c.args.group c.args.uniform o x) found;
      bytes = c.are_of_bytes.ensures ∙ ap are_of_bytes found;
      others = λ q f. c.in_ok-insert.ensures.updates.2 q f;
      whole = refl;
    }
