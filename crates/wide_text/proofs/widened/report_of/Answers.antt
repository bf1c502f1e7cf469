use Rattle.std.proofs.Common.{ap, ◌∙◌}
use Rattle.wide_text.specs.Told.{lines_of}
use Rattle.wide_text.proofs.widened.report_of.Goals as goal

pub returns : goal.returns
returns c =
    let places = c.args.performed.told.places.now in
    record {
      clean = c.is_clean.ensures;
      free = c.in_ok-free.ensures ∙ ap (λ f. lines_of f places) c.as_slice.ensures.value;
      reads = c.in_ok-reads.ensures ∙ ap (λ f. lines_of f places) c.as_slice-2.ensures.value;
    }
