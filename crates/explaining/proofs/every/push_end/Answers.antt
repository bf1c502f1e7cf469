use Rattle.std.proofs.Common.{◌++◌, ◌∙◌, ap, arith, string_bytes}
use Rattle.explaining.specs.Whole.{heading}
use Rattle.explaining.proofs.every.push_end.Goals as goal

pub place-place-requires : goal.place-place-requires
place-place-requires c = omega (arith, c.requires.within, c.requires.placed)

pub returns-clause-told : goal.returns-clause-told
returns-clause-told c = record {
  place = c.place-place.result;
  stands = c.place-place.ensures.placed;
  own = string_bytes c.in_ok-text.text;
  tells = c.in_ok-text.ensures.tells;
  added =
      c.in_ok-push_headed.ensures
      ∙ ap (λ t. string_bytes c.args.out.now ++ (heading c.args.performed.now.options.format c.args.ticket c.place-place.result.line ++ t)) c.as_str.ensures.value;
}
