use Rattle.std.proofs.Common.{◌≡◌, [], ◌∷◌, codes, decimal, ap, ◌∙◌, arith}
use Rattle.std.proofs.lemmas.Result.{IfOk-weaker}
use Rattle.byte_io.specs.Pieces.{joined}
use Rattle.simfile.specs.Fields.{hex}
use Rattle.simfile.specs.Script.{line_feed, space}
use Rattle.written_scripts.proofs.TextLaws.{all_bytes}
use Rattle.written_scripts.proofs.texts.fill_text.Goals as goal

pub returns : goal.returns
returns c =
    let digits : c.as_slice.result.now ≡ hex c.args.pattern.now = c.as_slice.ensures.value ∙ c.in_ok-digits.ensures in
    IfOk-weaker c.fill_line.result _ _
    (λ text e. (
      c.requires.named,
      omega (arith, c.ranges.offset.fits),
      omega (arith, c.ranges.count.fits),
      (c.requires.some, c.requires.few, all_bytes c.args.pattern.now (λ k l. omega (arith, (c.type_inv.pattern k).fits))),
      e ∙ ap (λ d. joined (codes "fill " ∷ c.args.buffer.now ∷ space ∷ decimal c.args.offset ∷ space ∷ decimal c.args.count ∷ space ∷ d ∷ line_feed ∷ [])) digits,
    ))
    c.fill_line.ensures
