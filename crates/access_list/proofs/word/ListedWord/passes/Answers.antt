use Rattle.std.proofs.Common.{◌%◌, sym, ap, ◌∙◌, subst, arith}
use Rattle.clmodel.specs.Cells.{byte_of}
use Rattle.access_list.specs.Cells.{Passes}
use Rattle.access_list.specs.Recent.{in_word}
use Rattle.access_list.specs.declared.word.ListedWord.{ListedWord}
use Rattle.access_list.proofs.Words.{left_in_word}
use Rattle.access_list.proofs.word.ListedWord.passes.Goals as goal

pub returns-in-Whole : goal.returns-in-Whole
returns-in-Whole c h byte lo hi =
    let x = c.args.x.now in
    let first = c.args.first in
    subst (λ (w : ListedWord). Passes c.args.uniform (in_word c.args.apart.now w (byte % 4)) x byte) (sym c.in-Whole.is)
    (c.passes.ensures h (byte_of (byte % 4)) byte
    (left_in_word x first byte (omega (arith, c.requires.one_word, c.if-count-eq-WORD_BYTES.true)) c.requires.after lo (omega (arith, hi, c.if-count-eq-WORD_BYTES.true))
    ∙ ap (byte_of (byte % 4)) (sym c.word_left.ensures)))
