use Rattle.std.proofs.Common.{length, sym, ◌∙◌, subst}
use Rattle.clsyntax_lex.specs.declared.pieces.Piece.TheVariants.{Gap}
use Rattle.clsyntax_lex.specs.Pieces as pieces
use Rattle.clsyntax_lex.proofs.FitLemmas.{word_piece-FitsIn, number_piece-FitsIn, symbol_piece-FitsIn, block_comment-FitsIn, line_comment-FitsIn}
use Rattle.clsyntax_lex.proofs.pieces.front_piece.Goals as goal

pub returns-then-starts_with-clause-fits : goal.returns-then-starts_with-clause-fits
returns-then-starts_with-clause-fits c =
    subst (λ len. pieces.FitsIn (length c.args.bytes.now) (Gap len)) (sym c.line_comment_len.ensures)
    (line_comment-FitsIn c.args.bytes.now (sym c.starts_with.ensures.value ∙ c.if-starts_with.true))

pub returns-then-starts_with-2-clause-fits : goal.returns-then-starts_with-2-clause-fits
returns-then-starts_with-2-clause-fits c =
    subst (pieces.FitsIn (length c.args.bytes.now)) (sym c.block_comment_piece.ensures)
    (block_comment-FitsIn c.args.bytes.now (sym c.starts_with-else-starts_with.ensures.value ∙ c.if-starts_with-2.true))

pub returns-then-is_name_start-clause-fits : goal.returns-then-is_name_start-clause-fits
returns-then-is_name_start-clause-fits c =
    subst (pieces.FitsIn (length c.args.bytes.now)) (sym c.word_piece.ensures)
    (word_piece-FitsIn c.args.bytes.now c.requires (sym c.is_name_start.ensures ∙ c.if-is_name_start.true))

pub returns-then-is_ascii_digit-clause-fits : goal.returns-then-is_ascii_digit-clause-fits
returns-then-is_ascii_digit-clause-fits c =
    subst (pieces.FitsIn (length c.args.bytes.now)) (sym c.number_piece.ensures)
    (number_piece-FitsIn c.args.bytes.now c.requires (sym c.is_ascii_digit.ensures.value ∙ c.if-is_ascii_digit.true))

pub returns-else-is_ascii_digit-clause-fits : goal.returns-else-is_ascii_digit-clause-fits
returns-else-is_ascii_digit-clause-fits c =
    subst (pieces.FitsIn (length c.args.bytes.now)) (sym c.symbol_piece.ensures) (symbol_piece-FitsIn c.args.bytes.now)
