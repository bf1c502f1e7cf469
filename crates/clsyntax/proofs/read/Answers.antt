-- What the tokens stand for, the source does.
use Rattle.std.proofs.lemmas.Result.{err_from_is_err_and}
use Rattle.clsyntax.specs.Correct.{IsReading}
use Rattle.clsyntax.specs.Source.{IsSource, read}
use Rattle.clsyntax.proofs.Unique.{gives_map}
use Rattle.clsyntax.proofs.SourceLaws.{refused_unless}
use Rattle.clsyntax.proofs.read.Goals as goal

pub returns : goal.returns
returns c =
    record { exact = gives_map c.parse.result (IsReading c.args.limits c.in_ok-tokens.tokens) (IsSource c.args.limits c.args.source.now) (λ s h. read c.in_ok-tokens.ensures.exact h) c.parse.ensures.exact }

pub returns-in_err-tokens : goal.returns-in_err-tokens
returns-in_err-tokens c =
    let p = err_from_is_err_and c.from_residual.result c.from_residual.ensures.1 in
    rw (p.1, p.2) (record { exact = refused_unless c.args.limits c.args.source.now c.in_err-tokens.field-0.0 c.in_err-tokens.ensures.exact })
