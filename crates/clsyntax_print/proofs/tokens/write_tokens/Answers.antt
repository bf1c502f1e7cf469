use Rattle.std.proofs.Common.{◌++◌, rules}
use Rattle.std.proofs.lemmas.Result.{err_from_is_err_and}
use Rattle.clsyntax_print.proofs.WritingLemmas.{passed_item, stopped_item}
use Rattle.clsyntax_print.proofs.tokens.write_tokens.Goals as goal

pub returns-in_err-write_token : goal.returns-in_err-write_token
returns-in_err-write_token g c rest =
    let p = err_from_is_err_and c.from_residual.result c.from_residual.ensures.1 in
    rw p.1 (stopped_item (λ ks. ks ++ rest) c.args.kinds.now c.loop-kind.kind-index c.kind-item.result c.kind-item.is (search rules) (c.loop-kind.invariant rest) (c.in_err-write_token.ensures _))

pub loop-kind-preserved : goal.loop-kind-preserved
loop-kind-preserved g c rest = passed_item (λ ks. ks ++ rest) c.args.kinds.now c.loop-kind.kind-index c.kind-item.result c.kind-item.is (search rules) (c.loop-kind.invariant rest) (c.in_ok-write_token.ensures _)
