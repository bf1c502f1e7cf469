use Rattle.std.proofs.Common.{arith}
use Rattle.clsyntax_lex.proofs.LexLemmas.{lexing-long, ReadsTo-begin, ReadsTo-more, ReadsTo-end}
use Rattle.clsyntax_lex.proofs.lexer.lex.Goals as goal

pub returns-then-source-limits : goal.returns-then-source-limits
returns-then-source-limits c = record { exact = λ _. lexing-long c.args.limits c.args.source.now (omega arith) }

pub loop-at-init : goal.loop-at-init
loop-at-init c = ReadsTo-begin c.args.limits c.args.source.now c.new.result.items c.in_ok-new.field-0 (omega arith) c.new.ensures.items c.in_ok-new.ensures

pub loop-at-preserved : goal.loop-at-preserved
loop-at-preserved c = ReadsTo-more c.args.limits c.args.source.now c.loop-at.at c.in_ok-at.field-0 _ _ _ _ c.loop-at.invariant c.in_ok-at.ensures.taken

pub returns : goal.returns
returns c = record { exact = ReadsTo-end c.args.limits c.args.source.now c.loop-at.at _ _ c.in_ok-names.names.items _ c.loop-at.invariant (omega arith) c.in_ok-names.ensures c.new-3.ensures }
