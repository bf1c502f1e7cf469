use Rattle.std.proofs.Common.{arith}
use Rattle.queue_tests.proofs.turns.know_five.Goals as goal

pub poll_known-requires-5-clause-own : goal.poll_known-requires-5-clause-own
poll_known-requires-5-clause-own g c = let numbers = c.args.five.numbers in let zero = numbers.0 in let two = numbers.2 in let four = numbers.4 in
    c.poll_known-3.ensures.others c.args.five.four.number (λ same. omega arith) (c.poll_known.ensures.others c.args.five.four.number (λ same. omega arith) c.requires.four)
