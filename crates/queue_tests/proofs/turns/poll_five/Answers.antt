use Rattle.std.proofs.Common.{arith}
use Rattle.queue_tests.proofs.turns.poll_five.Goals as goal

pub polled-requires-5-clause-own : goal.polled-requires-5-clause-own
polled-requires-5-clause-own g c = let numbers = c.args.five.numbers in let zero = numbers.0 in let two = numbers.2 in let four = numbers.4 in
    c.polled-3.ensures.others c.args.five.four.number (λ same. omega arith) (c.polled.ensures.others c.args.five.four.number (λ same. omega arith) c.requires.four)
