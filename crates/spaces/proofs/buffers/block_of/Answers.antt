use Rattle.std.proofs.Common.{◌%◌, length, get_or, rules}
use Rattle.std.proofs.lemmas.List.FromFn.{fill_by_all}
use Rattle.spaces.proofs.buffers.block_of.Goals as goal

pub returns : goal.returns
returns c =
    fill_by_all (λ k. get_or c.args.pattern.now (k % length c.args.pattern.now) 0) c.loop-byte.block 256 0 c.loop-byte.invariant.0 (search rules)
