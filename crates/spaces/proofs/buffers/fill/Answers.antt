use Rattle.std.proofs.Common.{◌≡◌, ◌+◌, ◌*◌, ◌/◌, ◌%◌, arith, ap, ◌∙◌, refl, take}
use Rattle.std.proofs.Math.Nat.{div-add-mod}
use Rattle.spaces.specs.Buffers.{with_bytes, repeated}
use Rattle.spaces.proofs.Fills.{with_none, block_more, rest_more}
use Rattle.spaces.proofs.buffers.fill.Goals as goal

pub loop-i-init : goal.loop-i-init
loop-i-init c = with_none c.args.buffer.now c.args.offset

pub loop-i-preserved : goal.loop-i-preserved
loop-i-preserved c =
    c.put.ensures ∙ ap (λ b. with_bytes b (c.args.offset + c.loop-i.i * 256) c.block_of-block.result) c.loop-i.invariant
    ∙ block_more c.args.buffer.now c.args.pattern.now c.block_of-block.result c.args.offset c.loop-i.i (c.args.offset + c.loop-i.i * 256) c.block_of-block.ensures c.requires.even refl
    (omega arith)

pub overflow_add-offset : goal.overflow_add-offset
overflow_add-offset c = omega (arith, div-add-mod c.args.count 256)

pub overflow_add-offset-2 : goal.overflow_add-offset-2
overflow_add-offset-2 c = omega (arith, div-add-mod c.args.count 256)

pub returns : goal.returns
returns c =
    let last : c.loop-i.i ≡ c.args.count / 256 = omega arith in
    c.put-2.ensures ∙ ap (λ b. with_bytes b (c.args.offset + c.args.count / 256 * 256) (take (c.args.count % 256) c.block_of-block.result)) c.loop-i.invariant
    ∙ ap (λ i. with_bytes (with_bytes c.args.buffer.now c.args.offset (repeated c.args.pattern.now (i * 256))) (c.args.offset + c.args.count / 256 * 256) (take (c.args.count % 256) c.block_of-block.result)) last
    ∙ rest_more c.args.buffer.now c.args.pattern.now c.block_of-block.result c.args.offset c.args.count (c.args.offset + c.args.count / 256 * 256) c.block_of-block.ensures c.requires.even refl c.requires.range
