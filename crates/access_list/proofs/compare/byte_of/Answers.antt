use Rattle.std.proofs.Common.{sym, ap, ◌%◌}
use Rattle.access_list.proofs.Bytes.{shifted, above}
use Rattle.access_list.proofs.compare.byte_of.Goals as goal

pub returns-then-k-lt-VALUE_BYTES : goal.returns-then-k-lt-VALUE_BYTES
returns-then-k-lt-VALUE_BYTES c = ap (λ n. n % 256) (shifted c.args.k c.args.value)

pub returns-else-k-lt-VALUE_BYTES : goal.returns-else-k-lt-VALUE_BYTES
returns-else-k-lt-VALUE_BYTES c = sym (above c.args.k c.args.value c.if-k-lt-VALUE_BYTES.false c.ranges.value.fits)
