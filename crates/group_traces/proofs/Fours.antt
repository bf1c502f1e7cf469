-- What holds of each of four bytes.
use Rattle.std.proofs.Common.{ℕ, zero, suc, ◌<◌, arith}

pub each_of_four : (P : ℕ → Type 0) → P 0 → P 1 → P 2 → P 3 → (k : ℕ) → k < 4 → P k
each_of_four P a b c d zero h = a
each_of_four P a b c d (suc zero) h = b
each_of_four P a b c d (suc (suc zero)) h = c
each_of_four P a b c d (suc (suc (suc zero))) h = d
each_of_four P a b c d (suc (suc (suc (suc k)))) h = absurd (omega (arith, h))
