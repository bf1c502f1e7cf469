-- Products up to the greatest number of 64 bits.
use Rattle.std.proofs.Common.{◌≡◌, ℕ, zero, suc, ◌+◌, ◌*◌, ◌-◌, ◌^◌, ◌<◌, min, List, [], ◌∷◌, ◌++◌, length, take, get_or, ap, sym, ◌∙◌, arith}
use Rattle.std.proofs.lemmas.List.{take_more}
use Rattle.clmodel.specs.Setup.{product}

clipped : (n p m : ℕ) → min (min p m * n) m ≡ min (p * n) m
clipped zero p m = omega arith
clipped (suc n) p m = grind arith

product_behind : (ns : List ℕ) (n : ℕ) → product (ns ++ n ∷ []) ≡ product ns * n
product_behind [] n = omega arith
product_behind (first ∷ ns) n = ap (λ p. first * p) (product_behind ns n) ∙ grind arith

pub one_more : (ns : List ℕ) (i : ℕ) → i < length ns
    → min (min (product (take i ns)) (2 ^ 64 - 1) * get_or ns i 0) (2 ^ 64 - 1) ≡ min (product (take (i + 1) ns)) (2 ^ 64 - 1)
one_more ns i below =
    clipped (get_or ns i 0) (product (take i ns)) (2 ^ 64 - 1)
    ∙ ap (λ p. min p (2 ^ 64 - 1)) (sym (product_behind (take i ns) (get_or ns i 0)) ∙ ap product (sym (take_more ns i 0 below)))
