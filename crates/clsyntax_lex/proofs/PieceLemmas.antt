-- What stands in the front of bytes.
use Rattle.std.proofs.Common.{◌≡◌, ℕ, ◌<◌, ◌+◌, Bool, false, List, [], ◌∷◌, length, take, drop, refl, arith, ◌∙◌, cond, ap, Option, None, Some, length-take, length-drop}
use Rattle.std.specs.Prelude.{codes}
use Rattle.std.specs.List.{prefix_len, AllPass}
use Rattle.std.specs.Option.{option_map}
use Rattle.std.proofs.lemmas.List.{get_or-take, drop-drop}
use Rattle.std.proofs.lemmas.List.Sums.{prefix_len_passes}
use Rattle.clsyntax_lex.specs.Numbers.{begins_with}
use Rattle.clsyntax_lex.specs.Pieces.{closed_after}

pub prefix_len-AllPass : (p : ℕ → Bool) (xs : List ℕ) → AllPass p (take (prefix_len p xs) xs)
prefix_len-AllPass p xs k d inside =
    let below : k < prefix_len p xs = omega (arith, length-take (prefix_len p xs) xs) in
    rw get_or-take (prefix_len_passes p xs k d below)

-- the rest has no `*/` in front, so it ends a byte further
closed_after-next : (rest : List ℕ) (at : ℕ) → 0 < length rest → begins_with (codes "*/") rest ≡ false
    → option_map (λ n. at + n) (closed_after rest) ≡ option_map (λ n. at + 1 + n) (closed_after (drop 1 rest))
unfolding closed_after
closed_after-next [] at nonempty none = absurd (omega arith)
closed_after-next (b ∷ rest) at nonempty none =
    ap (λ here. option_map (λ n. at + n) (cond here (Some 2) (option_map (λ n. 1 + n) (closed_after rest)))) none ∙ by (closed_after rest)
  where
    by : (o : Option ℕ) → option_map (λ n. at + n) (option_map (λ n. 1 + n) o) ≡ option_map (λ n. at + 1 + n) o
    by None = refl
    by (Some n) = ap Some (omega arith)

pub closed_after-more : (bytes : List ℕ) (at : ℕ) → at < length bytes → begins_with (codes "*/") (drop at bytes) ≡ false
    → option_map (λ n. at + n) (closed_after (drop at bytes)) ≡ option_map (λ n. at + 1 + n) (closed_after (drop (at + 1) bytes))
closed_after-more bytes at inside none =
    closed_after-next (drop at bytes) at (omega (arith, length-drop at bytes)) none ∙ ap (λ rest. option_map (λ n. at + 1 + n) (closed_after rest)) (drop-drop 1 at bytes)
