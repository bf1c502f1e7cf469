-- What a list has of a kind, counted block by block.
use Rattle.std.proofs.Common.{◌≡◌, ℕ, ◌==◌, ◌+◌, ◌-◌, ◌≤◌, Bool, cond, List, length, take, drop, ap, ap₂, refl, sym, ◌∙◌, arith}
use Rattle.std.proofs.lemmas.List.{drop-take, take-take, take_all}
use Rattle.std.proofs.lemmas.List.Recursion.{is_count_by}
use Rattle.std.proofs.lemmas.List.Sums.{sum_by-take-drop}
use Rattle.std.specs.List.{count_by}
use Rattle.text_lines.specs.Lines.{line_feeds}

-- a front has what lies before a place, and what lies behind
pub count_between : (p : ℕ → Bool) (n e m : ℕ) (xs : List ℕ) → n ≤ e → m ≡ e → count_by p (take m xs) ≡ count_by p (take n xs) + count_by p (take (e - n) (drop n xs))
count_between p n e m xs h is =
    let same : m ≡ n + (e - n) = omega (arith, h, is) in
    let before : take n (take (n + (e - n)) xs) ≡ take n xs = take-take n (n + (e - n)) xs (omega arith) in
    ap (λ k. count_by p (take k xs)) same
    ∙ (sym (sum_by-take-drop (λ x. cond (p x) 1 0) (take (n + (e - n)) xs) n)
    ∙ ap₂ (λ a b. a + b) (ap (count_by p) before) (ap (count_by p) (drop-take n (e - n) xs)))

pub count_rest : (p : ℕ → Bool) (n : ℕ) (xs : List ℕ) → n ≤ length xs → count_by p xs ≡ count_by p (take n xs) + count_by p (take (length xs - n) (drop n xs))
count_rest p n xs h = ap (count_by p) (sym (take_all (length xs) xs (omega arith))) ∙ count_between p n (length xs) (length xs) xs h refl

-- line feeds are counted as other bytes are
pub feeds_counted : (xs : List ℕ) → line_feeds xs ≡ count_by (λ byte. byte == 10) xs
feeds_counted = is_count_by line_feeds (λ byte. byte == 10) refl (λ x xs. refl)
