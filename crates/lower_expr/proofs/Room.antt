-- How far above the first argument's level the others are: no further than those before them have nodes.
use Rattle.std.proofs.Common.{◌≡◌, ℕ, zero, suc, ◌+◌, ◌<◌, ◌≤◌, List, [], ◌∷◌, map, length, get_or, ap, arith}
use Rattle.clmodel.specs.Tree.{Terms, NoTerm, ThenTerm, term, terms, then_all}
use Rattle.clmodel.specs.Typing.Sizes.{Sizes, term_size, terms_size}
use Rattle.clmodel.specs.declared.tree.Expression.{Expression}
use Rattle.lower_expr.proofs.Short.{some_node}

grows : (sizes : Sizes) (ts : Terms) (es : List Expression) → (terms_size sizes ts).nodes ≤ (terms_size sizes (then_all ts (map term es))).nodes
grows sizes ts [] = omega arith
grows sizes ts (e ∷ es) = let h = grows sizes (ThenTerm ts (term e)) es in omega (arith, h)

behind : (sizes : Sizes) (ts : Terms) (es : List Expression) (i : ℕ) (e : Expression) → i < length es → e ≡ get_or es i e
    → (terms_size sizes ts).nodes + i + (term_size sizes (term e)).nodes ≤ (terms_size sizes (then_all ts (map term es))).nodes
behind sizes ts [] i e h p = absurd (omega arith)
behind sizes ts (d ∷ es) zero e h p =
    let same : (term_size sizes (term e)).nodes ≡ (term_size sizes (term d)).nodes = ap (λ x. (term_size sizes (term x)).nodes) p in
    let g = grows sizes (ThenTerm ts (term d)) es in
    omega (arith, same, g)
behind sizes ts (d ∷ es) (suc i) e h p =
    let rest = behind sizes (ThenTerm ts (term d)) es i e (omega arith) p in
    let some = some_node sizes (term d) in
    omega (arith, rest, some)

-- the level of an argument, with its nodes
pub argument_room : (sizes : Sizes) (es : List Expression) (i : ℕ) (e : Expression) → i < length es → e ≡ get_or es i e
    → i + (term_size sizes (term e)).nodes ≤ (terms_size sizes (terms es)).nodes
argument_room sizes es i e h p = let all = behind sizes NoTerm es i e h p in omega (arith, all)
