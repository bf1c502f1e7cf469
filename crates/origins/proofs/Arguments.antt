-- Arguments one after another.
use Rattle.std.proofs.Common.{◌≡◌, ℕ, ◌+◌, ◌<◌, List, ◌++◌, take, length, get_or, Result, sym, subst}
use Rattle.clmodel.specs.Tree.{term, terms}
use Rattle.clmodel.specs.declared.tree.Expression.{Expression}
use Rattle.lower_expr.proofs.Arguments.{terms_more}
use Rattle.origins.specs.Origins.{Origin, expr_origins, terms_origins}
use Rattle.origins.specs.Walks.{Walks}
use Rattle.origins.specs.declared.names.NamedVariable.{NamedVariable}
use Rattle.origins.specs.declared.node.WalkEnd.{WalkEnd}

-- the next argument is passed
pub term_passed : (inside : ℕ → List Origin) (names : List NamedVariable) (es : List Expression) (i n : ℕ) (r : Result ℕ WalkEnd) (e : Expression) → i < length es → e ≡ get_or es i e
    → Walks inside (terms_origins names (terms (take i es)) ++ expr_origins names (term e)) n r → Walks inside (terms_origins names (terms (take (i + 1) es))) n r
term_passed inside names es i n r e below is w = subst (λ ts. Walks inside (terms_origins names ts) n r) (sym (terms_more es i e below is)) w
