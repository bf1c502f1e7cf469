-- How many arguments a list of them has as the plain tree has them.
use Rattle.std.proofs.Common.{◌≡◌, ◌+◌, List, [], ◌∷◌, length, map, ◌∙◌, arith}
use Rattle.clmodel.specs.declared.tree.Expression.{Expression}
use Rattle.clmodel.specs.Tree.{Terms, NoTerm, ThenTerm, then_all, term, terms}
use Rattle.clmodel.specs.Typing.Rules.{count}

count_all : (ts : Terms) (es : List Expression) → count (then_all ts (map term es)) ≡ count ts + length es
count_all ts [] = omega arith
count_all ts (e ∷ es) = count_all (ThenTerm ts (term e)) es ∙ omega arith

pub count_terms : (es : List Expression) → count (terms es) ≡ length es
count_terms es = count_all NoTerm es ∙ omega arith
