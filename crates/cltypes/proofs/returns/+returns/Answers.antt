use Rattle.std.proofs.Common.{◌≡◌, ℕ, ◌+◌, ◌<◌, Bool, true, false, ◌||◌, List, [], ◌∷◌, length, map, take, drop, get_or, refl, sym, ap, ◌∙◌}
use Rattle.std.proofs.lemmas.Bool.{or_right}
use Rattle.clmodel.specs.Tree as tree
use Rattle.clmodel.specs.Tree.{Stmts, ThenStmt, NoStmt, then_stmts, stmt}
use Rattle.clmodel.specs.declared.tree.Statement.{Statement}
use Rattle.clmodel.specs.Typing.Sizes.{always_returns, row_returns}
use Rattle.cltypes.specs.Limits.{statements}
use Rattle.clmodel.proofs.Trees.{block_view, next_statement, then_rest}
use Rattle.cltypes.proofs.returns.+returns.Goals as goal

-- a row that returns still does with more behind it
returns_ahead : (ts : Stmts) (ss : List Statement) → row_returns ts ≡ true → row_returns (then_stmts ts (map stmt ss)) ≡ true
returns_ahead ts [] h = h
returns_ahead ts (s ∷ ss) h = returns_ahead (ThenStmt ts (stmt s)) ss (ap (λ b. b || always_returns (stmt s)) h)

one_more : (ss : List Statement) (i : ℕ) (s : Statement) (b : Bool) → i < length ss → s ≡ get_or ss i s → always_returns (stmt s) ≡ b
    → row_returns (statements (take (i + 1) ss)) ≡ (row_returns (statements (take i ss)) || b)
one_more ss i s b h g e = ap row_returns (next_statement ss i s h g) ∙ ap (λ x. row_returns (statements (take i ss)) || x) e

pub always_returns-returns-then-returns : goal.always_returns-returns-then-returns
always_returns-returns-then-returns t c =
    let ss = c.args.body.now in
    let i = c.loop-statement.statement-index in
    let s = c.statement-item.result in
    let e = one_more ss i s true c.loop-statement-test.true c.statement-item.is (sym c.returns.ensures ∙ c.if-returns.true) in
    sym (ap row_returns (then_rest NoStmt ss (i + 1))
    ∙ returns_ahead (statements (take (i + 1) ss)) (drop (i + 1) ss) (e ∙ or_right (row_returns (statements (take i ss))) true refl))

pub always_returns-loop-statement-preserved : goal.always_returns-loop-statement-preserved
always_returns-loop-statement-preserved t c =
    let ss = c.args.body.now in
    let i = c.loop-statement.statement-index in
    let s = c.statement-item.result in
    one_more ss i s false c.loop-statement-test.true c.statement-item.is (sym c.returns.ensures ∙ c.if-returns.false)
    ∙ ap (λ b. b || false) c.loop-statement.invariant

pub returns-returns-in-Block : goal.returns-returns-in-Block
returns-returns-in-Block t c =
    let b = c.in-Block in
    let d = c.deref in
    c.always_returns.ensures ∙ ap always_returns (sym (ap stmt b.is ∙ block_view b.at b.body ∙ ap (λ z. tree.Block b.at (statements z)) (sym d.ensures.value)))
