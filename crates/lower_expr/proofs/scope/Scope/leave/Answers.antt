use Rattle.std.proofs.Common.{◌≡◌, suc, ◌+◌, drop, length, reverse, sym, ap, ◌∙◌, arith}
use Rattle.std.proofs.lemmas.List.{length-map, length-reverse}
use Rattle.clmodel.specs.Next.{Variables}
use Rattle.lower_expr.specs.Index.{empty}
use Rattle.lower_expr.specs.Scope.{Scope}
use Rattle.lower_expr.specs.declared.scope.Entry.{Entry}
use Rattle.lower_expr.proofs.Index.{drop_more}
use Rattle.lower_expr.proofs.scope.Scope.leave.Goals as goal

pub loop-preserved : goal.loop-preserved
loop-preserved c =
    let vs = c.args.self.now.variables in
    let n : suc c.loop.counter ≡ c.loop.counter + 1 = omega arith in
    c.leave_one.ensures
    ∙ ap (λ (s : Scope). record s { variables = drop 1 s.variables }) c.loop.invariant
    ∙ ap (λ (ws : Variables). record c.args.self.now { variables = ws }) (drop_more c.loop.counter vs ∙ ap (λ k. drop k vs) n)

pub returns : goal.returns
returns c =
    let items = c.self.inside.entries.items in
    let size = length-map (reverse items) (λ (e : Entry). empty e.variable) ∙ length-reverse items in
    let count = sym (ap (λ (s : Scope). length s.variables) c.self.view_is) ∙ size in
    c.loop.invariant ∙ ap (λ k. record c.args.self.now { variables = drop k c.args.self.now.variables }) (omega (arith, c.loop-test.false, c.loop.auto.counter-end, c.saturating_sub-end.ensures, c.len.ensures, count, c.self.inside.entries.ok.0))
