use Rattle.std.proofs.Common.{◌≡◌, ℕ, ◌≤◌, ◌^◌, refl, arith, ap, subst, ◌∙◌, IfSome}
use Rattle.clmodel.specs.Next.{sites, all_sites}
use Rattle.clmodel.specs.Tree.{stmt}
use Rattle.lower_code.proofs.Trees.{row_more}
use Rattle.lower_code.specs.Emission.{inside}
use Rattle.lower_code.specs.Trees.{all_of}
use Rattle.lower_code.proofs.Lists.{block_is}
use Rattle.lower.proofs.Fronts.{sites_there, too_many}
use Rattle.lower.proofs.sites.+sites.Goals as goal

pub sites-returns-in-Block-clause-some : goal.sites-returns-in-Block-clause-some
sites-returns-in-Block-clause-some t c =
    subst (λ (m : ℕ). IfSome c.sites_in_all.result (λ n. n ≡ m))
    (ap (sites (inside c.args.helpers.functions.now)) (block_is c.args.statement.now c.in-Block.at c.in-Block.body c.deref.result.now c.in-Block.is c.deref.ensures.value))
    c.sites_in_all.ensures.some

pub sites_in_all-loop-i-preserved : goal.sites_in_all-loop-i-preserved
sites_in_all-loop-i-preserved t c =
    let f = inside c.args.helpers.functions.now in
    let more = ap (all_sites f) (row_more c.args.statements.now c.loop-i.i c.index-statements-i.result c.loop-i-test.true c.index-statements-i.is) in
    c.in_ok-all.ensures.1
    ∙ omega (arith, c.loop-i.invariant, c.in_ok-sites.ensures.some, more)

pub sites-returns-in-Block-clause-none : goal.sites-returns-in-Block-clause-none
sites-returns-in-Block-clause-none t c e =
    subst (λ (m : ℕ). 2 ^ 32 ≤ m)
    (ap (sites (inside c.args.helpers.functions.now)) (block_is c.args.statement.now c.in-Block.at c.in-Block.body c.deref.result.now c.in-Block.is c.deref.ensures.value))
    (c.sites_in_all.ensures.none e)

pub sites_in_all-returns-in_err-sites-clause-none : goal.sites_in_all-returns-in_err-sites-clause-none
sites_in_all-returns-in_err-sites-clause-none t c e =
    let f = inside c.args.helpers.functions.now in
    let x = c.index-statements-i.result in
    let there = sites_there f c.args.statements.now c.loop-i.i x c.loop-i-test.true c.index-statements-i.is in
    let many : 2 ^ 32 ≤ sites f (stmt x) = c.in_err-sites.ensures.none refl in
    omega (arith, many, there)

pub sites_in_all-returns-in_err-all-clause-none : goal.sites_in_all-returns-in_err-all-clause-none
sites_in_all-returns-in_err-all-clause-none t c e =
    let f = inside c.args.helpers.functions.now in
    let x = c.index-statements-i.result in
    let there = sites_there f c.args.statements.now c.loop-i.i x c.loop-i-test.true c.index-statements-i.is in
    too_many c.loop-i.all c.in_ok-sites.field-0 (all_sites f (all_of c.args.statements.now)) c.in_err-all.ensures
    (omega (arith, c.loop-i.invariant, c.in_ok-sites.ensures.some, there))
