use Rattle.std.proofs.Common.{◌≡◌, ◌-◌, drop, length, sym, ap, ◌∙◌, subst, arith}
use Rattle.std.proofs.lemmas.List.{take_all, length-drop}
use Rattle.access_list.specs.Index.{newest_of}
use Rattle.access_list.specs.Keys.{access_key}
use Rattle.access_list.specs.Log.{IsThere}
use Rattle.access_list.proofs.Hits.{there_at}
use Rattle.access_list.proofs.Indexed.{rest_new, rest_there}
use Rattle.access_list.proofs.index.is_there.Goals as goal

pub returns-then-place-from-clause-new : goal.returns-then-place-from-clause-new
returns-then-place-from-clause-new c h =
    let m = c.args.index.now.newest in
    rest_new c.args.x.now.access c.args.from c.args.log.now
    (λ j y e o same.
    let k : newest_of m (access_key y.access) ≡ c.newest-place.result = ap (λ a. newest_of m (access_key a)) same ∙ ap (newest_of m) (sym c.access_key.ensures) ∙ sym c.newest-place.ensures in
    omega (arith, c.requires.indexed.below j y e, k, o, c.if-place-from.true))

pub returns-then-is_same-clause-there : goal.returns-then-is_same-clause-there
returns-then-is_same-clause-there c h =
    there_at c.args.log.now c.args.x.now.access (c.newest-place.result - 1) c.in-Some.y.now c.in-Some.ensures.lookup.3.0
    (sym (ap (λ z. z.access) c.in-Some.ensures.lookup.1) ∙ c.is_same.ensures.same c.if-is_same.true)

pub returns-clause-there : goal.returns-clause-there
returns-clause-there c h = rest_there c.args.x.now.access c.args.from c.args.log.now
    (subst (λ l. IsThere l c.args.x.now.access)
    (take_all (length c.args.log.now - c.args.from) (drop c.args.from c.args.log.now) (omega (arith, length-drop c.args.from c.args.log.now)))
    (c.is_among.ensures.there h))
