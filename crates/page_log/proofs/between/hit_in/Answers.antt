use Rattle.std.proofs.Common.{◌++◌, ◌∷◌, [], take, sym, ap, ap₂, ◌∙◌, arith}
use Rattle.std.proofs.lemmas.List.{take_more}
use Rattle.access_list.specs.Log.{hit}
use Rattle.page_log.specs.Tally.{lower_hit}
use Rattle.page_log.proofs.Joined.{joined, no_hit}
use Rattle.page_log.proofs.between.hit_in.Goals as goal

pub loop-i-init : goal.loop-i-init
loop-i-init g c = sym (no_hit c.args.rule c.args.x.now)

pub loop-i-preserved : goal.loop-i-preserved
loop-i-preserved g c =
    let log = (g.L.Logged.log c.args.log.now).accesses in
    let y = c.get.result in
    c.lower_hit-found.ensures ∙ ap₂ lower_hit c.loop-i.invariant c.hit_with.ensures
    ∙ sym (joined c.args.rule c.args.x.now (take c.loop-i.i log) (y ∷ []))
    ∙ ap (hit c.args.rule c.args.x.now)
    (ap (λ z. take c.loop-i.i log ++ z ∷ []) c.get.ensures.value
    ∙ sym (take_more log c.loop-i.i y (omega (arith, c.loop-i-test.true, c.len-i-end.ensures))))
