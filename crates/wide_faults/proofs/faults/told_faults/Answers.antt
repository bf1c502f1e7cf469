use Rattle.std.proofs.Common.{◌+◌, ◌++◌, ◌∷◌, List, ℕ, drop, ap, sym, ◌∙◌, subst}
use Rattle.std.proofs.lemmas.List.{drop_more}
use Rattle.device.specs.Machine.{machine_of}
use Rattle.wide_faults.specs.Faults.{IsAside, TellsFaults}
use Rattle.wide_faults.proofs.InKernel.{Continues, all_told, goes_further, stops_there}
use Rattle.wide_faults.proofs.faults.told_faults.Goals as goal

pub loop-number-init : goal.loop-number-init
loop-number-init c =
    λ rest tells.
    subst (λ (t : List ℕ). TellsFaults c.args.all c.args.places.now 0 (machine_of c.args.device.now) c.args.commands.now (t ++ rest)) (sym c.new-out.ensures.items) tells

pub loop-number-preserved : goal.loop-number-preserved
loop-number-preserved c =
    let all = c.args.all in
    let places = c.args.places.now in
    let start = machine_of c.args.device.now in
    let commands = c.args.commands.now in
    let i = c.loop-number.number in
    let command = c.index-commands-number.result in
    let out = c.loop-number.out.items in
    let old = machine_of c.loop-number.device in
    let mid = machine_of c.step.new.device in
    let r = c.in_ok-reply.reply in
    let told = c.in_ok-reply.ensures in
    let aside = subst (λ (h : List ℕ). IsAside h old command r told.1) (c.as_str.ensures.value ∙ c.in_ok-head.ensures) told.2 in
    let here = drop_more commands i command c.loop-number-test.true ∙ ap (λ x. x ∷ drop (i + 1) commands) (sym c.index-commands-number.is) in
    subst (λ (t : List ℕ). Continues all places start commands (i + 1) mid t) (sym told.3)
    (goes_further all places start commands i old mid command r told.1 out here told.0 aside (sym c.goes_on.ensures ∙ c.if-not-goes_on.false) c.loop-number.invariant)

pub returns-then-not-goes_on : goal.returns-then-not-goes_on
returns-then-not-goes_on c =
    let all = c.args.all in
    let places = c.args.places.now in
    let start = machine_of c.args.device.now in
    let commands = c.args.commands.now in
    let i = c.loop-number.number in
    let command = c.index-commands-number.result in
    let out = c.loop-number.out.items in
    let old = machine_of c.loop-number.device in
    let mid = machine_of c.step.new.device in
    let r = c.in_ok-reply.reply in
    let told = c.in_ok-reply.ensures in
    let aside = subst (λ (h : List ℕ). IsAside h old command r told.1) (c.as_str.ensures.value ∙ c.in_ok-head.ensures) told.2 in
    let here = drop_more commands i command c.loop-number-test.true ∙ ap (λ x. x ∷ drop (i + 1) commands) (sym c.index-commands-number.is) in
    subst (λ (t : List ℕ). TellsFaults all places 0 start commands t) (sym told.3)
    (stops_there all places start commands i old mid command r told.1 out here told.0 aside (sym c.goes_on.ensures ∙ c.if-not-goes_on.true) c.loop-number.invariant)

pub returns : goal.returns
returns c =
    all_told c.args.all c.args.places.now (machine_of c.args.device.now) c.args.commands.now c.loop-number.number (machine_of c.loop-number.device) c.loop-number.out.items c.loop-number-test.false
    c.loop-number.invariant
