use Rattle.std.proofs.Common.{◌-◌, ap, ◌∙◌, subst}
use Rattle.regcode.specs.Machine.{passed, with_put}
use Rattle.item_state.specs.Running.{Running}
use Rattle.item_step.specs.Waiting.{Waits}
use Rattle.item_step.specs.declared.rest.Pending.TheVariants as pending
use Rattle.item_step.proofs.AnswerLaws.{resumes}
use Rattle.item_step.proofs.run.resume.Goals as goal

pub returns-in-Put : goal.returns-in-Put
returns-in-Put c =
    let item = c.args.machine.now in
    let to = c.in-Put.to in
    resumes (pending.Put to c.in-Put.element) c.args.answer item c.put.new.self (subst (λ p. Waits p item) c.in-Put.is c.requires)
    (c.put.ensures
    ∙ ap (λ (x : Running). record x { state = with_put x.state to c.loaded.result }) c.spend.ensures
    ∙ ap (λ v. record item { state = with_put item.state to v; ticks = item.ticks - 1 }) c.loaded.ensures)

pub returns-in-Pass : goal.returns-in-Pass
returns-in-Pass c =
    let item = c.args.machine.now in
    resumes pending.Pass c.args.answer item c.pass.new.self (subst (λ p. Waits p item) c.in-Pass.is c.requires)
    (c.pass.ensures ∙ ap (λ (x : Running). record x { state = passed x.state }) c.spend.ensures)
