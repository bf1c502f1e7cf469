use Rattle.std.proofs.Common.{sym, ◌∙◌}
use Rattle.access_list.specs.declared.log.Entry.{Entry}
use Rattle.ordered_play.proofs.Searches.{rule_is, hit_clash, hit_none}
use Rattle.ordered_play.proofs.races.clash_between.Goals as goal

pub returns-in-Some : goal.returns-in-Some
returns-in-Some g c =
    let l = g.D.Described.launch c.args.launch.now in
    let first : Entry = record { access = c.args.earlier.now; event = 0 } in
    let second : Entry = record { access = c.args.later.now; event = 0 } in
    hit_clash l first second c.args.byte c.rule_of-rule.result c.in-Some.hit
    (rule_is l c.args.earlier.now c.args.later.now c.rule_of-rule.result c.rule_of-rule.ensures.groups c.rule_of-rule.ensures.uniform)
    (sym c.hit_between.ensures ∙ c.in-Some.is)

pub returns-in-None : goal.returns-in-None
returns-in-None g c =
    let l = g.D.Described.launch c.args.launch.now in
    let first : Entry = record { access = c.args.earlier.now; event = 0 } in
    let second : Entry = record { access = c.args.later.now; event = 0 } in
    hit_none l first second c.args.byte c.rule_of-rule.result
    (rule_is l c.args.earlier.now c.args.later.now c.rule_of-rule.result c.rule_of-rule.ensures.groups c.rule_of-rule.ensures.uniform)
    (sym c.hit_between.ensures ∙ c.in-None.is)
