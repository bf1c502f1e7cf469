use Rattle.std.proofs.Common.{◌≡◌, ◌+◌, Bool, cond, option_copied, sym, ap, ◌∙◌, arith}
use Rattle.explain_steps.specs.declared.chosen.Choice.{Choice}
use Rattle.explain_steps.proofs.Events.{choice_more}
use Rattle.explain_steps.proofs.chosen.Choice.go_back.Goals as goal

pub returns-then-is_told : goal.returns-then-is_told
returns-then-is_told c =
    λ mark later e h.
    let old = c.args.self.now in
    let told = c.is_told-is_told.result in
    let new : Choice = record { awaited = c.is_wanted.new.awaited; told = c.push.new.self; count = old.count + 1 } in
    choice_more c.args.followed c.args.most mark (option_copied c.args.touch) later old new c.in_ok-is_wanted.is_wanted told (c.in_ok-is_wanted.ensures.wanted mark later e h.holds)
    c.is_told-is_told.ensures c.in_ok-push.ensures.items (ap (λ (b : Bool). old.count + cond b 1 0) (sym c.if-is_told.true)) (c.in_ok-is_wanted.ensures.held mark later e h.holds) h

pub returns-else-is_told : goal.returns-else-is_told
returns-else-is_told c =
    λ mark later e h.
    let old = c.args.self.now in
    let told = c.is_told-is_told.result in
    let new : Choice = record { awaited = c.is_wanted.new.awaited; told = c.push.new.self; count = old.count } in
    let none : old.count ≡ old.count + 0 = omega arith in
    choice_more c.args.followed c.args.most mark (option_copied c.args.touch) later old new c.in_ok-is_wanted.is_wanted told (c.in_ok-is_wanted.ensures.wanted mark later e h.holds)
    c.is_told-is_told.ensures c.in_ok-push.ensures.items (none ∙ ap (λ (b : Bool). old.count + cond b 1 0) (sym c.if-is_told.false))
    (c.in_ok-is_wanted.ensures.held mark later e h.holds) h
