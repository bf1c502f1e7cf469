use Rattle.std.proofs.Common.{◌∙◌, refl, sym, ap}
use Rattle.group_traces.specs.Cells.{placed_trace}
use Rattle.group_traces.specs.declared.traces.Traces.{Traces}
use Rattle.std.specs.HashMap.{get}
use Rattle.std.proofs.Common.{nat_eq}
use Rattle.group_traces.proofs.Keeping.{same_map}
use Rattle.group_traces.proofs.Making.{made_cell, made_key, made_own}
use Rattle.group_traces.proofs.traces.Traces.add.Goals as goal

pub returns-in_err-push-clause-same : goal.returns-in_err-push-clause-same
returns-in_err-push-clause-same c q b =
    let t = c.args.self.now in
    ap (λ l. placed_trace l t.apart.items q b (get nat_eq t.places q)) c.in_err-push.ensures.items

pub returns-in_err-insert-clause-same : goal.returns-in_err-insert-clause-same
returns-in_err-insert-clause-same c =
    let t = c.args.self.now in
    let new : Traces = record t { places = c.insert.new.self; cells = c.push.new.self } in
    made_cell t new c.args.key (same_map t.places c.insert.new.self c.in_err-insert.ensures.err) c.in_ok-push.ensures.items refl

pub returns-clause-own : goal.returns-clause-own
returns-clause-own c =
    let t = c.args.self.now in
    let new : Traces = record t { places = c.insert.new.self; cells = c.push.new.self } in
    made_own t new c.args.key c.len-i.result (sym (c.len-i.ensures ∙ t.cells.ok.0)) c.in_ok-push.ensures.items c.in_ok-insert.ensures.updates.1

pub returns-clause-same : goal.returns-clause-same
returns-clause-same c =
    let t = c.args.self.now in
    let new : Traces = record t { places = c.insert.new.self; cells = c.push.new.self } in
    made_key t new c.args.key c.len-i.result (sym (c.len-i.ensures ∙ t.cells.ok.0)) c.in_ok-push.ensures.items refl c.in_ok-insert.ensures.updates.1 c.in_ok-insert.ensures.updates.2 c.requires
