use Rattle.std.proofs.Common.{◌∙◌, ap}
use Rattle.spaces.specs.Overlay.{copies}
use Rattle.spaces.proofs.PageTables.{new_entry, other_entry}
use Rattle.spaces.proofs.page_table.PageTable.set.Goals as goal

pub returns-clause-here : goal.returns-clause-here
returns-clause-here c =
    let there = c.in_ok-self-inside.ensures.there in
    new_entry c.in_ok-self-inside.field-0 c.reach.new.row.items c.args.page c.args.copy there.0 there.1

pub returns-clause-others : goal.returns-clause-others
returns-clause-others c other ne =
    other_entry c.in_ok-self-inside.field-0 c.reach.new.row.items c.args.page c.args.copy other c.in_ok-self-inside.ensures.there.0 ne
    ∙ c.in_ok-self-inside.ensures.same other
    ∙ ap (λ z. copies z other) c.self.view_is
