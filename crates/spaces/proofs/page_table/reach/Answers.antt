use Rattle.std.proofs.Common.{◌≡◌, ◌-◌, ◌∙◌, ◌++◌, [], ◌∷◌, sym, ap, arith}
use Rattle.std.proofs.lemmas.List.{nil_from_length}
use Rattle.spaces.specs.Overlay.{copy_at}
use Rattle.spaces.proofs.PageTables.{empty_row, zero_row, same_row}
use Rattle.spaces.proofs.page_table.reach.Goals as goal

pub returns-then-is_empty-clause-same : goal.returns-then-is_empty-clause-same
returns-then-is_empty-clause-same c other =
    let none : c.args.row.now.items ≡ [] = nil_from_length c.args.row.now.items (grind arith) in
    let one : c.push.new.self.items ≡ 0 ∷ [] = c.in_ok-push.ensures.items ∙ ap (λ z. z ++ 0 ∷ []) none in
    ap (λ z. copy_at c.args.page z other) one
    ∙ zero_row c.args.page other
    ∙ sym (ap (λ z. copy_at c.args.first z other) none ∙ empty_row c.args.first other)

pub returns-clause-same : goal.returns-clause-same
returns-clause-same c other = same_row c.args.first c.args.row.now.items c.make_room.new.row.items other (c.in_ok-make_room.ensures.same (other - c.args.first))
