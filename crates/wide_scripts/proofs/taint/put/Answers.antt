use Rattle.std.proofs.Common.{◌∷◌, ◌++◌, [], ap, sym, ◌∙◌}
use Rattle.std.specs.Prelude.{is_some}
use Rattle.std.proofs.lemmas.Result.{on_ok_weaker}
use Rattle.spaces.specs.Tables.{find}
use Rattle.wide_scripts.proofs.Marks.{found_added, found_set, is_some_mapped}
use Rattle.wide_scripts.proofs.taint.put.Goals as goal

pub returns-then-is_some : goal.returns-then-is_some
returns-then-is_some g c =
    λ other.
    ap (λ t. find t other) c.replace.ensures
    ∙ found_set c.args.table.now c.args.name.now other c.args.value
    (sym (ap is_some c.get.ensures) ∙ (is_some_mapped c.get.result (λ a. a.now) ∙ (sym c.is_some.ensures ∙ c.if-is_some.true)))

pub returns-in_ok-copied : goal.returns-in_ok-copied
returns-in_ok-copied g c =
    on_ok_weaker c.insert.result
    (λ added other.
    ap (λ t. find t other) added
    ∙ ap (λ name. find (c.args.table.now ++ (name, c.args.value) ∷ []) other) c.in_ok-copied.ensures
    ∙ found_added c.args.table.now c.args.name.now other c.args.value
    (sym (ap is_some c.get.ensures) ∙ (is_some_mapped c.get.result (λ a. a.now) ∙ (sym c.is_some.ensures ∙ c.if-is_some.false))))
    c.insert.ensures.ok
