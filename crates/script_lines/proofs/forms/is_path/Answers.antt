use Rattle.std.proofs.Common.{◌==◌, not, ◌&&◌, ap, sym, ◌∙◌, rules, tests}
use Rattle.std.proofs.lemmas.Bool.{eqb-false}
use Rattle.std.proofs.lemmas.Iterator.{YieldsList-from_slice}
use Rattle.std.proofs.lemmas.Iterator.Search.{all_from_yields_List}
use Rattle.std.specs.List.{list_all}
use Rattle.script_lines.proofs.Steps.{some_bytes}
use Rattle.script_lines.proofs.forms.is_path.Goals as goal

pub returns-then-not-is_empty : goal.returns-then-not-is_empty
returns-then-not-is_empty c =
    let bytes = c.args.bytes.now in
    let all = all_from_yields_List (λ b. not (b == 32) && not (b == 10)) _ _ c.all.result c.all.ensures.ran (YieldsList-from_slice bytes cc) (λ x b q k. search (rules, tests)) in
    let some = some_bytes bytes (eqb-false _ _ (sym c.is_empty.ensures ∙ c.if-not-is_empty.true)) in
    all ∙ ap (λ v. v && list_all (λ b. not (b == 32) && not (b == 10)) bytes) (sym some)
