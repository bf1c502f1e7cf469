use Rattle.std.proofs.Common.{◌≡◌, List, [], ℕ, Bor, map, get_or, true, false, ap, sym, ◌∙◌}
use Rattle.clmodel.specs.Setup.{same_text}
use Rattle.script_lines.specs.Plain.{spaced}
use Rattle.written_scripts.proofs.Steps.{end_found, end_passed, shown_at, within_map}
use Rattle.written_scripts.proofs.lines.first_end.Goals as goal

pub returns-then-branch-clause-value : goal.returns-then-branch-clause-value
returns-then-branch-clause-value c =
    let now = λ (line : Bor (List ℕ)). line.now in
    let lines = map now c.args.lines.now in
    let at = c.loop-index.index in
    let same : same_text (spaced (get_or lines at [])) c.args.word.now ≡ true =
    ap (λ l. same_text (spaced l) c.args.word.now) (shown_at now c.args.lines.now at _ [] c.loop-index-test.true) ∙ (sym c.in_ok-ends_source.ensures ∙ c.if-branch.true) in
    end_found c.args.word.now lines at _ (within_map now c.args.lines.now at c.loop-index-test.true) same c.loop-index.invariant

pub loop-index-preserved : goal.loop-index-preserved
loop-index-preserved c =
    let now = λ (line : Bor (List ℕ)). line.now in
    let lines = map now c.args.lines.now in
    let at = c.loop-index.index in
    let other : same_text (spaced (get_or lines at [])) c.args.word.now ≡ false =
    ap (λ l. same_text (spaced l) c.args.word.now) (shown_at now c.args.lines.now at _ [] c.loop-index-test.true) ∙ (sym c.in_ok-ends_source.ensures ∙ c.if-branch.false) in
    end_passed c.args.word.now lines at _ (within_map now c.args.lines.now at c.loop-index-test.true) other c.loop-index.invariant
