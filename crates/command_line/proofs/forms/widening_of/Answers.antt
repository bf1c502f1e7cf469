use Rattle.std.proofs.Common.{rules, ◌≡◌, ◌∙◌, ap, sym, false, true, codes}
use Rattle.clap.specs.Words.{first_of, found_of, rows_of}
use Rattle.clap.proofs.WalkLemmas.{first_value-rows}
use Rattle.command_line.specs.CommandLine.{says_yes}
use Rattle.command_line.proofs.CommandLines.{not_text, not_widened, not_with_format, not_with_schedule, of_none, of_some, widened}
use Rattle.command_line.proofs.forms.widening_of.Goals as goal

pub returns-then-not-widen : goal.returns-then-not-widen
returns-then-not-widen c =
    let rows = rows_of (found_of c.args.explain.now) in
    let is : says_yes (first_of (codes "widen") rows) ≡ c.says_yes-widen.result =
    ap says_yes (sym (first_value-rows (found_of c.args.explain.now) (codes "widen")) ∙ sym c.get_str.ensures) ∙ sym c.says_yes-widen.ensures in
    let off : c.says_yes-widen.result ≡ false = search rules in
    not_widened rows (is ∙ off)

pub returns-then-is_some : goal.returns-then-is_some
returns-then-is_some c =
    let rows = rows_of (found_of c.args.explain.now) in
    let is : says_yes (first_of (codes "widen") rows) ≡ c.says_yes-widen.result =
    ap says_yes (sym (first_value-rows (found_of c.args.explain.now) (codes "widen")) ∙ sym c.get_str.ensures) ∙ sym c.says_yes-widen.ensures in
    let on : c.says_yes-widen.result ≡ true = search rules in
    not_with_schedule rows (is ∙ on)
    (λ none. of_some (λ s. s.now) c.get_str-2.result (sym c.is_some.ensures ∙ c.if-is_some.true) (c.get_str-2.ensures ∙ (first_value-rows (found_of c.args.explain.now) (codes "SCHEDULE") ∙ none)))

pub returns-in_err-json : goal.returns-in_err-json
returns-in_err-json c =
    let rows = rows_of (found_of c.args.explain.now) in
    let is : says_yes (first_of (codes "widen") rows) ≡ c.says_yes-widen.result =
    ap says_yes (sym (first_value-rows (found_of c.args.explain.now) (codes "widen")) ∙ sym c.get_str.ensures) ∙ sym c.says_yes-widen.ensures in
    let on : c.says_yes-widen.result ≡ true = search rules in
    rw c.from_residual.ensures (not_with_format rows (is ∙ on) (c.in_err-json.ensures false))

pub returns-then-json : goal.returns-then-json
returns-then-json c =
    let rows = rows_of (found_of c.args.explain.now) in
    let is : says_yes (first_of (codes "widen") rows) ≡ c.says_yes-widen.result =
    ap says_yes (sym (first_value-rows (found_of c.args.explain.now) (codes "widen")) ∙ sym c.get_str.ensures) ∙ sym c.says_yes-widen.ensures in
    let json : c.in_ok-json.json ≡ true = search rules in
    let on : c.says_yes-widen.result ≡ true = search rules in
    not_with_format rows (is ∙ on) (not_text (first_of (codes "format") rows) (rw json at c.in_ok-json.ensures))

pub returns : goal.returns
returns c =
    let rows = rows_of (found_of c.args.explain.now) in
    let is : says_yes (first_of (codes "widen") rows) ≡ c.says_yes-widen.result =
    ap says_yes (sym (first_value-rows (found_of c.args.explain.now) (codes "widen")) ∙ sym c.get_str.ensures) ∙ sym c.says_yes-widen.ensures in
    let text : c.in_ok-json.json ≡ false = search rules in
    let on : c.says_yes-widen.result ≡ true = search rules in
    widened rows (is ∙ on) (rw text at c.in_ok-json.ensures)
    (sym (first_value-rows (found_of c.args.explain.now) (codes "SCHEDULE")) ∙ (sym c.get_str-2.ensures ∙ of_none (λ s. s.now) c.get_str-2.result (sym c.is_some.ensures ∙ c.if-is_some.false)))
