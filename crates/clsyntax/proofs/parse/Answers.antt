-- By the laws of reading.
use Rattle.std.proofs.Common.{◌≡◌, Ok, ◌∙◌}
use Rattle.std.proofs.lemmas.Result.{err_from_is_err_and}
use Rattle.clmodel.specs.Tree.{Program, program}
use Rattle.clsyntax.specs.Correct.{IsReading}
use Rattle.clsyntax.proofs.ReadingLaws as laws
use Rattle.clsyntax.proofs.Loop.{unless_memory}
use Rattle.clsyntax.proofs.ParseLaws.{read_text, of_values, exact_program, exact_fault}
use Rattle.clsyntax.proofs.Unique.{one_reading, gives_map}
use Rattle.clsyntax.proofs.parse.Goals as goal

pub returns : goal.returns
returns c =
    let limits = c.args.limits in
    let text = c.args.tokens.now in
    let p : Program = program (record { functions = c.in_ok-functions.functions; names = c.in_ok-names.names }) in
    let e : read_text limits text ≡ Ok p.functions = of_values limits text c.length.result c.as_slice.result.now c.length.ensures.value c.as_slice.ensures.value ∙ c.in_ok-functions.ensures in
    let names : p.names ≡ text.names = c.in_ok-names.ensures ∙ c.names.ensures.value in
    let exact : IsReading limits text (Ok p) = exact_program limits text p e names in
    record { exact = exact; only = λ r h. one_reading limits text (Ok p) r exact h; one = laws.one_program }

pub returns-in_err-functions-clause-exact : goal.returns-in_err-functions-clause-exact
returns-in_err-functions-clause-exact c =
    let limits = c.args.limits in
    let text = c.args.tokens.now in
    let p = err_from_is_err_and c.from_residual.result c.from_residual.ensures.1 in
    let v = of_values limits text c.length.result c.as_slice.result.now c.length.ensures.value c.as_slice.ensures.value in
    rw (p.1, p.2) (unless_memory c.in_err-functions.field-0.0 _ _ (λ e. exact_fault limits text _ (v ∙ e)) c.in_err-functions.ensures)

pub returns-in_err-functions-clause-only : goal.returns-in_err-functions-clause-only
returns-in_err-functions-clause-only c r h =
    let limits = c.args.limits in
    let text = c.args.tokens.now in
    gives_map c.from_residual.result (IsReading limits text) (λ s. s ≡ r) (λ s k. one_reading limits text s r k h) (returns-in_err-functions-clause-exact c)

pub returns-in_err-functions-clause-one : goal.returns-in_err-functions-clause-one
returns-in_err-functions-clause-one c = laws.one_program

pub returns-in_err-names-clause-one : goal.returns-in_err-names-clause-one
returns-in_err-names-clause-one c = laws.one_program
