use Rattle.std.proofs.Common.{sym, rules, ◌∙◌}
use Rattle.std.specs.Prelude.{◌≡◌}
use denote.Enum.Bare.{same_true}
use Rattle.clnum.specs.contracts.int_type.IntType.{the_type}
use Rattle.clnum.proofs.Formulas.{converted-same, wrapped-converted}
use Rattle.clnum.proofs.operations.convert.Goals as goal

pub returns-then-eq : goal.returns-then-eq
returns-then-eq c =
    let e : c.kind.result ≡ c.args.kind = same_true the_type (search rules) _ _ (sym c.if-eq.ensures) in
    converted-same c.args.value c.args.kind (sym c.kind.ensures ∙ e) c.number-number.ensures.in_range

pub returns : goal.returns
returns c =
    wrapped-converted c.args.value c.args.kind c.number-number.result c.wrapped.result (record { sfits = c.number-number.type_inv }) c.number-number.ensures.value c.wrapped.ensures
