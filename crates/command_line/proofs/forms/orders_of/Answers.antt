use Rattle.std.proofs.Common.{ℕ, subst, sym, codes}
use Rattle.clap.specs.Words.{found_of, one_of, rows_of}
use Rattle.command_line.specs.CommandLine.{IsNumber}
use Rattle.command_line.proofs.CommandLines.{no_number, number_or}
use Rattle.command_line.proofs.forms.orders_of.Goals as goal

pub returns : goal.returns
returns c =
    let named = one_of (codes "orders") (rows_of (found_of c.args.explore.now)) in
    subst (λ (n : ℕ). IsNumber 1000 1000000 named n) (sym c.unwrap_or.ensures) (number_or 1000 1000000 named c.in_ok-orders.orders c.in_ok-orders.ensures)

pub returns-in_err-orders : goal.returns-in_err-orders
returns-in_err-orders c =
    rw c.from_residual.ensures (no_number 1000 1000000 (one_of (codes "orders") (rows_of (found_of c.args.explore.now))) c.in_err-orders.ensures)
