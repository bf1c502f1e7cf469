use Rattle.std.proofs.Common.{ℕ}
use Rattle.std.specs.Prelude.{Vec}
use Rattle.std.specs.declared.alloc.Global.{Global}
use Rattle.cli.proofs.Readings.{read_fails}
use Rattle.cli.proofs.reading.bytes_of.Goals as goal

pub returns-in-Err-clause-failed : goal.returns-in-Err-clause-failed
returns-in-Err-clause-failed g c = read_fails (λ (bytes : Vec ℕ Global). bytes.items) (g.R.Read.rest c.args.reader.now) c.args.named _ _ c.in-Err.fault _ c.read_fault.ensures c.in-Err.ensures
