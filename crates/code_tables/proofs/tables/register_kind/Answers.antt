use Rattle.std.proofs.Common.{◌%◌, arith}
use Rattle.std.proofs.lemmas.List.{get_or_default}
use Rattle.code_tables.specs.Tables.{kinds}
use Rattle.code_tables.proofs.tables.register_kind.Goals as goal

pub returns : goal.returns
returns c = get_or_default kinds (c.args.register % 16) _ _ (omega arith)
