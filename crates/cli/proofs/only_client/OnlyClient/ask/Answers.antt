use Rattle.std.proofs.Common.{refl}
use Rattle.cli.proofs.only_client.OnlyClient.ask.Goals as goal

pub answer_with-requires-clause-asked : goal.answer_with-requires-clause-asked
answer_with-requires-clause-asked g c κs within = (c.args.command, refl)
