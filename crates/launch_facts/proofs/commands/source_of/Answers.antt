use Rattle.std.proofs.Common.{arith}
use Rattle.launch_facts.proofs.commands.source_of.Goals as goal

pub source_line-requires : goal.source_line-requires
source_line-requires c = omega (arith, c.requires, c.in_ok-kernel_command.ensures.0, c.in_ok-program_command.ensures.0)
