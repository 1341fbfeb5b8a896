use Rattle.std.proofs.Common.{rules}
use Rattle.rr_command_line.proofs.subcommands.node_commands.Goals as goal

pub returns : goal.returns
returns c = search rules
