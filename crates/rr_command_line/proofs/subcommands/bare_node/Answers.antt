use Rattle.std.proofs.Common.{rules}
use Rattle.rr_command_line.proofs.subcommands.bare_node.Goals as goal

pub returns : goal.returns
returns c = search rules
