use Rattle.std.proofs.Common.{rules}
use Rattle.rr_command_line.proofs.subcommands.serve_commands.Goals as goal

pub returns : goal.returns
returns c = search rules
