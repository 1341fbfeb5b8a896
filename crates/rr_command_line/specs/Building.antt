-- How the command line is built with clap.
use Rattle.std.specs.Prelude.{◌≡◌, false}
use Rattle.clap.specs.Words.{App, Rule, app_of, rule_of}
use Rattle.clap.specs.declared.builder.arg.Arg.{Arg}
use Rattle.clap.specs.declared.builder.command.Command.{Command}
use Rattle.clap.specs.declared.builder.command.Command.TheViews.{out-Command as fields_of}

-- an argument has this rule, and holds for its own command only
pub record IsArg (arg : Arg) (expected : Rule) : Type 0 where
  pub rule : rule_of arg ≡ expected
  pub local : arg.global ≡ false

-- a command has these rules, none of which holds for the commands below it as well
pub record IsCommand (expected : App) (command : Command) : Type 0 where
  pub app : app_of command ≡ expected
  pub local : (fields_of command).has_globals ≡ false
