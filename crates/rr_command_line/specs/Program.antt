-- The command line of the program, by the rules that clap has for it.
use Rattle.std.specs.Prelude.{[], Some, true, codes}
use Rattle.clap.specs.Words.{App, Rule, Text, new_app, new_rule, with_rule, with_subcommand}

-- sim [FILE]
abbrev pub sim_app : App
sim_app = with_rule (new_app (codes "sim")) (new_rule (codes "FILE"))

-- --NAME VALUE
abbrev pub option_rule : Text → Rule
option_rule name = record (new_rule name) { long = Some name; value_names = 1 }

-- check-lines [--precision P] [--now T]
abbrev pub check_lines_app : App
check_lines_app = with_rule (with_rule (new_app (codes "check-lines")) (option_rule (codes "precision")))
    (option_rule (codes "now"))

-- NAME, which is required
abbrev pub needed_rule : Text → Rule
needed_rule name = record (new_rule name) { required = true }

-- --origin N
abbrev pub origin_rule : Rule
origin_rule = record (option_rule (codes "origin")) { required = true }

-- serve CONFIG --origin N
abbrev pub bare_serve_app : App
bare_serve_app = with_rule (with_rule (new_app (codes "serve")) (needed_rule (codes "CONFIG"))) origin_rule

-- serve CONFIG --origin N [--load FILE] [--save FILE]
abbrev pub serve_app : App
serve_app = with_rule (with_rule bare_serve_app (option_rule (codes "load"))) (option_rule (codes "save"))

-- --data DIR
abbrev pub data_rule : Rule
data_rule = record (option_rule (codes "data")) { required = true }

-- node CONFIG --data DIR
abbrev pub bare_node_app : App
bare_node_app = with_rule (with_rule (new_app (codes "node")) (needed_rule (codes "CONFIG"))) data_rule

-- node CONFIG --data DIR [--load FILE]
abbrev pub node_app : App
node_app = with_rule bare_node_app (option_rule (codes "load"))

-- journal WHAT DIR
abbrev pub journal_app : App
journal_app = with_rule (with_rule (new_app (codes "journal")) (needed_rule (codes "WHAT"))) (needed_rule (codes "DIR"))

-- the words are those after the program's name, and it has a version to print
abbrev pub bare_app : App
bare_app = record { top = record (new_app (codes "rr")).top { no_binary_name = true; has_version = true }; subs = [] }

-- with the command for scripts
abbrev pub script_command_app : App
script_command_app = with_subcommand bare_app sim_app.top

-- with the commands over two streams
abbrev pub stream_commands_app : App
stream_commands_app = with_subcommand script_command_app check_lines_app.top

-- and the one that serves with snapshots
abbrev pub serve_commands_app : App
serve_commands_app = with_subcommand stream_commands_app serve_app.top

-- and the one that serves from a directory
abbrev pub node_commands_app : App
node_commands_app = with_subcommand serve_commands_app node_app.top

abbrev pub program_app : App
program_app = with_subcommand node_commands_app journal_app.top
