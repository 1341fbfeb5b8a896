use Rattle.std.proofs.Common.{refl}
use Rattle.clap.proofs.OnLiterals.{clap_on_literals}
use Rattle.rr_words.proofs.laws.command_lines_are_read.Goals as goal

pub returns-clause-no_words : goal.returns-clause-no_words
unfolding clap_on_literals
returns-clause-no_words c = refl

pub returns-clause-sim : goal.returns-clause-sim
unfolding clap_on_literals
returns-clause-sim c = refl

pub returns-clause-sim_of_a_file : goal.returns-clause-sim_of_a_file
unfolding clap_on_literals
returns-clause-sim_of_a_file c = refl

pub returns-clause-check_lines : goal.returns-clause-check_lines
unfolding clap_on_literals
returns-clause-check_lines c = refl

pub returns-clause-ns : goal.returns-clause-ns
unfolding clap_on_literals
returns-clause-ns c = refl

pub returns-clause-us : goal.returns-clause-us
unfolding clap_on_literals
returns-clause-us c = refl

pub returns-clause-ms : goal.returns-clause-ms
unfolding clap_on_literals
returns-clause-ms c = refl

pub returns-clause-s : goal.returns-clause-s
unfolding clap_on_literals
returns-clause-s c = refl

pub returns-clause-below_zero : goal.returns-clause-below_zero
unfolding clap_on_literals
returns-clause-below_zero c = refl

pub returns-clause-dashed_word : goal.returns-clause-dashed_word
unfolding clap_on_literals
returns-clause-dashed_word c = refl

pub returns-clause-plus : goal.returns-clause-plus
unfolding clap_on_literals
returns-clause-plus c = refl

pub returns-clause-past_i64 : goal.returns-clause-past_i64
unfolding clap_on_literals
returns-clause-past_i64 c = refl

pub returns-clause-other_precision : goal.returns-clause-other_precision
unfolding clap_on_literals
returns-clause-other_precision c = refl

pub returns-clause-two_files : goal.returns-clause-two_files
unfolding clap_on_literals
returns-clause-two_files c = refl

pub returns-clause-other_word : goal.returns-clause-other_word
unfolding clap_on_literals
returns-clause-other_word c = refl

pub returns-clause-help : goal.returns-clause-help
unfolding clap_on_literals
returns-clause-help c = refl

pub returns-clause-serve : goal.returns-clause-serve
unfolding clap_on_literals
returns-clause-serve c = refl

pub returns-clause-serve_from_a_snapshot : goal.returns-clause-serve_from_a_snapshot
unfolding clap_on_literals
returns-clause-serve_from_a_snapshot c = refl

pub returns-clause-no_origin : goal.returns-clause-no_origin
unfolding clap_on_literals
returns-clause-no_origin c = refl

pub returns-clause-origin_0 : goal.returns-clause-origin_0
unfolding clap_on_literals
returns-clause-origin_0 c = refl

pub returns-clause-past_origins : goal.returns-clause-past_origins
unfolding clap_on_literals
returns-clause-past_origins c = refl

pub returns-clause-no_configuration : goal.returns-clause-no_configuration
unfolding clap_on_literals
returns-clause-no_configuration c = refl

pub returns-clause-version : goal.returns-clause-version
unfolding clap_on_literals
returns-clause-version c = refl

pub returns-clause-node : goal.returns-clause-node
unfolding clap_on_literals
returns-clause-node c = refl

pub returns-clause-node_from_a_snapshot : goal.returns-clause-node_from_a_snapshot
unfolding clap_on_literals
returns-clause-node_from_a_snapshot c = refl

pub returns-clause-no_directory : goal.returns-clause-no_directory
unfolding clap_on_literals
returns-clause-no_directory c = refl

pub returns-clause-node_of_no_configuration : goal.returns-clause-node_of_no_configuration
unfolding clap_on_literals
returns-clause-node_of_no_configuration c = refl

pub returns-clause-node_of_an_origin : goal.returns-clause-node_of_an_origin
unfolding clap_on_literals
returns-clause-node_of_an_origin c = refl

pub returns-clause-journal_check : goal.returns-clause-journal_check
unfolding clap_on_literals
returns-clause-journal_check c = refl

pub returns-clause-journal_cells : goal.returns-clause-journal_cells
unfolding clap_on_literals
returns-clause-journal_cells c = refl

pub returns-clause-journal_of_nothing : goal.returns-clause-journal_of_nothing
unfolding clap_on_literals
returns-clause-journal_of_nothing c = refl

pub returns-clause-other_journal_word : goal.returns-clause-other_journal_word
unfolding clap_on_literals
returns-clause-other_journal_word c = refl
