-- What an order prints for its input, and how it ends.
use Rattle.std.specs.Prelude.{ℕ, List, []}
use Rattle.rr_cluster.specs.Model.{sample_model}
use Rattle.rr_cluster.specs.Output.{output_of}
use Rattle.rr_process.specs.declared.ending.Ending.{Ending}
use Rattle.rr_process.specs.declared.ending.Ending.TheVariants.{Done}
use Rattle.rr_process.specs.Ending.{ending_of_lines}
use Rattle.rr_process.specs.Report.{refused_count, report_of}
use Rattle.rr_words.specs.Words.{Asked, sim, check_lines, serve, node, journal}

-- a script prints what the sample model prints for it, and lines print their report; a node prints nothing, and what is
-- printed of a directory doesn't come from the input
abbrev pub printed_for : Asked → List ℕ → List ℕ
printed_for (sim file) input = output_of sample_model input
printed_for (check_lines precision now) input = report_of precision now input
printed_for (serve config origin load save) input = []
printed_for (node config folder load) input = []
printed_for (journal what folder) input = []

-- a script is done, and so are lines unless one of them is refused; there is nothing to do for a node or a directory
-- here
abbrev pub ending_of : Asked → List ℕ → Ending
ending_of (sim file) input = Done
ending_of (check_lines precision now) input = ending_of_lines (refused_count precision input)
ending_of (serve config origin load save) input = Done
ending_of (node config folder load) input = Done
ending_of (journal what folder) input = Done
