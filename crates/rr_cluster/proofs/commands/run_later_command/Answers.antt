use Rattle.rr_cluster.specs.Commands.Bytes.{hex_of_page}
use Rattle.rr_cluster.specs.Commands.Fetch.{answer_to}
use Rattle.rr_cluster.specs.Model.{cell_model}
use Rattle.rr_fetch.specs.Words.{parts}
use Rattle.rr_cluster.proofs.MeaningLemmas.{obeys_printing}
use Rattle.rr_cluster.proofs.commands.run_later_command.Goals as goal

pub returns-in-Bytes : goal.returns-in-Bytes
returns-in-Bytes g c = λ m is.
    let due = hex_of_page cell_model m c.in-Bytes.name.now in
    rw c.in-Bytes.is (obeys_printing c.args.cluster.now m c.args.text.now.items c.print.new.text.items due
    c.print.result is (c.print.ensures due (c.hex_of_page.ensures m is)))

pub returns-in-Fetch : goal.returns-in-Fetch
returns-in-Fetch g c = λ m is.
    let due = answer_to cell_model m c.in-Fetch.node.now (parts c.in-Fetch.request) in
    rw c.in-Fetch.is (obeys_printing c.args.cluster.now m c.args.text.now.items c.print-in-Fetch.new.text.items due
    c.print-in-Fetch.result is (c.print-in-Fetch.ensures due (c.answer_to.ensures m is)))
