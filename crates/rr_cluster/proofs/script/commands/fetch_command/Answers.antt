use Rattle.std.proofs.Common.{option_map, sym, ap, ◌∙◌}
use Rattle.rr_cluster.specs.Command.{fetch}
use Rattle.rr_cluster.proofs.CommandTextsLemmas.{fetch_command-rest}
use Rattle.rr_cluster.proofs.script.commands.fetch_command.Goals as goal

pub returns-in_err-request : goal.returns-in_err-request
returns-in_err-request c =
    let name = c.in_ok-node.node.now in
    rw (c.from_residual-in_err-request.ensures, c.in_ok-node.ensures.words)
    (ap (option_map (fetch name)) c.in_err-request.ensures ∙ sym (fetch_command-rest name c.in_ok-node.rest.now))

pub returns : goal.returns
returns c =
    let name = c.in_ok-node.node.now in
    rw c.in_ok-node.ensures.words
    (ap (option_map (fetch name)) c.in_ok-request.ensures ∙ sym (fetch_command-rest name c.in_ok-node.rest.now))
