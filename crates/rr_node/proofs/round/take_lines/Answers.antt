use Rattle.rr_node.proofs.EndsLemmas.{lines_over}
use Rattle.rr_node.proofs.round.take_lines.Goals as goal

pub returns : goal.returns
returns g c =
    let e = c.serve_lines-served.ensures.serves in
    lines_over c.args.config.now c.serve_lines-served.result _ _ _ _ _ _ _ _ _ _ c.in-Stream.ensures c.take_back.ensures
    e.lines.served e.lines.stopped e.lines.at_once
    (record { read = e.reads.failed; many = e.reads.too_many; no_end = e.reads.no_end; write = e.lines.write_failed })
    e.lines.faults
    c.going_on.ensures
