use Rattle.std.proofs.Common.{inr, refl}
use Rattle.std.proofs.lemmas.Result.{err_from_is_err_and}
use Rattle.rr_node.proofs.SeatsLemmas.{served_out, stream_served}
use Rattle.rr_node.proofs.seat.serve_visit.Goals as goal

pub returns-in_err-end_without_memory-in-Stream : goal.returns-in_err-end_without_memory-in-Stream
returns-in_err-end_without_memory-in-Stream g c =
    let p = err_from_is_err_and c.from_residual.result c.from_residual.ensures.1 in
    let e = c.serve_reader-served.ensures in
    let s = stream_served c.serve_reader-served.result _ _ _ _ _ _ _ _ c.in-Stream.ensures c.tell.ensures
    c.take_back.ensures e.served e.faults
    (record { read = e.read_failed; many = e.too_many; no_end = e.no_end; write = e.write_failed })
    (record { read = e.session_read_failed; write = e.session_write_failed }) in
    rw (p.1, p.2) (s.0, s.1, (refl, served_out _ _ _ _ c.in_err-end_without_memory-in-Stream.ensures s.2))

pub returns-in_ok-end_without_memory-in-Stream : goal.returns-in_ok-end_without_memory-in-Stream
returns-in_ok-end_without_memory-in-Stream g c =
    let e = c.serve_reader-served.ensures in
    let s = stream_served c.serve_reader-served.result _ _ _ _ _ _ _ _ c.in-Stream.ensures c.tell.ensures
    c.take_back.ensures e.served e.faults
    (record { read = e.read_failed; many = e.too_many; no_end = e.no_end; write = e.write_failed })
    (record { read = e.session_read_failed; write = e.session_write_failed }) in
    (s.0, s.1, inr (c.serve_reader-served.result, c.in_ok-end_without_memory-in-Stream.ensures, s.2))
