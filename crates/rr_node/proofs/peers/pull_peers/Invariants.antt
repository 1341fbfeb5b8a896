use Rattle.std.proofs.Common.{List, map, drop, ◌+◌}
use Rattle.std.specs.String.{string_bytes}
use Rattle.rr_host.specs.Calls.{DialCall, Grows}
use Rattle.rr_node.specs.Shelf.{ShelfCall}
use Rattle.rr_node.proofs.PeersLemmas.{GoesOn}
use Rattle.rr_node.proofs.peers.pull_peers.Given as goal

-- the peers before are done with, by these calls
abbrev pub invariant-loop-place : goal.invariant-loop-place
invariant-loop-place g l =
    (dialed : List DialCall) × (reported : List ShelfCall)
    × Grows (g.D.Dial.calls l.fn.dial) (g.D.Dial.calls l.dial) dialed
    × Grows (g.S.Shelf.calls l.fn.shelf) (g.S.Shelf.calls l.shelf) reported
    × GoesOn (map string_bytes l.peers) l.fn.keeper (l.place + 1) (map string_bytes (drop l.place l.peers)) l.keeper
    dialed reported
