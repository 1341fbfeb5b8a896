use Rattle.std.proofs.Common.{◌≡◌, false, map}
use Rattle.std.specs.List.{list_any, range_with_len}
use Rattle.rr_replica.specs.Horizon.{keeps_in}
use Rattle.rr_replica.proofs.replica.Replica.keeps_near.Given as goal

-- none of the archives so far would keep it
abbrev pub invariant-loop-i : goal.invariant-loop-i
invariant-loop-i g l =
    false ≡ list_any (λ kept. kept) (map (keeps_in l.self.schema l.self.cells l.key l.time) (range_with_len 0 l.i))
