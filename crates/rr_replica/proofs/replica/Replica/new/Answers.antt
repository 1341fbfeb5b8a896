use Rattle.std.proofs.Common.{rules, ◌≡◌, [], arith}
use Rattle.rr_schema.specs.Origin.{IsOrigin}
use Rattle.rr_schema.specs.Schema.{IsLayout}
use Rattle.rr_replica.specs.SeriesMap.{entries_of}
use Rattle.rr_replica.proofs.InMemoryLemmas.{kept_none, cells_none}
use Rattle.rr_replica.proofs.replica.Replica.new.Goals as goal

pub invariant_of-result : goal.invariant_of-result
invariant_of-result g c =
    let none : (entries_of c.new.result) ≡ [] = c.new.ensures.none in
    let within : IsLayout c.in_ok-copy.field-0 = search rules in
    let in_range : IsOrigin c.args.origin = record { at_least = omega arith; at_most = omega arith } in
    kept_none g.A.Cells.cells g.A.Cells.row_limit c.in_ok-copy.field-0 c.args.origin (entries_of c.new.result) within
    in_range none

pub returns : goal.returns
returns g c =
    let none : (entries_of c.new.result) ≡ [] = c.new.ensures.none in
    let same : c.in_ok-copy.field-0 ≡ c.args.schema.now = search rules in
    λ i. record {
      schema = same i;
      origin = c.args.origin;
      next = 1;
      cells =
          cells_none g.A.Cells.cells (entries_of c.new.result) none i;
    }
