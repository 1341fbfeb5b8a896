use Rattle.std.specs.Option.{option_map}
use Rattle.rr_cells.specs.Listing.{owned_cell}
use Rattle.rr_checkpoint.proofs.WalkLemmas.{SoFar, steps_left}
use Rattle.rr_checkpoint.proofs.walk.write_walk.Given as goal

-- the cells that were read are written
abbrev pub invariant-loop-after : goal.invariant-loop-after
invariant-loop-after g l =
    SoFar g.W.Write.contents l.fn.output l.fn.progress l.fn.reader l.output l.progress l.reader
    (option_map (λ c. (owned_cell c).0) l.after)

abbrev pub decreases-loop-after : goal.decreases-loop-after
decreases-loop-after g l = steps_left l.progress.cells l.after
