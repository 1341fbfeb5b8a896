use Rattle.rr_nodes.proofs.GivingLemmas as giving
use Rattle.rr_nodes.proofs.laws.cells_given_are_there.Goals as goal

pub returns : goal.returns
returns c = record {
  given = giving.given_are_there;
  unused = giving.unused_have_no_cells;
  loaded =
      giving.saved_is_loaded_elsewhere;
}
