-- The calls of a shelf, each with what it gave and was handed.
use Rattle.std.specs.Prelude.{ℕ, Bool, Option}
use Rattle.rr_host.specs.Streams.{Output}
use Rattle.rr_node.specs.declared.fault.NodeFault.{NodeFault}
use Rattle.rr_node.specs.declared.report.Report.{Report}
use Rattle.rr_snapshot.specs.declared.fault.SaveFault.{SaveFault}

-- a call of a shelf: it was told the report of a connection, or that there is none; that a peer brought cells of the
-- keeper's own origin which the keeper never wrote, that the pull of a peer failed, how many samples no archive kept, or
-- that all pulls are over, with the number of cells if it wants that; it said whether it does; it opened a writer for a
-- snapshot, or wants none, or can't open one; a writer was handed back, with a whole snapshot or not; or it was told that
-- a save failed
pub data ShelfCall : Type 0 where
  taken : Option Report → ShelfCall
  own_origin : (number : ℕ) → ShelfCall
  peer_failed : (number : ℕ) → NodeFault → ShelfCall
  past_horizon : (samples : ℕ) → ShelfCall
  counts : (wanted : Bool) → ShelfCall
  pulled : (cells : Option ℕ) → ShelfCall
  opened : Output → ShelfCall
  unwanted : ShelfCall
  unopened : ShelfCall
  put_back : Output → (whole : Bool) → ShelfCall
  save_failed : SaveFault → ShelfCall
