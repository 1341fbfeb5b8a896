use Rattle.std.proofs.Common.{◌≡◌, drop}
use Rattle.rr_journal.specs.Witness.{has_witness}
use Rattle.rr_journal.proofs.witness.has_witness.Given as goal

-- no witness stands before the index
abbrev pub invariant-loop-index : goal.invariant-loop-index
invariant-loop-index l =
    has_witness l.key.bytes l.at (drop l.index l.bytes) ≡ has_witness l.key.bytes l.offset l.bytes
