use Rattle.std.proofs.Common.{◌++◌, append-nil, ◌∙◌}
use Rattle.rr_cells.specs.Operations.{joins_of}
use Rattle.rr_replica.specs.ReplicaWithRoom.{replica_state}
use Rattle.rr_desk.specs.Changes.{ops_in}
use Rattle.rr_desk.specs.Writers.{all_ops, shown_names}
use Rattle.rr_desk.proofs.KeeperStateLemmas.{keeper-open}
use Rattle.rr_desk.proofs.UnwrittenLemmas.{unwritten-open}
use Rattle.rr_desk.proofs.NamingLemmas.{named-open}
use Rattle.rr_desk.proofs.copies.Copies.new.Goals as goal

pub invariant_of-result : goal.invariant_of-result
invariant_of-result g c = let h = c.requires in (
  keeper-open _ _ _ _ _ _ _ h.holds h.view h.copy h.prefix h.book h.pending,
  named-open _ _ _ _ h.keys h.pending c.key_count-named.ensures,
  unwritten-open (replica_state c.args.own) c.args.own.keys c.new-unwritten.result (all_ops c.args.writer) h.holds
      ((λ i. (h.view i).seen ++ ops_in (shown_names c.args.writer) (h.pending i)) ∙ append-nil (joins_of c.args.own.cells))
      c.new-unwritten.ensures.count,
)
