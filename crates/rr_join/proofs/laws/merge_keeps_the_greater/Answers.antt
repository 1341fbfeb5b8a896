use Rattle.rr_join.proofs.Joining.{merged_comm, merged_assoc, merged_itself}
use Rattle.rr_join.proofs.laws.merge_keeps_the_greater.Goals as goal

pub returns-clause-commutative : goal.returns-clause-commutative
returns-clause-commutative g c = λ same alike. merged_comm g.met.N.Ord.total same g.met.T.Ord.total alike

pub returns-clause-associative : goal.returns-clause-associative
returns-clause-associative g c = λ same alike. merged_assoc g.met.N.Ord.total same g.met.T.Ord.total alike

pub returns-clause-idempotent : goal.returns-clause-idempotent
returns-clause-idempotent g c = λ same alike. merged_itself g.met.N.Ord.total same g.met.T.Ord.total alike
