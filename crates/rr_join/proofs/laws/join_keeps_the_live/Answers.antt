use Rattle.rr_join.proofs.Joining.{joined_comm, joined_assoc, joined_itself, trimmed-joined}
use Rattle.rr_join.proofs.laws.join_keeps_the_live.Goals as goal

pub returns-clause-commutative : goal.returns-clause-commutative
returns-clause-commutative g c = λ _ _ h same alike. joined_comm g.met.N.Ord.total same g.met.T.Ord.total alike h

pub returns-clause-associative : goal.returns-clause-associative
returns-clause-associative g c = λ _ _ h same alike. joined_assoc g.met.N.Ord.total same g.met.T.Ord.total alike h

pub returns-clause-idempotent : goal.returns-clause-idempotent
returns-clause-idempotent g c = λ _ _ h same alike. joined_itself g.met.N.Ord.total same g.met.T.Ord.total alike h

pub returns-clause-trimmed : goal.returns-clause-trimmed
returns-clause-trimmed g c = λ _ _ h same. trimmed-joined g.met.N.Ord.total same h g.T.Ord.cmp
