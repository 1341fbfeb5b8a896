use Rattle.rr_cells.proofs.Knowing.{union_comm, union_assoc, union_itself}
use Rattle.rr_cells.proofs.laws.knowledge.union_is_a_join.Goals as goal

pub returns : goal.returns
returns c = record { commutative = union_comm; associative = union_assoc; idempotent = union_itself }
