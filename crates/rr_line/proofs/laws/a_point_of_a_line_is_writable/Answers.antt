use Rattle.rr_line.proofs.LineLemmas.{writable_point}
use Rattle.rr_line.proofs.laws.a_point_of_a_line_is_writable.Goals as goal

pub returns : goal.returns
returns c = writable_point
