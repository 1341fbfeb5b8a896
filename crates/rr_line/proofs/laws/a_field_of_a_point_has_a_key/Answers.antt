use Rattle.rr_line.proofs.LineLemmas.{keys_of_point}
use Rattle.rr_line.proofs.laws.a_field_of_a_point_has_a_key.Goals as goal

pub returns : goal.returns
returns c = keys_of_point
