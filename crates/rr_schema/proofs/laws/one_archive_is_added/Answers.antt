use Rattle.rr_schema.proofs.AddedLemmas.{one_is_added, one_less_is_layout}
use Rattle.rr_schema.proofs.laws.one_archive_is_added.Goals as goal

pub returns : goal.returns
returns c = record { one = one_is_added; less = one_less_is_layout }
