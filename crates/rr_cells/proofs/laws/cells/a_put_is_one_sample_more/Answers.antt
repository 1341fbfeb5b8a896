use Rattle.rr_cells.proofs.OneSampleMore.{put_is_one_sample_more}
use Rattle.rr_cells.proofs.laws.cells.a_put_is_one_sample_more.Goals as goal

pub returns : goal.returns
returns c = put_is_one_sample_more
