use Rattle.rr_line.proofs.SortedLemmas.{repeats_by_sort}
use Rattle.rr_line.proofs.repeat.has_repeat_once_sorted.Goals as goal

pub returns : goal.returns
returns c = repeats_by_sort c.args.keys.now c.sort_unstable.new.self c.rise.result c.sort_unstable.ensures.permutation
    c.sort_unstable.ensures.sorted c.rise.ensures
