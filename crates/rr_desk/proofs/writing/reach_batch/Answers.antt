use Rattle.std.proofs.Common.{rules}
use Rattle.rr_desk.proofs.EditionsLemmas.{reached}
use Rattle.rr_desk.proofs.writing.reach_batch.Goals as goal

pub returns : goal.returns
returns g c = record {
  reached = reached c.add.result c.args.book.now c.add.new.self _ g.K.Batch.batch c.add.ensures.state.made
      c.requires.batch c.requires.begins;
  desk = search rules;
  unchanged = search rules;
}
