use Rattle.std.proofs.Common.{[]}
use Rattle.rr_commit.proofs.PackingLemmas.{all_closed}
use Rattle.rr_commit.proofs.packing.Packing.into_records.Goals as goal

pub returns : goal.returns
returns c done are =
    all_closed c.close.new.self.records.items c.close.new.self.body.items c.close.new.self.own.items done
    (c.in_ok-close.ensures.packs done [] 0 are) c.in_ok-close.ensures.closed
