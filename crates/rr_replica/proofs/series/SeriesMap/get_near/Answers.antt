use Rattle.std.proofs.Common.{◌≡◌, Some, None, sym, ◌∙◌}
use Rattle.rr_replica.specs.Indexed.{index_of}
use Rattle.rr_replica.proofs.IndexedLemmas.{archives_found, archives_nowhere}
use Rattle.rr_replica.proofs.Lending.{lent_at}
use Rattle.rr_replica.proofs.series.SeriesMap.get_near.Goals as goal

pub returns-in-Some : goal.returns-in-Some
returns-in-Some g c =
    let m = c.args.self.now in
    let at : Some c.in-Some.index ≡ index_of m.indices.entries c.args.key.now = c.in-Some.ensures in
    let lookup = rw c.deref.ensures.value at c.get.ensures.lookup in
    sym (lent_at m.archives.items c.in-Some.index c.get.result lookup.1 lookup.0)
    ∙ sym (archives_found m.indexed c.args.key.now c.in-Some.index at)

pub returns-in-None : goal.returns-in-None
returns-in-None g c =
    let m = c.args.self.now in
    let none : None ≡ index_of m.indices.entries c.args.key.now = c.in-None.ensures in
    sym (archives_nowhere m.indexed c.args.key.now none)
