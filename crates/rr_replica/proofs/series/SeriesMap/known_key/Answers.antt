use Rattle.std.proofs.Common.{◌≡◌, Some, arith}
use Rattle.rr_replica.specs.Indexed.{index_of}
use Rattle.rr_replica.proofs.IndexedLemmas.{key_within, key_found}
use Rattle.rr_replica.proofs.series.SeriesMap.known_key.Goals as goal

pub index-requires : goal.index-requires
index-requires g c =
    let m = c.args.self.now in
    let at : Some c.in-Some.index ≡ index_of m.indices.entries c.args.key.now = c.in-Some.ensures in
    let within = key_within m.keys.items m.indices.entries m.indexed.there c.args.key.now c.in-Some.index at in
    let len = m.keys.ok.0 in
    omega (arith, within, len)

pub returns-in-Some : goal.returns-in-Some
returns-in-Some g c =
    let m = c.args.self.now in
    let at : Some c.in-Some.index ≡ index_of m.indices.entries c.args.key.now = c.in-Some.ensures in
    key_found m.keys.items m.indices.entries m.indexed.there c.args.key.now c.index.result.now c.in-Some.index at
    c.index.ensures
