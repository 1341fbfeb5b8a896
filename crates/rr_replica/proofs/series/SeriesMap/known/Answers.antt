use Rattle.std.proofs.Common.{◌≡◌, Some, sym, arith}
use Rattle.rr_replica.specs.Indexed.{index_of}
use Rattle.rr_replica.proofs.IndexedLemmas.{key_within, key_found, index_within, element_found}
use Rattle.rr_replica.proofs.series.SeriesMap.known.Goals as goal

pub index-known-requires : goal.index-known-requires
index-known-requires g c =
    let m = c.args.self.now in
    let at : Some c.in-Some.index ≡ index_of m.indices.entries c.args.key.now = c.in-Some.ensures in
    let within = key_within m.keys.items m.indices.entries m.indexed.there c.args.key.now c.in-Some.index at in
    let len = m.keys.ok.0 in
    omega (arith, within, len)

pub index-archives-requires : goal.index-archives-requires
index-archives-requires g c =
    let m = c.args.self.now in
    let at : Some c.in-Some.index ≡ index_of m.indices.entries c.args.key.now = c.in-Some.ensures in
    let within = index_within m.indexed c.args.key.now c.in-Some.index at in
    let len = m.archives.ok.0 in
    omega (arith, within, len)

pub returns-in-Some-clause-key : goal.returns-in-Some-clause-key
returns-in-Some-clause-key g c =
    let m = c.args.self.now in
    let at : Some c.in-Some.index ≡ index_of m.indices.entries c.args.key.now = c.in-Some.ensures in
    key_found m.keys.items m.indices.entries m.indexed.there c.args.key.now c.index-known.result.now c.in-Some.index at
    c.index-known.ensures

pub returns-in-Some-clause-archives : goal.returns-in-Some-clause-archives
returns-in-Some-clause-archives g c =
    let m = c.args.self.now in
    let at : Some c.in-Some.index ≡ index_of m.indices.entries c.args.key.now = c.in-Some.ensures in
    sym (element_found m.indexed c.args.key.now c.in-Some.index c.index-archives.result.now at c.index-archives.ensures)
