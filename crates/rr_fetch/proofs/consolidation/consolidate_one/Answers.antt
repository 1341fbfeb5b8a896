use Rattle.std.proofs.Common.{rules, ◌≡◌, true, false, count_ones, ◌∙◌, arith, to_z, of_z, w64}
use Rattle.rr_schema.specs.Schema.{is_known_enough}
use Rattle.rr_schema.specs.declared.consolidation.ConsolidationFunction.TheVariants.{Average, Min, Max, Last}
use Rattle.rr_fetch.proofs.OneEntry.{unknown_one, known_one, average_of_one}
use Rattle.rr_fetch.proofs.consolidation.consolidate_one.Goals as goal

pub returns-then-not-known_enough : goal.returns-then-not-known_enough
returns-then-not-known_enough c =
    let few : is_known_enough c.args.schema.now c.args.archive (count_ones c.args.entry.now.contribution.mask) ≡ false =
    search rules in
    unknown_one c.args.schema.now c.args.archive c.args.cf c.args.entry.now few

pub sum_of_one-requires : goal.sum_of_one-requires
sum_of_one-requires c = c.requires.row.summable 0 c.args.entry.now (omega arith)

pub returns-in-Average : goal.returns-in-Average
returns-in-Average c =
    let enough : is_known_enough c.args.schema.now c.args.archive (count_ones c.args.entry.now.contribution.mask)
    ≡ true =
    search rules in
    rw (c.in-Average.is, c.average.ensures, c.sum_of_one.ensures.total, c.sum_of_one.ensures.count)
    (average_of_one c.args.entry.now ∙ known_one c.args.schema.now c.args.archive Average c.args.entry.now enough)

pub returns-in-Min : goal.returns-in-Min
returns-in-Min c =
    let enough : is_known_enough c.args.schema.now c.args.archive (count_ones c.args.entry.now.contribution.mask)
    ≡ true =
    search rules in
    let value : to_z w64 (of_z w64 c.args.entry.now.contribution.min) ≡ c.args.entry.now.contribution.min =
    search rules in
    rw (c.in-Min.is, value) (known_one c.args.schema.now c.args.archive Min c.args.entry.now enough)

pub returns-in-Max : goal.returns-in-Max
returns-in-Max c =
    let enough : is_known_enough c.args.schema.now c.args.archive (count_ones c.args.entry.now.contribution.mask)
    ≡ true =
    search rules in
    let value : to_z w64 (of_z w64 c.args.entry.now.contribution.max) ≡ c.args.entry.now.contribution.max =
    search rules in
    rw (c.in-Max.is, value) (known_one c.args.schema.now c.args.archive Max c.args.entry.now enough)

pub returns-in-Last : goal.returns-in-Last
returns-in-Last c =
    let enough : is_known_enough c.args.schema.now c.args.archive (count_ones c.args.entry.now.contribution.mask)
    ≡ true =
    search rules in
    let value : to_z w64 (of_z w64 c.args.entry.now.contribution.last_value)
    ≡ c.args.entry.now.contribution.last_value =
    search rules in
    rw (c.in-Last.is, value) (known_one c.args.schema.now c.args.archive Last c.args.entry.now enough)
