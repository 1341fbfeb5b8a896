use Rattle.std.proofs.Common.{rules, ◌≡◌, ◌<◌, ◌++◌, None, Some, Option, sym, subst}
use Rattle.std.specs.Option.{option_map}
use Rattle.rr_cells.specs.declared.cell.Cell.{Cell}
use Rattle.rr_cells.specs.Listing.{owned_cell}
use Rattle.rr_checkpoint.specs.Walk.{cells_read}
use Rattle.rr_checkpoint.specs.Writing.{next_seen}
use Rattle.rr_checkpoint.proofs.TextLemmas.{whole_prefix}
use Rattle.rr_checkpoint.proofs.WalkLemmas.{SoFar, fewer_left, goes_on, more_prefix, nothing_yet, one_more, seen_further, steps_left, too_long, whole_walk}
use Rattle.rr_checkpoint.proofs.walk.write_walk.Goals as goal

pub returns-in_err-after-clause-some : goal.returns-in_err-after-clause-some
returns-in_err-after-clause-some g c = record {
  records = c.in_err-after.ensures.some.records;
  prefix = c.in_err-after.ensures.some.prefix;
  failures_never_fall = search rules;
  failed = search rules;
}

pub returns-in_err-after-clause-too_many : goal.returns-in_err-after-clause-too_many
returns-in_err-after-clause-too_many g c = λ is.
    let first = c.args.reader.now in
    too_long g.W.Write.contents c.args.output.now c.args.progress.now first c.args.output.now c.write_next.new.output
    c.args.progress.now c.write_next.new.progress first c.write_next.new.reader None
    (nothing_yet g.W.Write.contents c.args.output.now c.args.progress.now first) c.in_err-after.ensures.seen c.requires
    (c.in_err-after.ensures.too_many (search rules))

pub loop-after-init : goal.loop-after-init
loop-after-init g c =
    let first = c.args.reader.now in
    one_more g.W.Write.contents c.args.output.now c.args.progress.now first c.args.output.now c.write_next.new.output
    c.args.progress.now c.write_next.new.progress first c.write_next.new.reader None
    (nothing_yet g.W.Write.contents c.args.output.now c.args.progress.now first) c.in_ok-after.ensures.seen
    (option_map (λ (c : Cell). (owned_cell c).0) c.in_ok-after.after) c.in_ok-after.ensures.written
    c.in_ok-after.ensures.last c.in_ok-after.ensures.some.failures_never_fall c.in_ok-after.ensures.fits

pub returns-in_err-after-2-clause-seen : goal.returns-in_err-after-2-clause-seen
returns-in_err-after-2-clause-seen g c =
    seen_further c.args.reader.now c.loop-after.reader c.write_next-in-Some.new.reader c.loop-after.invariant.reader
    c.in_err-after-2.ensures.seen

pub returns-in_err-after-2-clause-some : goal.returns-in_err-after-2-clause-some
returns-in_err-after-2-clause-some g c =
    let so_far = c.loop-after.invariant in
    record {
      records = so_far.written.records.records ++ c.in_err-after-2.ensures.some.records;
      prefix = more_prefix g.W.Write.contents c.args.output.now c.args.progress.now c.args.reader.now
          c.loop-after.output c.write_next-in-Some.new.output c.loop-after.progress (cells_read so_far.reads)
          so_far.written c.in_err-after-2.ensures.some.records c.in_err-after-2.ensures.some.prefix;
      failures_never_fall = search rules;
      failed = search rules;
    }

pub returns-in_err-after-2-clause-too_many : goal.returns-in_err-after-2-clause-too_many
returns-in_err-after-2-clause-too_many g c = λ is.
    let last = c.in-Some.last in
    let so_far = subst (λ (a : Option Cell). SoFar g.W.Write.contents c.args.output.now c.args.progress.now
    c.args.reader.now c.loop-after.output c.loop-after.progress c.loop-after.reader
    (option_map (λ (c : Cell). (owned_cell c).0) a)) c.in-Some.is c.loop-after.invariant in
    too_long g.W.Write.contents c.args.output.now c.args.progress.now c.args.reader.now c.loop-after.output
    c.write_next-in-Some.new.output c.loop-after.progress c.write_next-in-Some.new.progress c.loop-after.reader
    c.write_next-in-Some.new.reader (Some (owned_cell last).0)
    (goes_on g.W.Write.contents c.args.output.now c.args.progress.now c.args.reader.now c.loop-after.output
    c.loop-after.progress c.loop-after.reader (owned_cell last).0 so_far) c.in_err-after-2.ensures.seen c.requires
    (c.in_err-after-2.ensures.too_many (search rules))

pub loop-after-preserved : goal.loop-after-preserved
loop-after-preserved g c =
    let last = c.in-Some.last in
    let so_far = subst (λ (a : Option Cell). SoFar g.W.Write.contents c.args.output.now c.args.progress.now
    c.args.reader.now c.loop-after.output c.loop-after.progress c.loop-after.reader
    (option_map (λ (c : Cell). (owned_cell c).0) a)) c.in-Some.is c.loop-after.invariant in
    one_more g.W.Write.contents c.args.output.now c.args.progress.now c.args.reader.now c.loop-after.output
    c.write_next-in-Some.new.output c.loop-after.progress c.write_next-in-Some.new.progress c.loop-after.reader
    c.write_next-in-Some.new.reader (Some (owned_cell last).0)
    (goes_on g.W.Write.contents c.args.output.now c.args.progress.now c.args.reader.now c.loop-after.output
    c.loop-after.progress c.loop-after.reader (owned_cell last).0 so_far) c.in_ok-after-2.ensures.seen
    (option_map (λ (c : Cell). (owned_cell c).0) c.in_ok-after-2.after) c.in_ok-after-2.ensures.written
    c.in_ok-after-2.ensures.last c.in_ok-after-2.ensures.some.failures_never_fall c.in_ok-after-2.ensures.fits

pub loop-after-preserved-in_ok-after-2 : goal.loop-after-preserved-in_ok-after-2
loop-after-preserved-in_ok-after-2 g c =
    let last = c.in-Some.last in
    let so_far = subst (λ (a : Option Cell). SoFar g.W.Write.contents c.args.output.now c.args.progress.now
    c.args.reader.now c.loop-after.output c.loop-after.progress c.loop-after.reader
    (option_map (λ (c : Cell). (owned_cell c).0) a)) c.in-Some.is c.loop-after.invariant in
    one_more g.W.Write.contents c.args.output.now c.args.progress.now c.args.reader.now c.loop-after.output
    c.write_next-in-Some.new.output c.loop-after.progress c.write_next-in-Some.new.progress c.loop-after.reader
    c.write_next-in-Some.new.reader (Some (owned_cell last).0)
    (goes_on g.W.Write.contents c.args.output.now c.args.progress.now c.args.reader.now c.loop-after.output
    c.loop-after.progress c.loop-after.reader (owned_cell last).0 so_far) c.in_ok-after-2.ensures.seen
    (option_map (λ (c : Cell). (owned_cell c).0) c.in_ok-after-2.after) c.in_ok-after-2.ensures.written
    c.in_ok-after-2.ensures.last c.in_ok-after-2.ensures.some.failures_never_fall c.in_ok-after-2.ensures.fits

pub loop-after-smaller : goal.loop-after-smaller
loop-after-smaller g c =
    subst (λ (a : Option Cell). steps_left c.write_next-in-Some.new.progress.cells c.in_ok-after-2.after
    < steps_left c.loop-after.progress.cells a) (sym c.in-Some.is)
    (fewer_left c.loop-after.progress.cells c.write_next-in-Some.new.progress.cells
    (next_seen c.write_next-in-Some.new.reader (Some (owned_cell c.in-Some.last).0)) (Some (owned_cell c.in-Some.last).0)
    c.in-Some.last c.in_ok-after-2.after c.in_ok-after-2.ensures.written.count c.in_ok-after-2.ensures.fits
    c.in_ok-after-2.ensures.last)

pub returns-clause-seen : goal.returns-clause-seen
returns-clause-seen g c = c.loop-after.invariant.reader

pub returns-clause-written : goal.returns-clause-written
returns-clause-written g c =
    let none : c.loop-after.after ≡ None = search rules in
    whole_walk g.W.Write.contents c.args.output.now c.args.progress.now c.args.reader.now c.loop-after.output
    c.loop-after.progress c.loop-after.reader
    (subst (λ (a : Option Cell). SoFar g.W.Write.contents c.args.output.now c.args.progress.now c.args.reader.now
    c.loop-after.output c.loop-after.progress c.loop-after.reader (option_map (λ (c : Cell). (owned_cell c).0) a))
    none c.loop-after.invariant)

pub returns-clause-some : goal.returns-clause-some
returns-clause-some g c =
    let written = c.loop-after.invariant.written.records in
    record {
      records = written.records;
      prefix = whole_prefix _ _ _ written.text;
      failures_never_fall = search rules;
      failed = search rules;
    }
