use Rattle.std.proofs.Common.{◌^◌, ◌<◌, false, Ok, List, IfSome, map, ap, subst, ◌∙◌}
use Rattle.std.proofs.lemmas.List.{map-append}
use Rattle.std.proofs.lemmas.Result.{err_from_is_err_and}
use Rattle.rr_cells.specs.declared.cell.Cell.{Cell}
use Rattle.rr_cells.specs.Listing.{owned_cell}
use Rattle.rr_io.specs.Counted.{inner_of}
use Rattle.rr_journal.specs.declared.cursor.Cursor.{Cursor}
use Rattle.rr_journal.specs.declared.step.Step.{Step}
use Rattle.rr_journal.specs.Stream.{IsStep, MovesBy}
use Rattle.rr_journal.specs.Text.{raw_of}
use Rattle.rr_recovery.proofs.ReplayLemmas.{one_more}
use Rattle.rr_replication.specs.declared.fault.PartFault.{PartFault}
use Rattle.rr_replication.specs.Reading.{peer_state}
use Rattle.rr_replication.proofs.ReadingLemmas.{EndsTheSame, ReadsTheSame, end_is, ends_on, is_read, is_refused, keeps_then, reads_on}
use Rattle.rr_replication.proofs.records.read_records.Goals as goal

pub returns-in_err-end-in-Whole-clause-read : goal.returns-in_err-end-in-Whole-clause-read
returns-in_err-end-in-Whole-clause-read g c =
    let old = g.R.Read.remaining (inner_of c.args.input.now) in
    let left = g.R.Read.remaining (inner_of c.loop.input) in
    let new = g.R.Read.remaining (inner_of c.step_from.new.input) in
    let step = subst (λ (t : Step). IfSome left (λ all. IsStep c.loop.place.digest t new all)) c.in-Whole.is
    c.in_ok-raw.ensures.read in
    let p = err_from_is_err_and c.from_residual-in_err-end-in-Whole.result
    c.from_residual-in_err-end-in-Whole.ensures.1 in
    rw (p.1, p.2)
    (is_refused c.args.schema.now (peer_state c.args.place.now c.args.cells.now.items) c.loop.place
    (map owned_cell c.loop.cells.items) c.loop.is_first (raw_of c.in-Whole.raw) old left new _ c.loop.invariant.read step
    c.in_err-end-in-Whole.ensures.cells.exact)

pub returns-in-Stopped-clause-read : goal.returns-in-Stopped-clause-read
returns-in-Stopped-clause-read g c =
    let old = g.R.Read.remaining (inner_of c.args.input.now) in
    let left = g.R.Read.remaining (inner_of c.loop.input) in
    let new = g.R.Read.remaining (inner_of c.step_from.new.input) in
    let step = subst (λ (t : Step). IfSome left (λ all. IsStep c.loop.place.digest t new all)) c.in-Stopped.is
    c.in_ok-raw.ensures.read in
    let moved = subst (λ (t : Step). MovesBy {E = PartFault} c.loop.place c.step_from.new.place (Ok t)) c.in-Stopped.is
    c.in_ok-raw.ensures.moves in
    let fits = subst (λ (place : Cursor). place.offset < 2 ^ 64) moved c.in_ok-raw.ensures.fits in
    is_read c.args.schema.now (peer_state c.args.place.now c.args.cells.now.items) c.loop.place c.step_from.new.place
    (map owned_cell c.loop.cells.items) c.loop.is_first old left c.in-Stopped.stop c.check_end.result
    c.loop.invariant.read step moved fits c.check_end.ensures

pub loop-preserved : goal.loop-preserved
loop-preserved g c =
    let s = c.args.schema.now in
    let had = map owned_cell c.args.cells.now.items in
    let now = map owned_cell c.loop.cells.items in
    let new = map owned_cell c.push_record.new.cells.items in
    let old_bytes = g.R.Read.remaining (inner_of c.args.input.now) in
    let left = g.R.Read.remaining (inner_of c.loop.input) in
    let new_left = g.R.Read.remaining (inner_of c.step_from.new.input) in
    let r = raw_of c.in-Whole.raw in
    let step = subst (λ (t : Step). IfSome left (λ all. IsStep c.loop.place.digest t new_left all)) c.in-Whole.is
    c.in_ok-raw.ensures.read in
    let moved = subst (λ (t : Step). MovesBy {E = PartFault} c.loop.place c.step_from.new.place (Ok t)) c.in-Whole.is
    c.in_ok-raw.ensures.moves in
    let added = c.in_ok-end-in-Whole.ensures.cells in
    let is = ap (λ (cells : List Cell). map owned_cell cells) added.kept
    ∙ map-append owned_cell c.loop.cells.items added.more in
    record {
      read = one_more c.args.place.now c.loop.place c.step_from.new.place r old_bytes left new_left
          (ReadsTheSame s had now c.loop.is_first) (ReadsTheSame s had new false) c.loop.invariant.read step moved
          (reads_on s had now new (map owned_cell added.more) c.loop.is_first r added.exact is);
      end = one_more c.args.place.now c.loop.place c.step_from.new.place r old_bytes left new_left
          (EndsTheSame s c.args.end.now c.loop.end) (EndsTheSame s c.args.end.now c.in_ok-end-in-Whole.field-0)
          c.loop.invariant.end step moved
          (ends_on s c.args.end.now c.loop.end c.in_ok-end-in-Whole.field-0 r c.in_ok-end-in-Whole.ensures.end);
      kept = keeps_then s c.args.cells.now.items c.loop.cells.items c.push_record.new.cells.items c.loop.invariant.kept
          (record { more = added.more; kept = added.kept; of_schema = added.of_schema });
    }

pub returns-in_err-end-in-Whole-clause-kept : goal.returns-in_err-end-in-Whole-clause-kept
returns-in_err-end-in-Whole-clause-kept g c =
    let added = c.in_err-end-in-Whole.ensures.cells in
    keeps_then c.args.schema.now c.args.cells.now.items c.loop.cells.items c.push_record.new.cells.items
    c.loop.invariant.kept (record { more = added.more; kept = added.kept; of_schema = added.of_schema })

pub returns-in-Stopped-clause-end : goal.returns-in-Stopped-clause-end
returns-in-Stopped-clause-end g c =
    let old = g.R.Read.remaining (inner_of c.args.input.now) in
    let left = g.R.Read.remaining (inner_of c.loop.input) in
    let new = g.R.Read.remaining (inner_of c.step_from.new.input) in
    let step = subst (λ (t : Step). IfSome left (λ all. IsStep c.loop.place.digest t new all)) c.in-Stopped.is
    c.in_ok-raw.ensures.read in
    let moved = subst (λ (t : Step). MovesBy {E = PartFault} c.loop.place c.step_from.new.place (Ok t)) c.in-Stopped.is
    c.in_ok-raw.ensures.moves in
    let fits = subst (λ (place : Cursor). place.offset < 2 ^ 64) moved c.in_ok-raw.ensures.fits in
    end_is c.args.schema.now c.args.place.now c.loop.place c.step_from.new.place c.args.end.now c.loop.end old left
    c.in-Stopped.stop c.check_end.result c.loop.invariant.end step moved fits
