use Rattle.std.proofs.Common.{◌≡◌, ℕ, Bool, List, Ok, Err, ap, ◌∙◌}
use Rattle.std.specs.Result.{result_err}
use Rattle.std.proofs.lemmas.Result.{err_from_is_err_and}
use Rattle.rr_io.specs.Counted.{inner_of}
use Rattle.rr_journal.specs.declared.step.Stop.{Stop}
use Rattle.rr_journal.specs.Cursor.{behind_all}
use Rattle.rr_recovery.specs.Taking.{recovery}
use Rattle.rr_directory.specs.Reading.{bytes_before, checkpoint_fault, file_records, file_stop, is_whole, records_bytes}
use Rattle.rr_directory.specs.Recovering.{ReplaysFile}
use Rattle.rr_directory.proofs.ReadingLemmas.{checkpoint_refused, checkpoint_taken, known_is, whole_is}
use Rattle.rr_directory.proofs.file.take_checkpoint.Goals as goal

pub returns-in_err-end-clause-read : goal.returns-in_err-end-clause-read
returns-in_err-end-clause-read g c = λ bytes e.
    let s = c.args.schema.now in
    let x = recovery c.args.replica.now c.args.found.now in
    let y = recovery c.replay_file.new.replica c.replay_file.new.found in
    let h = known_is (g.R.Read.remaining (inner_of c.args.input.now)) (records_bytes s bytes)
    (λ (all : List ℕ). ReplaysFile c.args.begins.now all x y (Err c.in_err-end.field-0.0)) e c.in_err-end.ensures.read in
    let p = err_from_is_err_and c.from_residual.result c.from_residual.ensures.1 in
    rw (p.1, p.2) (checkpoint_refused s x c.args.begins.now bytes _ h)

pub returns-clause-read : goal.returns-clause-read
returns-clause-read g c = λ bytes e.
    let s = c.args.schema.now in
    let begins = c.args.begins.now in
    let x = recovery c.args.replica.now c.args.found.now in
    let y = recovery c.replay_file.new.replica c.replay_file.new.found in
    let h = known_is (g.R.Read.remaining (inner_of c.args.input.now)) (records_bytes s bytes)
    (λ (all : List ℕ). ReplaysFile begins all x y (Ok (c.in_ok-end.end, c.in_ok-end.stop))) e c.in_ok-end.ensures.read in
    let stop = c.in_ok-end.stop in
    let whole = whole_is y.found.end y.found.cells c.is_whole.result c.is_whole.ensures in
    let at : c.bytes_before.result ≡ bytes_before s begins (behind_all begins (file_records s begins bytes)) =
    c.bytes_before.ensures ∙ ap (bytes_before s begins) h.1 in
    let is : result_err c.check_checkpoint.result
    ≡ checkpoint_fault (file_stop s begins bytes) (is_whole y.found)
    (bytes_before s begins (behind_all begins (file_records s begins bytes))) =
    c.check_checkpoint.ensures
    ∙ ap (λ (t : Stop). checkpoint_fault t c.is_whole.result c.bytes_before.result) h.2
    ∙ ap (λ (b : Bool). checkpoint_fault (file_stop s begins bytes) b c.bytes_before.result) whole
    ∙ ap (checkpoint_fault (file_stop s begins bytes) (is_whole y.found)) at in
    checkpoint_taken s x y begins bytes c.check_checkpoint.result h.0 is
