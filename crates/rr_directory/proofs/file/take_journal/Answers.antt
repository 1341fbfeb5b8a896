use Rattle.std.proofs.Common.{◌≡◌, ℕ, List, length, None, Some, Ok, Err, inr, sym, ap, ap₂, ◌∙◌}
use Rattle.std.proofs.lemmas.Result.{err_from_is_err_and}
use Rattle.rr_io.specs.Counted.{inner_of}
use Rattle.rr_journal.specs.declared.cursor.Cursor.{Cursor}
use Rattle.rr_journal.specs.declared.step.Stop.{Stop}
use Rattle.rr_journal.specs.Cursor.{behind_all}
use Rattle.rr_recovery.specs.Taking.{recovery}
use Rattle.rr_directory.specs.Reading.{bytes_before, file_records, file_stop, journal_fault, records_bytes, torn_len}
use Rattle.rr_directory.specs.Recovering.{ReplaysFile}
use Rattle.rr_directory.proofs.ReadingLemmas.{journal_is, journal_refused, known_is}
use Rattle.rr_directory.proofs.file.take_journal.Goals as goal

pub returns-in_err-end-clause-read : goal.returns-in_err-end-clause-read
returns-in_err-end-clause-read g c = λ bytes e len.
    let s = c.args.schema.now in
    let x = recovery c.args.replica.now c.args.found.now in
    let y = recovery c.replay_file.new.replica c.replay_file.new.found in
    let h = known_is (g.R.Read.remaining (inner_of c.args.input.now)) (records_bytes s bytes)
    (λ (all : List ℕ). ReplaysFile c.args.begins.now all x y (Err c.in_err-end.field-0.0)) e c.in_err-end.ensures.read in
    let p = err_from_is_err_and c.from_residual.result c.from_residual.ensures.1 in
    rw (p.1, p.2) (journal_refused s c.args.is_last x c.args.begins.now bytes _ h)

pub returns-in_err-check_journal-clause-read : goal.returns-in_err-check_journal-clause-read
returns-in_err-check_journal-clause-read g c = λ bytes e len.
    let s = c.args.schema.now in
    let begins = c.args.begins.now in
    let x = recovery c.args.replica.now c.args.found.now in
    let y = recovery c.replay_file.new.replica c.replay_file.new.found in
    let h = known_is (g.R.Read.remaining (inner_of c.args.input.now)) (records_bytes s bytes)
    (λ (all : List ℕ). ReplaysFile begins all x y (Ok (c.in_ok-end.end, c.in_ok-end.stop))) e c.in_ok-end.ensures.read in
    let at : c.bytes_before-at.result ≡ bytes_before s begins (behind_all begins (file_records s begins bytes)) =
    c.bytes_before-at.ensures ∙ ap (bytes_before s begins) h.1 in
    let is : Some c.in_err-check_journal.field-0.0 ≡ journal_fault (file_stop s begins bytes) c.args.is_last
    (bytes_before s begins (behind_all begins (file_records s begins bytes))) =
    c.in_err-check_journal.ensures
    ∙ ap (λ (t : Stop). journal_fault t c.args.is_last c.bytes_before-at.result) h.2
    ∙ ap (journal_fault (file_stop s begins bytes) c.args.is_last) at in
    let p = err_from_is_err_and c.from_residual-in_err-check_journal.result
    c.from_residual-in_err-check_journal.ensures.1 in
    rw (p.1, p.2) (inr (inr (journal_is s c.args.is_last x y begins bytes (Some c.in_err-check_journal.field-0.0) h.0 is)))

pub returns-clause-read : goal.returns-clause-read
returns-clause-read g c = λ bytes e len.
    let s = c.args.schema.now in
    let begins = c.args.begins.now in
    let x = recovery c.args.replica.now c.args.found.now in
    let y = recovery c.replay_file.new.replica c.replay_file.new.found in
    let h = known_is (g.R.Read.remaining (inner_of c.args.input.now)) (records_bytes s bytes)
    (λ (all : List ℕ). ReplaysFile begins all x y (Ok (c.in_ok-end.end, c.in_ok-end.stop))) e c.in_ok-end.ensures.read in
    let end : Cursor = behind_all begins (file_records s begins bytes) in
    let stop : Stop = file_stop s begins bytes in
    let at : c.bytes_before-at.result ≡ bytes_before s begins end =
    c.bytes_before-at.ensures ∙ ap (bytes_before s begins) h.1 in
    let is : None ≡ journal_fault stop c.args.is_last (bytes_before s begins end) =
    c.in_ok-check_journal.ensures
    ∙ ap (λ (t : Stop). journal_fault t c.args.is_last c.bytes_before-at.result) h.2
    ∙ ap (journal_fault stop c.args.is_last) at in
    let torn : torn_len stop (length bytes) (bytes_before s begins end) ≡ c.torn_len.result =
    sym (c.torn_len.ensures ∙ ap (λ (t : Stop). torn_len t c.args.len c.bytes_before-at.result) h.2
    ∙ ap₂ (torn_len stop) len at) in
    journal_is s c.args.is_last x y begins bytes None h.0 is
    ∙ ap₂ (λ (place : Cursor) (n : ℕ). Ok (record { place = Some place; recovery = y; torn = n })) (sym h.1) torn
