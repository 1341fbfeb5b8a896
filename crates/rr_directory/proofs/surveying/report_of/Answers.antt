use Rattle.std.proofs.Common.{◌≡◌, Bool, IfOk, IfSome, ap, refl, subst, ◌∙◌, option_map}
use Rattle.rr_replica.specs.ReplicaWithRoom.{replica_state}
use Rattle.rr_recovery.specs.Found.{FoundState, found_state}
use Rattle.rr_recovery.specs.Taking.{recovery}
use Rattle.rr_directory.specs.declared.report.FileEnding.{FileEnding}
use Rattle.rr_directory.specs.Reading.{is_whole}
use Rattle.rr_directory.specs.Survey.{Surveys, told_ending, whole_ending}
use Rattle.rr_directory.proofs.ReadingLemmas.{whole_is}
use Rattle.rr_directory.proofs.SurveyLemmas.{report_is}
use Rattle.rr_directory.proofs.surveying.report_of.Goals as goal

pub returns-clause-read : goal.returns-clause-read
returns-clause-read g c =
    let s = c.args.schema.now in
    let key = option_map (λ k. k.bytes) c.args.key in
    let name = c.args.name in
    let bytes = g.D.Directory.bytes c.args.directory.now in
    let h = replica_state c.args.replica.now in
    let new = recovery c.ending_in-read.new.replica c.ending_in-read.new.found in
    let read = c.ending_in-read.result in
    let told = c.told_ending-told.result in
    let found = c.ending_in-read.new.found in
    let whole = whole_is found.end found.cells c.is_whole.result c.is_whole.ensures in
    report_is s key name bytes h new read told _
    (subst (λ (f : FoundState). IfSome bytes (λ of. Surveys s name (of name) (record { replica = h; found = f }) new read))
    c.new-found.ensures c.ending_in-read.ensures.read)
    (subst (λ (e : FileEnding). IfOk told (λ t. IfSome bytes (λ of. t ≡ told_ending s key name (of name) e)))
    c.ending_by.ensures c.told_ending-told.ensures.told)
    c.told_ending-told.ensures.faults refl refl
    (c.whole_ending.ensures ∙ ap (λ (b : Bool). whole_ending name b c.ending_by-2.result) whole
    ∙ ap (whole_ending name (is_whole (found_state found))) c.ending_by-2.ensures)
