-- The report on a file.
use Rattle.std.proofs.Common.{◌≡◌, ◌⊎◌, inl, inr, ℕ, Bool, true, false, List, Option, None, Some, IfErr, IfOk, IfSome, Result, Ok, Err, refl, ap, ◌∙◌}
use Rattle.rr_schema.specs.Schema.{Layout}
use Rattle.rr_cells.specs.ReplicaState.{ReplicaState}
use Rattle.rr_recovery.specs.Found.{nothing_found}
use Rattle.rr_recovery.specs.Taking.{Recovery}
use Rattle.rr_directory.specs.declared.fault.FileFault.{FileFault}
use Rattle.rr_directory.specs.declared.fault.FileFault.TheVariants as file
use Rattle.rr_directory.specs.declared.name.FileName.{FileName}
use Rattle.rr_directory.specs.declared.name.FileName.TheVariants.{Journal, Checkpoint}
use Rattle.rr_directory.specs.declared.report.FileEnding.{FileEnding}
use Rattle.rr_directory.specs.declared.report.FileEnding.TheVariants.{Refused}
use Rattle.rr_directory.specs.declared.report.FileReport.{FileReport}
use Rattle.rr_directory.specs.Reading.{is_whole}
use Rattle.rr_directory.specs.Survey.{Reports, Surveys, ending_by, told_ending, whole_ending}

refused_same : (name : FileName) (whole : Bool) (fault : FileFault)
    → whole_ending name whole (Refused fault) ≡ Refused fault
refused_same (Journal offset) true fault = refl
refused_same (Journal offset) false fault = refl
refused_same (Checkpoint offset) true fault = refl
refused_same (Checkpoint offset) false fault = refl

abbrev IsUnreadable : FileFault → Type 0
IsUnreadable fault = (fault ≡ file.ReadFailed) ⊎ (fault ≡ file.Memory)

told_is : (name : FileName) (whole : Bool) (ending : FileEnding) (told : Result FileEnding FileFault) (r : FileEnding)
    → IfOk told (λ t. t ≡ ending) → IfErr told IsUnreadable → r ≡ whole_ending name whole (ending_by told)
    → (r ≡ Refused file.ReadFailed) ⊎ (r ≡ Refused file.Memory) ⊎ (r ≡ whole_ending name whole ending)
told_is name whole ending (Ok t) r ok bad is = inr (inr (is ∙ ap (whole_ending name whole) ok))
told_is name whole ending (Err fault) r ok (inl failed) is =
    inl (is ∙ refused_same name whole fault ∙ ap (λ (f : FileFault). Refused f) failed)
told_is name whole ending (Err fault) r ok (inr memory) is =
    inr (inl (is ∙ refused_same name whole fault ∙ ap (λ (f : FileFault). Refused f) memory))

known : {X : Type 0} (told : Result FileEnding FileFault) (x : X) (P : X → FileEnding → Type 0)
    → IfOk told (λ t. IfSome (Some x) (λ y. P y t)) → IfOk told (P x)
known (Ok t) x P h = h
known (Err fault) x P h = h

-- if the bytes of the directory are known
pub report_is : (s : Layout) (key : Option (List ℕ)) (name : FileName) (bytes : Option (FileName → List ℕ)) (h : ReplicaState)
    (new : Recovery) (read told : Result FileEnding FileFault) (r : FileReport)
    → IfSome bytes (λ of. Surveys s name (of name) (record { replica = h; found = nothing_found }) new read)
    → IfOk told (λ t. IfSome bytes (λ of. t ≡ told_ending s key name (of name) (ending_by read)))
    → IfErr told IsUnreadable → r.records ≡ new.found.records → r.cells ≡ new.found.cells
    → r.ending ≡ whole_ending name (is_whole new.found) (ending_by told)
    → IfSome bytes (λ of. Reports s key name (of name) h r)
report_is s key name None h new read told r taken ok bad records cells ending = tt
report_is s key name (Some of) h new read told r taken ok bad records cells ending = record {
  new = new;
  read = read;
  taken = taken;
  records = records;
  cells = cells;
  ending = told_is name (is_whole new.found) (told_ending s key name (of name) (ending_by read)) told r.ending
      (known told of (λ f t. t ≡ told_ending s key name (f name) (ending_by read)) ok) bad ending;
}
