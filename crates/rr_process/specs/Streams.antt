-- What calls over streams did with them.
use Rattle.std.specs.Prelude.{◌≡◌, ◌⊎◌, ℕ, ℤ, true, List, Option, IfErr, IfOk, IfSome, OnOk, Result, Err}
use Rattle.rr_io.specs.declared.counted.Counted.{Counted}
use Rattle.rr_io.specs.Counted.{inner_of, ends_of, is_flushed}
use Rattle.rr_io.specs.Stream.{HasFailed, HasFewReads, HasReads, KeepsFailures, WritesPrefix, WritesWhole}
use Rattle.rr_line.specs.declared.precision.Precision.{Precision}
use Rattle.rr_process.specs.declared.fault.ToolFault.{ToolFault}
use Rattle.rr_process.specs.declared.fault.ToolFault.TheVariants.{ReadFailed, TooManyReads, WriteFailed, Memory}
use Rattle.rr_process.specs.Report.{refused_count, report_of}

-- an input was read to its end in at most `reads` reads, or the result says why not
pub record ReadsWithin {R X : Type 0} (reads : ℕ) (old new : Counted R) (result : Result X ToolFault) : Type 0 where
  pub failed : result ≡ Err ReadFailed → HasFailed old new
  pub limit : HasFewReads reads old new
  pub too_many : result ≡ Err TooManyReads → HasReads reads old new
  pub no_end : result ≡ Err TooManyReads → ends_of new ≡ ends_of old

-- an output was written
pub record WritesOut {W X : Type 0} (old new : Counted W) (result : Result X ToolFault) : Type 0 where
  pub failures_never_fall : KeepsFailures old new
  pub failed : result ≡ Err WriteFailed → HasFailed old new
  pub faults : IfErr result (λ fault. (fault ≡ WriteFailed) ⊎ (fault ≡ Memory))

-- all that an input still had was read, in at most `reads` reads, and the text that is printed for it was written
-- whole; or a prefix of that text was written, and the result says why no more was
pub record Prints {R W X : Type 0} (remaining : R → Option (List ℕ)) (contents : W → Option (List ℕ)) (reads : ℕ)
    (printed : List ℕ → List ℕ) (input input_new : Counted R) (output output_new : Counted W)
    (result : Result X ToolFault) : Type 0 where
  pub whole : OnOk result (IfSome (remaining (inner_of input))
      (λ bytes. WritesWhole contents output output_new (printed bytes)))
  -- however the call ends
  pub prefix : IfSome (remaining (inner_of input)) (λ bytes. WritesPrefix contents output output_new (printed bytes))
  -- when a stream is to blame
  pub read : ReadsWithin reads input input_new result
  pub write_failed : result ≡ Err WriteFailed → HasFailed output output_new

-- the report of the lines that an input still had was printed and flushed, and the refused lines are counted
pub record ReportsLines {R W : Type 0} (remaining : R → Option (List ℕ)) (contents : W → Option (List ℕ)) (reads : ℕ)
    (precision : Precision) (now : ℤ) (input input_new : Counted R) (output output_new : Counted W)
    (result : Result ℕ ToolFault) : Type 0 where
  pub printed : Prints remaining contents reads (report_of precision now) input input_new output output_new result
  pub refused : IfOk result (λ refused. IfSome (remaining (inner_of input))
      (λ bytes. refused ≡ refused_count precision bytes))
  pub flushed : OnOk result (is_flushed output_new ≡ true)

-- the whole text was written and flushed; or a prefix of it was written, and a write failed
pub record WritesText {W X : Type 0} (contents : W → Option (List ℕ)) (output output_new : Counted W) (text : List ℕ)
    (result : Result X ToolFault) : Type 0 where
  pub whole : OnOk result (WritesWhole contents output output_new text)
  pub flushed : OnOk result (is_flushed output_new ≡ true)
  pub prefix : WritesPrefix contents output output_new text
  pub failed : IfErr result (λ fault. fault ≡ WriteFailed)
  pub write_failed : result ≡ Err WriteFailed → HasFailed output output_new
