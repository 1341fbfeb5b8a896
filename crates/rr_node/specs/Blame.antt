-- What the streams of a connection tell of a call's faults.
use Rattle.std.specs.Prelude.{◌≡◌, ◌⊎◌, ℕ, ◌≤◌, true, List, [], Option, None, Result, Err, IfErr, IfOk, IsSome, OnErr, OnOk, option_to_list}
use Rattle.std.specs.Io.KnownBytes.{Consumes}
use Rattle.rr_io.specs.declared.counted.Counted.{Counted}
use Rattle.rr_io.specs.Counted.{ends_of, inner_of, is_flushed}
use Rattle.rr_io.specs.Stream.{HasFailed, HasFewReads, HasReads, IsReadOut, KeepsFailures, WritesPrefix, WritesWhole}
use Rattle.rr_text.specs.declared.limits.TheConstants.{MAX_READS}
use Rattle.rr_node.specs.declared.fault.NodeFault.{NodeFault}
use Rattle.rr_node.specs.declared.fault.NodeFault.TheVariants.{ReadFailed, TooManyReads, WriteFailed}
use Rattle.rr_node.specs.Fault.{IsOfWriting}

-- an input was read, in at most `reads` reads
pub record ReadsWithin {R X : Type 0} (reads : ℕ) (old new : Counted R) (result : Result X NodeFault) : Type 0 where
  pub failed : result ≡ Err ReadFailed → HasFailed old new
  pub limit : HasFewReads reads old new
  pub too_many : result ≡ Err TooManyReads → HasReads reads old new
  pub no_end : result ≡ Err TooManyReads → ends_of new ≡ ends_of old

-- an output was written
pub record WritesOut {W X : Type 0} (old new : Counted W) (result : Result X NodeFault) : Type 0 where
  pub failures_never_fall : KeepsFailures old new
  pub failed : result ≡ Err WriteFailed → HasFailed old new
  pub faults : IfErr result IsOfWriting

-- what was written to an output isn't held back, unless something was before
abbrev pub StaysFlushed : {W : Type 0} → Counted W → Counted W → Type 0
StaysFlushed old new = is_flushed old ≡ true → is_flushed new ≡ true

-- the first byte of an input was read, or none at its end, in as many reads as are given
pub record ReadsFirst {R : Type 0} (remaining : R → Option (List ℕ)) (old new : Counted R)
    (result : Result (Option ℕ × ℕ) NodeFault) : Type 0 where
  pub bytes : IfOk result (λ first. Consumes (remaining (inner_of old)) (remaining (inner_of new))
      (option_to_list first.0))
  pub unread : OnErr result (Consumes (remaining (inner_of old)) (remaining (inner_of new)) [])
  pub end : IfOk result (λ first. first.0 ≡ None → IsReadOut remaining new)
  pub no_end : IfOk result (λ first. IsSome first.0 → ends_of new ≡ ends_of old)
  pub used : IfOk result (λ first. (first.1 ≤ MAX_READS) × HasReads first.1 old new × HasFewReads first.1 old new)
  pub reads : ReadsWithin MAX_READS old new result
  pub faults : IfErr result (λ fault. (fault ≡ ReadFailed) ⊎ (fault ≡ TooManyReads))
  pub failures_never_fall : KeepsFailures old new

-- the whole text was written and passed on; or a prefix of it was written, and the result says why no more was
pub record Sends {W X : Type 0} (contents : W → Option (List ℕ)) (old new : Counted W) (text : List ℕ)
    (result : Result X NodeFault) : Type 0 where
  pub whole : OnOk result (WritesWhole contents old new text)
  pub prefix : WritesPrefix contents old new text
  pub writes : WritesOut old new result
