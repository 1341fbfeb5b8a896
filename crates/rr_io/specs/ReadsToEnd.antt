-- What reading an input to its end did.
use Rattle.std.specs.Prelude.{◌≡◌, ℕ, List, ◌++◌, Option, IfSome, OnOk, Result, Err}
use Rattle.std.specs.Io.KnownBytes.{Consumes}
use Rattle.rr_io.specs.declared.counted.Counted.{Counted}
use Rattle.rr_io.specs.declared.stream.ReadFault.{ReadFault}
use Rattle.rr_io.specs.declared.stream.ReadFault.TheVariants.{ReadFailed, TooManyReads, Memory}
use Rattle.rr_io.specs.Counted.{inner_of, ends_of}
use Rattle.rr_io.specs.Stream.{AddsPrefix, HasFailed, HasFewReads, HasReads, KeepsFailures, TakesMore}

-- all that was left of an input was appended to the bytes already there, in at most `reads` reads
pub record ReadsToEnd {R : Type 0} (remaining : R → Option (List ℕ)) (reads : ℕ) (old new : Counted R)
    (before after : List ℕ) (result : Result (Unit {0}) ReadFault) : Type 0 where
  pub whole : OnOk result (IfSome (remaining (inner_of old)) (λ rest. after ≡ before ++ rest))
  pub consumed : OnOk result (IfSome (remaining (inner_of old))
      (Consumes (remaining (inner_of old)) (remaining (inner_of new))))
  -- however the call ends
  pub prefix : AddsPrefix (remaining (inner_of old)) before after
  pub failures_never_fall : KeepsFailures old new
  pub limit : HasFewReads reads old new
  -- when it is refused
  pub failed : result ≡ Err ReadFailed → HasFailed old new
  pub too_many : result ≡ Err TooManyReads → HasReads reads old new
  pub no_end : result ≡ Err TooManyReads → ends_of new ≡ ends_of old
  pub memory : result ≡ Err Memory → TakesMore (remaining (inner_of old)) (remaining (inner_of new)) before after
