-- What a call that writes a snapshot, or a part of one, did.
use Rattle.std.specs.Prelude.{◌≡◌, ◌≢◌, ℕ, List, ◌++◌, Option, Result, Err, OnOk}
use Rattle.sha2.specs.Hashers.{Holds256}
use Rattle.sha2.specs.declared.Sha256.{Sha256}
use Rattle.rr_io.specs.declared.counted.Counted.{Counted}
use Rattle.rr_io.specs.Stream.{HasFailed, KeepsFailures, WritesPrefix, WritesWhole}
use Rattle.rr_snapshot.specs.declared.fault.SaveFault.{SaveFault}
use Rattle.rr_snapshot.specs.declared.fault.SaveFault.TheVariants.{TooManyCells, WriteFailed}

-- a text was written whole, or a prefix of it was; the writer is blamed only if a call to it failed
pub record Saves {W : Type 0} (contents : W → Option (List ℕ)) (old new : Counted W) (text : List ℕ)
    (result : Result (Unit {0}) SaveFault) : Type 0 where
  pub whole : OnOk result (WritesWhole contents old new text)
  pub prefix : WritesPrefix contents old new text
  pub failures_never_fall : KeepsFailures old new
  pub failed : result ≡ Err WriteFailed → HasFailed old new

-- a part of a snapshot was written whole, or a prefix of it was, and what was written whole was digested; the writer is
-- blamed only if a call to it failed
pub record SavesPart {W : Type 0} (contents : W → Option (List ℕ)) (old new : Counted W) (before after : Sha256)
    (text : List ℕ) (result : Result (Unit {0}) SaveFault) : Type 0 where
  pub whole : OnOk result (WritesWhole contents old new text)
  pub prefix : WritesPrefix contents old new text
  pub digest : OnOk result ((m : List ℕ) → Holds256 before m → Holds256 after (m ++ text))
  pub fits : result ≢ Err TooManyCells
  pub failures_never_fall : KeepsFailures old new
  pub failed : result ≡ Err WriteFailed → HasFailed old new
