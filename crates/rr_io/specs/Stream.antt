-- What calls to a stream did, even if one failed.
use Rattle.std.specs.Prelude.{◌≡◌, ℕ, ◌<◌, ◌≤◌, List, ◌++◌, ◌+◌, length, take, Option, None, Some, IfSome, Result, Ok, Err, OnOk, OnErr, Bool, true, false, not, ◌&&◌, ◌==◌}
use Rattle.std.specs.Io.{ReadsAtMost, WritesAtMost}
use Rattle.std.specs.Io.KnownBytes.{Appends, Consumes, IsAtEnd, Keeps, ReadConsumes, WriteAppends}
use Rattle.rr_io.specs.declared.counted.Counted.{Counted}
use Rattle.rr_io.specs.Counted.{inner_of, failures_of, is_flushed, reads_of, HasRisen, HasRisenBy}

-- if the bytes of a writer are known, a prefix of the text was written after them, and nothing else
abbrev pub AppendsPrefix : Option (List ℕ) → Option (List ℕ) → List ℕ → Type 0
AppendsPrefix old new text = (prefix : List ℕ) × (rest : List ℕ) × (text ≡ prefix ++ rest) × Appends old new prefix

-- if the bytes of a reader are known, some were taken from their beginning, or none
abbrev pub ConsumesSome : Option (List ℕ) → Option (List ℕ) → Type 0
ConsumesSome old new = (bytes : List ℕ) × Consumes old new bytes

-- if the bytes of a reader are known, at most this many were taken from their beginning
abbrev pub TakesAtMost : ℕ → Option (List ℕ) → Option (List ℕ) → Type 0
TakesAtMost n old new = (bytes : List ℕ) × (length bytes ≤ n) × Consumes old new bytes

-- a prefix of what a reader had, if that is known, was added after the bytes that were there
abbrev pub AddsPrefix : Option (List ℕ) → List ℕ → List ℕ → Type 0
AddsPrefix known old new = (prefix : List ℕ) × (new ≡ old ++ prefix)
    × IfSome known (λ all. (rest : List ℕ) × (all ≡ prefix ++ rest))

-- a prefix of what a reader had was added after the bytes that were there, and more than that was taken from it
abbrev pub TakesMore : Option (List ℕ) → Option (List ℕ) → List ℕ → List ℕ → Type 0
TakesMore known left old new = (prefix : List ℕ) × (more : List ℕ) × (new ≡ old ++ prefix) × (0 < length more)
    × Consumes known left (prefix ++ more)

-- one read met the end: it gave no byte, though there was room
abbrev pub tells_end : {E : Type 0} → Result (Option ℕ) E → ℕ → Bool
tells_end (Ok (Some given)) room = (given == 0) && not (room == 0)
tells_end (Ok None) room = false
tells_end (Err fault) room = false

-- one read gave the bytes at the beginning of the buffer, none only at the end or with no room; or a signal interrupted
-- it, or it failed, and it took nothing
abbrev pub ReadsOnce : {E : Type 0} → Option (List ℕ) → Option (List ℕ) → Result (Option ℕ) E → List ℕ → Type 0
ReadsOnce old new (Ok (Some given)) buf =
    (given ≤ length buf) × Consumes old new (take given buf) × (given ≡ 0 → 0 < length buf → IsAtEnd new)
ReadsOnce old new (Ok None) buf = Keeps old new
ReadsOnce old new (Err fault) buf = Keeps old new

-- one read gave as many bytes as it says, at the beginning of the buffer
pub record ReadsInto {E : Type 0} (old new : Option (List ℕ)) (result : Result ℕ E) (buf : List ℕ) : Type 0 where
  pub bound : ReadsAtMost result buf
  pub bytes : ReadConsumes old new result buf

-- one write took as many bytes as it says, from the beginning of the piece
pub record WritesFrom {E : Type 0} (old new : Option (List ℕ)) (result : Result ℕ E) (piece : List ℕ) : Type 0 where
  pub bound : WritesAtMost result piece
  pub bytes : WriteAppends old new result piece

-- ---- what was done with a counted reader or writer, from an old state to a new one

-- a text was written after what was there
abbrev pub WritesWhole : {W : Type 0} → (W → Option (List ℕ)) → Counted W → Counted W → List ℕ → Type 0
WritesWhole contents old new text = Appends (contents (inner_of old)) (contents (inner_of new)) text

-- a prefix of a text was, and nothing else
abbrev pub WritesPrefix : {W : Type 0} → (W → Option (List ℕ)) → Counted W → Counted W → List ℕ → Type 0
WritesPrefix contents old new text = AppendsPrefix (contents (inner_of old)) (contents (inner_of new)) text

-- some bytes were taken, or none
abbrev pub ReadsSome : {R : Type 0} → (R → Option (List ℕ)) → Counted R → Counted R → Type 0
ReadsSome remaining old new = ConsumesSome (remaining (inner_of old)) (remaining (inner_of new))

-- at most this many bytes were
abbrev pub ReadsUpTo : {R : Type 0} → ℕ → (R → Option (List ℕ)) → Counted R → Counted R → Type 0
ReadsUpTo n remaining old new = TakesAtMost n (remaining (inner_of old)) (remaining (inner_of new))

-- all its bytes were
abbrev pub IsReadOut : {R : Type 0} → (R → Option (List ℕ)) → Counted R → Type 0
IsReadOut remaining new = IsAtEnd (remaining (inner_of new))

-- a call failed, as far as the count can tell
abbrev pub HasFailed : {S : Type 0} → Counted S → Counted S → Type 0
HasFailed old new = HasRisen (failures_of old) (failures_of new)

-- no failure is forgotten
abbrev pub KeepsFailures : {S : Type 0} → Counted S → Counted S → Type 0
KeepsFailures old new = failures_of old ≤ failures_of new

-- it was read this often, as far as the count can tell
abbrev pub HasReads : {R : Type 0} → ℕ → Counted R → Counted R → Type 0
HasReads n old new = HasRisenBy n (reads_of old) (reads_of new)

-- it was read no more often than this
abbrev pub HasFewReads : {R : Type 0} → ℕ → Counted R → Counted R → Type 0
HasFewReads n old new = reads_of new ≤ reads_of old + n

-- ---- what a call to a stream did, and whether its failures were counted

-- no failure is forgotten, and one is counted if the call is refused
pub record CountsFailures {S X E : Type 0} (old new : Counted S) (result : Result X E) : Type 0 where
  pub failures_never_fall : KeepsFailures old new
  pub failed : OnErr result (HasFailed old new)

-- at most `n` bytes were taken, and a call failed if this one is refused
pub record ReadsOn {R X E : Type 0} (n : ℕ) (remaining : R → Option (List ℕ)) (old new : Counted R)
    (result : Result X E) : Type 0 where
  pub prefix : ReadsSome remaining old new
  pub most : ReadsUpTo n remaining old new
  pub failures_never_fall : KeepsFailures old new
  pub failed : OnErr result (HasFailed old new)

-- the whole text was written; or a prefix of it was, and a call to the writer failed
pub record Writes {W E : Type 0} (contents : W → Option (List ℕ)) (old new : Counted W) (text : List ℕ)
    (result : Result (Unit {0}) E) : Type 0 where
  pub whole : OnOk result (WritesWhole contents old new text)
  pub prefix : WritesPrefix contents old new text
  pub failures_never_fall : KeepsFailures old new
  pub failed : OnErr result (HasFailed old new)

-- a writer was flushed, or a call to it failed; nothing more was written
pub record Flushes {W E : Type 0} (contents : W → Option (List ℕ)) (old new : Counted W) (result : Result (Unit {0}) E)
    : Type 0 where
  pub flushed : OnOk result (is_flushed new ≡ true)
  pub bytes : Keeps (contents (inner_of old)) (contents (inner_of new))
  pub failures_never_fall : KeepsFailures old new
  pub failed : OnErr result (HasFailed old new)
