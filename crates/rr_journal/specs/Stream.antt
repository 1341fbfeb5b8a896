-- Records from a stream whose bytes may be known.
use Rattle.std.specs.Prelude.{◌≡◌, ◌⊎◌, ℕ, ◌+◌, true, false, List, length, Option, None, Some, Result, Ok, Err, IfSome}
use Rattle.rr_journal.specs.declared.cursor.Cursor.{Cursor}
use Rattle.rr_journal.specs.declared.fault.JournalFault.{JournalFault}
use Rattle.rr_journal.specs.declared.fault.JournalFault.TheVariants.{ReadFailed, Memory}
use Rattle.rr_journal.specs.declared.step.Step.{Step}
use Rattle.rr_journal.specs.declared.step.Step.TheVariants.{Whole, Stopped}
use Rattle.rr_journal.specs.Cursor.{behind}
use Rattle.rr_journal.specs.Text.{Fits, raw_of, after}
use Rattle.rr_journal.specs.Reading.{is_whole, made_of, record_at, stop_at, stop_before}

-- the reader failed, or memory ran out
abbrev pub IsStreamFault : JournalFault → Type 0
IsStreamFault fault = (fault ≡ ReadFailed) ⊎ (fault ≡ Memory)

-- why a reading stopped, by how many bytes were taken already and how many are left of the stream, together
abbrev pub StopsAfter : {E : Type 0} → JournalFault → ℕ → Option (List ℕ) → Result Step E → Type 0
StopsAfter fault taken old (Ok step) = IfSome old (λ left. step ≡ Stopped (stop_at fault (taken + length left)))
StopsAfter fault taken old (Err other) = Unit {0}

-- what one step says of a stream's bytes after a digest: the record at their beginning was read, and what follows it is
-- left; or there is none, and why
abbrev pub IsStep : List ℕ → Step → Option (List ℕ) → List ℕ → Type 0
IsStep before (Whole r) new all =
    (rest : List ℕ) × (new ≡ Some rest) × (record_at before all ≡ Some (raw_of r, rest))
IsStep before (Stopped stop) new all = (record_at before all ≡ None) × (stop ≡ stop_before all)

abbrev pub StepsTo : {E : Type 0} → List ℕ → Option (List ℕ) → Option (List ℕ) → Result Step E → Type 0
StepsTo before old new (Ok step) = IfSome old (λ all. IsStep before step new all)
StepsTo before old new (Err fault) = Unit {0}

-- a digest is now that of the record that a step gave, or what it was
abbrev pub Links : {E : Type 0} → List ℕ → List ℕ → Result Step E → Type 0
Links old new (Ok (Whole r)) = new ≡ after old (raw_of r)
Links old new (Ok (Stopped stop)) = new ≡ old
Links old new (Err fault) = new ≡ old

-- a cursor is now behind the record that a step gave, or where it was
abbrev pub MovesBy : {E : Type 0} → Cursor → Cursor → Result Step E → Type 0
MovesBy old new (Ok (Whole r)) = new ≡ behind old (raw_of r)
MovesBy old new (Ok (Stopped stop)) = new ≡ old
MovesBy old new (Err fault) = new ≡ old

-- a record that was read has a body within the limit
abbrev pub IsFitting : Step → Type 0
IsFitting (Whole r) = Fits (raw_of r)
IsFitting (Stopped stop) = Unit {0}

-- a head and a tail are a record after a digest, and its own digest is given; or they aren't, and none is
abbrev pub OwnDigest : List ℕ → List ℕ → List ℕ → Option (List ℕ) → Type 0
OwnDigest before head tail (Some digest) =
    (is_whole before head tail ≡ true) × (digest ≡ after before (made_of head tail))
OwnDigest before head tail None = is_whole before head tail ≡ false
