-- What a journal keeps.
use Rattle.std.specs.Prelude.{◌≡◌, ℕ, List, Option, Result, Ok, Err, take}
use Rattle.std.specs.Io.KnownBytes.{append_known}
use Rattle.rr_journal.specs.declared.committing.CommitFault.{CommitFault}
use Rattle.rr_journal.specs.declared.committing.CommitFault.TheVariants.{NotWritten, NotSynced}
use Rattle.rr_journal.specs.declared.cursor.Cursor.{Cursor}
use Rattle.rr_journal.specs.Cursor.{behind_all}
use Rattle.rr_journal.specs.Text.{Raw, records_text}

-- a journal over memory: its bytes, how many of them, from the beginning on, are synced, and the key of its witnesses
pub record MemoryState : Type 0 where
  pub bytes : List ℕ
  pub synced : ℕ
  pub key : List ℕ

-- the bytes that a crash leaves, whatever stands behind them
abbrev pub synced_bytes : MemoryState → List ℕ
synced_bytes j = take j.synced j.bytes

-- bytes, if they are known, now have others behind them, or none
abbrev pub Grows : Option (List ℕ) → Option (List ℕ) → Type 0
Grows old new = (more : List ℕ) × (new ≡ append_known old more)

-- records were committed: what is written is synced, and is what was synced before and then their text; and the cursor
-- is behind them
pub record Committed (old new text : Option (List ℕ)) (before cursor : Cursor) (rs : List Raw) : Type 0 where
  pub synced : new ≡ append_known old (records_text before.digest rs)
  pub nothing_more : text ≡ new
  pub moved : cursor ≡ behind_all before rs

-- nothing was: all is as it was
pub record NothingDone (old new text : Option (List ℕ)) (before cursor : Cursor) : Type 0 where
  pub synced : new ≡ old
  pub nothing_more : text ≡ old
  pub stays : cursor ≡ before

-- records were committed, or what was written of them was taken back; or, if the journal can't be synced or cut back,
-- what was synced may have more behind it, and the cursor stays
abbrev pub Commits : Option (List ℕ) → Option (List ℕ) → Option (List ℕ) → Cursor → Cursor → List Raw
    → Result (Unit {0}) CommitFault → Type 0
Commits old new text before cursor rs (Ok done) = Committed old new text before cursor rs
Commits old new text before cursor rs (Err NotWritten) = NothingDone old new text before cursor
Commits old new text before cursor rs (Err NotSynced) = Grows old new × (cursor ≡ before)
