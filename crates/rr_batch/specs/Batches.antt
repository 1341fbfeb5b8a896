-- What a batch leaves, and the record of an origin.
use Rattle.std.specs.Prelude.{ℕ, Bool, List, [], ◌∷◌, Option, if◌then◌else◌}
use Rattle.rr_journal.specs.declared.cursor.Cursor.{Cursor}
use Rattle.rr_journal.specs.Body.{HasOrigin, raw_text}
use Rattle.rr_journal.specs.Keeping.{Committed}
use Rattle.rr_journal.specs.Witness.{batch_of}
use Rattle.rr_desk.specs.KeeperState.{KeeperState, with_all_published, with_all_written}

-- all operations of the keeper are published, and written if the batch is saved
abbrev pub after_batch : Bool → KeeperState → KeeperState
after_batch is_saved k =
    if is_saved then with_all_written (with_all_published k) else with_all_published k

-- the record of an origin was committed, behind a witness under a key
abbrev pub RecordsOrigin : ℕ → List ℕ → Option (List ℕ) → Option (List ℕ) → Option (List ℕ) → Cursor → Cursor → Type 0
RecordsOrigin origin key old new text before cursor =
    Committed old new text before cursor (batch_of key before.offset (raw_text (HasOrigin origin) ∷ []))
