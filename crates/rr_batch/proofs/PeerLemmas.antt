-- The cells that a peer brings, and the record of how far its journal was read.
use Rattle.std.proofs.Common.{◌≡◌, ◌∙◌, ◌≤◌, Bool, true, List, [], ◌∷◌, ◌++◌, length, refl, ap, inl, inr, arith}
use Rattle.std.specs.Prelude.{if◌then◌else◌}
use Rattle.std.specs.Int.{w64, to_be_bytes}
use Rattle.std.proofs.lemmas.List.{length-append}
use Rattle.rr_cells.proofs.OperationsLemmas.{cell_is_taken}
use Rattle.rr_cells.specs.declared.cell.Cell.{Cell}
use Rattle.rr_cells.specs.CellBounds.{is_cell_of}
use Rattle.rr_cells.specs.Listing.{owned_cell}
use Rattle.rr_cells.specs.declared.op.Op.TheVariants.{Join}
use Rattle.rr_desk.specs.KeeperState.{KeeperState, with_pending}
use Rattle.rr_journal.specs.declared.cursor.Cursor.{Cursor}
use Rattle.rr_journal.specs.declared.fault.JournalFault.{JournalFault}
use Rattle.rr_journal.specs.declared.fault.JournalFault.TheVariants.{Memory}
use Rattle.rr_journal.specs.declared.raw.TheConstants.{MAX_BODY_LEN}
use Rattle.rr_journal.specs.Body.{HasJoined, IsEncodeFault, body_text, raw_text}
use Rattle.rr_journal.specs.declared.cursor.TheConstants.{ID_LEN}
use Rattle.rr_journal.specs.declared.digest.TheConstants.{DIGEST_LEN}
use Rattle.rr_journal.specs.Cursor.{cursor_text}
use Rattle.rr_batch.specs.Peers.{joined_if, joined_to, CellsOfTheSchemaAreJoined}

-- one cell more
pub joined_one_more : (k : KeeperState) (cells : List Cell) (c : Cell)
    → joined_to k (cells ++ c ∷ []) ≡ joined_if (joined_to k cells) c
joined_one_more k [] c = refl
joined_one_more k (x ∷ cells) c = joined_one_more (joined_if k x) cells c

pub cells_of_the_schema_are_joined : CellsOfTheSchemaAreJoined
cells_of_the_schema_are_joined k [] all = refl
cells_of_the_schema_are_joined k (c ∷ cells) all =
    let taken : is_cell_of k.schema (owned_cell c) ≡ true = cell_is_taken k.schema (owned_cell c) all.0 in
    let here : joined_if k c ≡ with_pending k (Join c) =
    ap (λ (b : Bool). if b then with_pending k (Join c) else k) taken in
    ap (λ (j : KeeperState). joined_to j cells) here
    ∙ cells_of_the_schema_are_joined (with_pending k (Join c)) cells all.1

-- ---- the record of a cursor

-- it is short enough to be written
cursor_fits : (read : Cursor) → length read.id ≡ ID_LEN → length read.digest ≡ DIGEST_LEN
    → length (raw_text (HasJoined read)).body ≤ MAX_BODY_LEN
unfolding body_text cursor_text
cursor_fits read id digest = omega (
  arith,
  id,
  digest,
  length-append read.id (to_be_bytes w64 read.offset ++ read.digest),
  length-append (to_be_bytes w64 read.offset) read.digest,
)

-- whatever refused its encoding was memory
pub only_memory : (read : Cursor) (fault : JournalFault) → length read.id ≡ ID_LEN
    → length read.digest ≡ DIGEST_LEN → IsEncodeFault (body_text (HasJoined read)) fault → fault ≡ Memory
only_memory read fault id digest (inl memory) = memory
only_memory read fault id digest (inr long) =
    let fits = cursor_fits read id digest in let past = long.1 in absurd (omega (arith, fits, past))
