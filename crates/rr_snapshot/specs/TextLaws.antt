-- The laws of the texts of snapshots.
use Rattle.std.specs.Prelude.{◌≡◌, ℕ, ◌≤◌, ◌↔◌, List, ◌++◌, length, Ok, Err}
use Rattle.rr_schema.specs.Schema.{Layout, IsLayout}
use Rattle.rr_schema.specs.Added.{older}
use Rattle.rr_cells.specs.CellBounds.{NamedCell}
use Rattle.rr_page.specs.declared.version.Version.{Version}
use Rattle.rr_page.specs.Laws.{AreBytes}
use Rattle.rr_page.specs.Version.{HasMasksFor}
use Rattle.rr_snapshot.specs.declared.fault.LoadFault.TheVariants.{Short}
use Rattle.rr_snapshot.specs.declared.heading.Head.{Head}
use Rattle.rr_snapshot.specs.Snapshot.{IsSnapshot, IsSnapshotText, snapshot_text}
use Rattle.rr_snapshot.specs.SnapshotReading.{snapshot_at}

-- a snapshot is read exactly if the bytes are the text of a snapshot of the schema, or of it before an addition
abbrev pub SnapshotsAreTheirText : Type 0
SnapshotsAreTheirText =
    (s : Layout) (bytes : List ℕ) (head : Head) (es : List NamedCell) → IsLayout s → AreBytes bytes
    → (snapshot_at s bytes ≡ Ok (head, es)) ↔ (IsSnapshot (older s head.addition) head.origin es
    × IsSnapshotText s head es bytes)

-- no snapshot begins another: if the text of a snapshot and bytes after it are the text of a snapshot and bytes after
-- it, the versions, the schemas, the origins, the cells and the bytes after them are the same
abbrev pub NoSnapshotBeginsAnother : Type 0
NoSnapshotBeginsAnother =
    (v w : Version) (s t : Layout) (o p : ℕ) (es fs : List NamedCell) (x y : List ℕ) → IsLayout s → IsLayout t
    → HasMasksFor v s → HasMasksFor w t → IsSnapshot s o es → IsSnapshot t p fs
    → snapshot_text v s o es ++ x ≡ snapshot_text w t p fs ++ y
    → (v ≡ w) × (s ≡ t) × (o ≡ p) × (es ≡ fs) × (x ≡ y)

-- the bytes of a snapshot with some missing at the end are Short
abbrev pub SnapshotPrefixesAreShort : Type 0
SnapshotPrefixesAreShort =
    (s : Layout) (head : Head) (es : List NamedCell) (bytes prefix rest : List ℕ) → IsLayout s
    → IsSnapshot (older s head.addition) head.origin es → IsSnapshotText s head es bytes
    → bytes ≡ prefix ++ rest → 1 ≤ length rest → snapshot_at s prefix ≡ Err Short
