-- What is loaded from a snapshot, and what a call that loads it did.
use Rattle.std.specs.Prelude.{◌≡◌, ◌⊎◌, ◌<◌, ℕ, Bool, false, ◌||◌, ◌==◌, List, map, Option, None, Some, IfSome, Result, Ok, Err, OnOk}
use Rattle.std.specs.FinMap.{empty}
use Rattle.std.specs.List.{list_any}
use Rattle.sha2.specs.declared.Sha256.{Sha256}
use Rattle.rr_text.specs.Results.{◌>>=◌, unless}
use Rattle.rr_io.specs.declared.counted.Counted.{Counted}
use Rattle.rr_io.specs.Counted.{inner_of}
use Rattle.rr_io.specs.Stream.{IsReadOut}
use Rattle.rr_schema.specs.Schema.{Layout}
use Rattle.rr_schema.specs.Added.{older}
use Rattle.rr_schema.specs.declared.added.Addition.{Addition}
use Rattle.rr_page.specs.PageReading.{cells_at}
use Rattle.rr_page.specs.Reading.{cell_at}
use Rattle.rr_cells.specs.CellBounds.{NamedCell}
use Rattle.rr_cells.specs.ReplicaState.{ReplicaState}
use Rattle.rr_cells.specs.Joins.{join_cells}
use Rattle.rr_snapshot.specs.declared.fault.LoadFault.{LoadFault}
use Rattle.rr_snapshot.specs.declared.fault.LoadFault.TheVariants.{ReadFailed, OriginUsed, Memory}
use Rattle.rr_snapshot.specs.declared.heading.Head.{Head}
use Rattle.rr_snapshot.specs.SnapshotReading.{head_at, snapshot_at}
use Rattle.rr_snapshot.specs.Stream.{Digests, LoadsFrom}
use Rattle.rr_cells.specs.Raising.{raised_cell}

-- whether an origin is that of one of these cells
abbrev pub is_among : ℕ → List NamedCell → Bool
is_among origin es = list_any (λ e. e.0.origin == origin) es

-- whether it is the one that a snapshot was saved under, or that of one of its cells
abbrev pub is_used : ℕ → ℕ → List NamedCell → Bool
is_used origin saver es = (saver == origin) || is_among origin es

-- the replica of an origin that has written nothing, with these cells from before an addition joined in
abbrev pub replica_of : Layout → Addition → ℕ → List NamedCell → ReplicaState
replica_of s a origin es = record {
  schema = s;
  origin = origin;
  next = 1;
  cells =
      join_cells s empty (map (raised_cell a) es);
}

-- the replica of a new origin that is loaded from all of the bytes, read as a snapshot
unfoldable pub loaded_at : Layout → ℕ → List ℕ → Result ReplicaState LoadFault
loaded_at s origin bytes = do
  x ← snapshot_at s bytes
  unless OriginUsed (is_used origin x.0.origin x.1) (Ok (replica_of s x.0.addition origin x.1))

-- the result is the definition's answer, unless the reader failed or memory ran out
abbrev pub GivesIfRead : {A B : Type 0} → (A → B) → Result A LoadFault → Result B LoadFault → Type 0
GivesIfRead view (Ok x) answer = answer ≡ Ok (view x)
GivesIfRead view (Err fault) answer = (fault ≡ ReadFailed) ⊎ (fault ≡ Memory) ⊎ (answer ≡ Err fault)

-- one of the cells after a head was read, and those before it are good and in order; what follows it is left
pub record StopsAtCell (s : Layout) (head : Head) (bytes : List ℕ) (new : Option (List ℕ)) : Type 0 where
  pub done : ℕ
  pub before : List NamedCell
  pub rest : List ℕ
  pub good : cells_at head.version (older s head.addition) None done bytes ≡ Ok (before, rest)
  pub not_all : done < head.count
  pub cell : NamedCell
  pub left : List ℕ
  pub is_read : cell_at head.version (older s head.addition) rest ≡ Ok (cell, left)
  pub stops : new ≡ Some left

-- nothing after a head was read, or one of the cells after it was the last that was read
abbrev pub StopsAmong : Layout → Head → List ℕ → Option (List ℕ) → Type 0
StopsAmong s head bytes new = (new ≡ Some bytes) ⊎ StopsAtCell s head bytes new

-- nothing was read; or the head is good, and nothing after it was read, or one of its cells was the last that was read
abbrev pub StopsBeforeDigest : Layout → Option (List ℕ) → Option (List ℕ) → Type 0
StopsBeforeDigest s old new =
    (new ≡ old)
    ⊎ IfSome old (λ bytes. (head : Head) × (after : List ℕ) × (head_at s bytes ≡ Ok (head, after))
    × StopsAmong s head after new)

-- what a replica holds after these cells from before an addition were joined into it, in order, and whether one is of
-- its own origin; if none is, its next number stays
pub record HasJoined (a : Addition) (old new : ReplicaState) (own : Bool) (es : List NamedCell) : Type 0 where
  pub schema : new.schema ≡ old.schema
  pub origin : new.origin ≡ old.origin
  pub cells : new.cells ≡ join_cells old.schema old.cells (map (raised_cell a) es)
  pub any : own ≡ is_among old.origin es
  pub next : own ≡ false → new.next ≡ old.next

-- what a call that loads the cells after a head did: it digested what it took, and memory ran out only before they were
-- read, or at one that is good, as all before it are
pub record LoadsCells {R X : Type 0} (s : Layout) (head : Head) (remaining : R → Option (List ℕ)) (old new : Counted R)
    (before after : Sha256) (result : Result X LoadFault) : Type 0 where
  pub digest : OnOk result (Digests (remaining (inner_of old)) (remaining (inner_of new)) before after)
  pub stream : LoadsFrom remaining old new result
  pub memory : result ≡ Err Memory → IfSome (remaining (inner_of old))
      (λ bytes. StopsAmong s head bytes (remaining (inner_of new)))

-- what a call that loads all of the input did: it read it to the end, and memory ran out only before the digest, when
-- all that it had read was good
pub record LoadsAll {R X : Type 0} (s : Layout) (remaining : R → Option (List ℕ)) (old new : Counted R)
    (result : Result X LoadFault) : Type 0 where
  pub end : OnOk result (IsReadOut remaining new)
  pub stream : LoadsFrom remaining old new result
  pub memory : result ≡ Err Memory → StopsBeforeDigest s (remaining (inner_of old)) (remaining (inner_of new))
