-- Where memory runs out among the cells of a snapshot.
use Rattle.std.proofs.Common.{◌≡◌, ℕ, ◌<◌, List, Option, None, Some, IfSome, Ok, subst, inr}
use Rattle.rr_schema.specs.Schema.{Layout}
use Rattle.rr_schema.specs.Added.{older}
use Rattle.rr_page.specs.declared.version.Version.{Version}
use Rattle.rr_page.specs.Reading.{cell_at}
use Rattle.rr_cells.specs.CellBounds.{NamedCell}
use Rattle.rr_snapshot.specs.declared.heading.Head.{Head}
use Rattle.rr_snapshot.specs.SnapshotReading.{head_at}
use Rattle.rr_snapshot.specs.Stream.{HasRead}
use Rattle.rr_snapshot.proofs.BodyLemmas.{HeadRead}
use Rattle.rr_snapshot.proofs.CellsLemmas.{IsSoFar, Read, first_read, page_ok}
use Rattle.rr_snapshot.specs.Loading.{StopsAmong}

-- after the cells so far one more was read
pub stops_among : (s : Layout) (h : Head) (prefix : List NamedCell) (i : ℕ) (old now new : Option (List ℕ))
    → i < h.count
    → IsSoFar h.version (older s h.addition) prefix h.count i old now
    → HasRead now new (cell_at h.version (older s h.addition)) → IfSome old (λ bytes. StopsAmong s h bytes new)
stops_among s h prefix i None now new lt so_far read = tt
stops_among s h prefix i (Some all) now new lt so_far read =
    let next = subst (λ (o : Option (List ℕ)). HasRead o new (cell_at h.version (older s h.addition))) so_far.1 read in
    inr (record {
      done = i;
      before = prefix;
      rest = so_far.0;
      good = first_read h.version (older s h.addition) prefix h.count i all now so_far;
      not_all = lt;
      cell = next.0;
      left = next.1;
      is_read = next.3;
      stops = next.2;
    })

pub has_read : (v : Version) (s : Layout) (e : NamedCell) (now new : Option (List ℕ)) → Read v s e now new
    → HasRead now new (cell_at v s)
has_read v s e None new read = tt
has_read v s e (Some all) new read = (e, read.0, read.1, page_ok (cell_at v s all) (e, read.0) read.2)

-- so of the snapshot whose head was read before
pub stops_in_snapshot : (s : Layout) (h : Head) (old now new : Option (List ℕ)) → HeadRead s h old now
    → IfSome now (λ bytes. StopsAmong s h bytes new)
    → IfSome old (λ bytes. (head : Head) × (after : List ℕ) × (head_at s bytes ≡ Ok (head, after))
    × StopsAmong s head after new)
stops_in_snapshot s h None now new read among = tt
stops_in_snapshot s h (Some all) now new read among = (
  h,
  read.0,
  read.2,
  subst (λ (o : Option (List ℕ)). IfSome o (λ bytes. StopsAmong s h bytes new)) read.1 among,
)
