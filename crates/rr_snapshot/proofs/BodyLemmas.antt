-- The head and the cells of a snapshot, read one after the other, and the digest of their bytes.
use Rattle.std.proofs.Common.{◌≡◌, ℕ, List, ◌++◌, length, take, Option, Some, IfSome, Result, Ok, refl, sym, ap, subst, ◌∙◌, arith, []}
use Rattle.std.specs.Prelude.{◌==◌}
use Rattle.std.specs.Int.{w32}
use Rattle.std.specs.Io.KnownBytes.{Consumes}
use Rattle.std.proofs.lemmas.List.{length-append, take_at}
use Rattle.sha2.specs.Hashers.{Holds256}
use Rattle.sha2.specs.Sha256.{sha256}
use Rattle.sha2.specs.declared.Sha256.{Sha256}
use Rattle.rr_text.specs.Results.{◌>>=◌, unless}
use Rattle.rr_schema.specs.Schema.{Layout}
use Rattle.rr_schema.specs.declared.added.Addition.{Addition}
use Rattle.rr_page.specs.declared.version.Version.{Version}
use Rattle.rr_page.specs.Reading.{number_at}
use Rattle.rr_cells.specs.CellBounds.{NamedCell}
use Rattle.rr_snapshot.specs.declared.fault.LoadFault.{LoadFault}
use Rattle.rr_snapshot.specs.declared.fault.LoadFault.TheVariants.{BadOrigin}
use Rattle.rr_snapshot.specs.declared.heading.Head.{Head}
use Rattle.rr_snapshot.specs.SnapshotReading.{as_in_page, archives_at, head_at, digest_at, end_at, bytes_before, cells_after}
use Rattle.rr_snapshot.specs.Stream.{Digests}
use Rattle.rr_snapshot.proofs.ChainLemmas.{Gave, Digests-then}

-- the bytes before those that are left, of bytes in two parts
pub prefix_is : (prefix rest all : List ℕ) → all ≡ prefix ++ rest → bytes_before rest all ≡ prefix
prefix_is prefix rest all e =
    ap (bytes_before rest) e
    ∙ ap (λ (n : ℕ). take n (prefix ++ rest)) (omega (arith, length-append prefix rest))
    ∙ take_at prefix rest (length prefix) refl

-- what is read after each piece of a head
abbrev pub counted : Version → Addition × ℕ → ℕ × List ℕ → Result (Head × List ℕ) LoadFault
counted v from count = Ok (record { version = v; addition = from.0; origin = from.1; count = count.0 }, count.1)

abbrev pub after_archives : Version → (Addition × ℕ) × List ℕ → Result (Head × List ℕ) LoadFault
after_archives v from = unless BadOrigin (from.0.1 == 0) (as_in_page (number_at w32 from.1)) >>= counted v from.0

abbrev pub after_start : Layout → (Version × ℕ) × List ℕ → Result (Head × List ℕ) LoadFault
after_start s start = as_in_page (archives_at start.0.0 s start.0.1 start.1) >>= after_archives start.0.0

-- what is read after the cells, and after the head
abbrev pub after_cells : List ℕ → Head → List NamedCell × List ℕ → Result (Head × List NamedCell) LoadFault
after_cells all head cells = digest_at (sha256 (bytes_before cells.1 all)) cells.1 >>= λ digest. end_at digest.1 >>=
    λ end. Ok (head, cells.0)

abbrev pub after_head : Layout → List ℕ → Head × List ℕ → Result (Head × List NamedCell) LoadFault
after_head s all head = cells_after s head.0 head.1 >>= after_cells all head.0

-- a fact of the bytes that are left, where they are these
pub of_rest : (P : List ℕ → Type 0) (o : Option (List ℕ)) (rest : List ℕ) → o ≡ Some rest → IfSome o P → P rest
of_rest P o rest is h = subst (λ (x : Option (List ℕ)). IfSome x P) is h

abbrev pub HeadRead : Layout → Head → Option (List ℕ) → Option (List ℕ) → Type 0
HeadRead s head old now = Gave head old now (head_at s)

abbrev pub CellsRead : Layout → Head → List NamedCell → Option (List ℕ) → Option (List ℕ) → Type 0
CellsRead s head es old now = Gave es old now (cells_after s head)

-- the digest of what was taken is that of the bytes before those that are left
pub digest_of_taken : (all left : List ℕ) (now : Option (List ℕ)) (taken digest : List ℕ) → now ≡ Some left
    → Consumes (Some all) now taken → digest ≡ sha256 taken → digest ≡ sha256 (bytes_before left all)
digest_of_taken all left now taken digest en took made =
    let parts : all ≡ taken ++ left = subst (λ (n : Option (List ℕ)). Consumes (Some all) n taken) en took in
    made ∙ ap sha256 (sym (prefix_is taken left all parts))

-- the head and the cells were read, and the bytes of both have this digest
pub record IsBodyRead (s : Layout) (h : Head) (es : List NamedCell) (digest : List ℕ)
    (old now mid : Option (List ℕ)) : Type 0 where
  pub head : HeadRead s h old now
  pub cells : CellsRead s h es now mid
  pub taken : List ℕ
  pub took : Consumes old mid taken
  pub made : digest ≡ sha256 taken

-- all of it was digested as it came
pub body_read : (s : Layout) (h : Head) (es : List NamedCell) (digest : List ℕ) (old now mid : Option (List ℕ))
    (none head all : Sha256) → HeadRead s h old now → CellsRead s h es now mid
    → Holds256 none [] → Digests old now none head → Digests now mid head all
    → ((m : List ℕ) → Holds256 all m → digest ≡ sha256 m) → IsBodyRead s h es digest old now mid
body_read s h es digest old now mid none head all first cells empty one two made =
    let taken = Digests-then old now mid none head all one two in
    record {
      head = first;
      cells = cells;
      taken = taken.0;
      took = taken.1;
      made = made taken.0 (taken.2 [] empty);
    }
