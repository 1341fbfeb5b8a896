-- A walk over the cells of a reader, step by step.
use Rattle.std.proofs.Common.{◌≡◌, ℕ, suc, ◌+◌, ◌-◌, ◌^◌, ◌<◌, ◌≤◌, Bool, true, false, true≢false, List, [], ◌∷◌, ◌++◌, length, map, Option, None, Some, refl, sym, ap, subst, ◌∙◌, append-nil, arith}
use Rattle.std.specs.Prelude.{MatchBool, nat_lt}
use Rattle.std.specs.Io.KnownBytes.{Appends}
use Rattle.std.specs.FinMap.{entries}
use Rattle.std.specs.Option.{option_map, option_to_list}
use Rattle.std.specs.Prelude.{IsSome}
use Rattle.std.proofs.lemmas.Bool.Decides.{nat_tests}
use Rattle.std.proofs.lemmas.Grind.{flat_map-append}
use Rattle.std.proofs.lemmas.List.{length-append, length-take, map_push}
use Rattle.rr_delta.specs.Summaries.{cells_after}
use Rattle.rr_replica.proofs.Each.{length-map}
use mathlib.Core.List.{IsPrefix}
use Rattle.rr_schema.specs.Schema.{Layout}
use Rattle.rr_cells.specs.declared.cell.Cell.{Cell}
use Rattle.rr_cells.specs.declared.op.Op.{Op}
use Rattle.rr_cells.specs.CellNames.{CellName}
use Rattle.rr_cells.specs.CellBounds.{NamedCell}
use Rattle.rr_cells.specs.Listing.{owned_cell}
use Rattle.rr_cells.specs.Operations.{outcome_of}
use Rattle.rr_changes.specs.Changes.{last_name, next_of}
use Rattle.rr_changes.specs.Checkpoints.{Read, AreReads}
use Rattle.rr_commit.specs.declared.record.TheConstants.{MAX_RECORD_CELLS}
use Rattle.rr_desk.specs.ReaderState.{HasSeenMore, ReaderState, cells_seen}
use Rattle.rr_desk.proofs.PrefixLemmas.{prefix_refl, prefix_trans}
use Rattle.rr_io.specs.declared.counted.Counted.{Counted}
use Rattle.rr_io.specs.Counted.{inner_of}
use Rattle.rr_io.specs.Stream.{AppendsPrefix, KeepsFailures, WritesPrefix}
use Rattle.rr_journal.specs.Text.{Raw, chain, records_text}
use Rattle.rr_checkpoint.specs.declared.progress.Progress.{Progress}
use Rattle.rr_checkpoint.specs.Walk.{AreNext, AreSeen, IsTooLong, cells_read}
use Rattle.rr_checkpoint.specs.Writing.{IsLastOf, WritesOn, WritesRecords, WritesWalk, next_seen}
use Rattle.rr_checkpoint.proofs.TextLemmas.{both_prefix, both_written, cells_append, chain-append, no_cells, none_written}

-- ---- reads

-- these were whole, and the last cell of the last has a name; or there is none, and another name stays
abbrev pub AreWhole : Option CellName → List Read → Option CellName → Type 0
AreWhole after [] next = after ≡ next
AreWhole after (r ∷ reads) next =
    (r.cells ≡ next_of MAX_RECORD_CELLS after (entries r.held)) × (MAX_RECORD_CELLS ≤ length r.cells)
    × AreWhole (last_name after r.cells) reads next

-- what a read that follows has
abbrev pub IsNext : Option CellName → Read → Type 0
IsNext after r = r.cells ≡ next_of MAX_RECORD_CELLS after (entries r.held)

not_less : (n m : ℕ) → m ≤ n → nat_lt n m ≡ false
not_less n m le = grind (arith, nat_tests)

less : (n m : ℕ) → n < m → nat_lt n m ≡ true
less n m lt = grind (arith, nat_tests)

by_false : (P Q : Type 0) (b : Bool) → b ≡ false → Q → MatchBool b P Q
by_false P Q true e q = absurd (true≢false e)
by_false P Q false e q = q

by_true : (P Q : Type 0) (b : Bool) → b ≡ true → P → MatchBool b P Q
by_true P Q true e p = p
by_true P Q false e p = absurd (true≢false (sym e))

pub whole_more : (after next : Option CellName) (reads : List Read) (r : Read) → AreWhole after reads next
    → IsNext next r → MAX_RECORD_CELLS ≤ length r.cells → AreWhole after (reads ++ r ∷ []) (last_name next r.cells)
whole_more after next [] r are is many = (
  is ∙ ap (λ (n : Option CellName). next_of MAX_RECORD_CELLS n (entries r.held)) (sym are),
  many,
  ap (λ (n : Option CellName). last_name n r.cells) are,
)
whole_more after next (q ∷ reads) r are is many =
    (are.0, are.1, whole_more (last_name after q.cells) next reads r are.2 is many)

pub whole_ended : (after next : Option CellName) (reads : List Read) (r : Read) → AreWhole after reads next
    → IsNext next r → length r.cells < MAX_RECORD_CELLS → AreReads MAX_RECORD_CELLS after (reads ++ r ∷ [])
whole_ended after next [] r are is few = (
  is ∙ ap (λ (n : Option CellName). next_of MAX_RECORD_CELLS n (entries r.held)) (sym are),
  by_true _ _ (nat_lt (length r.cells) MAX_RECORD_CELLS) (less _ _ few) refl,
)
whole_ended after next (q ∷ reads) r are is few = (
  are.0,
  by_false _ _ (nat_lt (length q.cells) MAX_RECORD_CELLS) (not_less _ _ are.1)
      (whole_ended (last_name after q.cells) next reads r are.2 is few),
)

pub whole_next : (after next : Option CellName) (reads : List Read) (r : Read) → AreWhole after reads next
    → IsNext next r → AreNext after (reads ++ r ∷ [])
whole_next after next [] r are is =
    (is ∙ ap (λ (n : Option CellName). next_of MAX_RECORD_CELLS n (entries r.held)) (sym are), tt)
whole_next after next (q ∷ reads) r are is = (are.0, whole_next (last_name after q.cells) next reads r are.2 is)

pub cells_more : (reads : List Read) (r : Read) → cells_read (reads ++ r ∷ []) ≡ cells_read reads ++ r.cells
cells_more reads r = flat_map-append (λ (r : Read). r.cells) reads (r ∷ [])
    ∙ ap (λ (l : List NamedCell). cells_read reads ++ l) (append-nil r.cells)

-- ---- what was seen

pub seen_more : (s : Layout) (from mid list : List Op) (reads : List Read) (r : Read) → AreSeen s from mid reads
    → IsPrefix mid list → r.held ≡ outcome_of s list → AreSeen s from list (reads ++ r ∷ [])
seen_more s from mid list [] r are more is = (list, prefix_trans from mid list are more, is, prefix_refl list)
seen_more s from mid list (q ∷ reads) r are more is =
    (are.0, are.1, are.2, seen_more s are.0 mid list reads r are.3 more is)

pub seen_further : (first mid last : ReaderState) → HasSeenMore first mid → HasSeenMore mid last
    → HasSeenMore first last
seen_further first mid last a b = record {
  desk = b.desk ∙ a.desk;
  schema = b.schema ∙ a.schema;
  list = prefix_trans first.list mid.list last.list a.list b.list;
}

-- ---- what was written

-- cells were written after others
module _ {W : Type 0} (contents : W → Option (List ℕ)) (old mid new : Counted W) where
  pub records_more : (before between digest : List ℕ) (es fs : List NamedCell)
      → WritesRecords contents old mid before between es → WritesRecords contents mid new between digest fs
      → WritesRecords contents old new before digest (es ++ fs)
  records_more before between digest es fs a b = record {
    records = a.records ++ b.records;
    have = cells_append a.records b.records es fs a.have b.have;
    text = both_written (contents (inner_of old)) (contents (inner_of mid)) before (contents (inner_of new)) a.records
        b.records a.text
        (subst (λ (d : List ℕ). Appends (contents (inner_of mid)) (contents (inner_of new)) (records_text d b.records))
        a.chains b.text);
    chains = b.chains ∙ ap (λ (d : List ℕ). chain d b.records) a.chains ∙ sym (chain-append before a.records b.records);
  }

  pub written_more : (before between progress : Progress) (es fs : List NamedCell)
      → WritesOn contents old mid before between es → WritesOn contents mid new between progress fs
      → WritesOn contents old new before progress (es ++ fs)
  written_more before between progress es fs a b =
      let first = a.count in
      let second = b.count in
      let both = length-append es fs in
      record {
        records = records_more before.place.digest between.place.digest progress.place.digest es fs a.records b.records;
        count = omega (arith, first, second, both);
      }

-- ---- so far

-- a walk that goes on after a cell of this name, or has ended
abbrev pub StandsAt : List Read → Option CellName → Type 0
StandsAt reads None = AreReads MAX_RECORD_CELLS None reads
StandsAt reads (Some n) = AreWhole None reads (Some n)

module _ {W : Type 0} (contents : W → Option (List ℕ)) (old : Counted W) (before : Progress) (first : ReaderState) where
  -- what is read and written so far
  pub record SoFar (now : Counted W) (progress : Progress) (last : ReaderState) (after : Option CellName) : Type 0 where
    pub reads : List Read
    pub stands : StandsAt reads after
    pub seen : AreSeen first.schema first.list last.list reads
    pub written : WritesOn contents old now before progress (cells_read reads)
    pub reader : HasSeenMore first last
    pub failures_never_fall : KeepsFailures old now
    pub fits : progress.cells < 2 ^ 64

  -- the same before a read after a name
  pub record SoFarWhole (now : Counted W) (progress : Progress) (last : ReaderState) (after : Option CellName) : Type 0 where
    pub reads : List Read
    pub whole : AreWhole None reads after
    pub seen : AreSeen first.schema first.list last.list reads
    pub written : WritesOn contents old now before progress (cells_read reads)
    pub reader : HasSeenMore first last
    pub failures_never_fall : KeepsFailures old now

  pub nothing_yet : SoFarWhole old before first None
  nothing_yet = record {
    reads = [];
    whole = refl;
    seen = prefix_refl first.list;
    written = record {
      records = record {
        records = [];
        have = no_cells;
        text = none_written (contents (inner_of old)) (contents (inner_of old)) before.place.digest;
        chains = refl;
      };
      count = omega arith;
    };
    reader = record { desk = refl; schema = refl; list = prefix_refl first.list };
    failures_never_fall = omega arith;
  }

  pub goes_on : (now : Counted W) (progress : Progress) (last : ReaderState) (n : CellName)
      → SoFar now progress last (Some n) → SoFarWhole now progress last (Some n)
  goes_on now progress last n so_far = record {
    reads = so_far.reads;
    whole = so_far.stands;
    seen = so_far.seen;
    written = so_far.written;
    reader = so_far.reader;
    failures_never_fall = so_far.failures_never_fall;
  }

  module _ (now new : Counted W) (progress later : Progress) (last next : ReaderState) (after : Option CellName)
      (so_far : SoFarWhole now progress last after) (seen : HasSeenMore last next) where
    read : Read
    read = record { held = cells_seen next; cells = next_seen next after }

    of_schema : next.schema ≡ first.schema
    of_schema = seen.schema ∙ so_far.reader.schema

    reads_seen : AreSeen first.schema first.list next.list (so_far.reads ++ read ∷ [])
    unfolding read
    reads_seen = seen_more first.schema first.list last.list next.list so_far.reads read so_far.seen seen.list
        (ap (λ (s : Layout). outcome_of s next.list) of_schema)

    stands_at : (l : Option CellName) → IsLastOf after (next_seen next after) l → StandsAt (so_far.reads ++ read ∷ []) l
    unfolding read
    stands_at None few = whole_ended None after so_far.reads read so_far.whole refl few
    stands_at (Some n) is = subst (AreWhole None (so_far.reads ++ read ∷ [])) is.1
        (whole_more None after so_far.reads read so_far.whole refl is.0)

    pub one_more : (l : Option CellName) → WritesOn contents now new progress later (next_seen next after)
        → IsLastOf after (next_seen next after) l → KeepsFailures now new → later.cells < 2 ^ 64 → SoFar new later next l
    unfolding read
    one_more l writes is keeps fits =
        let kept = so_far.failures_never_fall in
        record {
          reads = so_far.reads ++ read ∷ [];
          stands = stands_at l is;
          seen = reads_seen;
          written = subst (WritesOn contents old new before later) (sym (cells_more so_far.reads read))
              (written_more contents old now new before progress later (cells_read so_far.reads) (next_seen next after)
              so_far.written writes);
          reader = seen_further first last next so_far.reader seen;
          failures_never_fall = omega (arith, kept, keeps);
          fits = fits;
        }

    pub too_long : before.cells ≡ 0 → 2 ^ 64 ≤ progress.cells + length (next_seen next after) → IsTooLong first next
    unfolding read
    too_long none many =
        let count = so_far.written.count in
        let both = length-append (cells_read so_far.reads) (next_seen next after) in
        let all : length (cells_read (so_far.reads ++ read ∷ []))
        ≡ length (cells_read so_far.reads ++ next_seen next after) = ap length (cells_more so_far.reads read) in
        record {
          reads = so_far.reads ++ read ∷ [];
          next = whole_next None after so_far.reads read so_far.whole refl;
          seen = reads_seen;
          many = omega (arith, none, many, count, both, all);
        }

  -- a prefix of records behind those so far
  pub more_prefix : (now new : Counted W) (progress : Progress) (cells : List NamedCell)
      (written : WritesOn contents old now before progress cells) (qs : List Raw)
      → WritesPrefix contents now new (records_text progress.place.digest qs)
      → WritesPrefix contents old new (records_text before.place.digest (written.records.records ++ qs))
  more_prefix now new progress cells written qs p =
      both_prefix (contents (inner_of old)) (contents (inner_of now)) before.place.digest (contents (inner_of new))
      written.records.records qs written.records.text
      (subst (λ (d : List ℕ). AppendsPrefix (contents (inner_of now)) (contents (inner_of new)) (records_text d qs))
      written.records.chains p)

  pub whole_walk : (now : Counted W) (progress : Progress) (last : ReaderState) → SoFar now progress last None
      → WritesWalk contents old now before progress first last
  whole_walk now progress last so_far = record {
    reads = so_far.reads;
    walk = record { whole = so_far.stands; seen = so_far.seen };
    written = so_far.written;
  }

-- ---- the cells that are listed

listed_len : (es : List NamedCell) (cells : List Cell) → map owned_cell cells ≡ es → length es ≡ length cells
listed_len es cells is = ap length (sym is) ∙ length-map owned_cell cells

last_of : (other : Option CellName) (es : List NamedCell) (e : NamedCell) → last_name other (es ++ e ∷ []) ≡ Some e.0
last_of other [] e = refl
last_of other (x ∷ es) e = last_of (Some x.0) es e

-- no more are listed than a record has
pub few_listed : (r : ReaderState) (after : Option CellName) (cells : List Cell)
    → map owned_cell cells ≡ next_seen r after → length cells ≤ MAX_RECORD_CELLS
few_listed r after cells is =
    let same = listed_len (next_seen r after) cells is in
    let most = length-take MAX_RECORD_CELLS (cells_after after (entries (cells_seen r))) in
    omega (arith, same, most)

-- the cells of a list are as many as those that it lists
pub many_listed : (n : ℕ) (es : List NamedCell) (cells : List Cell) → map owned_cell cells ≡ es
    → 2 ^ 64 ≤ n + length cells → 2 ^ 64 ≤ n + length es
many_listed n es cells is many = let same = listed_len es cells is in omega (arith, same, many)

-- of a whole record the last cell tells the name
pub last_listed : (after : Option CellName) (es : List NamedCell) (cells init : List Cell) (popped : Option Cell)
    → map owned_cell cells ≡ es → MAX_RECORD_CELLS ≤ length cells → cells ≡ init ++ option_to_list popped
    → (0 < length cells → IsSome popped) → IsLastOf after es (option_map (λ c. (owned_cell c).0) popped)
last_listed after es cells init None is many split some =
    absurd (true≢false (sym (some (omega (arith, many)))))
last_listed after es cells init (Some last) is many split some =
    let same = listed_len es cells is in (
      omega (arith, same, many),
      ap (last_name after) (sym is) ∙ ap (λ (l : List Cell). last_name after (map owned_cell l)) split
          ∙ ap (last_name after) (map_push owned_cell init last) ∙ last_of after (map owned_cell init) (owned_cell last),
    )

-- how many steps are left at most
abbrev pub steps_left : ℕ → Option Cell → ℕ
steps_left cells None = 0
steps_left cells (Some c) = suc (2 ^ 64 - cells)

-- fewer are left behind a whole record
pub fewer_left : (n m : ℕ) (es : List NamedCell) (after : Option CellName) (c : Cell) (last : Option Cell)
    → m ≡ n + length es → m < 2 ^ 64 → IsLastOf after es (option_map (λ c. (owned_cell c).0) last)
    → steps_left m last < steps_left n (Some c)
fewer_left n m es after c None sum fits is = omega arith
fewer_left n m es after c (Some last) sum fits is = let many = is.0 in omega (arith, sum, fits, many)
