-- The changes of series, listed archive by archive: the same cells as those within the ranges of the series.
use Rattle.std.proofs.Common.{◌≡◌, ℕ, zero, suc, ◌<◌, pos, Bool, true, false, cond, List, [], ◌∷◌, ◌++◌, fold, length, map, All, refl, sym, ap, ◌∙◌, subst, arith, true≢false, Option, None, Some, is_some, unwrap_or, ⊎_elim, ◌⊎◌, inl, inr}
use Rattle.std.specs.Prelude.{Contains, nat_eq}
use Rattle.std.specs.Cmp.Lexicographic.{pointwise, bytes_decides}
use Rattle.std.specs.FinMap.{entries, find, get, get-entries, keys, retain_keys}
use Rattle.std.specs.List.{filter, flat_map, list_any, range_with_len}
use Rattle.std.specs.Ordering.{eq_by_cmp}
use Rattle.std.proofs.lemmas.Bool.{and_from, or_left, or_right}
use Rattle.std.proofs.lemmas.List.{append-nil}
use Rattle.std.proofs.lemmas.List.Elements.{All-append, All-contains, All-contains_itself, All-filter, All-map, All-nil, All-weaker, Contains-append_left, Contains-append_right, Contains-get_or, filter_passes}
use Rattle.std.proofs.lemmas.List.FromFn.{get_or-range_with_len, length-range_with_len}
use Rattle.rr_schema.specs.Schema.{Layout}
use Rattle.rr_join.proofs.Booleans.{and_first, and_second, either_case}
use Rattle.rr_join.proofs.Keys.{entries-retain, entries_by_keys}
use Rattle.rr_join.proofs.Lookups.{is_in-keys}
use Rattle.rr_join.proofs.Members.{is_in, same_from_tie, tie_itself}
use Rattle.rr_contrib.specs.Contributions.{of_one, slot_sample}
use Rattle.rr_contrib.specs.declared.contribution.Contribution.{Contribution}
use Rattle.rr_archive.specs.CellSlots.{CellSlot, cell_slot_cmp}
use Rattle.rr_archive.specs.Cells.{ArchiveCells, cell_of}
use Rattle.rr_archive.proofs.CellSlotOrder.{cell_slot_cmp_total, cell_slot_cmp-IsAntisymmetric}
use Rattle.rr_cells.specs.CellBounds.{NamedCell}
use Rattle.rr_cells.specs.Cells.{Cells, archive_cells, cell_slot_of, name_at}
use Rattle.rr_cells.specs.Operations.{step}
use Rattle.rr_cells.proofs.Local.{get-archive_cells}
use Rattle.rr_cells.proofs.Orders.{cell_name_cmp_total, cell_name_cmp-IsAntisymmetric}
use Rattle.rr_changes.specs.declared.changed_series.ChangedSeries.{ChangedSeries}
use Rattle.rr_changes.specs.Changes.{changes_among, is_cell_in, is_slot_in_times, is_within}
use Rattle.rr_changes.specs.ChangeLaws.{ListedChangesAreTheSame, ListedChangesMakeTheCells, TrackedChangesMakeTheCells}
use Rattle.rr_changes.specs.Listing.{changes_in, changes_of, changes_of_all, named_cell}
use Rattle.rr_changes.specs.Updates.{Write}
use Rattle.rr_changes.proofs.AddingLemmas.{operations_only_add}
use Rattle.rr_changes.proofs.CheckpointLemmas.{among_entries, among_filter, among_first, among_later, entries_there}
use Rattle.rr_changes.proofs.CoveredLemmas.{covered_cells_are_an_update}
use Rattle.rr_changes.proofs.HoldingLemmas.{updates_make_the_last}
use Rattle.rr_changes.proofs.TrackingLemmas.{tracked_operations_are_covered}

-- ---- lists

-- an element is the first, or one of the others
first_or_later : {X : Type 0} (x : X) (xs : List X) (y : X) → Contains (x ∷ xs) y → (x ≡ y) ⊎ Contains xs y
first_or_later x xs y (zero, below, at) = inl at
first_or_later x xs y (suc i, below, at) = inr (i, omega (arith, below), at)

none_at_all : {X : Type 0} (y : X) → ¬ Contains [] y
none_at_all y (i, below, at) = absurd (omega (arith, below))

all_flat : {X Y : Type 0} (P : Y → Type 0) (f : X → List Y) (xs : List X) → ((x : X) → Contains xs x → All P (f x))
    → All P (flat_map f xs)
all_flat P f [] each = All-nil P
all_flat P f (x ∷ xs) each = All-append P (f x) (flat_map f xs) (each x (among_first x xs))
    (all_flat P f xs (λ y at. each y (among_later x xs y at)))

among_flat : {X Y : Type 0} (f : X → List Y) (xs : List X) (x : X) (y : Y) → Contains xs x → Contains (f x) y
    → Contains (flat_map f xs) y
among_flat f [] x y at has = absurd (none_at_all x at)
among_flat f (z ∷ xs) x y at has = ⊎_elim
    (λ same. Contains-append_left (f z) (flat_map f xs) y (subst (λ w. Contains (f w) y) (sym same) has))
    (λ later. Contains-append_right (f z) (flat_map f xs) y (among_flat f xs x y later has))
    (first_or_later z xs x at)

among_map : {X Y : Type 0} (f : X → Y) (xs : List X) (x : X) → Contains xs x → Contains (map f xs) (f x)
among_map f [] x at = absurd (none_at_all x at)
among_map f (z ∷ xs) x at = ⊎_elim
    (λ same. subst (Contains (f z ∷ map f xs)) (ap f same) (among_first (f z) (map f xs)))
    (λ later. among_later (f z) (map f xs) (f x) (among_map f xs x later))
    (first_or_later z xs x at)

among_passing : {X : Type 0} (test : X → Bool) (xs : List X) (x : X) → test x ≡ true → Contains xs x
    → Contains (filter test xs) x
among_passing test [] x passes at = absurd (none_at_all x at)
among_passing test (z ∷ xs) x passes at = elim (test z) as (λ b. test z ≡ b
    → Contains (cond b (z ∷ filter test xs) (filter test xs)) x) [
      | true ↦ λ t. ⊎_elim (λ same. subst (Contains (z ∷ filter test xs)) same (among_first z (filter test xs)))
          (λ later. among_later z (filter test xs) x (among_passing test xs x passes later)) (first_or_later z xs x at)
      | false ↦ λ t. ⊎_elim (λ same. absurd (true≢false (sym (sym t ∙ ap test same ∙ passes))))
          (λ later. among_passing test xs x passes later) (first_or_later z xs x at)
    ] refl

among_range : (n i : ℕ) → i < n → Contains (range_with_len 0 n) i
among_range n i lt = subst (Contains (range_with_len 0 n)) (get_or-range_with_len 0 n i 0 lt ∙ (omega arith))
    (Contains-get_or (range_with_len 0 n) i 0 (let len = length-range_with_len 0 n in omega (arith, len, lt)))

any_has : {X : Type 0} (test : X → Bool) (xs : List X) → list_any test xs ≡ true
    → (x : X) × Contains xs x × (test x ≡ true)
any_has test [] t = absurd (true≢false (sym t))
any_has test (x ∷ xs) t = either_case (test x) (list_any test xs) t (λ h. (x, among_first x xs, h))
    (λ h. let found = any_has test xs h in (found.0, among_later x xs found.0 found.1, found.2))

has_any : {X : Type 0} (test : X → Bool) (xs : List X) (x : X) → Contains xs x → test x ≡ true
    → list_any test xs ≡ true
has_any test [] x at t = absurd (none_at_all x at)
has_any test (z ∷ xs) x at t = ⊎_elim
    (λ same. or_left (test z) (list_any test xs) (ap test same ∙ t))
    (λ later. or_right (test z) (list_any test xs) (has_any test xs x later t))
    (first_or_later z xs x at)

-- ---- one archive

-- a cell of an archive is one of its entries
among_archive : (m : ArchiveCells) (p : CellSlot) (c : Contribution) → get m p ≡ Some c → Contains (entries m) (p, c)
among_archive m p c there = by (entries m) (sym (get-entries m p) ∙ there)
  where
    by : (es : List (CellSlot × Contribution)) → find cell_slot_cmp p es ≡ Some c → Contains es (p, c)
    by [] h = absurd cc
    by (e ∷ es) h = elim (eq_by_cmp cell_slot_cmp p e.0) as (λ b. eq_by_cmp cell_slot_cmp p e.0 ≡ b
        → cond b (Some e.1) (find cell_slot_cmp p es) ≡ Some c → Contains (e ∷ es) (p, c)) [
          | true ↦ λ t h.
              let name : p ≡ e.0 = same_from_tie cell_slot_cmp_total cell_slot_cmp-IsAntisymmetric p e.0 t in
              let cell : e.1 ≡ c = cc in
              subst (Contains (e ∷ es)) (λ i. (sym name i, cell i)) (among_first e es)
          | false ↦ λ t h. among_later e es (p, c) (by es h)
        ] refl h

is_among : (ps : List CellSlot) (p : CellSlot) → Contains ps p → is_in cell_slot_cmp ps p ≡ true
is_among [] p at = absurd (none_at_all p at)
is_among (q ∷ ps) p at = ⊎_elim
    (λ same. or_left (eq_by_cmp cell_slot_cmp p q) (is_in cell_slot_cmp ps p)
    (ap (eq_by_cmp cell_slot_cmp p) same ∙ tie_itself cell_slot_cmp_total cell_slot_cmp-IsAntisymmetric p))
    (λ later. or_right (eq_by_cmp cell_slot_cmp p q) (is_in cell_slot_cmp ps p) (is_among ps p later))
    (first_or_later q ps p at)

-- each entry is a cell of its archive
archive_there : (m : ArchiveCells) → All (λ e. get m e.0 ≡ Some e.1) (entries m)
archive_there m = subst (All (λ e. get m e.0 ≡ Some e.1))
    (sym (entries_by_keys cell_slot_cmp_total cell_slot_cmp-IsAntisymmetric m nothing))
    (All-map (λ e. get m e.0 ≡ Some e.1) (λ p. (p, unwrap_or (get m p) nothing)) (keys m)
    (All-weaker (Contains (keys m)) (λ p. get m p ≡ Some (unwrap_or (get m p) nothing))
    (λ p at. found (get m p) (sym (is_in-keys cell_slot_cmp_total cell_slot_cmp-IsAntisymmetric m p)
    ∙ is_among (keys m) p at)) (keys m) (All-contains_itself (keys m))))
  where
    nothing : Contribution
    nothing = of_one (slot_sample 0 0 (pos 0) (pos 0))

    found : (o : Option Contribution) → is_some o ≡ true → o ≡ Some (unwrap_or o nothing)
    found None e = absurd (true≢false (sym e))
    found (Some c) e = refl

-- ---- the same cells

module _ (s : Layout) (m : Cells) where
  -- what is listed of an archive of a series is within the ranges of the series
  listed_within : (series : List ChangedSeries) (own : ChangedSeries) (archive : ℕ) → Contains series own
      → All (Contains (changes_among s series (entries m))) (changes_in s m own archive)
  listed_within series own archive at =
      let held = archive_cells m own.key archive in
      let test : CellSlot × Contribution → Bool = λ e. is_slot_in_times s archive own.times e.0.slot in
      let kept = filter test (entries held) in
      let among = Contains (changes_among s series (entries m)) in
      All-map among (named_cell own.key archive) (map cell_of kept)
      (All-map (λ e. among (named_cell own.key archive e)) cell_of kept
      (All-weaker (Contains kept) (λ e. among (named_cell own.key archive (cell_of e))) (λ e is.
      one e (All-contains (λ x. test x ≡ true) kept e (filter_passes test (entries held)) is)
      (All-contains (λ x. get held x.0 ≡ Some x.1) kept e
      (All-filter test (λ x. get held x.0 ≡ Some x.1) (entries held) (archive_there held)) is))
      kept (All-contains_itself kept)))
    where
      one : (e : CellSlot × Contribution) → is_slot_in_times s archive own.times e.0.slot ≡ true
          → get (archive_cells m own.key archive) e.0 ≡ Some e.1
          → Contains (changes_among s series (entries m)) (named_cell own.key archive (cell_of e))
      one e passes there =
          let n = name_at own.key archive e.0 in
          let is : is_cell_in s own n ≡ true =
          and_from (pointwise nat_eq own.key own.key) (is_slot_in_times s archive own.times e.0.slot)
          ((bytes_decides own.key own.key).1 refl) passes in
          among_filter (λ x. is_within s series x.0) (entries m) (n, e.1)
          (has_any (λ x. is_cell_in s x n) series own at is)
          (among_entries m n e.1 (sym (get-archive_cells own.key archive m e.0) ∙ there))

  -- what is within them is listed of its archive
  within_listed : (own : ChangedSeries) (e : NamedCell) → get m e.0 ≡ Some e.1 → is_cell_in s own e.0 ≡ true
      → Contains (changes_in s m own e.0.archive) e
  within_listed own e there is =
      let key : e.0.key ≡ own.key = (bytes_decides e.0.key own.key).0
      (and_first (pointwise nat_eq e.0.key own.key) (is_slot_in_times s e.0.archive own.times e.0.slot) is) in
      let passes = and_second (pointwise nat_eq e.0.key own.key) (is_slot_in_times s e.0.archive own.times e.0.slot) is in
      let p = cell_slot_of e.0 in
      let held = archive_cells m own.key e.0.archive in
      let name : name_at own.key e.0.archive p ≡ e.0 =
      λ i. record { key = sym key i; archive = e.0.archive; slot = e.0.slot; origin = e.0.origin } in
      let cell : get held p ≡ Some e.1 = get-archive_cells own.key e.0.archive m p ∙ ap (get m) name ∙ there in
      let test : CellSlot × Contribution → Bool = λ x. is_slot_in_times s e.0.archive own.times x.0.slot in
      subst (Contains (changes_in s m own e.0.archive)) (λ i. (name i, e.1))
      (among_map (named_cell own.key e.0.archive) (map cell_of (filter test (entries held))) (cell_of (p, e.1))
      (among_map cell_of (filter test (entries held)) (p, e.1)
      (among_passing test (entries held) (p, e.1) passes (among_archive held p e.1 cell))))

pub listed_changes_are_the_same : ListedChangesAreTheSame
listed_changes_are_the_same s m series has = (
  All-weaker (Contains within) (Contains (changes_of_all s m series)) (λ e at.
      listed e (All-contains (λ x. is_within s series x.0 ≡ true) within e
      (filter_passes (λ x. is_within s series x.0) (entries m)) at)
      (All-contains (λ x. get m x.0 ≡ Some x.1) within e
      (All-filter (λ x. is_within s series x.0) (λ x. get m x.0 ≡ Some x.1) (entries m) (entries_there m)) at))
      within (All-contains_itself within),
  all_flat (Contains within) (changes_of s m) series (λ own at.
      all_flat (Contains within) (changes_in s m own) (range_with_len 0 (length s.archives)) (λ archive in_range.
      listed_within s m series own archive at)),
)
  where
    within : List NamedCell
    within = changes_among s series (entries m)

    listed : (e : NamedCell) → is_within s series e.0 ≡ true → get m e.0 ≡ Some e.1
        → Contains (changes_of_all s m series) e
    listed e is there =
        let found = any_has (λ own. is_cell_in s own e.0) series is in
        among_flat (changes_of s m) series found.0 e found.1
        (among_flat (changes_in s m found.0) (range_with_len 0 (length s.archives)) e.0.archive e
        (among_range (length s.archives) e.0.archive (has e.0 e.1 there))
        (within_listed s m found.0 e there found.2))

-- ---- what they make

pub listed_changes_make_the_cells : ListedChangesMakeTheCells
listed_changes_make_the_cells h ops series goes covered has =
    let s = h.schema in
    let now = (fold step h ops).cells in
    let update : Cells = retain_keys now (is_within s series) in
    let writes : List Write = record { cells = now; update = update } ∷ [] in
    let written : entries update ++ [] ≡ changes_among s series (entries now) =
    append-nil (entries update)
    ∙ entries-retain cell_name_cmp_total cell_name_cmp-IsAntisymmetric now (is_within s series) in
    let same = listed_changes_are_the_same s now series has in
    updates_make_the_last s h.cells writes (changes_of_all s now series) goes.layout goes.live
    (operations_only_add h ops goes, covered_cells_are_an_update h ops series goes covered, tt)
    (subst (All (Contains (changes_of_all s now series))) (sym written) same.0)
    (subst (λ es. All (Contains es) (changes_of_all s now series)) (sym written) same.1)

pub tracked_changes_make_the_cells : TrackedChangesMakeTheCells
tracked_changes_make_the_cells h ops keys c series goes tracked are has =
    listed_changes_make_the_cells h ops series goes (tracked_operations_are_covered keys c series h ops are tracked) has
