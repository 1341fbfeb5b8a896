-- A sample put into the archives of its key.
use Rattle.std.proofs.Common.{◌≡◌, ℕ, ℤ, ◌+◌, ◌≤◌, Bool, true, false, cond, List, [], ◌∷◌, map, length, slice_get, refl, sym, ap, ◌∙◌, subst, arith, true≢false, Option, Some, None, is_some, unwrap_or}
use Rattle.std.specs.Prelude.{IfSome}
use Rattle.std.specs.Global.{Vec}
use Rattle.std.specs.List.Sorted.{IsStrictlySortedBy}
use Rattle.std.specs.Map.{keys_of}
use Rattle.std.specs.BTreeMap.{is_at}
use Rattle.std.specs.Option.{option_map}
use Rattle.std.specs.List.{filter}
use Rattle.std.specs.Ordering.{int_eq}
use Rattle.std.specs.FinMap.{get, entries, empty, len-entries, len-empty, get-empty}
use Rattle.rr_text.specs.declared.limits.TheConstants.{MAX_NUMBER}
use Rattle.rr_schema.specs.Origin.{IsOrigin}
use Rattle.rr_schema.specs.Schema.{Layout, IsLayout}
use Rattle.rr_contrib.specs.Validity.{CanAdd}
use Rattle.rr_archive.specs.CellSlots.{CellSlot, cell_slot_cmp}
use Rattle.rr_archive.specs.Cells.{ArchiveCells, entry_of, row_of}
use Rattle.rr_replica.specs.declared.unkeyed_sample.UnkeyedSample.{UnkeyedSample}
use Rattle.rr_cells.specs.Cells.{Cells, name_at, archive_cells, row_at}
use Rattle.rr_contrib.specs.declared.contribution.Contribution.{Contribution}
use Rattle.rr_cells.specs.CellNames.{cell_name_cmp}
use Rattle.rr_cells.specs.Puts.{put_sample}
use Rattle.rr_text.specs.Bytes.{bytes_cmp}
use Rattle.rr_replica.specs.Series.{cells_of}
use Rattle.rr_replica.specs.Archives.{cell_slot_for, Each, AreSized, CanTake, AreSame, HavePut}
use Rattle.rr_cells.specs.ReplicaState.{IsReplicaState}
use Rattle.rr_replica.specs.InMemory.{AreAllSized, held_series, archives_of, keyed_sample, replica_state_in, IsReplicaInMemory}
use Rattle.rr_cells.proofs.PutLaws.{cells_few}
use Rattle.rr_cells.proofs.Local.{get-archive_cells}
use Rattle.rr_replica.proofs.Shown.{held_at, items_of, rows_shown, cells_same, cells_put, held_same, held_put}
use Rattle.rr_cells.proofs.CellByCell.{trimmed_none}
use Rattle.rr_cells.proofs.ReplicaStateLemmas.{IsTyped, holds_put, can_add}

module _ {X : Type 0} (cells : X → ArchiveCells) (limit : X → ℕ) (s : Layout) (key : List ℕ) (x : UnkeyedSample)
    (old : List (List ℕ × Vec X)) (kept : IsReplicaInMemory cells limit s x.origin x.number old)
    (known : x.number ≤ MAX_NUMBER) where
  abbrev all : Cells
  all = cells_of (held_series cells old)

  -- what the archives of the key hold before
  pub AreBefore : List X → Type 0
  AreBefore before = (i : ℕ) → archive_cells all key i ≡ held_at cells before i

  pub before_found : (was : Vec X) → Some was ≡ archives_of old key → (i : ℕ)
      → archive_cells all key i ≡ held_at cells was.items i
  before_found was found i = rows_shown cells old key i kept.ordered
      ∙ ap (λ o. held_at cells (items_of o) i) (sym found)

  pub before_fresh : (fresh : List X) → None ≡ archives_of old key → Each (λ _ a. cells a ≡ empty) fresh → (i : ℕ)
      → archive_cells all key i ≡ held_at cells fresh i
  before_fresh fresh none all_empty i = rows_shown cells old key i kept.ordered
      ∙ ap (λ o. held_at cells (items_of o) i) (sym none) ∙ sym (nothing (slice_get fresh i) refl)
    where
      nothing : (o : Option X) → slice_get fresh i ≡ o → unwrap_or (option_map cells o) empty ≡ empty
      nothing None e = refl
      nothing (Some a) e = all_empty i a e

  pub can_take : (before : List X) → ((i : ℕ) → archive_cells all key i ≡ held_at cells before i)
      → CanTake cells s x before
  can_take before at i a here =
      let p = cell_slot_for s x i in
      let is : get (cells a) p ≡ get all (name_at key i p) =
      sym (ap (λ o. get (unwrap_or (option_map cells o) empty) p) here) ∙ ap (λ r. get r p) (sym (at i))
      ∙ get-archive_cells key i all p in
      subst (λ o. IfSome o (CanAdd x.number)) (sym is)
      (can_add (replica_state_in cells s x.origin x.number old) kept.holds (keyed_sample key x) refl refl known
      (name_at key i p) refl)

  module _ (new : List (List ℕ × Vec X)) (now : Vec X)
      (sets : (q : List ℕ) → archives_of new q ≡ cond (is_at (bytes_cmp key) q) (Some now) (archives_of old q))
      (sorted : IsStrictlySortedBy bytes_cmp (keys_of new)) (before : List X)
      (at : (i : ℕ) → archive_cells all key i ≡ held_at cells before i) (size : AreSized limit s now.items) where
    sized_now : (q : List ℕ) (archives : Vec X) → archives_of new q ≡ Some archives → AreSized limit s archives.items
    sized_now q archives e = by_key (is_at (bytes_cmp key) q) (sym (sets q) ∙ e)
      where
        by_key : (b : Bool) → cond b (Some now) (archives_of old q) ≡ Some archives → AreSized limit s archives.items
        by_key true e = subst (λ (v : Vec X). AreSized limit s v.items) (ap (λ o. unwrap_or o now) e) size
        by_key false e = kept.sized q archives e

    pub cells_with : length before ≡ length s.archives → HavePut cells s x before now.items
        → cells_of (held_series cells new) ≡ put_sample s all (keyed_sample key x)
    cells_with many h = cells_put cells old new key now sets kept.ordered sorted s kept.holds.layout
        (keyed_sample key x) refl kept.holds.live (λ i. held_put cells s kept.holds.layout key x all before now.items i
        kept.holds.live many h at)

    pub kept_with : IsTyped (keyed_sample key x) → length before ≡ length s.archives
        → HavePut cells s x before now.items → IsReplicaInMemory cells limit s x.origin (x.number + 1) new
    kept_with typed many h = record {
      holds = subst (λ (m : Cells). IsReplicaState (record
          { schema = s; origin = x.origin; next = x.number + 1; cells = m })) (sym (cells_with many h))
          (holds_put (replica_state_in cells s x.origin x.number old) kept.holds (keyed_sample key x) refl refl known
          typed);
      sized = sized_now;
      ordered = sorted;
    }

    pub cells_without : AreSame cells before now.items → cells_of (held_series cells new) ≡ all
    cells_without same = cells_same cells old new key now sets kept.ordered sorted
        (λ i. held_same cells before now.items i same ∙ sym (at i))

    pub kept_without : AreSame cells before now.items → IsReplicaInMemory cells limit s x.origin x.number new
    kept_without same = record {
      holds = subst (λ (m : Cells). IsReplicaState (record
          { schema = s; origin = x.origin; next = x.number; cells = m })) (sym (cells_without same)) kept.holds;
      sized = sized_now;
      ordered = sorted;
    }

-- ---- the same cells

pub kept_same : {X : Type 0} (cells : X → ArchiveCells) (limit : X → ℕ) (s : Layout) (origin next : ℕ)
    (old new : List (List ℕ × Vec X)) → IsReplicaInMemory cells limit s origin next old
    → cells_of (held_series cells new) ≡ cells_of (held_series cells old) → AreAllSized limit s new
    → IsStrictlySortedBy bytes_cmp (keys_of new) → IsReplicaInMemory cells limit s origin next new
kept_same cells limit s origin next old new kept same sized ordered = record {
  holds = subst (λ (m : Cells). IsReplicaState (record { schema = s; origin = origin; next = next; cells = m }))
      (sym same) kept.holds;
  sized = sized;
  ordered = ordered;
}

-- ---- a replica that holds nothing

-- no key has archives
pub kept_none : {X : Type 0} (cells : X → ArchiveCells) (limit : X → ℕ) (s : Layout) (origin : ℕ)
    (entries : List (List ℕ × Vec X)) → IsLayout s → IsOrigin origin → entries ≡ []
    → IsReplicaInMemory cells limit s origin 1 entries
unfolding IsStrictlySortedBy cells_of
kept_none cells limit s origin entries is in_range none =
    subst (IsReplicaInMemory cells limit s origin 1) (sym none) (record {
      holds = record {
        layout = is;
        origin = in_range;
        next_at_least = omega arith;
        next_at_most = omega arith;
        live = trimmed_none s;
        cells = λ n c e. absurd (true≢false (sym (ap is_some (sym (get-empty cell_name_cmp n) ∙ e))));
        own = λ n c e. absurd (true≢false (sym (ap is_some (sym (get-empty cell_name_cmp n) ∙ e))));
        few = λ key archive origins has. cells_few s empty key archive origins is (trimmed_none s) has;
      };
      sized = λ key archives e. absurd (true≢false (sym (ap is_some e)));
      ordered = tt;
    })

pub cells_none : {X : Type 0} (cells : X → ArchiveCells) (entries : List (List ℕ × Vec X)) → entries ≡ []
    → cells_of (held_series cells entries) ≡ empty
unfolding cells_of
cells_none cells entries none = ap (λ es. cells_of (held_series cells es)) none

-- ---- samples without a key

-- a row of an archive of a key
pub row_found : {X : Type 0} (cells : X → ArchiveCells) (limit : X → ℕ) (s : Layout) (origin next : ℕ)
    (entries : List (List ℕ × Vec X)) (key : List ℕ) (i : ℕ) (slot : ℤ) (archives : Vec X) (a : X)
    → IsReplicaInMemory cells limit s origin next entries → Some archives ≡ archives_of entries key
    → slice_get archives.items i ≡ Some a → row_of (cells a) slot
    ≡ row_at (cells_of (held_series cells entries)) key i slot
row_found cells limit s origin next entries key i slot archives a kept found at =
    ap (λ r. row_of r slot) (sym (rows_shown cells entries key i kept.ordered
    ∙ ap (λ o. held_at cells (items_of o) i) (sym found) ∙ ap (λ o. unwrap_or (option_map cells o) empty) at))

pub row_of-empty : (slot : ℤ) → row_of empty slot ≡ []
unfolding row_of
row_of-empty slot = ap (λ es. map entry_of (filter (λ e. int_eq e.0.slot slot) es))
    (nothing_from_length (entries none) (sym (len-entries none) ∙ len-empty cell_slot_cmp Contribution))
  where
    none : ArchiveCells
    none = empty

    nothing_from_length : (es : List (CellSlot × Contribution)) → length es ≡ 0 → es ≡ []
    nothing_from_length [] e = refl
    nothing_from_length (x ∷ es) e = absurd (omega arith)

pub row_missing : {X : Type 0} (cells : X → ArchiveCells) (limit : X → ℕ) (s : Layout) (origin next : ℕ)
    (entries : List (List ℕ × Vec X)) (key : List ℕ) (i : ℕ) (slot : ℤ) (archives : Vec X)
    → IsReplicaInMemory cells limit s origin next entries → Some archives ≡ archives_of entries key
    → slice_get archives.items i ≡ None → [] ≡ row_at (cells_of (held_series cells entries)) key i slot
row_missing cells limit s origin next entries key i slot archives kept found at =
    sym (ap (λ r. row_of r slot) (rows_shown cells entries key i kept.ordered
    ∙ ap (λ o. held_at cells (items_of o) i) (sym found) ∙ ap (λ o. unwrap_or (option_map cells o) empty) at)
    ∙ row_of-empty slot)

pub row_unknown : {X : Type 0} (cells : X → ArchiveCells) (limit : X → ℕ) (s : Layout) (origin next : ℕ)
    (entries : List (List ℕ × Vec X)) (key : List ℕ) (i : ℕ) (slot : ℤ)
    → IsReplicaInMemory cells limit s origin next entries → None ≡ archives_of entries key
    → [] ≡ row_at (cells_of (held_series cells entries)) key i slot
row_unknown cells limit s origin next entries key i slot kept none =
    sym (ap (λ r. row_of r slot) (rows_shown cells entries key i kept.ordered
    ∙ ap (λ o. held_at cells (items_of o) i) (sym none)) ∙ row_of-empty slot)
