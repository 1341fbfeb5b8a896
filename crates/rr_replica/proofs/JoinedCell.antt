-- A cell joined into the archives of its key is joined into the map of all cells.
use Rattle.std.proofs.Common.{◌≡◌, ◌≢◌, ℕ, ◌+◌, ◌<◌, ◌≤◌, Bool, true, false, cond, ◌&&◌, List, length, slice_get, refl, sym, ap, ◌∙◌, subst, arith, true≢false, Option, Some, None, is_some, unwrap_or, ⊎_elim, ◌⊎◌, inl, inr}
use Rattle.std.specs.Prelude.{nat_eq, nat_le, ◌==◌}
use Rattle.std.specs.Global.{Vec}
use Rattle.std.specs.List.Sorted.{IsStrictlySortedBy}
use Rattle.std.specs.Map.{keys_of}
use Rattle.std.specs.BTreeMap.{is_at}
use Rattle.std.specs.Option.{option_map}
use Rattle.std.specs.Ordering.{is_lt, eq_by_cmp}
use Rattle.std.specs.Cmp.Lexicographic.{pointwise, bytes_decides, nat_list_cmp_total}
use Rattle.std.specs.FinMap.{get, empty, insert, keys, get-empty, get-insert, same_map}
use Rattle.std.proofs.lemmas.Bool.{cases_lt, eq-eqb, le-leb, leb-true, ne_eqb, and_left, and_right, false_from_ne_true}
use Rattle.std.proofs.lemmas.Bool.Decides.{eqb_tells}
use Rattle.std.proofs.lemmas.Option.{slice_get_past}
use Rattle.rr_text.specs.declared.limits.TheConstants.{MAX_NUMBER}
use Rattle.rr_schema.specs.Schema.{Layout, IsLayout, archive_at}
use Rattle.rr_join.specs.Maps.{greater}
use Rattle.rr_join.proofs.Joining.{get-joined}
use Rattle.rr_join.proofs.Greater.{greater-None}
use Rattle.rr_join.proofs.Members.{same_from_tie, tie_itself}
use Rattle.rr_contrib.specs.declared.contribution.Contribution.{Contribution}
use Rattle.rr_contrib.specs.Contributions.{contribution_cmp}
use Rattle.rr_contrib.specs.ContributionOrder.{contribution_cmp_total, contribution_cmp-IsAntisymmetric}
use Rattle.rr_archive.specs.CellSlots.{cell_slot_cmp, cell_slot}
use Rattle.rr_archive.specs.Cells.{ArchiveCells, join_archive_cells}
use Rattle.rr_archive.specs.Cells as held
use Rattle.rr_archive.proofs.CellSlotOrder.{cell_slot_cmp_total, cell_slot_cmp-IsAntisymmetric}
use Rattle.rr_cells.specs.CellNames.{CellName, cell_name_cmp, is_of, is_live}
use Rattle.rr_cells.proofs.Horizon.{live_horizon}
use Rattle.rr_cells.proofs.Orders.{cell_name_cmp_total, cell_name_cmp-IsAntisymmetric}
use Rattle.rr_cells.specs.declared.cell.Cell.{Cell}
use Rattle.rr_replica.specs.Archives.{Each, AreSized, AreSame, HaveJoined}
use Rattle.rr_cells.specs.CellBounds.{IsCellOf}
use Rattle.rr_cells.specs.Cells.{Cells, IsTrimmed, cell_slot_of, archive_cells}
use Rattle.rr_cells.specs.Joins.{join_cell}
use Rattle.rr_cells.specs.Joining.{next_after}
use Rattle.rr_cells.specs.ReplicaState.{IsReplicaState, ReplicaState}
use Rattle.rr_replica.specs.InMemory.{AreAllSized, IsReplicaInMemory, held_series, archives_of, replica_state_in}
use Rattle.rr_cells.specs.Listing.{owned_cell}
use Rattle.rr_text.specs.Bytes.{bytes_cmp}
use Rattle.rr_replica.specs.Series.{cells_of}
use Rattle.rr_cells.proofs.CellByCell.{join_nothing}
use Rattle.rr_replica.proofs.Each.{sized_at}
use Rattle.rr_cells.proofs.JoinLaws.{join_trims, join_goes_by_archives}
use Rattle.rr_cells.proofs.PutLaws.{cells_few}
use Rattle.rr_cells.proofs.Local.{get-archive_cells, insert_here, insert_elsewhere, same_cells}
use Rattle.rr_replica.proofs.SeriesLemmas.{bytes_cmp-IsAntisymmetric}
use Rattle.rr_replica.proofs.Shown.{there, held_at, items_of, rows_shown, at_key, at_other, same_key, cells_same, held_same}

no_rows : (key : List ℕ) (archive : ℕ) → archive_cells empty key archive ≡ empty
no_rows key archive = same_map cell_slot_cmp_total cell_slot_cmp-IsAntisymmetric _ _
    (λ p. get-archive_cells key archive empty p ∙ get-empty cell_name_cmp _ ∙ sym (get-empty cell_slot_cmp p))

-- ---- one archive of one key

module _ (s : Layout) (is : IsLayout s) (m : Cells) (n : CellName) (c : Contribution) where
  pub cell_here : archive_cells (join_cell s m n c) n.key n.archive
      ≡ held.join_cell (archive_at s n.archive).rows (archive_cells m n.key n.archive) (cell_slot_of n) c
  cell_here =
      join_goes_by_archives s m (insert empty n c) n.key n.archive is
      ∙ ap (join_archive_cells (archive_at s n.archive).rows (archive_cells m n.key n.archive))
      (insert_here n.key n.archive empty (cell_slot_of n) c
      ∙ ap (λ r. insert r (cell_slot_of n) c) (no_rows n.key n.archive))

  pub cell_elsewhere : (key : List ℕ) (archive : ℕ) → IsTrimmed s m → is_of key archive n ≡ false
      → archive_cells (join_cell s m n c) key archive ≡ archive_cells m key archive
  cell_elsewhere key archive kept apart =
      join_goes_by_archives s m (insert empty n c) key archive is
      ∙ ap (join_archive_cells (archive_at s archive).rows (archive_cells m key archive))
      (insert_elsewhere key archive empty n c apart)
      ∙ sym (join_goes_by_archives s m empty key archive is)
      ∙ ap (λ (x : Cells). archive_cells x key archive) (sym (join_nothing s m kept))

-- ---- the archives of the cell's key

module _ {X : Type 0} (cells : X → ArchiveCells) (limit : X → ℕ) (s : Layout) (is : IsLayout s) (c : Cell) (all : Cells)
    (kept : IsTrimmed s all) (old new : List X) (sized : AreSized limit s old) (h : HaveJoined cells limit c old new)
    (before : (i : ℕ) → archive_cells all c.key i ≡ held_at cells old i) where
  abbrev after : Cells
  after = join_cell s all (owned_cell c).0 c.contribution

  held_here : c.archive < length old → held_at cells new c.archive ≡ archive_cells after c.key c.archive
  held_here within =
      let a = there old c.archive within in
      let b = there new c.archive (let more = h.many in omega arith) in
      ap (λ o. unwrap_or (option_map cells o) empty) b.1 ∙ h.here a.0 b.0 a.1 b.1
      ∙ (λ k. held.join_cell (sized_at limit s old sized c.archive a.0 a.1 k)
      ((sym (ap (λ o. unwrap_or (option_map cells o) empty) a.1) ∙ sym (before c.archive)) k)
      (cell_slot c.slot c.origin) c.contribution)
      ∙ sym (cell_here s is all (owned_cell c).0 c.contribution)

  held_other : (i : ℕ) → i ≢ c.archive → held_at cells new i ≡ held_at cells old i
  held_other i apart = ⊎_elim
      (λ within.
      let a = there old i within in
      let b = there new i (let many = h.many in omega arith) in
      ap (λ o. unwrap_or (option_map cells o) empty) b.1 ∙ h.others i a.0 b.0 a.1 b.1 apart
      ∙ sym (ap (λ o. unwrap_or (option_map cells o) empty) a.1))
      (λ past. (λ j. unwrap_or (option_map cells (slice_get_past new i (let many = h.many in omega arith) j)) empty)
      ∙ sym (λ j. unwrap_or (option_map cells (slice_get_past old i past j)) empty))
      (cases_lt i (length old))

  pub held_joined : c.archive < length old → (i : ℕ) → held_at cells new i ≡ archive_cells after c.key i
  held_joined within i = ⊎_elim
      (λ e. subst (λ j. held_at cells new j ≡ archive_cells after c.key j) (sym e.1) (held_here within))
      (λ e. held_other i e.1 ∙ sym (before i)
      ∙ sym (cell_elsewhere s is all (owned_cell c).0 c.contribution c.key i kept
      (and_right (pointwise nat_eq c.key c.key) (c.archive == i) (ne_eqb c.archive i (λ f. e.1 (sym f))))))
      (eqb_tells i c.archive)

-- ---- all archives

module _ {X : Type 0} (cells : X → ArchiveCells) (limit : X → ℕ) (s : Layout) (is : IsLayout s) (c : Cell)
    (old new : List (List ℕ × Vec X)) (now : Vec X)
    (sets : (q : List ℕ) → archives_of new q ≡ cond (is_at (bytes_cmp c.key) q) (Some now) (archives_of old q))
    (ordered : IsStrictlySortedBy bytes_cmp (keys_of old)) (sorted : IsStrictlySortedBy bytes_cmp (keys_of new))
    (kept : IsTrimmed s (cells_of (held_series cells old))) where
  pub cells_joined : (before : List X) → AreSized limit s before
      → ((i : ℕ) → archive_cells (cells_of (held_series cells old)) c.key i ≡ held_at cells before i)
      → c.archive < length before → HaveJoined cells limit c before now.items
      → cells_of (held_series cells new) ≡ join_cell s (cells_of (held_series cells old)) (owned_cell c).0
      c.contribution
  cells_joined before sized at within h = same_cells _ _ (λ q i.
      elim (is_at (bytes_cmp c.key) q) as (λ b. is_at (bytes_cmp c.key) q ≡ b
      → archive_cells (cells_of (held_series cells new)) q i
      ≡ archive_cells (join_cell s (cells_of (held_series cells old)) (owned_cell c).0 c.contribution) q i) [
        | true ↦ λ t. subst (λ k. archive_cells (cells_of (held_series cells new)) k i
            ≡ archive_cells (join_cell s (cells_of (held_series cells old)) (owned_cell c).0 c.contribution) k i)
            (same_key cells old new c.key now sets ordered sorted q t)
            (at_key cells old new c.key now sets ordered sorted i
            ∙ held_joined cells limit s is c (cells_of (held_series cells old)) kept before now.items sized h at
            within i)
        | false ↦ λ t. at_other cells old new c.key now sets ordered sorted q i t
            ∙ sym (cell_elsewhere s is (cells_of (held_series cells old)) (owned_cell c).0 c.contribution q i kept
            (other_key q i t))
      ] refl)
    where
      other_key : (q : List ℕ) (i : ℕ) → is_at (bytes_cmp c.key) q ≡ false → is_of q i (owned_cell c).0 ≡ false
      other_key q i t = and_left (pointwise nat_eq c.key q) (c.archive == i)
          (false_from_ne_true (pointwise nat_eq c.key q)
          (λ e. true≢false (sym (ap (is_at (bytes_cmp c.key)) (sym ((bytes_decides c.key q).0 e))
          ∙ tie_itself nat_list_cmp_total bytes_cmp-IsAntisymmetric c.key) ∙ t)))

  pub cells_unchanged : (before : List X) → ((i : ℕ)
      → archive_cells (cells_of (held_series cells old)) c.key i ≡ held_at cells before i)
      → AreSame cells before now.items → cells_of (held_series cells new) ≡ cells_of (held_series cells old)
  cells_unchanged before at same = cells_same cells old new c.key now sets ordered sorted
      (λ i. held_same cells before now.items i same ∙ sym (at i))

-- ---- what the archives of a key hold before

module _ {X : Type 0} (cells : X → ArchiveCells) (key : List ℕ) (old : List (List ℕ × Vec X))
    (ordered : IsStrictlySortedBy bytes_cmp (keys_of old)) where
  pub before_found : (was : Vec X) → Some was ≡ archives_of old key → (i : ℕ)
      → archive_cells (cells_of (held_series cells old)) key i ≡ held_at cells was.items i
  before_found was found i = rows_shown cells old key i ordered ∙ ap (λ o. held_at cells (items_of o) i) (sym found)

  pub before_fresh : (fresh : List X) → None ≡ archives_of old key → Each (λ _ a. cells a ≡ empty) fresh → (i : ℕ)
      → archive_cells (cells_of (held_series cells old)) key i ≡ held_at cells fresh i
  before_fresh fresh none all_empty i = rows_shown cells old key i ordered
      ∙ ap (λ o. held_at cells (items_of o) i) (sym none) ∙ sym (nothing (slice_get fresh i) refl)
    where
      nothing : (o : Option X) → slice_get fresh i ≡ o → unwrap_or (option_map cells o) empty ≡ empty
      nothing None e = refl
      nothing (Some a) e = all_empty i a e

-- ---- what a replica keeps to

join_cases : (s : Layout) → IsLayout s → (m : Cells) (n : CellName) (c : Contribution) (q : CellName) (d : Contribution)
    → get (join_cell s m n c) q ≡ Some d → (get m q ≡ Some d) ⊎ ((q ≡ n) × (c ≡ d))
join_cases s is m n c q d e = by_live (is_live s (keys m) q && is_live s (keys one) q)
    (sym (get-joined cell_name_cmp_total cell_name_cmp-IsAntisymmetric contribution_cmp_total
    contribution_cmp-IsAntisymmetric (live_horizon s is) m one q) ∙ e)
  where
    one : Cells
    one = insert empty n c

    of_the_two : (x : Option Contribution) → greater contribution_cmp x (Some c) ≡ Some d → (x ≡ Some d) ⊎ (c ≡ d)
    of_the_two None e = inr (ap (λ o. unwrap_or o c) e)
    of_the_two (Some a) e = by_order (is_lt (contribution_cmp c a)) e
      where
        by_order : (b : Bool) → Some (cond b a c) ≡ Some d → (Some a ≡ Some d) ⊎ (c ≡ d)
        by_order true e = inl e
        by_order false e = inr (ap (λ o. unwrap_or o c) e)

    of_either : (x : Option Contribution) (b : Bool) → eq_by_cmp cell_name_cmp q n ≡ b
        → greater contribution_cmp x (cond b (Some c) None) ≡ Some d → (x ≡ Some d) ⊎ ((q ≡ n) × (c ≡ d))
    of_either x true t e = ⊎_elim (λ h. inl h) (λ h. inr
        (same_from_tie cell_name_cmp_total cell_name_cmp-IsAntisymmetric q n t, h)) (of_the_two x e)
    of_either x false t e = inl (sym (greater-None contribution_cmp x) ∙ e)

    by_live : (b : Bool) → cond b (greater contribution_cmp (get m q) (get one q)) None ≡ Some d
        → (get m q ≡ Some d) ⊎ ((q ≡ n) × (c ≡ d))
    by_live true e = of_either (get m q) (eq_by_cmp cell_name_cmp q n) refl
        (ap (greater contribution_cmp (get m q)) (sym
        (get-insert cell_name_cmp_total empty n c q ∙ ap (cond (eq_by_cmp cell_name_cmp q n) (Some c))
        (get-empty cell_name_cmp q))) ∙ e)
    by_live false e = absurd (true≢false (sym (ap is_some e)))

module _ (h : ReplicaState) (holds : IsReplicaState h) (c : Cell) (cell : IsCellOf h.schema (owned_cell c)) where
  abbrev next : ℕ
  next = next_after h.origin h.next (owned_cell c)

  next_is : (a b : Bool) → (c.origin == h.origin) ≡ a → nat_le h.next c.contribution.version ≡ b
      → (h.next ≤ cond (a && b) (c.contribution.version + 1) h.next)
      × (cond (a && b) (c.contribution.version + 1) h.next ≤ MAX_NUMBER + 1)
  next_is true true e f = (
    let past = leb-true h.next c.contribution.version f in omega arith,
    let known =
        cell.valid.numbered in omega arith,
  )
  next_is true false e f = (omega arith, holds.next_at_most)
  next_is false b e f = (omega arith, holds.next_at_most)

  own_is : (a b : Bool) → (c.origin == h.origin) ≡ a → nat_le h.next c.contribution.version ≡ b → c.origin ≡ h.origin
      → c.contribution.version < cond (a && b) (c.contribution.version + 1) h.next
  own_is true true e f same = omega arith
  own_is true false e f same = ⊎_elim (λ below. below)
      (λ past. absurd (true≢false (sym (le-leb h.next c.contribution.version past) ∙ f)))
      (cases_lt c.contribution.version h.next)
  own_is false b e f same = absurd (true≢false (sym (eq-eqb c.origin h.origin same) ∙ e))

  pub holds_joined : IsReplicaState (record {
    schema = h.schema;
    origin = h.origin;
    next = next;
    cells =
        join_cell h.schema h.cells (owned_cell c).0 c.contribution;
  })
  holds_joined =
      let bounds = next_is (c.origin == h.origin) (nat_le h.next c.contribution.version) refl refl in
      let live = join_trims h.schema h.cells (insert empty (owned_cell c).0 c.contribution) holds.layout in
      let cells : (n : CellName) (d : Contribution)
      → get (join_cell h.schema h.cells (owned_cell c).0 c.contribution) n ≡ Some d
      → IsCellOf h.schema (n, d) = λ n d e. ⊎_elim
      (λ was. holds.cells n d was)
      (λ new. subst (λ (m : CellName). IsCellOf h.schema (m, d)) (sym new.0)
      (subst (λ f. IsCellOf h.schema ((owned_cell c).0, f)) new.1 cell))
      (join_cases h.schema holds.layout h.cells (owned_cell c).0 c.contribution n d e) in
      record {
        layout = holds.layout;
        origin = holds.origin;
        next_at_least = (let least = holds.next_at_least in let more = bounds.0 in omega arith);
        next_at_most = bounds.1;
        live = live;
        cells = cells;
        own = λ n d e at. ⊎_elim
            (λ was. let below = holds.own n d was at in let more = bounds.0 in omega arith)
            (λ new. subst (λ (x : Contribution). x.version < next) new.1
            (own_is (c.origin == h.origin) (nat_le h.next c.contribution.version) refl refl
            (sym (ap (λ (m : CellName). m.origin) new.0) ∙ at)))
            (join_cases h.schema holds.layout h.cells (owned_cell c).0 c.contribution n d e);
        few = λ key archive origins has. cells_few h.schema (join_cell h.schema h.cells (owned_cell c).0 c.contribution)
            key archive origins holds.layout live has;
      }

-- with a cell joined in a replica keeps to the same
pub kept_joined : {X : Type 0} (cells : X → ArchiveCells) (limit : X → ℕ) (s : Layout) (origin next : ℕ) (c : Cell)
    (old new : List (List ℕ × Vec X)) → IsReplicaInMemory cells limit s origin next old → IsCellOf s (owned_cell c)
    → cells_of (held_series cells new) ≡ join_cell s (cells_of (held_series cells old)) (owned_cell c).0 c.contribution
    → AreAllSized limit s new → IsStrictlySortedBy bytes_cmp (keys_of new)
    → IsReplicaInMemory cells limit s origin (next_after origin next (owned_cell c)) new
kept_joined cells limit s origin next c old new kept cell joined sized ordered = record {
  holds = subst (λ (m : Cells). IsReplicaState (record
      { schema = s; origin = origin; next = next_after origin next (owned_cell c); cells = m })) (sym joined)
      (holds_joined (replica_state_in cells s origin next old) kept.holds c cell);
  sized = sized;
  ordered = ordered;
}
