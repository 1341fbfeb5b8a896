-- The cells of a row of what is known: their names, and the live marks of each.
use Rattle.std.proofs.Common.{◌≡◌, ℕ, ℤ, Bool, true, ◌||◌, List, [], ◌∷◌, map, refl, sym, ap, ◌∙◌, subst, is_some}
use Rattle.std.specs.List.{filter, list_any}
use Rattle.std.specs.Option.{unwrap_or}
use Rattle.std.specs.Ordering.{eq_by_cmp, int_eq}
use Rattle.std.specs.FinMap.{get, keys}
use Rattle.std.proofs.lemmas.Bool.{and_from}
use Rattle.rr_schema.specs.Schema.{Layout}
use Rattle.rr_join.proofs.Booleans.{same_test, and_first, and_second}
use Rattle.rr_join.proofs.Distinct.{IsDistinct, keys_distinct, filter_distinct}
use Rattle.rr_join.proofs.Distinct.IsDistinct.{none, more}
use Rattle.rr_join.proofs.Keys.{keys-retain}
use Rattle.rr_join.proofs.Lookups.{is_in-keys}
use Rattle.rr_join.proofs.Members.{is_in, is_in-filter, found_of, same_from_tie}
use Rattle.rr_contrib.specs.Samples.{summary}
use Rattle.rr_archive.specs.declared.entry.Entry.{Entry}
use Rattle.rr_archive.specs.Cells.{ArchiveCells}
use Rattle.rr_archive.specs.CellSlots.{CellSlot, cell_slot_cmp}
use Rattle.rr_archive.proofs.CellSlotOrder.{cell_slot_cmp_total, cell_slot_cmp-IsAntisymmetric}
use Rattle.rr_cells.specs.CellNames.{CellName, cell_name_cmp, is_of}
use Rattle.rr_cells.specs.Samples.{Mark, mark_cmp, name_of}
use Rattle.rr_cells.specs.Knowledge.{Knowledge, live, cell}
use Rattle.rr_cells.specs.Rows.{is_at, marks_of_row}
use Rattle.rr_cells.proofs.Orders.{cell_name_cmp_total, cell_name_cmp-IsAntisymmetric, mark_cmp_total, mark_cmp-IsAntisymmetric}
use Rattle.rr_cells.specs.Cells.{name_at, cell_slot_of, archive_cells, row_at}
use Rattle.rr_cells.specs.Puts.{slot_sample_of}
use Rattle.rr_cells.specs.State.{value_of, cells_of_knowledge}
use Rattle.rr_cells.proofs.Local.{get-archive_cells, is_of_itself, named_place, cell_slots_tie}
use Rattle.rr_cells.proofs.States.{get-state, tie_of, valued}
use Rattle.rr_fetch.proofs.Gathering.{filter_agree_at}
use Rattle.rr_fetch.proofs.RowEntries.{map-map, places_of, row_by_places, found_at}
use Rattle.rr_fetch.proofs.SeenMarks.{or_summary}

pub any-map : {A B : Type 0} (p : B → Bool) (f : A → B) (xs : List A)
    → list_any p (map f xs) ≡ list_any (λ x. p (f x)) xs
any-map p f [] = refl
any-map p f (x ∷ xs) = ap (λ b. p (f x) || b) (any-map p f xs)

-- ---- cell slots of an archive as names

module _ (key : List ℕ) (archive : ℕ) where
  -- a cell slot is among others as its name is among theirs
  is_in-names : (ps : List CellSlot) (p : CellSlot)
      → is_in cell_name_cmp (map (name_at key archive) ps) (name_at key archive p) ≡ is_in cell_slot_cmp ps p
  is_in-names [] p = refl
  is_in-names (q ∷ ps) p = λ i. cell_slots_tie key archive p q i || is_in-names ps p i

  names_distinct : (ps : List CellSlot) → IsDistinct cell_slot_cmp ps
      → IsDistinct cell_name_cmp (map (name_at key archive) ps)
  names_distinct [] d = none
  names_distinct (p ∷ ps) (more apart d) = more (is_in-names ps p ∙ apart) (names_distinct ps d)

-- ---- the row

module _ (s : Layout) (k : Knowledge) (key : List ℕ) (archive : ℕ) (slot : ℤ) where
  -- whether a cell is of the row
  abbrev here : CellName → Bool
  here n = is_at key archive slot n

  abbrev rows : ArchiveCells
  rows = archive_cells (cells_of_knowledge s k) key archive

  -- the names of its cells
  pub row_names : List CellName
  row_names = map (name_at key archive) (places_of (archive_cells (cells_of_knowledge s k) key archive) slot)

  -- the live marks of a name
  abbrev pub of_name : CellName → List Mark
  of_name n = filter (λ m. eq_by_cmp cell_name_cmp (name_of s m) n) (keys (live s k))

  -- and what they contribute
  abbrev pub entry : CellName → Entry
  entry n = record { origin = n.origin; contribution = summary (map (slot_sample_of s) (of_name n)) }

  value_is : (p : CellSlot) → get rows p ≡ value_of s (of_name (name_at key archive p))
  unfolding cell
  value_is p =
      get-archive_cells key archive (cells_of_knowledge s k) p ∙ get-state s k (name_at key archive p)
      ∙ ap (value_of s) (keys-retain mark_cmp_total mark_cmp-IsAntisymmetric (live s k)
      (λ m. eq_by_cmp cell_name_cmp (name_of s m) (name_at key archive p)))

  pub entries_are : row_at (cells_of_knowledge s k) key archive slot ≡ map entry row_names
  unfolding row_names
  entries_are =
      row_by_places rows slot (summary [])
      ∙ (λ i. map (λ p. record {
        origin = p.origin;
        contribution =
            (ap (λ v. unwrap_or v (summary [])) (value_is p) ∙ or_summary s (of_name (name_at key archive p))) i;
      })
      (places_of rows slot))
      ∙ sym (map-map entry (name_at key archive) (places_of rows slot))

  pub names_apart : IsDistinct cell_name_cmp row_names
  unfolding row_names
  names_apart = names_distinct key archive (places_of rows slot)
      (filter_distinct cell_slot_cmp (λ p. int_eq p.slot slot) (keys rows) (keys_distinct rows))

  -- each name is of the row, and has a live mark
  pub in_row_names : (n : CellName) → is_in cell_name_cmp row_names n ≡ true
      → (is_at key archive slot n ≡ true) × (is_some (value_of s (of_name n)) ≡ true)
  unfolding row_names
  in_row_names n e =
      let f = found_of cell_slot_cmp_total cell_slot_cmp-IsAntisymmetric
      (λ p. eq_by_cmp cell_name_cmp n (name_at key archive p)) (places_of rows slot)
      (sym (any-map (eq_by_cmp cell_name_cmp n) (name_at key archive) (places_of rows slot)) ∙ e) in
      let is : n ≡ name_at key archive f.item = same_from_tie cell_name_cmp_total cell_name_cmp-IsAntisymmetric n
      (name_at key archive f.item) f.passes in
      let at_slot = and_first (int_eq f.item.slot slot) (is_in cell_slot_cmp (keys rows) f.item)
      (sym (is_in-filter cell_slot_cmp_total cell_slot_cmp-IsAntisymmetric (λ q. int_eq q.slot slot) (keys rows)
      f.item) ∙ f.known) in (
        subst (λ q. is_at key archive slot q ≡ true) (sym is)
            (and_from (is_of key archive (name_at key archive f.item)) (int_eq f.item.slot slot)
            (is_of_itself key archive f.item) at_slot),
        subst (λ q. is_some (value_of s (of_name q)) ≡ true) (sym is)
            (ap is_some (sym (value_is f.item) ∙ found_at rows slot (summary []) f.item f.known)),
      )

  -- and each such name is one of them
  row_names_in : (n : CellName) → is_at key archive slot n ≡ true → is_some (value_of s (of_name n)) ≡ true
      → is_in cell_name_cmp row_names n ≡ true
  unfolding row_names
  row_names_in n at some =
      let is : name_at key archive (cell_slot_of n) ≡ n =
      named_place key archive n (and_first (is_of key archive n) (int_eq n.slot slot) at) in
      subst (λ q. is_in cell_name_cmp (map (name_at key archive) (places_of rows slot)) q ≡ true) is
      (is_in-names key archive (places_of rows slot) (cell_slot_of n)
      ∙ is_in-filter cell_slot_cmp_total cell_slot_cmp-IsAntisymmetric (λ q. int_eq q.slot slot) (keys rows)
      (cell_slot_of n)
      ∙ and_from (int_eq n.slot slot) (is_in cell_slot_cmp (keys rows) (cell_slot_of n))
      (and_second (is_of key archive n) (int_eq n.slot slot) at)
      (is_in-keys cell_slot_cmp_total cell_slot_cmp-IsAntisymmetric rows (cell_slot_of n)
      ∙ ap is_some (value_is (cell_slot_of n) ∙ ap (λ q. value_of s (of_name q)) is) ∙ some))

  -- the live marks of these names are the row's
  pub all_named : filter (λ m. is_in cell_name_cmp row_names (name_of s m)) (keys (live s k))
      ≡ marks_of_row s k key archive slot
  unfolding marks_of_row
  all_named = filter_agree_at mark_cmp_total mark_cmp-IsAntisymmetric (λ m. is_in cell_name_cmp row_names (name_of s m))
      (λ m. is_at key archive slot (name_of s m)) (keys (live s k)) (λ m e.
      same_test (is_in cell_name_cmp row_names (name_of s m)) (is_at key archive slot (name_of s m))
      (λ there. (in_row_names (name_of s m) there).0)
      (λ at. row_names_in (name_of s m) at (valued s (of_name (name_of s m)) m
      (is_in-filter mark_cmp_total mark_cmp-IsAntisymmetric (λ x. eq_by_cmp cell_name_cmp (name_of s x) (name_of s m))
      (keys (live s k)) m
      ∙ and_from (eq_by_cmp cell_name_cmp (name_of s m) (name_of s m)) (is_in mark_cmp (keys (live s k)) m)
      (tie_of (name_of s m) (name_of s m) refl) e))))

  -- the name of a mark of a cell is the name of the cell
  pub of_name-named : (n : CellName) (m : Mark) → is_in mark_cmp (of_name n) m ≡ true → name_of s m ≡ n
  of_name-named n m e =
      same_from_tie cell_name_cmp_total cell_name_cmp-IsAntisymmetric (name_of s m) n
      (and_first (eq_by_cmp cell_name_cmp (name_of s m) n) (is_in mark_cmp (keys (live s k)) m)
      (sym (is_in-filter mark_cmp_total mark_cmp-IsAntisymmetric (λ x. eq_by_cmp cell_name_cmp (name_of s x) n)
      (keys (live s k)) m) ∙ e))
