-- Cells under the schema with one archive more, trimmed and joined.
use Rattle.std.proofs.Common.{◌≡◌, ℕ, ◌<◌, ◌^◌, true, false, cond, List, [], ◌∷◌, map, length, refl, sym, ap, ◌∙◌, subst, None, Some}
use Rattle.std.specs.Prelude.{◌==◌}
use Rattle.std.specs.Int.{bit_at}
use Rattle.std.specs.Ordering.{eq_by_cmp, is_eq}
use Rattle.std.specs.FinMap.{get, keys, empty, insert, retain_keys, same_map, get-insert, get-empty, is_sorted}
use Rattle.std.proofs.lemmas.Bool.{eqb-true}
use Rattle.rr_schema.specs.declared.archive.ArchiveSpec.{ArchiveSpec}
use Rattle.rr_schema.specs.Schema.{Layout}
use Rattle.rr_join.specs.Maps.{greater, trimmed, merged, joined}
use Rattle.rr_join.proofs.Lookups.{get-merged}
use Rattle.rr_join.proofs.Members.{same_from_tie}
use Rattle.rr_contrib.specs.declared.contribution.Contribution.{Contribution}
use Rattle.rr_contrib.specs.Contributions.{contribution_cmp}
use Rattle.rr_cells.specs.CellNames.{CellName, cell_name_cmp, is_live}
use Rattle.rr_cells.proofs.Orders.{cell_name_cmp_total, cell_name_cmp-IsAntisymmetric}
use Rattle.rr_cells.specs.CellBounds.{NamedCell, IsCellOf}
use Rattle.rr_cells.specs.Cells.{Cells}
use Rattle.rr_cells.specs.Joins.{join, join_cell, join_cells}
use Rattle.rr_cells.specs.RaisingLaws.{RaisedIsCell, TrimmedIsRaised, JoinIsRaised, JoinCellsIsRaised, OrderIsKept}
use Rattle.rr_schema.specs.declared.added.Addition.TheVariants.{Nothing, Archive}
use Rattle.rr_schema.specs.Added.{HasAdded, older}
use Rattle.rr_cells.specs.Raising.{raised_name, raised_cell, raised_cells}
use Rattle.rr_cells.proofs.Renaming as renaming
use Rattle.rr_cells.proofs.Numbers.{not_added, lowered, raised-lowered, archive_is_same, slot_is_same, place_is_same, raised_name_cmp}
use Rattle.rr_cells.proofs.Raised.{raised_below, not_equal, live_kept, was_added, same_cells}

keys-raised_cells : (i : ℕ) (m : Cells) → keys (raised_cells (Archive i) m) ≡ map (raised_name (Archive i)) (keys m)
keys-raised_cells i m = renaming.keys-renamed cell_name_cmp_total cell_name_cmp-IsAntisymmetric
    (raised_name (Archive i)) (raised_name_cmp i) m

get-raised_cells : (i : ℕ) (m : Cells) (n : CellName)
    → get (raised_cells (Archive i) m) (raised_name (Archive i) n) ≡ get m n
get-raised_cells i m n = renaming.get-renamed cell_name_cmp_total cell_name_cmp-IsAntisymmetric
    (raised_name (Archive i)) (raised_name_cmp i) m n

-- no raised name is in the archive that was added
pub no_tie : (i : ℕ) (n : CellName) → n.archive ≡ i → (x : CellName)
    → eq_by_cmp cell_name_cmp n (raised_name (Archive i) x) ≡ false
no_tie i n e x = elim (eq_by_cmp cell_name_cmp n (raised_name (Archive i) x)) as
    (λ b. eq_by_cmp cell_name_cmp n (raised_name (Archive i) x) ≡ b → b ≡ false) [
      | true ↦ λ h. absurd (not_added i x.archive (sym
          (ap (λ (y : CellName). y.archive) (same_from_tie cell_name_cmp_total cell_name_cmp-IsAntisymmetric n
          (raised_name (Archive i) x) h)) ∙ e))
      | false ↦ λ _. refl
    ] refl

get-added : (i : ℕ) (m : Cells) (n : CellName) → n.archive ≡ i → get (raised_cells (Archive i) m) n ≡ None
get-added i m n e = renaming.get-other cell_name_cmp_total cell_name_cmp-IsAntisymmetric (raised_name (Archive i))
    (raised_name_cmp i) m n (no_tie i n e)

-- two maps are the same where they have the same at all raised names, and at those of the archive that was added
same_by_raised : (i : ℕ) (m n : Cells) → ((q : CellName)
    → get m (raised_name (Archive i) q) ≡ get n (raised_name (Archive i) q))
    → ((q : CellName) → q.archive ≡ i → get m q ≡ get n q) → m ≡ n
same_by_raised i m n there added = same_map cell_name_cmp_total cell_name_cmp-IsAntisymmetric m n (λ q.
    elim (q.archive == i) as (λ b. (q.archive == i) ≡ b → get m q ≡ get n q) [
      | true ↦ λ e. added q (eqb-true q.archive i e)
      | false ↦ λ e.
          let low : CellName = record { key = q.key; archive = lowered i q.archive; slot = q.slot; origin = q.origin }
          in
          let back : raised_name (Archive i) low ≡ q =
          λ j. record {
            key = q.key;
            archive = raised-lowered i q.archive (λ h. not_equal q.archive i e h) j;
            slot =
                q.slot;
            origin = q.origin;
          } in
          subst (λ (x : CellName). get m x ≡ get n x) back (there low)
    ] refl)

merged_is_raised : (i : ℕ) (m n : Cells) → merged contribution_cmp (raised_cells (Archive i) m)
    (raised_cells (Archive i) n) ≡ raised_cells (Archive i) (merged contribution_cmp m n)
merged_is_raised i m n = same_by_raised i (merged contribution_cmp (raised_cells (Archive i) m)
    (raised_cells (Archive i) n)) (raised_cells (Archive i) (merged contribution_cmp m n))
    (λ q. get-merged cell_name_cmp_total cell_name_cmp-IsAntisymmetric contribution_cmp (raised_cells (Archive i) m)
    (raised_cells (Archive i) n) (raised_name (Archive i) q)
    ∙ (λ j. greater contribution_cmp (get-raised_cells i m q j) (get-raised_cells i n q j))
    ∙ sym (get-raised_cells i (merged contribution_cmp m n) q
    ∙ get-merged cell_name_cmp_total cell_name_cmp-IsAntisymmetric contribution_cmp m n q))
    (λ q e. get-merged cell_name_cmp_total cell_name_cmp-IsAntisymmetric contribution_cmp (raised_cells (Archive i) m)
    (raised_cells (Archive i) n) q
    ∙ (λ j. greater contribution_cmp (get-added i m q e j) (get-added i n q e j))
    ∙ sym (get-added i (merged contribution_cmp m n) q e))

one_is_raised : (i : ℕ) (n : CellName) (c : Contribution)
    → insert empty (raised_name (Archive i) n) c ≡ raised_cells (Archive i) (insert empty n c)
one_is_raised i n c = same_by_raised i (insert empty (raised_name (Archive i) n) c)
    (raised_cells (Archive i) (insert empty n c))
    (λ q. get-insert cell_name_cmp_total empty (raised_name (Archive i) n) c (raised_name (Archive i) q)
    ∙ (λ j. cond (is_eq (raised_name_cmp i q n j)) (Some c) (get-empty cell_name_cmp (raised_name (Archive i) q) j))
    ∙ sym (get-raised_cells i (insert empty n c) q ∙ get-insert cell_name_cmp_total empty n c q
    ∙ ap (cond (eq_by_cmp cell_name_cmp q n) (Some c)) (get-empty cell_name_cmp q)))
    (λ q e. get-insert cell_name_cmp_total empty (raised_name (Archive i) n) c q
    ∙ (λ j. cond (no_tie i q e n j) (Some c) (get-empty cell_name_cmp q j))
    ∙ sym (get-added i (insert empty n c) q e))

module _ (i : ℕ) (s t : Layout) (added : HasAdded i s t) where
  trim_raised : (m : Cells) → trimmed (is_live s) (raised_cells (Archive i) m)
      ≡ raised_cells (Archive i) (trimmed (is_live t) m)
  unfolding trimmed
  trim_raised m =
      ap (λ ks. retain_keys (raised_cells (Archive i) m) (is_live s ks)) (keys-raised_cells i m)
      ∙ renaming.retain-renamed cell_name_cmp_total cell_name_cmp-IsAntisymmetric (raised_name (Archive i))
      (raised_name_cmp i) m (is_live s (map (raised_name (Archive i)) (keys m)))
      ∙ (λ j. raised_cells (Archive i) (retain_keys m (λ n. live_kept i s t added (keys m) n j)))

  join_raised : (m n : Cells) → join s (raised_cells (Archive i) m) (raised_cells (Archive i) n)
      ≡ raised_cells (Archive i) (join t m n)
  unfolding joined
  join_raised m n = ap (trimmed (is_live s)) (merged_is_raised i m n) ∙ trim_raised (merged contribution_cmp m n)

  join_cells_raised : (m : Cells) (es : List NamedCell)
      → join_cells s (raised_cells (Archive i) m) (map (raised_cell (Archive i)) es)
      ≡ raised_cells (Archive i) (join_cells t m es)
  join_cells_raised m [] = refl
  join_cells_raised m (e ∷ es) =
      ap (λ x. join_cells s x (map (raised_cell (Archive i)) es))
      (ap (join s (raised_cells (Archive i) m)) (one_is_raised i e.0 e.1) ∙ join_raised m (insert empty e.0 e.1))
      ∙ join_cells_raised (join_cell t m e.0 e.1) es

  cell_raised : (e : NamedCell) → IsCellOf t e → IsCellOf s (raised_cell (Archive i) e)
  cell_raised e is =
      let valid = is.valid in
      let a = e.0.archive in record {
        key = is.key;
        archive = raised_below i a s.archives added.number (subst (λ l. a < length l) added.others is.archive);
        origin = is.origin;
        valid = record {
          bounded = valid.bounded;
          in_slot = slot_is_same i s t added a e.1.last_time ∙ valid.in_slot;
          in_steps = subst (λ (x : ArchiveSpec). e.1.mask < 2 ^ x.steps) (sym (archive_is_same i s t added a))
              valid.in_steps;
          has_last = ap (bit_at e.1.mask) (place_is_same i s t added a e.1.last_time) ∙ valid.has_last;
          few = valid.few;
        };
        slot_fits = is.slot_fits;
        sum_fits = is.sum_fits;
        min_fits = is.min_fits;
        max_fits = is.max_fits;
        last_time_fits = is.last_time_fits;
        last_value_fits = is.last_value_fits;
      }

-- ---- nothing, or one archive

pub raised_is_cell : RaisedIsCell
raised_is_cell Nothing s e there is = is
raised_is_cell (Archive i) s e there is = cell_raised i s (older s (Archive i)) (was_added i s there) e is

pub trimmed_is_raised : TrimmedIsRaised
trimmed_is_raised Nothing s m there = ap (trimmed (is_live s)) (same_cells m) ∙ sym (same_cells (trimmed (is_live s) m))
trimmed_is_raised (Archive i) s m there = trim_raised i s (older s (Archive i)) (was_added i s there) m

pub join_is_raised : JoinIsRaised
join_is_raised Nothing s m n there = (λ j. join s (same_cells m j) (same_cells n j)) ∙ sym (same_cells (join s m n))
join_is_raised (Archive i) s m n there = join_raised i s (older s (Archive i)) (was_added i s there) m n

same_list : (es : List NamedCell) → map (raised_cell Nothing) es ≡ es
same_list [] = refl
same_list (e ∷ es) = ap (λ l. e ∷ l) (same_list es)

pub join_cells_is_raised : JoinCellsIsRaised
join_cells_is_raised Nothing s m es there = (λ j. join_cells s (same_cells m j) (same_list es j))
    ∙ sym (same_cells (join_cells s m es))
join_cells_is_raised (Archive i) s m es there = join_cells_raised i s (older s (Archive i)) (was_added i s there) m es

pub order_is_kept : OrderIsKept
order_is_kept Nothing es = ap (is_sorted cell_name_cmp) (same_list es)
order_is_kept (Archive i) es = renaming.is_sorted-moved cell_name_cmp_total cell_name_cmp-IsAntisymmetric
    (raised_name (Archive i)) (raised_name_cmp i) es
