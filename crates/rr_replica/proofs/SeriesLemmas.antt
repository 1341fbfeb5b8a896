-- The cells of all series, by key and archive.
use Rattle.std.proofs.Common.{◌≡◌, ◌≢◌, ℕ, ◌+◌, ◌<◌, true, false, cond, List, [], ◌∷◌, ◌++◌, map, refl, sym, ap, ◌∙◌, subst, arith, true≢false, Option, Some, None, ⊎_elim, Less}
use Rattle.std.specs.List.{AllByRecursion}
use Rattle.std.specs.List.Sorted.{IsStrictlySortedBy}
use Rattle.std.specs.Map.{lookup, keys_of}
use Rattle.std.specs.BTreeMap.{is_at}
use Rattle.std.specs.Option.{option_or, unwrap_or}
use Rattle.std.specs.Ordering.{eq_by_cmp, is_eq}
use Rattle.std.specs.Cmp.Lexicographic.{nat_list_cmp_total}
use Rattle.std.specs.FinMap.{get, entries, find, get-empty, get-entries, get-from_entries, same_map, slice_cmp-IsAntisymmetric, nat_cmp-IsAntisymmetric, IsAntisymmetric}
use Rattle.std.proofs.lemmas.Bool.Decides.{eqb_tells}
use Rattle.rr_contrib.specs.declared.contribution.Contribution.{Contribution}
use Rattle.rr_join.proofs.Members.{same_from_tie, tie_itself}
use Rattle.rr_archive.specs.CellSlots.{CellSlot, cell_slot_cmp}
use Rattle.rr_archive.specs.Cells.{ArchiveCells}
use Rattle.rr_archive.proofs.CellSlotOrder.{cell_slot_cmp_total, cell_slot_cmp-IsAntisymmetric}
use Rattle.rr_cells.specs.CellNames.{CellName, cell_name_cmp}
use Rattle.rr_cells.proofs.Orders.{cell_name_cmp_total, cell_name_cmp-IsAntisymmetric}
use Rattle.rr_cells.specs.Cells.{name_at, archive_cells}
use Rattle.rr_text.specs.Bytes.{bytes_cmp}
use Rattle.rr_replica.specs.Series.{Series, cells_from, all_cells, cells_of, archive_cells_from, archive_cells_in}
use Rattle.rr_cells.proofs.Local.{get-archive_cells, cell_slots_tie}

option_or-None : (x : Option Contribution) → option_or x None ≡ x
option_or-None None = refl
option_or-None (Some x) = refl

find-append : (q : CellName) (xs ys : List (CellName × Contribution))
    → find cell_name_cmp q (xs ++ ys) ≡ option_or (find cell_name_cmp q xs) (find cell_name_cmp q ys)
find-append q [] ys = refl
find-append q (x ∷ xs) ys = elim (eq_by_cmp cell_name_cmp q x.0) as
    (λ b. cond b (Some x.1) (find cell_name_cmp q (xs ++ ys))
    ≡ option_or (cond b (Some x.1) (find cell_name_cmp q xs)) (find cell_name_cmp q ys)) [
      | true ↦ refl
      | false ↦ find-append q xs ys
    ]

abbrev named_as : List ℕ → ℕ → List (CellSlot × Contribution) → List (CellName × Contribution)
named_as key archive es = map (λ e. (name_at key archive e.0, e.1)) es

find_here : (key : List ℕ) (archive : ℕ) (p : CellSlot) (es : List (CellSlot × Contribution))
    → find cell_name_cmp (name_at key archive p) (named_as key archive es) ≡ find cell_slot_cmp p es
find_here key archive p [] = refl
find_here key archive p (e ∷ es) = λ i. cond (cell_slots_tie key archive p e.0 i) (Some e.1)
    (find_here key archive p es i)

not_tied : (n k : CellName) → n ≢ k → eq_by_cmp cell_name_cmp n k ≡ false
not_tied n k other = elim (eq_by_cmp cell_name_cmp n k) as (λ b. eq_by_cmp cell_name_cmp n k ≡ b → b ≡ false) [
  | true ↦ λ e. absurd (other (same_from_tie cell_name_cmp_total cell_name_cmp-IsAntisymmetric n k e))
  | false ↦ λ e. refl
] refl

find_elsewhere : (n : CellName) (key : List ℕ) (archive : ℕ) (es : List (CellSlot × Contribution))
    → ((p : CellSlot) → n ≢ name_at key archive p) → find cell_name_cmp n (named_as key archive es) ≡ None
find_elsewhere n key archive [] other = refl
find_elsewhere n key archive (e ∷ es) other = ap
    (λ b. cond b (Some e.1) (find cell_name_cmp n (named_as key archive es)))
    (not_tied n (name_at key archive e.0) (other e.0)) ∙ find_elsewhere n key archive es other

-- a key's cells from an archive on have none before it
find_before : (key : List ℕ) (archive first : ℕ) (p : CellSlot) (rs : List ArchiveCells) → archive < first
    → find cell_name_cmp (name_at key archive p) (cells_from key first rs) ≡ None
find_before key archive first p [] h = refl
find_before key archive first p (r ∷ rs) h =
    find-append (name_at key archive p) (named_as key first (entries r)) (cells_from key (first + 1) rs)
    ∙ (λ i. option_or (find_elsewhere (name_at key archive p) key first (entries r)
    (λ q e. let same : archive ≡ first = ap (λ (n : CellName). n.archive) e in absurd (omega arith)) i)
    (find_before key archive (first + 1) p rs (omega arith) i))

find_from : (key : List ℕ) (archive first : ℕ) (p : CellSlot) (rs : List ArchiveCells)
    → find cell_name_cmp (name_at key archive p) (cells_from key first rs) ≡ get (archive_cells_from first rs archive) p
find_from key archive first p [] = sym (get-empty cell_slot_cmp p)
find_from key archive first p (r ∷ rs) =
    find-append (name_at key archive p) (named_as key first (entries r)) (cells_from key (first + 1) rs)
    ∙ ⊎_elim
    (λ h.
    subst (λ j. option_or (find cell_name_cmp (name_at key archive p) (named_as key j (entries r)))
    (find cell_name_cmp (name_at key archive p) (cells_from key (j + 1) rs)) ≡ get r p) h.1
    ((λ i. option_or (find_here key archive p (entries r) i)
    (find_before key archive (archive + 1) p rs (omega arith) i))
    ∙ option_or-None (find cell_slot_cmp p (entries r)) ∙ sym (get-entries r p))
    ∙ ap (λ b. get (cond b r (archive_cells_from (first + 1) rs archive)) p) (sym h.0))
    (λ h.
    (λ i. option_or (find_elsewhere (name_at key archive p) key first (entries r)
    (λ q e. h.1 (ap (λ (n : CellName). n.archive) e)) i) (find_from key archive (first + 1) p rs i))
    ∙ ap (λ b. get (cond b r (archive_cells_from (first + 1) rs archive)) p) (sym h.0))
    (eqb_tells archive first)

other_key : (key other : List ℕ) (archive first : ℕ) (p : CellSlot) (rs : List ArchiveCells) → key ≢ other
    → find cell_name_cmp (name_at key archive p) (cells_from other first rs) ≡ None
other_key key other archive first p [] apart = refl
other_key key other archive first p (r ∷ rs) apart =
    find-append (name_at key archive p) (named_as other first (entries r)) (cells_from other (first + 1) rs)
    ∙ (λ i. option_or (find_elsewhere (name_at key archive p) other first (entries r)
    (λ q e. apart (ap (λ (n : CellName). n.key) e)) i) (other_key key other archive (first + 1) p rs apart i))

pub bytes_cmp-IsAntisymmetric : IsAntisymmetric bytes_cmp
bytes_cmp-IsAntisymmetric = slice_cmp-IsAntisymmetric nat_cmp-IsAntisymmetric

-- ---- all keys

-- series whose keys ascend have none at a key that is before them
no_series : (key : List ℕ) (archive : ℕ) (p : CellSlot) (es : Series)
    → AllByRecursion (λ k. bytes_cmp key k ≡ Less) (keys_of es)
    → find cell_name_cmp (name_at key archive p) (all_cells es) ≡ None
no_series key archive p [] later = refl
no_series key archive p (e ∷ es) later =
    find-append (name_at key archive p) (cells_from e.0 0 e.1) (all_cells es)
    ∙ (λ i. option_or (other_key key e.0 archive 0 p e.1
    (λ same. true≢false (sym (tie_itself nat_list_cmp_total bytes_cmp-IsAntisymmetric key)
    ∙ ap (λ k. is_eq (bytes_cmp key k)) same ∙ ap is_eq later.0)) i) (no_series key archive p es later.1 i))

find_all : (key : List ℕ) (archive : ℕ) (p : CellSlot) (es : Series) → IsStrictlySortedBy bytes_cmp (keys_of es)
    → find cell_name_cmp (name_at key archive p) (all_cells es) ≡ get (archive_cells_in es key archive) p
unfolding IsStrictlySortedBy
find_all key archive p [] sorted = sym (get-empty cell_slot_cmp p)
find_all key archive p (e ∷ es) sorted =
    find-append (name_at key archive p) (cells_from e.0 0 e.1) (all_cells es)
    ∙ elim (is_eq (bytes_cmp key e.0)) as (λ b. is_eq (bytes_cmp key e.0) ≡ b
    → option_or (find cell_name_cmp (name_at key archive p) (cells_from e.0 0 e.1))
    (find cell_name_cmp (name_at key archive p) (all_cells es))
    ≡ get (archive_cells_from 0 (unwrap_or (cond b (Some e.1) (lookup (is_at (bytes_cmp key)) es)) []) archive) p) [
      | true ↦ λ t.
          let same : key ≡ e.0 = same_from_tie nat_list_cmp_total bytes_cmp-IsAntisymmetric key e.0 t in
          subst (λ k. option_or (find cell_name_cmp (name_at k archive p) (cells_from e.0 0 e.1))
          (find cell_name_cmp (name_at k archive p) (all_cells es)) ≡ get (archive_cells_from 0 e.1 archive) p)
          (sym same)
          ((λ i. option_or (find_from e.0 archive 0 p e.1 i) (no_series e.0 archive p es sorted.0 i))
          ∙ option_or-None (get (archive_cells_from 0 e.1 archive) p))
      | false ↦ λ t. (λ i. option_or (other_key key e.0 archive 0 p e.1
          (λ same. true≢false (sym (tie_itself nat_list_cmp_total bytes_cmp-IsAntisymmetric key)
          ∙ ap (λ k. is_eq (bytes_cmp key k)) same ∙ t)) i) (find_all key archive p es sorted.1 i))
    ] refl

-- of the cells of all series those of an archive of a key are that archive
pub rows_of_series : (series : Series) (key : List ℕ) (archive : ℕ) → IsStrictlySortedBy bytes_cmp (keys_of series)
    → archive_cells (cells_of series) key archive ≡ archive_cells_in series key archive
unfolding cells_of
rows_of_series series key archive sorted = same_map cell_slot_cmp_total cell_slot_cmp-IsAntisymmetric _ _ (λ p.
    get-archive_cells key archive (cells_of series) p
    ∙ get-from_entries cell_name_cmp_total (all_cells series) (name_at key archive p)
    ∙ find_all key archive p series sorted)
