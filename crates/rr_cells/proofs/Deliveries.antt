-- What whole cells bring to one that is given them.
use Rattle.std.proofs.Common.{◌≡◌, Bool, true, false, not, ◌&&◌, ◌||◌, refl, sym, ap, ◌∙◌, subst, true≢false}
use Rattle.std.specs.List.{list_any}
use Rattle.std.specs.Ordering.{eq_by_cmp}
use Rattle.std.specs.FinMap.{keys}
use Rattle.std.proofs.lemmas.Bool.{and_from, or_left, or_right, false_from_ne_true}
use Rattle.rr_schema.specs.Schema.{Layout, IsLayout}
use Rattle.rr_join.proofs.Booleans.{same_test, and_first, and_second, either_case}
use Rattle.rr_join.proofs.Members.{is_in, same_from_tie, tie_itself, found_of, any_from, is_in-filter}
use Rattle.rr_join.proofs.Lookups.{is_in-set_of}
use Rattle.rr_join.proofs.Horizons.{live_by_live, not_live_past}
use Rattle.rr_cells.specs.CellNames.{CellName, cell_name_cmp}
use Rattle.rr_cells.specs.Samples.{Mark, name_of, names_of}
use Rattle.rr_cells.specs.Knowledge.{Knowledge, knows, union, is_live_in, live, cell, names, cells_named, difference}
use Rattle.rr_cells.specs.KnowledgeLaws.{NamesAreOfTheLive, DifferenceBringsAll}
use Rattle.rr_cells.proofs.Orders.{cell_name_cmp_total, cell_name_cmp-IsAntisymmetric, mark_cmp_total, mark_cmp-IsAntisymmetric}
use Rattle.rr_cells.proofs.Horizon.{is_past, live_horizon}
use Rattle.rr_cells.proofs.Knowing.{same_knowledge, is_in-keys_of, knows-union, is_in-names_of, live_in-union, knows-live, knows-cell}
use Rattle.rr_cells.proofs.ClosedCells.{knows-cells_where, in_cells_where, live_in_cells}

-- ---- names

pub is_in-names : (s : Layout) (k : Knowledge) (n : CellName)
    → is_in cell_name_cmp (names s k) n ≡ list_any (λ m. eq_by_cmp cell_name_cmp n (name_of s m)) (keys (live s k))
unfolding names
is_in-names s k n = is_in-set_of cell_name_cmp_total cell_name_cmp-IsAntisymmetric (names_of s (keys (live s k))) n
    ∙ is_in-names_of s (keys (live s k)) n

-- the name of a known mark is one of the names
pub named_by : (s : Layout) (k : Knowledge) (m : Mark) → knows k m ≡ true
    → list_any (λ x. eq_by_cmp cell_name_cmp (name_of s m) (name_of s x)) (keys k) ≡ true
named_by s k m e = any_from mark_cmp_total mark_cmp-IsAntisymmetric
    (λ x. eq_by_cmp cell_name_cmp (name_of s m) (name_of s x)) (keys k) m (is_in-keys_of k m ∙ e)
    (tie_itself cell_name_cmp_total cell_name_cmp-IsAntisymmetric (name_of s m))

pub names_are_of_the_live : NamesAreOfTheLive
names_are_of_the_live s k = same_knowledge (cells_named s k (names s k)) (live s k) (λ m.
    let test : CellName → Bool = is_in cell_name_cmp (names s k) in
    same_test (knows (cells_named s k (names s k)) m) (knows (live s k) m)
    (λ e. let was = in_cells_where s k test m e in knows-live s k m
    ∙ and_from (knows k m) (is_live_in s k (name_of s m)) was.known was.alive)
    (λ e. knows-cells_where s k test m ∙ and_from (knows k m && is_live_in s k (name_of s m)) (test (name_of s m))
    (sym (knows-live s k m) ∙ e) (is_in-names s k (name_of s m) ∙ named_by s (live s k) m e)))

-- ---- differences

-- the cell of a live mark that is not live there is in the difference
pub in_difference : (s : Layout) (k l : Knowledge) (m : Mark) → knows (live s k) m ≡ true → knows (live s l) m ≡ false
    → is_in cell_name_cmp (difference s k l) (name_of s m) ≡ true
unfolding difference
in_difference s k l m e lacks =
    let n = name_of s m in
    let lacking : CellName → Bool = λ q. list_any (λ x. not (knows (live s l) x)) (keys (cell s k q)) in
    is_in-filter cell_name_cmp_total cell_name_cmp-IsAntisymmetric lacking (names s k) n
    ∙ and_from (lacking n) (is_in cell_name_cmp (names s k) n)
    (any_from mark_cmp_total mark_cmp-IsAntisymmetric (λ x. not (knows (live s l) x)) (keys (cell s k n)) m
    (is_in-keys_of (cell s k n) m ∙ knows-cell s k n m
    ∙ and_from (knows k m && is_live_in s k n) (eq_by_cmp cell_name_cmp n n) (sym (knows-live s k m) ∙ e)
    (tie_itself cell_name_cmp_total cell_name_cmp-IsAntisymmetric n))
    (ap not lacks))
    (is_in-names s k n ∙ named_by s (live s k) m e)

module _ (s : Layout) (is : IsLayout s) (k l : Knowledge) where
  abbrev given : Knowledge
  given = cells_named s k (difference s k l)

  -- what is live and was not known is given
  given_where_unknown : (m : Mark) → knows (live s k) m ≡ true → knows l m ≡ false → knows given m ≡ true
  given_where_unknown m e unknown =
      knows-cells_where s k (is_in cell_name_cmp (difference s k l)) m
      ∙ and_from (knows k m && is_live_in s k (name_of s m)) (is_in cell_name_cmp (difference s k l) (name_of s m))
      (sym (knows-live s k m) ∙ e)
      (in_difference s k l m e (false_from_ne_true (knows (live s l) m)
      (λ h. true≢false (sym (and_first (knows l m) (is_live_in s l (name_of s m)) (sym (knows-live s l m) ∙ h))
      ∙ unknown))))

  -- a name is dead beside what is known where one known mark puts it past the horizon
  dead_beside : (j : Knowledge) (m : Mark) (n : CellName) → knows j m ≡ true → is_past s (name_of s m) n ≡ true
      → is_live_in s j n ≡ false
  dead_beside j m n e past =
      not_live_past cell_name_cmp_total cell_name_cmp-IsAntisymmetric (live_horizon s is) (names_of s (keys j))
      (name_of s m) n (is_in-names_of s (keys j) (name_of s m) ∙ named_by s j m e) past

  live_beside_given : (n : CellName) → is_live_in s l n ≡ true → is_live_in s given n ≡ true → is_live_in s k n ≡ true
  live_beside_given n in_l in_given =
      live_by_live cell_name_cmp_total cell_name_cmp-IsAntisymmetric (live_horizon s is) (names_of s (keys k)) n
      (λ q there alive.
      let f = found_of mark_cmp_total mark_cmp-IsAntisymmetric (λ x. eq_by_cmp cell_name_cmp q (name_of s x)) (keys k)
      (sym (is_in-names_of s (keys k) q) ∙ there) in
      let same : q ≡ name_of s f.item = same_from_tie cell_name_cmp_total cell_name_cmp-IsAntisymmetric q
      (name_of s f.item) f.passes in
      let is_live_mark : knows (live s k) f.item ≡ true = knows-live s k f.item
      ∙ and_from (knows k f.item) (is_live_in s k (name_of s f.item)) (sym (is_in-keys_of k f.item) ∙ f.known)
      (subst (λ y. is_live_in s k y ≡ true) same alive) in
      false_from_ne_true (is_past s q n) (λ past.
      let ahead = subst (λ y. is_past s y n ≡ true) same past in
      true≢false (elim (knows l f.item) as (λ b. knows l f.item ≡ b → true ≡ false) [
        | true ↦ λ e. sym in_l ∙ dead_beside l f.item n e ahead
        | false ↦ λ e. sym in_given ∙ dead_beside given f.item n (given_where_unknown f.item is_live_mark e) ahead
      ] refl)))

  live_alike : (n : CellName) → is_live_in s (union l given) n ≡ is_live_in s (union l k) n
  live_alike n =
      live_in-union s is l given n
      ∙ same_test (is_live_in s l n && is_live_in s given n) (is_live_in s l n && is_live_in s k n)
      (λ e. let in_l = and_first (is_live_in s l n) (is_live_in s given n) e in
      and_from (is_live_in s l n) (is_live_in s k n) in_l
      (live_beside_given n in_l (and_second (is_live_in s l n) (is_live_in s given n) e)))
      (λ e. and_from (is_live_in s l n) (is_live_in s given n) (and_first (is_live_in s l n) (is_live_in s k n) e)
      (live_in_cells s is k (is_in cell_name_cmp (difference s k l)) n
      (and_second (is_live_in s l n) (is_live_in s k n) e)))
      ∙ sym (live_in-union s is l k n)

  brings_all : live s (union l given) ≡ live s (union l k)
  brings_all = same_knowledge (live s (union l given)) (live s (union l k)) (λ m.
      let n = name_of s m in
      knows-live s (union l given) m ∙ ap (λ b. knows (union l given) m && b) (live_alike n)
      ∙ same_test (knows (union l given) m && is_live_in s (union l k) n)
      (knows (union l k) m && is_live_in s (union l k) n)
      (λ e. and_from (knows (union l k) m) (is_live_in s (union l k) n)
      (knows-union l k m ∙ either_case (knows l m) (knows given m)
      (sym (knows-union l given m) ∙ and_first (knows (union l given) m) (is_live_in s (union l k) n) e)
      (λ h. or_left (knows l m) (knows k m) h)
      (λ h. or_right (knows l m) (knows k m) (in_cells_where s k (is_in cell_name_cmp (difference s k l)) m h).known))
      (and_second (knows (union l given) m) (is_live_in s (union l k) n) e))
      (λ e.
      let alive = and_second (knows (union l k) m) (is_live_in s (union l k) n) e in
      let live_k = and_second (is_live_in s l n) (is_live_in s k n) (sym (live_in-union s is l k n) ∙ alive) in
      and_from (knows (union l given) m) (is_live_in s (union l k) n)
      (knows-union l given m ∙ elim (knows l m) as (λ b. knows l m ≡ b → (b || knows given m) ≡ true) [
        | true ↦ λ h. refl
        | false ↦ λ h. given_where_unknown m (knows-live s k m ∙ and_from (knows k m) (is_live_in s k n)
            (either_case (knows l m) (knows k m) (sym (knows-union l k m)
            ∙ and_first (knows (union l k) m) (is_live_in s (union l k) n) e) (λ t. absurd (true≢false (sym t ∙ h)))
            (λ t. t)) live_k) h
      ] refl)
      alive)
      ∙ sym (knows-live s (union l k) m))

pub difference_brings_all : DifferenceBringsAll
difference_brings_all s k l is = brings_all s is k l
