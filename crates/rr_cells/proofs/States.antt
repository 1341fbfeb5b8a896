-- The cells that a knowledge makes, name by name.
use Rattle.std.proofs.Common.{◌≡◌, Bool, true, false, cond, ◌&&◌, List, [], ◌∷◌, refl, sym, ap, ◌∙◌, true≢false, Option, None, is_some}
use Rattle.std.specs.Ordering.{eq_by_cmp}
use Rattle.std.specs.FinMap.{get, keys, retain_keys, same_map}
use Rattle.std.proofs.lemmas.Bool.{and_from}
use Rattle.rr_schema.specs.Schema.{Layout, IsLayout}
use Rattle.rr_join.specs.Maps.{map_of, trimmed}
use Rattle.rr_join.proofs.Booleans.{same_test, and_first, and_second}
use Rattle.rr_join.proofs.Members.{is_in, same_from_tie, tie_from_same, head_in, any_from, found_of}
use Rattle.rr_join.proofs.Lookups.{get-map_of_all, get-trimmed, is_in-keys, is_in-set_of}
use Rattle.rr_join.proofs.Horizons.{live_by_members, live-trimmed}
use Rattle.rr_join.proofs.Joining.{trimmed-trimmed}
use Rattle.rr_contrib.specs.declared.contribution.Contribution.{Contribution}
use Rattle.rr_cells.specs.CellNames.{CellName, cell_name_cmp, is_live}
use Rattle.rr_cells.specs.Samples.{Mark, mark_cmp, name_of, names_of}
use Rattle.rr_cells.specs.Knowledge.{Knowledge, knows, is_live_in, live, cell, names}
use Rattle.rr_cells.proofs.Orders.{cell_name_cmp_total, cell_name_cmp-IsAntisymmetric, mark_cmp_total, mark_cmp-IsAntisymmetric}
use Rattle.rr_cells.proofs.Horizon.{live_horizon}
use Rattle.rr_cells.proofs.Knowing.{same_knowledge, is_in-keys_of, knows-retain, no_keys, is_in-names_of, name_from_tie, knows-live, knows-cell}
use Rattle.rr_cells.specs.Cells.{Cells, IsTrimmed}
use Rattle.rr_cells.specs.State.{value_of, cells_of_knowledge}

-- what a set of marks contributes
abbrev pub value : Layout → Knowledge → Option Contribution
value s c = value_of s (keys c)

pub tie_of : (n k : CellName) → n ≡ k → eq_by_cmp cell_name_cmp n k ≡ true
tie_of = tie_from_same cell_name_cmp_total cell_name_cmp-IsAntisymmetric

-- ---- marks and values

-- all marks of a name, dead ones too
pub marks_at : Layout → Knowledge → CellName → Knowledge
marks_at s k n = retain_keys k (λ m. eq_by_cmp cell_name_cmp (name_of s m) n)

pub knows-marks_at : (s : Layout) (k : Knowledge) (n : CellName) (m : Mark)
    → knows (marks_at s k n) m ≡ (knows k m && eq_by_cmp cell_name_cmp (name_of s m) n)
unfolding marks_at
knows-marks_at s k n m = knows-retain k (λ x. eq_by_cmp cell_name_cmp (name_of s x) n) m

pub marked_by : (s : Layout) (c : Knowledge) → is_some (value s c) ≡ true → (m : Mark) × (knows c m ≡ true)
marked_by s c e = from_keys (keys c) refl e
  where
    from_keys : (ms : List Mark) → keys c ≡ ms → is_some (value_of s ms) ≡ true → (m : Mark) × (knows c m ≡ true)
    from_keys [] is e = absurd (true≢false (sym e))
    from_keys (m ∷ ms) is e = (
      m,
      sym (is_in-keys_of c m) ∙ ap (λ l. is_in mark_cmp l m) is
          ∙ head_in mark_cmp_total mark_cmp-IsAntisymmetric m ms,
    )

pub valued : (s : Layout) (ms : List Mark) (m : Mark) → is_in mark_cmp ms m ≡ true → is_some (value_of s ms) ≡ true
valued s [] m e = absurd (true≢false (sym e))
valued s (x ∷ ms) m e = refl

pub no_value : (s : Layout) (c : Knowledge) → ((m : Mark) → knows c m ≡ false) → value s c ≡ None
no_value s c none = ap (value_of s) (no_keys c none)

pub known_at : (s : Layout) (k : Knowledge) (n : CellName) (m : Mark) → knows (marks_at s k n) m ≡ true
    → (knows k m ≡ true) × (name_of s m ≡ n)
known_at s k n m e =
    let here = sym (knows-marks_at s k n m) ∙ e in (
      and_first (knows k m) (eq_by_cmp cell_name_cmp (name_of s m) n) here,
      name_from_tie s m n (and_second (knows k m) (eq_by_cmp cell_name_cmp (name_of s m) n) here),
    )

-- a mark's name is among those of the marks
pub named_by : (s : Layout) (k : Knowledge) (n : CellName) (m : Mark) → knows k m ≡ true → name_of s m ≡ n
    → is_in cell_name_cmp (names_of s (keys k)) n ≡ true
named_by s k n m known is =
    is_in-names_of s (keys k) n ∙ any_from mark_cmp_total mark_cmp-IsAntisymmetric
    (λ x. eq_by_cmp cell_name_cmp n (name_of s x)) (keys k) m (is_in-keys_of k m ∙ known)
    (tie_of n (name_of s m) (sym is))

-- ---- the state

pub in_names : (s : Layout) (k : Knowledge) (n : CellName)
    → is_in cell_name_cmp (names s k) n ≡ is_in cell_name_cmp (names_of s (keys (live s k))) n
unfolding names
in_names s k n = is_in-set_of cell_name_cmp_total cell_name_cmp-IsAntisymmetric (names_of s (keys (live s k))) n

pub cell_named : (s : Layout) (k : Knowledge) (n : CellName) → is_some (value s (cell s k n)) ≡ true
    → is_in cell_name_cmp (names s k) n ≡ true
cell_named s k n e =
    let m = marked_by s (cell s k n) e in
    let here = sym (knows-cell s k n m.0) ∙ m.1 in
    in_names s k n
    ∙ named_by s (live s k) n m.0 (knows-live s k m.0
    ∙ and_first (knows k m.0 && is_live_in s k (name_of s m.0)) (eq_by_cmp cell_name_cmp (name_of s m.0) n) here)
    (name_from_tie s m.0 n (and_second (knows k m.0 && is_live_in s k (name_of s m.0))
    (eq_by_cmp cell_name_cmp (name_of s m.0) n) here))

pub get-state : (s : Layout) (k : Knowledge) (n : CellName) → get (cells_of_knowledge s k) n ≡ value s (cell s k n)
unfolding cells_of_knowledge
get-state s k n = get-map_of_all cell_name_cmp_total cell_name_cmp-IsAntisymmetric (names s k)
    (λ q. value s (cell s k q)) (cell_named s k) n

-- at each name the value of all its marks
pub full : Layout → Knowledge → Cells
full s k = map_of (names_of s (keys k)) (λ n. value s (marks_at s k n))

pub at_named : (s : Layout) (k : Knowledge) (n : CellName) → is_some (value s (marks_at s k n)) ≡ true
    → is_in cell_name_cmp (names_of s (keys k)) n ≡ true
at_named s k n e =
    let m = marked_by s (marks_at s k n) e in
    let here = known_at s k n m.0 m.1 in
    named_by s k n m.0 here.0 here.1

pub named_at : (s : Layout) (k : Knowledge) (n : CellName) → is_in cell_name_cmp (names_of s (keys k)) n ≡ true
    → is_some (value s (marks_at s k n)) ≡ true
named_at s k n e =
    let f = found_of mark_cmp_total mark_cmp-IsAntisymmetric (λ m. eq_by_cmp cell_name_cmp n (name_of s m)) (keys k)
    (sym (is_in-names_of s (keys k) n) ∙ e) in
    let is : n ≡ name_of s f.item = same_from_tie cell_name_cmp_total cell_name_cmp-IsAntisymmetric n (name_of s f.item)
    f.passes in
    valued s (keys (marks_at s k n)) f.item
    (is_in-keys_of (marks_at s k n) f.item ∙ knows-marks_at s k n f.item
    ∙ and_from (knows k f.item) (eq_by_cmp cell_name_cmp (name_of s f.item) n) (sym (is_in-keys_of k f.item) ∙ f.known)
    (tie_of (name_of s f.item) n (sym is)))

pub get-full : (s : Layout) (k : Knowledge) (n : CellName) → get (full s k) n ≡ value s (marks_at s k n)
unfolding full
get-full s k n = get-map_of_all cell_name_cmp_total cell_name_cmp-IsAntisymmetric (names_of s (keys k))
    (λ q. value s (marks_at s k q)) (at_named s k) n

pub in_full : (s : Layout) (k : Knowledge) (n : CellName)
    → is_in cell_name_cmp (keys (full s k)) n ≡ is_in cell_name_cmp (names_of s (keys k)) n
in_full s k n =
    is_in-keys cell_name_cmp_total cell_name_cmp-IsAntisymmetric (full s k) n ∙ ap is_some (get-full s k n)
    ∙ same_test (is_some (value s (marks_at s k n))) (is_in cell_name_cmp (names_of s (keys k)) n) (at_named s k n)
    (named_at s k n)

module _ (s : Layout) (is : IsLayout s) where
  pub live_full : (k : Knowledge) (n : CellName) → is_live s (keys (full s k)) n ≡ is_live_in s k n
  live_full k n = live_by_members cell_name_cmp_total cell_name_cmp-IsAntisymmetric (live_horizon s is)
      (keys (full s k)) (names_of s (keys k)) n (in_full s k)

  -- at a live name all its marks are in the cell, and at a dead one none
  pub knows-cell_at : (k : Knowledge) (n : CellName) (m : Mark)
      → knows (cell s k n) m ≡ (knows (marks_at s k n) m && is_live_in s k n)
  knows-cell_at k n m =
      knows-cell s k n m
      ∙ elim (eq_by_cmp cell_name_cmp (name_of s m) n) as
      (λ b. eq_by_cmp cell_name_cmp (name_of s m) n ≡ b
      → ((knows k m && is_live_in s k (name_of s m)) && b) ≡ ((knows k m && b) && is_live_in s k n)) [
        | true ↦ λ t. ap (λ q. (knows k m && is_live_in s k q) && true) (name_from_tie s m n t)
            ∙ turned (knows k m) (is_live_in s k n)
        | false ↦ λ t. never (knows k m && is_live_in s k (name_of s m)) (knows k m) (is_live_in s k n)
      ] refl
      ∙ ap (λ b. b && is_live_in s k n) (sym (knows-marks_at s k n m))
    where
      turned : (a b : Bool) → ((a && b) && true) ≡ ((a && true) && b)
      turned true true = refl
      turned true false = refl
      turned false b = refl

      never : (a b c : Bool) → (a && false) ≡ ((b && false) && c)
      never true true c = refl
      never true false c = refl
      never false true c = refl
      never false false c = refl

  -- at a live name the cell has all its marks
  pub cell_live : (k : Knowledge) (n : CellName) → is_live_in s k n ≡ true → cell s k n ≡ marks_at s k n
  cell_live k n e = same_knowledge (cell s k n) (marks_at s k n)
      (λ m. knows-cell_at k n m ∙ ap (λ b. knows (marks_at s k n) m && b) e ∙ with_true (knows (marks_at s k n) m))
    where
      with_true : (a : Bool) → (a && true) ≡ a
      with_true true = refl
      with_true false = refl

  -- at any other it has none
  pub cell_dead : (k : Knowledge) (n : CellName) → is_live_in s k n ≡ false → (m : Mark) → knows (cell s k n) m ≡ false
  cell_dead k n e m = knows-cell_at k n m ∙ ap (λ b. knows (marks_at s k n) m && b) e
      ∙ with_false (knows (marks_at s k n) m)
    where
      with_false : (a : Bool) → (a && false) ≡ false
      with_false true = refl
      with_false false = refl

  -- the value of a cell is that of all the name's marks, where the name is live
  pub value_cell : (k : Knowledge) (n : CellName)
      → value s (cell s k n) ≡ cond (is_live_in s k n) (value s (marks_at s k n)) None
  value_cell k n = elim (is_live_in s k n) as (λ b. is_live_in s k n ≡ b
      → value s (cell s k n) ≡ cond b (value s (marks_at s k n)) None) [
        | true ↦ λ e. ap (value s) (cell_live k n e)
        | false ↦ λ e. no_value s (cell s k n) (cell_dead k n e)
      ] refl

  pub state_is_trimmed_full : (k : Knowledge) → cells_of_knowledge s k ≡ trimmed (is_live s) (full s k)
  state_is_trimmed_full k = same_map cell_name_cmp_total cell_name_cmp-IsAntisymmetric (cells_of_knowledge s k)
      (trimmed (is_live s) (full s k)) (λ n.
      get-state s k n ∙ value_cell k n
      ∙ sym (get-trimmed cell_name_cmp_total cell_name_cmp-IsAntisymmetric (is_live s) (full s k) n
      ∙ (λ i. cond (live_full k n i) (get-full s k n i) None)))

  -- beside a state's names the same names are live as beside all that is known
  pub live_state : (k : Knowledge) (n : CellName) → is_live s (keys (cells_of_knowledge s k)) n ≡ is_live_in s k n
  live_state k n =
      ap (λ m. is_live s (keys m) n) (state_is_trimmed_full k)
      ∙ live-trimmed cell_name_cmp_total cell_name_cmp-IsAntisymmetric (live_horizon s is) (full s k) n ∙ live_full k n

  pub state_is_trimmed : (k : Knowledge) → IsTrimmed s (cells_of_knowledge s k)
  state_is_trimmed k =
      ap (trimmed (is_live s)) (state_is_trimmed_full k)
      ∙ trimmed-trimmed cell_name_cmp_total cell_name_cmp-IsAntisymmetric (live_horizon s is) (full s k)
      ∙ sym (state_is_trimmed_full k)
