-- Whole cells of what is known are live and closed.
use Rattle.std.proofs.Common.{◌≡◌, Bool, true, ◌&&◌, sym, ap, ◌∙◌, subst}
use Rattle.std.specs.Ordering.{eq_by_cmp}
use Rattle.std.specs.FinMap.{keys}
use Rattle.std.proofs.Math.Bool.{and-true}
use Rattle.std.proofs.lemmas.Bool.{and_from}
use Rattle.rr_schema.specs.Schema.{Layout, IsLayout}
use Rattle.rr_join.proofs.Booleans.{same_test, and_first, and_second}
use Rattle.rr_join.proofs.Members.{is_in, found_of, any_from}
use Rattle.rr_join.proofs.Horizons.{live_fewer}
use Rattle.rr_cells.specs.CellNames.{CellName, cell_name_cmp}
use Rattle.rr_cells.specs.Samples.{Mark, name_of, names_of}
use Rattle.rr_cells.specs.Knowledge.{Knowledge, knows, is_live_in, live, cells_where}
use Rattle.rr_cells.specs.World.{IsClosed}
use Rattle.rr_cells.specs.KnowledgeLaws.{WholeCellsAreClosed, LiveIsClosed, WholeCellsAreLive, LiveIsLive}
use Rattle.rr_cells.proofs.Orders.{cell_name_cmp_total, cell_name_cmp-IsAntisymmetric, mark_cmp_total, mark_cmp-IsAntisymmetric}
use Rattle.rr_cells.proofs.Horizon.{live_horizon}
use Rattle.rr_cells.proofs.Knowing.{same_knowledge, is_in-keys_of, knows-retain, is_in-names_of, knows-live}

pub knows-cells_where : (s : Layout) (k : Knowledge) (test : CellName → Bool) (m : Mark)
    → knows (cells_where s k test) m ≡ ((knows k m && is_live_in s k (name_of s m)) && test (name_of s m))
unfolding cells_where
knows-cells_where s k test m = knows-retain (live s k) (λ x. test (name_of s x)) m
    ∙ ap (λ b. b && test (name_of s m)) (knows-live s k m)

-- what is in whole cells was known and live, and its name passes
pub record IsInCells (s : Layout) (k : Knowledge) (test : CellName → Bool) (m : Mark) : Type 0 where
  pub known : knows k m ≡ true
  pub alive : is_live_in s k (name_of s m) ≡ true
  pub passes : test (name_of s m) ≡ true

pub in_cells_where : (s : Layout) (k : Knowledge) (test : CellName → Bool) (m : Mark)
    → knows (cells_where s k test) m ≡ true → IsInCells s k test m
in_cells_where s k test m e =
    let here = sym (knows-cells_where s k test m) ∙ e in
    let was = and_first (knows k m && is_live_in s k (name_of s m)) (test (name_of s m)) here in
    record {
      known = and_first (knows k m) (is_live_in s k (name_of s m)) was;
      alive = and_second (knows k m) (is_live_in s k (name_of s m)) was;
      passes = and_second (knows k m && is_live_in s k (name_of s m)) (test (name_of s m)) here;
    }

pub whole_cells_are_closed : WholeCellsAreClosed
whole_cells_are_closed s w k test ck = record {
  written = λ m e. ck.written m (in_cells_where s k test m e).known;
  earlier = λ m other alive of same below.
      let was = in_cells_where s k test m (and_first (knows (cells_where s k test) m)
      (is_live_in s (cells_where s k test) (name_of s m)) (sym (knows-live s (cells_where s k test) m) ∙ alive)) in
      knows-cells_where s k test other
      ∙ and_from (knows k other && is_live_in s k (name_of s other)) (test (name_of s other))
      (and_from (knows k other) (is_live_in s k (name_of s other))
      (ck.earlier m other (knows-live s k m ∙ and_from (knows k m) (is_live_in s k (name_of s m)) was.known was.alive)
      of same below)
      (ap (is_live_in s k) same ∙ was.alive))
      (ap test same ∙ was.passes);
}

-- ---- the names that are live beside whole cells

named_before : (s : Layout) (k : Knowledge) (test : CellName → Bool) (n : CellName)
    → is_in cell_name_cmp (names_of s (keys (cells_where s k test))) n ≡ true
    → is_in cell_name_cmp (names_of s (keys k)) n ≡ true
named_before s k test n e =
    let bears : Mark → Bool = λ m. eq_by_cmp cell_name_cmp n (name_of s m) in
    let f = found_of mark_cmp_total mark_cmp-IsAntisymmetric bears (keys (cells_where s k test))
    (sym (is_in-names_of s (keys (cells_where s k test)) n) ∙ e) in
    let was = in_cells_where s k test f.item (sym (is_in-keys_of (cells_where s k test) f.item) ∙ f.known) in
    is_in-names_of s (keys k) n ∙ any_from mark_cmp_total mark_cmp-IsAntisymmetric bears (keys k) f.item
    (is_in-keys_of k f.item ∙ was.known) f.passes

-- what is live in a knowledge is live in whole cells of it
pub live_in_cells : (s : Layout) → IsLayout s → (k : Knowledge) (test : CellName → Bool) (n : CellName)
    → is_live_in s k n ≡ true → is_live_in s (cells_where s k test) n ≡ true
live_in_cells s is k test n e = live_fewer cell_name_cmp_total cell_name_cmp-IsAntisymmetric (live_horizon s is)
    (names_of s (keys k)) (names_of s (keys (cells_where s k test))) n (named_before s k test) e

pub whole_cells_are_live : WholeCellsAreLive
whole_cells_are_live s k test is = same_knowledge (live s (cells_where s k test)) (cells_where s k test) (λ m.
    same_test (knows (live s (cells_where s k test)) m) (knows (cells_where s k test) m)
    (λ e. and_first (knows (cells_where s k test) m) (is_live_in s (cells_where s k test) (name_of s m))
    (sym (knows-live s (cells_where s k test) m) ∙ e))
    (λ e. knows-live s (cells_where s k test) m ∙ and_from (knows (cells_where s k test) m)
    (is_live_in s (cells_where s k test) (name_of s m)) e
    (live_in_cells s is k test (name_of s m) (in_cells_where s k test m e).alive)))

-- ---- all live marks

pub cells_where-all : (s : Layout) (k : Knowledge) → cells_where s k (λ _. true) ≡ live s k
cells_where-all s k = same_knowledge (cells_where s k (λ _. true)) (live s k)
    (λ m. knows-cells_where s k (λ _. true) m ∙ and-true (knows k m && is_live_in s k (name_of s m))
    ∙ sym (knows-live s k m))

pub live_is_closed : LiveIsClosed
live_is_closed s w k ck = subst (IsClosed s w) (cells_where-all s k) (whole_cells_are_closed s w k (λ _. true) ck)

pub live_is_live : LiveIsLive
live_is_live s k is = subst (λ l. live s l ≡ l) (cells_where-all s k) (whole_cells_are_live s k (λ _. true) is)
