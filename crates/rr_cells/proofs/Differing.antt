-- Of closed knowledges the difference is read from the versions.
use Rattle.std.proofs.Common.{◌≡◌, ◌<◌, ◌≤◌, Bool, true, false, cond, not, ◌&&◌, refl, sym, ap, ◌∙◌, subst, arith, true≢false, Option, Some, None, is_some, ⊎_elim}
use Rattle.std.specs.List.{list_any, filter}
use Rattle.std.specs.Ordering.{eq_by_cmp}
use Rattle.std.specs.FinMap.{get, keys}
use Rattle.std.proofs.lemmas.Bool.{cases_lt, lt-ltb, le-ltb, and_from}
use Rattle.std.proofs.lemmas.List.Elements.{filter_agree}
use Rattle.rr_schema.specs.Schema.{Layout, IsLayout}
use Rattle.rr_join.specs.Maps.{set_of}
use Rattle.rr_join.proofs.Booleans.{same_test, and_first}
use Rattle.rr_join.proofs.Keys.{same_keys}
use Rattle.rr_join.proofs.Lookups.{is_in-keys}
use Rattle.rr_join.proofs.Members.{is_in, same_from_tie, found_of, any_from}
use Rattle.rr_contrib.specs.declared.contribution.Contribution.{Contribution}
use Rattle.rr_cells.specs.CellNames.{CellName, cell_name_cmp}
use Rattle.rr_cells.specs.Samples.{Mark, name_of, names_of}
use Rattle.rr_cells.specs.Knowledge.{Knowledge, knows, is_live_in, live, cell, names, difference}
use Rattle.rr_cells.specs.World.{World, IsClosed}
use Rattle.rr_cells.proofs.Orders.{cell_name_cmp_total, cell_name_cmp-IsAntisymmetric, mark_cmp_total, mark_cmp-IsAntisymmetric}
use Rattle.rr_cells.proofs.Knowing.{is_in-keys_of, is_in-names_of, knows-live, knows-cell}
use Rattle.rr_cells.specs.State.{cells_of_knowledge}
use Rattle.rr_cells.specs.Versions.{is_newer, newer_names}
use Rattle.rr_cells.specs.Laws.{LackIsByVersions}
use Rattle.rr_cells.proofs.States.{value, tie_of, marks_at, knows-marks_at, valued, no_value, known_at, in_names, cell_named, get-state, value_cell, cell_live, cell_dead}
use Rattle.rr_cells.proofs.Uniting.{value_top, reaches, nothing_there}

pub named_cell : (s : Layout) (k : Knowledge) (n : CellName) → is_in cell_name_cmp (names s k) n ≡ true
    → is_some (value s (cell s k n)) ≡ true
named_cell s k n e =
    let test : Mark → Bool = λ m. eq_by_cmp cell_name_cmp n (name_of s m) in
    let f = found_of mark_cmp_total mark_cmp-IsAntisymmetric test (keys (live s k))
    (sym (is_in-names_of s (keys (live s k)) n) ∙ sym (in_names s k n) ∙ e) in
    let is : n ≡ name_of s f.item = same_from_tie cell_name_cmp_total cell_name_cmp-IsAntisymmetric n (name_of s f.item)
    f.passes in
    valued s (keys (cell s k n)) f.item
    (is_in-keys_of (cell s k n) f.item ∙ knows-cell s k n f.item
    ∙ and_from (knows k f.item && is_live_in s k (name_of s f.item)) (eq_by_cmp cell_name_cmp (name_of s f.item) n)
    (sym (knows-live s k f.item) ∙ sym (is_in-keys_of (live s k) f.item) ∙ f.known)
    (tie_of (name_of s f.item) n (sym is)))

-- a state's names are those whose cell is not empty
pub state_keys : (s : Layout) (k : Knowledge) → keys (cells_of_knowledge s k) ≡ names s k
unfolding names
state_keys s k = same_keys cell_name_cmp_total cell_name_cmp-IsAntisymmetric (cells_of_knowledge s k)
    (set_of {R = cell_name_cmp} (names_of s (keys (live s k)))) (λ n.
    is_in-keys cell_name_cmp_total cell_name_cmp-IsAntisymmetric (cells_of_knowledge s k) n
    ∙ ap is_some (get-state s k n)
    ∙ same_test (is_some (value s (cell s k n))) (is_in cell_name_cmp (names s k) n) (cell_named s k n)
    (named_cell s k n))

none_found : (p : Mark → Bool) (c : Knowledge) → ((m : Mark) → knows c m ≡ true → p m ≡ false)
    → list_any p (keys c) ≡ false
none_found p c f = same_test (list_any p (keys c)) false
    (λ e. let x = found_of mark_cmp_total mark_cmp-IsAntisymmetric p (keys c) e in
    sym (f x.item (sym (is_in-keys_of c x.item) ∙ x.known)) ∙ x.passes)
    (λ e. absurd (true≢false (sym e)))

module _ (s : Layout) (is : IsLayout s) (w : World) (k l : Knowledge) (ck : IsClosed s w k) (cl : IsClosed s w l) where
  lacks : Mark → Bool
  lacks m = not (knows (live s l) m)

  -- a mark that is not among l's marks of the name isn't live in l
  not_theirs : (n : CellName) (m : Mark) → name_of s m ≡ n → knows (marks_at s l n) m ≡ false → lacks m ≡ true
  unfolding lacks
  not_theirs n m named there = elim (knows (live s l) m) as (λ b. knows (live s l) m ≡ b → not b ≡ true) [
    | true ↦ λ e. sym there ∙ knows-marks_at s l n m ∙ and_from (knows l m) (eq_by_cmp cell_name_cmp (name_of s m) n)
        (and_first (knows l m) (is_live_in s l (name_of s m)) (sym (knows-live s l m) ∙ e))
        (tie_of (name_of s m) n named)
    | false ↦ λ e. refl
  ] refl

  top_lacks : (n : CellName) (a : Contribution) (ea : value s (marks_at s k n) ≡ Some a)
      → lacks (value_top s (marks_at s k n) a ea).mark ≡ true → list_any lacks (keys (marks_at s k n)) ≡ true
  top_lacks n a ea h = let top = value_top s (marks_at s k n) a ea in
      any_from mark_cmp_total mark_cmp-IsAntisymmetric lacks (keys (marks_at s k n)) top.mark top.known h

  name_of_top : (n : CellName) (a : Contribution) (ea : value s (marks_at s k n) ≡ Some a)
      → name_of s (value_top s (marks_at s k n) a ea).mark ≡ n
  name_of_top n a ea = let top = value_top s (marks_at s k n) a ea in
      (known_at s k n top.mark (sym (is_in-keys_of (marks_at s k n) top.mark) ∙ top.known)).1

  lacks_dead : (n : CellName) (m : Mark) → name_of s m ≡ n → is_live_in s l n ≡ false → lacks m ≡ true
  unfolding lacks
  lacks_dead n m named dead = ap not (knows-live s l m ∙ ap (λ q. knows l m && is_live_in s l q) named
      ∙ ap (λ b. knows l m && b) dead ∙ and_false_right (knows l m))
    where
      and_false_right : (a : Bool) → (a && false) ≡ false
      and_false_right true = refl
      and_false_right false = refl

  lacks_not : (n : CellName) (m : Mark) → is_live_in s l n ≡ true → knows (marks_at s l n) m ≡ true → lacks m ≡ false
  unfolding lacks
  lacks_not n m alive there =
      let here = known_at s l n m there in
      ap not (knows-live s l m ∙ and_from (knows l m) (is_live_in s l (name_of s m)) here.0
      (ap (is_live_in s l) here.1 ∙ alive))

  no_marks : (n : CellName) → value s (marks_at s k n) ≡ None → false ≡ list_any lacks (keys (marks_at s k n))
  no_marks n e = sym (none_found lacks (marks_at s k n) (λ m known. absurd (nothing_there s is k n e m known)))

  -- the goal at a name that is live in k, by what l's cell contributes
  at_live : (n : CellName) → is_live_in s k n ≡ true → (y : Option Contribution) → value s (cell s l n) ≡ y
      → is_newer (value s (marks_at s k n)) y ≡ list_any lacks (keys (marks_at s k n))
  at_live n alive y ey =
      elim (value s (marks_at s k n)) as (λ x. value s (marks_at s k n) ≡ x
      → is_newer x y ≡ list_any lacks (keys (marks_at s k n))) [
        | None ↦ λ ea. no_marks n ea
        | Some a ↦ λ ea.
            let top = value_top s (marks_at s k n) a ea in
            elim (is_live_in s l n) as (λ b. is_live_in s l n ≡ b
            → is_newer (Some a) y ≡ list_any lacks (keys (marks_at s k n))) [
              | false ↦ λ dead.
                  ap (is_newer (Some a)) (sym ey ∙ value_cell s is l n
                  ∙ ap (λ b. cond b (value s (marks_at s l n)) None) dead)
                  ∙ sym (top_lacks n a ea (lacks_dead n top.mark (name_of_top n a ea) dead))
              | true ↦ λ live_l.
                  let at_l : value s (marks_at s l n) ≡ y =
                  sym (value_cell s is l n ∙ ap (λ b. cond b (value s (marks_at s l n)) None) live_l) ∙ ey in
                  elim y as (λ z. value s (marks_at s l n) ≡ z
                  → is_newer (Some a) z ≡ list_any lacks (keys (marks_at s k n))) [
                    | None ↦ λ eb. sym (top_lacks n a ea (not_theirs n top.mark (name_of_top n a ea)
                        (not_in n top.mark eb)))
                    | Some b ↦ λ eb. ⊎_elim
                        (λ h. lt-ltb b.version a.version h ∙ sym
                        (top_lacks n a ea (not_theirs n top.mark (name_of_top n a ea) (above n a b ea eb h))))
                        (λ h. le-ltb b.version a.version h ∙ sym (none_found lacks (marks_at s k n) (λ m known.
                        let tb = value_top s (marks_at s l n) b eb in
                        let bound : m.number ≤ a.version = top.others m (is_in-keys_of (marks_at s k n) m ∙ known) in
                        let is_b : tb.mark.number ≡ b.version = tb.number in
                        let lower : m.number ≤ tb.mark.number = omega arith in
                        lacks_not n m live_l (reaches s is w k l ck cl n live_l m tb.mark known
                        (sym (is_in-keys_of (marks_at s l n) tb.mark) ∙ tb.known) lower))))
                        (cases_lt b.version a.version)
                  ] at_l
            ] refl
      ] refl
    where
      not_in : (n : CellName) (m : Mark) → value s (marks_at s l n) ≡ None → knows (marks_at s l n) m ≡ false
      not_in n m e = elim (knows (marks_at s l n) m) as (λ b. knows (marks_at s l n) m ≡ b → b ≡ false) [
        | true ↦ λ h. absurd (nothing_there s is l n e m h)
        | false ↦ λ h. refl
      ] refl

      above : (n : CellName) (a b : Contribution) (ea : value s (marks_at s k n) ≡ Some a)
          (eb : value s (marks_at s l n) ≡ Some b) → b.version < a.version
          → knows (marks_at s l n) (value_top s (marks_at s k n) a ea).mark ≡ false
      above n a b ea eb h =
          let top = value_top s (marks_at s k n) a ea in
          let tb = value_top s (marks_at s l n) b eb in
          elim (knows (marks_at s l n) top.mark) as (λ c. knows (marks_at s l n) top.mark ≡ c → c ≡ false) [
            | true ↦ λ e.
                let bound : top.mark.number ≤ b.version =
                tb.others top.mark (is_in-keys_of (marks_at s l n) top.mark ∙ e) in
                let is_a : top.mark.number ≡ a.version = top.number in
                absurd (omega arith)
            | false ↦ λ e. refl
          ] refl

  by_version : (n : CellName) → is_newer (value s (cell s k n)) (value s (cell s l n))
      ≡ list_any lacks (keys (cell s k n))
  by_version n = elim (is_live_in s k n) as (λ b. is_live_in s k n ≡ b
      → is_newer (value s (cell s k n)) (value s (cell s l n)) ≡ list_any lacks (keys (cell s k n))) [
        | true ↦ λ e. subst (λ c. is_newer (value s c) (value s (cell s l n)) ≡ list_any lacks (keys c))
            (sym (cell_live s is k n e)) (at_live n e (value s (cell s l n)) refl)
        | false ↦ λ e. ap (λ v. is_newer v (value s (cell s l n))) (no_value s (cell s k n) (cell_dead s is k n e))
            ∙ sym (none_found lacks (cell s k n) (λ m known. absurd (true≢false (sym known ∙ cell_dead s is k n e m))))
      ] refl

  pub versions_differ : newer_names (cells_of_knowledge s k) (cells_of_knowledge s l) ≡ difference s k l
  unfolding newer_names difference lacks
  versions_differ =
      filter_agree (λ n. is_newer (get (cells_of_knowledge s k) n) (get (cells_of_knowledge s l) n))
      (λ n. list_any lacks (keys (cell s k n))) (λ n. (λ i. is_newer (get-state s k n i) (get-state s l n i))
      ∙ by_version n) (keys (cells_of_knowledge s k))
      ∙ ap (filter (λ n. list_any lacks (keys (cell s k n)))) (state_keys s k)

pub difference_is_by_versions : LackIsByVersions
difference_is_by_versions s w k l is ck cl = versions_differ s is w k l ck cl
