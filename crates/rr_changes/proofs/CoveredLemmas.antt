-- The cells in the slots of ranges that cover all operations.
use Rattle.std.proofs.Common.{◌≡◌, ℕ, zero, suc, ◌≤◌, ◌*◌, ◌/◌, ℤ, pos, negsuc, Bool, true, false, cond, List, [], ◌∷◌, fold, refl, sym, ap, ◌∙◌, subst, arith, true≢false, Option, Some, None, is_some, ⊎_elim, ◌⊎◌, inl, inr}
use Rattle.std.specs.Prelude.{int_le, nat_eq}
use Rattle.std.specs.Int.{int_div_euclid}
use Rattle.std.specs.Cmp.Lexicographic.{pointwise}
use Rattle.std.specs.List.{list_any}
use Rattle.std.specs.FinMap.{get, retain_keys, get-retain_keys}
use Rattle.std.proofs.Math.Nat.{div-zero, div-mul-le_self}
use Rattle.std.proofs.lemmas.Bool.{and_from, or_left, or_right}
use Rattle.std.proofs.lemmas.Int.{ints}
use Rattle.std.proofs.lemmas.Nat.{le-div}
use Rattle.rr_schema.specs.Schema.{Layout, slot_of, span}
use Rattle.rr_join.proofs.Booleans.{and_first, and_second, either_case}
use Rattle.rr_join.proofs.Keys.{entries-retain}
use Rattle.rr_contrib.specs.declared.contribution.Contribution.{Contribution}
use Rattle.rr_cells.specs.declared.op.Op.{Op}
use Rattle.rr_cells.specs.CellNames.{CellName}
use Rattle.rr_cells.specs.Cells.{Cells}
use Rattle.rr_cells.specs.Joins.{join_cells}
use Rattle.rr_cells.specs.Operations.{op_key, step}
use Rattle.rr_cells.specs.ReplicaState.{ReplicaState}
use Rattle.rr_cells.proofs.CellByCell.{join_goes_by_cells}
use Rattle.rr_cells.proofs.OperationsLemmas.{step-schema}
use Rattle.rr_cells.proofs.Orders.{cell_name_cmp_total, cell_name_cmp-IsAntisymmetric}
use Rattle.rr_changes.specs.declared.changed_series.ChangedSeries.{ChangedSeries}
use Rattle.rr_changes.specs.declared.time_range.TimeRange.{TimeRange}
use Rattle.rr_changes.specs.declared.time_range.ChangeTimes.{ChangeTimes}
use Rattle.rr_changes.specs.Updates.{AreWrites, GoesOn, IsPlaceOf, op_time}
use Rattle.rr_changes.specs.ChangeTimes.{is_in_range, is_in_times}
use Rattle.rr_changes.specs.Changes.{AreCovered, is_cell_in, is_covered, is_op_in, is_slot_in_range, is_slot_in_times, is_within, writes_of}
use Rattle.rr_changes.specs.ChangeLaws.{CoveredCellsAreAnUpdate, CoveredCellsMakeTheCells, PeriodsAreWrites}
use Rattle.rr_changes.proofs.AddingLemmas.{operations_go_on, step_goes_on, step_places, operations_only_add}
use Rattle.rr_changes.proofs.HoldingLemmas.{update_makes_the_cells}

-- ---- a later time is in no earlier slot

div_rises : (a b d : ℕ) → a ≤ b → a / d ≤ b / d
div_rises a b zero le = rw (div-zero a, div-zero b) (omega arith)
div_rises a b (suc d) le = le-div (a / suc d) b (suc d) (omega arith)
    (let under = div-mul-le_self a (suc d) in omega arith)

quotient_rises : (a b : ℤ) (d : ℕ) → int_le a b ≡ true
    → int_le (int_div_euclid a (pos d)) (int_div_euclid b (pos d)) ≡ true
quotient_rises (pos a) (pos b) d le = let h = div_rises a b d (omega (arith, ints)) in grind (arith, ints)
quotient_rises (pos a) (negsuc b) d le = absurd (omega (arith, ints))
quotient_rises (negsuc a) (pos b) d le = grind (arith, ints)
quotient_rises (negsuc a) (negsuc b) d le = let h = div_rises b a d (omega (arith, ints)) in grind (arith, ints)

slot_rises : (s : Layout) (archive : ℕ) (a b : ℤ) → int_le a b ≡ true
    → int_le (slot_of s archive a) (slot_of s archive b) ≡ true
slot_rises s archive a b le = quotient_rises a b (span s archive * 1_000_000_000) le

-- the slot of a time in a range is one of the range's
slot_in_range : (s : Layout) (archive : ℕ) (p : TimeRange) (time : ℤ) → is_in_range p time ≡ true
    → is_slot_in_range s archive p (slot_of s archive time) ≡ true
slot_in_range s archive p time e =
    let from = int_le p.first time in
    let to = int_le time p.last in
    and_from (int_le (slot_of s archive p.first) (slot_of s archive time))
    (int_le (slot_of s archive time) (slot_of s archive p.last))
    (slot_rises s archive p.first time (and_first from to e))
    (slot_rises s archive time p.last (and_second from to e))

slot_in_times : (s : Layout) (archive : ℕ) (ps : ChangeTimes) (time : ℤ) → is_in_times ps time ≡ true
    → is_slot_in_times s archive ps (slot_of s archive time) ≡ true
slot_in_times s archive ps time e =
    let slot = slot_of s archive time in
    either_case (is_in_range ps.recent time) (is_in_range ps.late time) e
    (λ recent. or_left (is_slot_in_range s archive ps.recent slot) (is_slot_in_range s archive ps.late slot)
    (slot_in_range s archive ps.recent time recent))
    (λ late. or_right (is_slot_in_range s archive ps.recent slot) (is_slot_in_range s archive ps.late slot)
    (slot_in_range s archive ps.late time late))

-- the place of an operation of a series, at a time in its ranges, is a cell of the series in a slot of them
cell_in : (s : Layout) (own : ChangedSeries) (op : Op) (n : CellName) → IsPlaceOf s op n → is_op_in own op ≡ true
    → is_cell_in s own n ≡ true
cell_in s own op n place e =
    let key = pointwise nat_eq (op_key op) own.key in
    let times = is_in_times own.times (op_time op) in
    and_from (pointwise nat_eq n.key own.key) (is_slot_in_times s n.archive own.times n.slot)
    (ap (λ (k : List ℕ). pointwise nat_eq k own.key) place.key ∙ and_first key times e)
    (ap (is_slot_in_times s n.archive own.times) place.slot
    ∙ slot_in_times s n.archive own.times (op_time op) (and_second key times e))

any_too : (p q : ChangedSeries → Bool) (series : List ChangedSeries) → ((own : ChangedSeries) → p own ≡ true
    → q own ≡ true)
    → list_any p series ≡ true → list_any q series ≡ true
any_too p q [] each e = e
any_too p q (own ∷ series) each e =
    either_case (p own) (list_any p series) e (λ h. or_left (q own) (list_any q series) (each own h))
    (λ h. or_right (q own) (list_any q series) (any_too p q series each h))

-- ---- cells within ranges

covered_place : (s : Layout) (series : List ChangedSeries) (op : Op) (n : CellName) → is_covered series op ≡ true
    → IsPlaceOf s op n → is_within s series n ≡ true
covered_place s series op n covered place =
    any_too (λ own. is_op_in own op) (λ own. is_cell_in s own n) series (λ own e. cell_in s own op n place e) covered

covered_cases : (ops : List Op) (h : ReplicaState) (series : List ChangedSeries) → GoesOn h → AreCovered series h ops
    → (n : CellName) (c : Contribution) → get (fold step h ops).cells n ≡ Some c
    → (get h.cells n ≡ Some c) ⊎ (is_within h.schema series n ≡ true)
covered_cases [] h series goes all n c e = inl e
covered_cases (op ∷ ops) h series goes all n c e = ⊎_elim
    (λ was. ⊎_elim
    (λ covered. ⊎_elim (λ before. inl before) (λ place. inr (covered_place h.schema series op n covered place))
    (step_places h goes op n c was))
    (λ same. inl (ap (λ (m : Cells). get m n) (sym same) ∙ was))
    all.0)
    (λ within. inr (subst (λ s. is_within s series n ≡ true) (step-schema h op) within))
    (covered_cases ops (step h op) series (step_goes_on h goes op) all.1 n c e)

-- a part of a map by names has what the map has at these
get_part : (m : Cells) (test : CellName → Bool) (n : CellName) → get (retain_keys m test) n
    ≡ cond (test n) (get m n) None
get_part m test n = get-retain_keys m test n (λ x t. ap test (sym (cell_name_cmp-IsAntisymmetric n x t)))

kept_is : (b : Bool) (o : Option Contribution) (c : Contribution) → cond b o None ≡ Some c → o ≡ Some c
kept_is true o c e = e
kept_is false o c e = absurd (true≢false (sym (ap is_some e)))

pub covered_cells_are_an_update : CoveredCellsAreAnUpdate
covered_cells_are_an_update h ops series goes covered =
    let m = (fold step h ops).cells in
    let test = is_within h.schema series in
    record {
      part = λ n c e. kept_is (test n) (get m n) c (sym (get_part m test n) ∙ e);
      whole = λ n c e. ⊎_elim (λ was. inl was)
          (λ at. inr (get_part m test n ∙ ap (λ b. cond b (get m n) None) at ∙ e))
          (covered_cases ops h series goes covered n c e);
    }

pub covered_cells_make_the_cells : CoveredCellsMakeTheCells
covered_cells_make_the_cells h ops series goes covered =
    let s = h.schema in
    let m = (fold step h ops).cells in
    let update : Cells = retain_keys m (is_within s series) in
    ap (join_cells s h.cells) (sym (entries-retain cell_name_cmp_total cell_name_cmp-IsAntisymmetric m
    (is_within s series)))
    ∙ join_goes_by_cells s h.cells update goes.layout goes.live
    ∙ update_makes_the_cells s h.cells m update goes.layout (operations_only_add h ops goes)
    (covered_cells_are_an_update h ops series goes covered)

-- ---- one write after the other

steps_schema : (ops : List Op) (h : ReplicaState) → (fold step h ops).schema ≡ h.schema
steps_schema [] h = refl
steps_schema (op ∷ ops) h = steps_schema ops (step h op) ∙ step-schema h op

pub periods_are_writes : PeriodsAreWrites
periods_are_writes h [] goes are = tt
periods_are_writes h (p ∷ later) goes are =
    let after = fold step h p.ops in (
      operations_only_add h p.ops goes,
      covered_cells_are_an_update h p.ops p.series goes are.0,
      subst (λ s. AreWrites s after.cells (writes_of after later)) (steps_schema p.ops h)
          (periods_are_writes after later (operations_go_on h p.ops goes) are.1),
    )
