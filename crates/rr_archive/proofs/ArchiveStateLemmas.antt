-- The cells that rows hold: what stands at each cell slot, and what a change of one row changes.
use Rattle.std.proofs.Common.{◌≡◌, ℕ, ℤ, true, false, cond, ◌&&◌, ◌||◌, List, [], ◌∷◌, map, refl, sym, ap, ◌∙◌, subst, Option, Some, None, is_some, Ordering, Less, Equal, Greater, true≢false, eqb, int_cmp, nat_cmp, arith}
use Rattle.std.specs.Global.{Vec}
use Rattle.std.specs.BTreeMap.{is_at}
use Rattle.std.specs.Option.{option_and_then, option_map, unwrap_or}
use Rattle.std.specs.Ordering.{eq_by_cmp, is_eq, ordering_then}
use Rattle.std.specs.Cmp.{int_cmp_total, eq_by_cmp_equiv}
use Rattle.std.specs.FinMap.{get, insert, same_map, get-insert, int_cmp-IsAntisymmetric}
use Rattle.std.proofs.lemmas.Bool.{or_left, or_right, eqb-true, ltb-true}
use Rattle.std.proofs.lemmas.Bool.Decides.{nat_tests}
use Rattle.rr_join.proofs.Members.{is_in, is_in-append, tie_from_same, Equal_from_is_eq}
use Rattle.rr_join.proofs.Lookups.{get-map_of_all}
use Rattle.rr_contrib.specs.declared.contribution.Contribution.{Contribution}
use Rattle.rr_archive.specs.declared.entry.Entry.{Entry}
use Rattle.rr_archive.specs.CellSlots.{CellSlot, cell_slot, cell_slot_cmp}
use Rattle.std.specs.Prelude.{IsTrue, nat_lt, vec_len, vec_capacity, ◌<◌}
use Rattle.rr_archive.specs.Row.{entry_at, with_entry}
use Rattle.rr_archive.specs.ArchiveState.{row_in, cell_in, cell_slots_in, cells_in, has_room_in}
use Rattle.rr_archive.proofs.CellSlotOrder.{cell_slot_cmp_total, cell_slot_cmp-IsAntisymmetric}
use Rattle.rr_archive.proofs.RowLemmas.{entry_at-cons, entry_at-with_entry}

pub same_slot : (a b : ℤ) → is_eq (int_cmp a b) ≡ true → a ≡ b
same_slot a b e = int_cmp-IsAntisymmetric a b (Equal_from_is_eq (int_cmp a b) e)

-- ---- which cell slots have a cell

is_in-entries : (slot : ℤ) (es : List Entry) (q : CellSlot) → q.slot ≡ slot → is_some (entry_at es q.origin) ≡ true
    → is_in cell_slot_cmp (map (λ e. cell_slot slot e.origin) es) q ≡ true
is_in-entries slot [] q at some = absurd (true≢false (sym some))
is_in-entries slot (e ∷ es) q at some =
    elim (eqb e.origin q.origin) as (λ b. eqb e.origin q.origin ≡ b
    → is_some (cond b (Some e.contribution) (entry_at es q.origin)) ≡ true
    → is_in cell_slot_cmp (map (λ x. cell_slot slot x.origin) (e ∷ es)) q ≡ true) [
      | true ↦ λ t _. or_left _ _ (tie_from_same cell_slot_cmp_total cell_slot_cmp-IsAntisymmetric q
          (cell_slot slot e.origin) (λ i. record { slot = at i; origin = sym (eqb-true e.origin q.origin t) i }))
      | false ↦ λ t rest. or_right (eq_by_cmp cell_slot_cmp q (cell_slot slot e.origin)) _
          (is_in-entries slot es q at rest)
    ] refl (sym (ap is_some (entry_at-cons e es q.origin)) ∙ some)

is_in-cell_slots : (rows : List (ℤ × Vec Entry)) (q : CellSlot) → is_some (cell_in rows q) ≡ true
    → is_in cell_slot_cmp (cell_slots_in rows) q ≡ true
is_in-cell_slots [] q some = absurd (true≢false (sym some))
is_in-cell_slots (r ∷ rs) q some =
    is_in-append cell_slot_cmp_total cell_slot_cmp-IsAntisymmetric (map (λ e. cell_slot r.0 e.origin) r.1.items)
    (cell_slots_in rs) q
    ∙ elim (is_eq (int_cmp q.slot r.0)) as (λ b. is_eq (int_cmp q.slot r.0) ≡ b
    → is_some (option_and_then (λ (row : Vec Entry). entry_at row.items q.origin)
    (cond b (Some r.1) (row_in rs q.slot))) ≡ true
    → (is_in cell_slot_cmp (map (λ e. cell_slot r.0 e.origin) r.1.items) q
    || is_in cell_slot_cmp (cell_slots_in rs) q) ≡ true) [
      | true ↦ λ t here. or_left _ _ (is_in-entries r.0 r.1.items q (same_slot q.slot r.0 t) here)
      | false ↦ λ t rest. or_right (is_in cell_slot_cmp (map (λ e. cell_slot r.0 e.origin) r.1.items) q) _
          (is_in-cell_slots rs q rest)
    ] refl some

pub get-cells_in : (rows : List (ℤ × Vec Entry)) (q : CellSlot) → get (cells_in rows) q ≡ cell_in rows q
unfolding cells_in
get-cells_in rows q = get-map_of_all cell_slot_cmp_total cell_slot_cmp-IsAntisymmetric (cell_slots_in rows)
    (cell_in rows) (is_in-cell_slots rows) q

-- ---- a change of one row

pub cell_slots_tie : (q p : CellSlot) → eq_by_cmp cell_slot_cmp q p
    ≡ (is_eq (int_cmp p.slot q.slot) && eqb p.origin q.origin)
cell_slots_tie q p =
    both_tie (int_cmp q.slot p.slot) (nat_cmp q.origin p.origin)
    ∙ (λ i. (eq_by_cmp_equiv int_cmp_total).symm q.slot p.slot i && origins_tie q.origin p.origin i)
  where
    both_tie : (a b : Ordering) → is_eq (ordering_then a b) ≡ (is_eq a && is_eq b)
    both_tie Less b = refl
    both_tie Equal b = refl
    both_tie Greater b = refl

    origins_tie : (a b : ℕ) → is_eq (nat_cmp a b) ≡ eqb b a
    origins_tie a b = grind (arith, nat_tests)

pub cells_in-same : (old new : List (ℤ × Vec Entry)) → ((q : CellSlot) → cell_in new q ≡ cell_in old q)
    → cells_in new ≡ cells_in old
cells_in-same old new same = same_map cell_slot_cmp_total cell_slot_cmp-IsAntisymmetric _ _
    (λ q. get-cells_in new q ∙ same q ∙ sym (get-cells_in old q))

-- the entries of a row, if there is one
abbrev pub items_of : Option (Vec Entry) → List Entry
items_of None = []
items_of (Some row) = row.items

cell_is : (row : Option (Vec Entry)) (origin : ℕ)
    → option_and_then (λ (r : Vec Entry). entry_at r.items origin) row ≡ entry_at (items_of row) origin
cell_is None origin = refl
cell_is (Some row) origin = refl

-- a row that has one entry more than the slot's
pub cells_in-set : (old new : List (ℤ × Vec Entry)) (slot : ℤ) (origin : ℕ) (c : Contribution) (row : Vec Entry)
    → ((q : ℤ) → row_in new q ≡ cond (is_at (int_cmp slot) q) (Some row) (row_in old q))
    → ((o : ℕ) → entry_at row.items o ≡ cond (eqb origin o) (Some c) (entry_at (items_of (row_in old slot)) o))
    → cells_in new ≡ insert (cells_in old) (cell_slot slot origin) c
cells_in-set old new slot origin c row updates entry =
    same_map cell_slot_cmp_total cell_slot_cmp-IsAntisymmetric _ _ (λ q.
    get-cells_in new q
    ∙ ap (option_and_then (λ (r : Vec Entry). entry_at r.items q.origin)) (updates q.slot)
    ∙ elim (is_eq (int_cmp slot q.slot)) as (λ b. is_eq (int_cmp slot q.slot) ≡ b
    → option_and_then (λ (r : Vec Entry). entry_at r.items q.origin) (cond b (Some row) (row_in old q.slot))
    ≡ cond (b && eqb origin q.origin) (Some c) (cell_in old q)) [
      | true ↦ λ t. entry q.origin ∙ ap (cond (eqb origin q.origin) (Some c))
          (sym (cell_is (row_in old slot) q.origin) ∙ ap
          (λ s. option_and_then (λ (r : Vec Entry). entry_at r.items q.origin) (row_in old s))
          (same_slot slot q.slot t))
      | false ↦ λ t. refl
    ] refl
    ∙ ap (λ b. cond b (Some c) (cell_in old q)) (sym (cell_slots_tie q (cell_slot slot origin)))
    ∙ ap (cond (eq_by_cmp cell_slot_cmp q (cell_slot slot origin)) (Some c)) (sym (get-cells_in old q))
    ∙ sym (get-insert cell_slot_cmp_total (cells_in old) (cell_slot slot origin) c q))

-- new rows are the old ones, but for the row of a slot
pub record Sets (old new : List (ℤ × Vec Entry)) (slot : ℤ) (row : Vec Entry) : Type 0 where
  pub at : (q : ℤ) → row_in new q ≡ cond (is_at (int_cmp slot) q) (Some row) (row_in old q)

pub set_found : (old new : List (ℤ × Vec Entry)) (slot : ℤ) (row was : Vec Entry) (entry : Entry)
    → Sets old new slot row → Some was ≡ row_in old slot → row.items ≡ with_entry was.items entry
    → cells_in new ≡ insert (cells_in old) (cell_slot slot entry.origin) entry.contribution
set_found old new slot row was entry sets has is =
    cells_in-set old new slot entry.origin entry.contribution row sets.at (λ o.
    ap (λ es. entry_at es o) is ∙ entry_at-with_entry was.items entry o
    ∙ ap (λ r. cond (eqb entry.origin o) (Some entry.contribution) (entry_at (items_of r) o)) has)

pub set_fresh : (old new : List (ℤ × Vec Entry)) (slot : ℤ) (row : Vec Entry) (entry : Entry) → Sets old new slot row
    → None ≡ row_in old slot → row.items ≡ entry ∷ []
    → cells_in new ≡ insert (cells_in old) (cell_slot slot entry.origin) entry.contribution
set_fresh old new slot row entry sets has is = cells_in-set old new slot entry.origin entry.contribution row sets.at
    (λ o.
    ap (λ es. entry_at es o) is ∙ entry_at-cons entry [] o
    ∙ ap (λ r. cond (eqb entry.origin o) (Some entry.contribution) (entry_at (items_of r) o)) has)

-- a row that has the entries of the slot's
pub set_alike : (old new : List (ℤ × Vec Entry)) (slot : ℤ) (row : Vec Entry) → Sets old new slot row
    → row.items ≡ items_of (row_in old slot) → cells_in new ≡ cells_in old
set_alike old new slot row sets is = cells_in-same old new (λ q.
    ap (option_and_then (λ (r : Vec Entry). entry_at r.items q.origin)) (sets.at q.slot)
    ∙ elim (is_eq (int_cmp slot q.slot)) as (λ b. is_eq (int_cmp slot q.slot) ≡ b
    → option_and_then (λ (r : Vec Entry). entry_at r.items q.origin) (cond b (Some row) (row_in old q.slot))
    ≡ cell_in old q) [
      | true ↦ λ t.
          ap (λ es. entry_at es q.origin) is ∙ sym (cell_is (row_in old slot) q.origin)
          ∙ ap (λ s. option_and_then (λ (r : Vec Entry). entry_at r.items q.origin) (row_in old s))
          (same_slot slot q.slot t)
      | false ↦ λ t. refl
    ] refl)

-- ---- room in the row of a slot

pub room_is : (rows : List (ℤ × Vec Entry)) (p : CellSlot) (row : Vec Entry) → Some row ≡ row_in rows p.slot
    → IsTrue (has_room_in rows p) → vec_len row < vec_capacity row
room_is rows p row has room = ltb-true (vec_len row) (vec_capacity row)
    (subst (λ r. unwrap_or (option_map (λ (w : Vec Entry). nat_lt (vec_len w) (vec_capacity w)) r) false ≡ true)
    (sym has) room)

pub no_room : (rows : List (ℤ × Vec Entry)) (p : CellSlot) → None ≡ row_in rows p.slot → IsTrue (has_room_in rows p) → ⊥
no_room rows p none room = true≢false (sym (subst
    (λ r. unwrap_or (option_map (λ (w : Vec Entry). nat_lt (vec_len w) (vec_capacity w)) r) false ≡ true) (sym none)
    room))

-- ---- the cell at a cell slot

-- where the slot has a row, the cell is the entry of the origin
pub cell_here : (rows : List (ℤ × Vec Entry)) (p : CellSlot) (row : Vec Entry) → Some row ≡ row_in rows p.slot
    → get (cells_in rows) p ≡ entry_at row.items p.origin
cell_here rows p row has = get-cells_in rows p ∙ ap (option_and_then (λ (r : Vec Entry). entry_at r.items p.origin))
    (sym has)

-- where it has none, there is no cell
pub cell_nowhere : (rows : List (ℤ × Vec Entry)) (p : CellSlot) → None ≡ row_in rows p.slot
    → get (cells_in rows) p ≡ None
cell_nowhere rows p none = get-cells_in rows p ∙ ap (option_and_then (λ (r : Vec Entry). entry_at r.items p.origin))
    (sym none)
