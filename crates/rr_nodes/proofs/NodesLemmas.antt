-- Nodes that hold cells, and nodes that hold marks: what stands at them, and how it stays without gaps.
use Rattle.std.proofs.Common.{◌≡◌, ◌≢◌, ℕ, zero, suc, ◌+◌, ◌<◌, ◌≤◌, ◌&&◌, ℤ, Bool, true, false, cond, IsTrue, List, [], ◌∷◌, map, slice_get, refl, sym, ap, ◌∙◌, subst, arith, true≢false, ⊎_elim, Option, Some, None, is_some}
use Rattle.std.specs.Option.{option_map}
use Rattle.std.specs.List.{AllByRecursion}
use Rattle.std.specs.Ordering.{nat_cmp, eq_by_cmp}
use Rattle.std.specs.Cmp.{nat_cmp_total}
use Rattle.std.specs.FinMap.{empty, get, insert, contains_key, retain_keys, get-empty, get-insert, get-retain_keys, same_map, nat_cmp-IsAntisymmetric}
use Rattle.rr_text.specs.Options.{◌>>=◌}
use Rattle.rr_schema.specs.Schema.{Layout, IsLayout}
use Rattle.rr_join.proofs.Members.{same_from_tie}
use Rattle.rr_join.proofs.ValuesLemmas.{insert_cases, get-insert_itself, get-map_values}
use Rattle.rr_cells.specs.CellNames.{CellName, cell_name_cmp}
use Rattle.rr_cells.specs.Samples.{Sample, name_of, marks_of}
use Rattle.rr_cells.specs.Knowledge.{Knowledge, IsAheadOf, union, with_marks, cell, cells_where, is_live_in}
use Rattle.rr_cells.specs.World.{World, IsWritten, IsNext, IsClosed, HoldsAllOf, with_sample}
use Rattle.rr_cells.proofs.Knowing.{knows-cell, knows-empty}
use Rattle.rr_cells.proofs.Orders.{cell_name_cmp_total, cell_name_cmp-IsAntisymmetric}
use Rattle.rr_cells.proofs.ClosedCells.{whole_cells_are_closed}
use Rattle.rr_cells.proofs.Writes.{others_stay_closed, others_hold_own, writer_stays_closed, writer_holds_own, union_is_closed, union_holds_own, written_now}
use Rattle.rr_cells.specs.Cells.{Cells}
use Rattle.rr_cells.specs.Joining.{next_after}
use Rattle.rr_cells.specs.Joins.{join, join_cell}
use Rattle.rr_cells.specs.State.{cells_of_knowledge}
use Rattle.rr_cells.proofs.CellByCell.{join_cell_unites, join_nothing}
use Rattle.rr_cells.proofs.States.{get-state, no_value, state_is_trimmed}
use Rattle.rr_cells.proofs.Uniting.{join_states}
use Rattle.rr_cells.proofs.WholeCells.{state_where}
use Rattle.rr_cells.proofs.WrittenCells.{next_after_earlier, versions_are_below}
use Rattle.rr_nodes.specs.Nodes.{Node, Nodes, Moment, where_some, held_at, all_held, holding}
use Rattle.rr_nodes.specs.Models.{cell_model}
use Rattle.rr_nodes.specs.Laws.{node_in_cells, in_cells, IsSound}

-- ---- what nodes hold, in cells

slice_of_map : {X Y : Type 0} (f : X → Y) (xs : List X) (i : ℕ) → slice_get (map f xs) i ≡ option_map f (slice_get xs i)
slice_of_map f [] i = refl
slice_of_map f (x ∷ xs) zero = refl
slice_of_map f (x ∷ xs) (suc i) = slice_of_map f xs i

pub get_in_cells : (s : Layout) (ns : Nodes Knowledge) (origin : ℕ)
    → get (in_cells s ns) origin ≡ option_map (node_in_cells s) (get ns origin)
get_in_cells s ns origin = get-map_values nat_cmp_total nat_cmp-IsAntisymmetric (node_in_cells s) ns origin

pub held_in_cells : (s : Layout) (ns : Nodes Knowledge) (there : Moment)
    → held_at (in_cells s ns) there ≡ option_map (cells_of_knowledge s) (held_at ns there)
held_in_cells s ns there = ap (λ (o : Option (Node Cells)). o >>= λ n. slice_get (all_held n) there.ago)
    (get_in_cells s ns there.origin) ∙ by (get ns there.origin)
  where
    by : (o : Option (Node Knowledge)) → (option_map (node_in_cells s) o >>= λ n. slice_get (all_held n) there.ago)
        ≡ option_map (cells_of_knowledge s) (o >>= λ n. slice_get (all_held n) there.ago)
    by None = refl
    by (Some n) = slice_of_map (cells_of_knowledge s) (all_held n) there.ago

pub nothing_in_cells : (s : Layout) → empty ≡ cells_of_knowledge s empty
nothing_in_cells s = same_map cell_name_cmp_total cell_name_cmp-IsAntisymmetric empty (cells_of_knowledge s empty) (λ n.
    get-empty cell_name_cmp n ∙ sym (get-state s empty n ∙ no_value s (cell s empty n) (λ m.
    knows-cell s empty n m ∙ ap (λ b. (b && is_live_in s empty (name_of s m))
    && eq_by_cmp cell_name_cmp (name_of s m) n) (knows-empty m))))

-- ---- a cell that is taken

module _ (s : Layout) (is : IsLayout s) (w : World) (k l : Knowledge) (ck : IsClosed s w k) (cl : IsClosed s w l)
    (name : CellName) where
  abbrev cell_there : Knowledge
  cell_there = cells_where s l (eq_by_cmp cell_name_cmp name)

  pub there_is_closed : IsClosed s w cell_there
  there_is_closed = whole_cells_are_closed s w l (eq_by_cmp cell_name_cmp name) cl

  -- where there is none, the marks of its name bring nothing
  none_is_nothing : get (cells_of_knowledge s l) name ≡ None
      → retain_keys (cells_of_knowledge s l) (eq_by_cmp cell_name_cmp name) ≡ empty
  none_is_nothing none = same_map cell_name_cmp_total cell_name_cmp-IsAntisymmetric
      (retain_keys (cells_of_knowledge s l) (eq_by_cmp cell_name_cmp name)) empty (λ q.
      get-retain_keys (cells_of_knowledge s l) (eq_by_cmp cell_name_cmp name) q
      (λ x t. ap (eq_by_cmp cell_name_cmp name) (sym (cell_name_cmp-IsAntisymmetric q x t)))
      ∙ elim (eq_by_cmp cell_name_cmp name q) as (λ b. eq_by_cmp cell_name_cmp name q ≡ b
      → cond b (get (cells_of_knowledge s l) q) None ≡ None) [
        | true ↦ λ t. ap (get (cells_of_knowledge s l))
            (sym (same_from_tie cell_name_cmp_total cell_name_cmp-IsAntisymmetric name q t)) ∙ none
        | false ↦ λ t. refl
      ] refl
      ∙ sym (get-empty cell_name_cmp q))

  none_is_taken : get (cells_of_knowledge s l) name ≡ None
      → cells_of_knowledge s k ≡ cells_of_knowledge s (union k cell_there)
  none_is_taken none =
      join_nothing s (cells_of_knowledge s k) (state_is_trimmed s is k)
      ∙ ap (join s (cells_of_knowledge s k)) (sym (state_where s is l (eq_by_cmp cell_name_cmp name)
      ∙ none_is_nothing none))
      ∙ join_states s is w k cell_there ck there_is_closed

  pub cells_taken : (cell_model.with_cell) s (cells_of_knowledge s k) (cells_of_knowledge s l) name
      ≡ cells_of_knowledge s (union k cell_there)
  cells_taken = elim (get (cells_of_knowledge s l) name) as
      (λ o. get (cells_of_knowledge s l) name ≡ o → where_some o (cells_of_knowledge s k)
      (λ c. join_cell s (cells_of_knowledge s k) name c) ≡ cells_of_knowledge s (union k cell_there)) [
        | None ↦ λ e. none_is_taken e
        | Some c ↦ λ e. join_cell_unites s w k l name c is ck cl e
      ] refl

-- ---- the next number stays

module _ (s : Layout) (w : World) (origin next : ℕ)
    (past : (x : Sample) → IsWritten w x → x.origin ≡ origin → x.number < next) (l : Knowledge)
    (cl : IsClosed s w l) where
  pub next_stays : (name : CellName) → (cell_model.next_past) origin next (cells_of_knowledge s l) name ≡ next
  next_stays name = elim (get (cells_of_knowledge s l) name) as
      (λ o. get (cells_of_knowledge s l) name ≡ o → where_some o next (λ c. next_after origin next (name, c)) ≡ next) [
        | None ↦ λ e. refl
        | Some c ↦ λ e. next_after_earlier origin next (name, c) (versions_are_below s w l origin next cl past name c e)
      ] refl

-- ---- sound nodes

each_closed : (s : Layout) (w v : World) (ks : List Knowledge) → ((k : Knowledge) → IsClosed s w k → IsClosed s v k)
    → AllByRecursion (IsClosed s w) ks → AllByRecursion (IsClosed s v) ks
each_closed s w v [] f all = tt
each_closed s w v (k ∷ ks) f all = (f k all.0, each_closed s w v ks f all.1)

at_slice : (P : Knowledge → Type 0) (ks : List Knowledge) (i : ℕ) (k : Knowledge) → AllByRecursion P ks
    → slice_get ks i ≡ Some k → P k
at_slice P [] i k all e = absurd cc
at_slice P (l ∷ ks) zero k all e = let same : l ≡ k = cc in subst P same all.0
at_slice P (l ∷ ks) (suc i) k all e = at_slice P ks i k all.1 e

pub held_is_closed : (s : Layout) (w : World) (ns : Nodes Knowledge) → IsSound s w ns → (there : Moment) (k : Knowledge)
    → held_at ns there ≡ Some k → IsClosed s w k
held_is_closed s w ns sound there k = by (get ns there.origin) refl
  where
    by : (o : Option (Node Knowledge)) → get ns there.origin ≡ o
        → (o >>= λ n. slice_get (all_held n) there.ago) ≡ Some k → IsClosed s w k
    by None e h = absurd cc
    by (Some n) e h = at_slice (IsClosed s w) (all_held n) there.ago k (sound.closed there.origin n e) h

put_cases : {P : Type 0} (ns : Nodes Knowledge) (origin : ℕ) (n : Node Knowledge) (q : ℕ) (o : Node Knowledge)
    → get (insert ns origin n) q ≡ Some o → (q ≡ origin → n ≡ o → P) → (q ≢ origin → get ns q ≡ Some o → P) → P
put_cases ns origin n q o = insert_cases nat_cmp_total nat_cmp-IsAntisymmetric ns origin n q o

still_there : (ns : Nodes Knowledge) (origin : ℕ) (n : Node Knowledge) (q : ℕ) → IsTrue (is_some (get ns q))
    → IsTrue (is_some (get (insert ns origin n) q))
still_there ns origin n q there = subst (λ (o : Option (Node Knowledge)). IsTrue (is_some o))
    (sym (get-insert nat_cmp_total ns origin n q)) (by (eq_by_cmp nat_cmp q origin))
  where
    by : (b : Bool) → IsTrue (is_some (cond b (Some n) (get ns q)))
    by true = refl
    by false = there

module _ (s : Layout) (is : IsLayout s) (w : World) (ns : Nodes Knowledge) (sound : IsSound s w ns) (origin : ℕ) where
  -- a node more
  pub new_is_sound : (k : Knowledge) → IsClosed s w k → contains_key ns origin ≡ false
      → IsSound s w (insert ns origin (record { next = 1; now = k; before = [] }))
  new_is_sound k ck unused =
      let none : (x : Sample) → IsWritten w x → x.origin ≢ origin =
      λ x was same. true≢false (sym (sound.written x was) ∙ ap (λ (o : ℕ). is_some (get ns o)) same ∙ unused) in
      let new : Node Knowledge = record { next = 1; now = k; before = [] } in
      record {
        closed = λ q o e. put_cases ns origin new q o e
            (λ at same. subst (λ (n : Node Knowledge). AllByRecursion (IsClosed s w) (all_held n)) same (ck, tt))
            (λ other here. sound.closed q o here);
        own = λ q o e. put_cases ns origin new q o e
            (λ at same m of is. absurd (none m.sample of.0 (is ∙ at)))
            (λ other here. sound.own q o here);
        past = λ q o e x was is. put_cases ns origin new q o e
            (λ at same. absurd (none x was (is ∙ at)))
            (λ other here. sound.past q o here x was is);
        some_number = λ q o e. put_cases ns origin new q o e
            (λ at same. subst (λ (n : Node Knowledge). 1 ≤ n.next) same (omega arith))
            (λ other here. sound.some_number q o here);
        written = λ x was. still_there ns origin new x.origin (sound.written x was);
      }

  module _ (n : Node Knowledge) (here : get ns origin ≡ Some n) where
    -- a node that takes in what has no gaps
    pub taken_is_sound : (k : Knowledge) → IsClosed s w k
        → IsSound s w (insert ns origin (holding n n.next (union n.now k)))
    taken_is_sound k ck =
        let all = sound.closed origin n here in
        let new = holding n n.next (union n.now k) in
        record {
          closed = λ q o e. put_cases ns origin new q o e
              (λ at same. subst (λ (n : Node Knowledge). AllByRecursion (IsClosed s w) (all_held n)) same
              (union_is_closed s w n.now k is all.0 ck, all))
              (λ other there. sound.closed q o there);
          own = λ q o e. put_cases ns origin new q o e
              (λ at same. subst (λ (y : ℕ × Node Knowledge). HoldsAllOf s w y.1.now y.0) (λ i. (sym at i, same i))
              (union_holds_own s w n.now k origin (sound.own origin n here)))
              (λ other there. sound.own q o there);
          past = λ q o e x was is. put_cases ns origin new q o e
              (λ at same. subst (λ (y : Node Knowledge). x.number < y.next) same
              (sound.past origin n here x was (is ∙ at)))
              (λ other there. sound.past q o there x was is);
          some_number = λ q o e. put_cases ns origin new q o e
              (λ at same. subst (λ (y : Node Knowledge). 1 ≤ y.next) same (sound.some_number origin n here))
              (λ other there. sound.some_number q o there);
          written = λ x was. still_there ns origin new x.origin (sound.written x was);
        }

    -- a node that writes
    module _ (key : List ℕ) (time value : ℤ) where
      abbrev x : Sample
      x = record { time = time; origin = origin; number = n.next; key = key; value = value }

      pub is_next : IsNext w x
      is_next y was same = sound.past origin n here y was same

      pub is_ahead : IsAheadOf x n.now
      is_ahead m known same = is_next m.sample ((sound.closed origin n here).0.written m known).0 same

      abbrev writer : Node Knowledge
      writer = holding n (n.next + 1) (with_marks n.now (marks_of s x))

      closed_then : (k : Knowledge) → IsClosed s w k → IsClosed s (with_sample w x) k
      closed_then k ck = others_stay_closed s w k x ck is_next

      pub written_is_sound : IsSound s (with_sample w x) (insert ns origin writer)
      written_is_sound =
          let all = sound.closed origin n here in
          let own = sound.own origin n here in
          record {
            closed = λ q o e. put_cases ns origin writer q o e
                (λ at same. subst (λ (n : Node Knowledge). AllByRecursion (IsClosed s (with_sample w x)) (all_held n))
                same (
                  writer_stays_closed s w n.now x is all.0 is_next own,
                  each_closed s w (with_sample w x) (all_held n) closed_then all,
                ))
                (λ other there. each_closed s w (with_sample w x) (all_held o) closed_then (sound.closed q o there));
            own = λ q o e. put_cases ns origin writer q o e
                (λ at same. subst (λ (y : ℕ × Node Knowledge). HoldsAllOf s (with_sample w x) y.1.now y.0)
                (λ i. (sym at i, same i)) (writer_holds_own s w n.now x own))
                (λ other there. others_hold_own s w o.now x q other (sound.own q o there));
            past = λ q o e y was is. put_cases ns origin writer q o e
                (λ at same. subst (λ (z : Node Knowledge). y.number < z.next) same (⊎_elim
                (λ (t : y ≡ x). let number : y.number ≡ n.next = ap (λ (z : Sample). z.number) t in
                omega (arith, number))
                (λ (old : IsWritten w y). let below : y.number < n.next = sound.past origin n here y old (is ∙ at) in
                omega (arith, below))
                (written_now w x y was)))
                (λ other there. ⊎_elim
                (λ (t : y ≡ x). absurd (other (sym is ∙ ap (λ (z : Sample). z.origin) t)))
                (λ (old : IsWritten w y). sound.past q o there y old is)
                (written_now w x y was));
            some_number = λ q o e. put_cases ns origin writer q o e
                (λ at same. subst (λ (z : Node Knowledge). 1 ≤ z.next) same (omega arith))
                (λ other there. sound.some_number q o there);
            written = λ y was. ⊎_elim
                (λ (t : y ≡ x). subst (λ (q : ℕ). IsTrue (is_some (get (insert ns origin writer) q)))
                (sym (ap (λ (z : Sample). z.origin) t)) (ap is_some
                (get-insert_itself nat_cmp_total nat_cmp-IsAntisymmetric ns origin writer)))
                (λ (old : IsWritten w y). still_there ns origin writer y.origin (sound.written y old))
                (written_now w x y was);
          }
