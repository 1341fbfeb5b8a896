-- Many cells, taken one after the other.
use Rattle.std.proofs.Common.{◌≡◌, ◌≢◌, ℕ, Bool, true, false, cond, ◌&&◌, ◌||◌, List, [], ◌∷◌, ◌++◌, fold, slice_get, refl, sym, ap, ◌∙◌, Option, Some}
use Rattle.std.specs.List.{list_any}
use Rattle.std.specs.Option.{option_map}
use Rattle.std.specs.Ordering.{nat_cmp, eq_by_cmp}
use Rattle.std.specs.Cmp.{nat_cmp_total, eq_by_cmp_equiv}
use Rattle.std.specs.FinMap.{empty, get, insert, get-insert, nat_cmp-IsAntisymmetric}
use Rattle.std.proofs.lemmas.List.Sums.{fold-append}
use Rattle.rr_text.specs.Options.{◌>>=◌}
use Rattle.rr_schema.specs.Schema.{Layout}
use Rattle.rr_join.proofs.Members.{same_from_tie}
use Rattle.rr_join.proofs.ValuesLemmas.{get-insert_itself, insert_there, insert_twice}
use Rattle.rr_cells.specs.CellNames.{CellName, cell_name_cmp}
use Rattle.rr_cells.specs.Samples.{name_of}
use Rattle.rr_cells.specs.Knowledge.{Knowledge, knows, union, live, cells_where, cells_named, difference, is_live_in}
use Rattle.rr_cells.proofs.Deliveries.{difference_brings_all}
use Rattle.rr_cells.proofs.Knowing.{knows-union, same_knowledge}
use Rattle.rr_cells.proofs.Orders.{cell_name_cmp_total}
use Rattle.rr_cells.proofs.ClosedCells.{knows-cells_where}
use Rattle.rr_nodes.specs.Nodes.{Node, Nodes, Model, Moment, took, all_held, held_at, after, after_all, taken, where_some}
use Rattle.rr_nodes.specs.Models.{sample_model}
use Rattle.rr_nodes.specs.Pulls.{takes, TakesAreInOrder, PullsBringAll}

-- ---- the other is as it was

pub held_elsewhere : {K : Type 0} (ns : Nodes K) (origin : ℕ) (n : Node K) (there : Moment) → there.origin ≢ origin
    → held_at (insert ns origin n) there ≡ held_at ns there
held_elsewhere {K} ns origin n there other =
    ap (λ (o : Option (Node K)). o >>= λ x. slice_get (all_held x) there.ago)
    (get-insert nat_cmp_total ns origin n there.origin
    ∙ elim (eq_by_cmp nat_cmp there.origin origin) as
    (λ b. eq_by_cmp nat_cmp there.origin origin ≡ b → cond b (Some n) (get ns there.origin) ≡ get ns there.origin) [
      | true ↦ λ t. absurd (other (same_from_tie nat_cmp_total nat_cmp-IsAntisymmetric there.origin origin t))
      | false ↦ λ t. refl
    ] refl)

pub takes_are_in_order : {K : Type 0} (model : Model K) → TakesAreInOrder model
takes_are_in_order model s ns origin there [] n k other here was =
    sym (insert_there nat_cmp_total nat_cmp-IsAntisymmetric ns origin n here)
takes_are_in_order {K} model s ns origin there (name ∷ names) n k other here was =
    let n' = taken model s origin n k name in
    let ns' = insert ns origin n' in
    let one : after model s ns (took origin there name) ≡ ns' =
    ap (λ (o : Option (Node K)). where_some o ns (λ x. where_some (held_at ns there) ns
    (λ l. insert ns origin (taken model s origin x l name)))) here
    ∙ ap (λ (o : Option K). where_some o ns (λ l. insert ns origin (taken model s origin n l name))) was in
    let last = fold (λ o q. taken model s origin o k q) n' names in
    ap (λ (m : Nodes K). fold (after model s) m (takes origin there names)) one
    ∙ takes_are_in_order model s ns' origin there names n' k other
    (get-insert_itself nat_cmp_total nat_cmp-IsAntisymmetric ns origin n')
    (held_elsewhere ns origin n' there other ∙ was)
    ∙ insert_twice nat_cmp_total nat_cmp-IsAntisymmetric ns origin n' last

-- ---- what they bring

module _ (s : Layout) (l : Knowledge) where
  abbrev with_cells : Knowledge → List CellName → Knowledge
  with_cells k names = fold (λ j name. union j (cells_where s l (eq_by_cmp cell_name_cmp name))) k names

  pub none_more : (k : Knowledge) → k ≡ union k (cells_named s l [])
  none_more k = same_knowledge k (union k (cells_named s l [])) (λ m.
      by (knows k m) (knows l m && is_live_in s l (name_of s m))
      ∙ ap (λ b. knows k m || b) (sym (knows-cells_where s l (λ n. list_any (eq_by_cmp cell_name_cmp n) []) m))
      ∙ sym (knows-union k (cells_named s l []) m))
    where
      by : (a p : Bool) → a ≡ (a || (p && false))
      by true p = refl
      by false true = refl
      by false false = refl

  one_and_more : (k : Knowledge) (name : CellName) (names : List CellName)
      → union (union k (cells_where s l (eq_by_cmp cell_name_cmp name))) (cells_named s l names)
      ≡ union k (cells_named s l (name ∷ names))
  one_and_more k name names =
      let one = cells_where s l (eq_by_cmp cell_name_cmp name) in
      same_knowledge (union (union k one) (cells_named s l names)) (union k (cells_named s l (name ∷ names))) (λ m.
      let q = name_of s m in
      let p = knows l m && is_live_in s l q in
      knows-union (union k one) (cells_named s l names) m
      ∙ ap (λ b. b || knows (cells_named s l names) m)
      (knows-union k one m ∙ ap (λ b. knows k m || b)
      (knows-cells_where s l (eq_by_cmp cell_name_cmp name) m
      ∙ ap (λ b. p && b) ((eq_by_cmp_equiv cell_name_cmp_total).symm name q)))
      ∙ ap (λ b. (knows k m || (p && eq_by_cmp cell_name_cmp q name)) || b)
      (knows-cells_where s l (λ n. list_any (eq_by_cmp cell_name_cmp n) names) m)
      ∙ by (knows k m) p (eq_by_cmp cell_name_cmp q name) (list_any (eq_by_cmp cell_name_cmp q) names)
      ∙ ap (λ b. knows k m || b) (sym (knows-cells_where s l (λ n. list_any (eq_by_cmp cell_name_cmp n) (name ∷ names))
      m))
      ∙ sym (knows-union k (cells_named s l (name ∷ names)) m))
    where
      by : (a p e r : Bool) → ((a || (p && e)) || (p && r)) ≡ (a || (p && (e || r)))
      by true p e r = refl
      by false true e r = refl
      by false false e r = refl

  all_more : (k : Knowledge) (names : List CellName) → with_cells k names ≡ union k (cells_named s l names)
  all_more k [] = none_more k
  all_more k (name ∷ names) = all_more (union k (cells_where s l (eq_by_cmp cell_name_cmp name))) names
      ∙ one_and_more k name names

  now_taken : (origin : ℕ) (n : Node Knowledge) (names : List CellName)
      → (fold (λ o name. taken sample_model s origin o l name) n names).now ≡ with_cells n.now names
  now_taken origin n [] = refl
  now_taken origin n (name ∷ names) = now_taken origin (taken sample_model s origin n l name) names

pub pulls_bring_all : PullsBringAll
pulls_bring_all s deeds origin there n k is other here was =
    let ns = after_all sample_model s deeds in
    let names = difference s k n.now in
    let last = fold (λ o name. taken sample_model s origin o k name) n names in
    let at : Moment = record { origin = origin; ago = 0 } in
    let all : after_all sample_model s (deeds ++ takes origin there names) ≡ insert ns origin last =
    fold-append (after sample_model s) empty deeds (takes origin there names)
    ∙ takes_are_in_order sample_model s ns origin there names n k other here was in
    ap (λ (m : Nodes Knowledge). option_map (live s) (held_at m at)) all
    ∙ ap (λ (o : Option (Node Knowledge)). option_map (live s) (o >>= λ x. slice_get (all_held x) 0))
    (get-insert_itself nat_cmp_total nat_cmp-IsAntisymmetric ns origin last)
    ∙ ap (λ (j : Knowledge). Some (live s j)) (now_taken s k origin n names ∙ all_more s k n.now names)
    ∙ ap Some (difference_brings_all s k n.now is)
