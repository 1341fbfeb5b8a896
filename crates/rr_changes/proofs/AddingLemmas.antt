-- Operations only add to cells, and what they change.
use Rattle.std.proofs.Common.{◌≡◌, ℕ, ◌+◌, ◌<◌, ◌≤◌, Bool, true, false, cond, ◌&&◌, List, [], ◌∷◌, ◌++◌, map, fold, length, refl, sym, ap, ◌∙◌, subst, arith, true≢false, Ordering, Equal, Greater, Option, Some, None, is_some, unwrap_or, ⊎_elim, ◌⊎◌, inl, inr, if◌then◌else◌}
use Rattle.std.specs.Prelude.{nat_le, ◌==◌}
use Rattle.std.specs.List.{range_with_len}
use Rattle.std.specs.Ordering.{eq_by_cmp, is_lt, nat_cmp, int_cmp, ordering_then}
use Rattle.std.specs.FinMap.{get, insert, empty, keys, get-insert, get-empty, same_map}
use Rattle.std.proofs.lemmas.Bool.{cases_lt, eqb-true, eq-eqb, leb-true, le-leb}
use Rattle.std.proofs.lemmas.Bool.Decides.{nat_tests}
use Rattle.rr_schema.specs.Schema.{Layout, IsLayout}
use Rattle.rr_join.specs.Maps as Maps
use Rattle.rr_join.specs.Maps.{greater, merged, trimmed}
use Rattle.rr_join.proofs.Booleans.{and_second}
use Rattle.rr_join.proofs.Greater.{greater-None}
use Rattle.rr_join.proofs.Joining.{get-joined}
use Rattle.rr_join.proofs.Lookups.{get-merged}
use Rattle.rr_join.proofs.Members.{same_from_tie}
use Rattle.rr_contrib.specs.declared.contribution.Contribution.{Contribution}
use Rattle.rr_contrib.specs.Contributions.{SlotSample, contribution_cmp, contribution_with, with_sample}
use Rattle.rr_contrib.specs.ContributionOrder.{contribution_cmp_total, contribution_cmp-IsAntisymmetric}
use Rattle.rr_contrib.proofs.ValidityLemmas.{Decides-is_valid}
use Rattle.rr_cells.specs.CellNames.{CellName, cell_name_cmp, is_live}
use Rattle.rr_cells.specs.Samples.{Sample, Mark, name_of, marks_of}
use Rattle.rr_cells.specs.declared.op.Op.{Op}
use Rattle.rr_cells.specs.declared.op.Op.TheVariants.{Put, Join}
use Rattle.rr_cells.specs.declared.cell.Cell.{Cell}
use Rattle.rr_cells.specs.Cells.{Cells, IsTrimmed}
use Rattle.rr_cells.specs.Puts.{slot_sample_of, put_mark, put_marks, put_sample}
use Rattle.rr_cells.specs.Joins.{join_cell}
use Rattle.rr_cells.specs.Joining.{next_after}
use Rattle.rr_cells.specs.Listing.{owned_cell}
use Rattle.rr_cells.specs.ReplicaState as state
use Rattle.rr_cells.specs.ReplicaState.{ReplicaState, IsReplicaState}
use Rattle.rr_cells.specs.Laws.{mark_in}
use Rattle.rr_cells.specs.Operations.{accepts, with_op, step, sample_of, cell_step, outcome_of}
use Rattle.rr_changes.specs.Updates.{GoesOn, Holds, IsPlaceOf}
use Rattle.rr_changes.specs.UpdateLaws.{OperationsGoOn, OperationsOnlyAdd, ReplicasGoOn, UpdateMakesTheOutcome, PutChangesItsCells, JoinChangesItsCell, OperationChangesItsPlace}
use Rattle.rr_cells.proofs.Orders.{cell_name_cmp_total, cell_name_cmp-IsAntisymmetric}
use Rattle.rr_cells.proofs.Horizon.{live_horizon}
use Rattle.rr_cells.proofs.JoinLaws.{join_trims, join_itself}
use Rattle.rr_cells.proofs.PutsLemmas.{puts_trimmed}
use Rattle.rr_cells.proofs.ReplicaStateLemmas.{put_cases}
use Rattle.rr_cells.proofs.OperationsLemmas.{step-schema, steps-cells, outcome_of-append}
use Rattle.rr_changes.proofs.HoldingLemmas.{one, holds_before, holds_further, update_makes_the_cells}

-- ---- a put is a join of what each cell comes to

nat_more : (m n : ℕ) → n < m → nat_cmp m n ≡ Greater
nat_more m n h = grind (arith, nat_tests)

nat_same : (m n : ℕ) → m ≡ n → nat_cmp m n ≡ Equal
nat_same m n h = grind (arith, nat_tests)

-- a contribution with a sample more is the greater one
more_is_later : (c : Contribution) (z : SlotSample) → c.version ≤ z.number
    → contribution_cmp (with_sample c z) c ≡ Greater
more_is_later c z le = ⊎_elim
    (λ less. ap (λ r. ordering_then r counts) (nat_more z.number c.version less))
    (λ more. ap (λ r. ordering_then r counts) (nat_same z.number c.version (omega arith))
    ∙ ap (λ r. ordering_then r sums) (nat_more (c.count + 1) c.count (omega arith)))
    (cases_lt c.version z.number)
  where
    d : Contribution
    d = with_sample c z

    sums : Ordering
    sums =
        ordering_then (int_cmp d.sum c.sum)
        (ordering_then (int_cmp d.min c.min)
        (ordering_then (int_cmp d.max c.max)
        (ordering_then (int_cmp d.last_time c.last_time)
        (ordering_then (int_cmp d.last_value c.last_value)
        (nat_cmp d.mask c.mask)))))

    counts : Ordering
    counts = ordering_then (nat_cmp d.count c.count) sums

grown : (o : Option Contribution) (z : SlotSample) → ((c : Contribution) → o ≡ Some c → c.version ≤ z.number)
    → greater contribution_cmp o (Some (contribution_with o z)) ≡ Some (contribution_with o z)
grown None z below = refl
grown (Some c) z below = ap (λ r. Some (cond (is_lt r) c (with_sample c z))) (more_is_later c z (below c refl))

merged_greater : (m : Cells) (n : CellName) (c : Contribution)
    → greater contribution_cmp (get m n) (Some c) ≡ Some c
    → merged contribution_cmp m (insert empty n c) ≡ insert m n c
merged_greater m n c wins = same_map cell_name_cmp_total cell_name_cmp-IsAntisymmetric
    (merged contribution_cmp m (insert empty n c)) (insert m n c) (λ q.
    get-merged cell_name_cmp_total cell_name_cmp-IsAntisymmetric contribution_cmp m (insert empty n c) q
    ∙ ap (greater contribution_cmp (get m q)) (get-insert cell_name_cmp_total empty n c q
    ∙ ap (cond (eq_by_cmp cell_name_cmp q n) (Some c)) (get-empty cell_name_cmp q))
    ∙ elim (eq_by_cmp cell_name_cmp q n) as (λ b. eq_by_cmp cell_name_cmp q n ≡ b
    → greater contribution_cmp (get m q) (cond b (Some c) None) ≡ cond b (Some c) (get m q)) [
      | true ↦ λ t. ap (λ o. greater contribution_cmp o (Some c))
          (ap (get m) (same_from_tie cell_name_cmp_total cell_name_cmp-IsAntisymmetric q n t)) ∙ wins
      | false ↦ λ t. greater-None contribution_cmp (get m q)
    ] refl
    ∙ sym (get-insert cell_name_cmp_total m n c q))

-- what the cell of a mark comes to
abbrev come_to : Layout → Cells → Mark → Contribution
come_to s m k = contribution_with (get m (name_of s k)) (slot_sample_of s k)

put_is_join : (s : Layout) (m : Cells) (k : Mark)
    → ((c : Contribution) → get m (name_of s k) ≡ Some c → c.version ≤ k.number)
    → join_cell s m (name_of s k) (come_to s m k) ≡ put_mark s m k
unfolding put_mark Maps.joined
put_is_join s m k below = ap (trimmed (is_live s)) (merged_greater m (name_of s k) (come_to s m k)
    (grown (get m (name_of s k)) (slot_sample_of s k) below))

-- ---- what stands after a join

-- what stands at a name once a cell is joined stood there, or is that cell
pub join_cases : (s : Layout) → IsLayout s → (m : Cells) (n : CellName) (c : Contribution) (q : CellName)
    (d : Contribution) → get (join_cell s m n c) q ≡ Some d → (get m q ≡ Some d) ⊎ ((q ≡ n) × (c ≡ d))
join_cases s is m n c q d e = by_live (is_live s (keys m) q && is_live s (keys one) q)
    (sym (get-joined cell_name_cmp_total cell_name_cmp-IsAntisymmetric contribution_cmp_total
    contribution_cmp-IsAntisymmetric (live_horizon s is) m one q) ∙ e)
  where
    one : Cells
    one = insert empty n c

    of_the_two : (x : Option Contribution) → greater contribution_cmp x (Some c) ≡ Some d → (x ≡ Some d) ⊎ (c ≡ d)
    of_the_two None e = inr (ap (λ o. unwrap_or o c) e)
    of_the_two (Some a) e = by_order (is_lt (contribution_cmp c a)) e
      where
        by_order : (b : Bool) → Some (cond b a c) ≡ Some d → (Some a ≡ Some d) ⊎ (c ≡ d)
        by_order true e = inl e
        by_order false e = inr (ap (λ o. unwrap_or o c) e)

    of_either : (x : Option Contribution) (b : Bool) → eq_by_cmp cell_name_cmp q n ≡ b
        → greater contribution_cmp x (cond b (Some c) None) ≡ Some d → (x ≡ Some d) ⊎ ((q ≡ n) × (c ≡ d))
    of_either x true t e = ⊎_elim (λ h. inl h) (λ h. inr
        (same_from_tie cell_name_cmp_total cell_name_cmp-IsAntisymmetric q n t, h)) (of_the_two x e)
    of_either x false t e = inl (sym (greater-None contribution_cmp x) ∙ e)

    by_live : (b : Bool) → cond b (greater contribution_cmp (get m q) (get one q)) None ≡ Some d
        → (get m q ≡ Some d) ⊎ ((q ≡ n) × (c ≡ d))
    by_live true e = of_either (get m q) (eq_by_cmp cell_name_cmp q n) refl
        (ap (greater contribution_cmp (get m q)) (sym
        (get-insert cell_name_cmp_total empty n c q ∙ ap (cond (eq_by_cmp cell_name_cmp q n) (Some c))
        (get-empty cell_name_cmp q))) ∙ e)
    by_live false e = absurd (true≢false (sym (ap is_some e)))

pub join_changes_its_cell : JoinChangesItsCell
join_changes_its_cell s m p d n c is e = ⊎_elim (λ was. inl was) (λ new. inr (new.0, sym new.1))
    (join_cases s is m p d n c e)

pub put_changes_its_cells : PutChangesItsCells
put_changes_its_cells s m x n c is kept e = ⊎_elim (λ was. inl was) (λ new. inr (new.within, new.named))
    (put_cases s is m kept x n c e)

-- ---- puts only add

module _ (s : Layout) (is : IsLayout s) (x : Sample) where
  -- no cell of the sample's origin has a number past the sample's
  abbrev IsLast : Cells → Type 0
  IsLast m = (n : CellName) (c : Contribution) → get m n ≡ Some c → n.origin ≡ x.origin → c.version ≤ x.number

  version_with : (o : Option Contribution) (z : SlotSample) → (contribution_with o z).version ≡ z.number
  version_with None z = refl
  version_with (Some c) z = refl

  put_joins : (m : Cells) (i : ℕ) → IsLast m
      → join_cell s m (name_of s (mark_in x i)) (come_to s m (mark_in x i)) ≡ put_mark s m (mark_in x i)
  put_joins m i last = put_is_join s m (mark_in x i) (λ c e. last (name_of s (mark_in x i)) c e refl)

  still_last : (m : Cells) (i : ℕ) → IsLast m → IsLast (put_mark s m (mark_in x i))
  still_last m i last n c e at = ⊎_elim
      (λ was. last n c was at)
      (λ new. let version = ap (λ (d : Contribution). d.version) (sym new.1)
      ∙ version_with (get m (name_of s (mark_in x i))) (slot_sample_of s (mark_in x i)) in omega arith)
      (join_cases s is m (name_of s (mark_in x i)) (come_to s m (mark_in x i)) n c
      (ap (λ (y : Cells). get y n) (put_joins m i last) ∙ e))

  marks_add : (archives : List ℕ) (m : Cells) → IsTrimmed s m → IsLast m
      → Holds s (put_marks s m (map (mark_in x) archives)) m
  marks_add [] m kept last = join_itself s m is kept
  marks_add (i ∷ archives) m kept last =
      let n = name_of s (mark_in x i) in
      let c = come_to s m (mark_in x i) in
      let next = put_mark s m (mark_in x i) in
      let same = put_joins m i last in
      let trim = subst (λ (y : Cells). IsTrimmed s y) same (join_trims s m (insert empty n c) is) in
      let had = subst (λ (y : Cells). Holds s y m) same (holds_before s is m (insert empty n c) kept) in
      holds_further s is (put_marks s next (map (mark_in x) archives)) next m
      (marks_add archives next trim (still_last m i last)) had

  pub put_adds : (m : Cells) → IsTrimmed s m → IsLast m → Holds s (put_sample s m x) m
  put_adds m kept last = marks_add (range_with_len 0 (length s.archives)) m kept last

-- ---- operations only add

pub replicas_go_on : ReplicasGoOn
replicas_go_on h holds = record { layout = holds.layout; live = holds.live; own = holds.own }

module _ (h : ReplicaState) (goes : GoesOn h) where
  -- the sample of a put that is taken
  record IsTaken (x : Sample) : Type 0 where
    origin : x.origin ≡ h.origin
    number : h.next ≤ x.number

  put_taken : (x : Sample) (a b c : Bool) → (x.origin == h.origin) ≡ a → nat_le h.next x.number ≡ b
      → (a && (b && c)) ≡ true → IsTaken x
  put_taken x true true c e f t = record {
    origin = eqb-true x.origin h.origin e;
    number = leb-true h.next x.number f;
  }
  put_taken x true false c e f t = absurd (true≢false (sym t))
  put_taken x false b c e f t = absurd (true≢false (sym t))

  put_goes_on : (x : Sample) → IsTaken x → GoesOn (state.with_sample h x)
  put_goes_on x taken = record {
    layout = goes.layout;
    live = puts_trimmed h.schema goes.layout (marks_of h.schema x) h.cells goes.live;
    own = λ n c e at. ⊎_elim
        (λ was. let below = goes.own n c was at in let next = taken.number in omega arith)
        (λ new. let version = ap (λ (d : Contribution). d.version) (sym new.comes)
        ∙ version_with h.schema goes.layout x (get h.cells n) (slot_sample_of h.schema (mark_in x n.archive)) in
        omega arith)
        (put_cases h.schema goes.layout h.cells goes.live x n c e);
  }

  joined_goes_on : (c : Cell) → GoesOn (with_op h (Join c))
  joined_goes_on c = record {
    layout = goes.layout;
    live = join_trims h.schema h.cells (one (owned_cell c)) goes.layout;
    own = λ n d e at. ⊎_elim
        (λ was. let below = goes.own n d was at in
        let more = next_is (c.origin == h.origin) (nat_le h.next c.contribution.version) refl in omega arith)
        (λ new. subst (λ (y : Contribution). y.version < next) new.1
        (own_is (c.origin == h.origin) (nat_le h.next c.contribution.version) refl refl
        (sym (ap (λ (m : CellName). m.origin) new.0) ∙ at)))
        (join_cases h.schema goes.layout h.cells (owned_cell c).0 c.contribution n d e);
  }
    where
      next : ℕ
      next = next_after h.origin h.next (owned_cell c)

      next_is : (a b : Bool) → nat_le h.next c.contribution.version ≡ b
          → h.next ≤ cond (a && b) (c.contribution.version + 1) h.next
      next_is true true f = let past = leb-true h.next c.contribution.version f in omega arith
      next_is true false f = omega arith
      next_is false b f = omega arith

      own_is : (a b : Bool) → (c.origin == h.origin) ≡ a → nat_le h.next c.contribution.version ≡ b
          → c.origin ≡ h.origin
          → c.contribution.version < cond (a && b) (c.contribution.version + 1) h.next
      own_is true true e f same = omega arith
      own_is true false e f same = ⊎_elim (λ below. below)
          (λ past. absurd (true≢false (sym (le-leb h.next c.contribution.version past) ∙ f)))
          (cases_lt c.contribution.version h.next)
      own_is false b e f same = absurd (true≢false (sym (eq-eqb c.origin h.origin same) ∙ e))

  -- an operation that is taken
  taken_goes_on : (op : Op) → accepts h op ≡ true → GoesOn (with_op h op)
  taken_goes_on (Put x) e = put_goes_on (sample_of x)
      (put_taken (sample_of x) (x.origin == h.origin) (nat_le h.next x.number) _ refl refl e)
  taken_goes_on (Join c) e = joined_goes_on c

  taken_adds : (op : Op) → accepts h op ≡ true → Holds h.schema (with_op h op).cells h.cells
  taken_adds (Put x) e =
      let taken = put_taken (sample_of x) (x.origin == h.origin) (nat_le h.next x.number) _ refl refl e in
      put_adds h.schema goes.layout (sample_of x) h.cells goes.live (λ n c f at.
      let below = goes.own n c f (at ∙ taken.origin) in let next = taken.number in omega arith)
  taken_adds (Join c) e = holds_before h.schema goes.layout h.cells (one (owned_cell c)) goes.live

  -- and one that may not be
  pub step_goes_on : (op : Op) → GoesOn (step h op)
  step_goes_on op = elim (accepts h op) as (λ b. accepts h op ≡ b → GoesOn (if b then with_op h op else h)) [
    | true ↦ λ e. taken_goes_on op e
    | false ↦ λ e. goes
  ] refl

  pub step_adds : (op : Op) → Holds h.schema (step h op).cells h.cells
  step_adds op = elim (accepts h op) as (λ b. accepts h op ≡ b
      → Holds h.schema (if b then with_op h op else h).cells h.cells) [
        | true ↦ λ e. taken_adds op e
        | false ↦ λ e. join_itself h.schema h.cells goes.layout goes.live
      ] refl

  -- ---- what an operation changes

  -- a valid cell is in the slot of its last time
  cell_place : (c : Cell) → accepts h (Join c) ≡ true → (n : CellName) → n ≡ (owned_cell c).0
      → IsPlaceOf h.schema (Join c) n
  cell_place c e n same =
      let valid = (Decides-is_valid h.schema c.archive c.slot c.contribution).0 (and_second _ _ e) in
      subst (λ (m : CellName). IsPlaceOf h.schema (Join c) m) (sym same)
      (record { key = refl; slot = sym valid.in_slot })

  taken_places : (op : Op) → accepts h op ≡ true → (n : CellName) (c : Contribution)
      → get (with_op h op).cells n ≡ Some c → (get h.cells n ≡ Some c) ⊎ IsPlaceOf h.schema op n
  taken_places (Put x) e n c f = ⊎_elim (λ was. inl was)
      (λ new. inr (record {
        key = ap (λ (m : CellName). m.key) new.named;
        slot = ap (λ (m : CellName). m.slot) new.named;
      }))
      (put_cases h.schema goes.layout h.cells goes.live (sample_of x) n c f)
  taken_places (Join d) e n c f = ⊎_elim (λ was. inl was) (λ new. inr (cell_place d e n new.0))
      (join_cases h.schema goes.layout h.cells (owned_cell d).0 d.contribution n c f)

  pub step_places : (op : Op) (n : CellName) (c : Contribution) → get (step h op).cells n ≡ Some c
      → (get h.cells n ≡ Some c) ⊎ IsPlaceOf h.schema op n
  step_places op n c = elim (accepts h op) as (λ b. accepts h op ≡ b
      → get (if b then with_op h op else h).cells n ≡ Some c
      → (get h.cells n ≡ Some c) ⊎ IsPlaceOf h.schema op n) [
        | true ↦ λ e f. taken_places op e n c f
        | false ↦ λ e f. inl f
      ] refl

pub operation_changes_its_place : OperationChangesItsPlace
operation_changes_its_place h op n c goes = step_places h goes op n c

-- ---- lists of operations

pub operations_go_on : OperationsGoOn
operations_go_on h [] goes = goes
operations_go_on h (op ∷ ops) goes = operations_go_on (step h op) ops (step_goes_on h goes op)

pub steps_add : (ops : List Op) (h : ReplicaState) → GoesOn h → Holds h.schema (fold step h ops).cells h.cells
steps_add [] h goes = join_itself h.schema h.cells goes.layout goes.live
steps_add (op ∷ ops) h goes =
    let later = fold step (step h op) ops in
    holds_further h.schema goes.layout later.cells (step h op).cells h.cells
    (subst (λ s. Holds s later.cells (step h op).cells) (step-schema h op)
    (steps_add ops (step h op) (step_goes_on h goes op)))
    (step_adds h goes op)

pub operations_only_add : OperationsOnlyAdd
operations_only_add h ops goes = steps_add ops h goes

pub update_makes_the_outcome : UpdateMakesTheOutcome
update_makes_the_outcome h first others update holds made taken is =
    let s = h.schema in
    let after : (fold step h others).cells ≡ outcome_of s (first ++ others) =
    steps-cells others h taken ∙ ap (λ (m : Cells). fold (cell_step s) m others) made
    ∙ sym (outcome_of-append s first others) in
    update_makes_the_cells s (outcome_of s first) (outcome_of s (first ++ others)) update holds.layout
    (subst (λ (m : Cells). Holds s m (outcome_of s first)) after
    (subst (λ (m : Cells). Holds s (fold step h others).cells m) made (operations_only_add h others holds)))
    is
