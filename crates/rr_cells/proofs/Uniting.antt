-- To join the cells of two closed knowledges is to unite what is known.
use Rattle.std.proofs.Common.{◌≡◌, ℕ, ◌<◌, ◌≤◌, Bool, true, false, cond, ◌&&◌, ◌||◌, List, [], ◌∷◌, map, refl, sym, ap, ◌∙◌, subst, Ordering, Less, Equal, Greater, arith, true≢false, Option, Some, None, is_some, ⊎_elim, ◌⊎◌, inl, inr, nat_cmp, is_lt, le_of_lt, le_of_eq, le_trans}
use Rattle.std.specs.Ordering.{eq_by_cmp, ord_max, ordering_then, ordering_reverse}
use Rattle.std.specs.Option.{unwrap_or}
use Rattle.std.specs.FinMap.{get, keys, same_map}
use Rattle.std.proofs.lemmas.Bool.{cases_lt, and_from, or_left, or_right}
use Rattle.std.proofs.lemmas.Bool.Decides.{nat_tests}
use Rattle.rr_schema.specs.Schema.{Layout, IsLayout}
use Rattle.rr_join.specs.Maps.{greater, greatest}
use Rattle.rr_join.proofs.Booleans.{same_test, and_first, and_second, either_case}
use Rattle.rr_join.proofs.Greater.{greatest_some, greater-None, greater_comm, max_itself}
use Rattle.rr_join.proofs.Joining.{get-joined}
use Rattle.rr_join.proofs.Members.{is_in, same_from_tie, tie_itself}
use Rattle.rr_contrib.specs.declared.contribution.Contribution.{Contribution}
use Rattle.rr_contrib.specs.Contributions.{contribution_cmp}
use Rattle.rr_contrib.specs.ContributionOrder.{contribution_cmp_total, contribution_cmp-IsAntisymmetric}
use Rattle.rr_contrib.specs.Samples.{summary}
use Rattle.rr_cells.specs.CellNames.{CellName, cell_name_cmp}
use Rattle.rr_cells.specs.Samples.{Sample, Mark, mark_cmp, name_of}
use Rattle.rr_cells.specs.Knowledge.{Knowledge, knows, union, is_live_in}
use Rattle.rr_cells.specs.World.{World, IsWritten, IsClosed}
use Rattle.rr_cells.proofs.Orders.{cell_name_cmp_total, cell_name_cmp-IsAntisymmetric, mark_cmp_total, mark_cmp-IsAntisymmetric}
use Rattle.rr_cells.proofs.Horizon.{live_horizon}
use Rattle.rr_cells.proofs.Knowing.{same_knowledge, is_in-keys_of, knows-union, knows-live, live_in-union}
use Rattle.rr_cells.specs.Puts.{slot_sample_of}
use Rattle.rr_cells.specs.Joins.{join}
use Rattle.rr_cells.specs.State.{value_of, cells_of_knowledge}
use Rattle.rr_cells.proofs.States.{value, tie_of, marks_at, knows-marks_at, valued, known_at, get-state, value_cell, live_state}

Some_inj : {V : Type 0} (x y : V) → Some x ≡ Some y → x ≡ y
Some_inj x y e = ap (λ v. unwrap_or v x) e

-- the marks that a number is the greatest of
pub record IsTop (ms : List Mark) (top : ℕ) : Type 0 where
  pub mark : Mark
  pub known : is_in mark_cmp ms mark ≡ true
  pub number : mark.number ≡ top
  pub others : (m : Mark) → is_in mark_cmp ms m ≡ true → m.number ≤ top

max_nat : (x y : ℕ) → ((x ≤ y) × (ord_max nat_cmp x y ≡ y)) ⊎ ((y ≤ x) × (ord_max nat_cmp x y ≡ x))
max_nat x y = ⊎_elim (λ h. inr (le_of_lt h, grind (arith, nat_tests))) (λ h. inl (h, grind (arith, nat_tests)))
    (cases_lt y x)

one_more : (m x : Mark) (xs : List Mark) (t : ℕ) → IsTop (x ∷ xs) t → IsTop (m ∷ x ∷ xs) (ord_max nat_cmp m.number t)
one_more m x xs t top = ⊎_elim
    (λ h. record {
      mark = top.mark;
      known = or_right (eq_by_cmp mark_cmp top.mark m) (is_in mark_cmp (x ∷ xs) top.mark) top.known;
      number = top.number ∙ sym h.1;
      others = λ y e. subst (λ w. y.number ≤ w) (sym h.1)
          (either_case (eq_by_cmp mark_cmp y m) (is_in mark_cmp (x ∷ xs) y) e
          (λ tie. subst (λ w. w.number ≤ t) (sym (same_from_tie mark_cmp_total mark_cmp-IsAntisymmetric y m tie)) h.0)
          (λ there. top.others y there));
    })
    (λ h. record {
      mark = m;
      known = or_left (eq_by_cmp mark_cmp m m) (is_in mark_cmp (x ∷ xs) m)
          (tie_itself mark_cmp_total mark_cmp-IsAntisymmetric m);
      number = sym h.1;
      others = λ y e. subst (λ w. y.number ≤ w) (sym h.1)
          (either_case (eq_by_cmp mark_cmp y m) (is_in mark_cmp (x ∷ xs) y) e
          (λ tie. le_of_eq (ap (λ w. w.number) (same_from_tie mark_cmp_total mark_cmp-IsAntisymmetric y m tie)))
          (λ there. le_trans (top.others y there) h.0));
    })
    (max_nat m.number t)

pub top_number : (s : Layout) (m : Mark) (ms : List Mark)
    → IsTop (m ∷ ms) (unwrap_or (greatest nat_cmp (map (λ x. x.number) (map (slot_sample_of s) (m ∷ ms)))) 0)
top_number s m [] = record {
  mark = m;
  known = or_left (eq_by_cmp mark_cmp m m) false (tie_itself mark_cmp_total mark_cmp-IsAntisymmetric m);
  number = refl;
  others = λ y e. either_case (eq_by_cmp mark_cmp y m) false e
      (λ tie. le_of_eq (ap (λ w. w.number) (same_from_tie mark_cmp_total mark_cmp-IsAntisymmetric y m tie)))
      (λ there. absurd (true≢false (sym there)));
}
top_number s m (x ∷ xs) =
    let rest = greatest nat_cmp (map (λ y. y.number) (map (slot_sample_of s) (x ∷ xs))) in
    subst (λ g. IsTop (m ∷ x ∷ xs) (unwrap_or (greater nat_cmp (Some m.number) g) 0))
    (sym (greatest_some nat_cmp x.number (map (λ y. y.number) (map (slot_sample_of s) xs)) 0))
    (one_more m x xs (unwrap_or rest 0) (top_number s x xs))

-- a value's version is the greatest number of its marks
version_is : (s : Layout) (ms : List Mark) (v : Contribution) → value_of s ms ≡ Some v → IsTop ms v.version
unfolding summary
version_is s [] v e = absurd (true≢false (sym (ap is_some e)))
version_is s (m ∷ ms) v e = subst (λ (w : Contribution). IsTop (m ∷ ms) w.version) (Some_inj _ _ e) (top_number s m ms)

pub value_top : (s : Layout) (c : Knowledge) (v : Contribution) → value s c ≡ Some v → IsTop (keys c) v.version
value_top s c v e = version_is s (keys c) v e

less_then : (r q : Ordering) → r ≡ Less → ordering_then r q ≡ Less
less_then Less q e = refl
less_then Equal q e = absurd (true≢false (sym (ap is_lt e)))
less_then Greater q e = absurd (true≢false (sym (ap is_lt e)))

nat_less : (x y : ℕ) → x < y → nat_cmp x y ≡ Less
nat_less x y h = grind (arith, nat_tests)

module _ (s : Layout) (is : IsLayout s) where
  -- ---- two closed knowledges

  -- of two samples of the world with one origin and number there is one
  pub one_sample : (w : World) (x y : Sample) → IsWritten w x → IsWritten w y → x.origin ≡ y.origin
      → x.number ≡ y.number → x ≡ y
  one_sample w x y a b o n = some_is x y (sym a ∙ (λ i. get w (o i, n i)) ∙ b)
    where
      some_is : (u v : Sample) → Some u ≡ Some v → u ≡ v
      some_is u v e = ap (λ z. unwrap_or z u) e

  -- what one knows up to a number that the other has, the other knows too
  pub reaches : (w : World) (k l : Knowledge) → IsClosed s w k → IsClosed s w l → (n : CellName)
      → is_live_in s l n ≡ true → (x m : Mark) → knows (marks_at s k n) x ≡ true → knows (marks_at s l n) m ≡ true
      → x.number ≤ m.number → knows (marks_at s l n) x ≡ true
  reaches w k l ck cl n alive x m in_k in_l below =
      let a = known_at s k n x in_k in
      let b = known_at s l n m in_l in
      let same : name_of s x ≡ name_of s m = a.1 ∙ sym b.1 in
      knows-marks_at s l n x ∙ and_from (knows l x) (eq_by_cmp cell_name_cmp (name_of s x) n)
      (⊎_elim
      (λ h. cl.earlier m x (knows-live s l m ∙ and_from (knows l m) (is_live_in s l (name_of s m)) b.0
      (ap (is_live_in s l) b.1 ∙ alive)) (ck.written x a.0) same h)
      (λ h.
      let sample = one_sample w x.sample m.sample (ck.written x a.0).0 (cl.written m b.0).0 (ap (λ q. q.origin) same)
      (omega arith) in
      let is : m ≡ x = λ i. record { sample = sym sample i; archive = sym (ap (λ (q : CellName). q.archive) same) i } in
      subst (λ q. knows l q ≡ true) is b.0)
      (cases_lt x.number m.number))
      (tie_of (name_of s x) n a.1)

  only_theirs : (k l : Knowledge) (n : CellName) →
      ((x : Mark) → knows (marks_at s k n) x ≡ true → knows (marks_at s l n) x ≡ true)
      → marks_at s (union k l) n ≡ marks_at s l n
  only_theirs k l n sub = same_knowledge (marks_at s (union k l) n) (marks_at s l n) (λ x.
      same_test (knows (marks_at s (union k l) n) x) (knows (marks_at s l n) x)
      (λ e.
      let here = sym (knows-marks_at s (union k l) n x) ∙ e in
      let named_so = and_second (knows (union k l) x) (eq_by_cmp cell_name_cmp (name_of s x) n) here in
      either_case (knows k x) (knows l x) (sym (knows-union k l x)
      ∙ and_first (knows (union k l) x) (eq_by_cmp cell_name_cmp (name_of s x) n) here)
      (λ a. sub x (knows-marks_at s k n x ∙ and_from (knows k x) (eq_by_cmp cell_name_cmp (name_of s x) n) a named_so))
      (λ a. knows-marks_at s l n x ∙ and_from (knows l x) (eq_by_cmp cell_name_cmp (name_of s x) n) a named_so))
      (λ e.
      let here = sym (knows-marks_at s l n x) ∙ e in
      knows-marks_at s (union k l) n x
      ∙ and_from (knows (union k l) x) (eq_by_cmp cell_name_cmp (name_of s x) n)
      (knows-union k l x ∙ or_right (knows k x) (knows l x)
      (and_first (knows l x) (eq_by_cmp cell_name_cmp (name_of s x) n) here))
      (and_second (knows l x) (eq_by_cmp cell_name_cmp (name_of s x) n) here)))

  union_swaps : (k l : Knowledge) → union k l ≡ union l k
  union_swaps k l = same_knowledge (union k l) (union l k)
      (λ m. knows-union k l m ∙ or_swap (knows k m) (knows l m) ∙ sym (knows-union l k m))
    where
      or_swap : (a b : Bool) → (a || b) ≡ (b || a)
      or_swap true true = refl
      or_swap true false = refl
      or_swap false true = refl
      or_swap false false = refl

  pub nothing_there : (k : Knowledge) (n : CellName) → value s (marks_at s k n) ≡ None → (x : Mark)
      → knows (marks_at s k n) x ≡ true → ⊥
  nothing_there k n e x known = true≢false (sym (valued s (keys (marks_at s k n)) x
      (is_in-keys_of (marks_at s k n) x ∙ known)) ∙ ap is_some e)

  less_version : (a b : Contribution) → a.version < b.version → contribution_cmp a b ≡ Less
  less_version a b h = less_then (nat_cmp a.version b.version) _ (nat_less a.version b.version h)

  max_of_less : (a b : Contribution) → contribution_cmp a b ≡ Less → ord_max contribution_cmp a b ≡ b
  max_of_less a b e = ap (λ r. cond (is_lt r) a b) (contribution_cmp_total.antisymm b a ∙ ap ordering_reverse e)

  -- of two closed knowledges, at a name that is live in both, the one whose mark has the greater number knows more
  ahead : (w : World) (k l : Knowledge) → IsClosed s w k → IsClosed s w l → (n : CellName) → is_live_in s k n ≡ true
      → is_live_in s l n ≡ true → (a b : Contribution) → value s (marks_at s k n) ≡ Some a
      → value s (marks_at s l n) ≡ Some b → a.version ≤ b.version
      → greater contribution_cmp (value s (marks_at s k n)) (value s (marks_at s l n))
      ≡ value s (marks_at s (union k l) n)
  ahead w k l ck cl n alive_k alive_l a b ea eb below =
      let ta = value_top s (marks_at s k n) a ea in
      let tb = value_top s (marks_at s l n) b eb in
      let in_k = sym (is_in-keys_of (marks_at s k n) ta.mark) ∙ ta.known in
      let in_l = sym (is_in-keys_of (marks_at s l n) tb.mark) ∙ tb.known in
      let sub = λ (x : Mark) (known : knows (marks_at s k n) x ≡ true).
      let bound : x.number ≤ a.version = ta.others x (is_in-keys_of (marks_at s k n) x ∙ known) in
      let top : tb.mark.number ≡ b.version = tb.number in
      let lower : x.number ≤ tb.mark.number = omega arith in
      reaches w k l ck cl n alive_l x tb.mark known in_l lower in
      let unites = only_theirs k l n sub in
      let joins : greater contribution_cmp (Some a) (Some b) ≡ Some b = ⊎_elim
      (λ h. ap (λ v. Some v) (max_of_less a b (less_version a b h)))
      (λ h.
      let back = λ (x : Mark) (known : knows (marks_at s l n) x ≡ true).
      let bound : x.number ≤ b.version = tb.others x (is_in-keys_of (marks_at s l n) x ∙ known) in
      let top : ta.mark.number ≡ a.version = ta.number in
      let lower : x.number ≤ ta.mark.number = omega arith in
      reaches w l k cl ck n alive_k x ta.mark known in_k lower in
      let same : marks_at s k n ≡ marks_at s l n = sym (only_theirs l k n back)
      ∙ ap (λ q. marks_at s q n) (union_swaps l k) ∙ unites in
      (λ i. greater contribution_cmp ((sym ea ∙ ap (value s) same ∙ eb) i) (Some b))
      ∙ ap (λ v. Some v) (max_itself contribution_cmp_total b))
      (cases_lt a.version b.version) in
      (λ i. greater contribution_cmp (ea i) (eb i)) ∙ joins ∙ sym eb ∙ ap (value s) (sym unites)

  both_live : (w : World) (k l : Knowledge) → IsClosed s w k → IsClosed s w l → (n : CellName) → is_live_in s k n ≡ true
      → is_live_in s l n ≡ true
      → greater contribution_cmp (value s (marks_at s k n)) (value s (marks_at s l n))
      ≡ value s (marks_at s (union k l) n)
  both_live w k l ck cl n alive_k alive_l =
      elim (value s (marks_at s k n)) as (λ a. value s (marks_at s k n) ≡ a
      → greater contribution_cmp (value s (marks_at s k n)) (value s (marks_at s l n))
      ≡ value s (marks_at s (union k l) n)) [
        | None ↦ λ ea. ap (λ v. greater contribution_cmp v (value s (marks_at s l n))) ea
            ∙ ap (value s) (sym (only_theirs k l n (λ x known. absurd (nothing_there k n ea x known))))
        | Some a ↦ λ ea. elim (value s (marks_at s l n)) as
            (λ b. value s (marks_at s l n) ≡ b → greater contribution_cmp (value s (marks_at s k n))
            (value s (marks_at s l n)) ≡ value s (marks_at s (union k l) n)) [
              | None ↦ λ eb. ap (greater contribution_cmp (value s (marks_at s k n))) eb
                  ∙ greater-None contribution_cmp (value s (marks_at s k n))
                  ∙ ap (value s) (sym (only_theirs l k n (λ x known. absurd (nothing_there l n eb x known))))
                  ∙ ap (λ q. value s (marks_at s q n)) (union_swaps l k)
              | Some b ↦ λ eb. ⊎_elim
                  (λ h. ahead w k l ck cl n alive_k alive_l a b ea eb (le_of_lt h))
                  (λ h. greater_comm contribution_cmp_total contribution_cmp-IsAntisymmetric (value s (marks_at s k n))
                  (value s (marks_at s l n)) ∙ ahead w l k cl ck n alive_l alive_k b a eb ea h
                  ∙ ap (λ q. value s (marks_at s q n)) (union_swaps l k))
                  (cases_lt a.version b.version)
            ] refl
      ] refl

  by_lives : (a b : Bool) (x y z : Option Contribution) → (a ≡ true → b ≡ true → greater contribution_cmp x y ≡ z)
      → cond (a && b) (greater contribution_cmp (cond a x None) (cond b y None)) None ≡ cond (a && b) z None
  by_lives true true x y z f = f refl refl
  by_lives true false x y z f = refl
  by_lives false b x y z f = refl

  -- to join the cells is to unite what is known
  pub join_states : (w : World) (k l : Knowledge) → IsClosed s w k → IsClosed s w l
      → join s (cells_of_knowledge s k) (cells_of_knowledge s l) ≡ cells_of_knowledge s (union k l)
  join_states w k l ck cl = same_map cell_name_cmp_total cell_name_cmp-IsAntisymmetric
      (join s (cells_of_knowledge s k) (cells_of_knowledge s l)) (cells_of_knowledge s (union k l)) (λ n.
      get-joined cell_name_cmp_total cell_name_cmp-IsAntisymmetric contribution_cmp_total
      contribution_cmp-IsAntisymmetric (live_horizon s is) (cells_of_knowledge s k) (cells_of_knowledge s l) n
      ∙ (λ i. cond (live_state s is k n i && live_state s is l n i)
      (greater contribution_cmp ((get-state s k n ∙ value_cell s is k n) i)
      ((get-state s l n ∙ value_cell s is l n) i)) None)
      ∙ by_lives (is_live_in s k n) (is_live_in s l n) (value s (marks_at s k n)) (value s (marks_at s l n))
      (value s (marks_at s (union k l) n)) (both_live w k l ck cl n)
      ∙ sym (get-state s (union k l) n ∙ value_cell s is (union k l) n
      ∙ ap (λ b. cond b (value s (marks_at s (union k l) n)) None) (live_in-union s is k l n)))
