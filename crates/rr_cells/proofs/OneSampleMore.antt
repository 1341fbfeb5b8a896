-- To put a mark into a state's cells is to know it.
use Rattle.std.proofs.Common.{◌≡◌, ℕ, zero, suc, ◌+◌, ◌<◌, ◌≤◌, Bool, true, false, cond, ◌&&◌, ◌||◌, [], ◌∷◌, ◌++◌, length, refl, sym, ap, ◌∙◌, subst, arith, true≢false, Option, Some, None, is_some, lt_irrefl}
use Rattle.std.specs.Ordering.{eq_by_cmp}
use Rattle.std.specs.FinMap.{get, keys, insert, get-insert, same_map}
use Rattle.std.proofs.Math.Bool.{or-false}
use Rattle.std.proofs.lemmas.Bool.{and_from, or_right}
use Rattle.rr_schema.specs.Schema.{Layout, IsLayout}
use Rattle.rr_join.specs.Maps.{set_of}
use Rattle.rr_join.proofs.Booleans.{either_case}
use Rattle.rr_join.proofs.Members.{same_from_tie, any_by_members}
use Rattle.rr_join.proofs.Lookups.{get-trimmed, is_in-keys}
use Rattle.rr_join.proofs.Horizons.{live_by_members, live-append}
use Rattle.rr_contrib.specs.declared.contribution.Contribution.{Contribution}
use Rattle.rr_contrib.specs.Contributions.{contribution_with}
use Rattle.rr_cells.specs.CellNames.{CellName, cell_name_cmp, is_live}
use Rattle.rr_cells.specs.Samples.{Sample, Mark, mark_cmp, name_of, names_of}
use Rattle.rr_cells.specs.Knowledge.{Knowledge, knows, with_marks, is_live_in}
use Rattle.rr_cells.proofs.Orders.{cell_name_cmp_total, cell_name_cmp-IsAntisymmetric, mark_cmp_total, mark_cmp-IsAntisymmetric}
use Rattle.rr_cells.proofs.Horizon.{live_horizon}
use Rattle.rr_cells.proofs.Knowing.{same_knowledge, is_in-keys_of, knows-set_of, knows-with_marks, with_marks-nil, with_marks-cons, is_in-names_of, name_from_tie, live_in-union}
use Rattle.rr_cells.specs.Puts.{slot_sample_of, put_mark, put_marks}
use Rattle.rr_cells.specs.State.{cells_of_knowledge, PutIsOneSampleMore}
use Rattle.rr_cells.proofs.PutsLemmas.{mark, marks_from}
use Rattle.rr_cells.proofs.Values.{value-insert}
use Rattle.rr_cells.proofs.States.{value, tie_of, marks_at, knows-marks_at, known_at, get-state, value_cell, live_state}

-- ---- one mark more

some_either : {V : Type 0} (b : Bool) (v : V) (x : Option V) → is_some (cond b (Some v) x) ≡ (b || is_some x)
some_either true v x = refl
some_either false v x = refl

pub knows-insert : (c : Knowledge) (m y : Mark) → knows (insert c m tt) y ≡ (eq_by_cmp mark_cmp y m || knows c y)
knows-insert c m y = ap is_some (get-insert mark_cmp_total c m tt y) ∙ some_either (eq_by_cmp mark_cmp y m) tt (get c y)

module _ (s : Layout) (is : IsLayout s) (k : Knowledge) (m : Mark)
    (fresh : (y : Mark) → knows k y ≡ true → name_of s y ≡ name_of s m → y.number < m.number) where
  abbrev here : CellName
  here = name_of s m

  abbrev more : Knowledge
  more = with_marks k (m ∷ [])

  not_known : knows k m ≡ false
  not_known = elim (knows k m) as (λ b. knows k m ≡ b → b ≡ false) [
    | true ↦ λ e. absurd (lt_irrefl m.number (fresh m e refl))
    | false ↦ λ e. refl
  ] refl

  live_inserted : (v : Contribution) (q : CellName)
      → is_live s (keys (insert (cells_of_knowledge s k) here v)) q ≡ (is_live s (here ∷ []) q && is_live_in s k q)
  live_inserted v q =
      live_by_members cell_name_cmp_total cell_name_cmp-IsAntisymmetric (live_horizon s is)
      (keys (insert (cells_of_knowledge s k) here v)) ((here ∷ []) ++ keys (cells_of_knowledge s k)) q (λ x.
      is_in-keys cell_name_cmp_total cell_name_cmp-IsAntisymmetric (insert (cells_of_knowledge s k) here v) x
      ∙ ap is_some (get-insert cell_name_cmp_total (cells_of_knowledge s k) here v x)
      ∙ some_either (eq_by_cmp cell_name_cmp x here) v (get (cells_of_knowledge s k) x)
      ∙ ap (λ b. eq_by_cmp cell_name_cmp x here || b)
      (sym (is_in-keys cell_name_cmp_total cell_name_cmp-IsAntisymmetric (cells_of_knowledge s k) x)))
      ∙ live-append cell_name_cmp_total cell_name_cmp-IsAntisymmetric (live_horizon s is) (here ∷ [])
      (keys (cells_of_knowledge s k)) q
      ∙ ap (λ b. is_live s (here ∷ []) q && b) (live_state s is k q)

  live_more : (q : CellName) → is_live_in s more q ≡ (is_live_in s k q && is_live s (here ∷ []) q)
  live_more q =
      live_in-union s is k (set_of (m ∷ [])) q
      ∙ ap (λ b. is_live_in s k q && b) (live_by_members cell_name_cmp_total cell_name_cmp-IsAntisymmetric
      (live_horizon s is) (names_of s (keys (set_of (m ∷ [])))) (here ∷ []) q (λ x.
      let test : Mark → Bool = λ y. eq_by_cmp cell_name_cmp x (name_of s y) in
      is_in-names_of s (keys (set_of (m ∷ []))) x ∙ any_by_members mark_cmp_total mark_cmp-IsAntisymmetric test
      (keys (set_of (m ∷ []))) (m ∷ []) (λ y. is_in-keys_of (set_of (m ∷ [])) y ∙ knows-set_of (m ∷ []) y)))

  marks_here : marks_at s more here ≡ insert (marks_at s k here) m tt
  marks_here = same_knowledge (marks_at s more here) (insert (marks_at s k here) m tt) (λ y.
      knows-marks_at s more here y ∙ ap (λ b. b && eq_by_cmp cell_name_cmp (name_of s y) here)
      (knows-with_marks k (m ∷ []) y)
      ∙ elim (eq_by_cmp mark_cmp y m) as (λ b. eq_by_cmp mark_cmp y m ≡ b
      → ((knows k y || (b || false)) && eq_by_cmp cell_name_cmp (name_of s y) here)
      ≡ (b || (knows k y && eq_by_cmp cell_name_cmp (name_of s y) here))) [
        | true ↦ λ e. and_from (knows k y || true) (eq_by_cmp cell_name_cmp (name_of s y) here)
            (or_right (knows k y) true refl) (tie_of (name_of s y) here
            (ap (name_of s) (same_from_tie mark_cmp_total mark_cmp-IsAntisymmetric y m e)))
        | false ↦ λ e. ap (λ b. b && eq_by_cmp cell_name_cmp (name_of s y) here) (or-false (knows k y))
      ] refl
      ∙ sym (knows-insert (marks_at s k here) m y ∙ ap (λ b. eq_by_cmp mark_cmp y m || b) (knows-marks_at s k here y)))

  marks_elsewhere : (q : CellName) → eq_by_cmp cell_name_cmp q here ≡ false → marks_at s more q ≡ marks_at s k q
  marks_elsewhere q other = same_knowledge (marks_at s more q) (marks_at s k q) (λ y.
      knows-marks_at s more q y ∙ ap (λ b. b && eq_by_cmp cell_name_cmp (name_of s y) q) (knows-with_marks k (m ∷ []) y)
      ∙ elim (eq_by_cmp mark_cmp y m) as (λ b. eq_by_cmp mark_cmp y m ≡ b
      → ((knows k y || (b || false)) && eq_by_cmp cell_name_cmp (name_of s y) q)
      ≡ (knows k y && eq_by_cmp cell_name_cmp (name_of s y) q)) [
        | true ↦ λ e. ap (λ b. (knows k y || true) && b) (not_q y e) ∙ both_false (knows k y || true) (knows k y)
            ∙ ap (λ b. knows k y && b) (sym (not_q y e))
        | false ↦ λ e. ap (λ b. b && eq_by_cmp cell_name_cmp (name_of s y) q) (or-false (knows k y))
      ] refl
      ∙ sym (knows-marks_at s k q y))
    where
      both_false : (a b : Bool) → (a && false) ≡ (b && false)
      both_false true true = refl
      both_false true false = refl
      both_false false true = refl
      both_false false false = refl

      not_q : (y : Mark) → eq_by_cmp mark_cmp y m ≡ true → eq_by_cmp cell_name_cmp (name_of s y) q ≡ false
      not_q y e = elim (eq_by_cmp cell_name_cmp (name_of s y) q) as
          (λ b. eq_by_cmp cell_name_cmp (name_of s y) q ≡ b → b ≡ false) [
            | true ↦ λ h. absurd (true≢false (sym (tie_of q here
                (sym (name_from_tie s y q h) ∙ ap (name_of s)
                (same_from_tie mark_cmp_total mark_cmp-IsAntisymmetric y m e))) ∙ other))
            | false ↦ λ h. refl
          ] refl

  value_here : value s (marks_at s more here) ≡ Some
      (contribution_with (value s (marks_at s k here)) (slot_sample_of s m))
  value_here = ap (value s) marks_here ∙ value-insert s (marks_at s k here) m
      (knows-marks_at s k here m ∙ ap (λ b. b && eq_by_cmp cell_name_cmp here here) not_known)
      (λ y e. let a = known_at s k here y e in fresh y a.0 a.1)

  swap_and : {V : Type 0} (a b : Bool) (x y : Option V) → (a ≡ true → b ≡ true → x ≡ y)
      → cond (a && b) x None ≡ cond (b && a) y None
  swap_and true true x y f = f refl refl
  swap_and true false x y f = refl
  swap_and false true x y f = refl
  swap_and false false x y f = refl

  get_live : (q : CellName) → is_live_in s k q ≡ true → get (cells_of_knowledge s k) q ≡ value s (marks_at s k q)
  get_live q e = get-state s k q ∙ value_cell s is k q ∙ ap (λ b. cond b (value s (marks_at s k q)) None) e

  pub put_state : put_mark s (cells_of_knowledge s k) m ≡ cells_of_knowledge s more
  unfolding put_mark
  put_state =
      let v = contribution_with (get (cells_of_knowledge s k) here) (slot_sample_of s m) in
      same_map cell_name_cmp_total cell_name_cmp-IsAntisymmetric (put_mark s (cells_of_knowledge s k) m)
      (cells_of_knowledge s more) (λ q.
      get-trimmed cell_name_cmp_total cell_name_cmp-IsAntisymmetric (is_live s) (insert (cells_of_knowledge s k) here v)
      q
      ∙ (λ i. cond (live_inserted v q i) (get-insert cell_name_cmp_total (cells_of_knowledge s k) here v q i) None)
      ∙ swap_and (is_live s (here ∷ []) q) (is_live_in s k q)
      (cond (eq_by_cmp cell_name_cmp q here) (Some v) (get (cells_of_knowledge s k) q))
      (value s (marks_at s more q)) (λ a b.
      elim (eq_by_cmp cell_name_cmp q here) as (λ t. eq_by_cmp cell_name_cmp q here ≡ t
      → cond t (Some v) (get (cells_of_knowledge s k) q) ≡ value s (marks_at s more q)) [
        | true ↦ λ t.
            let at_here : q ≡ here = same_from_tie cell_name_cmp_total cell_name_cmp-IsAntisymmetric q here t in
            ap (λ x. Some (contribution_with x (slot_sample_of s m)))
            (get_live here (subst (λ x. is_live_in s k x ≡ true) at_here b)) ∙ sym value_here
            ∙ ap (λ x. value s (marks_at s more x)) (sym at_here)
        | false ↦ λ t. get_live q b ∙ ap (value s) (sym (marks_elsewhere q t))
      ] refl)
      ∙ sym (get-state s more q ∙ value_cell s is more q
      ∙ ap (λ b. cond b (value s (marks_at s more q)) None) (live_more q)))

-- ---- a sample more

-- no mark is known of an archive from this number on that is not older
AreOlder : Sample → ℕ → Knowledge → Type 0
AreOlder x first k = (y : Mark) → knows k y ≡ true → y.origin ≡ x.origin → first ≤ y.archive → y.number < x.number

puts_state : (s : Layout) (is : IsLayout s) (x : Sample) (n first : ℕ) (k : Knowledge) → AreOlder x first k
    → put_marks s (cells_of_knowledge s k) (marks_from s is x first n)
    ≡ cells_of_knowledge s (with_marks k (marks_from s is x first n))
unfolding AreOlder
puts_state s is x zero first k older = ap (cells_of_knowledge s) (sym (with_marks-nil k))
puts_state s is x (suc n) first k older =
    let m = mark x first in
    let fresh : (y : Mark) → knows k y ≡ true → name_of s y ≡ name_of s m
    → y.number < m.number = λ y e same. older y e (ap (λ (q : CellName). q.origin) same)
    (let at : y.archive ≡ first = ap (λ (q : CellName). q.archive) same in omega arith) in
    ap (λ c. put_marks s c (marks_from s is x (first + 1) n)) (put_state s is k m fresh)
    ∙ puts_state s is x n (first + 1) (with_marks k (m ∷ [])) (λ y e at above.
    either_case (knows k y) (eq_by_cmp mark_cmp y m || false) (sym (knows-with_marks k (m ∷ []) y) ∙ e)
    (λ known. older y known at (omega arith))
    (λ one. absurd (let same : y.archive ≡ first =
    ap (λ (z : Mark). z.archive) (same_from_tie mark_cmp_total mark_cmp-IsAntisymmetric y m
    (sym (or-false (eq_by_cmp mark_cmp y m)) ∙ one)) in omega arith)))
    ∙ ap (cells_of_knowledge s) (sym (with_marks-cons k m (marks_from s is x (first + 1) n)))

pub put_is_one_sample_more : PutIsOneSampleMore
unfolding AreOlder
put_is_one_sample_more s k x is ahead = puts_state s is x (length s.archives) 0 k (λ y e at _. ahead y e at)
