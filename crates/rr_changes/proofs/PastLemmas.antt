-- What holds a cell: its name has a later cell, or one far ahead of it in the same archive of the same key.
use Rattle.std.proofs.Common.{◌≡◌, ℕ, ◌≤◌, ℤ, pos, ◌-ℤ◌, Bool, true, false, cond, not, ◌&&◌, ◌||◌, List, [], ◌∷◌, refl, sym, ap, ◌∙◌, arith, true≢false, Less, Option, Some, None, is_some}
use Rattle.std.specs.Prelude.{int_lt}
use Rattle.std.specs.Cmp.{nat_cmp_total, tied_itself}
use Rattle.std.specs.Cmp.Lexicographic.{slice_cmp, nat_list_cmp_total}
use Rattle.std.specs.List.{list_all, list_any}
use Rattle.std.specs.Ordering.{eq_by_cmp, is_lt, int_cmp, nat_cmp, ordering_then}
use Rattle.std.specs.FinMap.{empty, get, keys, get-empty, get-insert, same_map}
use Rattle.std.proofs.lemmas.Bool.{not-true}
use Rattle.std.proofs.lemmas.Int.{ints}
use Rattle.rr_schema.specs.Schema.{Layout, IsLayout, archive_at}
use Rattle.rr_join.specs.Maps.{greater}
use Rattle.rr_join.proofs.Booleans.{and_first, and_second}
use Rattle.rr_join.proofs.Greater.{greater_itself}
use Rattle.rr_join.proofs.Horizons.{live_by_members}
use Rattle.rr_join.proofs.Joining.{get-joined}
use Rattle.rr_join.proofs.Lookups.{is_in-keys}
use Rattle.rr_join.proofs.Members.{found_of, same_from_tie}
use Rattle.rr_join.proofs.ValuesLemmas.{get-insert_itself}
use Rattle.rr_contrib.specs.declared.contribution.Contribution.{Contribution}
use Rattle.rr_contrib.specs.Contributions.{contribution_cmp}
use Rattle.rr_contrib.specs.ContributionOrder.{contribution_cmp_total, contribution_cmp-IsAntisymmetric}
use Rattle.rr_cells.specs.CellNames.{CellName, cell_name_cmp, is_live, is_of}
use Rattle.rr_cells.specs.CellBounds.{NamedCell}
use Rattle.rr_cells.specs.Cells.{Cells}
use Rattle.rr_cells.specs.Joins.{join}
use Rattle.rr_changes.specs.Updates.{Holds}
use Rattle.rr_cells.proofs.Horizon.{archive_is, is_of_says, is_past, live_horizon}
use Rattle.rr_cells.proofs.JoinLaws.{join_associates}
use Rattle.rr_cells.proofs.Orders.{cell_name_cmp_total, cell_name_cmp-IsAntisymmetric}
use Rattle.rr_delta.proofs.Walks.{before_both}
use Rattle.rr_changes.proofs.HoldingLemmas.{one}

-- ---- one cell beside another

-- what the map of a cell has at a name
one_at : (e : NamedCell) (q : CellName)
    → get (one e) q ≡ cond (eq_by_cmp cell_name_cmp q e.0) (Some e.1) None
one_at e q = get-insert cell_name_cmp_total empty e.0 e.1 q
    ∙ ap (cond (eq_by_cmp cell_name_cmp q e.0) (Some e.1)) (get-empty cell_name_cmp q)

-- joined to that of a cell, that of another brings no more than the first itself
abbrev pub Covers : Layout → NamedCell → NamedCell → Type 0
Covers s p e = join s (one p) (one e) ≡ join s (one p) (one p)

not_all : (test : CellName → Bool) (ns : List CellName) → list_all (λ n. not (test n)) ns ≡ false
    → list_any test ns ≡ true
not_all test [] h = absurd (true≢false h)
not_all test (n ∷ ns) h = elim (test n) as (λ b. (not b && list_all (λ n. not (test n)) ns) ≡ false
    → (b || list_any test ns) ≡ true) [
      | true ↦ λ h. refl
      | false ↦ λ h. not_all test ns h
    ] h

module _ (s : Layout) (is : IsLayout s) where
  -- beside one cell alone a name is live unless that cell puts it past the horizon
  live_one : (e : NamedCell) (q : CellName) → is_live s (keys (one e)) q ≡ not (is_past s e.0 q)
  live_one e q =
      live_by_members cell_name_cmp_total cell_name_cmp-IsAntisymmetric (live_horizon s is) (keys (one e)) (e.0 ∷ []) q
      (λ x. is_in-keys cell_name_cmp_total cell_name_cmp-IsAntisymmetric (one e) x ∙ ap is_some (one_at e x)
      ∙ by (eq_by_cmp cell_name_cmp x e.0))
      ∙ (live_horizon s is).says (e.0 ∷ []) q ∙ alone (not (is_past s e.0 q))
    where
      by : (b : Bool) → is_some (cond b (Some e.1) None) ≡ (b || false)
      by true = refl
      by false = refl

      alone : (b : Bool) → (b && true) ≡ b
      alone true = refl
      alone false = refl

  -- what two cells come to at a name
  at : (p e : NamedCell) (q : CellName) → get (join s (one p) (one e)) q
      ≡ cond (not (is_past s p.0 q) && not (is_past s e.0 q))
      (greater contribution_cmp (cond (eq_by_cmp cell_name_cmp q p.0) (Some p.1) None)
      (cond (eq_by_cmp cell_name_cmp q e.0) (Some e.1) None)) None
  at p e q = get-joined cell_name_cmp_total cell_name_cmp-IsAntisymmetric contribution_cmp_total
      contribution_cmp-IsAntisymmetric (live_horizon s is) (one p) (one e) q
      ∙ (λ i. cond (live_one p q i && live_one e q i) (greater contribution_cmp (one_at p q i) (one_at e q i)) None)

  -- a cell covers an earlier one of its name
  later_covers : (n : CellName) (d c : Contribution) → greater contribution_cmp (Some d) (Some c) ≡ Some d
      → Covers s (n, d) (n, c)
  later_covers n d c wins = same_map cell_name_cmp_total cell_name_cmp-IsAntisymmetric
      (join s (one (n, d)) (one (n, c))) (join s (one (n, d)) (one (n, d))) (λ q.
      at (n, d) (n, c) q
      ∙ ap (λ o. cond (not (is_past s n q) && not (is_past s n q)) o None) (by (eq_by_cmp cell_name_cmp q n))
      ∙ sym (at (n, d) (n, d) q))
    where
      by : (b : Bool) → greater contribution_cmp (cond b (Some d) None) (cond b (Some c) None)
          ≡ greater contribution_cmp (cond b (Some d) None) (cond b (Some d) None)
      by true = wins ∙ sym (greater_itself contribution_cmp_total (Some d))
      by false = refl

  -- and one that it puts past the horizon
  past_covers : (p n : CellName) (d c : Contribution) → is_past s p n ≡ true → Covers s (p, d) (n, c)
  past_covers p n d c past = same_map cell_name_cmp_total cell_name_cmp-IsAntisymmetric
      (join s (one (p, d)) (one (n, c))) (join s (one (p, d)) (one (p, d))) (λ q.
      at (p, d) (n, c) q
      ∙ by q (eq_by_cmp cell_name_cmp q n) (eq_by_cmp cell_name_cmp q p) refl refl
      ∙ sym (at (p, d) (p, d) q))
    where
      not_back : is_past s n p ≡ false
      not_back = elim (is_past s n p) as (λ b. is_past s n p ≡ b → b ≡ false) [
        | true ↦ λ t. absurd (true≢false (sym ((live_horizon s is).further n p n t past)
            ∙ (live_horizon s is).itself n))
        | false ↦ λ t. refl
      ] refl

      never : (x y : Bool) → x ≡ true → (z w : Option Contribution)
          → cond (not x && y) z None ≡ cond (not x && not x) w None
      never true y t z w = refl
      never false y t z w = absurd (true≢false (sym t))

      nothing : (x y : Bool) → cond {A = Option Contribution} x None None ≡ cond y None None
      nothing true true = refl
      nothing true false = refl
      nothing false true = refl
      nothing false false = refl

      by : (q : CellName) (a b : Bool) → eq_by_cmp cell_name_cmp q n ≡ a → eq_by_cmp cell_name_cmp q p ≡ b
          → cond (not (is_past s p q) && not (is_past s n q))
          (greater contribution_cmp (cond b (Some d) None) (cond a (Some c) None)) None
          ≡ cond (not (is_past s p q) && not (is_past s p q))
          (greater contribution_cmp (cond b (Some d) None) (cond b (Some d) None)) None
      by q true b e f = never (is_past s p q) (not (is_past s n q))
          (ap (is_past s p) (same_from_tie cell_name_cmp_total cell_name_cmp-IsAntisymmetric q n e) ∙ past) _ _
      by q false true e f =
          let same = same_from_tie cell_name_cmp_total cell_name_cmp-IsAntisymmetric q p f in
          let here : is_past s p q ≡ false = ap (is_past s p) same ∙ (live_horizon s is).itself p in
          let there : is_past s n q ≡ false = ap (is_past s n) same ∙ not_back in
          (λ i. cond (not (here i) && not (there i)) (Some d) None)
          ∙ sym (λ i. cond (not (here i) && not (here i)) (greater_itself contribution_cmp_total (Some d) i) None)
      by q false false e f = nothing _ _

  -- ---- what holds a cell

  -- whoever holds a cell holds what it covers
  pub holds_covered : (x : Cells) (p e : NamedCell) → Holds s x (one p) → Covers s p e → Holds s x (one e)
  holds_covered x p e has covers =
      ap (λ (y : Cells). join s y (one e)) (sym has) ∙ join_associates s x (one p) (one e) is
      ∙ ap (join s x) covers ∙ sym (join_associates s x (one p) (one p) is)
      ∙ ap (λ (y : Cells). join s y (one p)) has ∙ has

  -- a cell of a map that covers another: it is of the same key, and not before it
  pub record Cover (m : Cells) (e : NamedCell) : Type 0 where
    pub name : CellName
    pub cell : Contribution
    pub there : get m name ≡ Some cell
    pub covers : Covers s (name, cell) e
    pub key : name.key ≡ e.0.key
    pub behind : (a : CellName) → is_lt (cell_name_cmp a e.0) ≡ true → is_lt (cell_name_cmp a name) ≡ true

  further_slot : (n p : CellName) → is_past s p n ≡ true → int_cmp n.slot p.slot ≡ Less
  further_slot n p past =
      let rows = (archive_at s n.archive).rows in
      let some : 1 ≤ rows = (archive_is s is n.archive).some_row in
      let ahead : int_lt (p.slot -ℤ pos rows) n.slot ≡ false =
      not-true _ (and_second (is_of n.key n.archive p) _ past) in
      less n.slot p.slot rows some ahead
    where
      less : (a b : ℤ) (rows : ℕ) → 1 ≤ rows → int_lt (b -ℤ pos rows) a ≡ false → int_cmp a b ≡ Less
      less a b rows some ahead = grind (arith, ints)

  further_on : (n p : CellName) → is_past s p n ≡ true → is_lt (cell_name_cmp n p) ≡ true
  further_on n p past =
      let of = is_of_says n.key n.archive p (and_first (is_of n.key n.archive p) _ past) in
      ap (λ (k : List ℕ). is_lt (ordering_then (slice_cmp nat_cmp n.key k) (ordering_then (nat_cmp n.archive p.archive)
      (ordering_then (int_cmp n.slot p.slot) (nat_cmp n.origin p.origin))))) of.0
      ∙ ap (λ r. is_lt (ordering_then r (ordering_then (nat_cmp n.archive p.archive)
      (ordering_then (int_cmp n.slot p.slot) (nat_cmp n.origin p.origin))))) (tied_itself nat_list_cmp_total n.key)
      ∙ ap (λ (k : ℕ). is_lt (ordering_then (nat_cmp n.archive k)
      (ordering_then (int_cmp n.slot p.slot) (nat_cmp n.origin p.origin)))) of.1
      ∙ ap (λ r. is_lt (ordering_then r
      (ordering_then (int_cmp n.slot p.slot) (nat_cmp n.origin p.origin)))) (tied_itself nat_cmp_total n.archive)
      ∙ ap (λ r. is_lt (ordering_then r (nat_cmp n.origin p.origin))) (further_slot n p past)

  -- what stands at its name covers it
  by_later : (m : Cells) (e : NamedCell) (o : Option Contribution) → get m e.0 ≡ o
      → greater contribution_cmp o (Some e.1) ≡ o → Cover m e
  by_later m e None there wins = absurd cc
  by_later m e (Some d) there wins = record {
    name = e.0;
    cell = d;
    there = there;
    covers = later_covers e.0 d e.1 wins;
    key = refl;
    behind = λ a h. h;
  }

  -- or a cell far ahead of it
  by_past : (m : Cells) (e : NamedCell) (p : CellName) → is_past s p e.0 ≡ true → (o : Option Contribution)
      → get m p ≡ o → is_some o ≡ true → Cover m e
  by_past m e p past None there some = absurd (true≢false (sym some))
  by_past m e p past (Some d) there some = record {
    name = p;
    cell = d;
    there = there;
    covers = past_covers p e.0 d e.1 past;
    key = (is_of_says e.0.key e.0.archive p (and_first (is_of e.0.key e.0.archive p) _ past)).0;
    behind = λ a h. before_both a e.0 p h (further_on e.0 p past);
  }

  -- in a map that holds a cell one covers it
  pub cover_of : (m : Cells) (e : NamedCell) → Holds s m (one e) → Cover m e
  cover_of m e has = by (is_live s (keys m) e.0) refl
      (sym (get-joined cell_name_cmp_total cell_name_cmp-IsAntisymmetric contribution_cmp_total
      contribution_cmp-IsAntisymmetric (live_horizon s is) m (one e) e.0) ∙ ap (λ (y : Cells). get y e.0) has)
    where
      itself_live : is_live s (keys (one e)) e.0 ≡ true
      itself_live = live_one e e.0 ∙ ap not ((live_horizon s is).itself e.0)

      here : get (one e) e.0 ≡ Some e.1
      here = get-insert_itself cell_name_cmp_total cell_name_cmp-IsAntisymmetric empty e.0 e.1

      by : (b : Bool) → is_live s (keys m) e.0 ≡ b
          → cond (b && is_live s (keys (one e)) e.0) (greater contribution_cmp (get m e.0) (get (one e) e.0)) None
          ≡ get m e.0 → Cover m e
      by true live h = by_later m e (get m e.0) refl
          (sym (λ i. cond (itself_live i) (greater contribution_cmp (get m e.0) (here i)) None) ∙ h)
      by false live h =
          let far = found_of cell_name_cmp_total cell_name_cmp-IsAntisymmetric (λ p. is_past s p e.0) (keys m)
          (not_all (λ p. is_past s p e.0) (keys m) (sym ((live_horizon s is).says (keys m) e.0) ∙ live)) in
          by_past m e far.item far.passes (get m far.item) refl
          (sym (is_in-keys cell_name_cmp_total cell_name_cmp-IsAntisymmetric m far.item) ∙ far.known)
