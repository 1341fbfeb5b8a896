-- What a map holds that others were joined into, and updates that are joined one after the other.
use Rattle.std.proofs.Common.{◌≡◌, true, false, cond, true≢false, List, [], ◌∷◌, ◌++◌, refl, sym, ap, ◌∙◌, subst, Option, Some, None, Less, Equal, Greater, ⊎_elim, ◌⊎◌, arith}
use Rattle.std.specs.Prelude.{Contains}
use Rattle.std.specs.List.{AllByRecursion}
use Rattle.std.specs.Cmp.{tied_itself}
use Rattle.std.specs.Ordering.{eq_by_cmp, is_le, is_lt}
use Rattle.std.specs.FinMap.{get, insert, empty, entries, get-insert, get-empty, same_map}
use Rattle.std.proofs.lemmas.List.Elements.{All-contains, All-from_recursion, All-weaker, Contains-append_cases, Contains-push_cases, recursion_from_All}
use Rattle.rr_schema.specs.Schema.{Layout, IsLayout}
use Rattle.rr_join.specs.Maps as Maps
use Rattle.rr_join.specs.Maps.{greater, merged, trimmed}
use Rattle.rr_join.proofs.Greater.{greater-None, greater_itself}
use Rattle.rr_join.proofs.Joining.{joined_itself, joined-trimmed}
use Rattle.rr_join.proofs.Lookups.{get-merged}
use Rattle.rr_join.proofs.Members.{same_from_tie}
use Rattle.rr_contrib.specs.declared.contribution.Contribution.{Contribution}
use Rattle.rr_contrib.specs.Contributions.{contribution_cmp}
use Rattle.rr_contrib.specs.ContributionOrder.{contribution_cmp_total, contribution_cmp-IsAntisymmetric}
use Rattle.rr_cells.specs.CellNames.{CellName, cell_name_cmp, is_live}
use Rattle.rr_cells.specs.CellBounds.{NamedCell}
use Rattle.rr_cells.specs.Cells.{Cells, IsTrimmed}
use Rattle.rr_cells.specs.Joins.{join, join_cell, join_cells}
use Rattle.rr_changes.specs.Updates.{Holds, IsUpdate, Write, AreWrites, is_at_least, last_cells, written_cells}
use Rattle.rr_changes.specs.UpdateLaws.{UpdateMakesTheCells, UpdatesBringAll, UpdatesMakeTheLast}
use Rattle.rr_cells.proofs.Orders.{cell_name_cmp_total, cell_name_cmp-IsAntisymmetric}
use Rattle.rr_cells.proofs.Horizon.{live_horizon}
use Rattle.rr_cells.proofs.HeldCells.{all_entries}
use Rattle.rr_cells.proofs.CellByCell.{join_goes_by_cells}
use Rattle.rr_cells.proofs.JoinLaws.{join_commutes, join_associates, join_itself, join_trims}

-- the map of one cell
abbrev pub one : NamedCell → Cells
one e = insert empty e.0 e.1

-- ---- lists

pub nowhere : (e : NamedCell) → Contains [] e → ⊥
nowhere e among = let within = among.1 in omega arith

pub only : (f e : NamedCell) → Contains (f ∷ []) e → f ≡ e
only f e among = ⊎_elim (λ none. absurd (nowhere e none)) (λ same. same) (Contains-push_cases [] f e among)

all_parts : (P : NamedCell → Type 0) (xs ys : List NamedCell) → AllByRecursion P (xs ++ ys)
    → AllByRecursion P xs × AllByRecursion P ys
all_parts P [] ys all = (tt, all)
all_parts P (x ∷ xs) ys all = let rest = all_parts P xs ys all.1 in ((all.0, rest.0), rest.1)

all_joined : (P : NamedCell → Type 0) (xs ys : List NamedCell) → AllByRecursion P xs → AllByRecursion P ys
    → AllByRecursion P (xs ++ ys)
all_joined P [] ys first back = back
all_joined P (x ∷ xs) ys first back = (first.0, all_joined P xs ys first.1 back)

-- ---- an update

-- at each name the greater of what was before and of the update is the greater of what was before and of now
same_greater : (before now update : Option Contribution) → ((c : Contribution) → update ≡ Some c → now ≡ Some c)
    → ((c : Contribution) → now ≡ Some c → (before ≡ Some c) ⊎ (update ≡ Some c))
    → greater contribution_cmp before update ≡ greater contribution_cmp before now
same_greater before None None part whole = refl
same_greater before None (Some u) part whole = ap (greater contribution_cmp before) (sym (part u refl))
same_greater before (Some c) None part whole = ⊎_elim
    (λ was. ap (λ b. greater contribution_cmp b None) was
    ∙ sym (greater_itself contribution_cmp_total (Some c))
    ∙ ap (λ b. greater contribution_cmp b (Some c)) (sym was))
    (λ new. ap (greater contribution_cmp before) new)
    (whole c refl)
same_greater before (Some c) (Some u) part whole = ap (greater contribution_cmp before) (sym (part u refl))

update_joins : (s : Layout) (before m update : Cells) → IsUpdate before m update
    → join s before update ≡ join s before m
unfolding Maps.joined
update_joins s before m update is = ap (trimmed (is_live s))
    (same_map cell_name_cmp_total cell_name_cmp-IsAntisymmetric
    (merged contribution_cmp before update) (merged contribution_cmp before m) (λ q.
    get-merged cell_name_cmp_total cell_name_cmp-IsAntisymmetric contribution_cmp before update q
    ∙ same_greater (get before q) (get m q) (get update q) (is.part q) (is.whole q)
    ∙ sym (get-merged cell_name_cmp_total cell_name_cmp-IsAntisymmetric contribution_cmp before m q)))

pub update_makes_the_cells : UpdateMakesTheCells
update_makes_the_cells s before m update is has since =
    update_joins s before m update since ∙ join_commutes s before m is ∙ has

-- joining what isn't greater changes nothing
greater_there : (o : Option Contribution) (c : Contribution) → is_at_least o c ≡ true
    → greater contribution_cmp o (Some c) ≡ o
greater_there None c h = absurd (true≢false (sym h))
greater_there (Some d) c h = ap (λ (v : Contribution). Some v) (elim (contribution_cmp c d) as
    (λ r. contribution_cmp c d ≡ r → cond (is_lt r) d c ≡ d) [
      | Less ↦ λ e. refl
      | Equal ↦ λ e. contribution_cmp-IsAntisymmetric c d e
      | Greater ↦ λ e. absurd (true≢false (sym h ∙ ap is_le e))
    ] refl)

-- a map holds each cell at whose name it has no less
pub join_held_cell : (s : Layout) (m : Cells) (n : CellName) (c : Contribution) → IsTrimmed s m
    → is_at_least (get m n) c ≡ true → Holds s m (insert empty n c)
unfolding Maps.joined
join_held_cell s m n c kept h =
    ap (trimmed (is_live s)) (same_map cell_name_cmp_total cell_name_cmp-IsAntisymmetric
    (merged contribution_cmp m (insert empty n c)) m (λ q.
    get-merged cell_name_cmp_total cell_name_cmp-IsAntisymmetric contribution_cmp m (insert empty n c) q
    ∙ ap (greater contribution_cmp (get m q)) (get-insert cell_name_cmp_total empty n c q
    ∙ ap (cond (eq_by_cmp cell_name_cmp q n) (Some c)) (get-empty cell_name_cmp q))
    ∙ elim (eq_by_cmp cell_name_cmp q n) as (λ b. eq_by_cmp cell_name_cmp q n ≡ b
    → greater contribution_cmp (get m q) (cond b (Some c) None) ≡ get m q) [
      | true ↦ λ t.
          let same = same_from_tie cell_name_cmp_total cell_name_cmp-IsAntisymmetric q n t in
          greater_there (get m q) c (ap (λ x. is_at_least (get m x) c) same ∙ h)
      | false ↦ λ t. greater-None contribution_cmp (get m q)
    ] refl))
    ∙ kept

-- so each cell that it has
join_own : (s : Layout) (m : Cells) (n : CellName) (c : Contribution) → IsTrimmed s m → get m n ≡ Some c
    → Holds s m (insert empty n c)
join_own s m n c kept e = join_held_cell s m n c kept (ap (λ o. is_at_least o c) e
    ∙ ap is_le (tied_itself contribution_cmp_total c))

-- ---- what is held

module _ (s : Layout) (is : IsLayout s) where
  pub holds_before : (m c : Cells) → IsTrimmed s m → Holds s (join s m c) m
  holds_before m c kept =
      join_commutes s (join s m c) m is ∙ sym (join_associates s m m c is)
      ∙ ap (λ (x : Cells). join s x c) (join_itself s m is kept)

  pub holds_joined : (m c : Cells) → Holds s (join s m c) c
  holds_joined m c =
      join_associates s m c c is
      ∙ ap (join s m) (joined_itself cell_name_cmp_total cell_name_cmp-IsAntisymmetric contribution_cmp_total
      contribution_cmp-IsAntisymmetric (live_horizon s is) c)
      ∙ joined-trimmed cell_name_cmp_total cell_name_cmp-IsAntisymmetric contribution_cmp_total
      contribution_cmp-IsAntisymmetric (live_horizon s is) m c

  pub holds_further : (x m l : Cells) → Holds s x m → Holds s m l → Holds s x l
  holds_further x m l a b =
      ap (λ (y : Cells). join s y l) (sym a) ∙ join_associates s x m l is ∙ ap (join s x) b ∙ a

  pub holds_both : (x m n : Cells) → Holds s x m → Holds s x n → Holds s x (join s m n)
  holds_both x m n a b = sym (join_associates s x m n is) ∙ ap (λ (y : Cells). join s y n) a ∙ b

  pub holds_trimmed : (x m : Cells) → Holds s x m → IsTrimmed s x
  holds_trimmed x m a = subst (λ (y : Cells). IsTrimmed s y) a (join_trims s x m is)

  pub hold_each_other : (x m : Cells) → Holds s x m → Holds s m x → x ≡ m
  hold_each_other x m a b = sym a ∙ join_commutes s x m is ∙ b

  -- ---- joined cell by cell

  pub still_held : (es : List NamedCell) (x m : Cells) → Holds s x m → Holds s (join_cells s x es) m
  still_held [] x m a = a
  still_held (e ∷ es) x m a = still_held es (join_cell s x e.0 e.1) m
      (holds_further (join_cell s x e.0 e.1) x m (holds_before x (one e) (holds_trimmed x m a)) a)

  pub each_held : (es : List NamedCell) (x : Cells) (e : NamedCell) → IsTrimmed s x → Contains es e
      → Holds s (join_cells s x es) (one e)
  each_held [] x e kept among = absurd (nowhere e among)
  each_held (f ∷ es) x e kept among = ⊎_elim
      (λ first. still_held es (join_cell s x f.0 f.1) (one e) (subst (λ (g : NamedCell). Holds s (join s x
      (one f)) (one g))
      (only f e first) (holds_joined x (one f))))
      (λ later. each_held es (join_cell s x f.0 f.1) e (join_trims s x (one f) is) later)
      (Contains-append_cases (f ∷ []) es e among)

  -- to join what is held changes nothing
  join_held : (es : List NamedCell) (x : Cells) → AllByRecursion (λ e. Holds s x (one e)) es → join_cells s x es ≡ x
  join_held [] x all = refl
  join_held (e ∷ es) x all = ap (λ (y : Cells). join_cells s y es) all.0 ∙ join_held es x all.1

  pub holds_entries : (x c : Cells) → IsTrimmed s x → AllByRecursion (λ e. Holds s x (one e)) (entries c) → Holds s x c
  holds_entries x c kept all = sym (join_goes_by_cells s x c is kept) ∙ join_held (entries c) x all

  -- and what makes a held map is held
  pub made_held : (es : List NamedCell) (x m : Cells) → Holds s x m → AllByRecursion (λ e. Holds s x (one e)) es
      → Holds s x (join_cells s m es)
  made_held [] x m a all = a
  made_held (e ∷ es) x m a all = made_held es x (join_cell s m e.0 e.1) (holds_both x m (one e) a all.0) all.1

  -- ---- updates

  pub brought : (writes : List Write) (m x : Cells) → AreWrites s m writes → Holds s x m
      → AllByRecursion (λ e. Holds s x (one e)) (written_cells writes) → Holds s x (last_cells m writes)
  brought [] m x are a all = a
  brought (w ∷ later) m x are a all =
      let parts = all_parts (λ e. Holds s x (one e)) (entries w.update) (written_cells later) all in
      brought later w.cells x are.2
      (subst (λ (y : Cells). Holds s x y) (update_makes_the_cells s m w.cells w.update is are.0 are.1)
      (holds_both x m w.update a (holds_entries x w.update (holds_trimmed x m a) parts.0)))
      parts.1

  -- the cells of the last write hold each cell that was written
  pub last_holds : (writes : List Write) (m : Cells) → AreWrites s m writes → IsTrimmed s m
      → Holds s (last_cells m writes) m
      × AllByRecursion (λ e. Holds s (last_cells m writes) (one e)) (written_cells writes)
  last_holds [] m are kept = (join_itself s m is kept, tt)
  last_holds (w ∷ later) m are kept =
      let trim = holds_trimmed w.cells m are.0 in
      let rest = last_holds later w.cells are.2 trim in (
        holds_further (last_cells w.cells later) w.cells m rest.0 are.0,
        all_joined (λ e. Holds s (last_cells w.cells later) (one e)) (entries w.update) (written_cells later)
            (all_entries (λ e. Holds s (last_cells w.cells later) (one e)) w.update (λ n c e.
            holds_further (last_cells w.cells later) w.cells (insert empty n c) rest.0
            (join_own s w.cells n c trim (are.1.part n c e)))) rest.1,
      )

pub updates_bring_all : UpdatesBringAll
updates_bring_all s m x writes es is are has among =
    brought s is writes m (join_cells s x es) are (still_held s is es x m has)
    (recursion_from_All (λ e. Holds s (join_cells s x es) (one e)) (written_cells writes)
    (All-weaker (Contains es) (λ e. Holds s (join_cells s x es) (one e))
    (λ e at. each_held s is es x e (holds_trimmed s is x m has) at) (written_cells writes) among))

pub updates_make_the_last : UpdatesMakeTheLast
updates_make_the_last s m writes es is kept are among others =
    let last = last_cells m writes in
    let held = last_holds s is writes m are kept in
    hold_each_other s is (join_cells s m es) last
    (updates_bring_all s m m writes es is are (join_itself s m is kept) among)
    (made_held s is es last m held.0 (recursion_from_All (λ e. Holds s last (one e)) es
    (All-weaker (Contains (written_cells writes)) (λ e. Holds s last (one e))
    (λ e at. All-contains (λ e. Holds s last (one e)) (written_cells writes) e
    (All-from_recursion (λ e. Holds s last (one e)) (written_cells writes) held.1) at) es others)))
