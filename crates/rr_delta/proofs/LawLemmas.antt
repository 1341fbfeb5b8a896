-- The laws of differences.
use Rattle.std.proofs.Common.{◌≡◌, ℕ, zero, suc, ◌<◌, ◌≤◌, nat_cmp, Bool, true, false, cond, ◌||◌, T, List, [], ◌∷◌, map, take, drop, slice_get, unwrap_or, refl, sym, ap, ◌∙◌, subst, arith, ⊎_elim, Option, Some, None, Ordering, Less}
use Rattle.std.specs.Prelude.{nat_lt}
use Rattle.std.specs.List.{AllByRecursion, filter, take-map, drop-map}
use Rattle.std.specs.Option.{option_map}
use Rattle.std.specs.Ordering.{eq_by_cmp, is_lt, ord_max, ordering_then, int_cmp}
use Rattle.std.specs.FinMap.{get, retain_keys, get-retain_keys, entries, entries_sorted, find, from_sorted, get-entries, get-from_sorted, entries-from_sorted, is_sorted, same_map}
use Rattle.std.specs.FinMap.Entries.{below_all}
use Rattle.std.proofs.lemmas.Bool.{cases_lt, ltb-false}
use Rattle.std.proofs.lemmas.Bool.Decides.{nat_tests}
use Rattle.rr_join.specs.Maps as Maps
use Rattle.rr_join.specs.Maps.{greater, merged, trimmed}
use Rattle.rr_join.proofs.Booleans.{first_T, second_T}
use Rattle.rr_join.proofs.Lookups.{get-merged}
use Rattle.rr_join.proofs.Members.{is_in, same_from_tie, tie_itself}
use Rattle.rr_contrib.specs.declared.contribution.Contribution.{Contribution}
use Rattle.rr_contrib.specs.Contributions.{contribution_cmp}
use Rattle.rr_cells.specs.CellNames.{CellName, cell_name_cmp, is_live}
use Rattle.rr_cells.specs.Knowledge.{cells_named, difference}
use Rattle.rr_cells.proofs.Orders.{cell_name_cmp_total, cell_name_cmp-IsAntisymmetric}
use Rattle.rr_cells.specs.CellBounds.{NamedCell}
use Rattle.rr_cells.specs.Cells.{Cells}
use Rattle.rr_cells.specs.Joins.{join_cells}
use Rattle.rr_cells.specs.State.{cells_of_knowledge}
use Rattle.rr_cells.specs.Versions.{is_newer, newer_names}
use Rattle.rr_cells.proofs.Agreeing.{closed_agree}
use Rattle.rr_cells.proofs.CellByCell.{join_goes_by_cells}
use Rattle.rr_cells.proofs.Differing.{difference_is_by_versions}
use Rattle.rr_cells.proofs.JoinLaws.{join_unites}
use Rattle.rr_cells.proofs.States.{state_is_trimmed}
use Rattle.rr_cells.proofs.WholeCells.{state_where}
use Rattle.rr_delta.specs.Names.{named_version, versions_of}
use Rattle.rr_delta.specs.Difference.{is_newer_than, newer_cells}
use Rattle.rr_delta.specs.Laws as laws
use Rattle.rr_delta.proofs.Walks.{below_filter, sorted_filter, sorted_drop, sorted_take}
use Rattle.rr_delta.proofs.HeldLemmas.{all_filtered, all_dropped, all_taken}
use Rattle.rr_delta.proofs.DifferenceLemmas.{none_below, newer_sorted}

-- ---- what a summary of a map says of a name

find_version : (q : CellName) (es : List NamedCell)
    → find cell_name_cmp q (map named_version es) ≡ option_map (λ c. c.version) (find cell_name_cmp q es)
find_version q [] = refl
find_version q (e ∷ es) = elim (eq_by_cmp cell_name_cmp q e.0) as
    (λ b. cond b (Some e.1.version) (find cell_name_cmp q (map named_version es))
    ≡ option_map (λ c. c.version) (cond b (Some e.1) (find cell_name_cmp q es))) [
      | true ↦ refl
      | false ↦ find_version q es
    ]

known_version : (n : Cells) (q : CellName) → find cell_name_cmp q (versions_of n)
    ≡ option_map (λ c. c.version) (get n q)
known_version n q = find_version q (entries n) ∙ ap (option_map (λ c. c.version)) (sym (get-entries n q))

newer_by_version : (o : Option Contribution) (a : Contribution)
    → is_newer_than (option_map (λ c. c.version) o) a.version ≡ is_newer (Some a) o
newer_by_version None a = refl
newer_by_version (Some b) a = refl

-- ---- each cell of a map is found at its name

found_at : (es : List NamedCell) → T (is_sorted cell_name_cmp es) → (i : ℕ) (e : NamedCell) → slice_get es i ≡ Some e
    → find cell_name_cmp e.0 es ≡ Some e.1
found_at [] h i e at = absurd cc
found_at (x ∷ xs) h zero e at = subst (λ (y : NamedCell). find cell_name_cmp y.0 (x ∷ xs) ≡ Some y.1)
    (ap (λ o. unwrap_or o x) at) (ap (λ b. cond b (Some x.1) (find cell_name_cmp x.0 xs))
    (tie_itself cell_name_cmp_total cell_name_cmp-IsAntisymmetric x.0))
found_at (x ∷ xs) h (suc i) e at =
    let rest = found_at xs (second_T (below_all cell_name_cmp x.0 xs) (is_sorted cell_name_cmp xs) h) i e at in
    elim (eq_by_cmp cell_name_cmp e.0 x.0) as (λ b. eq_by_cmp cell_name_cmp e.0 x.0 ≡ b
    → cond b (Some x.1) (find cell_name_cmp e.0 xs) ≡ Some e.1) [
      | true ↦ λ t. absurd (none_some (sym (none_below x.0 xs
          (first_T (below_all cell_name_cmp x.0 xs) (is_sorted cell_name_cmp xs) h))
          ∙ ap (λ q. find cell_name_cmp q xs) (sym (same_from_tie cell_name_cmp_total cell_name_cmp-IsAntisymmetric e.0
          x.0 t)) ∙ rest))
      | false ↦ λ t. rest
    ] refl
  where
    none_some : None ≡ Some e.1 → ⊥
    none_some f = absurd cc

get_at : (m : Cells) (i : ℕ) (e : NamedCell) → slice_get (entries m) i ≡ Some e → get m e.0 ≡ Some e.1
get_at m i e at = get-entries m e.0 ∙ found_at (entries m) (entries_sorted m) i e at

-- ---- the difference by versions

names_kept : (p : NamedCell → Bool) (q : CellName → Bool) (es : List NamedCell)
    → ((i : ℕ) (e : NamedCell) → slice_get es i ≡ Some e → p e ≡ q e.0)
    → map (λ e. e.0) (filter p es) ≡ filter q (map (λ e. e.0) es)
names_kept p q [] same = refl
names_kept p q (e ∷ es) same =
    let rest = names_kept p q es (λ i f at. same (suc i) f at) in
    ap (λ b. map (λ f. f.0) (cond b (e ∷ filter p es) (filter p es))) (same zero e refl)
    ∙ elim (q e.0) as (λ b. map (λ f. f.0) (cond b (e ∷ filter p es) (filter p es))
    ≡ cond b (e.0 ∷ filter q (map (λ f. f.0) es)) (filter q (map (λ f. f.0) es))) [
      | true ↦ ap (λ l. e.0 ∷ l) rest
      | false ↦ rest
    ]

newer_at : (m n : Cells) (i : ℕ) (e : NamedCell) → slice_get (entries m) i ≡ Some e
    → is_newer_than (find cell_name_cmp e.0 (versions_of n)) e.1.version ≡ is_newer (get m e.0) (get n e.0)
newer_at m n i e at =
    ap (λ o. is_newer_than o e.1.version) (known_version n e.0)
    ∙ newer_by_version (get n e.0) e.1
    ∙ ap (λ o. is_newer o (get n e.0)) (sym (get_at m i e at))

pub difference_by_versions : laws.DifferenceIsByVersions
unfolding newer_cells newer_names
difference_by_versions m n = names_kept (λ e. is_newer_than (find cell_name_cmp e.0 (versions_of n)) e.1.version)
    (λ q. is_newer (get m q) (get n q)) (entries m) (newer_at m n)

pub difference_of_knowledges : laws.DifferenceIsOfKnowledges
difference_of_knowledges s w k l is ck cl = difference_by_versions (cells_of_knowledge s k) (cells_of_knowledge s l)
    ∙ difference_is_by_versions s w k l is ck cl

-- ---- parts of the difference

module _ (m : Cells) where
  -- some cells of the map, as they are there
  abbrev AreOf : List NamedCell → Type 0
  AreOf es = AllByRecursion (λ e. get m e.0 ≡ Some e.1) es

  all_are : AreOf (entries m)
  all_are = by_places (entries m) (λ i e at. get_at m i e at)
    where
      by_places : (es : List NamedCell) → ((i : ℕ) (e : NamedCell) → slice_get es i ≡ Some e → get m e.0 ≡ Some e.1)
          → AreOf es
      by_places [] each = tt
      by_places (e ∷ es) each = (each zero e refl, by_places es (λ i f at. each (suc i) f at))

  find_among : (es : List NamedCell) (q : CellName) → AreOf es
      → cond (is_in cell_name_cmp (map (λ e. e.0) es) q) (get m q) None ≡ find cell_name_cmp q es
  find_among [] q all = refl
  find_among (e ∷ es) q all = elim (eq_by_cmp cell_name_cmp q e.0) as
      (λ b. eq_by_cmp cell_name_cmp q e.0 ≡ b → cond (b || is_in cell_name_cmp (map (λ f. f.0) es) q) (get m q) None
      ≡ cond b (Some e.1) (find cell_name_cmp q es)) [
        | true ↦ λ t. ap (get m) (same_from_tie cell_name_cmp_total cell_name_cmp-IsAntisymmetric q e.0 t) ∙ all.0
        | false ↦ λ t. find_among es q all.1
      ] refl

  -- of the map those whose names are among theirs are these
  some_kept : (es : List NamedCell) → T (is_sorted cell_name_cmp es) → AreOf es
      → entries (retain_keys m (is_in cell_name_cmp (map (λ e. e.0) es))) ≡ es
  some_kept es sorted all =
      ap entries (same_map cell_name_cmp_total cell_name_cmp-IsAntisymmetric
      (retain_keys m (is_in cell_name_cmp (map (λ e. e.0) es))) (from_sorted es) (λ q.
      get-retain_keys m (is_in cell_name_cmp (map (λ e. e.0) es)) q
      (λ x t. ap (is_in cell_name_cmp (map (λ e. e.0) es)) (sym (cell_name_cmp-IsAntisymmetric q x t)))
      ∙ find_among es q all ∙ sym (get-from_sorted cell_name_cmp es q sorted)))
      ∙ entries-from_sorted cell_name_cmp es sorted

pub differences_are_cut : laws.DifferencesAreCutFromEntries
unfolding newer_cells
differences_are_cut s w k l from count is ck cl =
    let m = cells_of_knowledge s k in
    let known = versions_of (cells_of_knowledge s l) in
    let p : NamedCell → Bool = λ e. is_newer_than (find cell_name_cmp e.0 known) e.1.version in
    let all = newer_cells known (entries m) in
    let es = take count (drop from all) in
    let sorted = sorted_take count (drop from all)
    (sorted_drop from all (sorted_filter p (entries m) (entries_sorted m))) in
    let are = all_taken (λ (e : NamedCell). get m e.0 ≡ Some e.1) count (drop from all)
    (all_dropped (λ (e : NamedCell). get m e.0 ≡ Some e.1) from all
    (all_filtered (λ (e : NamedCell). get m e.0 ≡ Some e.1) p (entries m) (all_are m))) in
    let names : take count (drop from (difference s k l)) ≡ map (λ (e : NamedCell). e.0) es =
    ap (λ ns. take count (drop from ns)) (sym (difference_of_knowledges s w k l is ck cl))
    ∙ ap (take count) (drop-map (λ (e : NamedCell). e.0) from all)
    ∙ take-map (λ (e : NamedCell). e.0) count (drop from all) in
    ap (λ ns. entries (cells_of_knowledge s (cells_named s k ns))) names
    ∙ ap entries (state_where s is k (is_in cell_name_cmp (map (λ (e : NamedCell). e.0) es)))
    ∙ some_kept m es sorted are

-- ---- the join

-- what stands at a name, where the cells that pass a test are kept
kept : (NamedCell → Bool) → CellName → Option Contribution → Option Contribution
kept p q None = None
kept p q (Some c) = cond (p (q, c)) (Some c) None

find_kept : (p : NamedCell → Bool) (q : CellName) (es : List NamedCell) → T (is_sorted cell_name_cmp es)
    → find cell_name_cmp q (filter p es) ≡ kept p q (find cell_name_cmp q es)
unfolding kept
find_kept p q [] h = refl
find_kept p q (x ∷ xs) h =
    let below = first_T (below_all cell_name_cmp x.0 xs) (is_sorted cell_name_cmp xs) h in
    let rest = find_kept p q xs (second_T (below_all cell_name_cmp x.0 xs) (is_sorted cell_name_cmp xs) h) in
    elim (eq_by_cmp cell_name_cmp q x.0) as (λ b. eq_by_cmp cell_name_cmp q x.0 ≡ b
    → find cell_name_cmp q (cond (p x) (x ∷ filter p xs) (filter p xs))
    ≡ kept p q (cond b (Some x.1) (find cell_name_cmp q xs))) [
      | true ↦ λ t.
          let same : q ≡ x.0 = same_from_tie cell_name_cmp_total cell_name_cmp-IsAntisymmetric q x.0 t in
          elim (p x) as (λ b. p x ≡ b → find cell_name_cmp q (cond b (x ∷ filter p xs) (filter p xs))
          ≡ cond (p (q, x.1)) (Some x.1) None) [
            | true ↦ λ u. ap (λ b. cond b (Some x.1) (find cell_name_cmp q (filter p xs))) t
                ∙ sym (ap (λ b. cond b (Some x.1) None) (ap (λ n. p (n, x.1)) same ∙ u))
            | false ↦ λ u. ap (λ n. find cell_name_cmp n (filter p xs)) same
                ∙ none_below x.0 (filter p xs) (below_filter p x.0 xs below)
                ∙ sym (ap (λ b. cond b (Some x.1) None) (ap (λ n. p (n, x.1)) same ∙ u))
          ] refl
      | false ↦ λ t.
          elim (p x) as (λ b. find cell_name_cmp q (cond b (x ∷ filter p xs) (filter p xs))
          ≡ kept p q (find cell_name_cmp q xs)) [
            | true ↦ ap (λ b. cond b (Some x.1) (find cell_name_cmp q (filter p xs))) t ∙ rest
            | false ↦ rest
          ]
    ] refl

-- of two contributions that agree where their versions do, the one of the greater version is the greater
earlier_or_same : (x y : Contribution) → x.version ≤ y.version → (x.version ≡ y.version → x ≡ y)
    → ord_max contribution_cmp y x ≡ y
earlier_or_same x y le agree = ⊎_elim
    (λ lt. ap (λ r. cond (is_lt r) y x) (smaller x y lt))
    (λ ge. same (agree (omega arith)))
    (cases_lt x.version y.version)
  where
    nat_less : (m n : ℕ) → m < n → nat_cmp m n ≡ Less
    nat_less m n h = grind (arith, nat_tests)

    -- the order of two contributions of one version
    later : Contribution → Contribution → Ordering
    later a b =
        ordering_then (nat_cmp a.count b.count)
        (ordering_then (int_cmp a.sum b.sum)
        (ordering_then (int_cmp a.min b.min)
        (ordering_then (int_cmp a.max b.max)
        (ordering_then (int_cmp a.last_time b.last_time)
        (ordering_then (int_cmp a.last_value b.last_value)
        (nat_cmp a.mask b.mask))))))

    either : (b : Bool) → cond b x x ≡ x
    either true = refl
    either false = refl

    smaller : (a b : Contribution) → a.version < b.version → contribution_cmp a b ≡ Less
    smaller a b lt = ap (λ r. ordering_then r (later a b)) (nat_less a.version b.version lt)

    same : x ≡ y → ord_max contribution_cmp y x ≡ y
    same e = subst (λ z. ord_max contribution_cmp z x ≡ z) e (either (is_lt (contribution_cmp x x)))

newer_alone : (a b : Option Contribution) → ((x y : Contribution) → a ≡ Some x → b ≡ Some y → x.version ≡ y.version
    → x ≡ y) → (p : NamedCell → Bool) (q : CellName)
    → ((c : Contribution) → p (q, c) ≡ is_newer_than (option_map (λ c. c.version) b) c.version)
    → greater contribution_cmp b (kept p q a) ≡ greater contribution_cmp b a
unfolding kept
newer_alone None b agree p q is = refl
newer_alone (Some x) None agree p q is = ap (λ t. greater contribution_cmp None (cond t (Some x) None)) (is x)
newer_alone (Some x) (Some y) agree p q is =
    ap (λ t. greater contribution_cmp (Some y) (cond t (Some x) None)) (is x)
    ∙ elim (nat_lt y.version x.version) as (λ b. nat_lt y.version x.version ≡ b
    → greater contribution_cmp (Some y) (cond b (Some x) None) ≡ Some (ord_max contribution_cmp y x)) [
      | true ↦ λ t. refl
      | false ↦ λ t. ap (λ c. Some c) (sym (earlier_or_same x y (ltb-false y.version x.version t)
          (agree x y refl refl)))
    ] refl

newer_merged : (m n : Cells) → laws.AgreeAtVersions m n
    → merged contribution_cmp n (from_sorted (newer_cells (versions_of n) (entries m))) ≡ merged contribution_cmp n m
unfolding newer_cells
newer_merged m n agree =
    let p : NamedCell → Bool = λ e. is_newer_than (find cell_name_cmp e.0 (versions_of n)) e.1.version in
    let sorted = sorted_filter p (entries m) (entries_sorted m) in
    same_map cell_name_cmp_total cell_name_cmp-IsAntisymmetric _ _ (λ q.
    get-merged cell_name_cmp_total cell_name_cmp-IsAntisymmetric contribution_cmp n (from_sorted (filter p (entries m)))
    q
    ∙ ap (greater contribution_cmp (get n q)) (get-from_sorted cell_name_cmp (filter p (entries m)) q sorted
    ∙ find_kept p q (entries m) (entries_sorted m) ∙ ap (kept p q) (sym (get-entries m q)))
    ∙ newer_alone (get m q) (get n q) (λ x y ex ey v. agree q x y ex ey v) p q
    (λ c. ap (λ o. is_newer_than o c.version) (known_version n q))
    ∙ sym (get-merged cell_name_cmp_total cell_name_cmp-IsAntisymmetric contribution_cmp n m q))

pub difference_brings_the_join : laws.DifferenceBringsTheJoin
unfolding Maps.joined
difference_brings_the_join s m n is kept agree =
    let d = newer_cells (versions_of n) (entries m) in
    let sorted = newer_sorted (versions_of n) (entries m) (entries_sorted m) in
    ap (join_cells s n) (sym (entries-from_sorted cell_name_cmp d sorted))
    ∙ join_goes_by_cells s n (from_sorted d) is kept
    ∙ ap (trimmed (is_live s)) (newer_merged m n agree)

-- ---- closed knowledges

pub knowledges_agree : laws.KnowledgesAgree
knowledges_agree s w k l is ck cl = closed_agree s is w k l ck cl

pub difference_unites : laws.DifferenceUnites
difference_unites s w k l is ck cl =
    difference_brings_the_join s (cells_of_knowledge s k) (cells_of_knowledge s l) is (state_is_trimmed s is l)
    (knowledges_agree s w k l is ck cl)
    ∙ join_unites s w l k is cl ck
