-- delta NAME GIVER TAKER FROM COUNT
use Rattle.std.proofs.Common.{◌≡◌, ℕ, ◌<◌, ◌≤◌, true, false, T, take, drop, length, List, [], ◌∷◌, map as each, Some, None, Ok, Err, refl, sym, ap, subst, ◌∙◌, arith}
use Rattle.std.specs.Prelude.{IsTrue}
use Rattle.std.specs.FinMap as map
use Rattle.std.specs.FinMap.Entries.{below_all}
use Rattle.std.specs.List.{All}
use Rattle.std.specs.Ordering.{is_lt}
use Rattle.std.proofs.lemmas.List.Elements.{All-map}
use Rattle.std.proofs.lemmas.List.{drop-map, length-map, length-take, take-map, take_all}
use Rattle.rr_text.specs.declared.limits.TheConstants.{MAX_PAGE_CELLS}
use Rattle.rr_text.specs.Results.{check}
use Rattle.rr_schema.specs.Schema.{Layout, IsLayout}
use Rattle.rr_delta.specs.Difference.{IsSummary, newer_cells}
use Rattle.rr_delta.specs.declared.name.Name.{Name}
use Rattle.rr_delta.specs.Names.{named_version, owned_name, versions_of}
use Rattle.rr_delta.proofs.LawLemmas.{differences_are_cut}
use Rattle.rr_join.proofs.Booleans.{T_and, T_from_true, first_T, second_T, true_from_T}
use Rattle.rr_cells.specs.CellNames.{CellName, cell_name_cmp}
use Rattle.rr_cells.specs.Knowledge.{Knowledge}
use Rattle.rr_cells.specs.World.{IsClosed}
use Rattle.rr_cells.proofs.ClosedCells.{whole_cells_are_closed}
use Rattle.rr_page.specs.Page.{IsPage, page_text}
use Rattle.rr_page.specs.Version.{latest}
use Rattle.rr_cells.specs.CellBounds.{NamedCell, IsCellOf}
use Rattle.rr_cells.specs.Cells.{Cells}
use Rattle.rr_cells.specs.declared.cell.Cell.{Cell}
use Rattle.rr_cells.specs.Listing.{owned_cell}
use Rattle.rr_cells.specs.State.{cells_of_knowledge}
use Rattle.rr_cluster.specs.declared.fault.CommandFault.{CommandFault}
use Rattle.rr_cluster.specs.declared.fault.CommandFault.TheVariants.{BadName, NoNode}
use Rattle.rr_cluster.specs.Agreement.{in_cells, node_in_cells}
use Rattle.rr_cluster.specs.Commands.Delta.{after_delta}
use Rattle.rr_cluster.specs.Commands.Page.{place_and_count}
use Rattle.rr_cluster.specs.Meaning.{HasPageText}
use Rattle.rr_cluster.specs.Model.{Model, cell_model, sample_model, part_of_difference, newer_part_of}
use Rattle.rr_cluster.specs.Soundness.{IsSound}
use Rattle.rr_cluster.specs.State.{Node, State, with_page}
use Rattle.rr_cluster.specs.Words.{is_name}
use Rattle.rr_cluster.proofs.CommandsLemmas.Page.{with_page_agrees}
use Rattle.rr_cluster.proofs.EntriesLemmas.{entries-of_part, from_entries-entries, part_is_page}
use Rattle.rr_cluster.proofs.SoundnessLemmas.{with_page_is_sound}
use Rattle.rr_cluster.proofs.StepLemmas.{Agrees, then_agree, found_agree, done_agrees}

-- ---- check by check

module _ {K : Type 0} (model : Model K) (m : State K) (name giver taker from count : List ℕ) where
  pub bad_name : is_name name ≡ false → after_delta model m name giver taker from count ≡ Err BadName
  unfolding after_delta
  bad_name e = rw e refl

  module _ (named : is_name name ≡ true) where
    pub no_giver : map.get m.nodes giver ≡ None → after_delta model m name giver taker from count ≡ Err NoNode
    unfolding after_delta
    no_giver e = rw (named, e) refl

    module _ (g : Node K) (here : map.get m.nodes giver ≡ Some g) where
      pub no_taker : map.get m.nodes taker ≡ None → after_delta model m name giver taker from count ≡ Err NoNode
      unfolding after_delta
      no_taker e = rw (named, here, e) refl

      module _ (t : Node K) (there : map.get m.nodes taker ≡ Some t) where
        pub bad_number : (fault : CommandFault) → place_and_count from count ≡ Err fault
            → after_delta model m name giver taker from count ≡ Err fault
        unfolding after_delta
        bad_number fault e = rw (named, here, there, e) refl

        pub delta_is_made : (first most : ℕ) → place_and_count from count ≡ Ok (first, most)
            → after_delta model m name giver taker from count
            ≡ Ok (with_page m name (model.part_of_newer g.schema g.contents t.contents first most))
        unfolding after_delta
        delta_is_made first most e = rw (named, here, there, e) refl

-- ---- the summary of all cells

-- the names of a summary that are asked for without end are all, since memory holds no more
pub summary_is_whole : (names : List Name) (m : Cells)
    → each owned_name names ≡ take 18446744073709551615 (drop 0 (versions_of m)) → length names < 18446744073709551615
    → each owned_name names ≡ versions_of m
summary_is_whole names m e few =
    let len = ap length e ∙ length-take 18446744073709551615 (versions_of m) in
    let same = length-map names owned_name in
    e ∙ take_all 18446744073709551615 (versions_of m) (omega (arith, len, few, same))

-- so what is newer than they are is newer than all
pub newer_than_all : (names : List Name) (cells : List Cell) (m n : Cells)
    → each owned_name names ≡ take 18446744073709551615 (drop 0 (versions_of n)) → length names < 18446744073709551615
    → each owned_cell cells ≡ newer_cells (each owned_name names) (map.entries m)
    → each owned_cell cells ≡ newer_cells (versions_of n) (map.entries m)
newer_than_all names cells m n e few newer = newer
    ∙ ap (λ known. newer_cells known (map.entries m)) (summary_is_whole names n e few)

below_named : (n : CellName) (es : List NamedCell) → T (below_all cell_name_cmp n es)
    → T (below_all cell_name_cmp n (each named_version es))
below_named n [] h = tt
below_named n (e ∷ es) h = T_and _ _ (first_T (is_lt (cell_name_cmp n e.0)) _ h)
    (below_named n es (second_T (is_lt (cell_name_cmp n e.0)) _ h))

sorted_named : (es : List NamedCell) → T (map.is_sorted cell_name_cmp es)
    → T (map.is_sorted cell_name_cmp (each named_version es))
sorted_named [] h = tt
sorted_named (e ∷ es) h = T_and _ _ (below_named e.0 es (first_T (below_all cell_name_cmp e.0 es) _ h))
    (sorted_named es (second_T (below_all cell_name_cmp e.0 es) _ h))

pub versions_are_summary : (m : Cells) → IsSummary (versions_of m)
versions_are_summary m = true_from_T _ (sorted_named (map.entries m) (map.entries_sorted m))

-- ---- the bytes of a page

-- a part of the cells that are newer is a page, and its bytes are those of the map of them
module _ (s : Layout) (m n : Cells) (cells : List Cell)
    (newer : each owned_cell cells ≡ newer_cells (versions_of n) (map.entries m))
    (ascending : IsTrue (map.is_sorted cell_name_cmp (each owned_cell cells)))
    (of_schema : All (λ c. IsCellOf s (owned_cell c)) cells)
    (from count : ℕ) (fits : count ≤ MAX_PAGE_CELLS) where
  sorted : T (map.is_sorted cell_name_cmp (newer_cells (versions_of n) (map.entries m)))
  sorted = T_from_true _ (subst (λ es. IsTrue (map.is_sorted cell_name_cmp es)) newer ascending)

  part_is : each owned_cell (take count (drop from cells))
      ≡ take count (drop from (newer_cells (versions_of n) (map.entries m)))
  part_is = sym (take-map owned_cell count (drop from cells)) ∙ ap (take count) (sym (drop-map owned_cell from cells))
      ∙ ap (λ es. take count (drop from es)) newer

  pub newer_is_page : IsPage s (each owned_cell (take count (drop from cells)))
  newer_is_page = subst (IsPage s) (sym part_is) (part_is_page s _ from count
      (subst (All (IsCellOf s)) newer (All-map (IsCellOf s) owned_cell cells of_schema)) sorted fits)

  pub newer_page_is_text : (bytes : List ℕ) → bytes
      ≡ page_text latest s (each owned_cell (take count (drop from cells)))
      → HasPageText s (newer_part_of m n from count) bytes
  newer_page_is_text bytes written =
      let same = part_is ∙ sym (entries-of_part _ from count sorted) in
      record { page = subst (IsPage s) same newer_is_page; text = written ∙ ap (page_text latest s) same }

-- ---- the models agree

module _ (m : State Knowledge) (sound : IsSound m) (giver taker : List ℕ) (g t : Node Knowledge)
    (here : map.get m.nodes giver ≡ Some g) (there : map.get m.nodes taker ≡ Some t) (first most : ℕ) where
  abbrev page : Knowledge
  page = part_of_difference g.schema g.contents t.contents first most

  abbrev IsClosedIn : Layout → Knowledge → Type 0
  IsClosedIn s k = IsClosed s m.world k

  -- the cells of a part of the difference
  newer_agrees : newer_part_of (cells_of_knowledge g.schema g.contents) (cells_of_knowledge t.schema t.contents) first
      most ≡ cells_of_knowledge m.schema page
  newer_agrees =
      let one = sound.shared giver g here in
      let other = sound.shared taker t there ∙ sym one in
      ap (λ (s : Layout). newer_part_of (cells_of_knowledge g.schema g.contents) (cells_of_knowledge s t.contents) first
      most) other
      ∙ ap (λ es. map.from_entries es) (sym (differences_are_cut g.schema m.world g.contents t.contents first most
      (subst IsLayout (sym one) sound.layout) (sound.nodes giver g here).closed
      (subst (λ (s : Layout). IsClosedIn s t.contents) other (sound.nodes taker t there).closed)))
      ∙ from_entries-entries (cells_of_knowledge g.schema page)
      ∙ ap (λ (s : Layout). cells_of_knowledge s page) one

  newer_is_closed : IsClosed m.schema m.world page
  newer_is_closed = subst (λ (s : Layout). IsClosedIn s page) (sound.shared giver g here)
      (whole_cells_are_closed g.schema m.world g.contents _ (sound.nodes giver g here).closed)

pub delta_agrees : (m : State Knowledge) → IsSound m → (name giver taker from count : List ℕ)
    → Agrees in_cells IsSound (after_delta cell_model (in_cells m) name giver taker from count)
    (after_delta sample_model m name giver taker from count)
unfolding after_delta
delta_agrees m sound name giver taker from count =
    then_agree in_cells IsSound (check (is_name name) BadName) _ _
    (λ named is. found_agree in_cells IsSound node_in_cells m.nodes giver NoNode _ _
    (λ g here. found_agree in_cells IsSound node_in_cells m.nodes taker NoNode _ _
    (λ t there. then_agree in_cells IsSound (place_and_count from count) _ _ (λ asked read.
    done_agrees in_cells IsSound _ _ (with_page_agrees m name _
    (part_of_difference g.schema g.contents t.contents asked.0 asked.1)
    (newer_agrees m sound giver taker g t here there asked.0 asked.1))
    (with_page_is_sound m sound name (part_of_difference g.schema g.contents t.contents asked.0 asked.1)
    (newer_is_closed m sound giver taker g t here there asked.0 asked.1))))))
