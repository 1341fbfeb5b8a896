-- The bodies of frames are short enough.
use Rattle.std.proofs.Common.{◌≡◌, ℕ, ◌+◌, ◌*◌, ◌<◌, ◌≤◌, List, [], ◌∷◌, ◌++◌, length, map, take, ap, arith, All}
use Rattle.std.specs.Int.{w16, w64, to_be_bytes}
use Rattle.std.specs.List.{flat_map, AllByRecursion}
use Rattle.std.proofs.lemmas.List.{length-append, length-take}
use Rattle.std.proofs.lemmas.List.Concat.{flat_map-cons}
use Rattle.std.proofs.lemmas.List.Elements.{recursion_from_All}
use Rattle.rr_schema.specs.Schema.{Layout, IsLayout}
use Rattle.rr_schema.specs.SchemaBytes.{schema_bytes}
use Rattle.rr_schema.proofs.SchemaBytesLemmas.{schema_len}
use Rattle.rr_page.specs.CellText.{cell_text, name_text}
use Rattle.rr_page.specs.Page.{IsPage, magic, head_text, page_text}
use Rattle.rr_page.specs.Version.{latest, version_byte}
use Rattle.rr_page.proofs.CellLemmas.{some_text}
use Rattle.rr_page.proofs.LengthLemmas.{cell_len, name_len}
use Rattle.rr_cells.specs.CellBounds.{NamedCell, IsCellOf}
use Rattle.rr_replica.proofs.Each.{length-map}
use Rattle.rr_delta.specs.declared.name.Name.{Name}
use Rattle.rr_delta.specs.Names.{NamedVersion, IsNameOf, owned_name}
use Rattle.rr_delta.proofs.HeldLemmas.{all_mapped}
use Rattle.rr_gossip.specs.declared.summary.TheConstants.{MAX_ENTRIES}
use Rattle.rr_gossip.specs.Summary.{entry_text, summary_text}
use Rattle.rr_gossip.specs.declared.frame.TheConstants.{MAX_FRAME_LEN}

cells_len : (s : Layout) (es : List NamedCell) → AllByRecursion (IsCellOf s) es
    → length (flat_map (cell_text latest) es) ≤ 1117 * length es
cells_len s [] all = omega arith
cells_len s (e ∷ es) all =
    let key = (some_text e.0.key all.0.key).1 in
    omega (
      arith,
      ap length (flat_map-cons (cell_text latest) e es),
      length-append (cell_text latest e) (flat_map (cell_text latest) es),
      cell_len latest e,
      key,
      cells_len s es all.1,
    )

head_len : (s : Layout) (count : ℕ) → length (head_text latest s count) ≡ 7 + length (schema_bytes s)
unfolding head_text
head_len s count = omega (
  arith,
  length-append magic (version_byte latest ∷ (schema_bytes s ++ to_be_bytes w16 count)),
  length-append (schema_bytes s) (to_be_bytes w16 count),
)

-- a page fits into a frame
pub page_fits : (s : Layout) (es : List NamedCell) → IsLayout s → IsPage s es
    → length (page_text latest s es) < MAX_FRAME_LEN
unfolding page_text
page_fits s es layout page =
    let few = layout.few_archives in
    let many = page.count_fits in
    omega (
      arith,
      length-append (head_text latest s (length es)) (flat_map (cell_text latest) es),
      head_len s (length es),
      schema_len s,
      cells_len s es (recursion_from_All (IsCellOf s) es page.cells),
      few,
      many,
    )

-- so does a schema
pub schema_fits : (s : Layout) → IsLayout s → length (schema_bytes s) < MAX_FRAME_LEN
schema_fits s layout = let few = layout.few_archives in omega (arith, schema_len s, few)

-- where at most so many names are listed, there are no more of them
pub few_listed : (names : List Name) (n : ℕ) (vs : List NamedVersion) → map owned_name names ≡ take n vs
    → length names ≤ n
few_listed names n vs is = omega (arith, length-map owned_name names, ap length is, length-take n vs)

entry_len : (v : NamedVersion) → length (entry_text v) ≡ 21 + length v.0.key
unfolding entry_text
entry_len v = omega (arith, length-append (name_text v.0) (to_be_bytes w64 v.1), name_len v.0)

entries_len : (s : Layout) (vs : List NamedVersion) → AllByRecursion (IsNameOf s) vs
    → length (flat_map entry_text vs) ≤ 1045 * length vs
entries_len s [] all = omega arith
entries_len s (v ∷ vs) all =
    let key = (some_text v.0.key all.0.key).1 in
    omega (
      arith,
      ap length (flat_map-cons entry_text v vs),
      length-append (entry_text v) (flat_map entry_text vs),
      entry_len v,
      key,
      entries_len s vs all.1,
    )

-- and fit into a frame
pub summary_len : (s : Layout) (vs : List NamedVersion) → length vs ≤ MAX_ENTRIES → AllByRecursion (IsNameOf s) vs
    → length (summary_text vs) < MAX_FRAME_LEN
unfolding summary_text
summary_len s vs few all = omega (
  arith,
  length-append (to_be_bytes w16 (length vs)) (flat_map entry_text vs),
  entries_len s vs all,
  few,
)

pub summary_fits : (s : Layout) (names : List Name) → length names ≤ MAX_ENTRIES
    → All (λ n. IsNameOf s (owned_name n)) names → length (summary_text (map owned_name names)) < MAX_FRAME_LEN
summary_fits s names few all =
    summary_len s (map owned_name names) (omega (arith, length-map owned_name names, few))
    (all_mapped (IsNameOf s) owned_name names (recursion_from_All (λ n. IsNameOf s (owned_name n)) names all))
