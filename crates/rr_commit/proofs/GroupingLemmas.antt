-- Cells in groups of one key and archive.
use Rattle.std.proofs.Common.{◌≡◌, ◌+◌, ◌*◌, ◌<◌, ◌≤◌, length, arith, ⊎_elim, List, [], ◌∷◌, ◌++◌, map, All, refl, sym, ap, ◌∙◌, append_assoc, append-nil}
use Rattle.std.specs.Prelude.{Ok}
use Rattle.std.specs.List.{AllByRecursion, flat_map}
use Rattle.std.proofs.lemmas.List.Elements.{recursion_from_All}
use Rattle.std.proofs.lemmas.Grind.{flat_map-append}
use Rattle.std.specs.Int.{to_be_bytes, w16, w32}
use Rattle.std.proofs.lemmas.List.{length-append, map-append, map_push}
use Rattle.rr_text.specs.declared.limits.TheConstants.{MAX_KEY_TEXT}
use Rattle.rr_text.specs.Results.{◌>>=◌}
use Rattle.rr_cells.specs.declared.cell.Cell.{Cell}
use Rattle.rr_cells.specs.Listing.{owned_cell}
use Rattle.rr_codec.specs.Reading.{alone, packed_at}
use Rattle.rr_journal.specs.declared.group.Group.{Group}
use Rattle.rr_journal.specs.declared.fault.JournalFault.{JournalFault}
use Rattle.rr_journal.specs.declared.fault.JournalFault.TheVariants.{Memory}
use Rattle.rr_journal.specs.Body.{HasCells, IsEncodeFault, PackedCells, body_text, group_text, packed_cells}
use Rattle.rr_commit.specs.declared.record.TheConstants.{MAX_RECORD_CELLS}
use Rattle.rr_recovery.specs.Joining.{cells_read, group_cells, named_by}
use Rattle.rr_commit.specs.Grouping.{HaveCells, IsLike, groups_text, slot_entry}

-- cells of one key and archive are named by these
named_alike : (first : Cell) (cells : List Cell) → AllByRecursion (IsLike first) cells
    → map (named_by first.key first.archive) (map slot_entry cells) ≡ map owned_cell cells
named_alike first [] all = refl
named_alike first (c ∷ cells) all =
    let like = all.0 in
    let rest = named_alike first cells all.1 in
    λ i. (record { key = sym like.0 i; archive = sym like.1 i; slot = c.slot; origin = c.origin }, c.contribution) ∷ rest i

-- so a group of them has them
pub group_has : (first : Cell) (cells : List Cell) (g : Group) → All (IsLike first) cells → g.key ≡ first.key
    → g.archive ≡ first.archive → packed_at g.packed.items ≡ Ok (map slot_entry cells, [])
    → group_cells (packed_cells g) ≡ map owned_cell cells
group_has first cells g all key archive packed =
    (λ i. map (named_by (key i) (archive i)) (cells_read (packed i >>= alone)))
    ∙ named_alike first cells (recursion_from_All (IsLike first) cells all)

-- a group more
pub one_grouped : (groups : List Group) (g : Group) (run left cells : List Cell)
    → flat_map group_cells (map packed_cells groups) ++ map owned_cell (run ++ left) ≡ map owned_cell cells
    → group_cells (packed_cells g) ≡ map owned_cell run
    → flat_map group_cells (map packed_cells (groups ++ g ∷ [])) ++ map owned_cell left ≡ map owned_cell cells
one_grouped groups g run left cells so_far has =
    let done = flat_map group_cells (map packed_cells groups) in
    ap (λ gs. flat_map group_cells gs ++ map owned_cell left) (map_push packed_cells groups g)
    ∙ ap (λ es. es ++ map owned_cell left) (flat_map-append group_cells (map packed_cells groups) (packed_cells g ∷ [])
    ∙ ap (λ es. done ++ es) (append-nil (group_cells (packed_cells g)) ∙ has))
    ∙ append_assoc done (map owned_cell run) (map owned_cell left)
    ∙ ap (λ es. done ++ es) (sym (map-append owned_cell run left))
    ∙ so_far

pub group_len : (g : PackedCells) → length (group_text g) ≡ 7 + length g.key + length g.bytes
unfolding group_text
group_len g =
    let tail = to_be_bytes w32 (length g.bytes) ++ g.bytes in
    let two : length (to_be_bytes w16 (length g.key)) ≡ 2 = refl in
    let four : length (to_be_bytes w32 (length g.bytes)) ≡ 4 = refl in
    let archive : length (g.archive ∷ tail) ≡ 1 + length tail = omega arith in
    let all = length-append (to_be_bytes w16 (length g.key)) (g.key ++ (g.archive ∷ tail)) in
    let behind = length-append g.key (g.archive ∷ tail) in
    let bytes = length-append (to_be_bytes w32 (length g.bytes)) g.bytes in
    omega (arith, two, four, archive, all, behind, bytes)

-- a group more, and the bytes that it takes
pub one_sized : (groups : List Group) (g : Group) (run left cells all : List Cell)
    → length (groups_text groups) + 1178 * length left ≤ 1178 * length all → run ++ cells ≡ left
    → length cells < length left → length g.key ≤ MAX_KEY_TEXT → length g.packed.items ≤ 24 + 123 * length run
    → length (groups_text (groups ++ g ∷ [])) + 1178 * length cells ≤ 1178 * length all
one_sized groups g run left cells all so_far whole fewer key size =
    let long : length (groups_text (groups ++ g ∷ [])) ≡ length (groups_text groups) + length (group_text (packed_cells g)) =
    ap (λ gs. length (flat_map group_text gs)) (map_push packed_cells groups g)
    ∙ ap length (flat_map-append group_text (map packed_cells groups) (packed_cells g ∷ [])
    ∙ ap (λ bs. groups_text groups ++ bs) (append-nil (group_text (packed_cells g))))
    ∙ length-append (groups_text groups) (group_text (packed_cells g)) in
    let own = group_len (packed_cells g) in
    let parts = sym (length-append run cells) ∙ ap length whole in
    omega (arith, long, own, parts, so_far, fewer, key, size)

-- groups of few cells fit into a record, so only memory can be lacking
pub only_memory : (groups : List Group) (cells : List Cell) (fault : JournalFault) → HaveCells groups cells
    → length cells ≤ MAX_RECORD_CELLS → IsEncodeFault (body_text (HasCells (map packed_cells groups))) fault
    → fault ≡ Memory
unfolding body_text
only_memory groups cells fault has few faults = ⊎_elim (λ is. is)
    (λ long. let size = has.size in let over = long.1 in absurd (omega (arith, size, few, over))) faults
