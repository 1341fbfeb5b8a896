use Rattle.std.proofs.Common.{◌≡◌, ℕ, ◌+◌, pos, true, length, sym, ap, ◌∙◌, arith}
use Rattle.rr_packed.specs.BlockRows.{entries_in_all}
use Rattle.rr_packed.specs.PackedRows.{cells_packed, is_on, items_packed, left_of}
use Rattle.rr_packed.proofs.RowCounts.{count_few, count_on, count_one, count_rows, length_rows}
use Rattle.rr_packed.proofs.packed_rows.PackedRowsRows.entries_on.Goals as goal

pub returns-then-rows-eq-BLOCK_ROWS : goal.returns-then-rows-eq-BLOCK_ROWS
returns-then-rows-eq-BLOCK_ROWS c =
    let p = c.args.self.now in
    let rows = c.args.rows in
    let within = rows.within in
    let all = c.if-rows-eq-BLOCK_ROWS.true in
    let none : rows.first.value ≡ 0 = omega arith in
    let same : (i : ℕ) → i ≡ rows.first.value + i = λ i. omega arith in
    p.counted
    ∙ ap length p.packed.ordered
    ∙ length_rows (items_packed p.bytes.items) (pos 0) 64
    ∙ (λ j. entries_in_all (λ i. items_packed p.bytes.items (same i j)) (sym all j))

pub overflow_add-count : goal.overflow_add-count
overflow_add-count c =
    let rows = c.args.rows in
    let bytes = c.args.self.now.bytes.items in
    let cell = c.in-Some.cell in
    let others = left_of c.next.new.self.decoder.cells in
    let on : is_on rows.first.value rows.count (pos cell.number.value) ≡ true = sym c.is_in.ensures ∙ c.if-is_in.true in
    let first = ap (count_on rows.first.value rows.count) c.in-Some.ensures
    ∙ count_one rows.first.value rows.count (pos cell.number.value, cell.entry) others on in
    let few = count_few rows.first.value rows.count (cells_packed bytes) in
    let counted = c.args.self.now.counted in
    let before = c.loop-cell.invariant in
    omega arith

pub returns : goal.returns
returns c =
    let p = c.args.self.now in
    let rows = c.args.rows in
    let left = ap (count_on rows.first.value rows.count) c.in_default.ensures in
    let all = ap (count_on rows.first.value rows.count) p.packed.ordered
    ∙ count_rows rows.first.value rows.count (items_packed p.bytes.items) 64 rows.within in
    let before = c.loop-cell.invariant in
    omega arith
