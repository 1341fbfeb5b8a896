use Rattle.std.proofs.Common.{rules, ◌≡◌, ◌<◌, pos, ◌+ℤ◌, ◌-ℤ◌, ◌≤ℤ◌, length, sym, ap, ◌∙◌, arith, to_z, of_z, w64}
use Rattle.std.specs.FinMap.{len-entries}
use Rattle.rr_archive.proofs.FewCells.{few_cells}
use Rattle.rr_ring.specs.Ring.{ring_row}
use Rattle.rr_archive.specs.LiveRows.{cells_by}
use Rattle.rr_archive.proofs.LiveWalks.{length_step, entries_live, dead_are, dead_none}
use Rattle.rr_ring.proofs.ring_archive.RingArchive.dead_cells.Goals as goal

pub returns-in_default : goal.returns-in_default
returns-in_default c =
    let a = c.args.self.now in
    let none = dead_none a.ring.rows a.newest (ring_row a.ring) a.held.ascend c.args.top c.in_default.is in
    omega arith

pub loop-k-init : goal.loop-k-init
loop-k-init c =
    let a = c.args.self.now in
    let f = ring_row a.ring in
    let z = to_z w64 (of_z w64 c.first_live-first.result) in
    let first : z ≡ ((c.in-Some.newest -ℤ pos a.ring.rows) +ℤ pos 1) = search rules in
    let all = ap length (entries_live a.ring.rows a.newest f a.held.ascend c.in-Some.newest z c.in-Some.is first)
    ∙ sym (len-entries (cells_by a.ring.rows a.newest f)) in
    omega arith

pub overflow_add-dead : goal.overflow_add-dead
overflow_add-dead c =
    let a = c.args.self.now in
    let f = ring_row a.ring in
    let z = to_z w64 (of_z w64 c.first_live-first.result) in
    let row : c.row.result.now ≡ f (z +ℤ pos c.loop-k.k) = search rules in
    let within : c.loop-k.k < a.ring.rows = omega arith in
    let step = length_step f z a.ring.rows c.loop-k.k within in
    let here = ap length row in
    let few = few_cells (cells_by a.ring.rows a.newest f) a.held.in_range in
    let so_far = c.loop-k.invariant in
    record { fits = omega arith }

pub loop-k-preserved : goal.loop-k-preserved
loop-k-preserved c =
    let a = c.args.self.now in
    let f = ring_row a.ring in
    let z = to_z w64 (of_z w64 c.first_live-first.result) in
    let row : c.row.result.now ≡ f (z +ℤ pos c.loop-k.k) = search rules in
    let within : c.loop-k.k < a.ring.rows = omega arith in
    let step = length_step f z a.ring.rows c.loop-k.k within in
    let here = ap length row in
    let so_far = c.loop-k.invariant in
    omega arith

pub returns : goal.returns
returns c =
    let a = c.args.self.now in
    let f = ring_row a.ring in
    let was = c.in-Some.newest in
    let k = c.loop-k.k in
    let z = to_z w64 (of_z w64 c.first_live-first.result) in
    let first : z ≡ ((was -ℤ pos a.ring.rows) +ℤ pos 1) = search rules in
    let top_is : to_z w64 (of_z w64 c.args.top) ≡ c.args.top = search rules in
    let was_is : to_z w64 (of_z w64 was) ≡ was = search rules in
    let passed : c.rows_passed-k-end.result ≡ k = omega arith in
    let before : (was +ℤ pos k) ≤ℤ c.args.top = rw (top_is, was_is, passed) at c.rows_passed-k-end.ensures.before in
    let all : k < a.ring.rows → (was +ℤ pos k) ≡ c.args.top =
    rw (top_is, was_is, passed) at c.rows_passed-k-end.ensures.all in
    dead_are a.ring.rows a.newest f a.held.ascend c.args.top z was k c.loop-k.dead c.in-Some.is first (omega arith)
    before all c.loop-k.invariant
