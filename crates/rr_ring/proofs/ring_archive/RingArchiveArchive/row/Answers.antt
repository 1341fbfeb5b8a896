use Rattle.std.proofs.Common.{rules, ◌≡◌, true, false, cond, [], sym, ap, ◌∙◌}
use Rattle.rr_join.specs.Horizon.{is_above}
use Rattle.rr_ring.specs.Ring.{ring_row}
use Rattle.rr_archive.proofs.LiveRowsLemmas.{row_of-cells_by}
use Rattle.rr_ring.proofs.ring_archive.RingArchiveArchive.row.Goals as goal

pub returns-then-is_live : goal.returns-then-is_live
returns-then-is_live c =
    let a = c.args.self.now in
    let live : is_above a.ring.rows a.newest c.args.slot ≡ true = search rules in
    let f = ring_row a.ring in
    let found : c.row.result.now ≡ f c.args.slot = search rules in
    found ∙ sym (row_of-cells_by f a.ring.rows a.newest a.held.ascend a.held.none_later c.args.slot
    ∙ ap (λ b. cond b (f c.args.slot) []) live)

pub returns-else-is_live : goal.returns-else-is_live
returns-else-is_live c =
    let a = c.args.self.now in
    let dead : is_above a.ring.rows a.newest c.args.slot ≡ false = search rules in
    let f = ring_row a.ring in
    sym (row_of-cells_by f a.ring.rows a.newest a.held.ascend a.held.none_later c.args.slot
    ∙ ap (λ b. cond b (f c.args.slot) []) dead)
