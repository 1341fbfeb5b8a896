use Rattle.std.proofs.Common.{◌++◌, ◌+◌, ◌*◌, ◌≤◌, List, ℕ, sym, ap, ◌∙◌, subst, length, map, arith}
use Rattle.std.proofs.lemmas.Result.{on_ok_weaker}
use Rattle.rr_changes.specs.Listing.{named_cell}
use Rattle.rr_commit.specs.Packing.{AreCells}
use Rattle.rr_commit.proofs.PackingLemmas.{kept_more, ok_items}
use Rattle.rr_commit.proofs.packing.Packing.add_group.Goals as goal

pub returns : goal.returns
returns c done since are =
    let adds = c.in_ok-group.ensures in
    let bytes = c.in_ok-group.group in
    let run = c.args.cells.now in
    let new = map (named_cell c.args.key.now c.args.archive) run in
    let small : length c.deref.result.now ≤ 1178 * length run =
    subst (λ (l : List ℕ). length l ≤ 1178 * length run) (sym c.deref.ensures.value) adds.small in
    let way = c.in_ok-make_way.ensures done since (length run) are small c.requires.few in
    let made = c.make_way.new.self in
    let long = ap length c.deref.ensures.value in
    let room = way.1 in
    let fits : length made.own.items + length bytes.items ≤ 1_048_542 = omega (arith, long, room) in
    on_ok_weaker c.extend_from_slice.result (λ added.
    subst (λ (l : List ℕ). AreCells made.records.items made.body.items l done (since ++ new) 0)
    (sym (added ∙ ap (λ l. made.own.items ++ l) c.deref-2.ensures.value))
    (kept_more made.records.items made.body.items made.own.items done since c.args.key.now c.args.archive run bytes
    way.0 adds fits)) (ok_items c.extend_from_slice.result c.extend_from_slice.new.self.items
    (made.own.items ++ c.deref-2.result.now) made.own.items c.extend_from_slice.ensures.items)
