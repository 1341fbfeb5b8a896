use Rattle.std.proofs.Common.{rules, ◌≡◌, ◌+◌, List, drop, get_or, map, refl, subst}
use Rattle.std.proofs.lemmas.Result.{err_from_is_err_and}
use Rattle.std.specs.List.{flat_map}
use Rattle.rr_journal.specs.Body.{PackedCells, packed_cells}
use Rattle.rr_recovery.specs.Joining.{group_cells}
use Rattle.rr_replication.proofs.CellLemmas.{AreLeft, groups_left, groups_refused, in_turn}
use Rattle.rr_replication.proofs.cells.push_groups.Goals as goal

pub returns-in_err-push_group : goal.returns-in_err-push_group
returns-in_err-push_group c =
    let gs = c.args.groups.now in
    let i = c.loop-group.group-index in
    let group = c.group-item.result in
    let item : get_or gs i group ≡ group = search rules in
    let s = c.args.schema.now in
    let old = c.args.cells.now.items in
    let now = c.loop-group.cells.items in
    let all = flat_map group_cells (map packed_cells gs) in
    let left = subst (λ (l : List PackedCells). AreLeft s l old now all)
    (in_turn gs i group c.loop-group-test.true item) c.loop-group.invariant in
    let p = err_from_is_err_and c.from_residual.result c.from_residual.ensures.1 in
    rw (p.1, p.2)
    (groups_refused s (packed_cells group) (map packed_cells (drop (i + 1) gs)) old now c.push_group.new.cells.items all _
    left c.in_err-push_group.ensures)

pub loop-group-preserved : goal.loop-group-preserved
loop-group-preserved c =
    let gs = c.args.groups.now in
    let i = c.loop-group.group-index in
    let group = c.group-item.result in
    let item : get_or gs i group ≡ group = search rules in
    let s = c.args.schema.now in
    let old = c.args.cells.now.items in
    let now = c.loop-group.cells.items in
    let all = flat_map group_cells (map packed_cells gs) in
    let left = subst (λ (l : List PackedCells). AreLeft s l old now all)
    (in_turn gs i group c.loop-group-test.true item) c.loop-group.invariant in
    groups_left s (packed_cells group) (map packed_cells (drop (i + 1) gs)) old now c.push_group.new.cells.items all _
    left c.in_ok-push_group.ensures refl
