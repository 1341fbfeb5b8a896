use Rattle.std.proofs.Common.{rules, ◌≡◌, ◌+◌, List, map, drop, get_or, refl, sym, subst}
use Rattle.std.proofs.lemmas.Result.{err_from_is_err_and}
use Rattle.std.specs.List.{flat_map}
use Rattle.rr_schema.specs.Schema.{Layout}
use Rattle.rr_journal.specs.Body.{PackedCells, packed_cells}
use Rattle.rr_replica.specs.ReplicaWithRoom.{replica_state}
use Rattle.rr_recovery.specs.Joining.{group_cells}
use Rattle.rr_recovery.specs.Taking.{IsCheckedGroup, recovery, taken_cells}
use Rattle.rr_recovery.proofs.TakingLemmas.{AreLeft, after_all, groups_left, in_turn, joins_none, joins_schema, joins_then, then_refused}
use Rattle.rr_recovery.proofs.taking.take_groups.Goals as goal

pub loop-group-init : goal.loop-group-init
loop-group-init g c = record { checked = c.requires; whole = refl; joins = joins_none (replica_state c.args.replica.now) }

pub take_group-requires : goal.take_group-requires
take_group-requires g c =
    let gs = c.args.groups.now in
    let i = c.loop-group.group-index in
    let group = c.group-item.result in
    let item : get_or gs i group ≡ group = search rules in
    let x = recovery c.args.replica.now c.args.found.now in
    let now = recovery c.loop-group.replica c.loop-group.found in
    let left = subst (λ (l : List PackedCells). AreLeft c.args.replica.now.schema l x now
    (flat_map group_cells (map packed_cells gs))) (in_turn gs i group c.loop-group-test.true item)
    c.loop-group.invariant in
    subst (λ (s : Layout). IsCheckedGroup s (packed_cells group))
    (sym (joins_schema x.replica now.replica left.joins)) left.checked.0

pub loop-group-preserved : goal.loop-group-preserved
loop-group-preserved g c =
    let gs = c.args.groups.now in
    let i = c.loop-group.group-index in
    let group = c.group-item.result in
    let item : get_or gs i group ≡ group = search rules in
    let s = c.args.replica.now.schema in
    let x = recovery c.args.replica.now c.args.found.now in
    let now = recovery c.loop-group.replica c.loop-group.found in
    let all = flat_map group_cells (map packed_cells gs) in
    let left = subst (λ (l : List PackedCells). AreLeft s l x now all)
    (in_turn gs i group c.loop-group-test.true item) c.loop-group.invariant in
    groups_left s (packed_cells group) (map packed_cells (drop (i + 1) gs)) x now
    (recovery c.take_group.new.replica c.take_group.new.found) all left c.in_ok-take_group.ensures.exact
    c.in_ok-take_group.ensures.joins

pub returns-in_err-take_group : goal.returns-in_err-take_group
returns-in_err-take_group g c =
    let gs = c.args.groups.now in
    let i = c.loop-group.group-index in
    let group = c.group-item.result in
    let item : get_or gs i group ≡ group = search rules in
    let x = recovery c.args.replica.now c.args.found.now in
    let now = recovery c.loop-group.replica c.loop-group.found in
    let all = flat_map group_cells (map packed_cells gs) in
    let left = subst (λ (l : List PackedCells). AreLeft c.args.replica.now.schema l x now all)
    (in_turn gs i group c.loop-group-test.true item) c.loop-group.invariant in
    let p = err_from_is_err_and c.from_residual.result c.from_residual.ensures.1 in
    rw (p.1, p.2)
    (record {
      exact = then_refused now (group_cells (packed_cells group))
          (flat_map group_cells (map packed_cells (drop (i + 1) gs))) (taken_cells x all) _ left.whole
          c.in_err-take_group.ensures.exact;
      joins = joins_then x.replica now.replica (replica_state c.take_group.new.replica) left.joins
          c.in_err-take_group.ensures.joins;
    })

pub returns : goal.returns
returns g c =
    let gs = c.args.groups.now in
    let x = recovery c.args.replica.now c.args.found.now in
    let now = recovery c.loop-group.replica c.loop-group.found in
    let all = flat_map group_cells (map packed_cells gs) in
    let left = subst (λ (l : List PackedCells). AreLeft c.args.replica.now.schema l x now all)
    (after_all gs c.loop-group.group-index c.loop-group-test.false) c.loop-group.invariant in
    record { exact = sym left.whole; joins = left.joins }
