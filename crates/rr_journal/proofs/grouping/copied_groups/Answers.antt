use Rattle.std.proofs.Common.{◌≡◌, map, List, [], ◌∷◌, ◌++◌, inl, inr, sym, ap, subst, ◌∙◌}
use Rattle.std.proofs.lemmas.Result.{err_from_is_err_and}
use Rattle.rr_journal.specs.declared.group.Group.{Group}
use Rattle.rr_journal.specs.Body.{PackedCells, groups_of, packed_cells}
use Rattle.rr_journal.proofs.GroupLemmas.{begins, ends, goes_on, groups_left, group_shorter, no_group, with_groups}
use Rattle.rr_journal.proofs.grouping.copied_groups.Goals as goal

pub returns-in_err-rest : goal.returns-in_err-rest
returns-in_err-rest c =
    let p = err_from_is_err_and c.from_residual.result c.from_residual.ensures.1 in
    rw (p.1, p.2)
    (elim c.in_err-rest.ensures [
      | inl memory ↦ inl memory
      | inr e ↦ inr (no_group c.args.schema.now c.args.bytes.now c.in_err-rest.field-0.0 e)
    ])

pub loop-rest-init : goal.loop-rest-init
loop-rest-init c =
    let e = c.in_ok-rest.ensures in
    let gs : map packed_cells c.take_group.new.groups.items ≡ e.0 ∷ [] =
    e.2 ∙ ap (λ (l : List Group). map packed_cells l ++ e.0 ∷ []) c.new-groups.ensures.items in
    subst (λ (l : List PackedCells). with_groups l (groups_left c.args.schema.now c.in_ok-rest.rest.now)
    ≡ groups_of c.args.schema.now c.args.bytes.now) (sym gs)
    (begins c.args.schema.now c.args.bytes.now e.0 c.in_ok-rest.rest.now e.1)

pub returns-in_err-rest-2 : goal.returns-in_err-rest-2
returns-in_err-rest-2 c =
    let p = err_from_is_err_and c.from_residual-in_err-rest-2.result c.from_residual-in_err-rest-2.ensures.1 in
    rw (p.1, p.2)
    (elim c.in_err-rest-2.ensures [
      | inl memory ↦ inl memory
      | inr e ↦ inr (ends c.args.schema.now c.args.bytes.now (map packed_cells c.loop-rest.groups.items)
          c.loop-rest.rest.now c.loop-rest.invariant (sym c.loop-rest-test.ensures) c.in_err-rest-2.field-0.0 e)
    ])

pub loop-rest-smaller : goal.loop-rest-smaller
loop-rest-smaller c =
    let e = c.in_ok-rest-2.ensures in
    group_shorter c.args.schema.now c.loop-rest.rest.now (e.0, c.in_ok-rest-2.rest.now) e.1

pub loop-rest-preserved : goal.loop-rest-preserved
loop-rest-preserved c =
    let e = c.in_ok-rest-2.ensures in
    subst (λ (l : List PackedCells). with_groups l (groups_left c.args.schema.now c.in_ok-rest-2.rest.now)
    ≡ groups_of c.args.schema.now c.args.bytes.now) (sym e.2)
    (goes_on c.args.schema.now c.args.bytes.now (map packed_cells c.loop-rest.groups.items) c.loop-rest.rest.now
    c.loop-rest.invariant (sym c.loop-rest-test.ensures) e.0 c.in_ok-rest-2.rest.now e.1)
