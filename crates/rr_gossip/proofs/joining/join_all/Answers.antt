use Rattle.std.proofs.Common.{rules, ◌≡◌, ◌∙◌, [], ◌∷◌, ◌++◌, map, take, get_or, sym, ap, subst}
use Rattle.std.specs.List.{take-map}
use Rattle.std.proofs.lemmas.List.{append-nil, take_more, map_push}
use Rattle.rr_cells.specs.CellBounds.{IsCellOf}
use Rattle.rr_cells.specs.Listing.{owned_cell}
use Rattle.rr_gossip.proofs.JoinLemmas.{on_err}
use Rattle.rr_gossip.proofs.joining.join_all.Goals as goal

pub join_cell-requires : goal.join_cell-requires
join_cell-requires g c =
    let cells = c.args.cells.now in
    let i = c.loop-cell.cell-index in
    let cell = c.cell-item.result in
    let s = g.T.Target.layout c.args.target.now in
    let item : get_or cells i cell ≡ cell = search rules in
    let kept = g.met.T.Target.joins_in_map _ _ _ c.loop-cell.invariant.joined in
    subst (λ l. IsCellOf l (owned_cell cell)) (sym kept.0)
    (subst (λ d. IsCellOf s (owned_cell d)) item (c.requires i cell c.loop-cell-test.true))

pub returns-in_err-join_cell-clause-prefix : goal.returns-in_err-join_cell-clause-prefix
returns-in_err-join_cell-clause-prefix g c =
    let cells = c.args.cells.now in
    let i = c.loop-cell.cell-index in
    let so_far = map owned_cell (take i cells) in
    let then = g.met.T.Target.joins_then _ _ _ so_far [] c.loop-cell.invariant.joined
    c.in_err-join_cell.ensures.unchanged in
    on_err c.from_residual.result _ (
      i,
      subst (g.T.Target.has_joined c.args.target.now c.join_cell.new.self)
          (append-nil so_far ∙ sym (take-map owned_cell i cells)) then,
    )

pub loop-cell-preserved : goal.loop-cell-preserved
loop-cell-preserved g c =
    let cells = c.args.cells.now in
    let i = c.loop-cell.cell-index in
    let cell = c.cell-item.result in
    let item : get_or cells i cell ≡ cell = search rules in
    let more = ap (map owned_cell) (take_more cells i cell c.loop-cell-test.true
    ∙ ap (λ d. take i cells ++ d ∷ []) item) ∙ map_push owned_cell (take i cells) cell in
    let then = g.met.T.Target.joins_then _ _ _ (map owned_cell (take i cells)) (owned_cell cell ∷ [])
    c.loop-cell.invariant.joined c.in_ok-join_cell.ensures.joined in
    record { joined = subst (g.T.Target.has_joined c.args.target.now c.join_cell.new.self) (sym more) then }
