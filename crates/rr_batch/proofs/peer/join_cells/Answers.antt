use Rattle.std.proofs.Common.{rules, ◌≡◌, ◌∙◌, [], ◌∷◌, ◌++◌, take, get_or, ap, sym}
use Rattle.std.proofs.lemmas.List.{take_more}
use Rattle.rr_batch.specs.Peers.{joined_if, joined_to}
use Rattle.rr_batch.proofs.PeerLemmas.{joined_one_more}
use Rattle.rr_batch.proofs.peer.join_cells.Goals as goal

pub loop-cell-preserved : goal.loop-cell-preserved
loop-cell-preserved g c =
    let cells = c.args.cells.now in
    let i = c.loop-cell.cell-index in
    let cell = c.cell-item.result in
    let item : get_or cells i cell ≡ cell = search rules in
    let more = take_more cells i cell c.loop-cell-test.true ∙ ap (λ d. take i cells ++ d ∷ []) item in
    c.in_ok-join_if.ensures ∙ ap (λ k. joined_if k cell) c.loop-cell.invariant
    ∙ sym (joined_one_more c.args.keeper.now (take i cells) cell)
    ∙ sym (ap (joined_to c.args.keeper.now) more)
