use Rattle.std.proofs.Common.{◌≡◌, ℕ, List, [], ◌++◌, ◌+◌, get_or, drop, take, refl, sym, ap, ◌∙◌, append_assoc, rules}
use Rattle.std.proofs.lemmas.List.{drop_all, take_all, take_more, append-nil}
use Rattle.std.proofs.lemmas.List.Elements.{All-push}
use Rattle.rr_codec.specs.Fields.{IsTyped}
use Rattle.rr_codec.specs.Recent.{KnownState}
use Rattle.rr_codec.specs.Text.{cell_text, cells_text, next_known}
use Rattle.rr_codec.proofs.CellLemmas.{texts_more}
use Rattle.rr_codec.proofs.encoding.push_each.Goals as goal

pub loop-cell-preserved : goal.loop-cell-preserved
loop-cell-preserved c =
    let cells = c.args.cells.now in
    let i = c.loop-cell.cell-index in
    let cell = c.cell-item.result in
    let k = c.loop-cell.known in
    let item : get_or cells i cell ≡ cell = search rules in
    let left = cells_text (next_known k cell) (drop (i + 1) cells) in
    record {
      added = ap (λ (n : KnownState). c.push_cell.new.bytes.items ++ cells_text n (drop (i + 1) cells))
          c.in_ok-push_cell.ensures.next
          ∙ ap (λ (l : List ℕ). l ++ left) c.in_ok-push_cell.ensures.added
          ∙ append_assoc c.loop-cell.bytes.items (cell_text k cell) left
          ∙ ap (λ (l : List ℕ). c.loop-cell.bytes.items ++ l)
          (sym (texts_more k cells i cell c.loop-cell-test.true item))
          ∙ c.loop-cell.invariant.added;
      typed = rw (take_more cells i cell c.loop-cell-test.true, item)
          (All-push IsTyped (take i cells) cell c.loop-cell.invariant.typed c.in_ok-push_cell.ensures.typed);
    }

pub returns : goal.returns
returns c =
    let cells = c.args.cells.now in
    let i = c.loop-cell.cell-index in
    let none : cells_text c.loop-cell.known (drop i cells) ≡ [] = rw (drop_all i cells c.loop-cell-test.false) refl in
    record {
      added = sym (append-nil c.loop-cell.bytes.items) ∙ ap (λ (l : List ℕ). c.loop-cell.bytes.items ++ l) (sym none)
          ∙ c.loop-cell.invariant.added;
      typed = rw (take_all i cells c.loop-cell-test.false) at c.loop-cell.invariant.typed;
    }
