use Rattle.std.proofs.Common.{◌≡◌, ℕ, List, [], ◌∷◌, ◌++◌, All, get_or, length, sym, ap, subst, ◌∙◌, arith, rules}
use Rattle.std.proofs.lemmas.List.{append-nil}
use Rattle.std.proofs.lemmas.List.Elements.{All-cons, All-nil}
use Rattle.std.proofs.lemmas.Result.{on_ok_weaker}
use Rattle.rr_codec.specs.Fields.{IsTyped, SlotEntry}
use Rattle.rr_codec.specs.Recent.{KnownState, nothing_known}
use Rattle.rr_codec.specs.Text.{cell_text, cells_text}
use Rattle.rr_codec.proofs.encoding.push_cells.Goals as goal

-- one cell, if there is one alone, is all of them
alone : (cells : List SlotEntry) (cell : SlotEntry) → length cells ≡ 1 → get_or cells 0 cell ≡ cell → IsTyped cell
    → All IsTyped cells
alone [] cell len item typed = absurd (omega arith)
alone (e ∷ []) cell len item typed = All-cons IsTyped e [] (subst IsTyped (sym item) typed) (All-nil IsTyped)
alone (e ∷ f ∷ es) cell len item typed = absurd (omega arith)

alone_text : (k : KnownState) (cells : List SlotEntry) (cell : SlotEntry) → length cells ≡ 1
    → get_or cells 0 cell ≡ cell → cells_text k cells ≡ cell_text k cell
alone_text k [] cell len item = absurd (omega arith)
alone_text k (e ∷ []) cell len item = append-nil (cell_text k e) ∙ ap (cell_text k) item
alone_text k (e ∷ f ∷ es) cell len item = absurd (omega arith)

pub returns-then-cells-eq1 : goal.returns-then-cells-eq1
returns-then-cells-eq1 c =
    let cells = c.args.cells.now in
    let cell = c.index-cells-0.result in
    let item : get_or cells 0 cell ≡ cell = search rules in
    let len : length cells ≡ 1 = search rules in
    record {
      added = on_ok_weaker c.push_first.result (λ added. added ∙ ap (λ (l : List ℕ). c.args.bytes.now.items ++ l)
          (sym (alone_text (nothing_known c.args.span) cells cell len item))) c.push_first.ensures.added;
      typed = on_ok_weaker c.push_first.result (λ typed. alone cells cell len item typed) c.push_first.ensures.typed;
    }
