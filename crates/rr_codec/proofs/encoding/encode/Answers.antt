use Rattle.std.proofs.Common.{◌≡◌, ℕ, List, [], ◌++◌, ◌+◌, ◌*◌, ◌≤◌, length, Ok, sym, ap, subst, ◌∙◌, append_assoc, rules}
use Rattle.std.proofs.lemmas.List.{append-nil}
use Rattle.rr_codec.specs.Numbers.{number_text}
use Rattle.rr_codec.specs.Reading.{packed_at}
use Rattle.rr_codec.specs.Recent.{nothing_known}
use Rattle.rr_codec.specs.Text.{cells_text, packed_text}
use Rattle.rr_codec.proofs.CellLemmas.{packed_again}
use Rattle.rr_codec.proofs.LengthLemmas.{packed_len}
use Rattle.rr_codec.proofs.encoding.encode.Goals as goal

pub returns : goal.returns
returns c =
    let cells = c.args.cells.now in
    let span = c.guessed_span-span.result in
    let count = number_text (length cells) in
    let each = cells_text (nothing_known span) cells in
    let first : c.push_number.new.bytes.items ≡ count = search rules in
    let second : c.push_number-2.new.bytes.items ≡ count ++ number_text span =
    c.in_ok-push_number-2.ensures ∙ ap (λ (l : List ℕ). l ++ number_text span) first in
    let text : c.push_cells.new.bytes.items ≡ packed_text span cells =
    c.in_ok-push_cells.ensures.added ∙ ap (λ (l : List ℕ). l ++ each) second
    ∙ append_assoc count (number_text span) each in
    let typed = c.in_ok-push_cells.ensures.typed in
    record {
      read = subst (λ (l : List ℕ). packed_at l ≡ Ok (cells, [])) (append-nil (packed_text span cells) ∙ sym text)
          (packed_again span cells [] c.guessed_span-span.ensures c.requires typed);
      text = (span, c.guessed_span-span.ensures, text);
      size = subst (λ (l : List ℕ). length l ≤ 24 + 123 * length cells) (sym text)
          (packed_len span cells c.requires typed);
    }
