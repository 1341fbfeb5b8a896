use Rattle.std.proofs.Common.{◌∙◌, ap, sym}
use Rattle.rr_codec.specs.Recent.{KnownState}
use Rattle.rr_codec.specs.Reading.{cells_at, cells_left}
use Rattle.rr_codec.proofs.LoopLemmas.{all_is_ok, good}
use Rattle.rr_codec.proofs.decoding.decode.Goals as goal

pub returns-in_err-collect-clause-memory : goal.returns-in_err-collect-clause-memory
returns-in_err-collect-clause-memory c = λ _.
    let is = c.in_ok-count.ensures in
    all_is_ok c.args.bytes.now c.in_ok-count.rest.now c.in_ok-count.count c.in_ok-count.span is.head is.cells_end

pub returns-clause-value : goal.returns-clause-value
returns-clause-value c =
    let is = c.in_ok-count.ensures in
    let rest = c.in_ok-count.rest.now in
    let start = ap (λ (k : KnownState). cells_left (cells_at k c.in_ok-count.count rest)) (sym c.new.ensures) in
    good c.args.bytes.now rest c.in_ok-count.count c.in_ok-count.span is.head c.in_ok-collect.field-0.items is.cells_end
    (start ∙ c.in_ok-collect.ensures)
