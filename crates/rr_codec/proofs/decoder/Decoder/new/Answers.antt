use Rattle.std.proofs.Common.{◌∙◌, ap, rules}
use Rattle.std.proofs.lemmas.Result.{err_from_is_err_and}
use Rattle.rr_codec.specs.Recent.{KnownState}
use Rattle.rr_codec.specs.Reading.{cells_at, cells_left}
use Rattle.rr_codec.proofs.LoopLemmas.{Read, no_head, walk_begins}
use Rattle.rr_codec.proofs.decoder.Decoder.new.Goals as goal

pub returns-in_err-left : goal.returns-in_err-left
returns-in_err-left c =
    let p = err_from_is_err_and c.from_residual.result c.from_residual.ensures.1 in
    rw (p.1, p.2) (
      no_head c.args.bytes.now c.in_err-left.field-0.0 c.in_err-left.ensures.read,
      (λ e. c.in_err-left.ensures.no_memory (search (rules, e))),
    )

pub returns : goal.returns
returns c =
    let rest = c.in_ok-left.rest.now in
    ap (λ (k : KnownState). cells_left (cells_at k c.in_ok-left.left rest)) c.new.ensures
    ∙ ap (λ (r : Read). cells_left r)
    (walk_begins c.args.bytes.now rest c.in_ok-left.left c.in_ok-left.span c.in_ok-left.ensures.read)
