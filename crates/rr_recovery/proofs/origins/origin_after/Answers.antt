use Rattle.std.proofs.Common.{rules, ◌≡◌, ◌%◌, ℕ, Option, Ok, sym, ap, ◌∙◌}
use Rattle.std.proofs.lemmas.Result.{err_from_is_err_and}
use Rattle.rr_journal.specs.Body.{meaning_of}
use Rattle.rr_journal.specs.Text.{raw_of}
use Rattle.rr_recovery.proofs.OriginLemmas.{origin_bad_unless, origin_read}
use Rattle.rr_recovery.proofs.origins.origin_after.Goals as goal

pub returns-in_err-meaning : goal.returns-in_err-meaning
returns-in_err-meaning c =
    let is : c.args.raw.now.kind % 128 ≡ 2 = search rules in
    let p = err_from_is_err_and c.from_residual.result c.from_residual.ensures.1 in
    rw (p.1, p.2) (origin_bad_unless c.args.schema.now (raw_of c.args.raw.now) c.args.before _ is
    c.in_err-meaning.ensures)

pub returns : goal.returns
returns c =
    let is : c.args.raw.now.kind % 128 ≡ 2 = search rules in
    let read = origin_read c.args.schema.now (raw_of c.args.raw.now) c.args.before (meaning_of c.in_ok-meaning.meaning) is
    c.in_ok-meaning.ensures in
    read.2 ∙ ap (λ (o : Option ℕ). Ok o) (sym (c.origin_in.ensures read.0 read.1))
