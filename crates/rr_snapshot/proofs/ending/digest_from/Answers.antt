use Rattle.std.proofs.Common.{rules, ◌≡◌, ◌≤◌, ◌∙◌, Bool, true, false, List, ℕ, Ok, ap, sym, take, length, arith, inr}
use Rattle.std.specs.Prelude.{nat_eq, not}
use Rattle.std.specs.Cmp.Lexicographic.{pointwise}
use Rattle.std.proofs.lemmas.List.{length-take}
use Rattle.std.proofs.lemmas.Result.{err_from_is_err_and}
use Rattle.rr_io.specs.Counted.{inner_of}
use Rattle.rr_text.specs.Results.{unless}
use Rattle.rr_page.specs.Reading.{prefix_at}
use Rattle.rr_page.proofs.PrefixLemmas.{ReadsPrefix-field}
use Rattle.rr_snapshot.specs.declared.fault.LoadFault.TheVariants.{BadDigest}
use Rattle.rr_snapshot.specs.SnapshotReading.{as_in_page, digest_at}
use Rattle.rr_snapshot.proofs.ChainLemmas.{passes, refuses, then_gave, then_refused, refused_then}
use Rattle.rr_snapshot.proofs.PieceLemmas.{piece_ok, piece_err}
use Rattle.rr_snapshot.proofs.WidthLemmas.{HasWidth-field}
use Rattle.rr_snapshot.proofs.ending.digest_from.Goals as goal

pub returns-in_err-field-clause-read : goal.returns-in_err-field-clause-read
unfolding digest_at
returns-in_err-field-clause-read g c =
    let buf = c.fill.new.buf in
    let made : length buf ≡ 32 = search rules in
    let got_len = length-take c.in_ok-got.got buf in
    let few : length (take c.in_ok-got.got buf) ≤ 32 = omega (arith, got_len, made, c.in_ok-got.ensures.bound) in
    let old = g.R.Read.remaining (inner_of c.args.input.now) in
    let new = g.R.Read.remaining (inner_of c.fill.new.input) in
    let p = err_from_is_err_and c.from_residual-in_err-field.result c.from_residual-in_err-field.ensures.1 in
    let refused = piece_err 32 (prefix_at 32) (ReadsPrefix-field 32) (HasWidth-field 32) (take c.in_ok-got.got buf) few
    old
    new _ c.in_ok-got.ensures.bytes (λ lt. c.in_ok-got.ensures.end
    (omega (arith, got_len, made, c.in_ok-got.ensures.bound, lt))) c.in_err-field.ensures.read in
    rw (p.1, p.2) (inr (inr (refused_then (λ all. as_in_page (prefix_at 32 all))
    (λ (field : List ℕ × List ℕ). unless BadDigest (not (pointwise nat_eq field.0 c.args.digest.now))
    (Ok (tt, field.1))) _ old refused)))

pub returns-then-ne-clause-read : goal.returns-then-ne-clause-read
unfolding digest_at
returns-then-ne-clause-read g c =
    let buf = c.fill.new.buf in
    let made : length buf ≡ 32 = search rules in
    let got_len = length-take c.in_ok-got.got buf in
    let few : length (take c.in_ok-got.got buf) ≤ 32 = omega (arith, got_len, made, c.in_ok-got.ensures.bound) in
    let old = g.R.Read.remaining (inner_of c.args.input.now) in
    let new = g.R.Read.remaining (inner_of c.fill.new.input) in
    let step = piece_ok 32 (prefix_at 32) (ReadsPrefix-field 32) (HasWidth-field 32) (take c.in_ok-got.got buf) few old
    new
    c.in_ok-field.field.now _ c.in_ok-got.ensures.bytes c.in_ok-field.ensures.read in
    let differs : not (pointwise nat_eq c.in_ok-field.field.now c.args.digest.now) ≡ true =
    ap (λ (d : List ℕ). not (pointwise nat_eq c.in_ok-field.field.now d)) (sym c.as_slice.ensures)
    ∙ sym c.ne.ensures ∙ c.if-ne.true in
    inr (inr (then_refused (λ all. as_in_page (prefix_at 32 all))
    (λ (field : List ℕ × List ℕ). unless BadDigest (not (pointwise nat_eq field.0 c.args.digest.now))
    (Ok (tt, field.1))) c.in_ok-field.field.now BadDigest old new step
    (refuses BadDigest new _ (λ all. ap (λ (b : Bool). unless BadDigest b (Ok (tt, all))) differs))))

pub returns-clause-read : goal.returns-clause-read
unfolding digest_at
returns-clause-read g c =
    let buf = c.fill.new.buf in
    let made : length buf ≡ 32 = search rules in
    let got_len = length-take c.in_ok-got.got buf in
    let few : length (take c.in_ok-got.got buf) ≤ 32 = omega (arith, got_len, made, c.in_ok-got.ensures.bound) in
    let old = g.R.Read.remaining (inner_of c.args.input.now) in
    let new = g.R.Read.remaining (inner_of c.fill.new.input) in
    let step = piece_ok 32 (prefix_at 32) (ReadsPrefix-field 32) (HasWidth-field 32) (take c.in_ok-got.got buf) few old
    new
    c.in_ok-field.field.now _ c.in_ok-got.ensures.bytes c.in_ok-field.ensures.read in
    let same : not (pointwise nat_eq c.in_ok-field.field.now c.args.digest.now) ≡ false =
    ap (λ (d : List ℕ). not (pointwise nat_eq c.in_ok-field.field.now d)) (sym c.as_slice.ensures)
    ∙ sym c.ne.ensures ∙ c.if-ne.false in
    then_gave (λ all. as_in_page (prefix_at 32 all))
    (λ (field : List ℕ × List ℕ). unless BadDigest (not (pointwise nat_eq field.0 c.args.digest.now))
    (Ok (tt, field.1))) c.in_ok-field.field.now tt old new new step
    (passes tt new _ (λ all. ap (λ (b : Bool). unless BadDigest b (Ok (tt, all))) same))
