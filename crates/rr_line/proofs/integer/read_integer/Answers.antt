-- The digits, their sign and the mark are the value.
use Rattle.std.proofs.Common.{◌≡◌, ◌∷◌, ◌++◌, List, ℕ, Some, rules, ap, ◌∙◌, to_z, of_z, w64}
use Rattle.rr_text.specs.Text.{number_at, unsigned, integer_at}
use Rattle.rr_line.specs.declared.mark.TheConstants.{INTEGER_MARK}
use Rattle.rr_line.proofs.NumberLemmas.{is_read, integer_value}
use Rattle.rr_line.proofs.PartLemmas.{strip_some}
use Rattle.rr_line.proofs.integer.read_integer.Goals as goal

pub with_sign-requires : goal.with_sign-requires
with_sign-requires c =
    let is = is_read c.args.text.now c.unsigned.result.now c.in_ok-size.size c.in_ok-size.marked.now
    c.unsigned.ensures c.in_ok-size.ensures in
    ap (λ (t : List ℕ). number_at (unsigned t)) is.taken ∙ is.writes

pub returns : goal.returns
returns c =
    let text = c.args.text.now in
    let rest = c.in_ok-rest.rest.now in
    let number = c.in_ok-number.number in
    let is = is_read text c.unsigned.result.now c.in_ok-size.size c.in_ok-size.marked.now c.unsigned.ensures
    c.in_ok-size.ensures in
    let marked : c.in_ok-size.marked.now ≡ INTEGER_MARK ∷ rest =
    strip_some INTEGER_MARK c.in_ok-size.marked.now rest (search rules) in
    let read : Some number ≡ integer_at is.prefix = c.in_ok-number.ensures ∙ ap integer_at is.taken in
    let kept : to_z w64 (of_z w64 number) ≡ number = search rules in
    let whole = is.whole ∙ ap (λ (t : List ℕ). is.prefix ++ t) marked in
    rw kept (integer_value text is.prefix rest number whole (search rules) read)
