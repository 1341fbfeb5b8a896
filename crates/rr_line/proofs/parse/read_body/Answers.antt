-- The steps are those of the body, and the test is that of its keys.
use Rattle.std.proofs.Common.{◌≡◌, ℕ, ◌+◌, Bool, true, false, ltb, List, length, refl, sym, ap, ◌∙◌, inr}
use Rattle.std.specs.List.{list_any}
use Rattle.rr_text.specs.declared.limits.TheConstants.{MAX_KEY_TEXT}
use Rattle.rr_point.specs.declared.point.Field.{Field}
use Rattle.rr_point.specs.Point.{fields_view}
use Rattle.rr_line.specs.Reading.{body_at}
use Rattle.rr_line.proofs.parse.read_body.Goals as goal

abbrev tests_of : ℕ → List Field → Bool
tests_of prefix fields = list_any (λ field. ltb MAX_KEY_TEXT (prefix + 1 + length field.0)) (fields_view fields)

pub returns-then-has_long_key : goal.returns-then-has_long_key
unfolding body_at
returns-then-has_long_key c =
    let long : tests_of (length c.args.prefix.now) c.in_ok-fields.fields.items ≡ true =
    ap (tests_of (length c.args.prefix.now)) (sym c.deref.ensures.value) ∙ sym c.if-has_long_key.ensures in
    inr (rw (c.in_ok-text.ensures, c.in_ok-fields.ensures, sym c.in_ok-time.ensures, long) refl)

pub returns : goal.returns
unfolding body_at
returns c =
    let short : tests_of (length c.args.prefix.now) c.in_ok-fields.fields.items ≡ false =
    ap (tests_of (length c.args.prefix.now)) (sym c.deref.ensures.value) ∙ sym c.if-has_long_key.ensures in
    rw (c.in_ok-text.ensures, c.in_ok-fields.ensures, sym c.in_ok-time.ensures, short) refl
