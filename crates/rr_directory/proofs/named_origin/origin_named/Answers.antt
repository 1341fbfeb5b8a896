use Rattle.std.proofs.Common.{rules, ◌≡◌, ◌++◌, ◌∙◌, sym, ap, None, Some}
use Rattle.std.specs.Prelude.{codes}
use Rattle.rr_directory.specs.NamedOrigins.{five_digits}
use Rattle.rr_directory.proofs.NamedOriginLemmas.{name_read, then_origin}
use Rattle.rr_directory.proofs.named_origin.origin_named.Goals as goal

pub returns-in_err-five_digits : goal.returns-in_err-five_digits
returns-in_err-five_digits c =
    let rest = c.in_ok-digits.digits.now in
    let begins : c.args.bytes.now ≡ codes "origin-" ++ rest = search rules in
    let none : five_digits rest ≡ None = search rules in
    let is : c.from_residual-in_err-five_digits.result ≡ None = search rules in
    name_read c.args.bytes.now rest c.from_residual-in_err-five_digits.result begins
    (is ∙ sym (ap then_origin none))

pub returns : goal.returns
returns c =
    let rest = c.in_ok-digits.digits.now in
    let begins : c.args.bytes.now ≡ codes "origin-" ++ rest = search rules in
    let some : five_digits rest ≡ Some c.in_ok-five_digits.field-0 = search rules in
    name_read c.args.bytes.now rest c.origin_in.result begins (c.origin_in.ensures ∙ sym (ap then_origin some))
