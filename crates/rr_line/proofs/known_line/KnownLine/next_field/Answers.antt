-- A further field is one sample more.
use Rattle.std.proofs.Common.{◌≡◌, ◌∷◌, [], List, ℕ, length-append, rules, ap, ◌∙◌, arith, to_z, of_z, w64}
use Rattle.rr_text.specs.declared.bytes.TheConstants.{COMMA}
use Rattle.rr_line.proofs.KnownLineLemmas.{next_read}
use Rattle.rr_line.proofs.PartLemmas.{strip_some}
use Rattle.rr_line.proofs.known_line.KnownLine.next_field.Goals as goal

pub returns : goal.returns
returns c = λ line samples read.
    let known = c.args.self.now in
    let key = c.args.key.now in
    let prefix = c.in_ok-prefix.prefix.now in
    let field = c.in_ok-prefix.field.now in
    let value = c.in_ok-value.value in
    let value_text = c.in_ok-value_text.value_text.now in
    let may = c.if-not-may_precede.ensures in
    let comma : known.rest.now ≡ COMMA ∷ c.in_ok-text.text.now =
    strip_some COMMA known.rest.now c.in_ok-text.text.now (search rules) in
    let whole = comma ∙ ap (λ (t : List ℕ). COMMA ∷ t) c.in_ok-value_text.ensures in
    let text = c.text.ensures.value in
    let begins = next_read line samples known.prefix.now known.field.now known.rest.now key value prefix field
    value_text c.in_ok-value.rest.now
    (rw text at c.text.ensures.grammar) (rw text at c.in_ok-prefix.ensures) read.begins may.same
    (omega (arith, read.count, may.fields_fit)) may.above whole
    c.in_ok-value.ensures in
    let kept : to_z w64 (of_z w64 value) ≡ value = search rules in
    rw kept (record { begins = begins; count = omega (arith, read.count, length-append samples ((key, value) ∷ [])) })
