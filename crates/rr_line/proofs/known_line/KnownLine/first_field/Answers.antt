-- The first field is one sample.
use Rattle.std.proofs.Common.{◌≡◌, rules, refl, to_z, of_z, w64}
use Rattle.rr_line.proofs.KnownLineLemmas.{first_read}
use Rattle.rr_line.proofs.known_line.KnownLine.first_field.Goals as goal

pub returns : goal.returns
returns c =
    let value = c.in_ok-value.value in
    let kept : to_z w64 (of_z w64 value) ≡ value = search rules in
    let text = c.text-key_text.ensures.value in
    rw kept (record {
      begins = first_read c.args.line.now c.args.key.now value c.in_ok-prefix.prefix.now c.in_ok-prefix.field.now
          c.in_ok-value.rest.now (rw text at c.text-key_text.ensures.grammar) (rw text at c.in_ok-prefix.ensures)
          (rw text at c.in_ok-value.ensures);
      count = refl;
    })
