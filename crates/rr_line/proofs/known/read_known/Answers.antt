-- What was read after the key text is the one sample of the line.
use Rattle.std.proofs.Common.{◌≡◌, rules, to_z, of_z, w64}
use Rattle.rr_line.proofs.KnownLemmas.{says_first}
use Rattle.rr_line.proofs.known.read_known.Goals as goal

pub returns : goal.returns
returns c =
    let value = c.in_ok-value.value in
    let kept : to_z w64 (of_z w64 value) ≡ value = search rules in
    let text = c.text.ensures.value in
    rw kept (says_first c.args.precision c.args.line.now c.args.key.now value c.in_ok-value.rest.now c.in_ok-time.time
    (rw text at c.text.ensures.grammar) (rw text at c.in_ok-value.ensures) (search rules) (search rules))
