-- The last byte is the one before the end.
use Rattle.std.proofs.Common.{sym, ◌∙◌, refl}
use Rattle.std.proofs.lemmas.Bool.{eq-eqb, ne_eqb}
use Rattle.rr_line.proofs.PartLemmas.{before_last_at}
use Rattle.rr_line.proofs.part.before_last.Goals as goal

pub returns-then-last-byte : goal.returns-then-last-byte
returns-then-last-byte c = sym (before_last_at c.args.byte c.args.text.now c.in-len1-up.len_at_least
    ∙ rw (eq-eqb _ _ c.if-last-byte.true) refl)

pub returns-else-last-byte : goal.returns-else-last-byte
returns-else-last-byte c = sym (before_last_at c.args.byte c.args.text.now c.in-len1-up.len_at_least
    ∙ rw (ne_eqb _ _ c.if-last-byte.false) refl)
