use Rattle.std.proofs.Common.{sym}
use Rattle.rr_key.proofs.PlainLemmas.{unescape_plain}
use Rattle.rr_key.proofs.escapes.unescape.Goals as goal

pub returns-then-not-contains : goal.returns-then-not-contains
returns-then-not-contains c =
    rw (unescape_plain c.args.class c.args.raw.now (sym c.if-not-contains.ensures.value)) c.from_slice.ensures.items
