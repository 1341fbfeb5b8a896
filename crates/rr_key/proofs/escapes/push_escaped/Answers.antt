use Rattle.std.proofs.Common.{◌≡◌, ◌++◌, OnOk, sym, rules}
use Rattle.rr_key.proofs.PlainLemmas.{escape_plain}
use Rattle.rr_key.proofs.escapes.push_escaped.Goals as goal

pub returns-then-not-has_special : goal.returns-then-not-has_special
returns-then-not-has_special c =
    let same : OnOk c.extend_from_slice.result (c.extend_from_slice.new.self.items ≡ c.args.text.now.items
    ++ c.args.name.now) = search rules in
    rw (escape_plain c.args.class c.args.name.now (sym c.if-not-has_special.ensures)) same
