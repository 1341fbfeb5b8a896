use Rattle.std.proofs.Common.{◌≡◌, true, false, sym, ap, ◌∙◌, refl}
use Rattle.std.specs.Map.{keys_of}
use Rattle.rr_text.specs.Bytes.{has_repeat}
use Rattle.rr_key.specs.Making.{tags_of}
use Rattle.rr_key.proofs.OrderLemmas.{keys_of_slices}
use Rattle.rr_key.proofs.making.fault_of_many.Goals as goal

pub returns-then-has_repeat : goal.returns-then-has_repeat
returns-then-has_repeat c =
    let twice : has_repeat (keys_of (tags_of c.args.tags.now)) ≡ true = ap has_repeat (keys_of_slices c.args.tags.now)
    ∙ sym c.has_repeat.ensures ∙ c.if-has_repeat.true in
    rw twice refl

pub returns-else-has_repeat : goal.returns-else-has_repeat
returns-else-has_repeat c =
    let once : has_repeat (keys_of (tags_of c.args.tags.now)) ≡ false = ap has_repeat (keys_of_slices c.args.tags.now)
    ∙ sym c.has_repeat.ensures ∙ c.if-has_repeat.false in
    rw once refl
