use Rattle.std.proofs.Common.{◌≡◌, true, false, refl, inr}
use Rattle.std.specs.Str.{is_utf8}
use Rattle.std.proofs.lemmas.Str.{is_utf8-from_IsUtf8, IsUtf8-from_is_utf8}
use Rattle.std.proofs.lemmas.Bool.{false_from_ne_true}
use Rattle.rr_config.proofs.document.table_of.Goals as goal

pub returns-in_default-clause-read : goal.returns-in_default-clause-read
returns-in_default-clause-read c =
    let bad : is_utf8 c.args.text.now ≡ false = false_from_ne_true _
    (λ e. c.in_default.ensures.cases.0 (IsUtf8-from_is_utf8 _ e)) in
    rw bad (inr refl)

pub returns-in-Ok-table_from_str-clause-read : goal.returns-in-Ok-table_from_str-clause-read
returns-in-Ok-table_from_str-clause-read c =
    let text = c.in-Ok.ensures.cases in
    let good : is_utf8 c.args.text.now ≡ true = is_utf8-from_IsUtf8 _ text.1 in
    let parsed = rw text.0 at c.in-Ok-table_from_str.ensures.ok in
    rw (good, parsed) refl

pub returns-then-is_memory-clause-foreign : goal.returns-then-is_memory-clause-foreign
returns-then-is_memory-clause-foreign c = λ bad.
    let good : is_utf8 c.args.text.now ≡ true = is_utf8-from_IsUtf8 _ (c.in-Ok.ensures.cases.1) in
    absurd (cc (good, bad))

pub returns-in-Ok-table_from_str-clause-foreign : goal.returns-in-Ok-table_from_str-clause-foreign
returns-in-Ok-table_from_str-clause-foreign c = λ bad.
    let good : is_utf8 c.args.text.now ≡ true = is_utf8-from_IsUtf8 _ (c.in-Ok.ensures.cases.1) in
    absurd (cc (good, bad))
