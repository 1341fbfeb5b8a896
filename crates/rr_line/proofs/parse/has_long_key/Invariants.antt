use Rattle.std.proofs.Common.{◌≡◌, ◌+◌, ltb, length, drop}
use Rattle.std.specs.List.{list_any}
use Rattle.rr_text.specs.declared.limits.TheConstants.{MAX_KEY_TEXT}
use Rattle.rr_point.specs.Point.{fields_view}
use Rattle.rr_line.proofs.parse.has_long_key.Given as goal

abbrev pub invariant-loop-field : goal.invariant-loop-field
invariant-loop-field l =
    list_any (λ field. ltb MAX_KEY_TEXT (length l.prefix + 1 + length field.0))
    (fields_view (drop l.field-index l.fields))
    ≡ list_any (λ field. ltb MAX_KEY_TEXT (length l.prefix + 1 + length field.0)) (fields_view l.fields)
