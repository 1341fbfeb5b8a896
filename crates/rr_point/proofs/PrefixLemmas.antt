-- The key text of a field that is spelled as it is unescaped.
use Rattle.std.proofs.Common.{◌≡◌, ℕ, List, ◌∷◌, ◌++◌, length, take, sym, ap, ap₂, ◌∙◌}
use Rattle.std.proofs.Math.Seq.{take-length}
use Rattle.std.proofs.lemmas.List.{append_assoc}
use Rattle.std.specs.FinMap.{entries, from_entries}
use Rattle.std.specs.List.{flat_map}
use Rattle.rr_text.specs.Bytes.{bytes_cmp}
use Rattle.rr_text.specs.declared.bytes.TheConstants.{SPACE}
use Rattle.rr_key.specs.declared.class.Class.TheVariants.{Measurement, Other}
use Rattle.rr_key.specs.Series.{tag_text}
use Rattle.rr_key.specs.Unit.{escape, unescape, name_len}
use Rattle.rr_key.proofs.EscapeLemmas.{escape-unescape}
use Rattle.rr_point.specs.Prefix.{prefix_text, tags_unescaped}
use Rattle.rr_point.specs.Key.{key_text}
use Rattle.rr_point.specs.Point.{PointView}

-- it comes after what precedes it
pub key_after_prefix : (p : PointView) (prefix field : List ℕ) → prefix ≡ prefix_text p.measurement p.tags
    → name_len Other field ≡ length field → prefix ++ SPACE ∷ field ≡ key_text p field
key_after_prefix p prefix field is spelled =
    let whole : take (name_len Other field) field ≡ field = ap (λ (n : ℕ). take n field) spelled ∙ take-length field in
    let written : escape Other (unescape Other field) ≡ field =
    ap (λ (t : List ℕ). escape Other (unescape Other t)) (sym whole) ∙ escape-unescape Other field ∙ whole in
    let tags = flat_map tag_text (entries (from_entries {R = bytes_cmp} (tags_unescaped p.tags))) in
    ap₂ (λ (t f : List ℕ). t ++ SPACE ∷ f) is (sym written)
    ∙ append_assoc (escape Measurement (unescape Measurement p.measurement)) tags
    (SPACE ∷ escape Other (unescape Other field))
