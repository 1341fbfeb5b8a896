-- The steps are those of the reading.
use Rattle.std.proofs.Common.{◌≡◌, ℕ, ℤ, ◌-◌, List, length, take, Option, Result, Ok, Err, refl, ap, subst, inl, inr, rules, ◌∙◌, arith, Bor}
use Rattle.std.specs.Prelude.{◌⊎◌, IfSome}
use Rattle.std.proofs.lemmas.List.{length-take-le}
use Rattle.rr_text.specs.Results.{◌>>=◌}
use Rattle.rr_line.specs.declared.fault.LineFault.{LineFault}
use Rattle.rr_line.specs.declared.fault.LineFault.TheVariants.{Memory}
use Rattle.rr_line.specs.Field.{Field}
use Rattle.rr_line.specs.Prefix.{IsPlain}
use Rattle.rr_point.specs.Point.{tags_view, fields_view}
use Rattle.rr_line.specs.Reading.{point_at}
use Rattle.rr_line.specs.Tag.{Tag}
use Rattle.rr_line.proofs.PrefixLemmas.{gap_within, prefix_text_of_steps}
use Rattle.rr_line.proofs.ReadPointLemmas.{point_of, has_fields_text, point_of_body}
use Rattle.rr_line.proofs.parse.read_point.Goals as goal

pub slice_bounds-prefix-count : goal.slice_bounds-prefix-count
slice_bounds-prefix-count c =
    gap_within c.args.text.now (c.in_ok-measurement.measurement.now, c.in_ok-measurement.rest.now)
    (tags_view c.in_ok-tags.tags.items, c.in_ok-tags.gap.now) c.requires.says_something c.in_ok-measurement.ensures
    c.in_ok-tags.ensures

pub returns-in_err-fields-clause-read : goal.returns-in_err-fields-clause-read
returns-in_err-fields-clause-read c =
    let tags : List Tag × List ℕ = (tags_view c.in_ok-tags.tags.items, c.in_ok-tags.gap.now) in
    let text = c.args.text.now in
    let len : length (take (length text - length tags.1) text) ≡ length text - length tags.1 =
    length-take-le (length text - length tags.1) text (omega arith) in
    let fault = c.in_err-fields.field-0.0 in
    let whole = point_of_body c.args.precision text (c.in_ok-measurement.measurement.now, c.in_ok-measurement.rest.now)
    tags _ c.requires.one_line c.requires.says_something c.in_ok-measurement.ensures c.in_ok-tags.ensures len in
    let parsed : (fault ≡ Memory) ⊎ (point_at c.args.precision text ≡ Err fault) =
    elim c.in_err-fields.ensures [ inl out ↦ inl out | inr is ↦ inr (whole ∙ rw is refl) ] in
    search rules

pub returns-clause-read : goal.returns-clause-read
returns-clause-read c =
    let measurement : List ℕ × List ℕ = (c.in_ok-measurement.measurement.now, c.in_ok-measurement.rest.now) in
    let tags : List Tag × List ℕ = (tags_view c.in_ok-tags.tags.items, c.in_ok-tags.gap.now) in
    let text = c.args.text.now in
    let len : length (take (length text - length tags.1) text) ≡ length text - length tags.1 =
    length-take-le (length text - length tags.1) text (omega arith) in
    rw (c.new.ensures.measurement, c.new.ensures.tags, c.new.ensures.fields, c.new.ensures.time)
    (point_of_body c.args.precision text measurement tags _ c.requires.one_line c.requires.says_something
    c.in_ok-measurement.ensures c.in_ok-tags.ensures len
    ∙ ap (λ (r : Result (List Field × Option ℤ) LineFault). r >>= λ body. Ok
    (point_of measurement.0 tags.0 body.0 body.1)) c.in_ok-fields.ensures)

pub new-requires : goal.new-requires
new-requires c =
    let measurement : List ℕ × List ℕ = (c.in_ok-measurement.measurement.now, c.in_ok-measurement.rest.now) in
    let tags : List Tag × List ℕ = (tags_view c.in_ok-tags.tags.items, c.in_ok-tags.gap.now) in
    let text = c.args.text.now in
    let prefix = take (length text - length tags.1) text in
    let gap = has_fields_text c.args.precision (length prefix) tags.1
    (fields_view c.in_ok-fields.fields.items, c.in_ok-fields.time) c.in_ok-fields.ensures in
    λ f is.
    let same : f.now ≡ prefix = subst (λ r. IfSome r (λ (f : Bor (List ℕ)). f.now ≡ prefix)) is
    c.key_prefix-prefix.ensures.same in
    let plain : IsPlain prefix (tags_view c.as_slice.result.now) =
    subst (λ r. IfSome r (λ (f : Bor (List ℕ)). IsPlain prefix (tags_view c.as_slice.result.now))) is
    c.key_prefix-prefix.ensures.plain in
    same ∙ prefix_text_of_steps text measurement tags gap.0 c.requires.one_line c.requires.says_something
    c.in_ok-measurement.ensures c.in_ok-tags.ensures gap.1
    (subst (λ ts. IsPlain prefix (tags_view ts)) c.as_slice.ensures plain)
