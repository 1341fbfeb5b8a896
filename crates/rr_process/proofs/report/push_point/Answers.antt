use Rattle.std.proofs.Common.{◌≡◌, List, [], ℕ, ℤ, pos, ◌++◌, map, take, get_or, None, sym, subst, ap, ◌∙◌, append_assoc, rules}
use Rattle.std.specs.Int.{w64}
use Rattle.std.specs.List.{AllByRecursion, flat_map}
use Rattle.std.proofs.Math.Facts.{to_z-of_z}
use Rattle.std.proofs.lemmas.List.{take_all}
use Rattle.rr_key.specs.Making.{making_fault}
use Rattle.rr_point.specs.Key.{names_of, key_text}
use Rattle.rr_point.specs.Point.{PointView, field_view, point_view}
use Rattle.rr_point.specs.declared.point.Field.{Field}
use Rattle.std.specs.Fmt.{signed_decimal}
use Rattle.rr_process.specs.Report.{sample_text}
use Rattle.rr_process.specs.Writing.{written}
use Rattle.rr_process.proofs.PointLemmas.{field_at, texts_more}
use Rattle.rr_process.proofs.report.push_point.Goals as goal

abbrev any : Field
any = record { key = record { ref_ptr = (0, 0); now = [] }; value = pos 0 }

abbrev text_at : PointView → ℤ → List ℕ × ℤ → List ℕ
text_at p time field = sample_text (key_text p field.0) field.1 time

pub loop-field-preserved : goal.loop-field-preserved
loop-field-preserved c =
    let items = c.deref-field-items.result.now in
    let i = c.loop-field.field-index in
    let p = point_view c.args.point.now in
    let back = to_z-of_z {w = w64} {z = c.unwrap_or-time.result} (search rules) in
    let field = get_or items i any in
    let start = written c.args.report.now in
    let before = flat_map (text_at p c.unwrap_or-time.result) (map field_view (take i items)) in
    let so_far = rw back at c.loop-field.invariant.pushed in
    let digits : c.as_bytes-digits.result.now ≡ signed_decimal c.unwrap_or-time.result = search rules in
    let value : c.as_bytes-value.result.now ≡ signed_decimal field.value = search rules in
    let added = rw (value, digits, c.deref.ensures.value, c.in_ok-write_key.ensures.written)
    at c.in_ok-push_sample.ensures.pushed in
    let more = texts_more (text_at p c.unwrap_or-time.result) field_view items i any c.loop-field-test.true in
    record {
      between = c.in_ok-push_sample.ensures.between;
      pushed = rw back (added ∙ ap (λ (t : List ℕ). t ++ text_at p c.unwrap_or-time.result (field_view field)) so_far
          ∙ append_assoc start before (text_at p c.unwrap_or-time.result (field_view field))
          ∙ ap (λ (t : List ℕ). start ++ t) (sym more));
    }

pub write_key-requires : goal.write_key-requires
write_key-requires c =
    let p = point_view c.args.point.now in
    let Keyed : List ℕ × ℤ → Type 0 = λ field. making_fault (names_of p field.0) ≡ None in
    let keyed : AllByRecursion Keyed (map field_view c.deref-field-items.result.now) =
    subst (λ (items : List Field). AllByRecursion Keyed (map field_view items))
    (sym c.deref-field-items.ensures.value) c.requires.keys in
    field_at Keyed field_view c.deref-field-items.result.now c.loop-field.field-index any keyed c.loop-field-test.true

pub returns-clause-pushed : goal.returns-clause-pushed
returns-clause-pushed c =
    let items = c.deref-field-items.result.now in
    let back = to_z-of_z {w = w64} {z = c.unwrap_or-time.result} (search rules) in
    let now = to_z-of_z {w = w64} {z = c.args.now} (search rules) in
    let all : take c.loop-field.field-index items ≡ c.args.point.now.fields.items =
    take_all c.loop-field.field-index items c.loop-field-test.false ∙ c.deref-field-items.ensures.value in
    let time = rw now at c.unwrap_or-time.ensures in
    rw (back, all, time) at c.loop-field.invariant.pushed
