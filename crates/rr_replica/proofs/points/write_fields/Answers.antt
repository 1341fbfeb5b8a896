-- The fields so far are put, each one under the next number.
use Rattle.std.proofs.Common.{◌≡◌, ℕ, ℤ, pos, List, [], ◌∷◌, map, take, get_or, None, refl, sym, ap, subst, ◌∙◌, arith, rules}
use Rattle.std.proofs.Math.Facts.{to_z-of_z}
use Rattle.std.proofs.lemmas.List.{map_more}
use Rattle.std.specs.Int.{w64}
use Rattle.std.specs.List.{AllByRecursion}
use Rattle.rr_key.specs.Making.{making_fault}
use Rattle.rr_point.specs.Key.{names_of, key_text}
use Rattle.rr_point.specs.Point.{field_view, point_view}
use Rattle.rr_point.specs.declared.point.Field.{Field}
use Rattle.rr_replica.specs.Writing.{all_put}
use Rattle.rr_replica.proofs.FieldLemmas.{all_put-append, field_at, take-view, failed, passed}
use Rattle.rr_replica.proofs.points.write_fields.Goals as goal

abbrev any : Field
any = record { key = record { ref_ptr = (0, 0); now = [] }; value = pos 0 }

pub write_field-requires : goal.write_field-requires
write_field-requires g c =
    let p = point_view c.args.point.now in
    let Keyed : List ℕ × ℤ → Type 0 = λ field. making_fault (names_of p field.0) ≡ None in
    let keyed : AllByRecursion Keyed (map field_view c.deref-field-items.result.now) =
    subst (λ (items : List Field). AllByRecursion Keyed (map field_view items))
    (sym c.deref-field-items.ensures.value) c.requires.keyed in
    field_at Keyed field_view c.deref-field-items.result.now c.loop-field.field-index any keyed c.loop-field-test.true

pub returns-then-is_err : goal.returns-then-is_err
returns-then-is_err g c =
    let p = point_view c.args.point.now in
    let back = to_z-of_z {w = w64} {z = c.args.time} (search rules) in
    let same = failed c.write_field.result c.write_field.ensures.unchanged c.if-is_err.ensures.value in
    let state = rw back at c.loop-field.invariant.put in
    let first : map field_view (take c.loop-field.field-index c.deref-field-items.result.now)
    ≡ take c.loop-field.put (map field_view c.args.point.now.fields.items) =
    take-view field_view c.loop-field.field-index c.deref-field-items.result.now
    ∙ ap (λ (items : List Field). take c.loop-field.field-index (map field_view items))
    c.deref-field-items.ensures.value
    ∙ ap (λ (k : ℕ). take k (map field_view c.args.point.now.fields.items)) (sym c.loop-field.invariant.counted) in
    record {
      count = search rules;
      put = search rules;
      refused = (
        c.loop-field.put,
        refl,
        same ∙ state
            ∙ ap (all_put g.S.Sink.with_put (g.S.Sink.state c.args.sink.now) p c.args.time) first,
      );
      fields_left = search rules;
    }

pub loop-field-preserved : goal.loop-field-preserved
loop-field-preserved g c =
    let p = point_view c.args.point.now in
    let put = g.S.Sink.with_put in
    let start = g.S.Sink.state c.args.sink.now in
    let items = c.deref-field-items.result.now in
    let back = to_z-of_z {w = w64} {z = c.args.time} (search rules) in
    let written = rw back at (passed c.write_field.result c.write_field.ensures.made c.if-is_err.ensures.value) in
    let state = rw back at c.loop-field.invariant.put in
    let before = map field_view (take c.loop-field.field-index items) in
    let field = field_view (get_or items c.loop-field.field-index any) in
    let more = map_more field_view items c.loop-field.field-index any c.loop-field-test.true in
    record {
      counted = omega (arith, c.loop-field.invariant.counted);
      put = rw back (written ∙ ap (λ (s : g.S.Sink.State). put s (key_text p field.0) c.args.time field.1) state
          ∙ sym (all_put-append put start p c.args.time before (field ∷ []))
          ∙ ap (all_put put start p c.args.time) (sym more));
    }
