-- The values so far are put, each one under the next number.
use Rattle.std.proofs.Common.{◌≡◌, ℕ, ◌+◌, ◌∷◌, ◌++◌, [], map, take, refl, sym, ap, ◌∙◌, arith, rules}
use Rattle.std.proofs.Math.Facts.{to_z-of_z}
use Rattle.std.proofs.lemmas.List.{map_more}
use Rattle.std.specs.Int.{w64}
use Rattle.rr_replica.proofs.FieldLemmas.{take-view, failed, passed}
use Rattle.rr_desk.specs.Points.{keyed_value, with_put, with_samples}
use Rattle.rr_desk.specs.declared.samples.KeyedValue.{KeyedValue}
use Rattle.rr_desk.specs.KeeperState.{KeeperState}
use Rattle.rr_desk.proofs.PointsLemmas.{with_samples-more}
use Rattle.rr_desk.proofs.keeper.Keeper.write_values.Goals as goal

pub returns-then-is_err : goal.returns-then-is_err
returns-then-is_err g c =
    let values = c.args.values.now in
    let back = to_z-of_z {w = w64} {z = c.args.time} (search rules) in
    let same = failed c.write_value.result c.write_value.ensures.state.unchanged c.if-is_err.ensures.value in
    let state = rw back at c.loop-value.invariant.put in
    let first : map keyed_value (take c.loop-value.value-index values)
    ≡ take c.loop-value.put (map keyed_value values) =
    take-view keyed_value c.loop-value.value-index values
    ∙ ap (λ (k : ℕ). take k (map keyed_value values)) (sym c.loop-value.invariant.counted) in
    record {
      count = search rules;
      put = search rules;
      refused = (c.loop-value.put, refl, same ∙ state ∙ ap (with_samples c.args.self.now c.args.time) first);
      fields_left = search rules;
    }

pub loop-value-preserved : goal.loop-value-preserved
loop-value-preserved g c =
    let values = c.args.values.now in
    let item = c.value-item.result in
    let value = keyed_value item in
    let back = to_z-of_z {w = w64} {z = c.args.time} (search rules) in
    let written = rw back at (passed c.write_value.result c.write_value.ensures.state.made c.if-is_err.ensures.value) in
    let state = rw back at c.loop-value.invariant.put in
    let before = map keyed_value (take c.loop-value.value-index values) in
    let more : map keyed_value (take (c.loop-value.value-index + 1) values) ≡ before ++ value ∷ [] =
    map_more keyed_value values c.loop-value.value-index item c.loop-value-test.true
    ∙ ap (λ (v : KeyedValue). before ++ keyed_value v ∷ []) (sym c.value-item.is) in
    record {
      counted = omega (arith, c.loop-value.invariant.counted);
      put = rw back (written ∙ ap (λ (k : KeeperState). with_put k value.0 c.args.time value.1) state
          ∙ sym (with_samples-more c.args.self.now c.args.time before value)
          ∙ ap (with_samples c.args.self.now c.args.time) (sym more));
    }
