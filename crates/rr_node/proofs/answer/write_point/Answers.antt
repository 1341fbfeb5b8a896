use Rattle.std.proofs.Common.{◌≡◌, ℕ, length, Err, refl, sym, subst, ◌∙◌, arith, rules}
use Rattle.std.proofs.Math.Facts.{to_z-of_z}
use Rattle.std.specs.Int.{w64}
use Rattle.std.proofs.lemmas.List.{length-map}
use Rattle.rr_point.specs.Point.{field_view, point_view}
use Rattle.rr_replica.specs.declared.fault.WriteFault.TheVariants as why
use Rattle.rr_desk.specs.KeeperState.{own_replica}
use Rattle.rr_node.specs.declared.answer.Answer.TheVariants as says
use Rattle.rr_node.specs.Connection.{IsAnswer}
use Rattle.rr_node.specs.Lines.{Verdict, keeper_with, keeper_with_some}
use Rattle.rr_node.proofs.VerdictLemmas.{verdict_put_of, verdict_spent_of}
use Rattle.rr_node.proofs.answer.write_point.Goals as goal

pub returns-in-Ok-clause-taken : goal.returns-in-Ok-clause-taken
returns-in-Ok-clause-taken g c = record {
  taken =
      let p = point_view c.args.point.now in
      let k = c.args.keeper.now in
      let now = c.now-now.result in
      let new = c.write.new.self in
      let back = to_z-of_z {w = w64} {z = now} (search rules) in
      let same = length-map c.args.point.now.fields.items field_view in
      let verdict = verdict_put_of c.args.lead now (own_replica k) p (length c.args.point.now.fields.items)
      c.write.result
      same (record { is_ahead = rw back at c.write.ensures.ahead; lacks = rw back at c.write.ensures.spent })
      (λ e. cc) (λ e. cc) in
      let Is : Verdict → Type 0 = λ v. (new ≡ keeper_with k v) × IsAnswer v (says.Put c.in-Ok.count) in (
        now,
        c.now-now.ensures.given,
        subst Is (sym verdict)
            (rw back at c.in-Ok.ensures.put, c.in-Ok.ensures.count ∙ sym same),
      );
  count_fits = omega (
    arith,
    c.in-Ok.ensures.count,
    length-map c.args.point.now.fields.items field_view,
    c.requires.few,
  );
}

pub returns-in-Err-Memory-clause-taken : goal.returns-in-Err-Memory-clause-taken
returns-in-Err-Memory-clause-taken g c = record {
  taken =
      let p = point_view c.args.point.now in
      let k = c.args.keeper.now in
      let now = c.now-now.result in
      let new = c.write.new.self in
      let back = to_z-of_z {w = w64} {z = now} (search rules) in
      let put = c.in-Err-Memory.field-0-0 in
      let is : c.write.result ≡ Err (why.Memory put) = cc in
      let same = length-map c.args.point.now.fields.items field_view in
      let verdict = verdict_put_of c.args.lead now (own_replica k) p (length c.args.point.now.fields.items)
      c.write.result
      same (record { is_ahead = rw back at c.write.ensures.ahead; lacks = rw back at c.write.ensures.spent })
      (λ e. cc) (λ e. cc) in
      let Is : Verdict → Type 0 = λ v. (count : ℕ) × (new ≡ keeper_with_some k v count) in
      (now, c.now-now.ensures.given, subst Is (sym verdict) (put, rw (back, is) at c.write.ensures.refused));
  count_fits = search rules;
}

pub returns-in-Err-NumbersSpent-clause-taken : goal.returns-in-Err-NumbersSpent-clause-taken
returns-in-Err-NumbersSpent-clause-taken g c = record {
  taken =
      let p = point_view c.args.point.now in
      let k = c.args.keeper.now in
      let now = c.now-now.result in
      let new = c.write.new.self in
      let back = to_z-of_z {w = w64} {z = now} (search rules) in
      let is : c.write.result ≡ Err why.NumbersSpent = cc in
      let same = length-map c.args.point.now.fields.items field_view in
      let verdict = verdict_spent_of c.args.lead now (own_replica k) p (length c.args.point.now.fields.items)
      c.write.result same (record {
        is_ahead = rw back at c.write.ensures.ahead;
        lacks =
            rw back at c.write.ensures.spent;
      }) is in
      (now, c.now-now.ensures.given, rw verdict (rw (back, is) at c.write.ensures.refused, refl));
  count_fits = search rules;
}
