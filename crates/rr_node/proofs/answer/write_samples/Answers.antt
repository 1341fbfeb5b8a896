-- What the keeper makes of the samples is what it makes of a point that has no others.
use Rattle.std.proofs.Common.{◌≡◌, Err, map, refl, sym, ◌∙◌, rules}
use Rattle.std.proofs.lemmas.List.{length-map}
use Rattle.std.proofs.Math.Facts.{to_z-of_z}
use Rattle.std.specs.Int.{w64}
use Rattle.rr_replica.specs.declared.fault.WriteFault.TheVariants as why
use Rattle.rr_desk.specs.Points.{keyed_value}
use Rattle.rr_node.proofs.KnownLemmas.{takes_put, takes_first, takes_spent, takes_ahead}
use Rattle.rr_node.proofs.answer.write_samples.Goals as goal

pub returns-in-Err-Memory-clause-taken : goal.returns-in-Err-Memory-clause-taken
returns-in-Err-Memory-clause-taken g c = record {
  taken = λ p are when.
      let now = c.now-now.result in
      let k = c.args.keeper.now in
      let back = to_z-of_z {w = w64} {z = now} (search rules) in
      let same = length-map c.args.values.now keyed_value in
      let put = c.in-Err-Memory.field-0-0 in
      let is : c.write_samples.result ≡ Err (why.Memory put) = cc in (
        now,
        c.now-now.ensures.given,
        takes_first p (map keyed_value c.args.values.now) are c.args.lead now k
            c.write_samples.new.self c.args.time when put _
            (record {
              is_ahead = rw (back, is) at c.write_samples.ensures.ahead;
              lacks =
                  rw (back, is, ← same) at c.write_samples.ensures.spent;
            }) (rw (back, is) at c.write_samples.ensures.refused),
      );
  count_fits = search rules;
}

pub returns-in-Ok-clause-taken : goal.returns-in-Ok-clause-taken
returns-in-Ok-clause-taken g c = record {
  taken = λ p are when.
      let now = c.now-now.result in
      let k = c.args.keeper.now in
      let back = to_z-of_z {w = w64} {z = now} (search rules) in
      let same = length-map c.args.values.now keyed_value in (
        now,
        c.now-now.ensures.given,
        takes_put p (map keyed_value c.args.values.now) are c.args.lead now k
            c.write_samples.new.self c.args.time when _ c.in-Ok.count (c.in-Ok.ensures.count ∙ sym same)
            (record {
              is_ahead = rw (back, c.in-Ok.is) at c.write_samples.ensures.ahead;
              lacks =
                  rw (back, c.in-Ok.is, ← same) at c.write_samples.ensures.spent;
            }) (rw back at c.in-Ok.ensures.put),
      );
  count_fits = search rules;
}

pub returns-in-Err-NumbersSpent-clause-taken : goal.returns-in-Err-NumbersSpent-clause-taken
returns-in-Err-NumbersSpent-clause-taken g c = record {
  taken = λ p are when.
      let now = c.now-now.result in
      let k = c.args.keeper.now in
      let back = to_z-of_z {w = w64} {z = now} (search rules) in
      let same = length-map c.args.values.now keyed_value in
      let is : c.write_samples.result ≡ Err why.NumbersSpent = cc in (
        now,
        c.now-now.ensures.given,
        takes_spent p (map keyed_value c.args.values.now) are c.args.lead now k
            c.write_samples.new.self c.args.time when _ refl
            (record {
              is_ahead = rw (back, is) at c.write_samples.ensures.ahead;
              lacks =
                  rw (back, is, ← same) at c.write_samples.ensures.spent;
            }) (rw (back, is) at c.write_samples.ensures.refused),
      );
  count_fits = search rules;
}

pub returns-in-Err-AheadOfClock-clause-taken : goal.returns-in-Err-AheadOfClock-clause-taken
returns-in-Err-AheadOfClock-clause-taken g c = record {
  taken = λ p are when.
      let now = c.now-now.result in
      let k = c.args.keeper.now in
      let back = to_z-of_z {w = w64} {z = now} (search rules) in
      let same = length-map c.args.values.now keyed_value in
      let is : c.write_samples.result ≡ Err why.AheadOfClock = cc in (
        now,
        c.now-now.ensures.given,
        takes_ahead p (map keyed_value c.args.values.now) are c.args.lead now k
            c.write_samples.new.self c.args.time when _ refl
            (record {
              is_ahead = rw (back, is) at c.write_samples.ensures.ahead;
              lacks =
                  rw (back, is, ← same) at c.write_samples.ensures.spent;
            }) (rw (back, is) at c.write_samples.ensures.refused),
      );
  count_fits = search rules;
}
