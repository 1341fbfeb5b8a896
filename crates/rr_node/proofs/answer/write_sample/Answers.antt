-- What the keeper makes of the sample is what it makes of a point that has no other.
use Rattle.std.proofs.Common.{◌≡◌, Err, [], ◌∷◌, refl, sym, ◌∙◌, rules}
use Rattle.std.proofs.Math.Facts.{to_z-of_z}
use Rattle.std.specs.Int.{w64}
use Rattle.rr_replica.specs.declared.fault.WriteFault.TheVariants as why
use Rattle.rr_desk.specs.KeeperState.{own_replica}
use Rattle.rr_node.specs.Lines.{verdict_of_point}
use Rattle.rr_node.proofs.KnownLemmas.{none_of, takes_put, takes_spent, takes_ahead}
use Rattle.rr_node.proofs.answer.write_sample.Goals as goal

pub returns-in-Err-Memory-clause-taken : goal.returns-in-Err-Memory-clause-taken
returns-in-Err-Memory-clause-taken g c = record {
  taken = λ p are when.
      let now = c.now-now.result in
      let k = c.args.keeper.now in
      let same : c.write_sample.new.self ≡ k = c.in-Err-Memory.ensures.state.unchanged in
      (now, c.now-now.ensures.given, (0, same ∙ sym (none_of k (verdict_of_point c.args.lead now (own_replica k) p))));
  count_fits = search rules;
}

pub returns-in-Ok-clause-taken : goal.returns-in-Ok-clause-taken
returns-in-Ok-clause-taken g c = record {
  taken = λ p are when.
      let now = c.now-now.result in
      let k = c.args.keeper.now in
      let back = to_z-of_z {w = w64} {z = now} (search rules) in
      let back_value = to_z-of_z {w = w64} {z = c.args.value} (search rules) in (
        now,
        c.now-now.ensures.given,
        takes_put p ((c.args.key, c.args.value) ∷ []) are c.args.lead now k c.write_sample.new.self
            c.args.time when _ 1 refl (record {
              is_ahead = rw (back, c.in-Ok.is) at c.write_sample.ensures.ahead;
              lacks =
                  rw (back, c.in-Ok.is) at c.write_sample.ensures.spent;
            }) (rw (back, back_value) at c.in-Ok.ensures.state.made),
      );
  count_fits = search rules;
}

pub returns-in-Err-NumbersSpent-clause-taken : goal.returns-in-Err-NumbersSpent-clause-taken
returns-in-Err-NumbersSpent-clause-taken g c = record {
  taken = λ p are when.
      let now = c.now-now.result in
      let k = c.args.keeper.now in
      let back = to_z-of_z {w = w64} {z = now} (search rules) in
      let spent : c.write_sample.result ≡ Err why.NumbersSpent = cc in (
        now,
        c.now-now.ensures.given,
        takes_spent p ((c.args.key, c.args.value) ∷ []) are c.args.lead now k
            c.write_sample.new.self c.args.time when _ refl
            (record {
              is_ahead = rw (back, spent) at c.write_sample.ensures.ahead;
              lacks =
                  rw (back, spent) at c.write_sample.ensures.spent;
            }) c.in-Err-NumbersSpent.ensures.state.unchanged,
      );
  count_fits = search rules;
}

pub returns-in-Err-AheadOfClock-clause-taken : goal.returns-in-Err-AheadOfClock-clause-taken
returns-in-Err-AheadOfClock-clause-taken g c = record {
  taken = λ p are when.
      let now = c.now-now.result in
      let k = c.args.keeper.now in
      let back = to_z-of_z {w = w64} {z = now} (search rules) in
      let early : c.write_sample.result ≡ Err why.AheadOfClock = cc in (
        now,
        c.now-now.ensures.given,
        takes_ahead p ((c.args.key, c.args.value) ∷ []) are c.args.lead now k
            c.write_sample.new.self c.args.time when _ refl
            (record {
              is_ahead = rw (back, early) at c.write_sample.ensures.ahead;
              lacks =
                  rw (back, early) at c.write_sample.ensures.spent;
            }) c.in-Err-AheadOfClock.ensures.state.unchanged,
      );
  count_fits = search rules;
}
