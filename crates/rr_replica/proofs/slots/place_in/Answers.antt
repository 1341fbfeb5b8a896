-- Of one step nothing is left.
use Rattle.std.proofs.Common.{rules, ◌≡◌, ◌*◌, ℤ, pos, negsuc, ℕ, sym, ap, ◌∙◌, arith}
use Rattle.std.specs.Prelude.{unsigned_abs}
use Rattle.std.specs.Int.{int_div_euclid, int_rem_euclid}
use Rattle.rr_schema.specs.Schema.{archive_at}
use Rattle.rr_schema.proofs.PlaceLemmas.{rem_is_place}
use Rattle.rr_replica.proofs.slots.place_in.Goals as goal

rem_one : (q : ℤ) → unsigned_abs (int_rem_euclid q (pos 1)) ≡ 0
rem_one (pos a) = omega arith
rem_one (negsuc a) = omega arith

pub returns-then-archive-eq1 : goal.returns-then-archive-eq1
returns-then-archive-eq1 c = record {
  place =
      let s = c.args.schema.now in
      let one : (archive_at s c.args.archive).steps ≡ 1 = search rules in
      let q = int_div_euclid c.args.time (pos (s.step * 1_000_000_000)) in
      sym (rem_one q) ∙ ap (λ (n : ℕ). unsigned_abs (int_rem_euclid q (pos n))) (sym one)
      ∙ rem_is_place s c.args.archive c.args.time (omega (arith, one));
  within = search rules;
  fits = search rules;
}
