use Rattle.std.proofs.Common.{◌≡◌, ◌*◌, ◌<◌, pos, ◌∙◌, rules}
use Rattle.std.specs.Prelude.{unsigned_abs}
use Rattle.std.specs.Int.{int_div_euclid, int_rem_euclid}
use Rattle.rr_schema.specs.Schema.{archive_at}
use Rattle.rr_schema.proofs.PlaceLemmas.{rem_is_place}
use Rattle.rr_schema.proofs.schema.Schema.place.Goals as goal

pub returns : goal.returns
returns c = record {
  place =
      let s = c.args.self.now in
      let steps = (archive_at s c.args.archive).steps in
      let some : 0 < steps = search rules in
      let left : c.left_over.result ≡ unsigned_abs (int_rem_euclid
      (int_div_euclid c.args.time (pos (s.step * 1_000_000_000))) (pos steps)) = search rules in
      left ∙ rem_is_place s c.args.archive c.args.time some;
  within = search rules;
  fits = search rules;
}
