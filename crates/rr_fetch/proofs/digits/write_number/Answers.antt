use Rattle.std.proofs.Common.{ℕ, ◌≤◌, ◌^◌, length, arith, rules}
use Rattle.std.specs.Fmt.{decimal}
use Rattle.std.proofs.lemmas.Fmt.{length-decimal-le}
use Rattle.rr_fetch.proofs.digits.write_number.Goals as goal

few_digits : (n : ℕ) → n ≤ 2 ^ 63 → length (decimal n) ≤ 19
few_digits n small = length-decimal-le 19 n (omega arith) (omega arith) (omega arith)

pub write_digits-start-requires : goal.write_digits-start-requires
write_digits-start-requires c =
    (omega (arith, c.requires.room, few_digits c.unsigned_abs.result (omega arith)), search rules)

pub write_byte-requires-clause-room : goal.write_byte-requires-clause-room
write_byte-requires-clause-room c =
    omega (
      arith,
      c.requires.room,
      c.write_digits-start.ensures.start,
      few_digits c.unsigned_abs.result (omega arith),
    )

pub returns-then-number-lt0 : goal.returns-then-number-lt0
returns-then-number-lt0 c = record {
  start =
      omega (
        arith,
        c.write_byte.ensures.start,
        c.write_digits-start.ensures.start,
        few_digits c.unsigned_abs.result (omega arith),
      );
  before = search rules;
  written = search rules;
}

pub returns : goal.returns
returns c = record {
  start = omega (arith, c.write_digits-start.ensures.start, few_digits c.unsigned_abs.result (omega arith));
  before = search rules;
  written = search rules;
}
