use Rattle.std.proofs.Common.{◌≡◌, ◌-◌, ◌^◌, ◌<◌, ◌++◌}
use Rattle.rr_codec.specs.Numbers.{number_text_within, number_text}
use Rattle.rr_codec.proofs.number.push_bytes.Given as goal

abbrev pub invariant-loop : goal.invariant-loop
invariant-loop l = record {
  added : l.bytes.items ++ number_text_within (20 - l.counter) l.rest ≡ l.fn.bytes.items ++ number_text l.number;
  below : l.rest < 128 ^ (20 - l.counter);
}
