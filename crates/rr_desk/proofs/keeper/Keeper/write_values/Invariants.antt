use Rattle.std.proofs.Common.{◌≡◌, map, take}
use Rattle.rr_desk.specs.Points.{keyed_value, with_samples}
use Rattle.rr_desk.proofs.keeper.Keeper.write_values.Given as goal

-- the values so far are put
abbrev pub invariant-loop-value : goal.invariant-loop-value
invariant-loop-value g l = record {
  counted : l.put ≡ l.value-index;
  put : l.self ≡ with_samples l.initial.self l.time (map keyed_value (take l.value-index l.values));
}
