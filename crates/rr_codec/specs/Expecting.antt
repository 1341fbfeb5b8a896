-- The fields that a cell is expected to have, from the last cell of its origin and those of its fields that are known:
-- the next slot; the version as far on as before; the time at the same moment of its row; the last value again; the
-- extremes as far from it; the sum of values halfway between these; and the other fields again. All are numbers of 128
-- bits, the greatest of which is followed by 0.
use Rattle.std.specs.Prelude.{ℕ, ◌+◌, ◌-◌, ◌*◌, ◌/◌, ◌%◌, ◌^◌}
use Rattle.rr_codec.specs.declared.fields.Fields.{Fields}
use Rattle.rr_codec.specs.declared.expecting.Before.{Before}
use Rattle.rr_codec.specs.Steps.{step_to, step_from}

-- how far one number is after another
abbrev pub apart : ℕ → ℕ → ℕ
apart later earlier = (later + (2 ^ 128 - earlier)) % 2 ^ 128

abbrev pub plus : ℕ → ℕ → ℕ
plus a b = (a + b) % 2 ^ 128

abbrev pub times : ℕ → ℕ → ℕ
times a b = (a * b) % 2 ^ 128

-- before the first cell of an origin
abbrev pub start : Before
start = record {
  cell = record {
    slot = 0;
    origin = 0;
    version = 0;
    count = 1;
    sum = 0;
    min = 0;
    max = 0;
    last_time = 0;
    last_value = 0;
    mask = 1;
  };
  stride = 0;
}

unfoldable pub expected_version : Before → ℕ
expected_version b = plus b.cell.version b.stride

-- in rows of `span` nanoseconds
unfoldable pub expected_time : ℕ → Before → ℕ → ℕ
expected_time span b slot = plus b.cell.last_time (times (apart slot b.cell.slot) span)

unfoldable pub expected_min : Before → ℕ → ℕ
expected_min b last_value = plus last_value (apart b.cell.min b.cell.last_value)

unfoldable pub expected_max : Before → ℕ → ℕ
expected_max b last_value = plus last_value (apart b.cell.max b.cell.last_value)

unfoldable pub expected_sum : ℕ → ℕ → ℕ → ℕ
expected_sum count min max = plus (times count min) (times count (apart max min) / 2)

-- the steps from the expected fields to those of a cell
unfoldable pub steps_to : ℕ → Before → Fields → Fields
steps_to span b cell = record {
  slot = step_to (plus b.cell.slot 1) cell.slot;
  origin = step_to b.cell.origin cell.origin;
  version = step_to (expected_version b) cell.version;
  count = step_to b.cell.count cell.count;
  sum = step_to (expected_sum cell.count cell.min cell.max) cell.sum;
  min = step_to (expected_min b cell.last_value) cell.min;
  max = step_to (expected_max b cell.last_value) cell.max;
  last_time = step_to (expected_time span b cell.slot) cell.last_time;
  last_value = step_to b.cell.last_value cell.last_value;
  mask = step_to b.cell.mask cell.mask;
}

-- the fields that steps lead to
unfoldable pub fields_from : ℕ → Before → Fields → Fields
fields_from span b steps =
    let slot = step_from (plus b.cell.slot 1) steps.slot in
    let count = step_from b.cell.count steps.count in
    let last_value = step_from b.cell.last_value steps.last_value in
    let min = step_from (expected_min b last_value) steps.min in
    let max = step_from (expected_max b last_value) steps.max in
    record {
      slot = slot;
      origin = step_from b.cell.origin steps.origin;
      version = step_from (expected_version b) steps.version;
      count = count;
      sum = step_from (expected_sum count min max) steps.sum;
      min = min;
      max = max;
      last_time = step_from (expected_time span b slot) steps.last_time;
      last_value = last_value;
      mask = step_from b.cell.mask steps.mask;
    }

-- what is known before the next cell of the origin
unfoldable pub after : Before → Fields → Before
after b cell = record { cell = cell; stride = apart cell.version b.cell.version }
