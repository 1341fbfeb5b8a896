-- Contributions: their order, and how one grows by a sample.
use Rattle.std.specs.Prelude.{ℕ, ℤ, ◌<◌, ◌≤◌, ◌+◌, ◌+ℤ◌, ◌^◌, int_lt, bit_or, Option, Some, None, if◌then◌else◌}
use Rattle.std.specs.Int.{int_min, int_max}
use Rattle.std.specs.declared.cmp.Ordering.{Ordering}
use Rattle.std.specs.Ordering.{ordering_then, nat_cmp, int_cmp}
use Rattle.rr_text.specs.declared.limits.TheConstants.{MAX_NUMBER, MAX_STEPS}
use Rattle.rr_contrib.specs.declared.contribution.Contribution.{Contribution}

-- one sample, as its slot sees it: its number, its place in the slot, its time in nanoseconds and its value
pub record SlotSample : Type 0 where
  pub number : ℕ
  pub place : ℕ
  pub time : ℤ
  pub value : ℤ

abbrev pub slot_sample : ℕ → ℕ → ℤ → ℤ → SlotSample
slot_sample number place time value = record { number = number; place = place; time = time; value = value }

-- the number and the place of a sample, within their limits
pub record IsNumbered (number place : ℕ) : Type 0 where
  pub some_number : 1 ≤ number
  pub known_number : number ≤ MAX_NUMBER
  pub fits : place < MAX_STEPS

-- by the fields, in their order
abbrev pub contribution_cmp : Contribution → Contribution → Ordering
contribution_cmp a b =
    ordering_then (nat_cmp a.version b.version)
    (ordering_then (nat_cmp a.count b.count)
    (ordering_then (int_cmp a.sum b.sum)
    (ordering_then (int_cmp a.min b.min)
    (ordering_then (int_cmp a.max b.max)
    (ordering_then (int_cmp a.last_time b.last_time)
    (ordering_then (int_cmp a.last_value b.last_value)
    (nat_cmp a.mask b.mask)))))))

-- the contribution of a sample alone
abbrev pub of_one : SlotSample → Contribution
of_one x = record {
  version = x.number;
  count = 1;
  sum = x.value;
  min = x.value;
  max = x.value;
  last_time = x.time;
  last_value = x.value;
  mask = 2 ^ x.place;
}

-- the contribution with one more sample, which is newer than all that it has
abbrev pub with_sample : Contribution → SlotSample → Contribution
with_sample c x = record {
  version = x.number;
  count = c.count + 1;
  sum = c.sum +ℤ x.value;
  min = int_min c.min x.value;
  max = int_max c.max x.value;
  last_time = int_max c.last_time x.time;
  last_value = if int_lt x.time c.last_time then c.last_value else x.value;
  mask = bit_or c.mask (2 ^ x.place);
}

-- the contribution of a cell with one more sample; an empty cell had none before
abbrev pub contribution_with : Option Contribution → SlotSample → Contribution
contribution_with None x = of_one x
contribution_with (Some c) x = with_sample c x
