-- What the samples of one origin in one slot contribute together.
use Rattle.std.specs.Prelude.{ℕ, pos, ◌^◌, bit_or, List, [], ◌∷◌, map, length, Option, Some, None, unwrap_or}
use Rattle.std.specs.declared.cmp.Ordering.{Ordering}
use Rattle.std.specs.Option.{option_map}
use Rattle.std.specs.Ordering.{ordering_then, nat_cmp, int_cmp, flip_args}
use Rattle.rr_join.specs.Maps.{greatest}
use Rattle.rr_join.specs.Sums.{int_sum}
use Rattle.rr_contrib.specs.declared.contribution.Contribution.{Contribution}
use Rattle.rr_contrib.specs.Contributions.{SlotSample}

-- by time, and at one time by number; no two samples of an origin tie beyond that
abbrev pub sample_cmp : SlotSample → SlotSample → Ordering
sample_cmp a b =
    ordering_then (int_cmp a.time b.time)
    (ordering_then (nat_cmp a.number b.number)
    (ordering_then (nat_cmp a.place b.place)
    (int_cmp a.value b.value)))

-- the last sample, if there is one
abbrev pub last_of : List SlotSample → Option SlotSample
last_of xs = greatest sample_cmp xs

-- the mask that has a bit for each of these places
abbrev pub mask_of : List ℕ → ℕ
mask_of [] = 0
mask_of (p ∷ ps) = bit_or (2 ^ p) (mask_of ps)

-- what some samples come to, field by field
unfoldable pub summary : List SlotSample → Contribution
summary xs = record {
  version = unwrap_or (greatest nat_cmp (map (λ x. x.number) xs)) 0;
  count = length xs;
  sum = int_sum (map (λ x. x.value) xs);
  min = unwrap_or (greatest (flip_args int_cmp) (map (λ x. x.value) xs)) (pos 0);
  max = unwrap_or (greatest int_cmp (map (λ x. x.value) xs)) (pos 0);
  last_time = unwrap_or (option_map (λ x. x.time) (last_of xs)) (pos 0);
  last_value = unwrap_or (option_map (λ x. x.value) (last_of xs)) (pos 0);
  mask = mask_of (map (λ x. x.place) xs);
}

-- the contribution of some samples; there is none without a sample
abbrev pub contribution_of : List SlotSample → Option Contribution
contribution_of [] = None
contribution_of (x ∷ xs) = Some (summary (x ∷ xs))
