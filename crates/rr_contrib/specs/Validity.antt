-- Which contributions a cell of an archive can hold in a slot.
use Rattle.std.specs.Prelude.{◌≡◌, ◌↔◌, ◌==◌, ℕ, ℤ, pos, ◌*ℤ◌, ◌≤ℤ◌, ◌^◌, ◌<◌, ◌≤◌, nat_le, nat_lt, int_le, Bool, ◌&&◌, IsTrue, length, count_ones}
use Rattle.std.specs.Int.{bit_at}
use Rattle.std.specs.Ordering.{int_eq}
use Rattle.rr_text.specs.declared.limits.TheConstants.{MAX_NUMBER}
use Rattle.rr_schema.specs.Schema.{Layout, IsLayout, archive_at, slot_of, place_of}
use Rattle.rr_contrib.specs.declared.contribution.Contribution.{Contribution}
use Rattle.rr_contrib.specs.Contributions.{SlotSample}

-- the version bounds the count, and the extremes bound the last value and the sum
pub record IsBounded (c : Contribution) : Type 0 where
  pub some : 1 ≤ c.count
  pub counted : c.count ≤ c.version
  pub numbered : c.version ≤ MAX_NUMBER
  pub least : c.min ≤ℤ c.last_value
  pub most : c.last_value ≤ℤ c.max
  pub low : (pos c.count *ℤ c.min) ≤ℤ c.sum
  pub high : c.sum ≤ℤ (pos c.count *ℤ c.max)

-- a contribution to which a sample with this number can be added: the number is greater than its version, it has no
-- more samples than its version, and its sum is within its bounds
pub record CanAdd (number : ℕ) (c : Contribution) : Type 0 where
  pub newer : c.version < number
  pub counted : c.count ≤ c.version
  pub low : (pos c.count *ℤ c.min) ≤ℤ c.sum
  pub high : c.sum ≤ℤ (pos c.count *ℤ c.max)

-- a bounded contribution whose last time lies in the slot, and whose mask has only places of the slot, that of the last
-- time among them, and no more than there are samples
pub record IsValid (s : Layout) (archive : ℕ) (slot : ℤ) (c : Contribution) : Type 0 where
  pub bounded : IsBounded c
  pub open bounded use *
  pub in_slot : slot_of s archive c.last_time ≡ slot
  pub in_steps : c.mask < 2 ^ (archive_at s archive).steps
  pub has_last : bit_at c.mask (place_of s archive c.last_time) ≡ 1
  pub few : count_ones c.mask ≤ c.count

-- whether a contribution is valid
unfoldable pub is_valid : Layout → ℕ → ℤ → Contribution → Bool
is_valid s archive slot c =
    nat_le 1 c.count
    && (nat_le c.count c.version
    && (nat_le c.version MAX_NUMBER
    && (int_le c.min c.last_value
    && (int_le c.last_value c.max
    && (int_le (pos c.count *ℤ c.min) c.sum
    && (int_le c.sum (pos c.count *ℤ c.max)
    && (int_eq (slot_of s archive c.last_time) slot
    && (nat_lt c.mask (2 ^ (archive_at s archive).steps)
    && ((bit_at c.mask (place_of s archive c.last_time) == 1)
    && nat_le (count_ones c.mask) c.count)))))))))

-- the test says whether the contribution is valid
abbrev pub ValidityIsTested : Type 0
ValidityIsTested = (s : Layout) (archive : ℕ) (slot : ℤ) (c : Contribution)
    → IsTrue (is_valid s archive slot c) ↔ IsValid s archive slot c

-- in each archive where the sample has this place, its contribution is valid in its slot
abbrev pub StartsValid : SlotSample → Contribution → Type 0
StartsValid x new =
    (s : Layout) (archive : ℕ) → IsLayout s → archive < length s.archives → x.place ≡ place_of s archive x.time
    → IsValid s archive (slot_of s archive x.time) new

-- and there it keeps a contribution to its slot valid
abbrev pub KeepsValid : SlotSample → Contribution → Contribution → Type 0
KeepsValid x old new =
    (s : Layout) (archive : ℕ) → IsLayout s → archive < length s.archives → x.place ≡ place_of s archive x.time
    → IsValid s archive (slot_of s archive x.time) old
    → IsValid s archive (slot_of s archive x.time) new
