-- Steps from expected numbers to others, and eleven of them as bytes.
use Rattle.std.specs.Prelude.{ℕ, ◌+◌, ◌-◌, ◌*◌, ◌/◌, ◌%◌, ◌^◌, ◌==◌, nat_le, nat_lt, List, [], ◌++◌, Result, Ok, if◌then◌else◌}
use Rattle.rr_text.specs.Results.{◌>>=◌, unless}
use Rattle.rr_codec.specs.declared.fault.CodecFault.{CodecFault}
use Rattle.rr_codec.specs.declared.fault.CodecFault.TheVariants.{BadNumber}
use Rattle.rr_codec.specs.declared.steps.Steps.{Steps}
use Rattle.rr_codec.specs.Numbers.{number_text, number_at}

-- ---- one step, among the numbers of 128 bits, the greatest of which is followed by 0

-- a difference, with those just below 0 small too: 0, up 1 as 2, down 1 as 1, and so on, as Protocol Buffers write
-- signed numbers
abbrev pub zigzag : ℕ → ℕ
zigzag difference =
    if nat_lt difference (2 ^ 127) then 2 * difference else 2 * (2 ^ 128 - 1 - difference) + 1

abbrev pub unzigzag : ℕ → ℕ
unzigzag step = if step % 2 == 0 then step / 2 else 2 ^ 128 - 1 - step / 2

-- the step from an expected number to another
unfoldable pub step_to : ℕ → ℕ → ℕ
step_to expected number = zigzag ((number + (2 ^ 128 - expected)) % 2 ^ 128)

-- the number that a step leads to
unfoldable pub step_from : ℕ → ℕ → ℕ
step_from expected step = (expected + unzigzag step) % 2 ^ 128

-- ---- eleven steps: flags that say which of them aren't 0, and then these

-- a flag in front of others
abbrev pub flagged : ℕ → ℕ → ℕ
flagged step others = (if step == 0 then 0 else 1) + 2 * others

abbrev pub flags_of : Steps → ℕ
flags_of s =
    let f = s.fields in
    flagged f.last_value (flagged f.version (flagged f.last_time (flagged f.min (flagged f.max (flagged f.sum
    (flagged f.count (flagged f.mask (flagged f.slot (flagged s.place (flagged f.origin 0))))))))))

-- a step, if it isn't 0
abbrev pub step_text : ℕ → List ℕ
step_text step = if step == 0 then [] else number_text step

unfoldable pub steps_text : Steps → List ℕ
steps_text s =
    number_text (flags_of s)
    ++ (step_text s.fields.last_value
    ++ (step_text s.fields.version
    ++ (step_text s.fields.last_time
    ++ (step_text s.fields.min
    ++ (step_text s.fields.max
    ++ (step_text s.fields.sum
    ++ (step_text s.fields.count
    ++ (step_text s.fields.mask
    ++ (step_text s.fields.slot
    ++ (step_text s.place
    ++ step_text s.fields.origin))))))))))

-- a number that isn't 0
abbrev pub some_number : ℕ × List ℕ → Result (ℕ × List ℕ) CodecFault
some_number x = unless BadNumber (x.0 == 0) (Ok x)

-- a step, by the first of these flags; the other flags; and what follows it
abbrev pub step_at : ℕ → List ℕ → Result (ℕ × ℕ × List ℕ) CodecFault
step_at flags bytes =
    if flags % 2 == 0 then Ok (0, flags / 2, bytes)
    else (number_at bytes >>= some_number >>= λ x. Ok (x.0, flags / 2, x.1))

-- flags of eleven steps, and what follows them
abbrev pub flags_at : List ℕ → Result (ℕ × List ℕ) CodecFault
flags_at bytes = number_at bytes >>= λ x. unless BadNumber (nat_le (2 ^ 11) x.0) (Ok x)

-- eleven steps, and what follows them
unfoldable pub steps_at : List ℕ → Result (Steps × List ℕ) CodecFault
steps_at bytes = do
  flags ← flags_at bytes
  last_value ← step_at flags.0 flags.1
  version ← step_at last_value.1 last_value.2
  last_time ← step_at version.1 version.2
  min ← step_at last_time.1 last_time.2
  max ← step_at min.1 min.2
  sum ← step_at max.1 max.2
  count ← step_at sum.1 sum.2
  mask ← step_at count.1 count.2
  slot ← step_at mask.1 mask.2
  place ← step_at slot.1 slot.2
  origin ← step_at place.1 place.2
  Ok (
    record {
      place = place.0;
      fields = record {
        slot = slot.0;
        origin = origin.0;
        version = version.0;
        count = count.0;
        sum = sum.0;
        min = min.0;
        max = max.0;
        last_time = last_time.0;
        last_value = last_value.0;
        mask = mask.0;
      };
    },
    origin.2,
  )
