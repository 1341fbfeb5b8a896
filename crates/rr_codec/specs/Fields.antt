-- The fields of a cell as numbers from 0 on, and the cell that has such fields.
use Rattle.std.specs.Prelude.{ℕ, ℤ, ◌^◌, ◌<◌, nat_le, not, FitsSigned, ◌==◌, Result, Ok}
use Rattle.std.specs.Int.{w64, w128, cast_signed, cast_unsigned}
use Rattle.rr_text.specs.Results.{◌>>=◌, unless}
use Rattle.rr_text.specs.Text.{fits_i64}
use Rattle.rr_archive.specs.declared.entry.Entry.{Entry}
use Rattle.rr_codec.specs.declared.fields.Fields.{Fields}
use Rattle.rr_codec.specs.declared.fault.CodecFault.{CodecFault}
use Rattle.rr_codec.specs.declared.fault.CodecFault.TheVariants.{BadNumber, BadOrigin}

-- a slot and an entry
abbrev pub SlotEntry : Type 0
SlotEntry = ℤ × Entry

-- its fields are of their types
pub record IsTyped (e : SlotEntry) : Type 0 where
  pub slot : FitsSigned w64 e.0
  pub some_origin : 0 < e.1.origin
  pub origin : e.1.origin < 2 ^ 16
  pub version : e.1.contribution.version < 2 ^ 64
  pub count : e.1.contribution.count < 2 ^ 64
  pub sum : FitsSigned w128 e.1.contribution.sum
  pub min : FitsSigned w64 e.1.contribution.min
  pub max : FitsSigned w64 e.1.contribution.max
  pub last_time : FitsSigned w64 e.1.contribution.last_time
  pub last_value : FitsSigned w64 e.1.contribution.last_value
  pub mask : e.1.contribution.mask < 2 ^ 128

-- a field with a sign is its two's complement of 128 bits
unfoldable pub fields_of : SlotEntry → Fields
fields_of e = record {
  slot = cast_unsigned w128 e.0;
  origin = e.1.origin;
  version = e.1.contribution.version;
  count = e.1.contribution.count;
  sum = cast_unsigned w128 e.1.contribution.sum;
  min = cast_unsigned w128 e.1.contribution.min;
  max = cast_unsigned w128 e.1.contribution.max;
  last_time = cast_unsigned w128 e.1.contribution.last_time;
  last_value = cast_unsigned w128 e.1.contribution.last_value;
  mask = e.1.contribution.mask;
}

-- a number below a bound
abbrev pub number_below : ℕ → ℕ → Result ℕ CodecFault
number_below bound n = unless BadNumber (nat_le bound n) (Ok n)

-- the signed number of 64 bits that a number of 128 bits stands for
abbrev pub signed_of : ℕ → Result ℤ CodecFault
signed_of n = unless BadNumber (not (fits_i64 (cast_signed w128 n))) (Ok (cast_signed w128 n))

-- an origin
abbrev pub origin_of : ℕ → Result ℕ CodecFault
origin_of n = number_below (2 ^ 16) n >>= λ origin. unless BadOrigin (origin == 0) (Ok origin)

-- the cell that these fields make, or the fault of the first one that is out of its range
unfoldable pub cell_of : Fields → Result SlotEntry CodecFault
cell_of f = do
  slot ← signed_of f.slot
  origin ← origin_of f.origin
  version ← number_below (2 ^ 64) f.version
  count ← number_below (2 ^ 64) f.count
  min ← signed_of f.min
  max ← signed_of f.max
  last_time ← signed_of f.last_time
  last_value ← signed_of f.last_value
  Ok (
    slot,
    record {
      origin = origin;
      contribution = record {
        version = version;
        count = count;
        sum = cast_signed w128 f.sum;
        min = min;
        max = max;
        last_time = last_time;
        last_value = last_value;
        mask = f.mask;
      };
    },
  )
