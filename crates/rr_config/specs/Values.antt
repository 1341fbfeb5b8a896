-- What the values of a configuration's keys are read as.
use Rattle.std.specs.Prelude.{Bool, true, ℕ, ◌&&◌, nat_le, not, is_some, List, [], ◌∷◌, length, ℤ, pos, negsuc, Option, None, Some, Result, Ok, Err, ok_or}
use Rattle.toml.specs.Data.{Data, Items, no_items, item, as_bool, as_integer, as_str, as_array}
use Rattle.rr_text.specs.Results.{◌>>=◌, unless}
use Rattle.rr_text.specs.declared.limits.TheConstants.{MAX_IDLE, MAX_ORIGIN, MAX_READERS}
use Rattle.rr_line.specs.declared.precision.Precision.{Precision}
use Rattle.rr_line.specs.Precision.{precision_named}
use Rattle.rr_config.specs.declared.fault.ConfigFault.{ConfigFault}
use Rattle.rr_config.specs.declared.fault.ConfigFault.TheVariants.{MissingField, WrongKind, BadCount, BadPrecision}
use Rattle.rr_config.specs.Origins.{RangeView}

-- a key that must be there
abbrev pub needed : {A : Type 0} → (Data → Result A ConfigFault) → Option Data → Result A ConfigFault
needed read None = Err MissingField
needed read (Some value) = read value

-- a key that may be missing, and the default in its place
abbrev pub if_there : {A : Type 0} → A → (Data → Result A ConfigFault) → Option Data → Result A ConfigFault
if_there default read None = Ok default
if_there default read (Some value) = read value

-- a value that must be of a kind
abbrev pub of_kind : {A : Type 0} → Option A → Result A ConfigFault
of_kind None = Err WrongKind
of_kind (Some value) = Ok value

-- a text
abbrev pub text_of : Data → Result (List ℕ) ConfigFault
text_of value = of_kind (as_str value)

abbrev pub some_text_of : Data → Result (Option (List ℕ)) ConfigFault
some_text_of value = text_of value >>= λ text. Ok (Some text)

-- yes or no
abbrev pub flag_of : Data → Result Bool ConfigFault
flag_of value = of_kind (as_bool value)

-- a whole number that isn't negative
abbrev pub unsigned_of : ℤ → Result ℕ ConfigFault
unsigned_of (pos n) = Ok n
unsigned_of (negsuc n) = Err BadCount

abbrev pub count_of : Data → Result ℕ ConfigFault
count_of value = of_kind (as_integer value) >>= unsigned_of

abbrev pub some_count_of : Data → Result (Option ℕ) ConfigFault
some_count_of value = count_of value >>= λ n. Ok (Some n)

-- the texts of an array, one after the other
unfoldable pub texts_in : Items → Result (List (List ℕ)) ConfigFault
texts_in no_items = Ok []
texts_in (item value values) = do
  text ← text_of value
  others ← texts_in values
  Ok (text ∷ others)

abbrev pub texts_of : Data → Result (List (List ℕ)) ConfigFault
texts_of value = of_kind (as_array value) >>= texts_in

-- 1 to 16 texts
abbrev pub readers_of : Data → Result (List (List ℕ)) ConfigFault
readers_of value = do
  texts ← texts_of value
  unless BadCount (not (nat_le 1 (length texts) && nat_le (length texts) MAX_READERS)) (Ok texts)

-- the name of a precision
abbrev pub precision_of : Data → Result Precision ConfigFault
precision_of value = text_of value >>= λ name. ok_or (precision_named name) BadPrecision

-- a number of seconds from 1 to a day
abbrev pub seconds_of : Data → Result ℕ ConfigFault
seconds_of value = do
  seconds ← count_of value
  unless BadCount (not (nat_le 1 seconds && nat_le seconds MAX_IDLE)) (Ok seconds)

abbrev pub some_seconds_of : Data → Result (Option ℕ) ConfigFault
some_seconds_of value = seconds_of value >>= λ n. Ok (Some n)

-- a whole number from 1 to 65,535
abbrev pub origin_of : Data → Result ℕ ConfigFault
origin_of value = do
  number ← count_of value
  unless BadCount (not (nat_le 1 number && nat_le number MAX_ORIGIN)) (Ok number)

-- two origins, the first not above the second
abbrev pub range_between : Data → Data → Result RangeView ConfigFault
range_between least greatest = do
  first ← origin_of least
  last ← origin_of greatest
  unless BadCount (not (nat_le first last)) (Ok (record { first = first; last = last }))

-- the range of exactly two values
abbrev pub range_in : Items → Result RangeView ConfigFault
range_in (item least (item greatest no_items)) = range_between least greatest
range_in values = Err BadCount

-- whether each of these values is a whole number
abbrev pub are_whole : Items → Bool
are_whole no_items = true
are_whole (item value values) = is_some (as_integer value) && are_whole values

-- an array of whole numbers that are a range
abbrev pub range_of : Data → Result RangeView ConfigFault
range_of value = do
  values ← of_kind (as_array value)
  unless WrongKind (not (are_whole values)) (range_in values)
