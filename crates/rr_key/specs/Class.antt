-- The bytes that are special in a name.
use Rattle.std.specs.Prelude.{ℕ, Bool}
use Rattle.memchr.specs.Find.{is_byte2, is_byte3}
use Rattle.rr_key.specs.declared.class.Class.{Class}
use Rattle.rr_key.specs.declared.class.Class.TheVariants.{Measurement, Other}
use Rattle.rr_text.specs.declared.bytes.TheConstants.{COMMA, SPACE, EQUALS}

-- the bytes that end a name of the class unless a backslash takes them
abbrev pub is_special : Class → ℕ → Bool
is_special Measurement byte = is_byte2 COMMA SPACE byte
is_special Other byte = is_byte3 COMMA SPACE EQUALS byte
