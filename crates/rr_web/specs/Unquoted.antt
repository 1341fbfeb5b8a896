-- A quoted JSON text that is read back (RFC 8259, section 7): characters, and the escapes of a quote, a backslash and
-- codes below 256.
use Rattle.std.specs.Prelude.{◌≡◌, ℕ, zero, suc, ◌+◌, ◌-◌, ◌*◌, nat_lt, ◌||◌, ◌==◌, List, [], ◌∷◌, ◌++◌, codes, length, take, drop, Option, None, Some, unwrap_or, if◌then◌else◌}
use Rattle.std.specs.Option.{option_map}
use Rattle.std.specs.Str.{bytes_eq}
use Rattle.std.specs.Str.Lossy.{utf8_lossy}
use Rattle.rr_text.specs.declared.bytes.TheConstants.{BACKSLASH}
use Rattle.rr_web.specs.Json.{double_quote, quoted}

-- the value of a hexadecimal digit; letters are lower-case
abbrev pub hex_value : ℕ → ℕ
hex_value digit = if nat_lt digit 58 then digit - 48 else digit - 87

-- the code of two digits, and what follows it
abbrev pub code_at : List ℕ → Option (ℕ × List ℕ)
code_at [] = None
code_at (high ∷ []) = None
code_at (high ∷ low ∷ text) = Some (16 * hex_value high + hex_value low, text)

-- what is escaped after a backslash: the byte there, or the code after `u00`
abbrev pub escape_at : List ℕ → Option (ℕ × List ℕ)
escape_at [] = None
escape_at (byte ∷ text) =
    if byte == double_quote || byte == BACKSLASH then Some (byte, text)
    else (if bytes_eq (take 3 (byte ∷ text)) (codes "u00") then code_at (drop 2 text) else None)

-- a byte of the text in quotes; none at the quote that ends it
abbrev pub byte_at : List ℕ → Option (ℕ × List ℕ)
byte_at [] = None
byte_at (byte ∷ text) =
    if byte == double_quote then None else (if byte == BACKSLASH then escape_at text else Some (byte, text))

-- at most `most` bytes of it, and what follows them
abbrev pub unquoted_within : ℕ → List ℕ → List ℕ × List ℕ
unquoted_within zero text = ([], text)
unquoted_within (suc most) text =
    unwrap_or (option_map (λ x. (x.0 ∷ (unquoted_within most x.1).0, (unquoted_within most x.1).1)) (byte_at text))
    ([], text)

-- all of it, and the quote that ends it with what follows that
abbrev pub unquoted : List ℕ → List ℕ × List ℕ
unquoted text = unquoted_within (length text) text

-- a text in quotes is read, after its first quote and whatever follows it, as its bytes, with U+FFFD for what isn't
-- UTF-8 in them
abbrev pub QuotedIsRead : Type 0
QuotedIsRead =
    (bytes rest : List ℕ) → unquoted (drop 1 (quoted bytes) ++ rest) ≡ (utf8_lossy bytes, double_quote ∷ rest)
