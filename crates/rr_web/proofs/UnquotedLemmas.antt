-- A text that was put in quotes is read again, whatever follows it.
use Rattle.std.proofs.Common.{◌≡◌, ℕ, zero, suc, ◌+◌, ◌*◌, ◌/◌, ◌%◌, ◌<◌, ◌≤◌, true, false, eqb, List, [], ◌∷◌, ◌++◌, length, Some, inl, inr, refl, ap, arith}
use Rattle.std.specs.Prelude.{nat_lt, ◌||◌}
use Rattle.std.specs.Char.{digit_char}
use Rattle.std.specs.List.{flat_map}
use Rattle.std.specs.Str.Lossy.{utf8_lossy}
use Rattle.std.proofs.lemmas.List.{append_assoc, length-append}
use Rattle.std.proofs.lemmas.Bool.{cases_lt, cases_Bool, or_parts, lt-ltb, le-ltb}
use Rattle.std.proofs.lemmas.Bool.Decides.{nat_tests}
use Rattle.rr_text.specs.declared.bytes.TheConstants.{BACKSLASH}
use Rattle.rr_web.specs.Json.{double_quote, escaped}
use Rattle.rr_web.specs.Unquoted.{hex_value, escape_at, byte_at, unquoted_within, QuotedIsRead}

digit_again : (d : ℕ) → d < 16 → hex_value (digit_char d) ≡ d
digit_again d lt =
    elim (cases_lt d 10) [
      | inl small ↦
          let e : nat_lt d 10 ≡ true = lt-ltb _ _ small in
          let f : nat_lt (48 + d) 58 ≡ true = lt-ltb _ _ (omega arith) in
          rw (e, f) (omega arith)
      | inr large ↦
          let e : nat_lt d 10 ≡ false = le-ltb _ _ large in
          let f : nat_lt (87 + d) 58 ≡ false = le-ltb _ _ (omega arith) in
          rw (e, f) (omega arith)
    ]

-- a byte behind a backslash
behind_slash : (byte : ℕ) (rest : List ℕ) → (eqb byte double_quote || eqb byte BACKSLASH) ≡ true
    → escape_at (byte ∷ rest) ≡ Some (byte, rest)
behind_slash byte rest is = rw is refl

-- one of itself
itself : (byte : ℕ) (rest : List ℕ) → eqb byte double_quote ≡ false → eqb byte BACKSLASH ≡ false
    → byte_at (byte ∷ rest) ≡ Some (byte, rest)
itself byte rest quote slash = rw (quote, slash) refl

-- one that isn't below a space
printed : (byte : ℕ) (rest : List ℕ) → 32 ≤ byte → byte_at (escaped byte ++ rest) ≡ Some (byte, rest)
printed byte rest large =
    elim (cases_Bool (eqb byte double_quote || eqb byte BACKSLASH)) [
      | inl is ↦ rw is (behind_slash byte rest is)
      | inr is ↦
          let both = or_parts _ _ is in
          rw (is, le-ltb _ _ large) (itself byte rest both.0 both.1)
    ]

some_bytes : (byte : ℕ) → 0 < length (escaped byte)
some_bytes byte =
    elim (cases_Bool (eqb byte double_quote || eqb byte BACKSLASH)) [
      | inl escapes ↦ rw escapes (omega arith)
      | inr escapes ↦
          elim (cases_Bool (nat_lt byte 32)) [
            | inl control ↦ rw (escapes, control) (omega arith)
            | inr control ↦ rw (escapes, control) (omega arith)
          ]
    ]

-- a byte that is escaped, or isn't, is read again
byte_again : (byte : ℕ) (rest : List ℕ) → byte_at (escaped byte ++ rest) ≡ Some (byte, rest)
byte_again byte rest =
    elim (cases_lt byte 32) [
      | inl small ↦
          let quote : eqb byte double_quote ≡ false = grind (arith, nat_tests) in
          let slash : eqb byte BACKSLASH ≡ false = grind (arith, nat_tests) in
          let control : nat_lt byte 32 ≡ true = lt-ltb _ _ small in
          let high = digit_again (byte / 16) (omega arith) in
          let low = digit_again (byte % 16) (omega arith) in
          let whole : 16 * (byte / 16) + byte % 16 ≡ byte = omega arith in
          rw (quote, slash, control) (rw (high, low) (ap (λ (b : ℕ). Some (b, rest)) whole))
      | inr large ↦ printed byte rest large
    ]

-- the bytes of some text and of its escapes
escapes_are_more : (text : List ℕ) → length text ≤ length (flat_map escaped text)
escapes_are_more [] = omega arith
escapes_are_more (byte ∷ text) =
    let more = escapes_are_more text in
    let some : 0 < length (escaped byte) = some_bytes byte in
    let both = length-append (escaped byte) (flat_map escaped text) in
    omega (arith, more, some, both)

inside_again : (text rest : List ℕ) (most : ℕ) → length text ≤ most
    → unquoted_within most (flat_map escaped text ++ double_quote ∷ rest) ≡ (text, double_quote ∷ rest)
inside_again [] rest zero fits = refl
inside_again [] rest (suc most) fits = refl
inside_again (byte ∷ text) rest zero fits = absurd (omega arith)
inside_again (byte ∷ text) rest (suc most) fits =
    let again = inside_again text rest most (omega arith) in
    let first = byte_again byte (flat_map escaped text ++ double_quote ∷ rest) in
    rw (append_assoc (escaped byte) (flat_map escaped text) (double_quote ∷ rest)) (rw first (rw again refl))

pub quoted_again : QuotedIsRead
quoted_again bytes rest =
    let text = flat_map escaped (utf8_lossy bytes) in
    let more = escapes_are_more (utf8_lossy bytes) in
    let size = length-append text (double_quote ∷ rest) in
    rw (append_assoc text (double_quote ∷ []) rest)
    (inside_again (utf8_lossy bytes) rest (length (text ++ double_quote ∷ rest)) (omega (arith, more, size)))
