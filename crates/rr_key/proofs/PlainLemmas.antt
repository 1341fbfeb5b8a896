-- A name with nothing to escape is written as it is.
use Rattle.std.proofs.Common.{◌≡◌, ℕ, false, eqb, List, [], ◌∷◌, refl, ap}
use Rattle.std.specs.List.{list_any}
use Rattle.std.proofs.lemmas.Bool.{or_parts}
use Rattle.rr_key.specs.declared.class.Class.{Class}
use Rattle.rr_key.specs.Class.{is_special}
use Rattle.rr_key.specs.Unit.{escape, unescape}

pub escape_plain : (class : Class) (name : List ℕ) → list_any (is_special class) name ≡ false → escape class name ≡ name
escape_plain class [] e = refl
escape_plain class (byte ∷ name) e =
    let parts = or_parts (is_special class byte) (list_any (is_special class) name) e in
    rw parts.0 (ap (λ (rest : List ℕ). byte ∷ rest) (escape_plain class name parts.1))

pub unescape_plain : (class : Class) (raw : List ℕ) → list_any (λ byte. eqb byte 92) raw ≡ false
    → unescape class raw ≡ raw
unescape_plain class [] e = refl
unescape_plain class (byte ∷ []) e = refl
unescape_plain class (byte ∷ next ∷ rest) e =
    let parts = or_parts (eqb byte 92) (list_any (λ b. eqb b 92) (next ∷ rest)) e in
    rw parts.0 (ap (λ (name : List ℕ). byte ∷ name) (unescape_plain class (next ∷ rest) parts.1))
