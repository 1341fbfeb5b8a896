-- Where the scan for a byte ends.
use Rattle.std.proofs.Common.{◌≡◌, ℕ, suc, ◌+◌, Bool, false, List, [], ◌∷◌, ◌++◌, length, take, drop, refl, inl, inr, arith}
use Rattle.std.proofs.lemmas.Bool.{cases_Bool, or_parts}
use Rattle.std.specs.List.{list_any, position_or_len}
use Rattle.rr_line.specs.Part.{Ends}

-- it ends after a part that has no such byte, where the part ends
pub part_scanned : (test : ℕ → Bool) (part rest : List ℕ) → list_any test part ≡ false → Ends test rest
    → position_or_len test (part ++ rest) ≡ length part
part_scanned test [] [] plain ended = refl
part_scanned test [] (byte ∷ rest) plain ended = rw ended refl
part_scanned test (byte ∷ part) rest plain ended =
    let parts = or_parts (test byte) (list_any test part) plain in
    rw (parts.0, part_scanned test part rest parts.1 ended) (omega arith)

-- what it passed has no such byte, and ends there
pub plain_scanned : (test : ℕ → Bool) (text : List ℕ) → list_any test (take (position_or_len test text) text) ≡ false
plain_scanned test [] = refl
plain_scanned test (byte ∷ text) =
    let n : 1 + position_or_len test text ≡ suc (position_or_len test text) = omega arith in
    elim (cases_Bool (test byte)) [
      | inl ends ↦ rw ends refl
      | inr plain ↦ rw (plain, n, plain) (plain_scanned test text)
    ]

pub ended_scanned : (test : ℕ → Bool) (text : List ℕ) → Ends test (drop (position_or_len test text) text)
ended_scanned test [] = tt
ended_scanned test (byte ∷ text) =
    let n : 1 + position_or_len test text ≡ suc (position_or_len test text) = omega arith in
    elim (cases_Bool (test byte)) [
      | inl ends ↦ rw (ends, ends) refl
      | inr plain ↦ rw (plain, n) (ended_scanned test text)
    ]
