-- Numbers as bytes, the highest byte first: what is written is read again, and what is read was written so.
use Rattle.std.proofs.Common.{◌≡◌, ℕ, ◌^◌, ◌<◌, Bool, true, false, ltb, List, length, take, drop, get_or, refl, sym, subst, arith}
use Rattle.std.specs.Int.{w16, w32, w64, from_be_bytes, to_be_bytes}
use Rattle.std.proofs.lemmas.Bool.{ltb-true, ltb-false}
use Rattle.std.proofs.lemmas.List.{get_or_past}
use Rattle.std.proofs.lemmas.List.Elements.{All-drop, All-take, All-get_or}
use Rattle.std.proofs.lemmas.Nat.{from_be_bytes-to_be_bytes_2, from_be_bytes-to_be_bytes_4, from_be_bytes-to_be_bytes_8, be_bytes_4}
use Rattle.rr_journal.specs.Laws.{AreBytes}

pub len32 : (n : ℕ) → length (to_be_bytes w32 n) ≡ 4
len32 n = refl

pub again16 : (n : ℕ) → n < 2 ^ 16 → from_be_bytes w16 (to_be_bytes w16 n) ≡ n
again16 n lt = from_be_bytes-to_be_bytes_2 n lt

pub again32 : (n : ℕ) → n < 2 ^ 32 → from_be_bytes w32 (to_be_bytes w32 n) ≡ n
again32 n lt = from_be_bytes-to_be_bytes_4 n lt

pub again64 : (n : ℕ) → n < 2 ^ 64 → from_be_bytes w64 (to_be_bytes w64 n) ≡ n
again64 n lt = from_be_bytes-to_be_bytes_8 n lt

byte_of : (bytes : List ℕ) → AreBytes bytes → (i : ℕ) → get_or bytes i 0 < 256
byte_of bytes h i = by_place (ltb i (length bytes)) refl
  where
    by_place : (b : Bool) → ltb i (length bytes) ≡ b → get_or bytes i 0 < 256
    by_place true t = All-get_or (λ b. b < 2 ^ 8) bytes i 0 (ltb-true _ _ t) h
    by_place false t = subst (λ (b : ℕ). b < 256) (sym (get_or_past bytes i 0 (ltb-false _ _ t))) (omega arith)

pub back32 : (bytes : List ℕ) → length bytes ≡ 4 → AreBytes bytes → to_be_bytes w32 (from_be_bytes w32 bytes) ≡ bytes
back32 bytes l h = be_bytes_4 bytes (from_be_bytes w32 bytes) l (byte_of bytes h) refl

pub AreBytes-drop : (n : ℕ) (bytes : List ℕ) → AreBytes bytes → AreBytes (drop n bytes)
AreBytes-drop n bytes h = All-drop (λ b. b < 2 ^ 8) n bytes h

pub AreBytes-take : (n : ℕ) (bytes : List ℕ) → AreBytes bytes → AreBytes (take n bytes)
AreBytes-take n bytes h = All-take (λ b. b < 2 ^ 8) n bytes h
