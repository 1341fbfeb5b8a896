-- Texts that are written at the end of a buffer, from their last byte on.
use Rattle.std.specs.Prelude.{◌≡◌, ◌≤◌, ◌+◌, ℕ, List, ◌++◌, length, drop}
use Rattle.rr_fetch.specs.declared.digits.TheConstants.{MAX_NUMBER_TEXT}

-- there is room for a number before the bytes from `end` on
pub record HasNumberRoom (end : ℕ) (buffer : List ℕ) : Type 0 where
  pub room : MAX_NUMBER_TEXT ≤ end
  pub within : end ≤ length buffer

-- a text was written from `at` on, just before the bytes from `end` on, with no more bytes than a number may have
pub record WritesBefore (end : ℕ) (text old new : List ℕ) (at : ℕ) : Type 0 where
  pub start : end ≤ at + MAX_NUMBER_TEXT
  pub before : at ≤ end
  pub written : drop at new ≡ text ++ drop end old
