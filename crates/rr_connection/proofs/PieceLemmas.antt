-- What the search for the last line feed says.
use Rattle.std.proofs.Common.{◌≡◌, ℕ, suc, ◌<◌, min, Bool, false, true, ◌||◌, ◌==◌, eqb, List, [], ◌∷◌, get_or, length, take, None, refl, ap, ◌∙◌, subst, arith}
use Rattle.std.proofs.Math.Seq.{take-length}
use Rattle.std.proofs.lemmas.Bool.{false_from_ne_true}
use Rattle.memchr.specs.Find.{IsLastByte, is_byte}
use Rattle.rr_text.specs.declared.bytes.TheConstants.{LINE_FEED}
use Rattle.rr_text.specs.Bytes.{HasNoLineFeed}
use Rattle.rr_connection.specs.declared.lines.TheConstants.{PIECE}
use Rattle.rr_connection.specs.Pieces.{IsNextLen}

none_there : (text : List ℕ) → ((k : ℕ) → k < length text → eqb (get_or text k 0) LINE_FEED ≡ true → ⊥) → HasNoLineFeed text
none_there [] none = refl
none_there (byte ∷ text) none =
    let other : eqb byte LINE_FEED ≡ false = false_from_ne_true _ (none 0 (omega arith)) in
    rw other (none_there text (λ k lt. none (suc k) (omega arith)))

-- where it finds none, there is none
pub none_found : (text : List ℕ) → IsLastByte (is_byte LINE_FEED) text None → HasNoLineFeed text
none_found text none = none_there text (λ k lt here. none k (omega arith) lt here)

-- where there is none in as many bytes as a piece may have, and these are no piece
pub starved : (unread : List ℕ) (ended : Bool) (len : ℕ) → len ≡ min (length unread) PIECE → HasNoLineFeed (take len unread)
    → (ended || len == PIECE) ≡ false → IsNextLen unread ended None
starved unread true len is none short = cc
starved unread false len is none short =
    let less : length unread < PIECE = grind arith in
    let all : take len unread ≡ unread = ap (λ n. take n unread) (is ∙ omega arith) ∙ take-length unread in
    (subst HasNoLineFeed all none, less, refl)
