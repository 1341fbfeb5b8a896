-- Numbers as bytes, the highest byte first: what is written is read again, and what is read was written so.
use Rattle.std.proofs.Common.{◌≡◌, ℕ, zero, suc, ◌+◌, ◌*◌, ◌/◌, ◌%◌, ◌^◌, ◌<◌, ◌≤◌, List, [], ◌∷◌, length, refl, sym, ap, ◌∙◌, arith}
use Rattle.std.specs.Int.{Width, w8, w16, w32, w64, w128, byte_len, byte_at, bytes_high_first, from_be_bytes, to_be_bytes}
use mir.Val.{bits}
use Rattle.std.proofs.Math.Nat as nat
use Rattle.std.proofs.Math.Arith.{mod-mul}
use Rattle.std.proofs.lemmas.List.Elements.{All-head, All-tail}
use Rattle.std.proofs.lemmas.Nat.{div-mul-add, mod-mul-add}
use Rattle.rr_page.specs.Laws.{AreBytes}

-- the number that bytes write
abbrev value : List ℕ → ℕ
value [] = 0
value (b ∷ bs) = b * 256 ^ length bs + value bs

byte_is : (k n : ℕ) → byte_at k n ≡ n / 256 ^ k % 256
byte_is zero n = omega arith
byte_is (suc k) n = refl

some : (k : ℕ) → 0 < 256 ^ k
some zero = omega arith
some (suc k) = let h = some k in omega (arith, nat.pow-suc 256 k)

high_len : (k n : ℕ) → length (bytes_high_first k n) ≡ k
high_len zero n = refl
high_len (suc k) n = ap suc (high_len k n)

tail : (b : ℕ) (bs : List ℕ) → AreBytes (b ∷ bs) → AreBytes bs
tail b bs h = All-tail (λ d. d < 2 ^ 8) b bs h

head : (b : ℕ) (bs : List ℕ) → AreBytes (b ∷ bs) → b < 256
head b bs h = All-head (λ d. d < 2 ^ 8) b bs h

below : (bs : List ℕ) → AreBytes bs → value bs < 256 ^ length bs
below [] h = omega arith
below (b ∷ bs) h =
    let rest = below bs (tail b bs h) in
    let one : b ≤ 255 = omega (arith, head b bs h) in
    let most : b * 256 ^ length bs ≤ 255 * 256 ^ length bs = nat.mul-le-mul_right (256 ^ length bs) one in
    omega (arith, nat.pow-suc 256 (length bs))

again : (k n : ℕ) → value (bytes_high_first k n) ≡ n % 256 ^ k
again zero n = omega arith
again (suc k) n =
    let rest = again k n in
    let p = 256 ^ k in
    let whole : n % (256 * p) ≡ (n / p % 256) * p + n % p = mod-mul n (omega arith) (some k) in
    ap (λ l. byte_at k n * 256 ^ l + value (bytes_high_first k n)) (high_len k n)
    ∙ ap (λ b. b * p + value (bytes_high_first k n)) (byte_is k n)
    ∙ ap (λ r. (n / p % 256) * p + r) rest
    ∙ sym whole
    ∙ ap (λ q. n % q) (nat.mul_comm 256 p ∙ sym (nat.pow-suc 256 k))

at_prefix : (k high b low : ℕ) → b < 256 → low < 256 ^ k → byte_at k ((high * 256 + b) * 256 ^ k + low) ≡ b
at_prefix k high b low small fits =
    byte_is k ((high * 256 + b) * 256 ^ k + low)
    ∙ ap (λ m. m % 256) (div-mul-add (high * 256 + b) (256 ^ k) low fits)
    ∙ mod-mul-add high 256 b small

back : (bs : List ℕ) (high : ℕ) → AreBytes bs → bytes_high_first (length bs) (high * 256 ^ length bs + value bs) ≡ bs
back [] high h = refl
back (b ∷ bs) high h =
    let p = 256 ^ length bs in
    let rest = tail b bs h in
    let same : high * 256 ^ suc (length bs) + (b * p + value bs) ≡ (high * 256 + b) * p + value bs =
    ap (λ q. high * q + (b * p + value bs)) (nat.pow-suc 256 (length bs) ∙ nat.mul_comm p 256)
    ∙ ap (λ q. q + (b * p + value bs)) (sym (nat.mul_assoc high 256 p))
    ∙ sym (nat.add_assoc (high * 256 * p) (b * p) (value bs))
    ∙ ap (λ q. q + value bs) (sym (nat.add-mul (high * 256) b p)) in
    let first : byte_at (length bs) (high * 256 ^ suc (length bs) + (b * p + value bs)) ≡ b =
    ap (byte_at (length bs)) same ∙ at_prefix (length bs) high b (value bs) (head b bs h) (below bs rest) in
    let others : bytes_high_first (length bs) (high * 256 ^ suc (length bs) + (b * p + value bs)) ≡ bs =
    ap (bytes_high_first (length bs)) same ∙ back bs (high * 256 + b) rest in
    λ i. first i ∷ others i

none_before : (p n : ℕ) → n ≡ 0 * p + n
none_before p n = omega arith

-- ---- each width

-- what is known of numbers of a width
pub record IsWide (w : Width) : Type 0 where
  pub len : (n : ℕ) → length (to_be_bytes w n) ≡ byte_len w
  pub again : (n : ℕ) → n < 2 ^ bits w → from_be_bytes w (to_be_bytes w n) ≡ n
  pub back : (bytes : List ℕ) → length bytes ≡ byte_len w → AreBytes bytes
      → to_be_bytes w (from_be_bytes w bytes) ≡ bytes
  pub below : (bytes : List ℕ) → length bytes ≡ byte_len w → AreBytes bytes → from_be_bytes w bytes < 2 ^ bits w

value_1 : (bytes : List ℕ) → length bytes ≡ 1 → from_be_bytes w8 bytes ≡ value bytes
value_1 [] l = absurd (omega arith)
value_1 (a ∷ []) l = omega arith
value_1 (a ∷ b ∷ bytes) l = absurd (omega arith)

value_2 : (bytes : List ℕ) → length bytes ≡ 2 → from_be_bytes w16 bytes ≡ value bytes
value_2 [] l = absurd (omega arith)
value_2 (a ∷ []) l = absurd (omega arith)
value_2 (a ∷ b ∷ []) l = omega arith
value_2 (a ∷ b ∷ c ∷ bytes) l = absurd (omega arith)

value_4 : (bytes : List ℕ) → length bytes ≡ 4 → from_be_bytes w32 bytes ≡ value bytes
value_4 [] l = absurd (omega arith)
value_4 (a ∷ []) l = absurd (omega arith)
value_4 (a ∷ b ∷ []) l = absurd (omega arith)
value_4 (a ∷ b ∷ c ∷ []) l = absurd (omega arith)
value_4 (a ∷ b ∷ c ∷ d ∷ []) l = omega arith
value_4 (a ∷ b ∷ c ∷ d ∷ e ∷ bytes) l = absurd (omega arith)

value_8 : (bytes : List ℕ) → length bytes ≡ 8 → from_be_bytes w64 bytes ≡ value bytes
value_8 [] l = absurd (omega arith)
value_8 (a ∷ []) l = absurd (omega arith)
value_8 (a ∷ b ∷ []) l = absurd (omega arith)
value_8 (a ∷ b ∷ c ∷ []) l = absurd (omega arith)
value_8 (a ∷ b ∷ c ∷ d ∷ []) l = absurd (omega arith)
value_8 (a ∷ b ∷ c ∷ d ∷ e ∷ []) l = absurd (omega arith)
value_8 (a ∷ b ∷ c ∷ d ∷ e ∷ f ∷ []) l = absurd (omega arith)
value_8 (a ∷ b ∷ c ∷ d ∷ e ∷ f ∷ g ∷ []) l = absurd (omega arith)
value_8 (a ∷ b ∷ c ∷ d ∷ e ∷ f ∷ g ∷ h ∷ []) l = omega arith
value_8 (a ∷ b ∷ c ∷ d ∷ e ∷ f ∷ g ∷ h ∷ i ∷ bytes) l = absurd (omega arith)

value_16 : (bytes : List ℕ) → length bytes ≡ 16 → from_be_bytes w128 bytes ≡ value bytes
value_16 [] l = absurd (omega arith)
value_16 (a ∷ []) l = absurd (omega arith)
value_16 (a ∷ b ∷ []) l = absurd (omega arith)
value_16 (a ∷ b ∷ c ∷ []) l = absurd (omega arith)
value_16 (a ∷ b ∷ c ∷ d ∷ []) l = absurd (omega arith)
value_16 (a ∷ b ∷ c ∷ d ∷ e ∷ []) l = absurd (omega arith)
value_16 (a ∷ b ∷ c ∷ d ∷ e ∷ f ∷ []) l = absurd (omega arith)
value_16 (a ∷ b ∷ c ∷ d ∷ e ∷ f ∷ g ∷ []) l = absurd (omega arith)
value_16 (a ∷ b ∷ c ∷ d ∷ e ∷ f ∷ g ∷ h ∷ []) l = absurd (omega arith)
value_16 (a ∷ b ∷ c ∷ d ∷ e ∷ f ∷ g ∷ h ∷ i ∷ []) l = absurd (omega arith)
value_16 (a ∷ b ∷ c ∷ d ∷ e ∷ f ∷ g ∷ h ∷ i ∷ j ∷ []) l = absurd (omega arith)
value_16 (a ∷ b ∷ c ∷ d ∷ e ∷ f ∷ g ∷ h ∷ i ∷ j ∷ k ∷ []) l = absurd (omega arith)
value_16 (a ∷ b ∷ c ∷ d ∷ e ∷ f ∷ g ∷ h ∷ i ∷ j ∷ k ∷ m ∷ []) l = absurd (omega arith)
value_16 (a ∷ b ∷ c ∷ d ∷ e ∷ f ∷ g ∷ h ∷ i ∷ j ∷ k ∷ m ∷ n ∷ []) l = absurd (omega arith)
value_16 (a ∷ b ∷ c ∷ d ∷ e ∷ f ∷ g ∷ h ∷ i ∷ j ∷ k ∷ m ∷ n ∷ o ∷ []) l = absurd (omega arith)
value_16 (a ∷ b ∷ c ∷ d ∷ e ∷ f ∷ g ∷ h ∷ i ∷ j ∷ k ∷ m ∷ n ∷ o ∷ p ∷ []) l = absurd (omega arith)
value_16 (a ∷ b ∷ c ∷ d ∷ e ∷ f ∷ g ∷ h ∷ i ∷ j ∷ k ∷ m ∷ n ∷ o ∷ p ∷ q ∷ []) l = omega arith
value_16 (a ∷ b ∷ c ∷ d ∷ e ∷ f ∷ g ∷ h ∷ i ∷ j ∷ k ∷ m ∷ n ∷ o ∷ p ∷ q ∷ r ∷ bytes) l = absurd (omega arith)

-- a width whose numbers are read by their value is wide
from_value : (w : Width) → ((bytes : List ℕ) → length bytes ≡ byte_len w → from_be_bytes w bytes ≡ value bytes)
    → 256 ^ byte_len w ≡ 2 ^ bits w → IsWide w
from_value w is same = record {
  len = λ n. high_len (byte_len w) n;
  again = λ n lt. is (to_be_bytes w n) (high_len (byte_len w) n) ∙ again (byte_len w) n ∙ nat.mod-eq_of_lt (rw same lt);
  back = λ bytes l h. ap (to_be_bytes w) (is bytes l) ∙ ap (λ k. bytes_high_first k (value bytes)) (sym l)
      ∙ ap (bytes_high_first (length bytes)) (none_before (256 ^ length bytes) (value bytes)) ∙ back bytes 0 h;
  below = λ bytes l h. rw (is bytes l, ← same, ← l) (below bytes h);
}

pub wide8 : IsWide w8
wide8 = from_value w8 value_1 refl

pub wide16 : IsWide w16
wide16 = from_value w16 value_2 refl

pub wide32 : IsWide w32
wide32 = from_value w32 value_4 refl

pub wide64 : IsWide w64
wide64 = from_value w64 value_8 refl

pub wide128 : IsWide w128
wide128 = from_value w128 value_16 refl
