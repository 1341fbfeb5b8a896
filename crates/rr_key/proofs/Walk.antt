-- Going from one special byte to the next.
use Rattle.std.proofs.Common.{◌≡◌, ℕ, zero, suc, ◌+◌, ◌-◌, ◌<◌, ◌≤◌, Bool, true, false, eqb, List, [], ◌∷◌, length, get_or, take, drop, Some, None, refl, sym, ap, ◌∙◌, arith}
use Rattle.std.proofs.lemmas.Bool.{false_from_ne_true}
use Rattle.std.proofs.Math.Seq.{take-length}
use Rattle.std.proofs.lemmas.List.{length-drop, get_or-drop, drop-drop}
use Rattle.memchr.specs.Find.{IsFirstByte}
use Rattle.rr_key.specs.declared.class.Class.{Class}
use Rattle.rr_key.specs.Class.{is_special}
use Rattle.rr_key.specs.Unit.{name_len}
use Rattle.rr_key.proofs.Special.{special_no_backslash, and_false}

pub rest_is : (n : ℕ) (xs : List ℕ) → take (length xs - n) (drop n xs) ≡ drop n xs
rest_is n xs = ap (λ k. take k (drop n xs)) (sym (length-drop n xs)) ∙ take-length (drop n xs)

-- whether a backslash precedes place k
abbrev pub before : List ℕ → ℕ → Bool
before s zero = false
before s (suc k) = eqb (get_or s k 0) 92

pub before_at : (text : List ℕ) (from at : ℕ) → (at ≡ 0 → ⊥)
    → before (drop from text) at ≡ eqb (get_or text (from + at - 1) 0) 92
before_at text from zero some = absurd (some refl)
before_at text from (suc k) some =
    let n : from + k ≡ from + suc k - 1 = omega arith in
    ap (λ (x : ℕ). eqb x 92) (get_or-drop from text k 0 ∙ ap (λ (i : ℕ). get_or text i 0) n)

-- no byte before place k is special
abbrev Plain : Class → List ℕ → ℕ → Type 0
Plain class s k = (j : ℕ) → j < k → is_special class (get_or s j 0) ≡ true → ⊥

one_more : (class : Class) (b c : ℕ) (cs : List ℕ) → is_special class b ≡ false → is_special class c ≡ false
    → name_len class (b ∷ c ∷ cs) ≡ name_len class (c ∷ cs) + 1
one_more class b c cs p q = rw (p, q, and_false (eqb b 92)) refl

-- a special byte at place k with no backslash before it ends the name
ends : (class : Class) (s : List ℕ) (k : ℕ) → k < length s → Plain class s k → is_special class (get_or s k 0) ≡ true
    → before s k ≡ false → name_len class s ≡ k
ends class [] k lt plain here bare = absurd (omega arith)
ends class (b ∷ []) zero lt plain here bare = rw here refl
ends class (b ∷ c ∷ cs) zero lt plain here bare = rw (special_no_backslash class b here, here) refl
ends class (b ∷ []) (suc k) lt plain here bare = absurd (omega arith)
ends class (b ∷ c ∷ cs) (suc zero) lt plain here bare =
    let first : is_special class b ≡ false = false_from_ne_true _ (plain 0 (omega arith)) in
    let rest = ends class (c ∷ cs) zero (omega arith) (λ j lt. absurd (omega arith)) here refl in
    rw (bare, first, rest) refl
ends class (b ∷ c ∷ cs) (suc (suc k)) lt plain here bare =
    let first : is_special class b ≡ false = false_from_ne_true _ (plain 0 (omega arith)) in
    let next : is_special class c ≡ false = false_from_ne_true _ (plain 1 (omega arith)) in
    let rest = ends class (c ∷ cs) (suc k) (omega arith) (λ j lt. plain (suc j) (omega arith)) here bare in
    one_more class b c cs first next ∙ ap (λ (n : ℕ). n + 1) rest ∙ omega arith

-- one with a backslash before it is taken
goes_past : (class : Class) (s : List ℕ) (k : ℕ) → k < length s → Plain class s k
    → is_special class (get_or s k 0) ≡ true → before s k ≡ true
    → name_len class s ≡ name_len class (drop (suc k) s) + suc k
goes_past class [] k lt plain here taken = absurd (omega arith)
goes_past class s zero lt plain here taken = absurd cc
goes_past class (b ∷ []) (suc k) lt plain here taken = absurd (omega arith)
goes_past class (b ∷ c ∷ cs) (suc zero) lt plain here taken = rw (taken, here) refl
goes_past class (b ∷ c ∷ cs) (suc (suc k)) lt plain here taken =
    let first : is_special class b ≡ false = false_from_ne_true _ (plain 0 (omega arith)) in
    let next : is_special class c ≡ false = false_from_ne_true _ (plain 1 (omega arith)) in
    let rest = goes_past class (c ∷ cs) (suc k) (omega arith) (λ j lt. plain (suc j) (omega arith)) here taken in
    one_more class b c cs first next ∙ ap (λ (n : ℕ). n + 1) rest ∙ omega arith

-- with no special byte all of it is the name
whole : (class : Class) (s : List ℕ) → Plain class s (length s) → name_len class s ≡ length s
whole class [] plain = refl
whole class (b ∷ []) plain =
    let first : is_special class b ≡ false = false_from_ne_true _ (plain 0 (omega arith)) in
    rw first refl
whole class (b ∷ c ∷ cs) plain =
    let first : is_special class b ≡ false = false_from_ne_true _ (plain 0 (omega arith)) in
    let next : is_special class c ≡ false = false_from_ne_true _ (plain 1 (omega arith)) in
    let rest = whole class (c ∷ cs) (λ j lt. plain (suc j) (omega arith)) in
    one_more class b c cs first next ∙ ap (λ (n : ℕ). n + 1) rest ∙ omega arith

-- the same, where a search from a place found the special byte
pub stops : (class : Class) (text : List ℕ) (from at : ℕ) → IsFirstByte (is_special class) (drop from text) (Some at)
    → before (drop from text) at ≡ false → name_len class text ≡ from + name_len class (drop from text)
    → from + at ≡ name_len class text
stops class text from at h bare so_far =
    let e = ends class (drop from text) at h.0.high (λ j lt. h.0.before j (omega arith) lt) h.1 bare in
    omega (arith, e, so_far)

pub goes_on : (class : Class) (text : List ℕ) (from at : ℕ) → IsFirstByte (is_special class) (drop from text) (Some at)
    → before (drop from text) at ≡ true → name_len class text ≡ from + name_len class (drop from text)
    → name_len class text ≡ from + at + 1 + name_len class (drop (from + at + 1) text)
goes_on class text from at h taken so_far =
    let e = rw (drop-drop (suc at) from text) at (goes_past class (drop from text) at h.0.high
    (λ j lt. h.0.before j (omega arith) lt) h.1 taken) in
    let n : from + suc at ≡ from + at + 1 = omega arith in
    let f = rw n at e in
    omega (arith, f, so_far)

pub never : (class : Class) (text : List ℕ) (from : ℕ) → from ≤ length text
    → IsFirstByte (is_special class) (drop from text) None
    → name_len class text ≡ from + name_len class (drop from text) → length text ≡ name_len class text
never class text from le h so_far =
    let e = whole class (drop from text) (λ j lt. h j (omega arith) lt) in
    omega (arith, e, so_far, length-drop from text)
