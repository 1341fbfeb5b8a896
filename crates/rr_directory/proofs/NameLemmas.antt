-- Offsets in digits, and the names that have them.
use Rattle.std.proofs.Common.{inl, inr, ap₂, add-one, eqb, leb, ltb, ◌-◌, ◌≡◌, ◌≢◌, ℕ, zero, suc, ◌+◌, ◌*◌, ◌/◌, ◌%◌, ◌^◌, ◌<◌, ◌≤◌, Bool, true, false, ◌&&◌, List, [], ◌∷◌, ◌++◌, length, get_or, take, drop, Option, None, Some, Bor, option_map, refl, sym, ap, subst, ◌∙◌, arith, length-append, append-nil}
use Rattle.std.specs.Prelude.{MatchOption, not, codes, if◌then◌else◌}
use Rattle.std.specs.Char.{is_ascii_digit, digit_value}
use Rattle.std.specs.List.{list_all}
use Rattle.std.specs.Str.Parse.{digits_value}
use Rattle.std.proofs.Math.Nat.{pow-suc, mod-lt, le_refl}
use Rattle.std.proofs.Math.Seq.{take-suc, take-length, drop-append_seam}
use Rattle.std.proofs.lemmas.Bool.{and_parts, cases_Bool, false≢true, ne_eqb, lt-ltb, ltb-true, le-leb, leb-true}
use Rattle.std.proofs.lemmas.Str.{digit_value_digit}
use Rattle.std.proofs.lemmas.Int.Digits.{digits_value_push, digits_value_more}
use Rattle.std.proofs.lemmas.List.Folds.{list_all-append, list_all_at}
use Rattle.std.proofs.lemmas.List.{append_cancel_right}
use Rattle.rr_text.specs.Text.{number_at}
use Rattle.rr_directory.specs.Names.{IsAfter, IsOffsetText, digits_of, offset_text}

-- ---- digits

digit_of : (d : ℕ) → d < 10 → digit_value (48 + d) ≡ d
digit_of d h = omega (arith, digit_value_digit (48 + d) (omega arith, omega arith))

is_digit : (d : ℕ) → d < 10 → is_ascii_digit (48 + d) ≡ true
is_digit d h = rw (le-leb 48 (48 + d) (omega arith), le-leb (48 + d) 57 (omega arith)) refl

pub digits_none : (k n : ℕ) (xs : List ℕ) → k ≡ 0 → xs ++ digits_of k n ≡ xs
unfolding digits_of
digits_none zero n xs h = append-nil xs
digits_none (suc k) n xs h = absurd (omega (arith, h))

pub digits_more : (k n : ℕ) → 0 < k → digits_of k n ≡ digits_of (k - 1) (n / 10) ++ (48 + n % 10) ∷ []
unfolding digits_of
digits_more zero n h = absurd (omega (arith, h))
digits_more (suc k) n h =
    let same : k ≡ suc k - 1 = omega arith in
    ap (λ (i : ℕ). digits_of i (n / 10) ++ (48 + n % 10) ∷ []) same

pub length-digits_of : (k n : ℕ) → length (digits_of k n) ≡ k
unfolding digits_of
length-digits_of zero n = refl
length-digits_of (suc k) n =
    length-append (digits_of k (n / 10)) ((48 + n % 10) ∷ []) ∙ omega (arith, length-digits_of k (n / 10))

all_digits : (k n : ℕ) → list_all is_ascii_digit (digits_of k n) ≡ true
unfolding digits_of
all_digits zero n = refl
all_digits (suc k) n =
    let last = is_digit (n % 10) (mod-lt n (omega arith)) in
    list_all-append is_ascii_digit (digits_of k (n / 10)) ((48 + n % 10) ∷ [])
    ∙ both _ _ (all_digits k (n / 10)) (both _ _ last refl)
  where
    both : (a b : Bool) → a ≡ true → b ≡ true → (a && b) ≡ true
    both a b p q = rw (p, q) refl

-- what digits write is the number that they were made of
digits_back : (k n : ℕ) → n < 10 ^ k → digits_value 10 (digits_of k n) ≡ n
unfolding digits_of
digits_back zero n h = omega (arith, h)
digits_back (suc k) n h =
    let power = pow-suc 10 k in
    let small : n / 10 < 10 ^ k = omega (arith, power, h) in
    let rest = digits_back k (n / 10) small in
    let last = digit_of (n % 10) (mod-lt n (omega arith)) in
    digits_value_push 10 (digits_of k (n / 10)) (48 + n % 10) ∙ omega (arith, rest, last)

pub number_back : (k n : ℕ) → 0 < k → n < 10 ^ k → n < 2 ^ 64 → number_at (digits_of k n) ≡ Some n
number_back k n some h fits =
    let value = digits_back k n h in
    let len = length-digits_of k n in
    let not_empty : eqb (length (digits_of k n)) 0 ≡ false = ne_eqb _ 0 (λ e. absurd (omega (arith, e, len, some))) in
    rw (not_empty, all_digits k n, value, lt-ltb n (2 ^ 64) fits) refl

-- and digits are those of what they write
pub digits_same : (ds : List ℕ) (i : ℕ) → i ≤ length ds → list_all is_ascii_digit ds ≡ true
    → digits_of i (digits_value 10 (take i ds)) ≡ take i ds
unfolding digits_of
digits_same ds zero h all = refl
digits_same ds (suc i) h all =
    let c = get_or ds i 0 in
    let v = digits_value 10 (take i ds) in
    let within : i < length ds = omega (arith, h) in
    let digit : is_ascii_digit c ≡ true = list_all_get ds i within all in
    let parts = and_parts (leb 48 c) (leb c 57) digit in
    let low = leb-true 48 c parts.0 in
    let high = leb-true c 57 parts.1 in
    let is = digit_value_digit c (low, high) in
    let value : digits_value 10 (take (suc i) ds) ≡ v * 10 + digit_value c =
    ap (λ (n : ℕ). digits_value 10 (take n ds)) (sym (add-one i)) ∙ digits_value_more 10 ds i within in
    let last : 48 + (v * 10 + digit_value c) % 10 ≡ c = omega (arith, is, high) in
    let others : (v * 10 + digit_value c) / 10 ≡ v = omega (arith, is, high) in
    rw value
    (ap₂ (λ (n d : ℕ). digits_of i n ++ d ∷ []) others last
    ∙ ap (λ (xs : List ℕ). xs ++ c ∷ []) (digits_same ds i (omega (arith, h)) all)
    ∙ sym (take-suc ds i 0 within))
  where
    list_all_get : (xs : List ℕ) (j : ℕ) → j < length xs → list_all is_ascii_digit xs ≡ true
        → is_ascii_digit (get_or xs j 0) ≡ true
    list_all_get xs j lt h = elim (cases_Bool (is_ascii_digit (get_or xs j 0))) [
      | inl is ↦ is
      | inr other ↦ absurd (false≢true (sym (list_all_at is_ascii_digit xs j 0 lt other) ∙ h))
    ]

-- ---- an offset and the ending

pub record IsNumber (ds : List ℕ) (n : ℕ) : Type 0 where
  pub digits : list_all is_ascii_digit ds ≡ true
  pub value : digits_value 10 ds ≡ n
  pub fits : n < 2 ^ 64

pub number_parts : (ds : List ℕ) (n : ℕ) → number_at ds ≡ Some n → IsNumber ds n
number_parts ds n h =
    by_test (not (eqb (length ds) 0)) (list_all is_ascii_digit ds) (ltb (digits_value 10 ds) (2 ^ 64)) refl refl h
  where
    by_test : (some all small : Bool) → list_all is_ascii_digit ds ≡ all → ltb (digits_value 10 ds) (2 ^ 64) ≡ small
        → (if (some && all) && small then Some (digits_value 10 ds) else None) ≡ Some n → IsNumber ds n
    by_test true true true p q e =
        let value : digits_value 10 ds ≡ n = cc e in record {
          digits = p;
          value = value;
          fits = subst (λ (m : ℕ). m < 2 ^ 64) value (ltb-true _ _ q);
        }
    by_test true true false p q e = absurd (cc e)
    by_test true false small p q e = absurd (cc e)
    by_test false all small p q e = absurd (cc e)

pub offset_read : (text ds rest : List ℕ) (o : Option ℕ) → text ≡ ds ++ rest → rest ≡ codes ".rrj" → length ds ≡ 20
    → o ≡ number_at ds → IsOffsetText text o
offset_read text ds rest None e end len h = λ n fits is.
    let same : ds ≡ digits_of 20 n =
    append_cancel_right ds (digits_of 20 n) (codes ".rrj")
    (ap (λ (xs : List ℕ). ds ++ xs) (sym end) ∙ sym e ∙ is) in
    let few : n < 10 ^ 20 = omega (arith, fits) in
    let none : ◌≡◌ {A = Option ℕ} None (Some n) =
    h ∙ ap number_at same ∙ number_back 20 n (omega arith) few fits in
    absurd (cc none)
offset_read text ds rest (Some n) e end len h =
    let is = number_parts ds n (sym h) in
    let whole : take (length ds) ds ≡ ds = take-length ds in
    let same : digits_of 20 n ≡ ds =
    ap₂ digits_of (sym len) (sym is.value) ∙ ap (λ (xs : List ℕ). digits_of (length ds) (digits_value 10 xs)) (sym whole)
    ∙ digits_same ds (length ds) (le_refl (length ds)) is.digits ∙ whole in
    (e ∙ ap₂ (λ (xs ys : List ℕ). xs ++ ys) (sym same) end, is.fits)

-- texts of another length, or with another ending, write none
pub other_length : (text : List ℕ) (n : ℕ) → text ≡ offset_text n → length text ≡ 24
other_length text n is =
    ap (λ (xs : List ℕ). length xs) is ∙ length-append (digits_of 20 n) (codes ".rrj")
    ∙ omega (arith, length-digits_of 20 n)

pub other_ending : (text : List ℕ) (n : ℕ) → text ≡ offset_text n → drop 20 text ≡ codes ".rrj"
other_ending text n is =
    ap (drop 20) is ∙ ap (λ (k : ℕ). drop k (digits_of 20 n ++ codes ".rrj")) (sym (length-digits_of 20 n))
    ∙ drop-append_seam (digits_of 20 n) (codes ".rrj")

-- ---- pieces

pub after_is : (piece bytes : List ℕ) (o : Option (Bor (List ℕ)))
    → MatchOption o ((rest : List ℕ) → bytes ≢ piece ++ rest) (λ rest. bytes ≡ piece ++ rest.now)
    → IsAfter piece bytes (option_map (λ rest. rest.now) o)
after_is piece bytes None h = h
after_is piece bytes (Some rest) h = h
