-- What beginnings of texts are read as, and what stands behind bytes that are synced.
use Rattle.std.proofs.Common.{◌≡◌, ℕ, zero, suc, ◌-◌, ◌≤◌, Bool, true, false, List, [], ◌∷◌, ◌++◌, length, take, drop, None, refl, sym, ap, subst, ◌∙◌, append_assoc, arith}
use Rattle.std.specs.Prelude.{nat_le, if◌then◌else◌}
use Rattle.std.proofs.lemmas.Bool.{leb-true, leb-false}
use Rattle.std.proofs.lemmas.List.{length-take, length-drop, take-append-drop, take-append-le}
use Rattle.rr_journal.specs.declared.step.TheConstants.{MAX_UNSYNCED}
use Rattle.rr_journal.specs.Text.{Raw, Fits, AllFit, after, record_text, records_text, record_len, chain, whole_within}
use Rattle.rr_journal.specs.Reading.{IsDamage, stop_of, record_at, records_of, followed_by, fault_at}
use Rattle.rr_journal.specs.Laws.{CommittedIsRead, TextsGoOn, PrefixesAreRead, SyncedIsRead}
use Rattle.rr_journal.proofs.RecordLemmas.{record_again, text_len, prefix_is_none}
use Rattle.rr_journal.proofs.ReadingLemmas.{nothing_at, none_first, one_first, reading_goes_on, left_at_most, not_damaged}

abbrev Records : Type 0
Records = List Raw × List ℕ

pub texts_go_on : TextsGoOn
unfolding records_text
texts_go_on before [] ss = refl
texts_go_on before (r ∷ rs) ss =
    ap (λ (l : List ℕ). record_text before r ++ l) (texts_go_on (after before r) rs ss)
    ∙ sym (append_assoc (record_text before r) (records_text (after before r) rs)
    (records_text (chain (after before r) rs) ss))

-- so many bytes of two texts, past the first
take_past : (n : ℕ) (xs ys : List ℕ) → length xs ≤ n → take n (xs ++ ys) ≡ xs ++ take (n - length xs) ys
take_past n [] ys le = ap (λ (k : ℕ). take k ys) (none_off n)
  where
    none_off : (m : ℕ) → m ≡ m - 0
    none_off m = omega arith
take_past zero (x ∷ xs) ys le = absurd (omega (arith, le))
take_past (suc n) (x ∷ xs) ys le = ap (λ (l : List ℕ). x ∷ l) (take_past n xs ys (omega (arith, le)))
    ∙ ap (λ (k : ℕ). x ∷ (xs ++ take k ys)) (both_less n (length xs))
  where
    both_less : (m k : ℕ) → m - k ≡ suc m - suc k
    both_less m k = omega arith

record IsPrefixRead (n : ℕ) (rs : List Raw) (x : Records) : Type 0 where
  whole : x.0 ≡ whole_within n rs
  few_left : length x.1 ≤ MAX_UNSYNCED

nothing_cut : (m : ℕ) → ◌≡◌ {A = List ℕ} (take m []) []
nothing_cut zero = refl
nothing_cut (suc m) = refl

-- the first record is whole, or is cut
module _ (before : List ℕ) (r : Raw) (rs : List Raw) (n : ℕ) (fits : Fits r) where
  abbrev text : List ℕ
  text = record_text before r

  abbrev others : List ℕ
  others = records_text (after before r) rs

  abbrev left : ℕ
  left = n - record_len r

  first_whole : nat_le (record_len r) n ≡ true
      → IsPrefixRead left rs (records_of (after before r) (take left others))
      → IsPrefixRead n (r ∷ rs) (records_of before (take n (text ++ others)))
  first_whole t later =
      let fit : length text ≤ n = omega (arith, leb-true _ _ t, text_len before r) in
      let cut : take n (text ++ others) ≡ text ++ take left others = take_past n text others fit
      ∙ ap (λ (k : ℕ). text ++ take (n - k) others) (text_len before r) in
      let read : records_of before (take n (text ++ others)) ≡ followed_by (r ∷ [])
      (records_of (after before r) (take left others)) = ap (records_of before) cut
      ∙ one_first before (text ++ take left others) (r, take left others)
      (record_again before r (take left others) fits) in
      subst (IsPrefixRead n (r ∷ rs)) (sym read)
      (record {
        whole = ap (λ (l : List Raw). r ∷ l) later.whole
            ∙ ap (λ (b : Bool). if b then r ∷ whole_within left rs else []) (sym t);
        few_left = later.few_left;
      })

  first_cut : nat_le (record_len r) n ≡ false
      → IsPrefixRead n (r ∷ rs) (records_of before (take n (text ++ others)))
  first_cut t =
      let short = leb-false _ _ t in
      let few : n ≤ length text = omega (arith, short, text_len before r) in
      let cut : take n (text ++ others) ≡ take n text = take-append-le n text others few in
      let none : record_at before (take n text) ≡ None = prefix_is_none before (take n text) (drop n text) r fits
      (take-append-drop n text) (omega (arith, short, text_len before r, length-drop n text)) in
      let read : records_of before (take n (text ++ others)) ≡ ([], take n text) = ap (records_of before) cut
      ∙ none_first before (take n text) none in
      subst (IsPrefixRead n (r ∷ rs)) (sym read)
      (record {
        whole = ap (λ (b : Bool). if b then r ∷ whole_within left rs else []) (sym t);
        few_left = omega (arith, short, fits, length-take n text);
      })

prefix_read : (before : List ℕ) (rs : List Raw) (n : ℕ) → AllFit rs
    → IsPrefixRead n rs (records_of before (take n (records_text before rs)))
unfolding records_text
prefix_read before [] n fits = subst (IsPrefixRead n [])
    (sym (ap (records_of before) (nothing_cut n) ∙ none_first before [] (nothing_at before)))
    (record { whole = refl; few_left = omega arith })
prefix_read before (r ∷ rs) n fits =
    by_len (prefix_read (after before r) rs (n - record_len r) fits.1) (nat_le (record_len r) n) refl
  where
    by_len : IsPrefixRead (n - record_len r) rs (records_of (after before r) (take (n - record_len r)
        (records_text (after before r) rs))) → (b : Bool) → nat_le (record_len r) n ≡ b
        → IsPrefixRead n (r ∷ rs) (records_of before (take n (records_text before (r ∷ rs))))
    by_len later true t = first_whole before r rs n fits.0 t later
    by_len later false t = first_cut before r rs n fits.0 t

pub prefixes_are_read : PrefixesAreRead
prefixes_are_read before rs n fits =
    let b = prefix_read before rs n fits in
    let left = (records_of before (take n (records_text before rs))).1 in
    (b.whole, not_damaged (fault_at left) (length left) b.few_left)

pub synced_is_read : SyncedIsRead
synced_is_read before rs tail fits few =
    let c = chain before rs in
    let read = reading_goes_on before rs tail fits in
    let left : length (records_of before (records_text before rs ++ tail)).1 ≤ MAX_UNSYNCED = omega (
      arith,
      few,
      left_at_most c tail,
      ap (λ (x : Records). length x.1) read,
    ) in (
      ((records_of c tail).0, ap (λ (x : Records). x.0) read),
      not_damaged (fault_at (records_of before (records_text before rs ++ tail)).1)
          (length (records_of before (records_text before rs ++ tail)).1) left,
    )

all_fit : (rs ss : List Raw) → AllFit rs → AllFit ss → AllFit (rs ++ ss)
all_fit [] ss p q = q
all_fit (r ∷ rs) ss p q = (p.0, all_fit rs ss p.1 q)

pub committed_is_read : CommittedIsRead
committed_is_read before rs added tail p q few =
    subst (λ (l : List ℕ). ((later : List Raw) × ((records_of before (l ++ tail)).0 ≡ (rs ++ added) ++ later))
    × ¬ IsDamage (stop_of before (l ++ tail))) (texts_go_on before rs added)
    (synced_is_read before (rs ++ added) tail (all_fit rs added p q) few)
