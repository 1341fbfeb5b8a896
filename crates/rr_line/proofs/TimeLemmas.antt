-- The ending of a line, found by the reading and of the grammar.
use Rattle.std.proofs.Common.{◌≡◌, ℕ, ◌<◌, ◌≤◌, ℤ, Bool, true, false, not, ◌||◌, eqb, List, [], ◌∷◌, length, take, drop, Option, Some, None, Ok, Err, refl, sym, ap, subst, ◌∙◌, inl, inr, arith}
use Rattle.std.specs.Prelude.{◌⊎◌}
use Rattle.std.proofs.lemmas.Bool.{cases_Bool, eqb-true, eqb-false, or_parts, not-false, not-true}
use Rattle.std.proofs.Math.Dec.{eqb-suc-zero}
use Rattle.std.proofs.lemmas.List.{take-append-drop, length-take-le, nil_from_length}
use Rattle.std.proofs.lemmas.List.Sums.{prefix_len-le-length}
use Rattle.rr_text.specs.Results.{◌>>=◌}
use Rattle.rr_text.specs.Text.{is_digits, unsigned, fits_i64}
use Rattle.rr_text.specs.declared.bytes.TheConstants.{SPACE}
use Rattle.rr_line.specs.declared.fault.LineFault.{LineFault}
use Rattle.rr_line.specs.declared.fault.LineFault.TheVariants.{BadTime, TimeRange}
use Rattle.rr_line.specs.declared.precision.Precision.{Precision}
use Rattle.rr_line.specs.Part.{skip_spaces, cut_after}
use Rattle.rr_line.specs.Reading.{time_at, word_time, ending_at}
use Rattle.rr_line.specs.Time.{nanoseconds, ends_word, word_len, IsWord, IsEnding, EndingFault, bad_time, out_of_range}
use Rattle.rr_line.proofs.AgreeLemmas.{Agrees, Agrees-as, Agrees-bind, Agrees-unless, Agrees-ok, just_read}
use Rattle.rr_line.proofs.PartLemmas.{first_is, cut_is}
use Rattle.rr_line.proofs.ScanLemmas.{part_scanned, plain_scanned, ended_scanned}

pub none_left : (text : List ℕ) → eqb (length text) 0 ≡ true → text ≡ []
none_left text e = nil_from_length text (eqb-true (length text) 0 e)

pub some_left : (text : List ℕ) → eqb (length text) 0 ≡ false → 0 < length text
some_left text e = let other = eqb-false (length text) 0 e in omega arith

word_len_within : (text : List ℕ) → word_len text ≤ length text
word_len_within text = prefix_len-le-length _ text

-- no space follows skipped spaces
first_stays : (text : List ℕ) (byte : ℕ) (rest : List ℕ) → skip_spaces text ≡ byte ∷ rest → eqb byte SPACE ≡ false
first_stays [] byte rest e = absurd cc
first_stays (first ∷ text) byte rest e =
    elim (cases_Bool (eqb first SPACE)) [
      | inl space ↦ first_stays text byte rest (rw space at e)
      | inr other ↦ let same : first ≡ byte = (let whole = rw other at e in cc) in
          subst (λ (b : ℕ). eqb b SPACE ≡ false) same other
    ]

word_is_some : (text left : List ℕ) → skip_spaces text ≡ left → 0 < length left → 0 < word_len left
word_is_some text [] e some = absurd (omega arith)
word_is_some text (byte ∷ rest) e some = rw (first_stays text byte rest e) (omega arith)

-- the word that is cut off
word_cut : (text : List ℕ) → 0 < length (skip_spaces text)
    → IsWord text (take (word_len (skip_spaces text)) (skip_spaces text))
    (drop (word_len (skip_spaces text)) (skip_spaces text))
word_cut text some =
    let left = skip_spaces text in
    let len = length-take-le (word_len left) left (word_len_within left) in
    record {
      some = omega (arith, len, word_is_some text left refl some);
      plain = plain_scanned ends_word left;
      ended = ended_scanned ends_word left;
      whole = sym (take-append-drop (word_len left) left);
    }

word_is : (text word rest : List ℕ) → IsWord text word rest
    → cut_after (word_len (skip_spaces text)) (skip_spaces text) ≡ (word, rest)
word_is text word rest h = cut_is (word_len (skip_spaces text)) (skip_spaces text) word rest
    (ap word_len h.whole ∙ part_scanned ends_word word rest h.plain h.ended) h.whole

no_word : (text word rest : List ℕ) → skip_spaces text ≡ [] → IsWord text word rest → ⊥
no_word text [] rest e h = absurd (let some = h.some in omega arith)
no_word text (byte ∷ word) rest e h = absurd (let whole = sym e ∙ h.whole in cc)

-- where nothing but spaces is left
ends : (precision : Precision) (text : List ℕ) → skip_spaces text ≡ []
    → Agrees {A = Option ℤ} (Ok None) (IsEnding precision text) (EndingFault precision text)
ends precision text e = record { holds = e; good = none; bad = never }
  where
    none : (time : Option ℤ) → IsEnding precision text time → just_read {A = Option ℤ} None ≡ Ok time
    none None h = refl
    none (Some time) h = absurd (no_word text h.0 h.1.rest e h.1.is_word)

    never : (fault : LineFault) → EndingFault precision text fault → just_read {A = Option ℤ} None ≡ Err fault
    never fault (bad_time word rest is why f) = absurd (no_word text word rest e is)
    never fault (out_of_range word is why f) = absurd (no_word text word is.rest e is.is_word)

-- whether a word is refused as a time
abbrev refuses : List ℕ → List ℕ → Bool
refuses word rest = not (is_digits (unsigned word)) || not (eqb (length (skip_spaces rest)) 0)

abbrev InTime : Precision → List ℕ → List ℕ → ℤ → Type 0
InTime precision word rest time = (refuses word rest ≡ false)
    × ((not (fits_i64 (nanoseconds precision word)) ≡ false) × (nanoseconds precision word ≡ time))

abbrev NoTime : Precision → List ℕ → List ℕ → LineFault → Type 0
NoTime precision word rest fault =
    ((refuses word rest ≡ true) × (fault ≡ BadTime))
    ⊎ ((refuses word rest ≡ false) × (((not (fits_i64 (nanoseconds precision word)) ≡ true) × (fault ≡ TimeRange))
    ⊎ ((not (fits_i64 (nanoseconds precision word)) ≡ false) × ⊥)))

word_agrees : (precision : Precision) (word rest : List ℕ)
    → Agrees (word_time precision word rest) (InTime precision word rest) (NoTime precision word rest)
word_agrees precision word rest =
    Agrees-unless BadTime (refuses word rest) (time_at precision word) _ _ (λ good.
    Agrees-unless TimeRange (not (fits_i64 (nanoseconds precision word))) (Ok (nanoseconds precision word))
    (λ time. nanoseconds precision word ≡ time) (λ fault. ⊥) (λ fits. Agrees-ok (nanoseconds precision word)))

-- the two tests of a word
accepted : (word rest : List ℕ) → refuses word rest ≡ false
    → (is_digits (unsigned word) ≡ true) × (skip_spaces rest ≡ [])
accepted word rest e =
    let both = or_parts (not (is_digits (unsigned word))) (not (eqb (length (skip_spaces rest)) 0)) e in
    (not-false _ both.0, none_left (skip_spaces rest) (not-false _ both.1))

accepts : (word rest : List ℕ) → is_digits (unsigned word) ≡ true → skip_spaces rest ≡ [] → refuses word rest ≡ false
accepts word rest digits alone = rw (digits, alone) refl

refused : (word rest : List ℕ) → refuses word rest ≡ true
    → (is_digits (unsigned word) ≡ false) ⊎ (0 < length (skip_spaces rest))
refused word rest e =
    elim (cases_Bool (is_digits (unsigned word))) [
      | inl digits ↦ inr (some_left (skip_spaces rest) (not-true _ (rw digits at e)))
      | inr other ↦ inl other
    ]

refuses_either : (word rest : List ℕ) → (is_digits (unsigned word) ≡ false) ⊎ (0 < length (skip_spaces rest))
    → refuses word rest ≡ true
refuses_either word rest (inl other) = rw other refl
refuses_either word rest (inr left) =
    elim (cases_Bool (is_digits (unsigned word))) [
      | inl digits ↦ rw digits (at (skip_spaces rest) left)
      | inr other ↦ rw other refl
    ]
  where
    at : (left : List ℕ) → 0 < length left → not (eqb (length left) 0) ≡ true
    at [] some = absurd (omega arith)
    at (byte ∷ left) some = rw (eqb-suc-zero (length left)) refl

ending_to : (precision : Precision) (text word rest : List ℕ) → IsWord text word rest → (ending : Option ℤ)
    → (time : ℤ) × InTime precision word rest time × (Some time ≡ ending) → IsEnding precision text ending
ending_to precision text word rest is_word ending (time, (good, (fits, is)), ends) =
    let tests = accepted word rest good in
    subst (IsEnding precision text) ends (
      word,
      record
          { rest = rest; is_word = is_word; digits = tests.0; alone = tests.1 },
      sym is,
      subst (λ (z : ℤ). fits_i64 z ≡ true) is (not-false _ fits),
    )

ending_from : (precision : Precision) (text word rest : List ℕ) → IsWord text word rest → (ending : Option ℤ)
    → IsEnding precision text ending → (time : ℤ) × InTime precision word rest time × (Some time ≡ ending)
ending_from precision text word rest is_word None h = absurd (no_word text word rest h is_word)
ending_from precision text word rest is_word (Some time) (other, is, at, fits) =
    let same = first_is (word, rest) (other, is.rest)
    (sym (word_is text word rest is_word) ∙ word_is text other is.rest is.is_word) in
    let number : nanoseconds precision word ≡ time = ap (nanoseconds precision) same.0 ∙ sym at in (
      time,
      (
        accepts word rest (ap (λ (w : List ℕ). is_digits (unsigned w)) same.0 ∙ is.digits)
            (ap skip_spaces same.1 ∙ is.alone),
        (ap (λ (z : ℤ). not (fits_i64 z)) number ∙ ap not fits, number),
      ),
      refl,
    )

bad_to : (precision : Precision) (text word rest : List ℕ) → IsWord text word rest → (fault : LineFault)
    → NoTime precision word rest fault ⊎ ((time : ℤ) × InTime precision word rest time × ⊥)
    → EndingFault precision text fault
bad_to precision text word rest is_word fault (inl (inl h)) = bad_time word rest is_word (refused word rest h.0) h.1
bad_to precision text word rest is_word fault (inl (inr (good, inl h))) =
    let tests = accepted word rest good in
    out_of_range word (record { rest = rest; is_word = is_word; digits = tests.0; alone = tests.1 }) (not-true _ h.0)
    h.1
bad_to precision text word rest is_word fault (inl (inr (good, inr h))) = absurd h.1
bad_to precision text word rest is_word fault (inr h) = absurd h.2

bad_from : (precision : Precision) (text word rest : List ℕ) → IsWord text word rest → (fault : LineFault)
    → EndingFault precision text fault → NoTime precision word rest fault
    ⊎ ((time : ℤ) × InTime precision word rest time × ⊥)
bad_from precision text word rest is_word fault (bad_time other after is why f) =
    let same = first_is (word, rest) (other, after)
    (sym (word_is text word rest is_word) ∙ word_is text other after is) in
    inl (inl (
      ap (λ (w : List ℕ). refuses w rest) same.0 ∙ ap (refuses other) same.1
          ∙ refuses_either other after why,
      f,
    ))
bad_from precision text word rest is_word fault (out_of_range other is why f) =
    let same = first_is (word, rest) (other, is.rest)
    (sym (word_is text word rest is_word) ∙ word_is text other is.rest is.is_word) in
    inl (inr (
      accepts word rest (ap (λ (w : List ℕ). is_digits (unsigned w)) same.0 ∙ is.digits)
          (ap skip_spaces same.1 ∙ is.alone),
      inl (ap (λ (w : List ℕ). not (fits_i64 (nanoseconds precision w))) same.0 ∙ ap not why, f),
    ))

pub ending_agrees : (precision : Precision) (text : List ℕ)
    → Agrees (ending_at precision (skip_spaces text)) (IsEnding precision text) (EndingFault precision text)
ending_agrees precision text =
    let left = skip_spaces text in
    let word = take (word_len left) left in
    let rest = drop (word_len left) left in
    elim (cases_Bool (eqb (length left) 0)) [
      | inl none ↦ rw none (ends precision text (none_left left none))
      | inr some ↦
          let is_word = word_cut text (some_left left some) in
          rw some (Agrees-as (word_time precision word rest >>= λ time. Ok (Some time)) _ _ _ _
          (ending_to precision text word rest is_word) (ending_from precision text word rest is_word)
          (bad_to precision text word rest is_word) (bad_from precision text word rest is_word)
          (Agrees-bind (word_time precision word rest) (λ time. Ok (Some time)) _ _ (λ time ending. Some time ≡ ending)
          (λ time fault. ⊥) (word_agrees precision word rest) (λ time is. Agrees-ok (Some time))))
    ]
