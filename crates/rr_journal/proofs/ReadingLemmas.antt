-- All records that bytes begin with.
use Rattle.std.proofs.Common.{◌≡◌, ℕ, zero, suc, ◌≤◌, Bool, true, false, List, [], ◌∷◌, ◌++◌, length, Option, None, Some, refl, sym, ap, subst, ◌∙◌, append_assoc, append-nil, arith}
use Rattle.std.specs.Prelude.{◌==◌, MatchOption, nat_le, if◌then◌else◌}
use Rattle.std.proofs.lemmas.Bool.{le-leb}
use Rattle.std.proofs.lemmas.List.{nil_from_length}
use Rattle.rr_journal.specs.Laws.{AreBytes}
use Rattle.rr_journal.specs.declared.step.TheConstants.{MAX_UNSYNCED}
use Rattle.rr_journal.specs.declared.fault.JournalFault.{JournalFault}
use Rattle.rr_journal.specs.declared.step.Stop.TheVariants.{End, Torn, Damaged}
use Rattle.rr_journal.specs.Text.{Raw, AllFit, after, record_text, records_text, chain}
use Rattle.rr_journal.specs.Reading.{record_at, with_first, first_records, records_of, followed_by, IsDamage, stop_at, stop_before, stop_of}
use Rattle.rr_journal.specs.Laws.{RecordsAreReadInTurn, RecordsAreTheirText, RecordsGoOn, TextsAreRead}
use Rattle.rr_journal.proofs.RecordLemmas.{Taken, record_again, record_taken, found_len, no_head}

abbrev Records : Type 0
Records = List Raw × List ℕ

-- ---- how many records are asked for doesn't matter, if it is no less than the bytes

pub nothing_at : (before : List ℕ) → record_at before [] ≡ None
nothing_at before = no_head before [] (omega arith)

nothing_of : (n : ℕ) (before bytes : List ℕ) → length bytes ≤ 0 → first_records n before bytes ≡ ([], bytes)
unfolding first_records
nothing_of zero before bytes none = refl
nothing_of (suc n) before bytes none =
    let is : bytes ≡ [] = nil_from_length bytes (omega (arith, none)) in
    ap (with_first bytes (λ x. first_records n (after before x.0) x.1)) (ap (record_at before) is ∙ nothing_at before)

pub enough : (n m : ℕ) (before bytes : List ℕ) → length bytes ≤ n → length bytes ≤ m
    → first_records n before bytes ≡ first_records m before bytes
unfolding first_records
enough zero m before bytes p q = sym (nothing_of m before bytes p)
enough (suc n) zero before bytes p q = nothing_of (suc n) before bytes q
enough (suc n) (suc m) before bytes p q = by_found (λ d b. enough n m d b) (record_at before bytes) refl
  where
    by_found : ((d b : List ℕ) → length b ≤ n → length b ≤ m → first_records n d b ≡ first_records m d b) → (o : Option (Raw × List ℕ)) → record_at before bytes ≡ o
        → first_records (suc n) before bytes ≡ first_records (suc m) before bytes
    by_found again None e = ap (with_first bytes (λ x. first_records n (after before x.0) x.1)) e
        ∙ sym (ap (with_first bytes (λ x. first_records m (after before x.0) x.1)) e)
    by_found again (Some x) e =
        let fewer = found_len before bytes x e in
        ap (with_first bytes (λ x. first_records n (after before x.0) x.1)) e
        ∙ ap (λ (y : Records). (x.0 ∷ y.0, y.1)) (again (after before x.0) x.1 (omega (arith, fewer, p))
        (omega (arith, fewer, q)))
        ∙ sym (ap (with_first bytes (λ x. first_records m (after before x.0) x.1)) e)

-- ---- by the first record

pub none_first : (before bytes : List ℕ) → record_at before bytes ≡ None → records_of before bytes ≡ ([], bytes)
unfolding first_records
none_first before bytes e =
    enough (length bytes) (suc (length bytes)) before bytes (omega arith) (omega arith)
    ∙ ap (with_first bytes (λ x. first_records (length bytes) (after before x.0) x.1)) e

pub one_first : (before bytes : List ℕ) (x : Raw × List ℕ) → record_at before bytes ≡ Some x
    → records_of before bytes ≡ followed_by (x.0 ∷ []) (records_of (after before x.0) x.1)
unfolding first_records
one_first before bytes x e =
    enough (length bytes) (suc (length bytes)) before bytes (omega arith) (omega arith)
    ∙ ap (with_first bytes (λ x. first_records (length bytes) (after before x.0) x.1)) e
    ∙ ap (λ (y : Records). (x.0 ∷ y.0, y.1)) (enough (length bytes) (length x.1) (after before x.0) x.1
    (omega (arith, found_len before bytes x e)) (omega arith))

-- ---- laws

pub records_are_read_in_turn : RecordsAreReadInTurn
records_are_read_in_turn before bytes = by_found (record_at before bytes) refl
  where
    by_found : (o : Option (Raw × List ℕ)) → record_at before bytes ≡ o
        → MatchOption o ((records_of before bytes ≡ ([], bytes)) × (stop_of before bytes ≡ stop_before bytes))
        (λ x. records_of before bytes ≡ followed_by (x.0 ∷ []) (records_of (after before x.0) x.1))
    by_found None e =
        let is = none_first before bytes e in
        (is, ap (λ (y : Records). stop_before y.1) is)
    by_found (Some x) e = one_first before bytes x e

pub reading_goes_on : RecordsGoOn
unfolding records_text
reading_goes_on before [] more fits = refl
reading_goes_on before (r ∷ rs) more fits =
    ap (records_of before) (append_assoc _ (records_text (after before r) rs) more)
    ∙ one_first before _ (r, records_text (after before r) rs ++ more)
    (record_again before r (records_text (after before r) rs ++ more) fits.0)
    ∙ ap (followed_by (r ∷ [])) (reading_goes_on (after before r) rs more fits.1)

pub texts_are_read : TextsAreRead
texts_are_read before rs fits =
    ap (records_of before) (sym (append-nil (records_text before rs)))
    ∙ reading_goes_on before rs [] fits
    ∙ ap (followed_by rs) (none_first (chain before rs) [] (nothing_at (chain before rs)))
    ∙ ap (λ (l : List Raw). (l, [])) (append-nil rs)

pub record IsReading (before bytes : List ℕ) (x : List Raw × List ℕ) : Type 0 where
  pub entries : AllFit x.0
  pub text : bytes ≡ records_text before x.0 ++ x.1
  pub none_left : record_at (chain before x.0) x.1 ≡ None

left_alone : (before bytes : List ℕ) → record_at before bytes ≡ None → IsReading before bytes (records_of before bytes)
unfolding records_text
left_alone before bytes none = subst (IsReading before bytes) (sym (none_first before bytes none))
    (record { entries = tt; text = refl; none_left = none })

one_taken : (before bytes : List ℕ) (x : Raw × List ℕ) → Taken before bytes x → record_at before bytes ≡ Some x
    → IsReading (after before x.0) x.1 (records_of (after before x.0) x.1)
    → IsReading before bytes (records_of before bytes)
unfolding records_text
one_taken before bytes x t e later =
    let y = records_of (after before x.0) x.1 in
    subst (IsReading before bytes) (sym (one_first before bytes x e))
    (record {
      entries = (t.entry, later.entries);
      text = t.text ∙ ap (λ (l : List ℕ). record_text before x.0 ++ l) later.text
          ∙ sym (append_assoc (record_text before x.0) (records_text (after before x.0) y.0) y.1);
      none_left = later.none_left;
    })

taken_by : (n : ℕ) (before bytes : List ℕ) → length bytes ≤ n → AreBytes bytes
    → IsReading before bytes (records_of before bytes)
taken_by zero before bytes few fits = left_alone before bytes (no_head before bytes (omega (arith, few)))
taken_by (suc n) before bytes few fits = by_found (λ d b. taken_by n d b) (record_at before bytes) refl
  where
    by_found : ((d b : List ℕ) → length b ≤ n → AreBytes b → IsReading d b (records_of d b)) → (o : Option (Raw × List ℕ)) → record_at before bytes ≡ o
        → IsReading before bytes (records_of before bytes)
    by_found again None e = left_alone before bytes e
    by_found again (Some x) e =
        let t = record_taken before bytes x fits e in
        one_taken before bytes x t e
        (again (after before x.0) x.1 (omega (arith, found_len before bytes x e, few)) t.rest_fits)

pub is_reading : (before bytes : List ℕ) → AreBytes bytes → IsReading before bytes (records_of before bytes)
is_reading before bytes fits = taken_by (length bytes) before bytes (omega arith) fits

pub records_are_their_text : RecordsAreTheirText
records_are_their_text before bytes rs rest fits = (
  (λ e. let r = subst (IsReading before bytes) e (is_reading before bytes fits) in (r.entries, r.text, r.none_left)),
  (λ p. ap (records_of before) p.1 ∙ reading_goes_on before rs rest p.0
      ∙ ap (followed_by rs) (none_first (chain before rs) rest p.2)
      ∙ ap (λ (l : List Raw). (l, rest)) (append-nil rs)),
)

-- ---- how much is left

left_by : (n : ℕ) (before bytes : List ℕ) → length (first_records n before bytes).1 ≤ length bytes
unfolding first_records
left_by zero before bytes = omega arith
left_by (suc n) before bytes = by_found (λ d b. left_by n d b) (record_at before bytes) refl
  where
    by_found : ((d b : List ℕ) → length (first_records n d b).1 ≤ length b) → (o : Option (Raw × List ℕ)) → record_at before bytes ≡ o
        → length (first_records (suc n) before bytes).1 ≤ length bytes
    by_found again None e = subst (λ (y : Records). length y.1 ≤ length bytes)
        (sym (ap (with_first bytes (λ x. first_records n (after before x.0) x.1)) e)) (omega arith)
    by_found again (Some x) e = subst (λ (y : Records). length y.1 ≤ length bytes)
        (sym (ap (with_first bytes (λ x. first_records n (after before x.0) x.1)) e))
        (omega (arith, found_len before bytes x e, again (after before x.0) x.1))

pub left_at_most : (before bytes : List ℕ) → length (records_of before bytes).1 ≤ length bytes
left_at_most before bytes = left_by (length bytes) before bytes

pub few_same : (fault other : JournalFault) (left : ℕ) → left ≤ MAX_UNSYNCED → stop_at fault left ≡ stop_at other left
few_same fault other left few =
    ap (λ (b : Bool). if left == 0 then End else (if b then Torn else Damaged fault)) (le-leb _ _ few)
    ∙ sym (ap (λ (b : Bool). if left == 0 then End else (if b then Torn else Damaged other)) (le-leb _ _ few))

pub not_damaged : (fault : JournalFault) (left : ℕ) → left ≤ MAX_UNSYNCED → ¬ IsDamage (stop_at fault left)
not_damaged fault left few h = by_tests (left == 0) (nat_le left MAX_UNSYNCED) (le-leb _ _ few) h
  where
    by_tests : (a b : Bool) → b ≡ true → IsDamage (if a then End else (if b then Torn else Damaged fault)) → ⊥
    by_tests true b is h = h
    by_tests false true is h = h
    by_tests false false is h = absurd (cc is)
