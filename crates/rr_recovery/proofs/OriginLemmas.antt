-- The last origin of records, one after the other.
use Rattle.std.proofs.Common.{◌≡◌, ℕ, ◌^◌, ◌<◌, ◌%◌, Bool, true, false, List, [], ◌∷◌, Option, None, Some, IfSome, Result, Ok, Err, ◌⊎◌, inl, inr, refl, sym, ap, subst, ◌∙◌}
use Rattle.std.specs.Prelude.{◌==◌, if◌then◌else◌}
use Rattle.std.proofs.lemmas.Bool.{eq-eqb}
use Rattle.rr_text.specs.Results.{◌>>=◌}
use Rattle.rr_schema.specs.Schema.{Layout}
use Rattle.rr_journal.specs.declared.cursor.Cursor.{Cursor}
use Rattle.rr_journal.specs.declared.fault.JournalFault.{JournalFault}
use Rattle.rr_journal.specs.declared.step.Stop.{Stop}
use Rattle.rr_journal.specs.Body.{Meaning, HasOrigin, meaning_at, origin_of, record_meaning}
use Rattle.rr_journal.specs.Reading.{records_of, followed_by}
use Rattle.rr_journal.specs.Text.{Raw, after}
use Rattle.rr_journal.proofs.ReadingLemmas.{one_first}
use Rattle.rr_recovery.specs.declared.fault.RecoveryFault.{RecoveryFault}
use Rattle.rr_recovery.specs.declared.fault.RecoveryFault.TheVariants.{ReadFailed, BadRecord, Memory}
use Rattle.rr_recovery.specs.Replaying.{FindsOrigin, IsFaultOf, last_origin, origin_after}
use Rattle.rr_recovery.specs.Taking.{as_bad}
use Rattle.rr_recovery.proofs.ReplayLemmas.{GoesOn, IsAt, ReadsNone, ReadsOne, SoFar, all_read}

abbrev Found : Type 0
Found = Result (Option ℕ) RecoveryFault

-- ---- one record

-- a record of an origin means what its body is
origin_means : (s : Layout) (r : Raw) → r.kind % 128 ≡ 2
    → record_meaning s r ≡ (origin_of r.body >>= λ origin. Ok (HasOrigin origin))
unfolding meaning_at
origin_means s r is = ap (λ (k : ℕ). meaning_at s k r.body) is

pub origin_read : (s : Layout) (r : Raw) (before : Option ℕ) (m : Meaning) → r.kind % 128 ≡ 2
    → ◌≡◌ {A = Result Meaning RecoveryFault} (as_bad (record_meaning s r)) (Ok m)
    → (origin : ℕ) × (m ≡ HasOrigin origin) × (origin_after before r ≡ Ok (Some origin))
origin_read s r before m is read =
    by_read (origin_of r.body) refl
    (sym (ap (λ (m : Result Meaning JournalFault). as_bad m) (origin_means s r is)) ∙ read)
  where
    by_read : (o : Result ℕ JournalFault) → origin_of r.body ≡ o
        → ◌≡◌ {A = Result Meaning RecoveryFault} (as_bad (o >>= λ origin. Ok (HasOrigin origin))) (Ok m)
        → (origin : ℕ) × (m ≡ HasOrigin origin) × (origin_after before r ≡ Ok (Some origin))
    by_read (Ok origin) e h = (
      origin,
      sym (cc h),
      ap (λ (b : Bool). if b then (as_bad (origin_of r.body) >>= λ o. Ok (Some o)) else Ok before)
          (eq-eqb (r.kind % 128) 2 is)
          ∙ ap (λ (o : Result ℕ JournalFault). as_bad o >>= λ p. Ok (Some p)) e,
    )
    by_read (Err fault) e h = absurd (cc h)

origin_bad : (s : Layout) (r : Raw) (before : Option ℕ) (fault : RecoveryFault) → r.kind % 128 ≡ 2
    → ◌≡◌ {A = Result Meaning RecoveryFault} (as_bad (record_meaning s r)) (Err fault)
    → origin_after before r ≡ Err fault
origin_bad s r before fault is read =
    by_read (origin_of r.body) refl
    (sym (ap (λ (m : Result Meaning JournalFault). as_bad m) (origin_means s r is)) ∙ read)
  where
    by_read : (o : Result ℕ JournalFault) → origin_of r.body ≡ o
        → ◌≡◌ {A = Result Meaning RecoveryFault} (as_bad (o >>= λ origin. Ok (HasOrigin origin))) (Err fault)
        → origin_after before r ≡ Err fault
    by_read (Ok origin) e h = absurd (cc h)
    by_read (Err f) e h =
        let same : BadRecord f ≡ fault = cc h in
        ap (λ (b : Bool). if b then (as_bad (origin_of r.body) >>= λ o. Ok (Some o)) else Ok before)
        (eq-eqb (r.kind % 128) 2 is)
        ∙ ap (λ (o : Result ℕ JournalFault). as_bad o >>= λ p. Ok (Some p)) e
        ∙ ap (λ (x : RecoveryFault). Err x) same

pub origin_bad_unless : (s : Layout) (r : Raw) (before : Option ℕ) (fault : RecoveryFault) → r.kind % 128 ≡ 2
    → (fault ≡ Memory) ⊎ (◌≡◌ {A = Result Meaning RecoveryFault} (as_bad (record_meaning s r)) (Err fault))
    → (fault ≡ Memory) ⊎ (origin_after before r ≡ Err fault)
origin_bad_unless s r before fault is (inl memory) = inl memory
origin_bad_unless s r before fault is (inr bad) = inr (origin_bad s r before fault is bad)

-- no fault of a record is one of the reader
pub never_read : (before : Option ℕ) (r : Raw) → origin_after before r ≡ Err ReadFailed → ⊥
never_read before r h = by_read (r.kind % 128 == 2) (origin_of r.body) h
  where
    by_read : (b : Bool) (o : Result ℕ JournalFault)
        → ◌≡◌ {A = Found} (if b then (as_bad o >>= λ p. Ok (Some p)) else Ok before) (Err ReadFailed) → ⊥
    by_read true (Ok o) h = absurd (cc h)
    by_read true (Err f) h = absurd (cc h)
    by_read false o h = absurd (cc h)

pub never_refused : (before : Option ℕ) (r : Raw) (fault : RecoveryFault)
    → (fault ≡ Memory) ⊎ (origin_after before r ≡ Err fault) → fault ≡ ReadFailed → ⊥
never_refused before r fault (inl memory) e = let h : Memory ≡ ReadFailed = sym memory ∙ e in absurd (cc h)
never_refused before r fault (inr bad) e = never_read before r (bad ∙ ap (λ (f : RecoveryFault). Err f) e)

-- ---- records

-- the last origin of those that are left is that of all
abbrev pub FindsTheSame : Option ℕ → List Raw → List Raw → Type 0
FindsTheSame origin left all = last_origin origin left ≡ last_origin None all

pub finds_on : (origin next : Option ℕ) (r : Raw) → origin_after origin r ≡ Ok next
    → GoesOn (FindsTheSame origin) (FindsTheSame next) r
finds_on origin next r first rs all whole =
    sym (ap (λ (t : Found). t >>= λ o. last_origin o rs) first) ∙ whole

pub is_found : (place now next : Cursor) (origin : Option ℕ) (old left : Option (List ℕ)) (stop : Stop)
    → SoFar place now old left (FindsTheSame origin) → ReadsNone now stop left → next ≡ now → now.offset < 2 ^ 64
    → IfSome old (λ bytes. FindsOrigin place next bytes (Ok (stop, origin)))
is_found place now next origin None left stop so_far step is fits = tt
is_found place now next origin (Some bytes) None stop so_far step is fits = absurd (cc so_far.1)
is_found place now next origin (Some bytes) (Some all) stop so_far step is fits =
    let same : all ≡ so_far.0 = cc so_far.1 in
    let h = subst (λ (l : List ℕ). IsAt place now bytes l (FindsTheSame origin)) (sym same) so_far.2 in
    let end = all_read place now next bytes all stop (FindsTheSame origin) h step is fits in
    (sym end.0, end.1)

pub is_refused : (place now : Cursor) (origin : Option ℕ) (r : Raw) (old left new : Option (List ℕ))
    (fault : RecoveryFault) → SoFar place now old left (FindsTheSame origin) → ReadsOne now r left new
    → (fault ≡ Memory) ⊎ (origin_after origin r ≡ Err fault)
    → IfSome old (λ bytes. IsFaultOf (last_origin None (records_of place.digest bytes).0) fault)
is_refused place now origin r None left new fault so_far step bad = tt
is_refused place now origin r (Some bytes) None new fault so_far step bad = absurd (cc so_far.1)
is_refused place now origin r (Some bytes) (Some all) new fault so_far step (inl memory) = inr (inl memory)
is_refused place now origin r (Some bytes) (Some all) new fault so_far step (inr bad) =
    let same : all ≡ so_far.0 = cc so_far.1 in
    let h = subst (λ (l : List ℕ). IsAt place now bytes l (FindsTheSame origin)) (sym same) so_far.2 in
    let rest = records_of (after now.digest r) step.0 in
    let read : records_of now.digest all ≡ followed_by (r ∷ []) rest = one_first now.digest all (r, step.0) step.2 in
    inr (inr (sym h.same ∙ ap (λ (z : List Raw × List ℕ). last_origin origin z.0) read
    ∙ ap (λ (t : Found). t >>= λ o. last_origin o rest.0) bad))
