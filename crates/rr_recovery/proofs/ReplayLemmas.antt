-- Records of a stream, one after the other.
use Rattle.std.proofs.Common.{◌≡◌, ℕ, ◌+◌, ◌-◌, ◌^◌, ◌<◌, Bool, true, false, List, [], ◌∷◌, Option, None, Some, IfSome, Result, Ok, Err, ◌⊎◌, inl, inr, refl, sym, ap, subst, ◌∙◌, arith}
use Rattle.std.specs.Prelude.{min, ◌==◌}
use Rattle.std.specs.List.{flat_map}
use Rattle.rr_text.specs.Results.{◌>>=◌, unless}
use Rattle.rr_cells.specs.CellBounds.{NamedCell}
use Rattle.rr_journal.specs.declared.cursor.Cursor.{Cursor}
use Rattle.rr_journal.specs.declared.fault.JournalFault.{JournalFault}
use Rattle.rr_journal.specs.declared.step.Stop.{Stop}
use Rattle.rr_journal.specs.Body.{Meaning, HasCells, HasOrigin, HasJoined, HasEnded, HasWitness, record_meaning}
use Rattle.rr_journal.specs.Cursor.{behind, behind_all, moved_by}
use Rattle.rr_journal.specs.Reading.{record_at, records_of, stop_before, stop_of, followed_by}
use Rattle.rr_journal.specs.Text.{Raw, after, chain, record_len, records_len}
use Rattle.rr_journal.proofs.ReadingLemmas.{none_first, one_first}
use Rattle.rr_recovery.specs.declared.fault.RecoveryFault.{RecoveryFault}
use Rattle.rr_recovery.specs.declared.fault.RecoveryFault.TheVariants.{ReadFailed, OriginUsed, Memory}
use Rattle.rr_recovery.specs.Joining.{group_cells}
use Rattle.rr_recovery.specs.Replaying.{IsFaultOf, ReadsAll, Replays}
use Rattle.rr_recovery.specs.Taking.{Recovery, as_bad, taken, taken_cells, taken_record, taken_records, with_one, with_record}

abbrev Taken : Type 0
Taken = Result Recovery RecoveryFault

-- ---- places

pub behind_none : (c : Cursor) → c.offset < 2 ^ 64 → c ≡ behind_all c []
behind_none c fits =
    let same : c.offset ≡ min (c.offset + 0) (2 ^ 64 - 1) = omega (arith, fits) in
    λ i. record { id = c.id; offset = same i; digest = c.digest }

pub behind_more : (c : Cursor) (r : Raw) (rs : List Raw) → behind_all (behind c r) rs ≡ behind_all c (r ∷ rs)
behind_more c r rs =
    let same : moved_by (records_len rs) (moved_by (record_len r) c.offset) ≡ moved_by (record_len r + records_len rs)
    c.offset = grind arith in
    λ i. record { id = c.id; offset = same i; digest = chain (after c.digest r) rs }

-- ---- so far

-- of the bytes at a place these are left, and the records that are read there are those that are left
pub record IsAt (place now : Cursor) (bytes left : List ℕ) (done : List Raw → List Raw → Type 0) : Type 0 where
  pub same : done (records_of now.digest left).0 (records_of place.digest bytes).0
  pub behind : behind_all now (records_of now.digest left).0 ≡ behind_all place (records_of place.digest bytes).0
  pub stop : stop_of now.digest left ≡ stop_of place.digest bytes

-- to take those that are left is to take all
abbrev pub TakesTheSame : Recovery → Recovery → List Raw → List Raw → Type 0
TakesTheSame x now left all = taken_records now left ≡ taken_records x all

-- where the bytes are known
abbrev pub SoFar : Cursor → Cursor → Option (List ℕ) → Option (List ℕ) → (List Raw → List Raw → Type 0) → Type 0
SoFar place now old new done = IfSome old (λ bytes. (left : List ℕ) × (new ≡ Some left) × IsAt place now bytes left done)

pub at_start : (place : Cursor) (old : Option (List ℕ)) (done : List Raw → List Raw → Type 0)
    → ((rs : List Raw) → done rs rs) → SoFar place place old old done
at_start place None done same = tt
at_start place (Some bytes) done same = (
  bytes,
  refl,
  record
      { same = same (records_of place.digest bytes).0; behind = refl; stop = refl },
)

-- a record was read
abbrev pub ReadsOne : Cursor → Raw → Option (List ℕ) → Option (List ℕ) → Type 0
ReadsOne now r old new =
    IfSome old (λ all. (rest : List ℕ) × (new ≡ Some rest) × (record_at now.digest all ≡ Some (r, rest)))

-- none was
abbrev pub ReadsNone : Cursor → Stop → Option (List ℕ) → Type 0
ReadsNone now stop old = IfSome old (λ all. (record_at now.digest all ≡ None) × (stop ≡ stop_before all))

-- what is done of the first record and then of the others is done of all
abbrev pub GoesOn : (List Raw → List Raw → Type 0) → (List Raw → List Raw → Type 0) → Raw → Type 0
GoesOn before later r = (rs all : List Raw) → before (r ∷ rs) all → later rs all

pub one_more : (place now next : Cursor) (r : Raw) (old left new : Option (List ℕ))
    (before later : List Raw → List Raw → Type 0) → SoFar place now old left before → ReadsOne now r left new
    → next ≡ behind now r → GoesOn before later r → SoFar place next old new later
one_more place now next r None left new before later so_far step is goes = tt
one_more place now next r (Some bytes) None new before later so_far step is goes = absurd (cc so_far.1)
one_more place now next r (Some bytes) (Some all) new before later so_far step is goes =
    let same : all ≡ so_far.0 = cc so_far.1 in
    let h = subst (λ (l : List ℕ). IsAt place now bytes l before) (sym same) so_far.2 in
    let rest = records_of (after now.digest r) step.0 in
    let read : records_of now.digest all ≡ followed_by (r ∷ []) rest = one_first now.digest all (r, step.0) step.2 in (
      step.0,
      step.1,
      subst (λ (p : Cursor). IsAt place p bytes step.0 later) (sym is) (record {
        same = goes rest.0 (records_of place.digest bytes).0
            (subst (λ (x : List Raw × List ℕ). before x.0 (records_of place.digest bytes).0) read h.same);
        behind = behind_more now r rest.0 ∙ sym (ap (λ (x : List Raw × List ℕ). behind_all now x.0) read) ∙ h.behind;
        stop = sym (ap (λ (x : List Raw × List ℕ). stop_before x.1) read) ∙ h.stop;
      }),
    )

-- at the end
pub all_read : (place now next : Cursor) (bytes all : List ℕ) (stop : Stop) (done : List Raw → List Raw → Type 0)
    → IsAt place now bytes all done → (record_at now.digest all ≡ None) × (stop ≡ stop_before all) → next ≡ now
    → now.offset < 2 ^ 64 → done [] (records_of place.digest bytes).0 × ReadsAll place next bytes stop
all_read place now next bytes all stop done h step is fits =
    let none : records_of now.digest all ≡ ([], all) = none_first now.digest all step.0 in (
      subst (λ (x : List Raw × List ℕ). done x.0 (records_of place.digest bytes).0) none h.same,
      record {
        place = is ∙ behind_none now fits ∙ sym (ap (λ (x : List Raw × List ℕ). behind_all now x.0) none) ∙ h.behind;
        stop = step.1 ∙ sym (ap (λ (x : List Raw × List ℕ). stop_before x.1) none) ∙ h.stop;
      },
    )

-- ---- replaying

pub takes_on : (x now new : Recovery) (r : Raw) → taken_record now r ≡ Ok new
    → GoesOn (TakesTheSame x now) (TakesTheSame x new) r
takes_on x now new r first rs all whole =
    sym (ap (λ (t : Taken). t >>= λ y. taken_records y rs) first) ∙ whole

pub is_replayed : (place now next : Cursor) (x new : Recovery) (old left : Option (List ℕ)) (stop : Stop)
    → SoFar place now old left (TakesTheSame x new) → ReadsNone now stop left → next ≡ now → now.offset < 2 ^ 64
    → IfSome old (λ bytes. Replays place next x new bytes (Ok stop))
is_replayed place now next x new None left stop so_far step is fits = tt
is_replayed place now next x new (Some bytes) None stop so_far step is fits = absurd (cc so_far.1)
is_replayed place now next x new (Some bytes) (Some all) stop so_far step is fits =
    let same : all ≡ so_far.0 = cc so_far.1 in
    let h = subst (λ (l : List ℕ). IsAt place now bytes l (TakesTheSame x new)) (sym same) so_far.2 in
    let end = all_read place now next bytes all stop (TakesTheSame x new) h step is fits in
    (sym end.0, end.1)

pub is_refused : (place now : Cursor) (x y : Recovery) (r : Raw) (old left new : Option (List ℕ)) (fault : RecoveryFault)
    → SoFar place now old left (TakesTheSame x y) → ReadsOne now r left new
    → (fault ≡ Memory) ⊎ (taken_record y r ≡ Err fault)
    → IfSome old (λ bytes. IsFaultOf (taken_records x (records_of place.digest bytes).0) fault)
is_refused place now x y r None left new fault so_far step bad = tt
is_refused place now x y r (Some bytes) None new fault so_far step bad = absurd (cc so_far.1)
is_refused place now x y r (Some bytes) (Some all) new fault so_far step (inl memory) = inr (inl memory)
is_refused place now x y r (Some bytes) (Some all) new fault so_far step (inr bad) =
    let same : all ≡ so_far.0 = cc so_far.1 in
    let h = subst (λ (l : List ℕ). IsAt place now bytes l (TakesTheSame x y)) (sym same) so_far.2 in
    let rest = records_of (after now.digest r) step.0 in
    let read : records_of now.digest all ≡ followed_by (r ∷ []) rest = one_first now.digest all (r, step.0) step.2 in
    inr (inr (sym h.same ∙ ap (λ (z : List Raw × List ℕ). taken_records y z.0) read
    ∙ ap (λ (t : Taken). t >>= λ z. taken_records z rest.0) bad))

-- ---- a record is never refused as a failure of the reader

no_read_in_cells : (x : Recovery) (es : List NamedCell) → taken_cells x es ≡ Err ReadFailed → ⊥
no_read_in_cells x [] e = absurd (cc e)
no_read_in_cells x (e ∷ es) h = by_test (e.0.origin == x.replica.origin) (no_read_in_cells (with_one x e) es) h
  where
    by_test : (b : Bool) → (taken_cells (with_one x e) es ≡ Err ReadFailed → ⊥)
        → unless OriginUsed b (taken_cells (with_one x e) es) ≡ Err ReadFailed → ⊥
    by_test true later h = absurd (cc h)
    by_test false later h = later h

no_read_in_origin : (b : Bool) (y : Recovery) → ◌≡◌ {A = Taken} (unless OriginUsed b (Ok y)) (Err ReadFailed) → ⊥
no_read_in_origin true y h = absurd (cc h)
no_read_in_origin false y h = absurd (cc h)

no_read_in_taken : (x : Recovery) (m : Meaning) → taken x m ≡ Err ReadFailed → ⊥
no_read_in_taken x (HasCells groups) h = no_read_in_cells x (flat_map group_cells groups) h
no_read_in_taken x (HasOrigin origin) h = no_read_in_origin (origin == x.replica.origin) _ h
no_read_in_taken x (HasJoined cursor) h = absurd (cc h)
no_read_in_taken x (HasEnded count) h = absurd (cc h)
no_read_in_taken x (HasWitness witness) h = absurd (cc h)

pub never_read_failed : (x : Recovery) (r : Raw) → taken_record x r ≡ Err ReadFailed → ⊥
never_read_failed x r h = by_read (record_meaning x.replica.schema r) h
  where
    by_read : (m : Result Meaning JournalFault) → (as_bad m >>= taken (with_record x)) ≡ Err ReadFailed → ⊥
    by_read (Ok m) h = no_read_in_taken (with_record x) m h
    by_read (Err fault) h = absurd (cc h)

pub never_refused : (x : Recovery) (r : Raw) (fault : RecoveryFault)
    → (fault ≡ Memory) ⊎ (taken_record x r ≡ Err fault) → fault ≡ ReadFailed → ⊥
never_refused x r fault (inl memory) e = let h : Memory ≡ ReadFailed = sym memory ∙ e in absurd (cc h)
never_refused x r fault (inr bad) e = never_read_failed x r (bad ∙ ap (λ (f : RecoveryFault). Err f) e)
