-- What reading a file makes, step by step.
use Rattle.std.proofs.Common.{◌≡◌, ℕ, Bool, true, false, List, Option, None, Some, IfSome, Result, Ok, Err, ◌⊎◌, inl, inr, refl, sym, ap, subst, ◌∙◌}
use Rattle.std.proofs.lemmas.Bool.{eq-eqb, ne_eqb}
use Rattle.std.specs.Prelude.{IsTrue, ◌↔◌, take, length}
use Rattle.std.specs.Result.{result_err}
use Rattle.rr_text.specs.Results.{◌>>=◌, unless_faulty}
use Rattle.rr_schema.specs.Schema.{Layout}
use Rattle.rr_journal.specs.declared.cursor.Cursor.{Cursor}
use Rattle.rr_journal.specs.declared.fault.JournalFault.{JournalFault}
use Rattle.rr_journal.specs.declared.fault.JournalFault.TheVariants as journal
use Rattle.rr_journal.specs.declared.step.Stop.{Stop}
use Rattle.rr_journal.specs.Cursor.{behind_all}
use Rattle.rr_journal.specs.Header.{header_at, header_len, ReadsHeader}
use Rattle.rr_recovery.specs.Taking.{Recovery, taken_records}
use Rattle.rr_directory.specs.declared.fault.FileFault.{FileFault}
use Rattle.rr_directory.specs.declared.fault.FileFault.TheVariants as file
use Rattle.rr_directory.specs.declared.name.FileName.{FileName}
use Rattle.rr_directory.specs.Opening.{Opens}
use Rattle.rr_directory.specs.Reading.{IsFileFault, Reached, after_checkpoint, after_journal, as_file, bytes_before, checkpoint_fault, file_records, file_stop, is_whole, journal_fault, named_place, place_of, records_bytes, states, torn_len}
use Rattle.rr_directory.specs.Recovering.{TakesCheckpoint}

-- ---- headers

-- what a header gives is what is found by its bytes, or the reader failed, or memory ran out
placed : (s : Layout) (name : FileName) (bytes : List ℕ) (r : Result Cursor JournalFault) (out : Result Cursor FileFault)
    → (header_at s (take (header_len s) bytes) >>= λ h. Ok h.0) ≡ r → out ≡ named_place name r
    → place_of s name bytes ≡ out
placed s name bytes r out read is = ap (named_place name) read ∙ sym is

answered : (s : Layout) (name : FileName) (bytes : List ℕ) (left : Option (List ℕ)) (out : Result Cursor FileFault)
    → place_of s name bytes ≡ out → left ≡ Some (records_bytes s bytes) → Opens s name bytes left out
answered s name bytes left (Ok c) is rest = (is, rest)
answered s name bytes left (Err fault) is rest = inr (inr is)

stream_fault : (s : Layout) (name : FileName) (bytes : List ℕ) (left : Option (List ℕ)) (fault : JournalFault)
    (out : Result Cursor FileFault) → (fault ≡ journal.ReadFailed) ⊎ (fault ≡ journal.Memory)
    → out ≡ named_place name (Err fault) → Opens s name bytes left out
stream_fault s name bytes left fault out (inl failed) is =
    let e : out ≡ Err file.ReadFailed = is ∙ ap (λ (f : JournalFault). named_place name (Err f)) failed in
    subst (Opens s name bytes left) (sym e) (inl refl)
stream_fault s name bytes left fault out (inr memory) is =
    let e : out ≡ Err file.Memory = is ∙ ap (λ (f : JournalFault). named_place name (Err f)) memory in
    subst (Opens s name bytes left) (sym e) (inr (inl refl))

refused : (s : Layout) (name : FileName) (bytes : List ℕ) (left : Option (List ℕ)) (fault : JournalFault)
    (out : Result Cursor FileFault) → header_at s (take (header_len s) bytes) ≡ Err fault
    → out ≡ named_place name (Err fault) → Opens s name bytes left out
refused s name bytes left fault (Ok c) read is = absurd (cc is)
refused s name bytes left fault (Err f) read is =
    inr (inr (placed s name bytes (Err fault) (Err f)
    (ap (λ (r : Result (Cursor × List ℕ) JournalFault). r >>= λ h. Ok h.0) read) is))

pub opened : (s : Layout) (name : FileName) (old new : Option (List ℕ)) (r : Result Cursor JournalFault)
    (out : Result Cursor FileFault) → ReadsHeader s old new r → out ≡ named_place name r
    → IfSome old (λ bytes. Opens s name bytes new out)
opened s name None new r out h is = tt
opened s name (Some bytes) new (Ok c) out h is =
    answered s name bytes new out
    (placed s name bytes (Ok c) out
    (ap (λ (r : Result (Cursor × List ℕ) JournalFault). r >>= λ h. Ok h.0) h.2) is) h.1
opened s name (Some bytes) new (Err fault) out (inl failed) is =
    stream_fault s name bytes new fault out (inl failed) is
opened s name (Some bytes) new (Err fault) out (inr (inl memory)) is =
    stream_fault s name bytes new fault out (inr memory) is
opened s name (Some bytes) new (Err fault) out (inr (inr read)) is = refused s name bytes new fault out read is

-- ---- records

-- the bytes that are known are these
pub known_is : (known : Option (List ℕ)) (bytes : List ℕ) (P : List ℕ → Type 0) → known ≡ Some bytes → IfSome known P
    → P bytes
known_is None bytes P e h = absurd (cc e)
known_is (Some all) bytes P e h = let same : all ≡ bytes = cc e in subst P same h

-- what comes after a step that is refused
then_refused : {A B : Type 0} (r : Result A FileFault) (next : A → Result B FileFault) (fault : FileFault)
    → IsFileFault r fault → IsFileFault (r >>= next) fault
then_refused r next fault (inl failed) = inl failed
then_refused r next fault (inr (inl memory)) = inr (inl memory)
then_refused r next fault (inr (inr e)) = inr (inr (ap (λ (x : Result _ FileFault). x >>= next) e))

pub checkpoint_refused : (s : Layout) (x : Recovery) (begins : Cursor) (bytes : List ℕ) (fault : FileFault)
    → IsFileFault (as_file (taken_records x (file_records s begins bytes))) fault
    → IsFileFault (after_checkpoint s x begins bytes) fault
unfolding after_checkpoint
checkpoint_refused s x begins bytes fault h =
    then_refused (as_file (taken_records x (file_records s begins bytes))) _ fault h

pub journal_refused : (s : Layout) (last : Bool) (x : Recovery) (begins : Cursor) (bytes : List ℕ) (fault : FileFault)
    → IsFileFault (as_file (taken_records x (file_records s begins bytes))) fault
    → IsFileFault (after_journal s last x begins bytes) fault
unfolding after_journal
journal_refused s last x begins bytes fault h =
    then_refused (as_file (taken_records x (file_records s begins bytes))) _ fault h

checkpoint_is : (s : Layout) (x y : Recovery) (begins : Cursor) (bytes : List ℕ) (o : Option FileFault)
    → as_file (taken_records x (file_records s begins bytes)) ≡ Ok y
    → o ≡ checkpoint_fault (file_stop s begins bytes) (is_whole y.found)
    (bytes_before s begins (behind_all begins (file_records s begins bytes)))
    → after_checkpoint s x begins bytes
    ≡ unless_faulty o (record { place = Some begins; recovery = y; torn = 0 })
unfolding after_checkpoint
checkpoint_is s x y begins bytes o taken is =
    let next : Recovery → Result Reached FileFault = λ z. unless_faulty
    (checkpoint_fault (file_stop s begins bytes) (is_whole z.found)
    (bytes_before s begins (behind_all begins (file_records s begins bytes))))
    (record { place = Some begins; recovery = z; torn = 0 }) in
    let reached : Reached = record { place = Some begins; recovery = y; torn = 0 } in
    ap (λ (r : Result Recovery FileFault). r >>= next) taken
    ∙ ap (λ (p : Option FileFault). unless_faulty p reached) (sym is)

pub checkpoint_taken : (s : Layout) (x y : Recovery) (begins : Cursor) (bytes : List ℕ) (r : Result (Unit {0}) FileFault)
    → as_file (taken_records x (file_records s begins bytes)) ≡ Ok y
    → result_err r ≡ checkpoint_fault (file_stop s begins bytes) (is_whole y.found)
    (bytes_before s begins (behind_all begins (file_records s begins bytes)))
    → TakesCheckpoint begins y (after_checkpoint s x begins bytes) r
checkpoint_taken s x y begins bytes (Ok done) taken is = checkpoint_is s x y begins bytes None taken is
checkpoint_taken s x y begins bytes (Err fault) taken is =
    inr (inr (checkpoint_is s x y begins bytes (Some fault) taken is))

pub journal_is : (s : Layout) (last : Bool) (x y : Recovery) (begins : Cursor) (bytes : List ℕ) (o : Option FileFault)
    → as_file (taken_records x (file_records s begins bytes)) ≡ Ok y
    → o ≡ journal_fault (file_stop s begins bytes) last
    (bytes_before s begins (behind_all begins (file_records s begins bytes)))
    → after_journal s last x begins bytes ≡ unless_faulty o (record {
      place = Some (behind_all begins (file_records s begins bytes));
      recovery = y;
      torn = torn_len (file_stop s begins bytes) (length bytes)
          (bytes_before s begins (behind_all begins (file_records s begins bytes)));
    })
unfolding after_journal
journal_is s last x y begins bytes o taken is =
    let end : Cursor = behind_all begins (file_records s begins bytes) in
    let stop : Stop = file_stop s begins bytes in
    let at : ℕ = bytes_before s begins end in
    let reached : Recovery → Reached = λ z. record {
      place = Some end;
      recovery = z;
      torn = torn_len stop (length bytes) at;
    } in
    let next : Recovery → Result Reached FileFault = λ z. unless_faulty (journal_fault stop last at) (reached z) in
    ap (λ (r : Result Recovery FileFault). r >>= next) taken
    ∙ ap (λ (p : Option FileFault). unless_faulty p (reached y)) (sym is)

pub whole_is : (end : Option ℕ) (cells : ℕ) (b : Bool) → IsTrue b ↔ (end ≡ Some cells) → b ≡ states end cells
whole_is None cells true h = absurd (cc (h.0 refl))
whole_is None cells false h = refl
whole_is (Some count) cells true h =
    let same : count ≡ cells = cc (h.0 refl) in
    sym (eq-eqb count cells same)
whole_is (Some count) cells false h =
    sym (ne_eqb count cells (λ e. absurd (cc (h.1 (ap (λ (n : ℕ). Some n) e)))))
