-- A checkpoint, as a start reads it.
use Rattle.std.proofs.Common.{◌≡◌, ℕ, ◌≤◌, Bool, false, List, [], ◌∷◌, ◌++◌, length, take, drop, Option, None, Some, Result, Ok, Err, refl, sym, ap, subst, ◌∙◌, append-nil, arith}
use Rattle.std.specs.Prelude.{not, ◌==◌, ◌<◌, ◌^◌}
use Rattle.std.specs.Int.{w16, w64, to_be_bytes}
use Rattle.std.proofs.lemmas.Bool.{eq-eqb}
use Rattle.std.proofs.lemmas.Grind.{flat_map-append}
use Rattle.std.proofs.lemmas.List.{length-append, take_at, drop_at}
use Rattle.rr_text.specs.Results.{◌>>=◌, unless, unless_faulty}
use Rattle.rr_schema.specs.Schema.{Layout}
use Rattle.rr_schema.specs.SchemaBytes.{schema_bytes}
use Rattle.rr_cells.specs.Joins.{join_cells}
use Rattle.rr_cells.specs.ReplicaState.{ReplicaState}
use Rattle.rr_directory.specs.declared.fault.FileFault.{FileFault}
use Rattle.rr_directory.specs.declared.fault.FileFault.TheVariants as file
use Rattle.rr_directory.specs.declared.name.FileName.TheVariants.{Checkpoint}
use Rattle.rr_directory.specs.Reading.{Reached, after_checkpoint, as_file, bytes_before, checkpoint_fault, file_records, file_stop, is_whole, named_place, records_bytes}
use Rattle.rr_journal.specs.declared.cursor.Cursor.{Cursor}
use Rattle.rr_journal.specs.declared.fault.JournalFault.{JournalFault}
use Rattle.rr_journal.specs.declared.raw.TheConstants.{MAX_BODY_LEN}
use Rattle.rr_journal.specs.Body.{Meaning, HasEnded, record_meaning}
use Rattle.rr_journal.specs.Cursor.{IsCursor, behind_all, cursor_text}
use Rattle.rr_journal.specs.Digest.{cut_digest}
use Rattle.rr_journal.specs.Header.{header_at, header_len, header_text, undigested_header, undigested_len}
use Rattle.rr_journal.specs.Reading.{records_of, stop_before}
use Rattle.rr_journal.specs.Text.{Raw, AllFit, records_text}
use Rattle.rr_journal.proofs.BodyLemmas.{bodies_are_read}
use Rattle.rr_journal.proofs.FieldLemmas.{bind_ok as step_ok}
use Rattle.rr_journal.proofs.HeaderLemmas.{headers_are_read}
use Rattle.rr_journal.proofs.ReadingLemmas.{texts_are_read}
use Rattle.rr_journal.proofs.RecordLemmas.{cut_len}
use Rattle.rr_recovery.specs.declared.fault.RecoveryFault.{RecoveryFault}
use Rattle.rr_recovery.specs.Joining.{cells_of_record}
use Rattle.rr_recovery.specs.Laws.{cells_of_all, meanings_of}
use Rattle.rr_recovery.specs.Taking.{Recovery, taken_records}
use Rattle.rr_recovery.proofs.LawLemmas.{records_are_taken, replays_join}
use Rattle.rr_checkpoint.specs.Laws.{CheckpointsAreRead, CheckpointsAreTaken}
use Rattle.rr_checkpoint.specs.Text.{checkpoint_text, end_text}
use Rattle.rr_checkpoint.proofs.TextLemmas.{end_fits}

-- ---- the header

cursor_len : (c : Cursor) → IsCursor c → length (cursor_text c) ≡ 32
unfolding cursor_text
cursor_len c is = omega (
  arith,
  is.id,
  is.digest,
  length-append c.id (to_be_bytes w64 c.offset ++ c.digest),
  length-append (to_be_bytes w64 c.offset) c.digest,
)

undigested_is : (s : Layout) (c : Cursor) → IsCursor c → length (undigested_header s c) ≡ undigested_len s
unfolding undigested_header
undigested_is s c is = omega (
  arith,
  cursor_len c is,
  length-append (to_be_bytes w16 (length (schema_bytes s))) (schema_bytes s ++ cursor_text c),
  length-append (schema_bytes s) (cursor_text c),
)

header_is : (s : Layout) (c : Cursor) → IsCursor c → length (header_text s c) ≡ header_len s
unfolding header_text
header_is s c is = omega (
  arith,
  undigested_is s c is,
  cut_len (undigested_header s c),
  length-append (undigested_header s c) (cut_digest (undigested_header s c)),
)

-- ---- the records

fit_more : (rs : List Raw) (r : Raw) → AllFit rs → length r.body ≤ MAX_BODY_LEN → AllFit (rs ++ r ∷ [])
fit_more [] r all fits = (fits, tt)
fit_more (q ∷ rs) r all fits = (all.0, fit_more rs r all.1 fits)

same_bool : (n : ℕ) → not (n == n) ≡ false
same_bool n = ap not (eq-eqb n n refl)

pub checkpoints_are_read : CheckpointsAreRead
checkpoints_are_read s begins rs cells is at fit =
    let header = header_text s begins in
    let all = rs ++ end_text cells ∷ [] in
    let text = records_text begins.digest all in
    let len = header_is s begins at in
    let first : take (header_len s) (header ++ text) ≡ header = take_at header text (header_len s) len in
    let rest : drop (header_len s) (header ++ text) ≡ text = drop_at header text (header_len s) len in
    let read = texts_are_read begins.digest all (fit_more rs (end_text cells) fit (end_fits cells)) in
    let left : (records_of begins.digest (records_bytes s (header ++ text))) ≡ (all, []) =
    ap (records_of begins.digest) rest ∙ read in
    let place : (header_at s (take (header_len s) (header ++ text)) >>= λ h. Ok h.0) ≡ Ok begins =
    ap (λ (l : List ℕ). header_at s l >>= λ h. Ok h.0) (first ∙ sym (append-nil header))
    ∙ ap (λ (h : Result (Cursor × List ℕ) JournalFault). h >>= λ h. Ok h.0) (headers_are_read s begins [] is at) in
    record {
      place = ap (named_place (Checkpoint begins.offset)) place
          ∙ ap (λ (b : Bool). unless file.Misnamed b (Ok begins)) (same_bool begins.offset);
      records = ap (λ (x : List Raw × List ℕ). x.0) left;
      stop = ap (λ (x : List Raw × List ℕ). stop_before x.1) left;
    }

-- ---- what is taken

abbrev taken_at : Cursor → Recovery → Reached
taken_at begins z = record { place = Some begins; recovery = z; torn = 0 }

bind_ok : {A B : Type 0} (r : Result A FileFault) (f : A → Result B FileFault) (y : B) → (r >>= f) ≡ Ok y
    → (x : A) × (r ≡ Ok x) × (f x ≡ Ok y)
bind_ok (Ok x) f y e = (x, refl, e)
bind_ok (Err fault) f y e = absurd cc

unless_ok : {A : Type 0} (o : Option FileFault) (x y : A) → unless_faulty o x ≡ Ok y → x ≡ y
unless_ok None x y e = cc e
unless_ok (Some fault) x y e = absurd (cc e)

as_file_ok : {A : Type 0} (r : Result A RecoveryFault) (x : A) → as_file r ≡ Ok x → r ≡ Ok x
as_file_ok (Ok y) x e = let same : y ≡ x = cc e in ap (λ z. Ok z) same
as_file_ok (Err fault) x e = absurd (cc e)

-- one record more means one thing more
meanings_more : (s : Layout) (rs : List Raw) (ms : List Meaning) (r : Raw) (m : Meaning) → meanings_of s rs ≡ Ok ms
    → record_meaning s r ≡ Ok m → meanings_of s (rs ++ r ∷ []) ≡ Ok (ms ++ m ∷ [])
meanings_more s [] ms r m e is =
    let none : [] ≡ ms = cc e in
    ap (λ (t : Result Meaning JournalFault). t >>= λ n. Ok (n ∷ [])) is
    ∙ ap (λ (l : List Meaning). Ok (l ++ m ∷ [])) none
meanings_more s (q ∷ rs) ms r m e is =
    let a = step_ok (record_meaning s q) (λ n. meanings_of s rs >>= λ l. Ok (n ∷ l)) ms e in
    let b = step_ok (meanings_of s rs) (λ l. Ok (a.0 ∷ l)) ms a.2 in
    let whole : a.0 ∷ b.0 ≡ ms = cc (b.2) in
    ap (λ (t : Result Meaning JournalFault). t >>= λ n. meanings_of s (rs ++ r ∷ []) >>= λ l. Ok (n ∷ l)) a.1
    ∙ ap (λ (t : Result (List Meaning) JournalFault). t >>= λ l. Ok (a.0 ∷ l)) (meanings_more s rs b.0 r m b.1 is)
    ∙ ap (λ (l : List Meaning). Ok (l ++ m ∷ [])) whole

-- the end means no cells
cells_of_both : (ms : List Meaning) (cells : ℕ) → cells_of_all (ms ++ HasEnded cells ∷ []) ≡ cells_of_all ms
cells_of_both ms cells = flat_map-append cells_of_record ms (HasEnded cells ∷ []) ∙ append-nil (cells_of_all ms)

taken_cells : (s : Layout) (x z : Recovery) (rs : List Raw) (cells : ℕ) (ms : List Meaning) → cells < 2 ^ 64
    → meanings_of s rs ≡ Ok ms → x.replica.schema ≡ s → taken_records x (rs ++ end_text cells ∷ []) ≡ Ok z
    → z.replica.cells ≡ join_cells s x.replica.cells (cells_of_all ms)
taken_cells s x z rs cells ms few means schema e =
    let taken = records_are_taken x z (rs ++ end_text cells ∷ []) e in
    let end : record_meaning s (end_text cells) ≡ Ok (HasEnded cells) = (bodies_are_read s (HasEnded cells) few).0 in
    let read : meanings_of s (rs ++ end_text cells ∷ []) ≡ Ok taken.meanings =
    subst (λ (t : Layout). meanings_of t (rs ++ end_text cells ∷ []) ≡ Ok taken.meanings) schema taken.read in
    let same : taken.meanings ≡ ms ++ HasEnded cells ∷ [] =
    cc (sym read ∙ meanings_more s rs ms (end_text cells) (HasEnded cells) means end) in
    ap (λ (h : ReplicaState). h.cells) taken.state
    ∙ replays_join x.replica (cells_of_all taken.meanings)
    ∙ ap (λ (l : List Meaning). join_cells x.replica.schema x.replica.cells (cells_of_all l)) same
    ∙ ap (join_cells x.replica.schema x.replica.cells) (cells_of_both ms cells)
    ∙ ap (λ (t : Layout). join_cells t x.replica.cells (cells_of_all ms)) schema

pub checkpoints_are_taken : CheckpointsAreTaken
unfolding after_checkpoint
checkpoints_are_taken s begins rs cells ms last x y is at fit few means schema e =
    let text = checkpoint_text s begins rs cells in
    let read = checkpoints_are_read s begins rs cells is at fit in
    let there : after_checkpoint s x.recovery begins text ≡ Ok y =
    ap (λ (p : Result Cursor FileFault). p >>= λ place. after_checkpoint s x.recovery place text) (sym read.place) ∙ e in
    let end = behind_all begins (file_records s begins text) in
    let a = bind_ok (as_file (taken_records x.recovery (file_records s begins text)))
    (λ (z : Recovery). unless_faulty (checkpoint_fault (file_stop s begins text) (is_whole z.found)
    (bytes_before s begins end)) (taken_at begins z)) y there in
    let whole : taken_at begins a.0 ≡ y = unless_ok _ (taken_at begins a.0) y a.2 in
    let taken : taken_records x.recovery (rs ++ end_text cells ∷ []) ≡ Ok a.0 =
    ap (taken_records x.recovery) (sym read.records)
    ∙ as_file_ok (taken_records x.recovery (file_records s begins text)) a.0 a.1 in (
      sym (ap (λ (z : Reached). z.place) whole),
      sym (ap (λ (z : Reached). z.recovery.replica.cells) whole)
          ∙ taken_cells s x.recovery a.0 rs cells ms few means schema taken,
    )
