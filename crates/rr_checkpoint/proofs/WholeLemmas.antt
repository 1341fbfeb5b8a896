-- A checkpoint that is whole, as a start finds it.
use Rattle.std.proofs.Common.{◌≡◌, ℕ, ◌+◌, ◌-◌, ◌<◌, Bool, true, false, List, [], ◌∷◌, ◌++◌, length, Some, Result, Ok, Err, refl, sym, ap, subst, ◌∙◌, arith}
use Rattle.std.specs.Prelude.{◌==◌, ◌^◌, min}
use Rattle.std.specs.List.{flat_map}
use Rattle.std.proofs.lemmas.Bool.{eq-eqb}
use Rattle.std.proofs.lemmas.List.{length-append}
use Rattle.rr_text.specs.Results.{◌>>=◌, unless, unless_faulty}
use Rattle.rr_schema.specs.Schema.{Layout}
use Rattle.rr_cells.specs.CellBounds.{NamedCell}
use Rattle.rr_cells.specs.ReplicaState.{ReplicaState}
use Rattle.rr_directory.specs.declared.fault.FileFault.{FileFault}
use Rattle.rr_directory.specs.Reading.{Reached, after_checkpoint, as_file, bytes_before, checkpoint_fault, file_records, file_stop, is_whole}
use Rattle.rr_journal.specs.declared.cursor.Cursor.{Cursor}
use Rattle.rr_journal.specs.declared.fault.JournalFault.{JournalFault}
use Rattle.rr_journal.specs.declared.step.Stop.{Stop}
use Rattle.rr_journal.specs.declared.step.Stop.TheVariants.{End}
use Rattle.rr_journal.specs.Body.{Meaning, HasCells, HasOrigin, HasJoined, HasEnded, HasWitness, record_meaning}
use Rattle.rr_journal.specs.Cursor.{behind_all}
use Rattle.rr_journal.specs.Text.{Raw}
use Rattle.rr_journal.proofs.BodyLemmas.{bodies_are_read}
use Rattle.rr_journal.proofs.FieldLemmas.{bind_ok as step_ok}
use Rattle.rr_recovery.specs.declared.fault.RecoveryFault.{RecoveryFault}
use Rattle.rr_recovery.specs.declared.fault.RecoveryFault.TheVariants.{OriginUsed}
use Rattle.rr_recovery.specs.Joining.{cells_of_record, group_cells}
use Rattle.rr_recovery.specs.Laws.{cells_of_all, meanings_of}
use Rattle.rr_recovery.specs.Taking.{Recovery, as_bad, taken, taken_cells, taken_record, taken_records, with_one, with_record}
use Rattle.rr_recovery.proofs.LawLemmas.{record_taken, records_are_taken}
use Rattle.rr_recovery.proofs.TakingLemmas.{with_all-schema}
use Rattle.rr_checkpoint.specs.Laws.{CheckpointsAreWhole, with_end}
use Rattle.rr_checkpoint.specs.Text.{checkpoint_text, end_text}
use Rattle.rr_checkpoint.proofs.FileLemmas.{checkpoints_are_read}

-- ---- how many cells are counted

abbrev Taken : Type 0
Taken = Result Recovery RecoveryFault

next_ok : {A B : Type 0} (r : Result A RecoveryFault) (f : A → Result B RecoveryFault) (y : B) → (r >>= f) ≡ Ok y
    → (x : A) × (r ≡ Ok x) × (f x ≡ Ok y)
next_ok (Ok x) f y e = (x, refl, e)
next_ok (Err fault) f y e = absurd cc

unused_ok : (used : Bool) (r : Taken) (y : Recovery) → unless OriginUsed used r ≡ Ok y → r ≡ Ok y
unused_ok true r y e = absurd cc
unused_ok false r y e = e

-- this number of cells was added to the count, which stops at its greatest value
abbrev CountsMore : Recovery → Recovery → ℕ → Type 0
CountsMore x y n = y.found.cells ≡ min (x.found.cells + n) (2 ^ 64 - 1)

counts_none : (x y : Recovery) → x.found.cells < 2 ^ 64 → y.found.cells ≡ x.found.cells → CountsMore x y 0
counts_none x y fits same = omega (arith, fits, same)

counts_both : (x y z : Recovery) (n m : ℕ) → CountsMore x y n → CountsMore y z m → CountsMore x z (n + m)
counts_both x y z n m a b = omega (arith, a, b)

cells_counted : (x y : Recovery) (es : List NamedCell) → x.found.cells < 2 ^ 64 → taken_cells x es ≡ Ok y
    → CountsMore x y (length es)
cells_counted x y [] fits e = let same : x ≡ y = cc e in
    counts_none x y fits (sym (ap (λ (z : Recovery). z.found.cells) same))
cells_counted x y (e ∷ es) fits taken =
    let rest = cells_counted (with_one x e) y es (omega arith)
    (unused_ok (e.0.origin == x.replica.origin) (taken_cells (with_one x e) es) y taken) in
    omega (arith, rest)

same_count : (x y z : Recovery) → ◌≡◌ {A = Taken} (Ok x) (Ok y) → x.found.cells ≡ z.found.cells
    → y.found.cells ≡ z.found.cells
same_count x y z e is = let same : x ≡ y = cc e in sym (ap (λ (w : Recovery). w.found.cells) same) ∙ is

meaning_counted : (x y : Recovery) (m : Meaning) → x.found.cells < 2 ^ 64 → taken x m ≡ Ok y
    → CountsMore x y (length (cells_of_record m))
meaning_counted x y (HasCells groups) fits e = cells_counted x y (flat_map group_cells groups) fits e
meaning_counted x y (HasOrigin origin) fits e =
    counts_none x y fits (same_count _ y x (unused_ok (origin == x.replica.origin) _ y e) refl)
meaning_counted x y (HasJoined cursor) fits e = counts_none x y fits (same_count _ y x e refl)
meaning_counted x y (HasEnded count) fits e = counts_none x y fits (same_count _ y x e refl)
meaning_counted x y (HasWitness witness) fits e = counts_none x y fits (same_count _ y x e refl)

records_counted : (s : Layout) (x y : Recovery) (rs : List Raw) (ms : List Meaning) → x.replica.schema ≡ s
    → x.found.cells < 2 ^ 64 → meanings_of s rs ≡ Ok ms → taken_records x rs ≡ Ok y
    → CountsMore x y (length (cells_of_all ms))
records_counted s x y [] ms schema fits means e =
    let none : [] ≡ ms = cc means in
    subst (λ (l : List Meaning). CountsMore x y (length (cells_of_all l))) none
    (counts_none x y fits (same_count x y x e refl))
records_counted s x y (r ∷ rs) ms schema fits means e =
    let a = next_ok (taken_record x r) (λ z. taken_records z rs) y e in
    let z = a.0 in
    let first = record_taken x z r a.1 in
    let step = next_ok (as_bad (record_meaning x.replica.schema r)) (taken (with_record x)) z a.1 in
    let m = step_ok (record_meaning s r) (λ n. meanings_of s rs >>= λ l. Ok (n ∷ l)) ms means in
    let rest = step_ok (meanings_of s rs) (λ l. Ok (m.0 ∷ l)) ms m.2 in
    let whole : m.0 ∷ rest.0 ≡ ms = cc (rest.2) in
    let one = meaning_counted (with_record x) z step.0 fits step.2 in
    let same : step.0 ≡ m.0 = same_meaning (record_meaning s r) step.0 m.0
    (subst (λ (t : Layout). as_bad (record_meaning t r) ≡ Ok step.0) schema step.1) m.1 in
    let there : z.replica.schema ≡ s = ap (λ (h : ReplicaState). h.schema) first.is.state
    ∙ with_all-schema x.replica (cells_of_record first.meaning) ∙ schema in
    let counted : CountsMore x z (length (cells_of_record m.0)) =
    subst (λ (n : Meaning). CountsMore x z (length (cells_of_record n))) same one in
    let others = records_counted s z y rs rest.0 there (omega (arith, counted)) rest.1 a.2 in
    subst (λ (l : List Meaning). CountsMore x y (length (cells_of_all l))) whole
    (subst (CountsMore x y) (sym (length-append (cells_of_record m.0) (cells_of_all rest.0)))
    (counts_both x z y (length (cells_of_record m.0)) (length (cells_of_all rest.0)) counted others))
  where
    same_meaning : (t : Result Meaning JournalFault) (n k : Meaning) → as_bad t ≡ Ok n → t ≡ Ok k → n ≡ k
    same_meaning (Ok l) n k p q = let a : l ≡ n = cc p in let b : l ≡ k = cc q in sym a ∙ b
    same_meaning (Err fault) n k p q = absurd (cc q)

-- ---- the end

taken_behind : (x y : Recovery) (rs : List Raw) (r : Raw) → taken_records x rs ≡ Ok y
    → taken_records x (rs ++ r ∷ []) ≡ (taken_record y r >>= λ z. Ok z)
taken_behind x y [] r e = let same : x ≡ y = cc e in ap (λ (z : Recovery). taken_record z r >>= λ w. Ok w) same
taken_behind x y (q ∷ rs) r e =
    let a = next_ok (taken_record x q) (λ z. taken_records z rs) y e in
    ap (λ (t : Taken). t >>= λ z. taken_records z (rs ++ r ∷ [])) a.1 ∙ taken_behind a.0 y rs r a.2

pub checkpoints_are_whole : CheckpointsAreWhole
unfolding after_checkpoint
checkpoints_are_whole s begins rs cells ms last x y is at fit few means count schema none e =
    let text = checkpoint_text s begins rs cells in
    let read = checkpoints_are_read s begins rs cells is at fit in
    let are = records_are_taken x.recovery y rs e in
    let there : y.replica.schema ≡ s = ap (λ (h : ReplicaState). h.schema) are.state
    ∙ with_all-schema x.recovery.replica (cells_of_all are.meanings) ∙ schema in
    let end : record_meaning y.replica.schema (end_text cells) ≡ Ok (HasEnded cells) =
    ap (λ (t : Layout). record_meaning t (end_text cells)) there ∙ (bodies_are_read s (HasEnded cells) few).0 in
    let all : taken_records x.recovery (file_records s begins text) ≡ Ok (with_end y cells) =
    ap (taken_records x.recovery) read.records ∙ taken_behind x.recovery y rs (end_text cells) e
    ∙ ap (λ (r : Result Meaning JournalFault). (as_bad r >>= taken (with_record y)) >>= λ z. Ok z) end in
    let counted = records_counted s x.recovery y rs ms schema (omega (arith, none)) means e in
    let same : cells ≡ y.found.cells = omega (arith, none, count, few, counted) in
    let whole : is_whole (with_end y cells).found ≡ true = eq-eqb cells y.found.cells same in
    let at_end = bytes_before s begins (behind_all begins (file_records s begins text)) in
    let done : Result Reached FileFault = Ok (record { place = Some begins; recovery = with_end y cells; torn = 0 }) in
    ap (λ (p : Result Cursor FileFault). p >>= λ place. after_checkpoint s x.recovery place text) read.place
    ∙ ap (λ (t : Taken). as_file t >>= λ z. unless_faulty (checkpoint_fault (file_stop s begins text) (is_whole z.found)
    at_end) (record { place = Some begins; recovery = z; torn = 0 })) all
    ∙ ap (λ (stop : Stop). unless_faulty (checkpoint_fault stop (is_whole (with_end y cells).found) at_end)
    (record { place = Some begins; recovery = with_end y cells; torn = 0 })) read.stop
    ∙ ap (λ (b : Bool). unless_faulty (checkpoint_fault End b at_end)
    (record { place = Some begins; recovery = with_end y cells; torn = 0 })) whole
