-- What replays of journals make, and that it is deeds.
use Rattle.std.proofs.Common.{◌≡◌, ℕ, ◌-◌, Bool, true, false, List, [], ◌∷◌, ◌++◌, Result, Ok, Err, refl, sym, ap, ◌∙◌, subst, Some, ⊎_elim}
use Rattle.std.specs.Prelude.{nat_le, if◌then◌else◌, All, Contains}
use Rattle.std.proofs.lemmas.List.Elements.{All-contains, All-contains_itself, All-weaker, Contains-append_cases, Contains-append_left, Contains-append_right}
use Rattle.rr_text.specs.Results.{◌>>=◌}
use Rattle.rr_schema.specs.Schema.{Layout, IsLayout}
use Rattle.rr_cells.specs.CellBounds.{NamedCell}
use Rattle.rr_cells.specs.Cells.{Cells, IsTrimmed}
use Rattle.rr_cells.specs.Joins.{join_cells}
use Rattle.rr_cells.specs.ReplicaState.{ReplicaState}
use Rattle.rr_changes.specs.Updates.{Holds, last_cells, written_cells}
use Rattle.rr_changes.proofs.HoldingLemmas.{holds_further, nowhere, holds_trimmed, updates_bring_all, updates_make_the_last}
use Rattle.rr_journal.specs.declared.fault.JournalFault.{JournalFault}
use Rattle.rr_journal.specs.Body.{Meaning, record_meaning}
use Rattle.rr_journal.specs.Text.{Raw, record_len, whole_within}
use Rattle.rr_journal.proofs.TextLemmas.{prefixes_are_read}
use Rattle.rr_recovery.specs.Joining.{cells_of_record}
use Rattle.rr_recovery.specs.Laws.{cells_of_all, meanings_of}
use Rattle.rr_recovery.specs.Taking.{Recovery, taken_records}
use Rattle.rr_recovery.proofs.LawLemmas.{records_are_taken, replays_join, synced_is_there}
use Rattle.rr_nodes.specs.Nodes.{after_all}
use Rattle.rr_nodes.specs.Models.{cell_model}
use Rattle.rr_nodes.specs.Journals.{WasElsewhere}
use Rattle.rr_nodes.specs.Replays.{PrefixesAreDeeds, SyncedBringAll, ReplaysMakeTheLast, cells_in}
use Rattle.rr_nodes.proofs.JournalsLemmas.{read_cells_are_deeds, written_were_held}

-- what records that are taken make of cells
taken_join : (s : Layout) (x y : Recovery) (rs : List Raw) → x.replica.schema ≡ s → taken_records x rs ≡ Ok y
    → (meanings : List Meaning) × (meanings_of s rs ≡ Ok meanings)
    × (cells_in y ≡ join_cells s (cells_in x) (cells_of_all meanings))
taken_join s x y rs schema e =
    let t = records_are_taken x y rs e in (
      t.meanings,
      sym (ap (λ (l : Layout). meanings_of l rs) schema) ∙ t.read,
      ap (λ (h : ReplicaState). h.cells) t.state ∙ replays_join x.replica (cells_of_all t.meanings)
          ∙ ap (λ (l : Layout). join_cells l (cells_in x) (cells_of_all t.meanings)) schema,
    )

abbrev Meanings : Type 0
Meanings = Result (List Meaning) JournalFault

-- the meanings of a record and those after it
pub first_and_others : (s : Layout) (r : Raw) (rs : List Raw) (ms : List Meaning) → meanings_of s (r ∷ rs) ≡ Ok ms
    → (m : Meaning) × (others : List Meaning) × (meanings_of s rs ≡ Ok others) × (ms ≡ m ∷ others)
    × (record_meaning s r ≡ Ok m)
first_and_others s r rs ms e = by (record_meaning s r) (meanings_of s rs) refl refl e
  where
    by : (a : Result Meaning JournalFault) (b : Meanings) → record_meaning s r ≡ a → meanings_of s rs ≡ b
        → ◌≡◌ {A = Meanings} (a >>= λ m. b >>= λ ms. Ok (m ∷ ms)) (Ok ms)
        → (m : Meaning) × (others : List Meaning) × (meanings_of s rs ≡ Ok others) × (ms ≡ m ∷ others)
        × (record_meaning s r ≡ Ok m)
    by (Ok m) (Ok others) e f h = (m, others, f, cc, e)
    by (Ok m) (Err fault) e f h = absurd cc
    by (Err fault) b e f h = absurd cc

-- the cells of the records that are whole within so many bytes are among those of all
whole_among : (s : Layout) (rs : List Raw) (n : ℕ) (ms whole : List Meaning) → meanings_of s rs ≡ Ok ms
    → meanings_of s (whole_within n rs) ≡ Ok whole → (e : NamedCell) → Contains (cells_of_all whole) e
    → Contains (cells_of_all ms) e
whole_among s [] n ms whole all first e has =
    let same : whole ≡ ms = cc (sym first ∙ all) in subst (λ (l : List Meaning). Contains (cells_of_all l) e) same has
whole_among s (r ∷ rs) n ms whole all first e has = by (nat_le (record_len r) n) first
    (λ others some a b has. whole_among s rs (n - record_len r) others some a b e has)
  where
    rest : List Raw
    rest = whole_within (n - record_len r) rs

    by : (b : Bool) → meanings_of s (if b then r ∷ rest else []) ≡ Ok whole
        → ((others some : List Meaning) → meanings_of s rs ≡ Ok others → meanings_of s rest ≡ Ok some
        → Contains (cells_of_all some) e → Contains (cells_of_all others) e)
        → Contains (cells_of_all ms) e
    by true first go =
        let a = first_and_others s r rs ms all in
        let b = first_and_others s r rest whole first in
        let same : b.0 ≡ a.0 = cc (sym b.4 ∙ a.4) in
        let one = cells_of_record a.0 in
        let here : Contains (one ++ cells_of_all b.1) e =
        subst (λ (l : List Meaning). Contains (cells_of_all l) e) (b.3 ∙ ap (λ (m : Meaning). m ∷ b.1) same) has in
        subst (λ (l : List Meaning). Contains (cells_of_all l) e) (sym a.3)
        (⊎_elim (λ first. Contains-append_left one (cells_of_all a.1) e first)
        (λ later. Contains-append_right one (cells_of_all a.1) e
        (go a.1 b.1 a.2 b.2 later))
        (Contains-append_cases one (cells_of_all b.1) e here))
    by false first go =
        let none : [] ≡ whole = cc (first) in
        absurd (nowhere e (subst (λ (l : List Meaning). Contains (cells_of_all l) e) (sym none) has))

pub prefixes_are_deeds : PrefixesAreDeeds
prefixes_are_deeds s deeds origin m writes before rs n x y are moments fit only schema now taken =
    let ns = after_all cell_model s deeds in
    let whole = whole_within n rs in
    let read : taken_records x whole ≡ Ok y =
    ap (λ (l : List Raw). taken_records x l) (sym (prefixes_are_read before rs n fit).0) ∙ taken in
    let t = taken_join s x y whole schema read in
    let es = cells_of_all t.0 in
    let held = written_were_held s ns origin m writes are moments in
    let deeds_of = read_cells_are_deeds s deeds origin (cells_in x) es now
    (All-weaker (Contains es) (WasElsewhere ns origin) (λ e has.
    All-contains (WasElsewhere ns origin) (written_cells writes) e held
    (All-contains (Contains (written_cells writes)) (cells_of_all only.meanings) e only.part
    (whole_among s rs n only.meanings t.0 only.read t.1 e has))) es (All-contains_itself es)) in
    (deeds_of.cells, deeds_of.then ∙ ap (λ (c : Cells). Some c) (sym t.2))

pub synced_bring_all : SyncedBringAll
synced_bring_all s m writes before rs tail x y is are fit all schema holds few taken =
    let trim = holds_trimmed s is (cells_in x) m holds in
    let z = synced_is_there before x y rs tail (subst IsLayout (sym schema) is)
    (subst (λ (l : Layout). IsTrimmed l (cells_in x)) (sym schema) trim) fit few taken in
    let t = taken_join s x z.0 rs schema z.1 in
    let es = cells_of_all t.0 in
    let same : all.meanings ≡ t.0 = cc (sym all.read ∙ t.1) in
    holds_further s is (cells_in y) (cells_in z.0) (last_cells m writes)
    (subst (λ (l : Layout). Holds l (cells_in y) (cells_in z.0)) schema z.2)
    (subst (λ (c : Cells). Holds s c (last_cells m writes)) (sym t.2)
    (updates_bring_all s m (cells_in x) writes es is are holds
    (subst (λ (l : List Meaning). All (Contains (cells_of_all l)) (written_cells writes)) same all.whole)))

pub replays_make_the_last : ReplaysMakeTheLast
replays_make_the_last s writes rs x y is kept are only all schema taken =
    let t = taken_join s x y rs schema taken in
    let one : only.meanings ≡ t.0 = cc (sym only.read ∙ t.1) in
    let other : all.meanings ≡ t.0 = cc (sym all.read ∙ t.1) in
    t.2 ∙ updates_make_the_last s (cells_in x) writes (cells_of_all t.0) is kept are
    (subst (λ (l : List Meaning). All (Contains (cells_of_all l)) (written_cells writes)) other all.whole)
    (subst (λ (l : List Meaning). All (Contains (written_cells writes)) (cells_of_all l)) one only.part)
