-- The records of a part, one after the other.
use Rattle.std.proofs.Common.{◌≡◌, ℕ, ◌^◌, ◌<◌, Bool, true, false, List, [], ◌∷◌, ◌++◌, All, Option, None, Some, IfSome, OnOk, Result, Ok, Err, ◌⊎◌, inl, inr, refl, sym, ap, ap₂, subst, ◌∙◌, append_assoc, append-nil}
use Rattle.std.proofs.lemmas.List.Elements.{All-append, All-from_recursion}
use Rattle.rr_text.specs.Results.{◌>>=◌, Gives, GivesUnless}
use Rattle.rr_schema.specs.Schema.{Layout}
use Rattle.rr_cells.specs.declared.cell.Cell.{Cell}
use Rattle.rr_cells.specs.CellBounds.{IsCellOf, NamedCell}
use Rattle.rr_cells.specs.Listing.{owned_cell}
use Rattle.rr_journal.specs.declared.cursor.Cursor.{Cursor}
use Rattle.rr_journal.specs.declared.fault.JournalFault.{JournalFault}
use Rattle.rr_journal.specs.declared.step.Stop.{Stop}
use Rattle.rr_journal.specs.Body.{Meaning, record_meaning}
use Rattle.rr_journal.specs.Reading.{followed_by, records_of, stop_of}
use Rattle.rr_journal.specs.Text.{Raw, after}
use Rattle.rr_journal.proofs.ReadingLemmas.{one_first}
use Rattle.rr_recovery.specs.Found.{end_after, last_end}
use Rattle.rr_recovery.specs.Joining.{cells_of_record}
use Rattle.rr_recovery.specs.Laws.{cells_of_all, meanings_of}
use Rattle.rr_recovery.specs.Replaying.{ReadsAll}
use Rattle.rr_recovery.proofs.ReplayLemmas.{GoesOn, IsAt, ReadsNone, ReadsOne, SoFar, all_read}
use Rattle.rr_replication.specs.declared.fault.PartFault.{PartFault}
use Rattle.rr_replication.specs.declared.fault.PartFault.TheVariants.{Memory}
use Rattle.rr_replication.proofs.CellLemmas.{cells_append}
use Rattle.rr_replication.specs.Reading.{Keeps, PeerState, after_part, as_bad, ends_part, is_empty, part_end, record_cells, record_end, with_records}

-- ---- cells that were there

pub keeps_then : (s : Layout) (old now new : List Cell) → Keeps s old now → Keeps s now new → Keeps s old new
keeps_then s old now new a b = record {
  more = a.more ++ b.more;
  kept = b.kept ∙ ap (λ (cells : List Cell). cells ++ b.more) a.kept ∙ append_assoc old a.more b.more;
  of_schema = cells_append s a.more b.more a.of_schema b.of_schema;
}

pub all_of_schema : (s : Layout) (old new : List Cell) → Keeps s old new → All (λ c. IsCellOf s (owned_cell c)) old
    → All (λ c. IsCellOf s (owned_cell c)) new
all_of_schema s old new h before =
    let more = All-from_recursion (λ c. IsCellOf s (owned_cell c)) h.more h.of_schema in
    subst (λ (cells : List Cell). All (λ c. IsCellOf s (owned_cell c)) cells) (sym h.kept)
    (All-append (λ c. IsCellOf s (owned_cell c)) old h.more before more)

-- ---- cells and those of records

abbrev Cells : Type 0
Cells = Result (List NamedCell) PartFault

abbrev pub with_cells : Layout → List NamedCell → List Raw → Cells
with_cells s es rs = as_bad (meanings_of s rs) >>= λ ms. Ok (es ++ cells_of_all ms)

with_first : (s : Layout) (es : List NamedCell) (r : Raw) (rs : List Raw)
    → with_cells s es (r ∷ rs) ≡ (record_cells s r >>= λ fs. with_cells s (es ++ fs) rs)
with_first s es r rs = by_read (record_meaning s r) (meanings_of s rs)
  where
    by_read : (first : Result Meaning JournalFault) (others : Result (List Meaning) JournalFault)
        → ◌≡◌ {A = Cells} (as_bad (first >>= λ m. others >>= λ ms. Ok (m ∷ ms)) >>= λ ms. Ok (es ++ cells_of_all ms))
        ((as_bad first >>= λ m. Ok (cells_of_record m))
        >>= λ fs. as_bad others >>= λ ms. Ok ((es ++ fs) ++ cells_of_all ms))
    by_read (Ok m) (Ok ms) =
        ap (λ (l : List NamedCell). Ok l) (sym (append_assoc es (cells_of_record m) (cells_of_all ms)))
    by_read (Ok m) (Err fault) = refl
    by_read (Err fault) others = refl

-- a part's first record is still to be read, or is read
abbrev pub NotYet : Bool → List Raw → List Raw → Type 0
NotYet true left all = left ≡ all
NotYet false left all = is_empty all ≡ false

-- to read the records that are left now is to read all
pub record ReadsTheSame (s : Layout) (had now : List NamedCell) (first : Bool) (left all : List Raw) : Type 0 where
  pub cells : with_cells s now left ≡ with_cells s had all
  pub not_yet : NotYet first left all

some_read : (first : Bool) (r : Raw) (rs all : List Raw) → NotYet first (r ∷ rs) all → is_empty all ≡ false
some_read true r rs all h = sym (ap (λ (l : List Raw). is_empty l) h)
some_read false r rs all h = h

pub reads_on : (s : Layout) (had now new fs : List NamedCell) (first : Bool) (r : Raw) → record_cells s r ≡ Ok fs
    → new ≡ now ++ fs → GoesOn (ReadsTheSame s had now first) (ReadsTheSame s had new false) r
reads_on s had now new fs first r read is rs all h = record {
  cells = ap (λ (es : List NamedCell). with_cells s es rs) is
      ∙ sym (ap (λ (x : Cells). x >>= λ gs. with_cells s (now ++ gs) rs) read)
      ∙ sym (with_first s now r rs) ∙ h.cells;
  not_yet = some_read first r rs all h.not_yet;
}

-- ---- ends and those of records

abbrev Ends : Type 0
Ends = Result (Option ℕ) PartFault

abbrev pub with_end : Layout → Option ℕ → List Raw → Ends
with_end s before rs = as_bad (meanings_of s rs) >>= λ ms. Ok (last_end before ms)

first_end : (s : Layout) (before : Option ℕ) (r : Raw) (rs : List Raw)
    → with_end s before (r ∷ rs) ≡ (record_end s r >>= λ end. with_end s end rs)
first_end s before r rs = by_read (record_meaning s r) (meanings_of s rs)
  where
    by_read : (first : Result Meaning JournalFault) (others : Result (List Meaning) JournalFault)
        → ◌≡◌ {A = Ends} (as_bad (first >>= λ m. others >>= λ ms. Ok (m ∷ ms)) >>= λ ms. Ok (last_end before ms))
        ((as_bad first >>= λ m. Ok (end_after None m)) >>= λ end. as_bad others >>= λ ms. Ok (last_end end ms))
    by_read (Ok m) (Ok ms) = refl
    by_read (Ok m) (Err fault) = refl
    by_read (Err fault) others = refl

-- what the records that are left state last is what all do
abbrev pub EndsTheSame : Layout → Option ℕ → Option ℕ → List Raw → List Raw → Type 0
EndsTheSame s before now left all = with_end s now left ≡ with_end s before all

pub ends_on : (s : Layout) (before now new : Option ℕ) (r : Raw) → record_end s r ≡ Ok new
    → GoesOn (EndsTheSame s before now) (EndsTheSame s before new) r
ends_on s before now new r read rs all h =
    sym (ap (λ (x : Ends). x >>= λ end. with_end s end rs) read) ∙ sym (first_end s now r rs) ∙ h

on_ok : {A : Type 0} (r : Result (Unit {0}) PartFault) → A → OnOk r A
on_ok (Ok t) h = h
on_ok (Err fault) h = tt

pub end_is : (s : Layout) (place at next : Cursor) (before now : Option ℕ) (old left : Option (List ℕ)) (stop : Stop)
    (r : Result (Unit {0}) PartFault) → SoFar place at old left (EndsTheSame s before now) → ReadsNone at stop left
    → next ≡ at → at.offset < 2 ^ 64 → IfSome old (λ bytes. OnOk r (part_end s before place bytes ≡ Ok now))
end_is s place at next before now None left stop r so_far step is fits = tt
end_is s place at next before now (Some bytes) None stop r so_far step is fits = absurd (cc so_far.1)
end_is s place at next before now (Some bytes) (Some all) stop r so_far step is fits =
    let same : all ≡ so_far.0 = cc so_far.1 in
    let h = subst (λ (l : List ℕ). IsAt place at bytes l (EndsTheSame s before now)) (sym same) so_far.2 in
    let ends = all_read place at next bytes all stop (EndsTheSame s before now) h step is fits in
    on_ok r (sym ends.0)

-- ---- at the end

first_is : (first : Bool) (all : List Raw) → NotYet first [] all → first ≡ is_empty all
first_is true all h = ap (λ (l : List Raw). is_empty l) h
first_is false all h = sym h

meanings_there : (s : Layout) (had now : List NamedCell) (rs : List Raw) → with_cells s had rs ≡ Ok now
    → (ms : List Meaning) × (as_bad (meanings_of s rs) ≡ Ok ms) × (now ≡ had ++ cells_of_all ms)
meanings_there s had now rs e = by_read (as_bad (meanings_of s rs)) refl e
  where
    by_read : (r : Result (List Meaning) PartFault) → as_bad (meanings_of s rs) ≡ r
        → (r >>= λ ms. Ok (had ++ cells_of_all ms)) ≡ Ok now
        → (ms : List Meaning) × (as_bad (meanings_of s rs) ≡ Ok ms) × (now ≡ had ++ cells_of_all ms)
    by_read (Ok ms) is e = let same : had ++ cells_of_all ms ≡ now = cc e in (ms, is, sym same)
    by_read (Err fault) is e = absurd (cc e)

ended : (y : PeerState) (end : Result (Unit {0}) PartFault) (r : Result (Unit {0}) PartFault) (answer : Result PeerState PartFault)
    → Gives (λ t. t) r end → answer ≡ (end >>= λ t. Ok y) → GivesUnless Memory (λ t. y) r answer
ended y end (Ok t) answer h is = is ∙ ap (λ (e : Result (Unit {0}) PartFault). e >>= λ t. Ok y) h
ended y end (Err fault) answer h is = inr (is ∙ ap (λ (e : Result (Unit {0}) PartFault). e >>= λ t. Ok y) h)

part_read : (s : Layout) (x : PeerState) (place : Cursor) (now : List NamedCell) (first : Bool) (bytes : List ℕ) (stop : Stop)
    (r : Result (Unit {0}) PartFault) → ReadsTheSame s x.cells now first [] (records_of x.place.digest bytes).0
    → ReadsAll x.place place bytes stop → Gives (λ t. t) r (ends_part stop first)
    → GivesUnless Memory (λ t. record { place = place; cells = now }) r (after_part s x bytes)
part_read s x place now first bytes stop r h read end =
    let rs = (records_of x.place.digest bytes).0 in
    let y : PeerState = record { place = place; cells = now } in
    let there = meanings_there s x.cells now rs
    (sym h.cells ∙ ap (λ (l : List NamedCell). Ok l) (append-nil now)) in
    let same : with_records x rs there.0 ≡ y = λ i. record { place = sym read.place i; cells = sym there.2 i } in
    let is : after_part s x bytes ≡ (ends_part stop first >>= λ t. Ok y) =
    ap (λ (m : Result (List Meaning) PartFault). m >>= λ ms. ends_part (stop_of x.place.digest bytes) (is_empty rs)
    >>= λ t. Ok (with_records x rs ms)) there.1
    ∙ ap (λ (z : PeerState). ends_part (stop_of x.place.digest bytes) (is_empty rs) >>= λ t. Ok z) same
    ∙ ap₂ (λ (t : Stop) (b : Bool). ends_part t b >>= λ u. Ok y) (sym read.stop) (sym (first_is first rs h.not_yet)) in
    ended y (ends_part stop first) r (after_part s x bytes) end is

pub is_read : (s : Layout) (x : PeerState) (at next : Cursor) (now : List NamedCell) (first : Bool)
    (old left : Option (List ℕ)) (stop : Stop) (r : Result (Unit {0}) PartFault)
    → SoFar x.place at old left (ReadsTheSame s x.cells now first) → ReadsNone at stop left → next ≡ at
    → at.offset < 2 ^ 64 → Gives (λ t. t) r (ends_part stop first)
    → IfSome old (λ bytes. GivesUnless Memory (λ t. record { place = next; cells = now }) r (after_part s x bytes))
is_read s x at next now first None left stop r so_far step is fits end = tt
is_read s x at next now first (Some bytes) None stop r so_far step is fits end = absurd (cc so_far.1)
is_read s x at next now first (Some bytes) (Some all) stop r so_far step is fits end =
    let done = ReadsTheSame s x.cells now first in
    let same : all ≡ so_far.0 = cc so_far.1 in
    let h = subst (λ (l : List ℕ). IsAt x.place at bytes l done) (sym same) so_far.2 in
    let ends = all_read x.place at next bytes all stop done h step is fits in
    part_read s x next now first bytes stop r ends.0 ends.1 end

-- ---- at a record that means nothing

refused_first : (s : Layout) (es : List NamedCell) (r : Raw) (rs : List Raw) (fault : PartFault)
    → record_cells s r ≡ Err fault → with_cells s es (r ∷ rs) ≡ Err fault
refused_first s es r rs fault bad =
    with_first s es r rs ∙ ap (λ (x : Cells). x >>= λ fs. with_cells s (es ++ fs) rs) bad

refused_part : (s : Layout) (x : PeerState) (bytes : List ℕ) (fault : PartFault)
    → with_cells s x.cells (records_of x.place.digest bytes).0 ≡ Err fault → after_part s x bytes ≡ Err fault
refused_part s x bytes fault e = by_read (as_bad (meanings_of s (records_of x.place.digest bytes).0)) e
  where
    by_read : (r : Result (List Meaning) PartFault) → (r >>= λ ms. Ok (x.cells ++ cells_of_all ms)) ≡ Err fault
        → ◌≡◌ {A = Result PeerState PartFault} (r >>= λ ms. ends_part (stop_of x.place.digest bytes)
        (is_empty (records_of x.place.digest bytes).0)
        >>= λ t. Ok (with_records x (records_of x.place.digest bytes).0 ms)) (Err fault)
    by_read (Ok ms) e = absurd (cc e)
    by_read (Err other) e = let same : other ≡ fault = cc e in ap (λ (f : PartFault). Err f) same

pub is_refused : (s : Layout) (x : PeerState) (at : Cursor) (now : List NamedCell) (first : Bool) (r : Raw)
    (old left new : Option (List ℕ)) (fault : PartFault) → SoFar x.place at old left (ReadsTheSame s x.cells now first)
    → ReadsOne at r left new → (fault ≡ Memory) ⊎ (record_cells s r ≡ Err fault)
    → IfSome old (λ bytes. (fault ≡ Memory) ⊎ (after_part s x bytes ≡ Err fault))
is_refused s x at now first r None left new fault so_far step bad = tt
is_refused s x at now first r (Some bytes) None new fault so_far step bad = absurd (cc so_far.1)
is_refused s x at now first r (Some bytes) (Some all) new fault so_far step (inl memory) = inl memory
is_refused s x at now first r (Some bytes) (Some all) new fault so_far step (inr bad) =
    let done = ReadsTheSame s x.cells now first in
    let same : all ≡ so_far.0 = cc so_far.1 in
    let h = subst (λ (l : List ℕ). IsAt x.place at bytes l done) (sym same) so_far.2 in
    let rest = records_of (after at.digest r) step.0 in
    let read : records_of at.digest all ≡ followed_by (r ∷ []) rest = one_first at.digest all (r, step.0) step.2 in
    inr (refused_part s x bytes fault (sym h.same.cells
    ∙ ap (λ (z : List Raw × List ℕ). with_cells s now z.0) read ∙ refused_first s now r rest.0 fault bad))
