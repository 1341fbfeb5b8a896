-- Parts of the text of records.
use Rattle.std.proofs.Common.{◌≡◌, ℕ, ◌+◌, ◌-◌, ◌^◌, ◌<◌, ◌≤◌, Bool, true, false, List, [], ◌∷◌, ◌++◌, length, drop, take, Result, Ok, Err, refl, sym, ap, subst, ◌∙◌, append_assoc, append-nil, arith}
use Rattle.std.specs.Prelude.{nat_le, if◌then◌else◌}
use Rattle.std.proofs.lemmas.Bool.{le-leb}
use Rattle.std.proofs.lemmas.Grind.{flat_map-append}
use Rattle.std.proofs.lemmas.List.{drop-append-le, drop_all, length-append}
use Rattle.rr_text.specs.Results.{◌>>=◌}
use Rattle.rr_schema.specs.Schema.{Layout}
use Rattle.rr_cells.specs.CellBounds.{NamedCell}
use Rattle.rr_journal.specs.declared.cursor.Cursor.{Cursor}
use Rattle.rr_journal.specs.declared.fault.JournalFault.{JournalFault}
use Rattle.rr_journal.specs.declared.step.Stop.{Stop}
use Rattle.rr_journal.specs.declared.step.Stop.TheVariants.{End, Torn, Damaged}
use Rattle.rr_journal.specs.Body.{Meaning, record_meaning}
use Rattle.rr_journal.specs.Cursor.{behind_all, moved_by}
use Rattle.rr_journal.specs.Reading.{IsDamage, stop_of}
use Rattle.rr_journal.specs.Text.{AllFit, Raw, after, chain, record_len, record_text, records_len, records_text, whole_within}
use Rattle.rr_journal.proofs.RecordLemmas.{text_len}
use Rattle.rr_journal.proofs.TextLemmas.{prefixes_are_read, texts_go_on}
use Rattle.rr_recovery.specs.Joining.{cells_of_record}
use Rattle.rr_recovery.specs.Laws.{cells_of_all, meanings_of}
use Rattle.rr_recovery.proofs.ReplayLemmas.{behind_none}
use Rattle.rr_replication.specs.declared.fault.PartFault.{PartFault}
use Rattle.rr_replication.specs.Reading.{PeerState, after_part, as_bad, ends_part, is_empty, records_in, with_records}
use Rattle.rr_replication.specs.Laws.{HasRead, HasReadSome, PartsAreTaken, PartsBringTheRecords, after_parts}
use Rattle.rr_replication.proofs.CellLemmas.{as_bad_ok}

-- ---- a part that has the first record

not_empty : (r : Raw) (rs : List Raw) (len : ℕ) → record_len r ≤ len → is_empty (whole_within len (r ∷ rs)) ≡ false
not_empty r rs len le =
    ap (λ (b : Bool). is_empty (if b then r ∷ whole_within (len - record_len r) rs else [])) (le-leb _ _ le)

ends_well : (stop : Stop) → ¬ IsDamage stop → ◌≡◌ {A = Result (Unit {0}) PartFault} (ends_part stop false) (Ok tt)
ends_well End h = refl
ends_well Torn h = refl
ends_well (Damaged fault) h = absurd (h tt)

pub parts_are_taken : PartsAreTaken
parts_are_taken s x r rs len ms fits le read =
    let bytes = take len (records_text x.place.digest (r ∷ rs)) in
    let whole = whole_within len (r ∷ rs) in
    let stop = stop_of x.place.digest bytes in
    let prefix = prefixes_are_read x.place.digest (r ∷ rs) len fits in
    ap (λ (l : List Raw). as_bad (meanings_of s l) >>= λ ms. ends_part stop (is_empty l)
    >>= λ t. Ok (with_records x l ms)) prefix.0
    ∙ ap (λ (m : Result (List Meaning) JournalFault). as_bad m >>= λ ms. ends_part stop (is_empty whole)
    >>= λ t. Ok (with_records x whole ms)) read
    ∙ ap (λ (b : Bool). ends_part stop b >>= λ t. Ok (with_records x whole ms)) (not_empty r rs len le)
    ∙ ap (λ (e : Result (Unit {0}) PartFault). e >>= λ t. Ok (with_records x whole ms)) (ends_well stop prefix.1)

-- ---- records one after the other

pub chain_append : (before : List ℕ) (rs qs : List Raw) → chain before (rs ++ qs) ≡ chain (chain before rs) qs
chain_append before [] qs = refl
chain_append before (r ∷ rs) qs = chain_append (after before r) rs qs

pub len_append : (rs qs : List Raw) → records_len (rs ++ qs) ≡ records_len rs + records_len qs
len_append [] qs = omega arith
len_append (r ∷ rs) qs = let rest = len_append rs qs in omega (arith, rest)

moved_twice : (a b o : ℕ) → moved_by b (moved_by a o) ≡ moved_by (a + b) o
moved_twice a b o = omega arith

pub behind_append : (c : Cursor) (rs qs : List Raw) → behind_all (behind_all c rs) qs ≡ behind_all c (rs ++ qs)
behind_append c rs qs =
    let offset : moved_by (records_len qs) (moved_by (records_len rs) c.offset) ≡ moved_by (records_len (rs ++ qs)) c.offset =
    moved_twice (records_len rs) (records_len qs) c.offset ∙ sym (ap (λ (n : ℕ). moved_by n c.offset) (len_append rs qs)) in
    λ i. record { id = c.id; offset = offset i; digest = sym (chain_append c.digest rs qs) i }

pub meanings_append : (s : Layout) (rs qs : List Raw) (ms ns : List Meaning) → meanings_of s rs ≡ Ok ms
    → meanings_of s qs ≡ Ok ns → meanings_of s (rs ++ qs) ≡ Ok (ms ++ ns)
meanings_append s [] qs ms ns a b =
    let none : [] ≡ ms = cc a in b ∙ ap (λ (l : List Meaning). Ok (l ++ ns)) none
meanings_append s (r ∷ rs) qs ms ns a b =
    by_read (record_meaning s r) (meanings_of s rs) (λ l h. meanings_append s rs qs l ns h b) a
  where
    by_read : (first : Result Meaning JournalFault) (others : Result (List Meaning) JournalFault)
        → ((l : List Meaning) → others ≡ Ok l → meanings_of s (rs ++ qs) ≡ Ok (l ++ ns))
        → (first >>= λ m. others >>= λ l. Ok (m ∷ l)) ≡ Ok ms
        → (first >>= λ m. meanings_of s (rs ++ qs) >>= λ l. Ok (m ∷ l)) ≡ Ok (ms ++ ns)
    by_read (Ok m) (Ok l) later a =
        let is : m ∷ l ≡ ms = cc a in
        ap (λ (t : Result (List Meaning) JournalFault). t >>= λ k. Ok (m ∷ k)) (later l refl)
        ∙ ap (λ (k : List Meaning). Ok (k ++ ns)) is
    by_read (Ok m) (Err fault) later a = absurd (cc a)
    by_read (Err fault) others later a = absurd (cc a)

-- a peer that read some records, and then others
read_then : (s : Layout) (x y z : PeerState) (rs qs : List Raw) → HasRead s x y rs → HasRead s y z qs
    → HasRead s x z (rs ++ qs)
read_then s x y z rs qs a b =
    let cells : (x.cells ++ cells_of_all a.meanings) ++ cells_of_all b.meanings
    ≡ x.cells ++ cells_of_all (a.meanings ++ b.meanings) =
    append_assoc x.cells (cells_of_all a.meanings) (cells_of_all b.meanings)
    ∙ ap (λ (l : List NamedCell). x.cells ++ l) (sym (flat_map-append cells_of_record a.meanings b.meanings)) in
    record {
      meanings = a.meanings ++ b.meanings;
      read = meanings_append s rs qs a.meanings b.meanings a.read b.read;
      state = b.state ∙ ap (λ (w : PeerState). with_records w qs b.meanings) a.state
          ∙ (λ i. record { place = behind_append x.place rs qs i; cells = cells i });
    }

read_none : (s : Layout) (x : PeerState) → x.place.offset < 2 ^ 64 → HasRead s x x []
read_none s x fits =
    let place = behind_none x.place fits in
    record {
      meanings = [];
      read = refl;
      state = λ i. record { place = place i; cells = sym (append-nil x.cells) i };
    }

-- what a part makes of a peer
part_has_read : (s : Layout) (x y : PeerState) (bytes : List ℕ) → after_part s x bytes ≡ Ok y
    → HasRead s x y (records_in x.place bytes)
part_has_read s x y bytes e =
    by_read (records_in x.place bytes) (as_bad (meanings_of s (records_in x.place bytes)))
    (ends_part (stop_of x.place.digest bytes) (is_empty (records_in x.place bytes))) refl e
  where
    by_read : (rs : List Raw) (r : Result (List Meaning) PartFault) (end : Result (Unit {0}) PartFault)
        → as_bad (meanings_of s rs) ≡ r → (r >>= λ ms. end >>= λ t. Ok (with_records x rs ms)) ≡ Ok y
        → HasRead s x y rs
    by_read rs (Ok ms) (Ok t) is e =
        let same : with_records x rs ms ≡ y = cc e in
        record { meanings = ms; read = as_bad_ok (meanings_of s rs) ms is; state = sym same }
    by_read rs (Ok ms) (Err fault) is e = absurd (cc e)
    by_read rs (Err fault) end is e = absurd (cc e)

-- ---- of a text

pub within_first : (n : ℕ) (rs : List Raw) → (later : List Raw) × (rs ≡ whole_within n rs ++ later)
within_first n [] = ([], refl)
within_first n (r ∷ rs) = by_len (nat_le (record_len r) n) (within_first (n - record_len r) rs)
  where
    by_len : (b : Bool) → ((later : List Raw) × (rs ≡ whole_within (n - record_len r) rs ++ later))
        → (later : List Raw) × (r ∷ rs ≡ (if b then r ∷ whole_within (n - record_len r) rs else []) ++ later)
    by_len true h = (h.0, ap (λ (l : List Raw). r ∷ l) h.1)
    by_len false h = (r ∷ rs, refl)

pub length_of_text : (before : List ℕ) (rs : List Raw) → length (records_text before rs) ≡ records_len rs
unfolding records_text
length_of_text before [] = refl
length_of_text before (r ∷ rs) = omega (
  arith,
  length-append (record_text before r) (records_text (after before r) rs),
  text_len before r,
  length_of_text (after before r) rs,
)

pub later_fit : (rs qs : List Raw) → AllFit (rs ++ qs) → AllFit qs
later_fit [] qs h = h
later_fit (r ∷ rs) qs h = later_fit rs qs h.1

pub dropped : (xs ys : List ℕ) (n : ℕ) → length xs ≡ n → drop n (xs ++ ys) ≡ ys
dropped xs ys n is =
    drop-append-le n xs ys (omega (arith, is)) ∙ ap (λ (l : List ℕ). l ++ ys) (drop_all n xs (omega (arith, is)))

nothing_left : (rs : List Raw) → records_len rs ≡ 0 → rs ≡ []
nothing_left [] e = refl
nothing_left (r ∷ rs) e = absurd (omega (arith, e))

module _ (s : Layout) (x : PeerState) (rs : List Raw) (fits : AllFit rs)
    (short : x.place.offset + records_len rs < 2 ^ 64) where
  abbrev text : List ℕ
  text = records_text x.place.digest rs

  -- after records that were read the text of the others is what is asked for
  behind : (y : PeerState) (first later : List Raw) → rs ≡ first ++ later → HasRead s x y first
      → (y.place.digest ≡ chain x.place.digest first) × (y.place.offset ≡ x.place.offset + records_len first)
  behind y first later parts read =
      let place : y.place ≡ behind_all x.place first = ap (λ (w : PeerState). w.place) read.state in
      let len : records_len rs ≡ records_len first + records_len later =
      ap records_len parts ∙ len_append first later in (
        ap (λ (c : Cursor). c.digest) place,
        ap (λ (c : Cursor). c.offset) place ∙ omega (arith, len, short),
      )

  text_left : (y : PeerState) (first later : List Raw) → rs ≡ first ++ later → HasRead s x y first
      → drop (y.place.offset - x.place.offset) text ≡ records_text y.place.digest later
  text_left y first later parts read =
      let at = behind y first later parts read in
      let before = records_text x.place.digest first in
      let others = records_text (chain x.place.digest first) later in
      let whole : text ≡ before ++ others =
      ap (records_text x.place.digest) parts ∙ texts_go_on x.place.digest first later in
      ap (drop (y.place.offset - x.place.offset)) whole
      ∙ dropped before others (y.place.offset - x.place.offset)
      (omega (arith, length_of_text x.place.digest first, at.1))
      ∙ ap (λ (digest : List ℕ). records_text digest later) (sym at.0)

  reads_on : (lens : List ℕ) (y z : PeerState) (first later : List Raw) → rs ≡ first ++ later → HasRead s x y first
      → after_parts s y x.place.offset text lens ≡ Ok z → HasReadSome s x z rs
  reads_on [] y z first later parts read e =
      let same : y ≡ z = cc e in
      let len : records_len rs ≡ records_len first + records_len later =
      ap records_len parts ∙ len_append first later in
      let at = behind y first later parts read in
      subst (λ (w : PeerState). HasReadSome s x w rs) same (record {
        first = first;
        later = later;
        parts = parts;
        read = read;
        all = λ end.
            let none : later ≡ [] = nothing_left later (omega (arith, at.1, end, len)) in
            sym (append-nil first) ∙ sym (ap (λ (l : List Raw). first ++ l) none) ∙ sym parts;
      })
  reads_on (len ∷ lens) y z first later parts read e =
      by_part (λ w qs ls p h g. reads_on lens w z qs ls p h g)
      (after_part s y (take len (drop (y.place.offset - x.place.offset) text))) refl e
    where
      by_part : ((w : PeerState) (qs ls : List Raw) → rs ≡ qs ++ ls → HasRead s x w qs
          → after_parts s w x.place.offset text lens ≡ Ok z → HasReadSome s x z rs) → (r : Result PeerState PartFault)
          → after_part s y (take len (drop (y.place.offset - x.place.offset) text)) ≡ r
          → (r >>= λ w. after_parts s w x.place.offset text lens) ≡ Ok z → HasReadSome s x z rs
      by_part again (Err fault) is e = absurd (cc e)
      by_part again (Ok w) is e =
          let whole = whole_within len later in
          let later_fits = later_fit first later (subst AllFit parts fits) in
          let bytes = take len (records_text y.place.digest later) in
          let step : after_part s y bytes ≡ Ok w =
          sym (ap (λ (l : List ℕ). after_part s y (take len l)) (text_left y first later parts read)) ∙ is in
          let has = subst (HasRead s y w) (prefixes_are_read y.place.digest later len later_fits).0
          (part_has_read s y w bytes step) in
          let rest = within_first len later in
          let all : rs ≡ (first ++ whole) ++ rest.0 =
          parts ∙ ap (λ (l : List Raw). first ++ l) rest.1 ∙ sym (append_assoc first whole rest.0) in
          again w (first ++ whole) rest.0 all (read_then s x y w first whole read has) e

pub parts_bring_the_records : PartsBringTheRecords
parts_bring_the_records s x y rs lens fits short e =
    reads_on s x rs fits short lens x y [] rs refl (read_none s x (omega (arith, short))) e
