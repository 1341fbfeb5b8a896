-- Peers that ask a node again and again.
use Rattle.std.proofs.Common.{◌≡◌, ℕ, zero, suc, ◌+◌, ◌-◌, ◌^◌, ◌<◌, ◌≤◌, Bool, true, false, List, [], ◌∷◌, ◌++◌, length, drop, take, Result, Ok, Err, refl, sym, ap, ap₂, subst, ◌∙◌, append_assoc, append-nil, arith}
use Rattle.std.specs.Prelude.{min, nat_le, nat_lt, if◌then◌else◌}
use Rattle.std.specs.List.{AllByRecursion, concat}
use Rattle.std.proofs.lemmas.Bool.{leb-true, leb-false, le-leb}
use Rattle.std.proofs.lemmas.Grind.{flat_map-append}
use Rattle.std.proofs.lemmas.List.{length-append}
use Rattle.rr_text.specs.Results.{◌>>=◌}
use Rattle.rr_schema.specs.Schema.{Layout}
use Rattle.rr_cells.specs.CellBounds.{NamedCell}
use Rattle.rr_journal.specs.declared.cursor.Cursor.{Cursor}
use Rattle.rr_journal.specs.declared.fault.JournalFault.{JournalFault}
use Rattle.rr_journal.specs.Body.{Meaning, record_meaning}
use Rattle.rr_journal.specs.Cursor.{behind_all}
use Rattle.rr_journal.specs.Reading.{records_of, stop_before}
use Rattle.rr_journal.specs.Text.{AllFit, Fits, Raw, chain, record_len, records_len, records_text, whole_within}
use Rattle.rr_journal.proofs.ReadingLemmas.{none_first, nothing_at}
use Rattle.rr_journal.proofs.TextLemmas.{texts_go_on}
use Rattle.rr_recovery.specs.Joining.{cells_of_record}
use Rattle.rr_recovery.specs.Laws.{cells_of_all, meanings_of}
use Rattle.rr_recovery.proofs.ReplayLemmas.{behind_none}
use Rattle.rr_replication.specs.declared.fault.PartFault.{PartFault}
use Rattle.rr_replication.specs.Files.{HaveBytes, bytes_of, offsets}
use Rattle.rr_replication.specs.Laws.{HaveRecords, PeersCatchUp, all_records, follow, texts}
use Rattle.rr_replication.specs.Part.{ends_at, part_from}
use Rattle.rr_replication.specs.Reading.{PeerState, after_part, as_bad, ends_part, is_empty, with_records}
use Rattle.rr_replication.proofs.GivenLemmas.{IsPart, is_part, no_bytes}
use Rattle.rr_replication.proofs.TextLemmas.{behind_append, dropped, later_fit, len_append, length_of_text, parts_are_taken, within_first}

-- ---- files end between records

-- an offset is between two records
abbrev IsBetween : ℕ → List Raw → ℕ → Type 0
IsBetween begin all offset =
    (first : List Raw) × (later : List Raw) × (all ≡ first ++ later) × (offset ≡ begin + records_len first)

pub concat_texts : (before : List ℕ) (files : List (List Raw))
    → concat (texts before files) ≡ records_text before (all_records files)
unfolding records_text
concat_texts before [] = refl
concat_texts before (rs ∷ files) =
    ap (λ (l : List ℕ). records_text before rs ++ l) (concat_texts (chain before rs) files)
    ∙ sym (texts_go_on before rs (all_records files))

-- where files begin behind some records
files_between : (begin : ℕ) (all first : List Raw) (before : List ℕ) (files : List (List Raw))
    → all ≡ first ++ all_records files
    → AllByRecursion (IsBetween begin all) (offsets (begin + records_len first) (texts before files))
files_between begin all first before [] is = tt
files_between begin all first before (rs ∷ files) is =
    let next : (begin + records_len first) + length (records_text before rs) ≡ begin + records_len (first ++ rs) =
    omega (arith, length_of_text before rs, len_append first rs) in (
      (first, rs ++ all_records files, is, refl),
      subst (λ (n : ℕ). AllByRecursion (IsBetween begin all) (offsets n (texts (chain before rs) files))) (sym next)
          (files_between begin all (first ++ rs) (chain before rs) files
          (is ∙ sym (append_assoc first rs (all_records files)))),
    )

least_between : (begin a b : ℕ) (all : List Raw) → IsBetween begin all a → IsBetween begin all b
    → IsBetween begin all (min a b)
least_between begin a b all p q = by_test (nat_le a b) refl
  where
    by_test : (t : Bool) → nat_le a b ≡ t → IsBetween begin all (min a b)
    by_test true t = let is : a ≡ min a b = omega (arith, leb-true _ _ t) in subst (IsBetween begin all) is p
    by_test false t = let is : b ≡ min a b = omega (arith, leb-false _ _ t) in subst (IsBetween begin all) is q

ends_between : (begin end from : ℕ) (all : List Raw) (files : List ℕ) → AllByRecursion (IsBetween begin all) files
    → IsBetween begin all end → IsBetween begin all (ends_at files end from)
ends_between begin end from all [] h e = e
ends_between begin end from all (file ∷ files) h e =
    by_test (nat_lt from file) (ends_between begin end from all files h.1 e)
  where
    by_test : (t : Bool) → IsBetween begin all (ends_at files end from)
        → IsBetween begin all (if t then min (ends_at files end from) file else ends_at files end from)
    by_test true g = least_between begin (ends_at files end from) file all g h.0
    by_test false g = g

-- so a file that doesn't end at a record's beginning has all of it
whole_record : (done first later others : List Raw) (r : Raw) → done ++ r ∷ others ≡ first ++ later
    → records_len done < records_len first → records_len done + record_len r ≤ records_len first
whole_record [] [] later others r is lt = absurd (omega (arith, lt))
whole_record [] (f ∷ first) later others r is lt =
    let same : r ≡ f = cc is in omega (arith, ap record_len same)
whole_record (d ∷ done) [] later others r is lt = absurd (omega (arith, lt))
whole_record (d ∷ done) (f ∷ first) later others r is lt =
    let same : d ≡ f = cc is in
    let rest : done ++ r ∷ others ≡ first ++ later = cc is in
    let len : record_len d ≡ record_len f = ap record_len same in
    let more = whole_record done first later others r rest (omega (arith, len, lt)) in
    omega (arith, len, more)

have_bytes : (before : List ℕ) (files : List (List Raw)) → HaveRecords files → HaveBytes (texts before files)
have_bytes before [] h = tt
have_bytes before (rs ∷ []) h = tt
have_bytes before ([] ∷ (next ∷ files)) h = absurd (omega (arith, h.0))
have_bytes before ((r ∷ rs) ∷ (next ∷ files)) h = (
  omega (arith, length_of_text before (r ∷ rs)),
  have_bytes (chain before (r ∷ rs)) (next ∷ files) h.1,
)

-- ---- what records mean, apart

pub record AreApart (s : Layout) (rs qs : List Raw) (all : List Meaning) : Type 0 where
  pub first : List Meaning
  pub later : List Meaning
  pub first_read : meanings_of s rs ≡ Ok first
  pub later_read : meanings_of s qs ≡ Ok later
  pub whole : all ≡ first ++ later

meanings_apart : (s : Layout) (rs qs : List Raw) (all : List Meaning) → meanings_of s (rs ++ qs) ≡ Ok all
    → AreApart s rs qs all
meanings_apart s [] qs all e = record { first = []; later = all; first_read = refl; later_read = e; whole = refl }
meanings_apart s (r ∷ rs) qs all e =
    by_read (record_meaning s r) (meanings_of s (rs ++ qs)) refl refl (meanings_apart s rs qs) e
  where
    by_read : (m : Result Meaning JournalFault) (ms : Result (List Meaning) JournalFault) → record_meaning s r ≡ m
        → meanings_of s (rs ++ qs) ≡ ms
        → ((l : List Meaning) → meanings_of s (rs ++ qs) ≡ Ok l → AreApart s rs qs l)
        → (m >>= λ x. ms >>= λ xs. Ok (x ∷ xs)) ≡ Ok all → AreApart s (r ∷ rs) qs all
    by_read (Ok m) (Ok ms) p q later e =
        let is : m ∷ ms ≡ all = cc e in
        let h = later ms q in record {
          first = m ∷ h.first;
          later = h.later;
          first_read = ap (λ (x : Result Meaning JournalFault). x >>= λ y. meanings_of s rs >>= λ ys. Ok (y ∷ ys)) p
              ∙ ap (λ (x : Result (List Meaning) JournalFault). x >>= λ ys. Ok (m ∷ ys)) h.first_read;
          later_read = h.later_read;
          whole = sym is ∙ ap (λ (l : List Meaning). m ∷ l) h.whole;
        }
    by_read (Ok m) (Err fault) p q later e = absurd (cc e)
    by_read (Err fault) ms p q later e = absurd (cc e)

with_twice : (x : PeerState) (rs qs : List Raw) (ms ns : List Meaning)
    → with_records (with_records x rs ms) qs ns ≡ with_records x (rs ++ qs) (ms ++ ns)
with_twice x rs qs ms ns =
    let cells : (x.cells ++ cells_of_all ms) ++ cells_of_all ns ≡ x.cells ++ cells_of_all (ms ++ ns) =
    append_assoc x.cells (cells_of_all ms) (cells_of_all ns)
    ∙ ap (λ (l : List NamedCell). x.cells ++ l) (sym (flat_map-append cells_of_record ms ns)) in
    λ i. record { place = behind_append x.place rs qs i; cells = cells i }

with_none : (x : PeerState) → x.place.offset < 2 ^ 64 → x ≡ with_records x [] []
with_none x fits =
    let place = behind_none x.place fits in
    λ i. record { place = place i; cells = sym (append-nil x.cells) i }

-- ---- again and again

nothing_read : (s : Layout) (x : PeerState) → x.place.offset < 2 ^ 64 → after_part s x [] ≡ Ok x
nothing_read s x fits =
    let none : records_of x.place.digest [] ≡ ([], []) = none_first x.place.digest [] (nothing_at x.place.digest) in
    ap (λ (y : List Raw × List ℕ). as_bad (meanings_of s y.0) >>= λ ms. ends_part (stop_before y.1) (is_empty y.0)
    >>= λ t. Ok (with_records x y.0 ms)) none
    ∙ ap (λ (y : PeerState). Ok y) (sym (with_none x fits))

one_whole : (r : Raw) (rs : List Raw) (len : ℕ) → record_len r ≤ len → 1 ≤ length (whole_within len (r ∷ rs))
one_whole r rs len le =
    let is : whole_within len (r ∷ rs) ≡ r ∷ whole_within (len - record_len r) rs =
    ap (λ (t : Bool). if t then r ∷ whole_within (len - record_len r) rs else []) (le-leb _ _ le) in
    omega (arith, ap length is)

module _ (s : Layout) (begin : Cursor) (files : List (List Raw)) (fits : AllFit (all_records files))
    (have : HaveRecords files) (short : begin.offset + records_len (all_records files) < 2 ^ 64) where
  abbrev all : List Raw
  all = all_records files

  abbrev end : ℕ
  end = begin.offset + records_len all

  abbrev bytes : List (List ℕ)
  bytes = texts begin.digest files

  abbrev starts : List ℕ
  starts = offsets begin.offset bytes

  at_end : (n : ℕ) (x : PeerState) → end ≡ x.place.offset → follow n s begin.offset bytes end x ≡ Ok x
  at_end zero x e = refl
  at_end (suc n) x e =
      ap (λ (l : List ℕ). after_part s x l >>= λ y. follow n s begin.offset bytes end y)
      (no_bytes begin.offset end x.place.offset bytes e)
      ∙ ap (λ (t : Result PeerState PartFault). t >>= λ y. follow n s begin.offset bytes end y)
      (nothing_read s x (omega (arith, e, short)))
      ∙ at_end n x e

  -- behind records that were read, a part has the first of the others
  record Next (x : PeerState) (r : Raw) (others : List Raw) : Type 0 where
    len : ℕ
    holds : record_len r ≤ len
    is : bytes_of begin.offset bytes (part_from starts end x.place.offset)
        ≡ take len (records_text x.place.digest (r ∷ others))

  abbrev given_at : PeerState → List ℕ
  given_at x = bytes_of begin.offset bytes (part_from starts end x.place.offset)

  holds_first : (x : PeerState) (done others : List Raw) (r : Raw) → all ≡ done ++ r ∷ others
      → x.place.digest ≡ chain begin.digest done → x.place.offset ≡ begin.offset + records_len done
      → IsPart begin.offset end x.place.offset (ends_at starts end x.place.offset) (concat bytes) (given_at x)
      → Next x r others
  holds_first x done others r parts digest at h =
      let from = x.place.offset in
      let none_off : begin.offset + 0 ≡ begin.offset = omega arith in
      let between = ends_between begin.offset end from all starts
      (subst (λ (n : ℕ). AllByRecursion (IsBetween begin.offset all) (offsets n bytes)) none_off
      (files_between begin.offset all [] begin.digest files refl))
      (all, [], sym (append-nil all), refl) in
      let whole = whole_record done between.0 between.1 others r (sym parts ∙ between.2)
      (omega (arith, between.3, h.long, h.some, at)) in
      let r_fits : Fits r = (later_fit done (r ∷ others) (subst AllFit parts fits)).0 in
      let first = records_text begin.digest done in
      let second = records_text (chain begin.digest done) (r ∷ others) in
      let apart : concat bytes ≡ first ++ second =
      concat_texts begin.digest files ∙ ap (records_text begin.digest) parts
      ∙ texts_go_on begin.digest done (r ∷ others) in
      let off : length first ≡ from - begin.offset = omega (arith, length_of_text begin.digest done, at) in
      let left : drop (from - begin.offset) (concat bytes) ≡ records_text x.place.digest (r ∷ others) =
      ap (drop (from - begin.offset)) apart ∙ dropped first second (from - begin.offset) off
      ∙ ap (λ (d : List ℕ). records_text d (r ∷ others)) (sym digest) in
      record {
        len = h.len;
        holds = omega (arith, h.long, whole, between.3, at, r_fits);
        is = h.is ∙ ap (take h.len) left;
      }

  next : (x : PeerState) (done others : List Raw) (r : Raw) → all ≡ done ++ r ∷ others → x.place ≡ behind_all begin done
      → Next x r others
  next x done others r parts place =
      let digest : x.place.digest ≡ chain begin.digest done = ap (λ (c : Cursor). c.digest) place in
      let len : records_len all ≡ records_len done + records_len (r ∷ others) =
      ap records_len parts ∙ len_append done (r ∷ others) in
      let at : x.place.offset ≡ begin.offset + records_len done =
      ap (λ (c : Cursor). c.offset) place ∙ omega (arith, len, short) in
      let long : length (concat bytes) ≡ records_len all =
      ap length (concat_texts begin.digest files) ∙ length_of_text begin.digest all in
      holds_first x done others r parts digest at
      (is_part begin.offset end x.place.offset bytes (have_bytes begin.digest files have) (omega (arith, at))
      (omega (arith, at, len)) (omega (arith, long)))

  catch_up : (n : ℕ) (x : PeerState) (done others : List Raw) (ms : List Meaning) → length others ≤ n
      → all ≡ done ++ others → x.place ≡ behind_all begin done → meanings_of s others ≡ Ok ms
      → follow n s begin.offset bytes end x ≡ Ok (with_records x others ms)
  catch_up n x done [] ms enough parts place read =
      let none : [] ≡ ms = cc read in
      let len : records_len all ≡ records_len done + 0 = ap records_len parts ∙ len_append done [] in
      let at : end ≡ x.place.offset =
      omega (arith, len, short, ap (λ (c : Cursor). c.offset) place) in
      at_end n x at
      ∙ ap (λ (y : PeerState). Ok y) (with_none x (omega (arith, at, short)))
      ∙ ap (λ (l : List Meaning). Ok (with_records x [] l)) none
  catch_up zero x done (r ∷ others) ms enough parts place read = absurd (omega (arith, enough))
  catch_up (suc n) x done (r ∷ others) ms enough parts place read =
      let h = next x done others r parts place in
      let whole = whole_within h.len (r ∷ others) in
      let rest = within_first h.len (r ∷ others) in
      let apart = meanings_apart s whole rest.0 ms (sym (ap (meanings_of s) rest.1) ∙ read) in
      let y = with_records x whole apart.first in
      let taken : after_part s x (take h.len (records_text x.place.digest (r ∷ others))) ≡ Ok y =
      parts_are_taken s x r others h.len apart.first (later_fit done (r ∷ others) (subst AllFit parts fits)) h.holds
      apart.first_read in
      let fewer : length rest.0 ≤ n =
      omega (arith, enough, one_whole r others h.len h.holds, ap length rest.1, length-append whole rest.0) in
      let further : y.place ≡ behind_all begin (done ++ whole) =
      ap (λ (c : Cursor). behind_all c whole) place ∙ behind_append begin done whole in
      ap (λ (l : List ℕ). after_part s x l >>= λ z. follow n s begin.offset bytes end z) h.is
      ∙ ap (λ (t : Result PeerState PartFault). t >>= λ z. follow n s begin.offset bytes end z) taken
      ∙ catch_up n y (done ++ whole) rest.0 apart.later fewer
      (parts ∙ ap (λ (l : List Raw). done ++ l) rest.1 ∙ sym (append_assoc done whole rest.0)) further apart.later_read
      ∙ ap (λ (z : PeerState). Ok z) (with_twice x whole rest.0 apart.first apart.later)
      ∙ ap₂ (λ (l : List Raw) (m : List Meaning). Ok (with_records x l m)) (sym rest.1) (sym apart.whole)

pub peers_catch_up : PeersCatchUp
peers_catch_up s begin files done others x ms fits have all short place read =
    catch_up s begin files fits have short (length others) x done others ms (omega arith) all place read
