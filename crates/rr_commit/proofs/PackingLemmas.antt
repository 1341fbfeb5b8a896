-- Cells packed into records, step by step.
use Rattle.std.proofs.Common.{◌≡◌, ℕ, ℤ, ◌+◌, ◌*◌, ◌<◌, ◌≤◌, List, [], ◌∷◌, ◌++◌, map, length, refl, sym, ap, ◌∙◌, append_assoc, append-nil, arith, ⊎_elim}
use Rattle.std.specs.Prelude.{Err, Ok, OnOk, Result, if◌then◌else◌}
use Rattle.std.specs.Result.{is_ok}
use Rattle.std.specs.Global.{Vec}
use Rattle.std.specs.List.{AllByRecursion, flat_map, range_with_len}
use Rattle.std.proofs.lemmas.Grind.{flat_map-append}
use Rattle.std.proofs.lemmas.List.{length-append, map-append}
use Rattle.std.proofs.lemmas.List.Elements.{All-nil, All-push, All-weaker, Contains-append_left, Contains-push, Contains-push_cases}
use Rattle.std.proofs.lemmas.List.FromFn.{map-range_with_len_more}
use Rattle.rr_archive.specs.declared.entry.Entry.{Entry}
use Rattle.rr_cells.specs.CellBounds.{NamedCell}
use Rattle.rr_changes.specs.Listing.{named_cell}
use Rattle.rr_replica.proofs.Each.{length-map}
use Rattle.rr_journal.specs.declared.raw.RawRecord.{RawRecord}
use Rattle.rr_journal.specs.declared.raw.TheConstants.{MAX_BODY_LEN}
use Rattle.rr_journal.specs.Body.{HasCells, Meaning, PackedCells, body_text, group_text, raw_text}
use Rattle.rr_journal.specs.Text.{raw_of}
use Rattle.rr_recovery.specs.Joining.{cells_of_record, group_cells}
use Rattle.rr_commit.specs.declared.record.TheConstants.{MAX_RECORD_CELLS}
use Rattle.rr_commit.specs.Packing.{AddsGroup, AreCells, ArePacked, AreTogether, IsInOne}
use Rattle.rr_commit.proofs.GroupingLemmas.{group_len}

-- ---- in one record

abbrev Parts : Type 0
Parts = List (List NamedCell)

-- whether a list is held to be together
abbrev Held : List Meaning → List NamedCell → Type 0
Held ms es = 1 ≤ length es → length es ≤ MAX_RECORD_CELLS → IsInOne ms es

-- so it is with records added
in_one_more : (ms qs : List Meaning) (es : List NamedCell) → IsInOne ms es → IsInOne (ms ++ qs) es
in_one_more ms qs es is = record {
  meaning = is.meaning;
  among = Contains-append_left ms qs is.meaning is.among;
  before = is.before;
  after = is.after;
  has = is.has;
}

together_more : (ms qs : List Meaning) (parts : Parts) → AreTogether ms parts → AreTogether (ms ++ qs) parts
together_more ms qs parts are =
    All-weaker (Held ms) (Held (ms ++ qs)) (λ es held some few. in_one_more ms qs es (held some few)) parts are

-- and with groups added to the last of them
in_one_longer : (ms : List Meaning) (next kept : List PackedCells) (es : List NamedCell)
    → IsInOne (ms ++ HasCells next ∷ []) es → IsInOne (ms ++ HasCells (next ++ kept) ∷ []) es
in_one_longer ms next kept es is = ⊎_elim
    (λ was. record {
      meaning = is.meaning;
      among = Contains-append_left ms (HasCells (next ++ kept) ∷ []) is.meaning was;
      before = is.before;
      after = is.after;
      has = is.has;
    })
    (λ last. record {
      meaning = HasCells (next ++ kept);
      among = Contains-push ms (HasCells (next ++ kept));
      before = is.before;
      after = is.after ++ flat_map group_cells kept;
      has = flat_map-append group_cells next kept
          ∙ ap (λ es. es ++ flat_map group_cells kept) (ap cells_of_record last ∙ is.has)
          ∙ append_assoc is.before (es ++ is.after) (flat_map group_cells kept)
          ∙ ap (λ l. is.before ++ l) (append_assoc es is.after (flat_map group_cells kept));
    })
    (Contains-push_cases ms (HasCells next) is.meaning is.among)

together_longer : (ms : List Meaning) (next kept : List PackedCells) (parts : Parts)
    → AreTogether (ms ++ HasCells next ∷ []) parts → AreTogether (ms ++ HasCells (next ++ kept) ∷ []) parts
together_longer ms next kept parts are = All-weaker (Held (ms ++ HasCells next ∷ []))
    (Held (ms ++ HasCells (next ++ kept) ∷ []))
    (λ es held some few. in_one_longer ms next kept es (held some few)) parts are

-- the groups that come last are in one record
last_in_one : (ms : List Meaning) (next kept : List PackedCells) (es : List NamedCell) → flat_map group_cells kept ≡ es
    → IsInOne (ms ++ HasCells (next ++ kept) ∷ []) es
last_in_one ms next kept es is = record {
  meaning = HasCells (next ++ kept);
  among = Contains-push ms (HasCells (next ++ kept));
  before = flat_map group_cells next;
  after = [];
  has = flat_map-append group_cells next kept
      ∙ ap (λ l. flat_map group_cells next ++ l) (is ∙ sym (append-nil es));
}

-- a record without cells has none of them
together_before : (ms : List Meaning) (next : List PackedCells) (parts : Parts) → flat_map group_cells next ≡ []
    → AreTogether (ms ++ HasCells next ∷ []) parts → AreTogether ms parts
together_before ms next parts none are = All-weaker (Held (ms ++ HasCells next ∷ [])) (Held ms)
    (λ es held some few. by es some (held some few)) parts are
  where
    by : (es : List NamedCell) → 1 ≤ length es → IsInOne (ms ++ HasCells next ∷ []) es → IsInOne ms es
    by es some is = ⊎_elim
        (λ was. record {
          meaning = is.meaning;
          among = was;
          before = is.before;
          after = is.after;
          has = is.has;
        })
        (λ last.
        let empty = ap length (sym none ∙ ap cells_of_record last ∙ is.has) in
        let first = length-append is.before (es ++ is.after) in
        let rest = length-append es is.after in
        absurd (omega (arith, some, empty, first, rest)))
        (Contains-push_cases ms (HasCells next) is.meaning is.among)

-- ---- records

all_fit : (xs ys : List RawRecord) → AllByRecursion (λ raw. length raw.body.items ≤ MAX_BODY_LEN) xs
    → AllByRecursion (λ raw. length raw.body.items ≤ MAX_BODY_LEN) ys
    → AllByRecursion (λ raw. length raw.body.items ≤ MAX_BODY_LEN) (xs ++ ys)
all_fit [] ys a b = b
all_fit (x ∷ xs) ys a b = (a.0, all_fit xs ys a.1 b)

-- groups without a byte are none
no_groups : (gs : List PackedCells) → [] ≡ flat_map group_text gs → flat_map group_cells gs ≡ []
no_groups [] none = refl
no_groups (g ∷ gs) none =
    let own = group_len g in
    let all = ap length none ∙ length-append (group_text g) (flat_map group_text gs) in
    absurd (omega (arith, own, all))

pub none_packed : AreCells [] [] [] [] [] 0
none_packed = record {
  closed = [];
  next = [];
  kept = [];
  text = refl;
  fits = tt;
  body_text = refl;
  own_text = refl;
  body_fits = omega arith;
  own_fits = omega arith;
  own_small = omega arith;
  has = refl;
  all_kept = λ few. refl;
  together = All-nil (Held (HasCells [] ∷ []));
}

raw_is : (next : List PackedCells) (raw : RawRecord) → raw.kind ≡ 1 → raw.body.items ≡ flat_map group_text next
    → raw_of raw ≡ raw_text (HasCells next)
unfolding body_text
raw_is next raw kind text = λ i. record { kind = kind i; body = text i }

-- a record more is closed
pub closed_more : (records : List RawRecord) (body own : List ℕ) (done : Parts) (since : List NamedCell) (more : ℕ)
    (raw : RawRecord) → AreCells records body own done since more → raw.kind ≡ 1 → raw.body.items ≡ body
    → AreCells (records ++ raw ∷ []) [] own done since more
closed_more records body own done since more raw are kind same =
    let next = flat_map group_cells are.next in
    let kept = flat_map group_cells are.kept in
    record {
      closed = are.closed ++ HasCells are.next ∷ [];
      next = [];
      kept = are.kept;
      text = map-append raw_of records (raw ∷ [])
          ∙ (λ i. are.text i ++ raw_is are.next raw kind (same ∙ are.body_text) i ∷ [])
          ∙ sym (map-append raw_text are.closed (HasCells are.next ∷ []));
      fits = all_fit records (raw ∷ []) are.fits
          ((let fits = are.body_fits in let long = ap length same in omega (arith, fits, long)), tt);
      body_text = refl;
      own_text = are.own_text;
      body_fits = omega arith;
      own_fits = are.own_fits;
      own_small = are.own_small;
      has = ap (λ es. es ++ kept) (flat_map-append cells_of_record are.closed (HasCells are.next ∷ [])
          ∙ ap (λ es. flat_map cells_of_record are.closed ++ es) (append-nil next))
          ∙ append_assoc (flat_map cells_of_record are.closed) next kept ∙ are.has;
      all_kept = are.all_kept;
      together = together_more (are.closed ++ HasCells are.next ∷ []) (HasCells [] ∷ []) done are.together;
    }

-- the groups that were kept back come into the next record: those of a whole series
pub settled_whole : (records : List RawRecord) (body own : List ℕ) (done : Parts) (since : List NamedCell)
    → AreCells records body own done since 0 → length body + length own ≤ MAX_BODY_LEN
    → AreCells records (body ++ own) [] (done ++ since ∷ []) [] 0
settled_whole records body own done since are fits =
    let next = flat_map group_cells are.next in
    let kept = flat_map group_cells are.kept in
    let before = flat_map cells_of_record are.closed in
    record {
      closed = are.closed;
      next = are.next ++ are.kept;
      kept = [];
      text = are.text;
      fits = are.fits;
      body_text = (λ i. are.body_text i ++ are.own_text i) ∙ sym (flat_map-append group_text are.next are.kept);
      own_text = refl;
      body_fits = let long = length-append body own in omega (arith, fits, long);
      own_fits = omega arith;
      own_small = omega arith;
      has = ap (λ es. before ++ es) (append-nil (flat_map group_cells (are.next ++ are.kept))
          ∙ flat_map-append group_cells are.next are.kept) ∙ are.has
          ∙ ap (λ es. flat_map (λ es. es) done ++ es) (sym (append-nil since))
          ∙ sym (flat_map-append (λ es. es) done (since ∷ []))
          ∙ sym (append-nil (flat_map (λ es. es) (done ++ since ∷ [])));
      all_kept = λ few. refl;
      together = All-push (Held (are.closed ++ HasCells (are.next ++ are.kept) ∷ [])) done since
          (together_longer are.closed are.next are.kept done are.together)
          (λ some few. last_in_one are.closed are.next are.kept since (are.all_kept (omega (arith, few))));
    }

-- or those of a part of one, where a record holds them no longer with this many more
pub settled_part : (records : List RawRecord) (body own : List ℕ) (done : Parts) (since : List NamedCell) (more : ℕ)
    → AreCells records body own done since 0 → length body + length own ≤ MAX_BODY_LEN
    → MAX_RECORD_CELLS < length since + more → AreCells records (body ++ own) [] done since more
settled_part records body own done since more are fits many =
    let before = flat_map cells_of_record are.closed in
    record {
      closed = are.closed;
      next = are.next ++ are.kept;
      kept = [];
      text = are.text;
      fits = are.fits;
      body_text = (λ i. are.body_text i ++ are.own_text i) ∙ sym (flat_map-append group_text are.next are.kept);
      own_text = refl;
      body_fits = let long = length-append body own in omega (arith, fits, long);
      own_fits = omega arith;
      own_small = omega arith;
      has = ap (λ es. before ++ es) (append-nil (flat_map group_cells (are.next ++ are.kept))
          ∙ flat_map-append group_cells are.next are.kept) ∙ are.has;
      all_kept = λ few. absurd (omega (arith, few, many));
      together = together_longer are.closed are.next are.kept done are.together;
    }

-- a group more is kept back
pub kept_more : (records : List RawRecord) (body own : List ℕ) (done : Parts) (since : List NamedCell) (key : List ℕ)
    (archive : ℕ) (run : List (ℤ × Entry)) (bytes : Vec ℕ) → AreCells records body own done since (length run)
    → AddsGroup key archive run bytes → length own + length bytes.items ≤ MAX_BODY_LEN
    → AreCells records body (own ++ bytes.items) done (since ++ map (named_cell key archive) run) 0
kept_more records body own done since key archive run bytes are adds fits =
    let next = flat_map group_cells are.next in
    let kept = flat_map group_cells are.kept in
    let before = flat_map cells_of_record are.closed in
    let new = map (named_cell key archive) run in
    let groups : flat_map group_cells (are.kept ++ adds.group ∷ []) ≡ kept ++ new =
    flat_map-append group_cells are.kept (adds.group ∷ [])
    ∙ ap (λ es. kept ++ es) (append-nil (group_cells adds.group) ∙ adds.has) in
    let long = length-append own bytes.items in
    let cells = length-append since new in
    let as_many = length-map (named_cell key archive) run in
    record {
      closed = are.closed;
      next = are.next;
      kept = are.kept ++ adds.group ∷ [];
      text = are.text;
      fits = are.fits;
      body_text = are.body_text;
      own_text = (λ i. are.own_text i ++ (adds.text ∙ sym (append-nil (group_text adds.group))) i)
          ∙ sym (flat_map-append group_text are.kept (adds.group ∷ []));
      body_fits = are.body_fits;
      own_fits = omega (arith, fits, long);
      own_small = let small = are.own_small in let group = adds.small in
          omega (arith, small, group, long, cells, as_many);
      has = ap (λ es. before ++ (next ++ es)) groups
          ∙ ap (λ es. before ++ es) (sym (append_assoc next kept new))
          ∙ sym (append_assoc before (next ++ kept) new)
          ∙ ap (λ es. es ++ new) are.has
          ∙ append_assoc (flat_map (λ es. es) done) since new;
      all_kept = λ few. groups
          ∙ ap (λ es. es ++ new) (are.all_kept (omega (arith, few, cells, as_many)));
      together = are.together;
    }

-- as many more cells may come as come to be kept back
pub with_room : (records : List RawRecord) (body own : List ℕ) (done : Parts) (since : List NamedCell) (more : ℕ)
    → AreCells records body own done since 0 → AreCells records body own done since more
with_room records body own done since more are = record {
  closed = are.closed;
  next = are.next;
  kept = are.kept;
  text = are.text;
  fits = are.fits;
  body_text = are.body_text;
  own_text = are.own_text;
  body_fits = are.body_fits;
  own_fits = are.own_fits;
  own_small = are.own_small;
  has = are.has;
  all_kept = λ few. are.all_kept (omega (arith, few));
  together = are.together;
}

-- where own groups and another have too many bytes for a record, they have too many cells
pub too_many : (own group since run : ℕ) → own ≤ 1178 * since → group ≤ 1178 * run → MAX_BODY_LEN < own + group
    → MAX_RECORD_CELLS < since + run
too_many own group since run a b long = omega (arith, a, b, long)

-- where no group is left, the cells are those of the records
pub all_closed : (records : List RawRecord) (body own : List ℕ) (done : Parts) → AreCells records body own done [] 0
    → body ≡ [] → ArePacked done records
all_closed records body own done are no_body =
    let next : flat_map group_cells are.next ≡ [] = no_groups are.next (sym no_body ∙ are.body_text) in
    let kept : flat_map group_cells are.kept ≡ [] = are.all_kept (omega arith) in
    record {
      meanings = are.closed;
      text = are.text;
      has = sym (append-nil (flat_map cells_of_record are.closed))
          ∙ ap (λ es. flat_map cells_of_record are.closed ++ es) (λ i. sym next i ++ sym kept i)
          ∙ are.has ∙ append-nil (flat_map (λ es. es) done);
      fits = are.fits;
      together = together_before are.closed are.next done next are.together;
    }

-- ---- results

pub both_ok : {E : Type 0} (P Q : Type 0) (r : Result (Unit {0}) E) → OnOk r P → OnOk r Q → OnOk r (P × Q)
both_ok P Q (Ok done) p q = (p, q)
both_ok P Q (Err fault) p q = tt

pub ok_items : {E X : Type 0} (r : Result (Unit {0}) E) (x a b : X) → x ≡ (if is_ok r then a else b) → OnOk r (x ≡ a)
ok_items (Ok done) x a b is = is
ok_items (Err fault) x a b is = tt

pub none_there : {X : Type 0} (xs : List X) → length xs ≡ 0 → xs ≡ []
none_there [] none = refl
none_there (x ∷ xs) none = absurd (omega (arith, none))

-- one archive more
pub archive_more : {X : Type 0} (f : ℕ → List X) (n : ℕ)
    → flat_map f (range_with_len 0 n) ++ f n ≡ flat_map f (range_with_len 0 (n + 1))
archive_more f n =
    ap (λ es. flat_map f (range_with_len 0 n) ++ es) (sym (append-nil (f n)))
    ∙ sym (flat_map-append f (range_with_len 0 n) (n ∷ []))
    ∙ ap (flat_map f) (sym one_more)
  where
    itself : (xs : List ℕ) → map (λ x. x) xs ≡ xs
    itself [] = refl
    itself (x ∷ xs) = ap (λ l. x ∷ l) (itself xs)

    one_more : range_with_len 0 (n + 1) ≡ range_with_len 0 n ++ n ∷ []
    one_more = sym (itself (range_with_len 0 (n + 1))) ∙ map-range_with_len_more (λ x. x) 0 n n (omega arith)
        ∙ ap (λ l. l ++ n ∷ []) (itself (range_with_len 0 n))
