-- Checkpoints that are read while a node goes on.
use Rattle.std.proofs.Common.{ℕ, ◌≡◌, suc, Bool, true, false, cond, List, [], ◌∷◌, ◌++◌, map, refl, sym, ap, ◌∙◌, subst, arith, true≢false, ⊎_elim, ◌⊎◌, inl, inr, Option, Some, None, length}
use Rattle.std.specs.Prelude.{nat_lt, MatchBool, All, Contains}
use Rattle.std.specs.List.{AllByRecursion, filter, flat_map}
use Rattle.std.specs.Ordering.{eq_by_cmp, is_lt}
use Rattle.std.specs.FinMap.{get, empty, entries, entries_sorted, find, get-entries, get-empty}
use Rattle.std.proofs.lemmas.List.{append-nil}
use Rattle.std.proofs.lemmas.List.Elements.{All-contains, All-contains_itself, All-filter, All-from_recursion, All-take, All-weaker, Contains-append_cases, Contains-append_left, Contains-append_right, filter_passes, recursion_from_All}
use Rattle.rr_schema.specs.Schema.{Layout, IsLayout}
use Rattle.rr_join.proofs.Members.{same_from_tie}
use Rattle.rr_contrib.specs.declared.contribution.Contribution.{Contribution}
use Rattle.rr_cells.specs.CellNames.{CellName, cell_name_cmp}
use Rattle.rr_cells.specs.CellBounds.{NamedCell}
use Rattle.rr_cells.specs.Cells.{Cells, IsTrimmed}
use Rattle.rr_cells.specs.Joins.{join_cell, join_cells}
use Rattle.rr_delta.specs.Summaries.{cells_after}
use Rattle.rr_changes.specs.Changes.{last_name, next_of}
use Rattle.rr_changes.specs.Updates.{Holds, Write, AreWrites, last_cells, written_cells}
use Rattle.rr_changes.specs.Checkpoints.{AreFrom, WasHeld, IsCheckpoint, Batch, walked, GoesForward, Read, AreReads, batches_of, end_of}
use Rattle.rr_changes.specs.CheckpointLaws.{CheckpointsBringAll, CheckpointsBringWhatWasHeld, CheckpointsMakeTheLast, WalksBringAll, WalksBringWhatWasHeld, WalksMakeTheLast, ReadsAreAWalk}
use Rattle.rr_cells.proofs.CellByCell.{join_goes_by_cells, join_nothing, trimmed_none}
use Rattle.rr_cells.proofs.HeldCells.{all_entries}
use Rattle.rr_cells.proofs.JoinLaws.{join_itself}
use Rattle.rr_cells.proofs.Orders.{cell_name_cmp_total, cell_name_cmp-IsAntisymmetric}
use Rattle.rr_changes.proofs.AddingLemmas.{join_cases}
use Rattle.rr_changes.proofs.BatchLemmas.{all_few, part_more}
use Rattle.rr_changes.proofs.HoldingLemmas.{nowhere, one, only, holds_entries, holds_further, holds_trimmed, hold_each_other, still_held, each_held, made_held, brought, last_holds}
use Rattle.rr_changes.proofs.PastLemmas.{cover_of, holds_covered}

-- ---- lists

pub among_first : {X : Type 0} (x : X) (xs : List X) → Contains (x ∷ xs) x
among_first x xs = (0, omega arith, refl)

pub among_later : {X : Type 0} (y : X) (xs : List X) (x : X) → Contains xs x → Contains (y ∷ xs) x
among_later y xs x has = (suc has.0, (let below = has.1 in omega (arith, below)), has.2)

-- a cell of a map is one of its entries
pub among_entries : (m : Cells) (n : CellName) (c : Contribution) → get m n ≡ Some c → Contains (entries m) (n, c)
among_entries m n c there = by (entries m) (sym (get-entries m n) ∙ there)
  where
    by : (es : List NamedCell) → find cell_name_cmp n es ≡ Some c → Contains es (n, c)
    by [] h = absurd cc
    by (e ∷ es) h = elim (eq_by_cmp cell_name_cmp n e.0) as (λ b. eq_by_cmp cell_name_cmp n e.0 ≡ b
        → cond b (Some e.1) (find cell_name_cmp n es) ≡ Some c → Contains (e ∷ es) (n, c)) [
          | true ↦ λ t h.
              let name : n ≡ e.0 = same_from_tie cell_name_cmp_total cell_name_cmp-IsAntisymmetric n e.0 t in
              let cell : e.1 ≡ c = cc in
              subst (Contains (e ∷ es)) (λ i. (sym name i, cell i)) (among_first e es)
          | false ↦ λ t h. among_later e es (n, c) (by es h)
        ] refl h

-- a map holds each cell that it has
own_held : (s : Layout) → IsLayout s → (m : Cells) (n : CellName) (c : Contribution) → IsTrimmed s m
    → get m n ≡ Some c → Holds s m (one (n, c))
own_held s is m n c kept there = subst (λ (y : Cells). Holds s y (one (n, c)))
    (join_goes_by_cells s m m is kept ∙ join_itself s m is kept)
    (each_held s is (entries m) m (n, c) kept (among_entries m n c there))

-- each entry is a cell of its map
pub entries_there : (m : Cells) → All (λ e. get m e.0 ≡ Some e.1) (entries m)
entries_there m = All-from_recursion (λ e. get m e.0 ≡ Some e.1) (entries m)
    (all_entries (λ e. get m e.0 ≡ Some e.1) m (λ n c h. h))

kept_first : (f e : NamedCell) (xs : List NamedCell) (b : Bool) → b ≡ true → f ≡ e → Contains (cond b (f ∷ xs) xs) e
kept_first f e xs true t same = subst (Contains (f ∷ xs)) same (among_first f xs)
kept_first f e xs false t same = absurd (true≢false (sym t))

kept_later : (f e : NamedCell) (xs : List NamedCell) (b : Bool) → Contains xs e → Contains (cond b (f ∷ xs) xs) e
kept_later f e xs true has = among_later f xs e has
kept_later f e xs false has = has

pub among_filter : (test : NamedCell → Bool) (es : List NamedCell) (e : NamedCell) → test e ≡ true → Contains es e
    → Contains (filter test es) e
among_filter test [] e passes has = absurd (nowhere e has)
among_filter test (f ∷ es) e passes has = ⊎_elim
    (λ first. kept_first f e (filter test es) (test f) (ap test (only f e first) ∙ passes) (only f e first))
    (λ later. kept_later f e (filter test es) (test f) (among_filter test es e passes later))
    (Contains-append_cases (f ∷ []) es e has)

all_among : (P : NamedCell → Type 0) (xs : List NamedCell) → ((e : NamedCell) → Contains xs e → P e)
    → AllByRecursion P xs
all_among P xs each = recursion_from_All P xs (All-weaker (Contains xs) P each xs (All-contains_itself xs))

-- ---- after a name

abbrev IsAfter : Option CellName → CellName → Type 0
IsAfter None n = Unit {0}
IsAfter (Some a) n = is_lt (cell_name_cmp a n) ≡ true

still_after : (after : Option CellName) (n p : CellName) → IsAfter after n
    → ((a : CellName) → is_lt (cell_name_cmp a n) ≡ true → is_lt (cell_name_cmp a p) ≡ true) → IsAfter after p
still_after None n p h behind = tt
still_after (Some a) n p h behind = behind a h

among_after : (after : Option CellName) (es : List NamedCell) (e : NamedCell) → IsAfter after e.0 → Contains es e
    → Contains (cells_after after es) e
among_after None es e h has = has
among_after (Some n) es e h has = among_filter (λ e. is_lt (cell_name_cmp n e.0)) es e h has

after_it : (after : Option CellName) (es : List NamedCell) (e : NamedCell) → Contains (cells_after after es) e
    → IsAfter after e.0
after_it None es e has = tt
after_it (Some n) es e has = All-contains (λ e. is_lt (cell_name_cmp n e.0) ≡ true) (cells_after (Some n) es) e
    (filter_passes (λ e. is_lt (cell_name_cmp n e.0)) es) has

all_after : (P : NamedCell → Type 0) (after : Option CellName) (es : List NamedCell) → All P es
    → All P (cells_after after es)
all_after P None es all = all
all_after P (Some n) es all = All-filter (λ e. is_lt (cell_name_cmp n e.0)) P es all

module _ (s : Layout) (is : IsLayout s) where
  -- whoever holds these cells holds a map
  abbrev Bring : List NamedCell → Cells → Type 0
  Bring cells m = (x : Cells) → IsTrimmed s x → ((e : NamedCell) → Contains cells e → Holds s x (one e)) → Holds s x m

  keys_bring : (m : Cells) (moments : List Cells) (cells : List NamedCell) → IsTrimmed s m → AreFrom s m moments
      → IsCheckpoint moments cells → Bring cells m
  keys_bring m moments cells kept since of x trim hold =
      holds_entries s is x m trim (all_entries (λ e. Holds s x (one e)) m (λ n c there.
      let then = of n.key in
      let was = All-contains (λ held. Holds s held m) moments then.0 since then.1 in
      let p = cover_of s is then.0 (n, c) (holds_further s is then.0 m (one (n, c)) was (own_held s is m n c kept there)) in
      holds_covered s is x (p.name, p.cell) (n, c)
      (hold (p.name, p.cell) ((then.2 p.name p.cell p.key).1 p.there)) p.covers))

  walk_holds : (batches : List Batch) (after : Option CellName) (m last x : Cells) → GoesForward s m batches last
      → ((e : NamedCell) → Contains (walked after batches last) e → Holds s x (one e)) → (e : NamedCell)
      → IsAfter after e.0 → Holds s m (one e) → Holds s x (one e)
  walk_holds [] after m last x goes hold e behind has =
      let p = cover_of s is last e (holds_further s is last m (one e) goes has) in
      let f : NamedCell = (p.name, p.cell) in
      holds_covered s is x f e (hold f (among_after after (entries last) f
      (still_after after e.0 p.name behind p.behind) (among_entries last p.name p.cell p.there))) p.covers
  walk_holds (b ∷ batches) after m last x goes hold e behind has =
      let cells = next_of b.limit after (entries b.held) in
      let next = last_name after cells in
      let p = cover_of s is b.held e (holds_further s is b.held m (one e) goes.0 has) in
      let f : NamedCell = (p.name, p.cell) in
      let among = subst (λ (es : List NamedCell). Contains es f)
      (part_more b.limit after (entries b.held) (entries_sorted b.held))
      (among_after after (entries b.held) f (still_after after e.0 p.name behind p.behind)
      (among_entries b.held p.name p.cell p.there)) in
      holds_covered s is x f e (⊎_elim
      (λ here. hold f (Contains-append_left cells (walked next batches last) f here))
      (λ later. walk_holds batches next b.held last x goes.1
      (λ g has. hold g (Contains-append_right cells (walked next batches last) g has)) f
      (after_it next (entries b.held) f later)
      (own_held s is b.held p.name p.cell (holds_trimmed s is b.held m goes.0) p.there))
      (Contains-append_cases cells (cells_after next (entries b.held)) f among)) p.covers

  walks_bring : (m : Cells) (batches : List Batch) (last : Cells) → IsTrimmed s m → GoesForward s m batches last
      → Bring (walked None batches last) m
  walks_bring m batches last kept goes x trim hold =
      holds_entries s is x m trim (all_entries (λ e. Holds s x (one e)) m (λ n c there.
      walk_holds batches None m last x goes hold (n, c) tt (own_held s is m n c kept there)))

  -- ---- what all cells come to

  bring_all : (m x : Cells) (writes : List Write) (cells es : List NamedCell) → Bring cells m → AreWrites s m writes
      → IsTrimmed s x → All (Contains es) (cells ++ written_cells writes)
      → Holds s (join_cells s x es) (last_cells m writes)
  bring_all m x writes cells es bring are kept among =
      let y = join_cells s x es in
      let trim = holds_trimmed s is y x (still_held s is es x x (join_itself s x is kept)) in
      brought s is writes m y are
      (bring y trim (λ e has. each_held s is es x e kept (All-contains (Contains es) (cells ++ written_cells writes) e
      among (Contains-append_left cells (written_cells writes) e has))))
      (all_among (λ e. Holds s y (one e)) (written_cells writes) (λ e has. each_held s is es x e kept
      (All-contains (Contains es) (cells ++ written_cells writes) e among
      (Contains-append_right cells (written_cells writes) e has))))

  make_the_last : (m : Cells) (writes : List Write) (cells es : List NamedCell) → IsTrimmed s m → Bring cells m
      → AreWrites s m writes → ((e : NamedCell) → Contains cells e → Holds s (last_cells m writes) (one e))
      → All (Contains es) (cells ++ written_cells writes) → All (Contains (cells ++ written_cells writes)) es
      → join_cells s empty es ≡ last_cells m writes
  make_the_last m writes cells es kept bring are each among others =
      let last = last_cells m writes in
      let held = last_holds s is writes m are kept in
      hold_each_other s is (join_cells s empty es) last
      (bring_all m empty writes cells es bring are (trimmed_none s) among)
      (made_held s is es last empty (sym (join_nothing s last (holds_trimmed s is last m held.0)))
      (all_among (λ e. Holds s last (one e)) es (λ e has. ⊎_elim (each e)
      (λ written. All-contains (λ e. Holds s last (one e)) (written_cells writes) e
      (All-from_recursion (λ e. Holds s last (one e)) (written_cells writes) held.1) written)
      (Contains-append_cases cells (written_cells writes) e
      (All-contains (Contains (cells ++ written_cells writes)) es e others has)))))

  -- ---- what was held

  -- a cell that joins make stood there before, or is one of those that are joined
  pub joined_from : (es : List NamedCell) (x : Cells) (n : CellName) (c : Contribution)
      → get (join_cells s x es) n ≡ Some c → (get x n ≡ Some c) ⊎ Contains es (n, c)
  joined_from [] x n c h = inl h
  joined_from (e ∷ es) x n c h = ⊎_elim
      (λ was. ⊎_elim (λ old. inl old)
      (λ new. inr (subst (Contains (e ∷ es)) (λ i. (sym new.0 i, new.1 i)) (among_first e es)))
      (join_cases s is x e.0 e.1 n c was))
      (λ later. inr (among_later e es (n, c) later))
      (joined_from es (join_cell s x e.0 e.1) n c h)

  from_none : (es : List NamedCell) (n : CellName) (c : Contribution) → get (join_cells s empty es) n ≡ Some c
      → Contains es (n, c)
  from_none es n c h = ⊎_elim (λ was. let none = get-empty {X = Contribution} cell_name_cmp n in absurd cc)
      (λ among. among) (joined_from es empty n c h)

pub written_was_held : (s : Layout) (writes : List Write) (m : Cells) → AreWrites s m writes → (e : NamedCell)
    → Contains (written_cells writes) e → WasHeld (map (λ w. w.cells) writes) e.0 e.1
written_was_held s [] m are e has = absurd (nowhere e has)
written_was_held s (w ∷ later) m are e has = ⊎_elim
    (λ here. (
      w.cells,
      among_first w.cells (map (λ w. w.cells) later),
      are.1.part e.0 e.1 (All-contains (λ e. get w.update e.0 ≡ Some e.1) (entries w.update) e
          (entries_there w.update) here),
    ))
    (λ further. let held = written_was_held s later w.cells are.2 e further in (
      held.0,
      among_later w.cells (map (λ w. w.cells) later) held.0 held.1,
      held.2,
    ))
    (Contains-append_cases (entries w.update) (written_cells later) e has)

pub walked_was_held : (batches : List Batch) (after : Option CellName) (last : Cells) (more : List Cells) (e : NamedCell)
    → Contains (walked after batches last) e → WasHeld (map (λ b. b.held) batches ++ last ∷ more) e.0 e.1
walked_was_held [] after last more e has = (
  last,
  among_first last more,
  All-contains (λ e. get last e.0 ≡ Some e.1) (cells_after after (entries last)) e
      (all_after (λ e. get last e.0 ≡ Some e.1) after (entries last) (entries_there last)) has,
)
walked_was_held (b ∷ batches) after last more e has =
    let cells = next_of b.limit after (entries b.held) in
    let others = map (λ b. b.held) batches ++ last ∷ more in
    ⊎_elim
    (λ here. (
      b.held,
      among_first b.held others,
      All-contains (λ e. get b.held e.0 ≡ Some e.1) cells e
          (All-take (λ e. get b.held e.0 ≡ Some e.1) b.limit (cells_after after (entries b.held))
          (all_after (λ e. get b.held e.0 ≡ Some e.1) after (entries b.held) (entries_there b.held))) here,
    ))
    (λ later. let held = walked_was_held batches (last_name after cells) last more e later in
    (held.0, among_later b.held others held.0 held.1, held.2))
    (Contains-append_cases cells (walked (last_name after cells) batches last) e has)

further_held : (first more : List Cells) (n : CellName) (c : Contribution) → WasHeld more n c
    → WasHeld (first ++ more) n c
further_held first more n c held = (held.0, Contains-append_right first more held.0 held.1, held.2)

-- ---- the laws

pub checkpoints_bring_all : CheckpointsBringAll
checkpoints_bring_all s m x writes moments cells es is kept are since of trim among =
    bring_all s is m x writes cells es (keys_bring s is m moments cells kept since of) are trim among

pub checkpoints_bring_what_was_held : CheckpointsBringWhatWasHeld
checkpoints_bring_what_was_held s m writes moments cells es n c is are of others h = ⊎_elim
    (λ read. let then = of n.key in
    (then.0, Contains-append_left moments _ then.0 then.1, (then.2 n c refl).0 read))
    (λ written. further_held moments (map (λ w. w.cells) writes) n c
    (written_was_held s writes m are (n, c) written))
    (Contains-append_cases cells (written_cells writes) (n, c)
    (All-contains (Contains (cells ++ written_cells writes)) es (n, c) others (from_none s is es n c h)))

pub checkpoints_make_the_last : CheckpointsMakeTheLast
checkpoints_make_the_last s m writes moments cells es is kept are since until of among others =
    make_the_last s is m writes cells es kept (keys_bring s is m moments cells kept since of) are
    (λ e has.
    let then = of e.0.key in
    let last = last_cells m writes in
    let was = All-contains (λ held. Holds s held m) moments then.0 since then.1 in
    holds_further s is last then.0 (one e) (All-contains (λ held. Holds s last held) moments then.0 until then.1)
    (own_held s is then.0 e.0 e.1 (holds_trimmed s is then.0 m was) ((then.2 e.0 e.1 refl).0 has)))
    among others

pub walks_bring_all : WalksBringAll
walks_bring_all s m x writes batches last es is kept are goes trim among =
    bring_all s is m x writes (walked None batches last) es (walks_bring s is m batches last kept goes) are trim among

pub walks_bring_what_was_held : WalksBringWhatWasHeld
walks_bring_what_was_held s m writes batches last es n c is are others h =
    let more = map (λ w. w.cells) writes in
    ⊎_elim
    (λ read. walked_was_held batches None last more (n, c) read)
    (λ written. further_held (map (λ b. b.held) batches) (last ∷ more) n c
    (further_held (last ∷ []) more n c (written_was_held s writes m are (n, c) written)))
    (Contains-append_cases (walked None batches last) (written_cells writes) (n, c)
    (All-contains (Contains (walked None batches last ++ written_cells writes)) es (n, c) others
    (from_none s is es n c h)))

module _ (s : Layout) (is : IsLayout s) where
  -- the end of a walk holds all that was held before
  end_holds : (batches : List Batch) (m last : Cells) → GoesForward s m batches last → Holds s last m
  end_holds [] m last goes = goes
  end_holds (b ∷ batches) m last goes =
      holds_further s is last b.held m (end_holds batches b.held last goes.1) goes.0

  -- and each cell of the walk
  walked_is_held : (batches : List Batch) (after : Option CellName) (m last : Cells) → GoesForward s m batches last
      → (e : NamedCell) → Contains (walked after batches last) e → Holds s last (one e)
  walked_is_held [] after m last goes e has =
      own_held s is last e.0 e.1 (holds_trimmed s is last m goes)
      (All-contains (λ e. get last e.0 ≡ Some e.1) (cells_after after (entries last)) e
      (all_after (λ e. get last e.0 ≡ Some e.1) after (entries last) (entries_there last)) has)
  walked_is_held (b ∷ batches) after m last goes e has =
      let cells = next_of b.limit after (entries b.held) in
      ⊎_elim
      (λ here. holds_further s is last b.held (one e) (end_holds batches b.held last goes.1)
      (own_held s is b.held e.0 e.1 (holds_trimmed s is b.held m goes.0)
      (All-contains (λ e. get b.held e.0 ≡ Some e.1) cells e
      (All-take (λ e. get b.held e.0 ≡ Some e.1) b.limit (cells_after after (entries b.held))
      (all_after (λ e. get b.held e.0 ≡ Some e.1) after (entries b.held) (entries_there b.held))) here)))
      (λ later. walked_is_held batches (last_name after cells) b.held last goes.1 e later)
      (Contains-append_cases cells (walked (last_name after cells) batches last) e has)

pub walks_make_the_last : WalksMakeTheLast
walks_make_the_last s m writes batches last es is kept are goes until among others =
    make_the_last s is m writes (walked None batches last) es kept (walks_bring s is m batches last kept goes) are
    (λ e has. holds_further s is (last_cells m writes) last (one e) until
    (walked_is_held s is batches None m last goes e has))
    among others

-- ---- as it is read

-- the reads after the first, where more follow
with_read : (limit : ℕ) (after : Option CellName) (r : Read) (reads : List Read) (c : Bool)
    → nat_lt (length r.cells) limit ≡ c → r.cells ≡ next_of limit after (entries r.held)
    → MatchBool c (reads ≡ []) (AreReads limit (last_name after r.cells) reads)
    → ((next : Option CellName) → AreReads limit next reads
    → flat_map (λ r. r.cells) reads ≡ walked next (batches_of limit reads) (end_of r.held reads))
    → r.cells ++ flat_map (λ r. r.cells) reads ≡ walked after (batches_of limit (r ∷ reads)) (end_of r.held reads)
with_read limit after r [] true t is last later =
    append-nil r.cells ∙ is
    ∙ all_few limit after (entries r.held) (ap (λ (l : List NamedCell). nat_lt (length l) limit) (sym is) ∙ t)
with_read limit after r (q ∷ reads) true t is last later = absurd cc
with_read limit after r [] false t is more later = absurd more
with_read limit after r (q ∷ reads) false t is more later =
    ap (λ l. r.cells ++ l) (later (last_name after r.cells) more)
    ∙ ap (λ (l : List NamedCell). l ++ walked (last_name after l) (batches_of limit (q ∷ reads)) (end_of r.held
    (q ∷ reads))) is

reads_from : (limit : ℕ) (reads : List Read) (after : Option CellName) (m : Cells) → AreReads limit after reads
    → flat_map (λ r. r.cells) reads ≡ walked after (batches_of limit reads) (end_of m reads)
reads_from limit [] after m are = absurd are
reads_from limit (r ∷ reads) after m are =
    with_read limit after r reads (nat_lt (length r.cells) limit) refl are.0 are.1
    (λ next more. reads_from limit reads next r.held more)

pub reads_are_a_walk : ReadsAreAWalk
reads_are_a_walk limit reads m are = reads_from limit reads None m are
